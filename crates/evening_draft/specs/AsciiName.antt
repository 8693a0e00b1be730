-- A name as people write it, brought to ASCII.
use Rattle.std.specs.Prelude.{ℕ, Bool, ◌==◌, nat_lt, if◌then◌else◌, List, [], ◌∷◌, ◌++◌, length, codes, chars}
use Rattle.std.specs.Char.{is_ascii_alphanumeric}
use Rattle.std.specs.Fmt.{decimal}
use Rattle.unicode_normalization.specs.Decompose.{decompose_compatible}
use Rattle.bridge_config.specs.Limits.{is_name}

-- one byte more, while there is room for 24
abbrev pub with_byte : List ℕ → ℕ → List ℕ
with_byte kept byte = if nat_lt (length kept) 24 then kept ++ (byte ∷ []) else kept

-- the same of each byte in turn
abbrev pub with_bytes : List ℕ → List ℕ → List ℕ
with_bytes kept [] = kept
with_bytes kept (byte ∷ bytes) = with_bytes (with_byte kept byte) bytes

-- ł đ ð ø æ œ þ ß ı ħ ŋ ŧ ə ĸ: small letters that no decomposition brings to ASCII, as they are spelled there
abbrev pub small_spelling : ℕ → List ℕ
small_spelling c =
    if c == 322 then codes "l" else
    if c == 273 then codes "d" else
    if c == 240 then codes "d" else
    if c == 248 then codes "o" else
    if c == 230 then codes "ae" else
    if c == 339 then codes "oe" else
    if c == 254 then codes "th" else
    if c == 223 then codes "ss" else
    if c == 305 then codes "i" else
    if c == 295 then codes "h" else
    if c == 331 then codes "n" else
    if c == 359 then codes "t" else
    if c == 601 then codes "e" else
    if c == 312 then codes "q" else []

-- Ł Đ Ð Ø Æ Œ Þ ẞ Ħ Ŋ Ŧ Ə: the capitals among them
abbrev pub spelling : ℕ → List ℕ
spelling c =
    if c == 321 then codes "L" else
    if c == 272 then codes "D" else
    if c == 208 then codes "D" else
    if c == 216 then codes "O" else
    if c == 198 then codes "AE" else
    if c == 338 then codes "OE" else
    if c == 222 then codes "Th" else
    if c == 7838 then codes "SS" else
    if c == 294 then codes "H" else
    if c == 330 then codes "N" else
    if c == 358 then codes "T" else
    if c == 399 then codes "E" else small_spelling c

-- a letter or digit of ASCII as it is, and another letter by its spelling; marks and what has none are left out
abbrev pub letters_of : ℕ → List ℕ
letters_of c = if is_ascii_alphanumeric c then c ∷ [] else spelling c

-- the letters and digits of ASCII that are kept of the characters
abbrev pub with_letters : List ℕ → List ℕ → List ℕ
with_letters kept [] = kept
with_letters kept (c ∷ characters) = with_letters (with_bytes kept (letters_of c)) characters

-- a dot for a blank behind a letter; of any other character what is kept of those into which it is decomposed
abbrev pub with_character : List ℕ → ℕ → List ℕ
with_character kept c =
    if c == 32 then (if length kept == 0 then kept else with_byte kept 46) else with_letters kept (decompose_compatible c)

-- the same of each character in turn
abbrev pub with_characters : List ℕ → List ℕ → List ℕ
with_characters kept [] = kept
with_characters kept (c ∷ characters) = with_characters (with_character kept c) characters

-- what is kept of the name; where nothing is, a word in its place
abbrev pub kept_or : List ℕ → List ℕ → List ℕ
kept_or word name = if is_name (with_characters [] (chars name)) then with_characters [] (chars name) else word

abbrev pub ascii_name : List ℕ → List ℕ
ascii_name name = kept_or (codes "Player") name

-- the letter of a player
abbrev pub player_letter : Bool → List ℕ
player_letter first = if first then codes "a" else codes "b"

-- the word for the first or the second player of the pair of that number, as `Player7a` or `Player7b`
abbrev pub player_word : ℕ → Bool → List ℕ
player_word pair first = (codes "Player" ++ decimal pair) ++ player_letter first

-- the name of that player in ASCII; where nothing is kept of it, that word
abbrev pub player_name : ℕ → Bool → List ℕ → List ℕ
player_name pair first name = kept_or (player_word pair first) name
