-- Keys drawn from a seed.
use Rattle.std.specs.Prelude.{ℕ, zero, suc, ◌≤◌, ◌+◌, ◌*◌, ◌%◌, nat_lt, Bool, not, ◌&&◌, if◌then◌else◌, List, [], ◌∷◌, ◌++◌, take}
use Rattle.rand_chacha.specs.ChaCha.{key_of, word_at}
use Rattle.bridge_config.specs.Limits.{stands_in}

-- a number of nine digits
abbrev pub HasNineDigits : ℕ → Type 0
HasNineDigits key = (100000000 ≤ key) × (key ≤ 999999999)

-- the number of nine digits that a word gives
abbrev pub nine_digits : ℕ → ℕ
nine_digits word = 100000000 + word % 900000000

-- whether the word gives a key that is not there yet; none gives one from 3,600,000,000 on, so that all come as often
abbrev pub gives_key : List ℕ → ℕ → Bool
gives_key keys word = nat_lt word 3600000000 && not (stands_in keys (nine_digits word))

-- the keys, and that of one word more
abbrev pub with_word : List ℕ → ℕ → List ℕ
with_word keys word = if gives_key keys word then keys ++ (nine_digits word ∷ []) else keys

-- the different keys that the first so many words of the seed's first stream of ChaCha20 give, in order
unfoldable pub drawn : List ℕ → ℕ → List ℕ
drawn seed zero = []
drawn seed (suc words) = with_word (drawn seed words) (word_at 10 (key_of seed) 0 words)

-- the director's key and two for each pair
abbrev pub key_count : ℕ → ℕ
key_count pairs = 2 * pairs + 1

-- the keys of an evening of so many pairs: the director's, and then the players', in order
abbrev pub evening_keys : List ℕ → ℕ → List ℕ
evening_keys seed pairs = take (key_count pairs) (drawn seed 200)
