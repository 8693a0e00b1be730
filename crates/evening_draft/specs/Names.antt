-- A list of names, a line a pair.
use Rattle.std.specs.Prelude.{ℕ, zero, suc, ◌≡◌, ◌≢◌, ◌<◌, ◌≤◌, ◌⊎◌, ◌+◌, ◌==◌, nat_le, Bool, true, false, not, ◌&&◌, ◌||◌, List, [], ◌∷◌, ◌++◌, length, chars, slice_index, Result, Ok, Err, IsUtf8, All}
use Rattle.std.specs.List.{list_all}
use Rattle.std.specs.Str.{IsTrimAscii}
use Rattle.arrayvec.specs.declared.array_string.ArrayString.{ArrayString}
use Rattle.evening_draft.specs.declared.names_refused.NamesFault.{NamesFault}
use Rattle.evening_draft.specs.declared.names_refused.NamesRefused.{NamesRefused}
use Rattle.evening_draft.specs.declared.names_refused.NamesRefused.TheVariants.{OneName, NoName, NotText, Character, LongName, TooManyPairs, TooFewPairs, TooManyLines}
use Rattle.evening_draft.specs.declared.wishes.PairNames.{PairNames}

-- a character that may stand in a name: no control character, no `&`, and none that turns the direction of text
abbrev pub is_plain : ℕ → Bool
is_plain c =
    nat_le 32 c && not (nat_le 127 c && nat_le c 159) && not (c == 38) && not (nat_le 8234 c && nat_le c 8238)
    && not (nat_le 8294 c && nat_le c 8297)

-- a name of 1 to 40 such characters
pub record IsPerson (name : List ℕ) : Type 0 where
  pub some : name ≢ []
  pub text : IsUtf8 name
  pub plain : list_all is_plain (chars name) ≡ true
  pub short : length (chars name) ≤ 40
  pub bytes : length name ≤ 160

-- why a name is refused: the first of these
abbrev pub IsNameRefused : List ℕ → NamesRefused → Type 0
IsNameRefused name NoName = name ≡ []
IsNameRefused name NotText = (name ≢ []) × (¬ IsUtf8 name)
IsNameRefused name Character = (name ≢ []) × IsUtf8 name × (list_all is_plain (chars name) ≡ false)
IsNameRefused name LongName =
    (name ≢ []) × IsUtf8 name × (list_all is_plain (chars name) ≡ true)
    × ((40 < length (chars name)) ⊎ (160 < length name))
IsNameRefused name _ = ⊥

-- what reading a name gives
abbrev pub JudgesName : List ℕ → Result (ArrayString 160) NamesRefused → Type 0
JudgesName name (Ok person) = IsPerson name × (person.bytes ≡ name)
JudgesName name (Err cause) = IsNameRefused name cause

-- of one side of a line, without the white space at its ends
abbrev pub ReadsName : List ℕ → Result (ArrayString 160) NamesRefused → Type 0
ReadsName side result = (name : List ℕ) × IsTrimAscii side name × JudgesName name result

-- `&` or a tab
abbrev pub is_separator : ℕ → Bool
is_separator byte = byte == 38 || byte == 9

-- the sides of a line before and after its first separator
pub record IsSplit (line first second : List ℕ) : Type 0 where
  pub separator : ℕ
  pub is : is_separator separator ≡ true
  pub whole : line ≡ first ++ (separator ∷ second)
  pub none : All (λ byte. is_separator byte ≡ false) first

-- what reading two sides gives: the first side's fault comes first
abbrev pub ReadsSides : List ℕ → List ℕ → Result PairNames NamesRefused → Type 0
ReadsSides first second (Ok pair) = ReadsName first (Ok pair.first) × ReadsName second (Ok pair.second)
ReadsSides first second (Err cause) =
    ReadsName first (Err cause)
    ⊎ ((person : ArrayString 160) × ReadsName first (Ok person) × ReadsName second (Err cause))

-- what reading a line that has a pair gives
abbrev pub ReadsPair : List ℕ → Result PairNames NamesRefused → Type 0
ReadsPair line result =
    (All (λ byte. is_separator byte ≡ false) line × (result ≡ Err OneName))
    ⊎ ((first : List ℕ) × (second : List ℕ) × IsSplit line first second × ReadsSides first second result)

-- an empty line, or one that begins with `#`
abbrev pub IsLeftOut : List ℕ → Type 0
IsLeftOut line = (bare : List ℕ) × IsTrimAscii line bare × ((bare ≡ []) ⊎ (slice_index bare 0 ≡ 35))

-- any other line
abbrev pub HasPair : List ℕ → Type 0
HasPair line = (bare : List ℕ) × IsTrimAscii line bare × (bare ≢ []) × (slice_index bare 0 ≢ 35)

-- the fault of a line
abbrev pub fault_at : ℕ → NamesRefused → NamesFault
fault_at number cause = record { line = number; cause = cause }

-- what the end of the list gives
abbrev pub ReadsEnd : ℕ → List PairNames → Result (List PairNames) NamesFault → Type 0
ReadsEnd number found result =
    ((3 ≤ length found) × (result ≡ Ok found)) ⊎ ((length found < 3) × (result ≡ Err (fault_at number TooFewPairs)))

-- what one line adds to the pairs that were found, or its fault: its own first, and then that there are 24 pairs already
abbrev pub TakesLine : ℕ → List ℕ → List PairNames → List PairNames → Result (Unit {0}) NamesFault → Type 0
TakesLine number line found after (Ok _) =
    (IsLeftOut line × (after ≡ found))
    ⊎ (HasPair line × (length found < 24)
    × ((pair : PairNames) × ReadsPair line (Ok pair) × (after ≡ found ++ (pair ∷ []))))
TakesLine number line found after (Err fault) =
    HasPair line
    × (((cause : NamesRefused) × ReadsPair line (Err cause) × (fault ≡ fault_at number cause))
    ⊎ ((length found ≡ 24) × ((pair : PairNames) × ReadsPair line (Ok pair)) × (fault ≡ fault_at number TooManyPairs)))

-- what the lines give of which the first has that number, where so many more may come, after the pairs that were found
unfoldable pub ReadsLines : ℕ → ℕ → List PairNames → List (List ℕ) → Result (List PairNames) NamesFault → Type 0
ReadsLines zero number found texts result = result ≡ Err (fault_at 1000 TooManyLines)
ReadsLines (suc more) number found [] result = ReadsEnd number found result
ReadsLines (suc more) number found (line ∷ texts) result =
    ((fault : NamesFault) × (after : List PairNames) × TakesLine number line found after (Err fault) × (result ≡ Err fault))
    ⊎ ((after : List PairNames) × TakesLine number line found after (Ok tt) × ReadsLines more (number + 1) after texts result)

-- a list of names has fewer than 1,000 lines: the thousandth is too many
unfoldable pub ReadsNames : List (List ℕ) → Result (List PairNames) NamesFault → Type 0
ReadsNames texts result = ReadsLines 1000 1 [] texts result
