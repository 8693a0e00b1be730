-- The counter that the tests keep: a number of parts, and a total. Each part holds the total's two bytes: in the first format
-- the low one first, in the second the high one. An action's bytes differ too, so that no format is read as the other.
use Rattle.std.specs.Prelude.{◌<◌, ◌≤◌, ◌+◌, ◌*◌, ◌/◌, ◌%◌, ◌==◌, ◌&&◌, nat_lt, ℕ, List, [], ◌∷◌, length, replicate, if◌then◌else◌, Option, Some, None, IsSome, Result, Ok, Err, refl}
use Rattle.std.specs.Coded.{Coded, code_by, coded×, coded_ℕ}
use Rattle.std.specs.List.{list_all}
use Rattle.std.specs.Str.{bytes_eq}
use Rattle.session_store.specs.Keeping.{Keeping}
use Rattle.session_store.specs.declared.disk_format.DiskFormat.{DiskFormat}
use Rattle.session_store.specs.declared.disk_format.DiskFormat.TheVariants.{One, Two}

-- a counter: in how many parts it is written, and its total
pub record CounterValue : Type 0 where
  pub parts : ℕ
  pub total : ℕ

-- it is stored as the pair of its fields
abbrev pub count_code : Coded CounterValue
count_code = code_by (ℕ × ℕ) (coded× coded_ℕ coded_ℕ) (λ c. (c.parts, c.total)) (λ t. record { parts = t.0; total = t.1 }) (λ _. refl)

-- from 1 to 494 parts, and a total of two bytes
pub record IsCount (c : CounterValue) : Type 0 where
  pub some : 1 ≤ c.parts
  pub few : c.parts ≤ 494
  pub total : c.total < 65536

-- the total of two bytes in a format
abbrev pub total_of : DiskFormat → ℕ → ℕ → ℕ
total_of One low high = 256 * high + low
total_of Two high low = 256 * high + low

-- the two bytes of a total
abbrev pub total_bytes : ℕ → List ℕ
total_bytes n = (n / 256) ∷ (n % 256) ∷ []

-- the total of two bytes, if they are two
abbrev pub total_in : DiskFormat → List ℕ → Option ℕ
total_in format [] = None
total_in format (first ∷ []) = None
total_in format (first ∷ second ∷ []) =
    if nat_lt first 256 && nat_lt second 256 then Some (total_of format first second) else None
total_in format (first ∷ second ∷ more ∷ rest) = None

-- the counter of the parts that follow the first, if all are as it is
abbrev pub count_from : List ℕ → List (List ℕ) → Option ℕ → Option CounterValue
count_from first rest None = None
count_from first rest (Some n) =
    if nat_lt (length rest) 494 && list_all (bytes_eq first) rest then Some (record { parts = length rest + 1; total = n }) else None

-- the counter of these parts, if it is one
abbrev pub count_in : DiskFormat → List (List ℕ) → Option CounterValue
count_in format [] = None
count_in format (first ∷ rest) = count_from first rest (total_in format first)

-- a number from 0 to 255 is added: its bytes are 1, or 7 in the first format, and the number
abbrev pub add_bytes : ℕ → List ℕ
add_bytes n = 1 ∷ n ∷ []

-- the first byte of an action
abbrev pub add_kind : DiskFormat → ℕ
add_kind One = 7
add_kind Two = 1

-- the number that the bytes of an action add, if they are those of one
abbrev pub add_in : DiskFormat → List ℕ → Option ℕ
add_in format [] = None
add_in format (kind ∷ []) = None
add_in format (kind ∷ n ∷ []) = if kind == add_kind format && nat_lt n 256 then Some n else None
add_in format (kind ∷ n ∷ more ∷ rest) = None

-- the counter with the number added; or the total, where it would pass 65,535
abbrev pub add : CounterValue → ℕ → Result CounterValue ℕ
add c n = if nat_lt (c.total + n) 65536 then Ok (record c { total = c.total + n }) else Err c.total

-- what the counter means to a store
abbrev pub counting : Keeping CounterValue ℕ ℕ
counting = record {
  IsState = IsCount;
  IsAction = λ n. n < 256;
  parts = λ c. replicate c.parts (total_bytes c.total);
  state_of = count_in;
  MayBe = λ format parts. IsSome (count_in format parts);
  action_bytes = add_bytes;
  action_of = add_in;
  step = add;
}
