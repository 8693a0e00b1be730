-- The counter of the tests keeps the laws of a state.
use Rattle.std.proofs.Common.{◌≡◌, ◌<◌, ◌≤◌, ◌+◌, ◌*◌, ◌/◌, ◌%◌, ◌&&◌, nat_lt, ℕ, zero, suc, Bool, true, inl, inr, List, [], ◌∷◌, length, replicate, Option, Some, None, Ok, Err, refl, sym, ap, subst, ◌∙◌, arith}
use Rattle.std.proofs.lemmas.Slice.Eq.{bytes_eq-Decides}
use Rattle.std.proofs.lemmas.Bool.{cond-true, cond-false, cases_Bool, and_parts, lt-ltb, ltb-true}
use Rattle.std.proofs.lemmas.List.{length-replicate}
use Rattle.std.proofs.lemmas.List.Elements.{All-replicate}
use Rattle.std.specs.List.{list_all}
use Rattle.std.specs.Str.{bytes_eq}
use Rattle.session_store.specs.Keeping.{IsLawful}
use Rattle.session_store.specs.declared.disk_format.DiskFormat.{DiskFormat}
use Rattle.session_store.specs.declared.disk_format.DiskFormat.TheVariants.{One, Two}
use Rattle.store_tests.specs.Counter.{CounterValue, IsCount, total_bytes, total_of, total_in, count_from, count_in, add_bytes, add_in, add, counting}

-- an action
read_back : (n : ℕ) → n < 256 → add_in Two (add_bytes n) ≡ Some n
read_back n small = grind arith

is_action : (format : DiskFormat) (bytes : List ℕ) (n : ℕ) → add_in format bytes ≡ Some n → n < 256
is_action format [] n is = grind arith
is_action format (k ∷ []) n is = grind arith
is_action format (k ∷ m ∷ []) n is = grind arith
is_action format (k ∷ m ∷ o ∷ rest) n is = grind arith

-- a total
total_read : (n : ℕ) → n < 65536 → total_in Two (total_bytes n) ≡ Some n
total_read n small =
    let high : nat_lt (n / 256) 256 ≡ true = lt-ltb (n / 256) 256 (omega (arith, small)) in
    let low : nat_lt (n % 256) 256 ≡ true = lt-ltb (n % 256) 256 (omega arith) in
    let whole : 256 * (n / 256) + n % 256 ≡ n = omega arith in
    rw (high, low, whole) refl

total_is : (bytes : List ℕ) (n : ℕ) → total_in Two bytes ≡ Some n → (bytes ≡ total_bytes n) × (n < 65536)
total_is [] n is = let e : None ≡ Some n = is in cc
total_is (h ∷ []) n is = let e : None ≡ Some n = is in cc
total_is (h ∷ l ∷ m ∷ rest) n is = let e : None ≡ Some n = is in cc
total_is (h ∷ l ∷ []) n is =
    elim (cases_Bool (nat_lt h 256 && nat_lt l 256)) [
      | inl small ↦
          let both = and_parts _ _ small in
          let high : h < 256 = ltb-true h 256 both.0 in
          let low : l < 256 = ltb-true l 256 both.1 in
          let stated : Some (256 * h + l) ≡ Some n = sym (cond-true (nat_lt h 256 && nat_lt l 256) (Some (256 * h + l)) None small) ∙ is in
          let same : 256 * h + l ≡ n = cc in
          let is_high : h ≡ n / 256 = omega (arith, high, low, same) in
          let is_low : l ≡ n % 256 = omega (arith, high, low, same) in
          (rw (← is_high, ← is_low) refl, omega (arith, high, low, same))
      | inr large ↦
          let stated : None ≡ Some n = sym (cond-false (nat_lt h 256 && nat_lt l 256) (Some (256 * h + l)) None large) ∙ is in cc
    ]

-- a total of either format fits
total_fits : (format : DiskFormat) (a b : ℕ) → a < 256 → b < 256 → total_of format a b < 65536
total_fits One a b first second = omega (arith, first, second)
total_fits Two a b first second = omega (arith, first, second)

total_small : (format : DiskFormat) (bytes : List ℕ) (n : ℕ) → total_in format bytes ≡ Some n → n < 65536
total_small format [] n is = let e : None ≡ Some n = is in cc
total_small format (a ∷ []) n is = let e : None ≡ Some n = is in cc
total_small format (a ∷ b ∷ m ∷ rest) n is = let e : None ≡ Some n = is in cc
total_small format (a ∷ b ∷ []) n is =
    elim (cases_Bool (nat_lt a 256 && nat_lt b 256)) [
      | inl small ↦
          let both = and_parts _ _ small in
          let stated : Some (total_of format a b) ≡ Some n
          = sym (cond-true (nat_lt a 256 && nat_lt b 256) (Some (total_of format a b)) None small) ∙ is in
          let same : total_of format a b ≡ n = cc in
          subst (λ (k : ℕ). k < 65536) same (total_fits format a b (ltb-true a 256 both.0) (ltb-true b 256 both.1))
      | inr large ↦
          let stated : None ≡ Some n = sym (cond-false (nat_lt a 256 && nat_lt b 256) (Some (total_of format a b)) None large) ∙ is in cc
    ]

-- parts that are all the same
all_same : (first : List ℕ) (n : ℕ) → list_all (bytes_eq first) (replicate n first) ≡ true
all_same first zero = refl
all_same first (suc n) = rw ((bytes_eq-Decides first first).1 refl, all_same first n) refl

same_all : (first : List ℕ) (rest : List (List ℕ)) → list_all (bytes_eq first) rest ≡ true → replicate (length rest) first ≡ rest
same_all first [] all = refl
same_all first (part ∷ rest) all =
    let both = and_parts (bytes_eq first part) (list_all (bytes_eq first) rest) all in
    let here : first ≡ part = (bytes_eq-Decides first part).0 both.0 in
    let behind = same_all first rest both.1 in
    let long : length (part ∷ rest) ≡ suc (length rest) = refl in
    ap (λ (xs : List (List ℕ)). first ∷ xs) behind ∙ ap (λ (x : List ℕ). x ∷ rest) here

restored_from : (n total : ℕ) → n < 494 → total < 65536
    → count_in Two (replicate (suc n) (total_bytes total)) ≡ Some (record { parts = n + 1; total = total })
restored_from n total few small =
    let first : List ℕ = total_bytes total in
    let long : length (replicate n first) ≡ n = length-replicate n first in
    let test : nat_lt (length (replicate n first)) 494 ≡ true = rw long (lt-ltb n 494 few) in
    ap (count_from first (replicate n first)) (total_read total small) ∙ rw (test, all_same first n, long) refl

restored : (c : CounterValue) → IsCount c → count_in Two (replicate c.parts (total_bytes c.total)) ≡ Some c
restored c is = from c.parts refl
  where
    from : (n : ℕ) → n ≡ c.parts → count_in Two (replicate c.parts (total_bytes c.total)) ≡ Some c
    from zero same = absurd (omega (arith, same, is.some))
    from (suc n) same =
        let few : n < 494 = omega (arith, same, is.few) in
        let whole : (record { parts = n + 1; total = c.total }) ≡ c
        = let parts : n + 1 ≡ c.parts = omega (arith, same) in λ i. record { parts = parts i; total = c.total } in
        ap (λ (m : ℕ). count_in Two (replicate m (total_bytes c.total))) (sym same) ∙ restored_from n c.total few is.total
        ∙ ap (λ (d : CounterValue). Some d) whole

-- the counter of parts has its total in the first of them, and all are as that one
found_from : (format : DiskFormat) (first : List ℕ) (rest : List (List ℕ)) (c : CounterValue) → count_in format (first ∷ rest) ≡ Some c
    → IsCount c × ((total_in format first ≡ Some c.total) × (replicate c.parts first ≡ first ∷ rest))
found_from format first rest c found = of_total (total_in format first) refl
  where
    of_total : (o : Option ℕ) → o ≡ total_in format first
        → IsCount c × ((total_in format first ≡ Some c.total) × (replicate c.parts first ≡ first ∷ rest))
    of_total None is = let none : None ≡ Some c = ap (count_from first rest) is ∙ found in cc
    of_total (Some n) is =
        let test : Bool = nat_lt (length rest) 494 && list_all (bytes_eq first) rest in
        let made : CounterValue = record { parts = length rest + 1; total = n } in
        let known : count_from first rest (Some n) ≡ Some c = ap (count_from first rest) is ∙ found in
        elim (cases_Bool test) [
          | inl good ↦
              let both = and_parts (nat_lt (length rest) 494) (list_all (bytes_eq first) rest) good in
              let few : length rest < 494 = ltb-true (length rest) 494 both.0 in
              let stated : Some made ≡ Some c = sym (cond-true test (Some made) None good) ∙ known in
              let same : made ≡ c = cc in
              let more : length rest + 1 ≡ suc (length rest) = omega arith in
              let parts : replicate (length rest + 1) first ≡ first ∷ rest
              = ap (λ (m : ℕ). replicate m first) more ∙ ap (λ (xs : List (List ℕ)). first ∷ xs) (same_all first rest both.1) in
              subst (λ (d : CounterValue). IsCount d × ((total_in format first ≡ Some d.total) × (replicate d.parts first ≡ first ∷ rest))) same
              (record { some = omega arith; few = omega (arith, few); total = total_small format first n (sym is) }, (sym is, parts))
          | inr bad ↦ let none : None ≡ Some c = sym (cond-false test (Some made) None bad) ∙ known in cc
        ]

is_state : (format : DiskFormat) (parts : List (List ℕ)) (c : CounterValue) → count_in format parts ≡ Some c → IsCount c
is_state format [] c found = let none : None ≡ Some c = found in cc
is_state format (first ∷ rest) c found = (found_from format first rest c found).0

has_parts : (parts : List (List ℕ)) (c : CounterValue) → count_in Two parts ≡ Some c → replicate c.parts (total_bytes c.total) ≡ parts
has_parts [] c found = let none : None ≡ Some c = found in cc
has_parts (first ∷ rest) c found =
    let from = found_from Two first rest c found in
    ap (λ (x : List ℕ). replicate c.parts x) (sym (total_is first c.total from.1.0).0) ∙ from.1.1

-- a number that is added leads to a counter
add_is : (c : CounterValue) (n : ℕ) (d : CounterValue) → IsCount c → add c n ≡ Ok d → IsCount d
add_is c n d is added =
    let test : Bool = nat_lt (c.total + n) 65536 in
    let made : CounterValue = record c { total = c.total + n } in
    elim (cases_Bool test) [
      | inl small ↦
          let stated : Ok made ≡ Ok d = sym (cond-true test (Ok made) (Err c.total) small) ∙ added in
          let same : made ≡ d = cc in
          subst IsCount same (record { some = is.some; few = is.few; total = ltb-true (c.total + n) 65536 small })
      | inr large ↦
          let stated : Err c.total ≡ Ok d = sym (cond-false test (Ok made) (Err c.total) large) ∙ added in cc
    ]

-- all of them
pub count_lawful : IsLawful counting
count_lawful = record {
  read_back = read_back;
  is_action = is_action;
  action_fits = λ n small. omega arith;
  restored = restored;
  is_state = is_state;
  has_parts = has_parts;
  some_part = λ c is. rw (length-replicate c.parts (total_bytes c.total)) is.some;
  few_parts = λ c is. rw (length-replicate c.parts (total_bytes c.total)) is.few;
  parts_fit = λ c is. All-replicate (λ part. length part ≤ 480) c.parts (total_bytes c.total) (omega arith);
  steps_to_state = λ c n d is small added. add_is c n d is added;
}
