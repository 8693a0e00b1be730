-- The entries of a cache: what is found of an ending is true of it, and stays so when one more is kept.
use Rattle.std.proofs.Common.{◌≡◌, ◌≤◌, ◌-◌, ℕ, zero, suc, Bool, true, false, ◌⊎◌, inl, inr, nat_eq, List, [], ◌∷◌, ◌++◌, length, Option, Some, None, IfSome, IsSome, Contains, take, Result, Ok, Err, IsOk, OnOk, OnErr, refl, sym, ap, ◌∙◌, subst, arith}
use Rattle.std.specs.Map.{lookup, lookup_entry, remove_entry}
use Rattle.std.specs.Option.{option_map_or}
use Rattle.std.specs.Cmp.Lexicographic.{pointwise, same_text}
use Rattle.std.proofs.lemmas.Cmp.{nat_list_eq_equiv}
use Rattle.std.proofs.lemmas.List.{length-take}
use Rattle.lru.specs.LruCache.{LruCache, lru_cache, put_entries}
use Rattle.lru.proofs.CallerLemmas.{Contains-lookup, Contains-put_entries, lookup-put_entries}
use Rattle.bridge_cards.specs.declared.suit.Suit.{Suit}
use Rattle.bridge_cards.specs.declared.suit.Suit.TheVariants.{Clubs, Diamonds, Hearts, Spades}
use Rattle.bridge_cards.specs.Suit.{suit_at}
use Rattle.bridge_cards.specs.Seat.{seat_number, seat_at}
use Rattle.bridge_endings.specs.declared.bounds.Bounds.{Bounds}
use Rattle.bridge_endings.specs.EndingValue.{EndingValue}
use Rattle.bridge_endings.specs.Ending.{IsEnding}
use Rattle.bridge_endings.specs.Worth.{worth_of}
use Rattle.bridge_endings.specs.CacheValue.{trump_number, key_of, EachIsTrue, AreKept}
use Rattle.bridge_endings.specs.Between.{IsBounded}
use Rattle.bridge_endings.proofs.Seats.{seat_at-number}

-- ---- a key stands for one ending

-- trump suits by their numbers
trump_at : ℕ → Option Suit
trump_at zero = None
trump_at (suc index) = Some (suit_at index)

trump_at-number : (trump : Option Suit) → trump_at (trump_number trump) ≡ trump
unfolding trump_at
trump_at-number None = refl
trump_at-number (Some Clubs) = refl
trump_at-number (Some Diamonds) = refl
trump_at-number (Some Hearts) = refl
trump_at-number (Some Spades) = refl

-- two lists as long as each other, with two numbers behind each
same_parts : (xs ys : List ℕ) (a b c d : ℕ) → length xs ≡ length ys → xs ++ a ∷ b ∷ [] ≡ ys ++ c ∷ d ∷ [] → (xs ≡ ys) × (a ≡ c) × (b ≡ d)
same_parts [] [] a b c d long same = (refl, cc, cc)
same_parts [] (y ∷ ys) a b c d long same = absurd (omega arith)
same_parts (x ∷ xs) [] a b c d long same = absurd (omega arith)
same_parts (x ∷ xs) (y ∷ ys) a b c d long same =
    let first : x ≡ y = cc in
    let rest : xs ++ a ∷ b ∷ [] ≡ ys ++ c ∷ d ∷ [] = cc in
    let parts = same_parts xs ys a b c d (omega arith) rest in
    (ap (λ z. z ∷ xs) first ∙ ap (λ zs. y ∷ zs) parts.0, parts.1, parts.2)

pub same_worth : (one other : EndingValue) → IsEnding one.hands → IsEnding other.hands → key_of one ≡ key_of other → worth_of one ≡ worth_of other
same_worth one other is is_other same =
    let parts = same_parts one.hands other.hands (trump_number one.trump) (seat_number one.leader) (trump_number other.trump) (seat_number other.leader) (is.four ∙ sym is_other.four) same in
    let trump : one.trump ≡ other.trump = sym (trump_at-number one.trump) ∙ ap trump_at parts.1 ∙ trump_at-number other.trump in
    let leader : one.leader ≡ other.leader = sym (seat_at-number one.leader) ∙ ap seat_at parts.2 ∙ seat_at-number other.leader in
    ap (λ h. worth_of (record { hands = h; trump = one.trump; leader = one.leader })) parts.0
    ∙ ap (λ t. worth_of (record { hands = other.hands; trump = t; leader = one.leader })) trump
    ∙ ap (λ l. worth_of (record { hands = other.hands; trump = other.trump; leader = l })) leader

-- ---- what is found

pub found_true : (entries : List (List ℕ × Bounds)) (ending : EndingValue) (found : Option Bounds) → EachIsTrue entries → IsEnding ending.hands → lookup (pointwise nat_eq (key_of ending)) entries ≡ found → IfSome found (IsBounded (worth_of ending))
found_true entries ending None each is look = tt
found_true entries ending (Some bounds) each is look =
    let at = Contains-lookup (pointwise nat_eq (key_of ending)) entries bounds look in
    each at.0 bounds at.1 ending is (same_text (key_of ending) at.0 (sym at.2))

-- ---- what is kept

either : {A E : Type 0} (X Y P : Type 0) (answer : Result A E) → OnOk answer X → OnErr answer Y → (X → P) → (Y → P) → P
either X Y P (Ok a) ok err f g = f ok
either X Y P (Err e) ok err f g = g err

on_ok : {A E : Type 0} (P : Type 0) (answer : Result A E) → IsOk answer → OnOk answer P → P
on_ok P (Ok a) is ok = ok
on_ok P (Err e) is ok = let never : false ≡ true = is in cc

-- an entry that is found and taken away leaves one less
removed : (test : List ℕ → Bool) (entries : List (List ℕ × Bounds)) (found : List ℕ × Bounds)
    → lookup_entry test entries ≡ Some found → suc (length (remove_entry test entries)) ≡ length entries
removed test [] found is = let never : None ≡ Some found = is in cc
removed test (first ∷ entries) found is = (elim (test first.0) as (λ here. test first.0 ≡ here
    → suc (length (remove_entry test (first ∷ entries))) ≡ length (first ∷ entries)) [
      | true ↦ λ here. rw here refl
      | false ↦ λ here. rw here (ap (λ n. suc n) (removed test entries found (rw here at is)))
    ]) refl

-- one more makes no more than there may be
few_with : (cache : LruCache (List ℕ) Bounds) (key : List ℕ) (bounds : Bounds) → 1 ≤ cache.cap → length cache.entries ≤ cache.cap
    → length (put_entries (pointwise nat_eq) cache key bounds) ≤ cache.cap
few_with cache key bounds some few = of_found (lookup_entry (pointwise nat_eq key) cache.entries) refl
  where
    of_found : (found : Option (List ℕ × Bounds)) → lookup_entry (pointwise nat_eq key) cache.entries ≡ found
        → length (option_map_or (λ e. (e.0, bounds) ∷ remove_entry (pointwise nat_eq key) cache.entries) found ((key, bounds) ∷ take (cache.cap - 1) cache.entries)) ≤ cache.cap
    of_found None is = omega (arith, some, length-take (cache.cap - 1) cache.entries)
    of_found (Some e) is = omega (arith, few, removed (pointwise nat_eq key) cache.entries e is)

module _ (old new : LruCache (List ℕ) Bounds) (key : List ℕ) (bounds : Bounds) (ending : EndingValue) (key_is : key ≡ key_of ending) where
  abbrev Puts : Type 0
  Puts = new ≡ lru_cache (put_entries (pointwise nat_eq) old key bounds) old.cap

  put_true : Puts → EachIsTrue old.entries → IsEnding ending.hands → IsBounded (worth_of ending) bounds → EachIsTrue new.entries
  put_true puts each is between k b on other is_other other_key =
      elim (Contains-put_entries (pointwise nat_eq) old key bounds (k, b) (subst (λ es. Contains es (k, b)) (ap (λ c. c.entries) puts) on)) [
        | inl before ↦ each k b before other is_other other_key
        | inr put ↦
            let stands : key ≡ k = (elim put.1 [
              | inl same ↦ sym same
              | inr there ↦ same_text key k (sym there.2)
            ]) in
            let worths : worth_of other ≡ worth_of ending = same_worth other ending is_other is (other_key ∙ sym stands ∙ key_is) in
            subst (λ w. IsBounded w b) (sym worths) (subst (IsBounded (worth_of ending)) (sym put.0) between)
      ]

  pub kept_true : {A E : Type 0} (answer : Result A E) → OnOk answer Puts → OnErr answer (new ≡ old) → EachIsTrue old.entries → IsEnding ending.hands → IsBounded (worth_of ending) bounds → EachIsTrue new.entries
  kept_true answer ok err each is between =
      either Puts (new ≡ old) (EachIsTrue new.entries) answer ok err
      (λ puts. put_true puts each is between)
      (λ same. subst (λ c. EachIsTrue c.entries) (sym same) each)

  pub kept_or_same : {A E : Type 0} (answer : Result A E) → OnOk answer Puts → OnErr answer (new ≡ old) → (lookup (pointwise nat_eq (key_of ending)) new.entries ≡ Some bounds) ⊎ (new.entries ≡ old.entries)
  kept_or_same answer ok err =
      either Puts (new ≡ old) ((lookup (pointwise nat_eq (key_of ending)) new.entries ≡ Some bounds) ⊎ (new.entries ≡ old.entries)) answer ok err
      (λ puts. inl (ap (λ k. lookup (pointwise nat_eq k) new.entries) (sym key_is) ∙ ap (λ c. lookup (pointwise nat_eq key) c.entries) puts ∙ lookup-put_entries (pointwise nat_eq) old key bounds nat_list_eq_equiv))
      (λ same. inr (ap (λ c. c.entries) same))

  pub with_or_same : {A E : Type 0} (answer : Result A E) → OnOk answer Puts → OnErr answer (new ≡ old)
      → (new.entries ≡ put_entries (pointwise nat_eq) old (key_of ending) bounds) ⊎ (new.entries ≡ old.entries)
  with_or_same answer ok err =
      either Puts (new ≡ old) ((new.entries ≡ put_entries (pointwise nat_eq) old (key_of ending) bounds) ⊎ (new.entries ≡ old.entries)) answer ok err
      (λ puts. inl (ap (λ c. c.entries) puts ∙ ap (λ k. put_entries (pointwise nat_eq) old k bounds) key_is))
      (λ same. inr (ap (λ c. c.entries) same))

  -- of an ending that was kept memory is not refused
  pub with_again : {A E : Type 0} (answer : Result A E) → OnOk answer Puts
      → (IsSome (lookup (pointwise nat_eq key) old.entries) → IsOk answer)
      → IsSome (lookup (pointwise nat_eq (key_of ending)) old.entries)
      → new.entries ≡ put_entries (pointwise nat_eq) old (key_of ending) bounds
  with_again answer ok succeeds known =
      let puts = on_ok Puts answer (succeeds (subst (λ k. IsSome (lookup (pointwise nat_eq k) old.entries)) (sym key_is) known)) ok in
      ap (λ c. c.entries) puts ∙ ap (λ k. put_entries (pointwise nat_eq) old k bounds) key_is

  pub same_capacity : {A E : Type 0} (answer : Result A E) → OnOk answer Puts → OnErr answer (new ≡ old) → new.cap ≡ old.cap
  same_capacity answer ok err =
      either Puts (new ≡ old) (new.cap ≡ old.cap) answer ok err (λ puts. ap (λ c. c.cap) puts) (λ same. ap (λ c. c.cap) same)

  -- what holds of every cache holds of this one
  pub still_kept : {A E : Type 0} (answer : Result A E) → OnOk answer Puts → OnErr answer (new ≡ old) → AreKept old.entries old.cap
      → IsEnding ending.hands → IsBounded (worth_of ending) bounds → AreKept new.entries new.cap
  still_kept answer ok err before is between = record {
    each_true = kept_true answer ok err before.each_true is between;
    some = omega (arith, before.some, same_capacity answer ok err);
    few = either Puts (new ≡ old) (length new.entries ≤ new.cap) answer ok err
        (λ puts. subst (λ c. length c.entries ≤ c.cap) (sym puts) (few_with old key bounds before.some before.few))
        (λ same. subst (λ c. length c.entries ≤ c.cap) (sym same) before.few);
  }
