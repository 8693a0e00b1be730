-- The lines of a list of names, one after another.
use Rattle.std.proofs.Common.{◌≡◌, ℕ, suc, ◌+◌, ◌-◌, ◌<◌, List, [], ◌∷◌, Result, Ok, Err, inl, inr, refl, sym, subst, ap, arith}
use Rattle.std.specs.Prelude.{IsErrAnd}
use Rattle.arrayvec.specs.ArrayVec.{ArrayVec}
use Rattle.evening_draft.specs.NamesView.{names_seen}
use Rattle.evening_draft.specs.declared.names_refused.NamesFault.{NamesFault}
use Rattle.evening_draft.specs.declared.names_refused.NamesRefused.TheVariants.{TooManyLines}
use Rattle.evening_draft.specs.declared.wishes.PairNames.{PairNames}
use Rattle.evening_draft.specs.Names.{TakesLine, ReadsEnd, ReadsLines, ReadsNames, fault_at}

one_more : (n : ℕ) → n < 1001 → 1001 - n ≡ suc (1001 - (n + 1))
one_more n below = omega arith

pub line_taken : (n : ℕ) (found after : List PairNames) (line : List ℕ) (texts all : List (List ℕ)) (result : Result (List PairNames) NamesFault) →
    n < 1001 → all ≡ line ∷ texts → TakesLine n line found after (Ok tt) →
    ReadsLines (1001 - (n + 1)) (n + 1) after texts result → ReadsLines (1001 - n) n found all result
unfolding ReadsLines
line_taken n found after line texts all result below whole taken rest =
    let P : ℕ → Type 0 = λ more. ReadsLines more n found (line ∷ texts) result in
    let Q : List (List ℕ) → Type 0 = λ ls. ReadsLines (1001 - n) n found ls result in
    let here : P (suc (1001 - (n + 1))) = inr (after, taken, rest) in
    subst Q (sym whole) (subst P (sym (one_more n below)) here)

pub line_failed : (n : ℕ) (found after : List PairNames) (line : List ℕ) (texts all : List (List ℕ)) (fault : NamesFault) →
    n < 1001 → all ≡ line ∷ texts → TakesLine n line found after (Err fault) →
    ReadsLines (1001 - n) n found all (Err fault)
unfolding ReadsLines
line_failed n found after line texts all fault below whole failed =
    let P : ℕ → Type 0 = λ more. ReadsLines more n found (line ∷ texts) (Err fault) in
    let Q : List (List ℕ) → Type 0 = λ ls. ReadsLines (1001 - n) n found ls (Err fault) in
    let here : P (suc (1001 - (n + 1))) = inl (fault, after, failed, refl) in
    subst Q (sym whole) (subst P (sym (one_more n below)) here)

pub ended_at : (n : ℕ) (found : List PairNames) (all : List (List ℕ)) (result : Result (List PairNames) NamesFault) →
    n < 1001 → all ≡ [] → ReadsEnd n found result → ReadsLines (1001 - n) n found all result
unfolding ReadsLines
ended_at n found all result below none ends =
    let P : ℕ → Type 0 = λ more. ReadsLines more n found [] result in
    let Q : List (List ℕ) → Type 0 = λ ls. ReadsLines (1001 - n) n found ls result in
    subst Q (sym none) (subst P (sym (one_more n below)) ends)

pub too_many : (n : ℕ) (found : List PairNames) (all : List (List ℕ)) → n ≡ 1001 →
    ReadsLines (1001 - n) n found all (Err (fault_at 1000 TooManyLines))
unfolding ReadsLines
too_many n found all last =
    let P : ℕ → Type 0 = λ k. ReadsLines (1001 - k) k found all (Err (fault_at 1000 TooManyLines)) in
    subst P (sym last) refl

pub begun : (found : List PairNames) (all : List (List ℕ)) → found ≡ [] → (result : Result (List PairNames) NamesFault) →
    ReadsLines (1001 - 1) 1 found all result → ReadsNames all result
unfolding ReadsNames
begun found all none result reads = subst (λ (f : List PairNames). ReadsLines 1000 1 f all result) none reads

-- a fault is seen as it is
pub seen_fault : (result : Result (ArrayVec PairNames) NamesFault) (fault : NamesFault) → IsErrAnd result (λ e. e ≡ fault) →
    Err fault ≡ names_seen result
seen_fault (Ok pairs) fault is = absurd is
seen_fault (Err e) fault is = ap Err (sym is)
