-- Lists of which each element may follow those before it, taken apart and made longer.
use Rattle.std.specs.Prelude.{◌≡◌, ℕ, List, [], ◌∷◌, ◌++◌, length, take, slice_get, Some}
use Rattle.std.proofs.Common.{zero, suc, ◌<◌, ◌∙◌, inl, inr, refl, sym, ap, subst, arith, length-append, get_or, drop}
use Rattle.std.proofs.Math.Seq.{take-append_seam, take-suc}
use Rattle.std.proofs.lemmas.List.{take-append-le, take-append-drop}
use Rattle.std.proofs.lemmas.Option.{slice_get_within}
use Rattle.std.proofs.lemmas.Bool.{cases_lt}
use Rattle.bridge_cards.specs.EachMayFollow.{EachMayFollow}

-- an index in the first of two lists
pub slice_get-left : {X : Type 0} (xs ys : List X) (i : ℕ) → i < length xs → slice_get (xs ++ ys) i ≡ slice_get xs i
slice_get-left [] ys i within = absurd (omega arith)
slice_get-left (x ∷ xs) ys zero within = refl
slice_get-left (x ∷ xs) ys (suc i) within = slice_get-left xs ys i (omega arith)

-- the first index of the second of two lists
pub slice_get-seam : {X : Type 0} (xs : List X) (y : X) (ys : List X) → slice_get (xs ++ y ∷ ys) (length xs) ≡ Some y
slice_get-seam [] y ys = refl
slice_get-seam (x ∷ xs) y ys = slice_get-seam xs y ys

module _ {X : Type 0} (May : List X → X → Type 0) where
  -- an element may follow the front
  pub may_follow_front : (front : List X) (x : X) (rest : List X) → EachMayFollow May (front ++ x ∷ rest) → May front x
  may_follow_front front x rest each =
      let may = each (length front) x (slice_get-seam front x rest) in
      rw (take-append_seam front (x ∷ rest)) at may

  -- the list with an element more that may follow it
  pub each_may_follow-push : (xs : List X) (x : X) → EachMayFollow May xs → May xs x → EachMayFollow May (xs ++ x ∷ [])
  each_may_follow-push xs x each may index y is =
      elim (cases_lt index (length xs)) [
        | inl before ↦
            rw (take-append-le index xs (x ∷ []) (omega arith)) (each index y (sym (slice_get-left xs (x ∷ []) index before) ∙ is))
        | inr from ↦
            let within = slice_get_within (xs ++ x ∷ []) index y is in
            let last : index ≡ length xs = omega (arith, within, length-append xs (x ∷ [])) in
            let same : Some y ≡ Some x = sym is ∙ ap (slice_get (xs ++ x ∷ [])) last ∙ slice_get-seam xs x [] in
            let is_x : y ≡ x = cc in
            rw (last, take-append_seam xs (x ∷ []), is_x) may
      ]

  -- the front of a list
  pub each_may_follow-front : (front rest : List X) → EachMayFollow May (front ++ rest) → EachMayFollow May front
  each_may_follow-front front rest each index x is =
      let within = slice_get_within front index x is in
      let may = each index x (slice_get-left front rest index within ∙ is) in
      rw (take-append-le index front rest (omega (arith, within))) at may

  -- the elements before an index, and the one there
  pub each_may_follow-next : (xs : List X) (index : ℕ) (x : X) → EachMayFollow May xs → index < length xs → x ≡ get_or xs index x → EachMayFollow May (take index xs ++ x ∷ [])
  each_may_follow-next xs index x each within is =
      let whole : take (suc index) xs ++ drop (suc index) xs ≡ xs = take-append-drop (suc index) xs in
      let front = each_may_follow-front (take (suc index) xs) (drop (suc index) xs) (subst (EachMayFollow May) (sym whole) each) in
      subst (EachMayFollow May) (take-suc xs index x within ∙ ap (λ y. take index xs ++ y ∷ []) (sym is)) front
