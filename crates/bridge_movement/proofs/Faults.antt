-- Rows of which none has a fault are fair, and rows with one are not.
use Rattle.std.proofs.Common.{ℕ, ◌≡◌, ◌+◌, ◌<◌, ◌≤◌, List, length, slice_index_or, take, subst, sym, ◌∙◌, arith}
use Rattle.std.specs.Prelude.{Any}
use Rattle.std.proofs.lemmas.List.{get_or_default, get_or-take, length-take-le}
use Rattle.bridge_movement.specs.declared.refused.MovementRefused.{MovementRefused}
use Rattle.bridge_movement.specs.declared.refused.MovementRefused.TheVariants.{MissingRow, BadPair, SamePair, BadSet, PairTwice, SetAgain}
use Rattle.bridge_movement.specs.declared.row.Row.{Row}
use Rattle.bridge_movement.specs.declared.shape.Shape.{Shape}
use Rattle.bridge_movement.specs.Fair.{IsComplete, IsFair}
use Rattle.bridge_movement.specs.Refused.{IsFirstFault, IsRefusal, IsFaultlessAt, refused_row}

abbrev pub nobody : Row
nobody = record { round = 0; table = 0; ns = 0; ew = 0; set = 0 }

-- what holds of some row before an index holds at an index before it
pub some_before : (P : Row → Type 0) (rows : List Row) (index : ℕ) (d : Row) → index ≤ length rows →
    Any P (take index rows) → (k : ℕ) × (k < index) × P (slice_index_or rows k d)
some_before P rows index d within (k, x, below, is, holds) =
    let early : k < index = omega (arith, length-take-le index rows within) in
    let inside : k < length rows = omega arith in
    let same : slice_index_or rows k d ≡ x =
    get_or_default rows k d x inside ∙ sym (get_or-take index rows k x early) ∙ is in
    (k, early, subst P (sym same) holds)

-- what holds at an index before another holds of some row before that
pub at_before : (P : Row → Type 0) (rows : List Row) (index k : ℕ) (d : Row) → index < length rows → k < index →
    P (slice_index_or rows k d) → Any P (take index rows)
at_before P rows index k d within early holds =
    let inside : k < length rows = omega arith in
    let x = slice_index_or rows k d in (
      k,
      x,
      omega (arith, length-take-le index rows (omega arith)),
      get_or-take index rows k x early ∙ get_or_default rows k x d inside,
      holds,
    )

-- rows with a fault are not fair
pub fault_is_unfair : (shape : Shape) (rows : List Row) (index : ℕ) (refused : MovementRefused) →
    IsFirstFault shape rows index refused → IsFair shape rows → ⊥
fault_is_unfair shape rows index (MissingRow _) fault fair = fault.here nobody
fault_is_unfair shape rows index (BadPair _) fault fair =
    fault.here nobody (fair.pairs index nobody fault.within)
fault_is_unfair shape rows index (SamePair _) fault fair =
    (fault.here nobody).1 (fair.opponents index nobody fault.within)
fault_is_unfair shape rows index (BadSet _) fault fair =
    (fault.here nobody).2 (fair.sets index nobody fault.within)
fault_is_unfair shape rows index (PairTwice _) fault fair =
    let within : index < length rows = fault.within in
    let early = some_before _ rows index nobody (omega arith) (fault.here nobody).3 in
    fair.one_table early.0 index nobody early.1 within early.2
fault_is_unfair shape rows index (SetAgain _) fault fair =
    let within : index < length rows = fault.within in
    let early = some_before _ rows index nobody (omega arith) (fault.here nobody).4 in
    fair.new_sets early.0 index nobody early.1 within early.2

-- rows of which none has a fault are fair
pub faultless_is_fair : (shape : Shape) (rows : List Row) →
    ((k : ℕ) → k < length rows → IsFaultlessAt shape rows k) → IsFair shape rows
faultless_is_fair shape rows none = record {
  pairs = λ k d h. (none k h d).pairs;
  opponents = λ k d h. (none k h d).opponents;
  sets = λ k d h. (none k h d).set_within;
  one_table = λ i j d early h again. (none j h d).one_table (at_before _ rows j i d h early again);
  new_sets = λ i j d early h again. (none j h d).new_set (at_before _ rows j i d h early again);
}

-- the first fault of rows that are complete and in order is their refusal
pub refusal_of : (shape : Shape) (rows : List Row) (index : ℕ) (refused : MovementRefused) →
    refused_row refused ≡ index + 1 → IsComplete shape rows → IsFirstFault shape rows index refused →
    IsRefusal shape rows refused
refusal_of shape rows index (MissingRow _) at complete fault = absurd (fault.here nobody)
refusal_of shape rows index (BadPair _) at complete fault = (index, at, complete, fault)
refusal_of shape rows index (SamePair _) at complete fault = (index, at, complete, fault)
refusal_of shape rows index (BadSet _) at complete fault = (index, at, complete, fault)
refusal_of shape rows index (PairTwice _) at complete fault = (index, at, complete, fault)
refusal_of shape rows index (SetAgain _) at complete fault = (index, at, complete, fault)
