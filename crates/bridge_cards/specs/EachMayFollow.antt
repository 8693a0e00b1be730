-- Lists of which each element may follow those before it, as the calls of an auction and the cards of a play.
use Rattle.std.specs.Prelude.{◌≡◌, ℕ, List, take, slice_get, Some}

-- May holds of the elements before each element, and of that element
abbrev pub EachMayFollow : {X : Type 0} → (List X → X → Type 0) → List X → Type 0
EachMayFollow {X} May list = (index : ℕ) (x : X) → slice_get list index ≡ Some x → May (take index list) x
