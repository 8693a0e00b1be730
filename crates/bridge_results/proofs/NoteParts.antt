-- What the marks behind cards say.
use Rattle.std.proofs.Common.{◌≡◌, ◌==◌, false, List, [], ◌∷◌, length, refl}
use Rattle.std.specs.Prelude.{codes}
use Rattle.page_layout.specs.declared.format.Format.TheVariants.{Html}
use Rattle.page_layout.specs.Page.{paragraph_text}
use Rattle.bridge_results.specs.declared.analysis.PlayCosts.{PlayCosts}
use Rattle.bridge_results.specs.Costs.{costs_note}

-- where what some cards cost is known
pub some_note : (plays : List PlayCosts) → (length plays == 0) ≡ false → paragraph_text Html (codes "A card with -1 behind it gave a trick away, as all the cards lay.") ≡ costs_note plays
some_note [] none = cc
some_note (known ∷ more) some = refl
