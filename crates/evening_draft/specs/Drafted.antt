-- What is said of a draft.
use Rattle.std.specs.Prelude.{ℕ, ◌<◌, length}
use Rattle.bridge_movement.specs.Named.{IsFor}
use Rattle.evening_draft.specs.declared.refused.DraftRefused.{DraftRefused}
use Rattle.evening_draft.specs.declared.refused.DraftRefused.TheVariants.{Movement, Heading, Keys}
use Rattle.evening_draft.specs.declared.wishes.Wishes.{Wishes}
use Rattle.evening_draft.specs.Draft.{HasHeading}
use Rattle.evening_draft.specs.Keys.{drawn, key_count}

-- why there is no draft: the first of these
abbrev pub IsDraftRefused : Wishes → ℕ → DraftRefused → Type 0
IsDraftRefused wishes pairs Movement = ¬ IsFor wishes.movement pairs
IsDraftRefused wishes pairs Keys = IsFor wishes.movement pairs × (length (drawn wishes.seed 200) < key_count pairs)
IsDraftRefused wishes pairs Heading = IsFor wishes.movement pairs × (¬ HasHeading wishes)
