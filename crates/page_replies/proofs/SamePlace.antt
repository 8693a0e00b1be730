-- Where two sessions look alike to a player, his place is told alike.
use Rattle.std.proofs.Common.{◌≡◌, ℕ, ap, ◌∙◌}
use Rattle.session_rules.specs.Sight.{LookAlikeTo}
use Rattle.session_rules.specs.Stage.{stage_to}
use Rattle.session_rules.specs.State.{SessionValue, acting_player}
use Rattle.session_rules.proofs.SameView.{stage_same}
use Rattle.page_replies.specs.Place.{place_by, place_to}

pub place_same : (key : ℕ) (s t : SessionValue) → LookAlikeTo key s t → place_to s key ≡ place_to t key
place_same key s t alike =
    ap (λ configuration. place_by configuration s.round (stage_to s key) key (acting_player configuration key)) alike.configuration
    ∙ ap (λ round. place_by t.configuration round (stage_to s key) key (acting_player t.configuration key)) alike.round
    ∙ ap (λ stage. place_by t.configuration t.round stage key (acting_player t.configuration key)) (stage_same key s t alike)
