-- What the answer to a player depends on: two sessions that agree there.
use Rattle.std.specs.Prelude.{◌≡◌, ℕ, true, Option, None, Some, Ok}
use Rattle.session_rules.specs.declared.act.Act.{Act}
use Rattle.session_rules.specs.declared.act.Act.TheVariants as act
use Rattle.session_rules.specs.declared.action.Action.{Action}
use Rattle.session_rules.specs.declared.seating.Seating.{Seating}
use Rattle.session_rules.specs.Act.{act_of}
use Rattle.session_rules.specs.State.{SessionValue, deal_on, row_at, seating_of, is_of_set}

-- the key by which a player acts
abbrev pub player_in_act : Act → Option ℕ
player_in_act (act.Player key board at deed) = Some key.0
player_in_act _ = None

-- the key of the player whose action it is, if it is a player's
abbrev pub player_key : Action → Option ℕ
player_key action = player_in_act (act_of action)

-- Two sessions have one configuration and one round, and where the player of the key sits in it, the deals of the boards
-- of that table's set and the records of that table in that round are the same.
pub record AgreeAtTable (key : ℕ) (s t : SessionValue) : Type 0 where
  pub configuration : s.configuration ≡ t.configuration
  pub round : s.round ≡ t.round
  pub deals : (seating : Seating) (board : ℕ) → seating_of s.configuration s.round key ≡ Ok seating → is_of_set s.configuration seating.set board ≡ true → deal_on s.deals board ≡ deal_on t.deals board
  pub records : (seating : Seating) → seating_of s.configuration s.round key ≡ Ok seating → row_at s.records seating.row ≡ row_at t.records seating.row
