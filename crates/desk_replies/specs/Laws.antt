-- What a player may be told of.
use Rattle.std.specs.Prelude.{◌≡◌, ℕ, Ok}
use Rattle.session_rules.specs.declared.seating.Seating.{Seating}
use Rattle.session_rules.specs.State.{SessionValue, seating_of}
use Rattle.desk_replies.specs.declared.desk.Desk.{Desk}
use Rattle.desk_replies.specs.Desk.{call_at, statement_at, refusal_at}

-- Two desks have the same notice, the same clock, and where the player of the key sits the same call, statement and refusal.
pub record StandAlikeTo (s : SessionValue) (key : ℕ) (d e : Desk) : Type 0 where
  pub notice : d.notice ≡ e.notice
  pub clock : d.clock ≡ e.clock
  pub calls : (seating : Seating) → seating_of s.configuration s.round key ≡ Ok seating → call_at d seating.table ≡ call_at e seating.table
  pub statements : (seating : Seating) → seating_of s.configuration s.round key ≡ Ok seating → statement_at d seating.table ≡ statement_at e seating.table
  pub refusals : (seating : Seating) → seating_of s.configuration s.round key ≡ Ok seating → refusal_at d seating.table ≡ refusal_at e seating.table
