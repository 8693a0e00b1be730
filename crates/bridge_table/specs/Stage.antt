-- How far a play that is kept is, for a seat.
use Rattle.std.specs.Prelude.{false, Option, None, Some}
use Rattle.bridge_cards.specs.declared.seat.Seat.{Seat}
use Rattle.bridge_play.specs.Play.{PlayValue, is_awaited}
use Rattle.session_rules.specs.declared.stage.Stage.{Stage}

-- the stage of the play of the cards, or before there is a contract
abbrev pub stage_kept : Seat → Option PlayValue → Stage
stage_kept seat None = record { contract = None; answer_due = false }
stage_kept seat (Some play) = record { contract = Some play.contract; answer_due = is_awaited play.contract play.claim seat }
