-- The outcome of a record that is kept.
use Rattle.std.proofs.Common.{◌≡◌, ℕ, List, Option, ap}
use Rattle.bridge_table.specs.declared.record.Record.{Record}
use Rattle.session_rules.specs.Outcome.{outcome_by, outcome_of}
use Rattle.session_rules.specs.State.{hands_on}
use Rattle.bridge_table.specs.Kept.{plain_of, course_kept, IsTiedIn}
use Rattle.bridge_table.proofs.Tied.{course_same}

pub outcome_seen : (deals : List (Option (List ℕ))) (kept : Record) → IsTiedIn deals kept → outcome_by kept.auction.calls (course_kept kept) kept.ruling ≡ outcome_of (plain_of kept)
outcome_seen deals kept tied =
    ap (λ course. outcome_by kept.auction.calls course kept.ruling) (course_same (hands_on deals kept.board) kept tied.tied)
