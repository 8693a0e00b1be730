-- What is known of the record of a play.
use Rattle.std.proofs.Common.{◌≡◌, ◌+◌, ◌-◌, ◌*◌, ◌/◌, ◌%◌, ◌<◌, ◌≤◌, ℕ, Bool, true, false, cond, List, [], length, Option, Some, None, refl, sym, ap, ◌∙◌, subst, arith, mod-lt, div-lt_iff_lt-mul}
use Rattle.std.specs.Prelude.{slice_get, option_and_then, IfSome, Contains, All}
use Rattle.std.specs.Option.{option_map}
use Rattle.std.proofs.lemmas.Option.{slice_get-get_or, unwrap_or-slice_get}
use Rattle.bridge_cards.specs.declared.seat.Side.{Side}
use Rattle.bridge_cards.specs.declared.seat.Side.TheVariants.{NorthSouth, EastWest}
use Rattle.bridge_cards.specs.Seat.{side_of}
use Rattle.bridge_auction.specs.declared.contract.Contract.{Contract}
use Rattle.bridge_movement.specs.declared.row.Row.{Row}
use Rattle.bridge_movement.specs.Shape.{IsShape}
use Rattle.bridge_movement.specs.Fair.{IsDue, IsMovement, HasSetWithin}
use Rattle.bridge_play.specs.Play.{PlayValue, IsPlay, is_over, tricks_of}
use Rattle.bridge_play.proofs.BothSides.{tricks_of-both}
use Rattle.session_rules.specs.declared.outcome.Outcome.{Outcome}
use Rattle.session_rules.specs.declared.outcome.Outcome.TheVariants.{Unfinished, PassedOut, Played}
use Rattle.session_rules.specs.declared.ruling.Ruling.{Ruling}
use Rattle.session_rules.specs.declared.ruling.Ruling.TheVariants as ruling
use Rattle.session_rules.specs.Numbers.{IsRoundNumber, IsTableNumber}
use Rattle.session_rules.proofs.Lists.{all_at}
use Rattle.session_rules.specs.Outcome.{outcome_by, outcome_of, HasFewTricks}
use Rattle.session_rules.specs.Record.{PlainRecord, contract_in, course_by, is_run, play_of, playing_in}
use Rattle.session_rules.specs.State.{SessionValue, row_at, record_of, hands_on}
use Rattle.session_rules.specs.StateRange.{IsSession, IsRulingInRange, IsRecordInRange}
use Rattle.session_rules.specs.Valid.{IsValidRecord}
use Rattle.bridge_results.specs.declared.play.TablePlay.{TablePlay}
use Rattle.bridge_results.specs.Plays.{has_outcome, lead_of, HasTricksWithin, play_by, table_play_in}
use Rattle.bridge_results.proofs.Plays.{record_there, board_there, same_count}

-- a play has 13 tricks at most
settled_few : (over : Bool) (n : ℕ) → n ≤ 13 → cond over 13 n ≤ 13
settled_few true n few = omega arith
settled_few false n few = few

side_few : (play : PlayValue) (side : Side) → length play.cards ≤ 52 → IsPlay play → tricks_of play side ≤ 13
side_few play NorthSouth few is = omega (arith, tricks_of-both play few is, settled_few (is_over play) (length play.cards / 4) (omega arith))
side_few play EastWest few is = omega (arith, tricks_of-both play few is, settled_few (is_over play) (length play.cards / 4) (omega arith))

run_few : (run : Bool) (contract : Contract) (n : ℕ) → n ≤ 13 → HasFewTricks (cond run (Played contract n) Unfinished)
run_few true contract n few = few
run_few false contract n few = tt

passed_few : (ended : Bool) → HasFewTricks (cond ended PassedOut Unfinished)
passed_few true = tt
passed_few false = tt

few_by : (hands : List ℕ) (plain : PlainRecord) (contract : Option Contract) (made : Option Ruling) → IfSome made IsRulingInRange →
    IfSome (option_map (playing_in hands plain) contract) (λ (play : PlayValue). length play.cards ≤ 52) → IfSome (option_map (playing_in hands plain) contract) IsPlay →
    HasFewTricks (outcome_by plain.calls (option_map (course_by plain) contract) made)
few_by hands plain None None range few is = passed_few _
few_by hands plain None (Some (ruling.Tricks tricks)) range few is = tt
few_by hands plain None (Some ruling.Void) range few is = tt
few_by hands plain None (Some (ruling.Adjusted ns ew)) range few is = tt
few_by hands plain None (Some (ruling.Assigned contract tricks)) range few is = range.1
few_by hands plain (Some contract) None range few is =
    run_few (is_run (course_by plain contract)) contract _ (side_few (playing_in hands plain contract) (side_of contract.declarer) few is)
few_by hands plain (Some contract) (Some (ruling.Tricks tricks)) range few is = range
few_by hands plain (Some contract) (Some ruling.Void) range few is = tt
few_by hands plain (Some contract) (Some (ruling.Adjusted ns ew)) range few is = tt
few_by hands plain (Some contract) (Some (ruling.Assigned assigned tricks)) range few is = range.1

pub few_tricks : (hands : List ℕ) (plain : PlainRecord) → IfSome plain.ruling IsRulingInRange →
    IfSome (play_of hands plain) (λ (play : PlayValue). length play.cards ≤ 52) → IfSome (play_of hands plain) IsPlay → HasFewTricks (outcome_of plain)
few_tricks hands plain range few is = few_by hands plain (contract_in plain) plain.ruling range few is

-- the numbers of a row of the session
pub row_numbers : (s : SessionValue) (row : Row) → IsSession s → Contains s.configuration.movement.rows row → IsRoundNumber row.round × IsTableNumber row.table × (1 ≤ row.set) × (row.set ≤ 12)
row_numbers s row is (k, within, at) =
    let shape = s.configuration.movement.shape in
    let limits : IsShape shape = is.valid.configured.shape in
    let movement : IsMovement shape s.configuration.movement.rows = is.valid.configured.movement in
    let due : IsDue shape k row = subst (IsDue shape k) at ((movement.complete.order k within).1 row) in
    let set : (1 ≤ row.set) × (row.set ≤ shape.sets) = subst (HasSetWithin shape) at (movement.fair.sets k row within) in
    let some : 0 < shape.tables = omega (arith, limits.tables.0) in
    let round : k / shape.tables < shape.rounds = (div-lt_iff_lt-mul some).1 due.0 in
    let table : k % shape.tables < shape.tables = mod-lt k some in (
      (omega (arith, due.1), omega (arith, due.1, round, limits.rounds.1)),
      (omega (arith, due.2), omega (arith, due.2, table, limits.tables.1)),
      set.0,
      omega (arith, set.1, limits.sets.1),
    )

-- What is known of the record of a play of a row: its board, that it is valid, and its ranges.
pub record IsRecordAt (s : SessionValue) (row : Row) (index : ℕ) (plain : PlainRecord) : Type 0 where
  pub board : plain.board ≡ (row.set - 1) * s.configuration.boards + index
  pub valid : IsValidRecord s.configuration.scoring s.deals s.round row.round plain
  pub ranges : IsRecordInRange plain

pub record_at : (s : SessionValue) (row : Row) (index : ℕ) (plain : PlainRecord) → IsSession s → Contains s.configuration.movement.rows row → 1 ≤ index →
    record_of s (record { round = row.round; table = row.table; index = index }) ≡ Some plain → IsRecordAt s row index plain
record_at s row index plain is (k, within, at) least found =
    let rows = s.configuration.movement.rows in
    let of_row : Row → Option PlainRecord = λ r. record_of s (record { round = r.round; table = r.table; index = index }) in
    let there : slice_get (row_at s.records k) (index - 1) ≡ Some plain = sym (record_there s k row index is within) ∙ ap of_row at ∙ found in
    let table : All IsRecordInRange (row_at s.records k) =
    subst (All IsRecordInRange) (sym (unwrap_or-slice_get s.records k [])) (is.ranges.records k [] (omega (arith, within, same_count s is))) in
    let in_range : IfSome (slice_get (row_at s.records k) (index - 1)) IsRecordInRange = all_at IsRecordInRange (row_at s.records k) (index - 1) table in
    record {
      board = board_there s k row index plain is within least there ∙ ap (λ (r : Row). (r.set - 1) * s.configuration.boards + index) at;
      valid = is.valid.plays k (index - 1) row plain (slice_get-get_or rows k row within ∙ ap Some at) there;
      ranges = subst (λ (o : Option PlainRecord). IfSome o IsRecordInRange) there in_range;
    }

-- the lead is the first card of the record
lead_by : (hands : List ℕ) (plain : PlainRecord) (contract : Option Contract) → (contract ≡ None → plain.cards ≡ []) → option_and_then (λ (play : PlayValue). lead_of play.cards) (option_map (playing_in hands plain) contract) ≡ lead_of plain.cards
lead_by hands plain None none = sym (ap lead_of (none refl))
lead_by hands plain (Some contract) none = refl

-- a play that is known is that of its record
pub known_play : (s : SessionValue) (row : Row) (index board : ℕ) (outcome : Outcome) (play : Option PlayValue) (found : Option PlainRecord) → board ≡ (row.set - 1) * s.configuration.boards + index →
    ((plain : PlainRecord) → found ≡ Some plain → IsRecordAt s row index plain) → Some outcome ≡ option_map outcome_of found → Some play ≡ option_map (λ (plain : PlainRecord). play_of (hands_on s.deals plain.board) plain) found →
    play_by row board outcome (option_and_then (λ (known : PlayValue). lead_of known.cards) play) ≡ option_and_then (table_play_in row) found
known_play s row index board outcome play None on_board at came played = absurd cc
known_play s row index board outcome play (Some plain) on_board at came played =
    let is = at plain refl in
    let hands = hands_on s.deals plain.board in
    let outcome_is : outcome ≡ outcome_of plain = cc in
    let play_is : play ≡ play_of hands plain = cc in
    ap (λ b. play_by row b outcome (option_and_then (λ (known : PlayValue). lead_of known.cards) play)) (on_board ∙ sym is.board)
    ∙ ap (λ (o : Outcome). play_by row plain.board o (option_and_then (λ (known : PlayValue). lead_of known.cards) play)) outcome_is
    ∙ ap (λ (p : Option PlayValue). play_by row plain.board (outcome_of plain) (option_and_then (λ (known : PlayValue). lead_of known.cards) p)) play_is
    ∙ ap (play_by row plain.board (outcome_of plain)) (lead_by hands plain (contract_in plain) (λ none. (is.valid.unplayed none).cards))

-- and has 13 tricks at most
play_few : (row : Row) (board : ℕ) (outcome : Outcome) (lead : Option ℕ) → HasFewTricks outcome → IfSome (play_by row board outcome lead) HasTricksWithin
play_few row board outcome lead few = by_outcome (has_outcome outcome)
  where
    by_outcome : (has : Bool) → IfSome (cond has (Some (record { row = row; board = board; outcome = outcome; lead = lead })) None) HasTricksWithin
    by_outcome true = few
    by_outcome false = tt

pub known_few : (s : SessionValue) (row : Row) (index board : ℕ) (outcome : Outcome) (lead : Option ℕ) (play : Option PlayValue) (found : Option PlainRecord) → ((plain : PlainRecord) → found ≡ Some plain → IsRecordAt s row index plain) →
    Some outcome ≡ option_map outcome_of found → Some play ≡ option_map (λ (plain : PlainRecord). play_of (hands_on s.deals plain.board) plain) found →
    IfSome play (λ (known : PlayValue). length known.cards ≤ 52) → IfSome (play_by row board outcome lead) HasTricksWithin
known_few s row index board outcome lead play None at came played few = absurd cc
known_few s row index board outcome lead play (Some plain) at came played few =
    let is = at plain refl in
    let hands = hands_on s.deals plain.board in
    let outcome_is : outcome_of plain ≡ outcome = cc in
    let play_is : play ≡ play_of hands plain = cc in
    let few_cards : IfSome (play_of hands plain) (λ (known : PlayValue). length known.cards ≤ 52) = subst (λ (p : Option PlayValue). IfSome p (λ (known : PlayValue). length known.cards ≤ 52)) play_is few in
    play_few row board outcome lead (subst HasFewTricks outcome_is (few_tricks hands plain is.ranges.ruling few_cards is.valid.play))

-- of no record there is no play
pub no_play : (row : Row) (found : Option PlainRecord) → ◌≡◌ {A = Option Outcome} None (option_map outcome_of found) → ◌≡◌ {A = Option TablePlay} None (option_and_then (table_play_in row) found)
no_play row None none = refl
no_play row (Some plain) none = absurd cc
