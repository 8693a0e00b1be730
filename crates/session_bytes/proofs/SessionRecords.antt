-- Each record of a session is valid in its round, and can be written and read back.
use Rattle.std.proofs.Common.{◌≡◌, ◌≤◌, ℕ, List, [], length, get_or, map, Some, All, sym, ap, ◌∙◌, arith}
use Rattle.std.specs.Prelude.{slice_get, unwrap_or}
use Rattle.std.proofs.lemmas.List.{length-map}
use Rattle.std.proofs.lemmas.Option.{slice_get-get_or}
use Rattle.bridge_auction.proofs.LegalLength.{legal_length}
use Rattle.bridge_movement.specs.declared.row.Row.{Row}
use Rattle.session_rules.specs.Record.{PlainRecord}
use Rattle.session_rules.specs.State.{SessionValue, row_at, row_boards}
use Rattle.session_rules.specs.StateRange.{IsRecordInRange, IsSession}
use Rattle.session_rules.specs.Valid.{board_of, IsValidRecord, IsValid}
use Rattle.session_bytes.proofs.RecordBack.{IsWritten}

-- the record is valid in some round
abbrev pub IsOfSomeRound : SessionValue → PlainRecord → Type 0
IsOfSomeRound s plain = (round : ℕ) × IsValidRecord s.configuration.scoring s.deals s.round round plain

pub each_record : (s : SessionValue) → IsValid s → All (All (IsOfSomeRound s)) s.records
each_record s valid row_index d within index e inside =
    let records : List PlainRecord = get_or s.records row_index d in
    let rows : List Row = s.configuration.movement.rows in
    let nobody : Row = record { round = 0; table = 0; ns = 0; ew = 0; set = 0 } in
    let row : Row = get_or rows row_index nobody in
    let long : length s.records ≡ length rows
    = sym (length-map s.records (map board_of)) ∙ ap (λ (xs : List (List ℕ)). length xs) valid.of_boards
    ∙ length-map rows (row_boards s.configuration.boards) in
    let there : slice_get rows row_index ≡ Some row = slice_get-get_or rows row_index nobody (omega (arith, long, within)) in
    let at : row_at s.records row_index ≡ records = ap (λ found. unwrap_or found []) (slice_get-get_or s.records row_index d within) in
    let found : slice_get (row_at s.records row_index) index ≡ Some (get_or records index e)
    = ap (λ (rs : List PlainRecord). slice_get rs index) at ∙ slice_get-get_or records index e inside in
    (row.round, valid.plays row_index index row (get_or records index e) there found)

pub written : (s : SessionValue) → IsSession s → All (All IsWritten) s.records
written s is row_index d within index e inside =
    let plain : PlainRecord = get_or (get_or s.records row_index d) index e in
    let valid = (each_record s is.valid row_index d within index e inside).1 in
    let few : length plain.calls ≤ 319 = legal_length plain.calls valid.calls in
    let range : IsRecordInRange plain = is.ranges.records row_index d within index e inside in
    record {
      few = omega (arith, few);
      known = λ k call below. (valid.calls k (get_or plain.calls k call) (slice_get-get_or plain.calls k call below)).known;
      claim = range.claim;
      ruled = range.ruling;
    }
