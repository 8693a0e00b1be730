use Rattle.std.proofs.Common.{◌≡◌, ◌+◌, ◌<◌, ◌∷◌, ◌++◌, [], ◌∙◌, List, length, get_or, map, take, sym, ap, subst, arith}
use Rattle.std.specs.Prelude.{All, slice_set}
use Rattle.std.proofs.lemmas.List.{map-append}
use Rattle.std.proofs.lemmas.List.Elements.{All-push}
use Rattle.bridge_table.specs.declared.record.Record.{Record}
use Rattle.bridge_table.specs.Kept.{plain_of, board_kept, IsTiedIn}
use Rattle.session_bytes.specs.Parts.{HasRecord, record_part}
use Rattle.session_rules.specs.StateRange.{IsRecordInRange}
use Rattle.session_rules.specs.Valid.{IsValidRecord}
use Rattle.session_bytes.specs.Reading.{items_of, part_kept, AreRecords}
use Rattle.session_bytes.proofs.PartLemmas.{next_taken, set_taken}
use Rattle.session_bytes.proofs.ReadLists.{all_there, mapped_at, set_same}
use Rattle.session_bytes.proofs.ReadTables.{records_push, board_there}
use Rattle.session_bytes.proofs.tables_read.read_records.Goals as goal

pub returns-in_err-kept-clause-other : goal.returns-in_err-kept-clause-other
returns-in_err-kept-clause-other c = rw c.from_residual.ensures λ records are is.
    let index = c.loop-index.index in
    let table = c.loop-index.table in
    let found = mapped_at (record_part c.args.format) items_of records c.args.parts.now index c.index-parts-index.result is c.loop-index-test.true c.index-parts-index.is in
    let within : index < length table = omega (arith, c.requires.count, c.loop-index-test.true) in
    let board = board_there table records index c.index-table-index.result found.0 (are.boards_are ∙ sym c.loop-index.invariant.boards) within c.index-table-index.is found.1 in
    c.in_err-kept.ensures.none found.0 (board ∙ ap board_kept c.index-table-index.is)
    (all_there (IsValidRecord c.args.scoring c.args.deals.now c.args.now c.args.round) records index found.0 are.valid found.1)
    (all_there IsRecordInRange records index found.0 are.in_range found.1)
    (all_there (HasRecord c.args.format) records index found.0 are.of_format found.1) (found.2 ∙ sym c.as_slice.ensures.value)

pub loop-index-preserved : goal.loop-index-preserved
loop-index-preserved c =
    let format = c.args.format in
    let deals = c.args.deals.now in
    let parts = c.args.parts.now in
    let index = c.loop-index.index in
    let table = c.loop-index.table in
    let kept = c.in_ok-kept.kept in
    let read = c.in_ok-kept.ensures.read in
    let within : index < length table = omega (arith, c.requires.count, c.loop-index-test.true) in
    let longer : take (index + 1) (slice_set table index kept) ≡ take index table ++ kept ∷ [] = set_taken table index kept within in
    let next = next_taken parts index c.index-parts-index.result c.loop-index-test.true c.index-parts-index.is in
    record {
      boards = set_same board_kept table index c.index-table-index.result kept within c.index-table-index.is (read.board_is ∙ sym (ap board_kept c.index-table-index.is)) ∙ c.loop-index.invariant.boards;
      so_far = ap (map (part_kept format)) longer ∙ map-append (part_kept format) (take index table) (kept ∷ [])
          ∙ ap (λ xs. xs ++ part_kept format kept ∷ []) c.loop-index.invariant.so_far
          ∙ ap (λ x. map items_of (take index parts) ++ x ∷ []) (read.bytes ∙ c.as_slice.ensures.value)
          ∙ sym (ap (map items_of) next ∙ map-append items_of (take index parts) (c.index-parts-index.result ∷ []));
      records = subst (λ (kepts : List Record). AreRecords format c.args.scoring deals c.args.now c.args.round (map board_kept kepts) (map plain_of kepts)) (sym longer)
          (records_push format c.args.scoring deals c.args.now c.args.round (get_or table index c.index-table-index.result).board c.as_slice.result.now (take index table) kept
          c.loop-index.invariant.records read);
      tied = subst (All (IsTiedIn deals)) (sym longer) (All-push (IsTiedIn deals) (take index table) kept c.loop-index.invariant.tied read.tied);
    }
