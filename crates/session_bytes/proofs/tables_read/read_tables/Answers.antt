use Rattle.std.proofs.Common.{Vec, Global, ◌≡◌, ◌+◌, ◌<◌, ◌++◌, ◌∷◌, ◌∙◌, [], List, length, get_or, map, take, sym, ap, subst, arith, append_assoc}
use Rattle.std.specs.Prelude.{All, flat_map, slice_set}
use Rattle.std.specs.List.{take-map}
use Rattle.std.specs.Vec.{with_items}
use Rattle.std.proofs.lemmas.List.{map-append, length-take, take-append-drop, take_all, append-nil, with_items_is}
use Rattle.std.proofs.lemmas.Option.{slice_get-get_or}
use Rattle.std.proofs.lemmas.List.Elements.{All-push}
use Rattle.std.proofs.lemmas.Grind.{flat_map-append}
use Rattle.bridge_movement.specs.declared.row.Row.{Row}
use Rattle.bridge_table.specs.declared.record.Record.{Record}
use Rattle.bridge_table.specs.Kept.{plain_of, board_kept, IsTiedIn}
use Rattle.session_bytes.specs.Parts.{row_parts}
use Rattle.session_bytes.specs.Reading.{items_of, plains_of, AreRows, IsRowOf}
use Rattle.session_bytes.proofs.PartLemmas.{set_taken}
use Rattle.session_bytes.proofs.ReadLists.{set_same}
use Rattle.session_bytes.proofs.ReadTables.{rows_push, row_there, suc_row, boards_seen, boards_of_row, rows_long}
use Rattle.session_bytes.proofs.tables_read.read_tables.Goals as goal

pub read_table-requires-clause-boards : goal.read_table-requires-clause-boards
read_table-requires-clause-boards c =
    let index = c.loop-index.index in
    let tables = c.loop-index.tables in
    let rows = c.args.rows.now in
    let within : index < length tables = omega (arith, rows_long tables rows c.args.boards c.loop-index.invariant.boards, c.loop-index-test.true) in
    ap (map board_kept) c.as_mut_slice-table.ensures.value
    ∙ boards_of_row tables rows c.args.boards index _ _ c.loop-index.invariant.boards
    (slice_get-get_or tables index c.index-tables-index.result within) (slice_get-get_or rows index _ c.loop-index-test.true)

pub returns-in_err-read_table-clause-other : goal.returns-in_err-read_table-clause-other
returns-in_err-read_table-clause-other c = rw c.from_residual.ensures λ records are is.
    let format = c.args.format in
    let boards = c.args.boards in
    let index = c.loop-index.index in
    let front = map plains_of (take index c.loop-index.tables) in
    let before : length front ≡ index = omega (arith, c.loop-index.invariant.rows.count, length-take index c.args.rows.now, c.loop-index-test.true) in
    let own = row_there format c.args.scoring c.args.deals.now c.args.now boards c.args.rows.now records front (map items_of c.loop-index.rest.now) index _ are
    (c.loop-index.invariant.so_far ∙ sym is) before c.loop-index-test.true (slice_get-get_or c.args.rows.now index _ c.loop-index-test.true) in
    c.in_err-read_table.ensures.other own.0 own.1 (own.2 ∙ take-map items_of boards c.loop-index.rest.now
    ∙ ap (λ n. map items_of (take n c.loop-index.rest.now)) (sym c.from.ensures) ∙ ap (map items_of) (sym c.split_at.ensures.front))

pub loop-index-preserved : goal.loop-index-preserved
loop-index-preserved c =
    let format = c.args.format in
    let boards = c.args.boards in
    let deals = c.args.deals.now in
    let rows = c.args.rows.now in
    let index = c.loop-index.index in
    let tables = c.loop-index.tables in
    let rest = c.loop-index.rest.now in
    let own : Row = get_or rows index (record { round = 0; table = 0; ns = 0; ew = 0; set = 0 }) in
    let within : index < length tables = omega (arith, rows_long tables rows boards c.loop-index.invariant.boards, c.loop-index-test.true) in
    let before : Vec Record Global = get_or tables index c.index-tables-index.result in
    let read = c.read_table.new.table in
    let table : Vec Record Global = with_items before read in
    let items : table.items ≡ read = with_items_is before read (omega (arith, c.read_table.auto.table, c.as_mut_slice-table.ensures.len)) in
    let longer : take (index + 1) (slice_set tables index table) ≡ take index tables ++ table ∷ [] = set_taken tables index table within in
    let row : IsRowOf format c.args.scoring deals c.args.now boards own (plains_of table)
    = subst (λ (kepts : List Record). IsRowOf format c.args.scoring deals c.args.now boards own (map plain_of kepts)) (sym items) c.in_ok-read_table.ensures.row in
    let of_before = boards_of_row tables rows boards index before own c.loop-index.invariant.boards
    (slice_get-get_or tables index c.index-tables-index.result within) (slice_get-get_or rows index _ c.loop-index-test.true) in
    let written : row_parts format boards (plains_of table) ≡ map items_of c.split_at.result.0.now
    = ap (λ (kepts : List Record). row_parts format boards (map plain_of kepts)) items ∙ c.in_ok-read_table.ensures.written in
    let whole : map items_of c.split_at.result.0.now ++ map items_of c.split_at.result.1.now ≡ map items_of rest
    = sym (map-append items_of c.split_at.result.0.now c.split_at.result.1.now)
    ∙ ap (map items_of) (ap (λ xs. xs ++ c.split_at.result.1.now) c.split_at.ensures.front ∙ ap (λ xs. take c.from.result rest ++ xs) c.split_at.ensures.back
    ∙ take-append-drop c.from.result rest) in
    record {
      boards = set_same (λ (t : Vec Record Global). map board_kept t.items) tables index c.index-tables-index.result table within c.index-tables-index.is
          (sym (boards_seen table.items) ∙ row.boards_are ∙ sym of_before ∙ sym (ap (λ (t : Vec Record Global). map board_kept t.items) c.index-tables-index.is))
          ∙ c.loop-index.invariant.boards;
      so_far = ap (λ (ts : List (Vec Record Global)). flat_map (row_parts format boards) (map plains_of ts) ++ map items_of c.split_at.result.1.now) longer
          ∙ ap (λ xs. flat_map (row_parts format boards) xs ++ map items_of c.split_at.result.1.now) (map-append plains_of (take index tables) (table ∷ []))
          ∙ ap (λ xs. xs ++ map items_of c.split_at.result.1.now) (flat_map-append (row_parts format boards) (map plains_of (take index tables)) (plains_of table ∷ []))
          ∙ append_assoc (flat_map (row_parts format boards) (map plains_of (take index tables))) (row_parts format boards (plains_of table) ++ []) (map items_of c.split_at.result.1.now)
          ∙ ap (λ xs. flat_map (row_parts format boards) (map plains_of (take index tables)) ++ (xs ++ map items_of c.split_at.result.1.now)) (append-nil (row_parts format boards (plains_of table)) ∙ written)
          ∙ ap (λ xs. flat_map (row_parts format boards) (map plains_of (take index tables)) ++ xs) whole
          ∙ c.loop-index.invariant.so_far;
      left = omega (arith, c.from.ensures, c.split_at.ensures.back_len, c.loop-index.invariant.left, suc_row (length rows) index boards c.loop-index-test.true);
      rows = subst (λ (ts : List (Vec Record Global)). AreRows format c.args.scoring deals c.args.now boards (take (index + 1) rows) (map plains_of ts)) (sym longer)
          (rows_push format c.args.scoring deals c.args.now boards rows index own (take index tables) table c.loop-index-test.true (slice_get-get_or rows index _ c.loop-index-test.true) c.loop-index.invariant.rows row);
      tied = subst (All (λ (t : Vec Record Global). All (IsTiedIn deals) t.items)) (sym longer)
          (All-push (λ (t : Vec Record Global). All (IsTiedIn deals) t.items) (take index tables) table c.loop-index.invariant.tied
          (subst (All (IsTiedIn deals)) (sym items) c.in_ok-read_table.ensures.tied));
    }

pub returns-clause-rows : goal.returns-clause-rows
returns-clause-rows c =
    let rows = c.args.rows.now in
    let tables = c.loop-index.tables in
    let index = c.loop-index.index in
    let long = rows_long tables rows c.args.boards c.loop-index.invariant.boards in (
      subst (λ (rs : List Row). AreRows c.args.format c.args.scoring c.args.deals.now c.args.now c.args.boards rs (map plains_of tables)) (take_all index rows (omega arith))
          (subst (λ (ts : List (Vec Record Global)). AreRows c.args.format c.args.scoring c.args.deals.now c.args.now c.args.boards (take index rows) (map plains_of ts)) (take_all index tables (omega (arith, long)))
          c.loop-index.invariant.rows),
      subst (All (λ (t : Vec Record Global). All (IsTiedIn c.args.deals.now) t.items)) (take_all index tables (omega (arith, long))) c.loop-index.invariant.tied,
    )
