use Rattle.std.proofs.Common.{◌∷◌, ◌++◌, [], map, sym, ap, ◌∙◌, arith}
use Rattle.std.specs.List.{range_with_len}
use Rattle.std.proofs.lemmas.List.FromFn.{map-range_with_len_more}
use Rattle.session_bytes.specs.PartsRead.{row_of_part}
use Rattle.session_bytes.proofs.head.read_rows.Goals as goal

pub loop-index-preserved : goal.loop-index-preserved
loop-index-preserved c =
    let f = row_of_part c.args.shape.tables c.args.part.now in
    let index = c.loop-index.index in
    record {
      rows = c.push.ensures.items
          ∙ ap (λ rows. rows ++ c.row_at.result ∷ []) c.loop-index.invariant.rows
          ∙ ap (λ row. map f (range_with_len 0 index) ++ row ∷ []) c.row_at.ensures
          ∙ sym (map-range_with_len_more f 0 index index (omega arith));
      count = omega (arith, c.push.ensures.len, c.loop-index.invariant.count);
    }
