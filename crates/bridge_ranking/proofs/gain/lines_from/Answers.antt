use Rattle.std.proofs.Common.{map, length, refl, sym, ap, ◌∙◌, ◌++◌, ◌∷◌, [], ◌+◌, subst, arith}
use Rattle.std.specs.Prelude.{All}
use Rattle.std.specs.List.{range_with_len}
use Rattle.std.proofs.lemmas.List.{length-map}
use Rattle.std.proofs.lemmas.List.Elements.{All-push}
use Rattle.std.proofs.lemmas.List.FromFn.{length-range_with_len, map-range_with_len_more}
use Rattle.bridge_score.specs.Ranking.{IsLine}
use Rattle.bridge_ranking.specs.Ranking.{line_of}
use Rattle.bridge_ranking.proofs.Gains.{lines_apart}
use Rattle.bridge_ranking.proofs.gain.lines_from.Goals as goal

pub push-requires : goal.push-requires
push-requires c =
    let numbers = range_with_len c.args.first c.loop-index.index in
    let count = ap length c.loop-index.invariant.lines ∙ length-map numbers (line_of c.args.scoring c.args.games.now) ∙ length-range_with_len c.args.first c.loop-index.index in
    (omega arith, omega (arith, count, c.loop-index-test.true, c.requires.most, c.requires.least))

pub loop-index-preserved : goal.loop-index-preserved
loop-index-preserved c =
    let f = line_of c.args.scoring c.args.games.now in
    let lines = c.loop-index.lines.items in
    let index = c.loop-index.index in
    record {
      lines = c.push.ensures.items
          ∙ ap (λ ls. ls ++ c.line_of.result ∷ []) c.loop-index.invariant.lines
          ∙ ap (λ line. map f (range_with_len c.args.first index) ++ line ∷ []) c.line_of.ensures.line
          ∙ sym (map-range_with_len_more f c.args.first index (c.args.first + index) refl);
      within = subst (All (IsLine c.args.scoring)) (sym c.push.ensures.items) (All-push (IsLine c.args.scoring) lines c.line_of.result c.loop-index.invariant.within c.line_of.ensures.within);
    }

pub returns-clause-pairs : goal.returns-clause-pairs
returns-clause-pairs c =
    lines_apart c.args.scoring c.args.games.now c.args.first c.loop-index.index c.loop-index.lines.items c.loop-index.invariant.lines
