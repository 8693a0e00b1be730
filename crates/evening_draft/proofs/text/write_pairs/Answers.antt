use Rattle.std.proofs.Common.{◌≡◌, map, take, subst, ap, sym, ◌∙◌, arith}
use Rattle.std.proofs.lemmas.List.{take_all}
use Rattle.page_layout.proofs.Walk.{one_taken, one_failed}
use Rattle.line_text.specs.Streams.{between, Takes}
use Rattle.bridge_config.specs.ConfigValue.{pair_of}
use Rattle.bridge_config.specs.Spelling.{pair_lines}
use Rattle.evening_draft.specs.ConfigText.{ended, text_of}
use Rattle.evening_draft.proofs.Lines.{pair_there, pair_lines_of}
use Rattle.std.proofs.lemmas.List.{get_or-map, length-map}
use Rattle.bridge_config.specs.Limits.{IsPair}
use Rattle.evening_draft.proofs.text.write_pairs.Goals as goal

pub returns-in_err-write_pair : goal.returns-in_err-write_pair
returns-in_err-write_pair g c =
    let pairs = c.args.pairs.now in
    let i = c.loop-index.index in
    one_failed ended (pair_lines 1 (map pair_of pairs)) i _ (g.W.Write.contents c.args.writer.now)
    (g.W.Write.contents c.loop-index.writer) (g.W.Write.contents c.write_pair.new.writer) c.from_residual.result
    c.loop-index.invariant c.in_err-write_pair.ensures c.from_residual.ensures.0
    (pair_there pairs i _ _ c.loop-index-test.true c.index-pairs-index.is) (omega (arith, c.loop-index-test.true, pair_lines_of pairs))

pub loop-index-preserved : goal.loop-index-preserved
loop-index-preserved g c =
    let pairs = c.args.pairs.now in
    let i = c.loop-index.index in
    one_taken ended (pair_lines 1 (map pair_of pairs)) i _ (g.W.Write.contents c.args.writer.now)
    (g.W.Write.contents c.loop-index.writer) (g.W.Write.contents c.write_pair.new.writer)
    (omega (arith, c.loop-index-test.true, pair_lines_of pairs))
    (pair_there pairs i _ _ c.loop-index-test.true c.index-pairs-index.is) c.loop-index.invariant c.in_ok-write_pair.ensures

pub returns : goal.returns
returns g c =
    let texts = pair_lines 1 (map pair_of c.args.pairs.now) in
    let whole : take c.loop-index.index texts ≡ texts =
    take_all c.loop-index.index texts (omega (arith, pair_lines_of c.args.pairs.now, c.loop-index-test.false)) in
    subst (λ lines. Takes (between (g.W.Write.contents c.args.writer.now) (g.W.Write.contents c.loop-index.writer)) (text_of lines))
    whole c.loop-index.invariant

pub write_pair-requires : goal.write_pair-requires
write_pair-requires g c =
    let pairs = c.args.pairs.now in
    let i = c.loop-index.index in
    let d = c.index-pairs-index.result in
    let all = c.requires.pairs i (pair_of d) (omega (arith, c.loop-index-test.true, length-map pairs pair_of)) in
    subst IsPair (get_or-map pair_of pairs i d (pair_of d) c.loop-index-test.true ∙ ap pair_of (sym c.index-pairs-index.is)) all
