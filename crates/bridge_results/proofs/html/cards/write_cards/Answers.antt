use Rattle.std.specs.Option.{option_map}
use Rattle.std.proofs.Common.{arith}
use Rattle.bridge_results.specs.HtmlPage.{html_card_on}
use Rattle.bridge_results.proofs.WrittenRows.{number_taken, number_failed, numbers_taken}
use Rattle.bridge_results.proofs.html.cards.write_cards.Goals as goal

pub returns-in_err-write_card_of : goal.returns-in_err-write_card_of
returns-in_err-write_card_of g c =
    number_failed (html_card_on c.args.names c.args.session.now (option_map (λ ranked. ranked.items) c.args.first.now) (option_map (λ ranked. ranked.items) c.args.second.now)) c.args.pairs c.loop-pair.pair
    (g.W.Write.contents c.args.writer.now) (g.W.Write.contents c.loop-pair.writer) (g.W.Write.contents c.write_card_of.new.writer) c.from_residual.result
    c.from_residual.ensures.0 c.loop-pair.invariant.least (omega arith) c.loop-pair.invariant.taken c.in_err-write_card_of.ensures

pub loop-pair-preserved : goal.loop-pair-preserved
loop-pair-preserved g c = record {
  taken =
      number_taken (html_card_on c.args.names c.args.session.now (option_map (λ ranked. ranked.items) c.args.first.now) (option_map (λ ranked. ranked.items) c.args.second.now)) c.args.pairs c.loop-pair.pair
      (g.W.Write.contents c.args.writer.now) (g.W.Write.contents c.loop-pair.writer) (g.W.Write.contents c.write_card_of.new.writer)
      c.loop-pair.invariant.least (omega arith) c.loop-pair.invariant.taken c.in_ok-write_card_of.ensures;
  least = omega arith;
}

pub returns : goal.returns
returns g c =
    numbers_taken (html_card_on c.args.names c.args.session.now (option_map (λ ranked. ranked.items) c.args.first.now) (option_map (λ ranked. ranked.items) c.args.second.now)) c.args.pairs c.loop-pair.pair
    (g.W.Write.contents c.args.writer.now) (g.W.Write.contents c.loop-pair.writer) (omega arith) c.loop-pair.invariant.taken
