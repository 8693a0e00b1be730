use Rattle.std.proofs.Common.{◌<◌, length, sym, ap, ◌∙◌, subst, arith}
use Rattle.std.proofs.lemmas.List.{length-map, get_or-map}
use Rattle.event_ranking.specs.Wide.{AreOfSection}
use Rattle.event_ranking.proofs.wide.WideScores.games.Goals as goal

pub returns-clause-section : goal.returns-clause-section
returns-clause-section c =
    let lists = c.self.inside.games.items in
    let count = ap length c.self.view_is in
    let within : c.args.index < length lists = omega (arith, length-map lists (λ games. games.items), count, c.requires) in
    let there = c.as_slice.ensures.value ∙ ap (λ games. games.items) c.index.ensures
    ∙ sym (get_or-map (λ games. games.items) lists c.args.index c.index.result.now c.as_slice.result.now within) in
    subst AreOfSection (sym there)
    (c.self.invariant.of_sections.each c.args.index c.as_slice.result.now (omega (arith, within, length-map lists (λ games. games.items))))
