use Rattle.std.proofs.Common.{◌-◌, ◌<◌, List, length, get_or, sym, ap, ◌∙◌, arith}
use Rattle.std.proofs.lemmas.List.{length-map, get_or-map}
use Rattle.std.proofs.lemmas.List.FromFn.{length-map-range_with_len, get_or-map-range_with_len}
use Rattle.session_rules.specs.State.{SessionValue}
use Rattle.event_results.specs.declared.play.SectionPlay.{SectionPlay}
use Rattle.event_results.specs.EventTraveller.{event_traveller}
use Rattle.event_results.proofs.results.EventResults.traveller.Goals as goal

pub returns : goal.returns
returns c =
    let lists = c.self.inside.travellers.items in
    let lines = c.as_slice.result.now in
    let sections = c.self.inside.sections.now in
    let board = c.args.board in
    let index = c.number.result - 1 in
    let f = event_traveller sections in
    let count = sym (length-map lists (λ lines. lines.items)) ∙ ap length c.self.invariant.lines_are ∙ length-map-range_with_len f 1 36 in
    let within : index < length lists = omega (arith, count, c.number.ensures.range.0, c.number.ensures.range.1) in
    let there = c.index.ensures ∙ ap (λ i. get_or lists i c.index.result.now) c.from.ensures in
    c.as_slice.ensures.value
    ∙ ap (λ lines. lines.items) there
    ∙ sym (get_or-map (λ lines. lines.items) lists index c.index.result.now lines within)
    ∙ ap (λ (ls : List (List SectionPlay)). get_or ls index lines) c.self.invariant.lines_are
    ∙ get_or-map-range_with_len f 1 36 index c.number.result lines (omega (arith, c.number.ensures.range.0, c.number.ensures.range.1)) (omega (arith, c.number.ensures.range.0))
    ∙ ap f c.number.ensures.number
    ∙ ap (λ (ss : List SessionValue). event_traveller ss board) c.self.view_is
