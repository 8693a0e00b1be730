use Rattle.std.proofs.Common.{◌<◌, ◌≤◌, [], length, get_or, sym, ap, ◌∙◌, arith}
use Rattle.std.proofs.lemmas.List.{length-map, get_or-map, get_or_past}
use Rattle.event_results.specs.Rankings.{RankingsValue}
use Rattle.event_results.proofs.rankings.FieldRankings.of_section.Goals as goal

pub returns-then-index-len : goal.returns-then-index-len
returns-then-index-len c =
    let lists = c.self.inside.by_section.items in
    let index = c.args.index in
    let within : index < length lists = omega arith in
    c.as_slice.ensures.value
    ∙ ap (λ ranking. ranking.items) c.index.ensures
    ∙ sym (get_or-map (λ ranking. ranking.items) lists index c.index.result.now [] within)
    ∙ ap (λ (r : RankingsValue). get_or r.by_section index []) c.self.view_is

pub returns-else-index-len : goal.returns-else-index-len
returns-else-index-len c =
    let lists = c.self.inside.by_section.items in
    let past : length lists ≤ c.args.index = omega arith in
    sym (get_or_past _ c.args.index [] (omega (arith, past, length-map lists (λ ranking. ranking.items))))
    ∙ ap (λ (r : RankingsValue). get_or r.by_section c.args.index []) c.self.view_is
