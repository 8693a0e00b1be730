use Rattle.std.proofs.Common.{◌≡◌, ◌+◌, ◌++◌, ◌∷◌, [], ℕ, List, get_or, map, refl, sym, ap, ◌∙◌, append_assoc}
use Rattle.std.specs.List.{range_with_len}
use Rattle.std.proofs.lemmas.Option.{get_or_from_slice_get}
use Rattle.std.proofs.lemmas.List.FromFn.{map-range_with_len_more}
use Rattle.bridge_ranking.specs.declared.game.Game.{Game}
use Rattle.event_ranking.specs.declared.ranking.SectionLine.{SectionLine}
use Rattle.event_ranking.specs.Joint.{joint, joint_line, of_section}
use Rattle.event_ranking.proofs.event.push_lines.Goals as goal

pub loop-offset-preserved : goal.loop-offset-preserved
loop-offset-preserved c =
    let wide = c.args.wide.now in
    let first = c.args.pairs.first in
    let offset = c.loop-offset.offset in
    let old = c.args.lines.now.items in
    let own = get_or_from_slice_get wide c.args.index c.games-own.result.now [] c.games-own.ensures.games in
    let f : ℕ → SectionLine = λ pair. of_section (c.args.index + 1) (joint_line c.args.scoring (joint wide) (get_or wide c.args.index []) pair) in
    let line : of_section (c.args.index + 1) c.joint_line.result ≡ f (first + offset)
    = ap (of_section (c.args.index + 1)) (c.joint_line.ensures ∙ ap (λ (games : List Game). joint_line c.args.scoring (joint wide) games (first + offset)) (sym own)) in
    c.in_ok-push.ensures.items
    ∙ ap (λ lines. lines ++ of_section (c.args.index + 1) c.joint_line.result ∷ []) c.loop-offset.invariant
    ∙ append_assoc old (map f (range_with_len first offset)) (of_section (c.args.index + 1) c.joint_line.result ∷ [])
    ∙ ap (λ (l : SectionLine). old ++ (map f (range_with_len first offset) ++ l ∷ [])) line
    ∙ ap (λ lines. old ++ lines) (sym (map-range_with_len_more f first offset (first + offset) refl))
