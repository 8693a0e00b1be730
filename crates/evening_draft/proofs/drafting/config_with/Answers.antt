use Rattle.std.proofs.Common.{◌≡◌, length, ◌-◌, drop, take, ap, subst, ◌∙◌, arith}
use Rattle.std.proofs.lemmas.List.{take_all, length-drop}
use Rattle.bridge_movement.specs.Shape.{IsShape}
use Rattle.bridge_movement.specs.declared.shape.Shape.{Shape}
use Rattle.evening_draft.specs.Draft.{drafted_pairs, boards_for}
use Rattle.evening_draft.proofs.Drafted.{heading_decides}
use Rattle.evening_draft.proofs.drafting.config_with.Goals as goal

pub returns-clause-heading : goal.returns-clause-heading
returns-clause-heading c =
    let keys = c.args.keys.now in
    let movement = c.args.movement in
    let shape = c.shape-rounds.ensures in
    let rest : take (length keys - 1) (drop 1 keys) ≡ drop 1 keys =
    take_all (length keys - 1) (drop 1 keys) (omega (arith, length-drop 1 keys)) in
    heading_decides c.args.wishes.now c.args.names.now movement keys _ c.boards_for.result _ c.requires.keys c.requires.distinct
    c.requires.nine_digits c.requires.pairs (subst IsShape shape.shape shape.limits) shape.fair
    c.boards_for.ensures.least c.boards_for.ensures.most
    (c.boards_for.ensures.boards ∙ ap (λ (s : Shape). boards_for s.rounds c.args.wishes.now.boards) shape.shape)
    (c.pairs_with.ensures ∙ ap (drafted_pairs 1 c.args.names.now) rest) c.from_fields.ensures.accepted
