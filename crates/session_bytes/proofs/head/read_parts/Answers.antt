use Rattle.std.proofs.Common.{All, map, take, sym, ap, ◌∙◌, subst}
use Rattle.std.proofs.lemmas.List.{take-map}
use Rattle.bridge_config.specs.ConfigValue.{pair_of}
use Rattle.bridge_config.specs.Limits.{IsConfiguration}
use Rattle.bridge_movement.specs.declared.shape.Shape.{Shape}
use Rattle.session_bytes.specs.PartsRead.{pair_of_part}
use Rattle.session_bytes.specs.Reading.{items_of}
use Rattle.session_bytes.specs.Head.{IsPairPart}
use Rattle.session_bytes.proofs.HeadLaws.{config_named, no_pair}
use Rattle.session_bytes.proofs.head.read_parts.Goals as goal

-- the parts of the pairs are as many as the shape has
pub returns-in_err-pairs-clause-none : goal.returns-in_err-pairs-clause-none
returns-in_err-pairs-clause-none c = rw c.from_residual-in_err-pairs.ensures λ are.
    let heading = c.in_ok-heading.heading in
    let front = c.split_at.ensures.front ∙ ap (λ n. take n c.args.rest.now) c.from-count.ensures in
    let parts = ap (map items_of) front ∙ sym (take-map items_of heading.shape.pairs c.args.rest.now) in
    let pairs = subst (λ (shape : Shape). All IsPairPart (take shape.pairs (map items_of c.args.rest.now))) (sym c.in_ok-heading.ensures.some.shape) are.pairs in
    no_pair c.split_at.result.0.now c.in_err-pairs.ensures.none (subst (All IsPairPart) (sym parts) pairs)

pub returns-clause-config : goal.returns-clause-config
returns-clause-config c =
    let heading = c.in_ok-heading.heading in
    let front = c.split_at.ensures.front ∙ ap (λ n. take n c.args.rest.now) c.from-count.ensures in
    let parts = ap (map items_of) front ∙ sym (take-map items_of heading.shape.pairs c.args.rest.now) in
    c.in_ok-config.ensures.fields
    ∙ config_named c.args.first.now c.args.second.now (map items_of c.args.rest.now) heading c.in_ok-movement.movement (map pair_of c.in_ok-pairs.pairs.items)
    c.in_ok-heading.ensures.some c.in_ok-movement.ensures.some (c.in_ok-pairs.ensures.some ∙ ap (map pair_of_part) parts)

pub returns-in_err-config-clause-none : goal.returns-in_err-config-clause-none
returns-in_err-config-clause-none c = rw c.from_residual-in_err-config.ensures λ are.
    let heading = c.in_ok-heading.heading in
    let front = c.split_at.ensures.front ∙ ap (λ n. take n c.args.rest.now) c.from-count.ensures in
    let parts = ap (map items_of) front ∙ sym (take-map items_of heading.shape.pairs c.args.rest.now) in
    let named = config_named c.args.first.now c.args.second.now (map items_of c.args.rest.now) heading c.in_ok-movement.movement (map pair_of c.in_ok-pairs.pairs.items)
    c.in_ok-heading.ensures.some c.in_ok-movement.ensures.some (c.in_ok-pairs.ensures.some ∙ ap (map pair_of_part) parts) in
    let told = c.in_err-config.ensures.accepted.1 (subst IsConfiguration (sym named) are.configured) in
    absurd cc
