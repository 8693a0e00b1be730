use Rattle.std.proofs.Common.{◌≡◌, ◌+◌, ◌∷◌, ℕ, List, length, map, take, sym, ap, ◌∙◌}
use Rattle.arrayvec.specs.ArrayVec.{ArrayVec}
use Rattle.session_bytes.specs.declared.head.Head.{Head}
use Rattle.session_bytes.specs.Head.{head_parts, IsHead}
use Rattle.session_bytes.specs.Reading.{items_of}
use Rattle.session_bytes.proofs.HeadLaws.{first_parts, if_some}
use Rattle.session_bytes.proofs.head.read_head.Goals as goal

pub returns-clause-written : goal.returns-clause-written
returns-clause-written c =
    let first = c.as_slice.result.now in
    let second = c.as_slice-2.result.now in
    let rest = map items_of c.in_ok-second.rest.now in
    let parts : first ∷ second ∷ rest ≡ map items_of c.args.parts.now =
    ap (λ part. part ∷ second ∷ rest) c.as_slice.ensures.value
    ∙ ap (λ part. items_of c.in_ok-first.first.now ∷ part ∷ rest) c.as_slice-2.ensures.value
    ∙ ap (λ (parts : List (ArrayVec ℕ)). items_of c.in_ok-first.first.now ∷ map items_of parts) (sym c.in_ok-second.ensures.cases.0)
    ∙ ap (map items_of) (sym c.in_ok-first.ensures.cases.0) in
    if_some (λ (head : Head). IsHead head.config head.round first second rest) (λ (head : Head). head_parts head.config head.round ≡ take (2 + length head.config.pairs) (map items_of c.args.parts.now)) c.head_of.result
    (λ head is. first_parts first second rest head.config head.round is ∙ ap (take (2 + length head.config.pairs)) parts) c.head_of.ensures.written
