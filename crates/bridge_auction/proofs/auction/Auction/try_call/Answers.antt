use Rattle.std.proofs.Common.{◌≡◌, ◌∷◌, ◌++◌, [], arith, ap, sym, length-append}
use Rattle.bridge_auction.proofs.Legality.{answers_legal}
use Rattle.bridge_auction.proofs.LegalLength.{legal_length}
use Rattle.bridge_auction.proofs.auction.Auction.try_call.Goals as goal

pub push-requires : goal.push-requires
push-requires c =
    let legal = (answers_legal c.self.inside.calls.items c.as_slice.result.now c.args.call c.answer-answer.result c.self.invariant
    c.as_slice.ensures.value c.answer-answer.ensures.answer c.answer-answer.ensures.known).0 (sym c.if-is_ok.ensures.value) in
    let few = legal_length (c.self.inside.calls.items ++ c.args.call ∷ []) legal in
    (omega arith, omega (arith, few, length-append c.self.inside.calls.items (c.args.call ∷ [])))

pub invariant_of-self : goal.invariant_of-self
invariant_of-self c =
    rw c.push.ensures.items
    ((answers_legal c.self.inside.calls.items c.as_slice.result.now c.args.call c.answer-answer.result c.self.invariant
    c.as_slice.ensures.value c.answer-answer.ensures.answer c.answer-answer.ensures.known).0 (sym c.if-is_ok.ensures.value))

pub returns-then-is_ok-clause-legal : goal.returns-then-is_ok-clause-legal
returns-then-is_ok-clause-legal c =
    let calls_are : c.self.inside.calls.items ≡ c.args.self.now.calls = ap (λ a. a.calls) c.self.view_is in
    rw (← calls_are)
    (answers_legal c.self.inside.calls.items c.as_slice.result.now c.args.call c.answer-answer.result c.self.invariant
    c.as_slice.ensures.value c.answer-answer.ensures.answer c.answer-answer.ensures.known)

pub returns-else-is_ok-clause-legal : goal.returns-else-is_ok-clause-legal
returns-else-is_ok-clause-legal c =
    let calls_are : c.self.inside.calls.items ≡ c.args.self.now.calls = ap (λ a. a.calls) c.self.view_is in
    rw (← calls_are)
    (answers_legal c.self.inside.calls.items c.as_slice.result.now c.args.call c.answer-answer.result c.self.invariant
    c.as_slice.ensures.value c.answer-answer.ensures.answer c.answer-answer.ensures.known)
