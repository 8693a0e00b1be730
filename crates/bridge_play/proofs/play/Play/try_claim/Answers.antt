use Rattle.std.proofs.Common.{subst, sym}
use Rattle.std.specs.Prelude.{IsOk}
use Rattle.bridge_play.specs.Play.{PlayValue, IsPlay, with_claim, claim_answer}
use Rattle.bridge_play.proofs.ClaimLegality.{claim_accepts}
use Rattle.bridge_play.proofs.KeptPlay.{claim_keeps}
use Rattle.bridge_play.proofs.play.Play.try_claim.Goals as goal

pub invariant_of-self : goal.invariant_of-self
invariant_of-self c =
    let ok : IsOk (claim_answer c.args.self.now c.args.seat c.args.tricks) =
    rw (← c.claim_answer-answer.ensures.answer) (sym c.if-is_ok.ensures.value) in
    subst (λ (p : PlayValue). IsPlay (with_claim p c.args.seat c.args.tricks)) (sym c.self.view_is)
    (claim_keeps c.args.self.now c.args.seat c.args.tricks (subst IsPlay c.self.view_is c.self.invariant) ok)

pub returns-then-is_ok-clause-accepted : goal.returns-then-is_ok-clause-accepted
returns-then-is_ok-clause-accepted c = claim_accepts c.args.self.now c.args.seat c.args.tricks c.claim_answer-answer.result c.claim_answer-answer.ensures.answer

pub returns-else-is_ok-clause-accepted : goal.returns-else-is_ok-clause-accepted
returns-else-is_ok-clause-accepted c = claim_accepts c.args.self.now c.args.seat c.args.tricks c.claim_answer-answer.result c.claim_answer-answer.ensures.answer
