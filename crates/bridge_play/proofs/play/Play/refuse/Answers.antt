use Rattle.std.proofs.Common.{subst, sym}
use Rattle.bridge_play.specs.Play.{PlayValue, IsPlay, without_claim}
use Rattle.bridge_play.proofs.ClaimLegality.{consent_accepts}
use Rattle.bridge_play.proofs.KeptPlay.{refusal_keeps}
use Rattle.bridge_play.proofs.play.Play.refuse.Goals as goal

pub invariant_of-self : goal.invariant_of-self
invariant_of-self c =
    subst (λ (p : PlayValue). IsPlay (without_claim p)) (sym c.self.view_is)
    (refusal_keeps c.args.self.now (subst IsPlay c.self.view_is c.self.invariant))

pub returns-then-is_ok-clause-accepted : goal.returns-then-is_ok-clause-accepted
returns-then-is_ok-clause-accepted c = consent_accepts c.args.self.now c.args.seat c.args.number c.consent_answer-answer.result c.consent_answer-answer.ensures

pub returns-else-is_ok-clause-accepted : goal.returns-else-is_ok-clause-accepted
returns-else-is_ok-clause-accepted c = consent_accepts c.args.self.now c.args.seat c.args.number c.consent_answer-answer.result c.consent_answer-answer.ensures
