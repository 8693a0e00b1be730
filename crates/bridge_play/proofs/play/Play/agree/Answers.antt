use Rattle.std.proofs.Common.{subst, sym}
use Rattle.std.specs.Prelude.{IsOk}
use Rattle.bridge_play.specs.Play.{PlayValue, IsPlay, with_agreement, consent_answer}
use Rattle.bridge_play.proofs.ClaimLegality.{consent_accepts}
use Rattle.bridge_play.proofs.KeptPlay.{agreement_keeps}
use Rattle.bridge_play.proofs.play.Play.agree.Goals as goal

pub invariant_of-self : goal.invariant_of-self
invariant_of-self c =
    let ok : IsOk (consent_answer c.args.self.now c.args.seat c.args.number) =
    rw (← c.consent_answer-answer.ensures) (sym c.if-is_ok.ensures.value) in
    rw c.agreed_by-self-inside.ensures
    (subst (λ (p : PlayValue). IsPlay (with_agreement p c.args.seat)) (sym c.self.view_is)
    (agreement_keeps c.args.self.now c.args.seat c.args.number (subst IsPlay c.self.view_is c.self.invariant) ok))

pub returns-then-is_ok-clause-accepted : goal.returns-then-is_ok-clause-accepted
returns-then-is_ok-clause-accepted c = consent_accepts c.args.self.now c.args.seat c.args.number c.consent_answer-answer.result c.consent_answer-answer.ensures

pub returns-else-is_ok-clause-accepted : goal.returns-else-is_ok-clause-accepted
returns-else-is_ok-clause-accepted c = consent_accepts c.args.self.now c.args.seat c.args.number c.consent_answer-answer.result c.consent_answer-answer.ensures
