use Rattle.std.proofs.Common.{◌<◌, length, subst, sym}
use Rattle.std.specs.Prelude.{IsOk}
use Rattle.bridge_play.specs.CardPlay.{CardPlayValue}
use Rattle.bridge_play.specs.Play.{PlayValue, IsPlay, with_claims, with_card, card_answer}
use Rattle.bridge_play.proofs.Legality.{answer_accepts, ok_gives}
use Rattle.bridge_play.proofs.KeptPlay.{card_keeps}
use Rattle.bridge_play.proofs.play.Play.try_card.Goals as goal

pub push-requires : goal.push-requires
push-requires c =
    let room = ok_gives c.card_answer-answer.result (length c.args.self.now.cards < 52) c.card_answer-answer.ensures.room (sym c.if-is_ok.ensures.value) in
    subst (λ (p : PlayValue). length p.cards < 52) (sym c.self.view_is) room

pub invariant_of-self : goal.invariant_of-self
invariant_of-self c =
    let ok : IsOk (card_answer c.args.self.now c.args.seat c.args.card) =
    rw (← c.card_answer-answer.ensures.answer) (sym c.if-is_ok.ensures.value) in
    let longer = card_keeps c.args.self.now c.args.seat c.args.card (subst IsPlay c.self.view_is c.self.invariant) ok in
    subst (λ (p : CardPlayValue). IsPlay (with_claims p c.self.inside.claims c.self.inside.claim)) (sym c.push.ensures)
    (subst (λ (p : PlayValue). IsPlay (with_card p c.args.card)) (sym c.self.view_is) longer)

pub returns-then-is_ok-clause-accepted : goal.returns-then-is_ok-clause-accepted
returns-then-is_ok-clause-accepted c =
    let legal = (subst IsPlay c.self.view_is c.self.invariant).legal in
    answer_accepts c.args.self.now c.args.seat c.args.card c.card_answer-answer.result legal c.card_answer-answer.ensures.answer

pub returns-else-is_ok-clause-accepted : goal.returns-else-is_ok-clause-accepted
returns-else-is_ok-clause-accepted c =
    let legal = (subst IsPlay c.self.view_is c.self.invariant).legal in
    answer_accepts c.args.self.now c.args.seat c.args.card c.card_answer-answer.result legal c.card_answer-answer.ensures.answer
