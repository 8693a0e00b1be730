use Rattle.std.proofs.Common.{◌∷◌, [], take, length, sym, ap, ◌∙◌, arith, length-append}
use Rattle.std.proofs.lemmas.List.{take_all}
use Rattle.bridge_play.specs.CardPlay.{CardPlayValue, played, with_next}
use Rattle.bridge_play.proofs.LegalCards.{one_more}
use Rattle.bridge_play.proofs.card_play.CardPlay.first.Goals as goal

pub push-requires : goal.push-requires
push-requires c =
    omega (arith, c.loop-card.invariant.few, c.loop-card-test.true, c.split_at.ensures.front_len, c.cards.ensures.few)

pub loop-card-preserved : goal.loop-card-preserved
loop-card-preserved c =
    let hands = c.args.self.now.hands in
    let contract = c.args.self.now.contract in
    let index = c.loop-card.card-index in
    let card = c.card-item.result in
    record {
      so_far = c.push.ensures ∙ ap (λ (play : CardPlayValue). with_next play card) c.loop-card.invariant.so_far
          ∙ ap (played hands contract) (sym (one_more c.split_at.result.0.now index card c.loop-card-test.true c.card-item.is));
      few = omega (
        arith,
        c.loop-card.invariant.few,
        ap (λ (play : CardPlayValue). length play.cards) c.push.ensures,
        length-append c.loop-card.play.cards (card ∷ []),
      );
    }

pub returns : goal.returns
returns c =
    c.loop-card.invariant.so_far
    ∙ ap (played c.args.self.now.hands c.args.self.now.contract)
    (take_all c.loop-card.card-index c.split_at.result.0.now c.loop-card-test.false ∙ c.split_at.ensures.front ∙ ap (take c.args.count) c.cards.ensures.cards)
