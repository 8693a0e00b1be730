use Rattle.std.proofs.Common.{◌≡◌, [], ℕ, List, take, refl, sym, ap, subst, ◌∙◌, arith}
use Rattle.std.proofs.lemmas.List.{take_all}
use Rattle.bridge_auction.specs.declared.contract.Contract.{Contract}
use Rattle.bridge_cards.proofs.FollowLaws.{each_may_follow-next, each_may_follow-push, may_follow_front}
use Rattle.bridge_play.specs.CardPlay.{CardPlayValue, played, with_next}
use Rattle.bridge_play.specs.Legal.{IsLegal, MayPlay, may_play}
use Rattle.bridge_play.proofs.LegalCards.{legal_cards_few, may_play_is, is_may_play, one_more}
use Rattle.bridge_play.proofs.card_play.CardPlay.from_cards.Goals as goal

test_of : (play : CardPlayValue) (hands : List ℕ) (contract : Contract) (cards : List ℕ) (card : ℕ) → play ≡ played hands contract cards
    → may_play play.hands play.contract play.cards card ≡ may_play hands contract cards card
test_of play hands contract cards card is = ap (λ (p : CardPlayValue). may_play p.hands p.contract p.cards card) is

pub returns-then-cards-gt-DECK-clause-legal : goal.returns-then-cards-gt-DECK-clause-legal
returns-then-cards-gt-DECK-clause-legal c = (
  λ some. cc,
  λ legal.
      let few = legal_cards_few c.args.deal.now c.args.contract c.args.cards.now c.new-play.ensures.deal legal in
      absurd (omega (arith, few, c.if-cards-gt-DECK.true)),
)

pub loop-card-preserved : goal.loop-card-preserved
loop-card-preserved c =
    let hands = c.args.deal.now in
    let contract = c.args.contract in
    let cards = c.args.cards.now in
    let index = c.loop-card.card-index in
    let card = c.card-item.result in
    let longer = one_more cards index card c.loop-card-test.true c.card-item.is in
    let tested = sym (test_of c.loop-card.play hands contract (take index cards) card c.loop-card.invariant.so_far)
    ∙ sym c.may_play.ensures ∙ c.if-not-may_play.false in
    record {
      so_far = c.push.ensures ∙ ap (λ (play : CardPlayValue). with_next play card) c.loop-card.invariant.so_far ∙ ap (played hands contract) (sym longer);
      legal = subst (IsLegal hands contract) (sym longer)
          (each_may_follow-push (MayPlay hands contract) (take index cards) card c.loop-card.invariant.legal
          (may_play_is hands contract (take index cards) card tested));
    }

pub returns-then-not-may_play-clause-legal : goal.returns-then-not-may_play-clause-legal
returns-then-not-may_play-clause-legal c = (
  λ some. cc,
  λ legal.
      let hands = c.args.deal.now in
      let contract = c.args.contract in
      let cards = c.args.cards.now in
      let index = c.loop-card.card-index in
      let card = c.card-item.result in
      let next = each_may_follow-next (MayPlay hands contract) cards index card legal c.loop-card-test.true c.card-item.is in
      let may = may_follow_front (MayPlay hands contract) (take index cards) card [] next in
      sym c.if-not-may_play.true ∙ c.may_play.ensures ∙ test_of c.loop-card.play hands contract (take index cards) card c.loop-card.invariant.so_far
      ∙ is_may_play hands contract (take index cards) card may,
)

pub returns-clause-legal : goal.returns-clause-legal
returns-clause-legal c = (
  λ some. subst (IsLegal c.args.deal.now c.args.contract) (take_all c.loop-card.card-index c.args.cards.now c.loop-card-test.false) c.loop-card.invariant.legal,
  λ legal. refl,
)
