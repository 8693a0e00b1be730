use Rattle.std.proofs.Common.{ℕ, refl, ap, ◌∙◌, ◌||◌, ◌==◌, arith}
use Rattle.std.proofs.lemmas.Bool.{or_from}
use Rattle.bridge_cards.specs.CardSet.{has_card}
use Rattle.bridge_cards.proofs.SuitText.{SpellsSuit-more, other_suit}
use Rattle.bridge_cards.proofs.deal_text.read_suit.Goals as goal

pub returns-in_err-from_letter-clause-none : goal.returns-in_err-from_letter-clause-none
returns-in_err-from_letter-clause-none c =
    rw c.from_residual.ensures
    (λ hand spelled.
    let at = spelled.ranks_only c.loop-letter.letter-index 0 (omega arith) in
    c.in_err-from_letter.ensures.none at.0 at.1 at.2)

pub loop-letter-preserved : goal.loop-letter-preserved
loop-letter-preserved c =
    let cards = c.loop-letter.cards in
    let rank = c.in_ok-from_letter in
    let added = λ (other : ℕ). c.with-cards.ensures other ∙ ap (λ card. has_card cards other || other == card) c.of-card.ensures in
    record {
      spelled = SpellsSuit-more cards c.with-cards.result c.args.suit c.args.letters.now c.loop-letter.letter-index _ rank.field-0 (omega arith) refl c.loop-letter.invariant.spelled rank.ensures.range rank.ensures.rank (cc) added;
      of_suit = λ card other.
          added card ∙ or_from _ _ (c.loop-letter.invariant.of_suit card other) (other_suit c.args.suit rank.field-0 card rank.ensures.range other);
    }
