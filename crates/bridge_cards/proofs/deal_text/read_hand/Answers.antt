use Rattle.std.proofs.Common.{◌∙◌, ap, ◌||◌}
use Rattle.bridge_cards.specs.declared.suit.Suit.TheVariants.{Clubs, Diamonds, Hearts, Spades}
use Rattle.bridge_cards.specs.CardSet.{has_card}
use Rattle.bridge_cards.specs.DealText.{dot, SpellsSuit}
use Rattle.bridge_cards.proofs.HandText.{at_dot, spades_of, hearts_of, diamonds_of, clubs_of, IsJoined, SpellsMinors, SpellsRest}
use Rattle.bridge_cards.proofs.Joining.{not_joined}
use Rattle.bridge_cards.proofs.deal_text.read_hand.Goals as goal

pub returns-in_err-spades-clause-none : goal.returns-in_err-spades-clause-none
returns-in_err-spades-clause-none c =
    rw c.from_residual.ensures
    (λ hand spelled.
    not_joined dot (SpellsSuit hand Spades) (SpellsRest hand) _ c.in_err-spades.ensures.none spelled)

pub returns-in_err-hearts-clause-none : goal.returns-in_err-hearts-clause-none
returns-in_err-hearts-clause-none c =
    rw c.from_residual-in_err-hearts.ensures
    (λ hand spelled.
    let one = at_dot hand Spades (SpellsRest hand) _ _ _ c.in_ok-spades.ensures.parts c.in_ok-spades.ensures.first spelled in
    not_joined dot (SpellsSuit hand Hearts) (SpellsMinors hand) _ c.in_err-hearts.ensures.none one.1)

pub returns-in_err-diamonds-clause-none : goal.returns-in_err-diamonds-clause-none
returns-in_err-diamonds-clause-none c =
    rw c.from_residual-in_err-diamonds.ensures
    (λ hand spelled.
    let one = at_dot hand Spades (SpellsRest hand) _ _ _ c.in_ok-spades.ensures.parts c.in_ok-spades.ensures.first spelled in
    let two = at_dot hand Hearts (SpellsMinors hand) _ _ _ c.in_ok-hearts.ensures.parts c.in_ok-hearts.ensures.first one.1 in
    not_joined dot (SpellsSuit hand Diamonds) (SpellsSuit hand Clubs) _ c.in_err-diamonds.ensures.none two.1)

pub returns-in_err-spades-2-clause-none : goal.returns-in_err-spades-2-clause-none
returns-in_err-spades-2-clause-none c =
    rw c.from_residual-in_err-spades-2.ensures
    (λ hand spelled.
    let one = at_dot hand Spades (SpellsRest hand) _ _ _ c.in_ok-spades.ensures.parts c.in_ok-spades.ensures.first spelled in
    c.in_err-spades-2.ensures.none hand one.0)

pub returns-in_err-hearts-2-clause-none : goal.returns-in_err-hearts-2-clause-none
returns-in_err-hearts-2-clause-none c =
    rw c.from_residual-in_err-hearts-2.ensures
    (λ hand spelled.
    let one = at_dot hand Spades (SpellsRest hand) _ _ _ c.in_ok-spades.ensures.parts c.in_ok-spades.ensures.first spelled in
    let two = at_dot hand Hearts (SpellsMinors hand) _ _ _ c.in_ok-hearts.ensures.parts c.in_ok-hearts.ensures.first one.1 in
    c.in_err-hearts-2.ensures.none hand two.0)

pub returns-in_err-diamonds-2-clause-none : goal.returns-in_err-diamonds-2-clause-none
returns-in_err-diamonds-2-clause-none c =
    rw c.from_residual-in_err-diamonds-2.ensures
    (λ hand spelled.
    let one = at_dot hand Spades (SpellsRest hand) _ _ _ c.in_ok-spades.ensures.parts c.in_ok-spades.ensures.first spelled in
    let two = at_dot hand Hearts (SpellsMinors hand) _ _ _ c.in_ok-hearts.ensures.parts c.in_ok-hearts.ensures.first one.1 in
    let three = at_dot hand Diamonds (SpellsSuit hand Clubs) _ _ _ c.in_ok-diamonds.ensures.parts c.in_ok-diamonds.ensures.first two.1 in
    c.in_err-diamonds-2.ensures.none hand three.0)

pub returns-in_err-clubs-clause-none : goal.returns-in_err-clubs-clause-none
returns-in_err-clubs-clause-none c =
    rw c.from_residual-in_err-clubs.ensures
    (λ hand spelled.
    let one = at_dot hand Spades (SpellsRest hand) _ _ _ c.in_ok-spades.ensures.parts c.in_ok-spades.ensures.first spelled in
    let two = at_dot hand Hearts (SpellsMinors hand) _ _ _ c.in_ok-hearts.ensures.parts c.in_ok-hearts.ensures.first one.1 in
    let three = at_dot hand Diamonds (SpellsSuit hand Clubs) _ _ _ c.in_ok-diamonds.ensures.parts c.in_ok-diamonds.ensures.first two.1 in
    c.in_err-clubs.ensures.none hand three.1)

pub returns-clause-hand : goal.returns-clause-hand
returns-clause-hand c =
    let s = c.in_ok-spades-2.spades in
    let h = c.in_ok-hearts-2.hearts in
    let d = c.in_ok-diamonds-2.diamonds in
    let k = c.in_ok-clubs.clubs in
    let hand = c.union-3.result in
    let joined : IsJoined hand s h d k = record {
      of_spades = c.in_ok-spades-2.ensures.suit;
      of_hearts = c.in_ok-hearts-2.ensures.suit;
      of_diamonds = c.in_ok-diamonds-2.ensures.suit;
      of_clubs = c.in_ok-clubs.ensures.suit;
      joined = λ card.
          c.union-3.ensures.cards card
          ∙ ap (λ t. t || has_card c.union-2.result card) (c.union.ensures.cards card)
          ∙ ap (λ t. (has_card s card || has_card h card) || t) (c.union-2.ensures.cards card);
    } in
    record {
      before = _;
      after = _;
      first = spades_of hand s h d k _ joined c.in_ok-spades-2.ensures.cards;
      rest = record {
        before = _;
        after = _;
        first = hearts_of hand s h d k _ joined c.in_ok-hearts-2.ensures.cards;
        rest = record {
          before = _;
          after = _;
          first = diamonds_of hand s h d k _ joined c.in_ok-diamonds-2.ensures.cards;
          rest = clubs_of hand s h d k _ joined c.in_ok-clubs.ensures.cards;
          whole = c.in_ok-diamonds.ensures.parts;
        };
        whole = c.in_ok-hearts.ensures.parts;
      };
      whole = c.in_ok-spades.ensures.parts;
    }
