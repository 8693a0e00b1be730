-- The text of a hand, and of four hands.
use Rattle.std.proofs.Common.{◌≡◌, ◌≢◌, ℕ, ◌≤◌, Bool, true, false, ◌||◌, List, ◌∷◌, ◌++◌, refl, sym, ap, ◌∙◌, cond, arith}
use Rattle.std.proofs.lemmas.List.Elements.{All-weaker}
use Rattle.std.proofs.lemmas.Bool.{or_from, ne_eqb}
use Rattle.bridge_cards.specs.declared.suit.Suit.{Suit}
use Rattle.bridge_cards.specs.declared.suit.Suit.TheVariants.{Clubs, Diamonds, Hearts, Spades}
use Rattle.bridge_cards.specs.Suit.{suit_number}
use Rattle.bridge_cards.specs.Rank.{IsRank}
use Rattle.bridge_cards.specs.Card.{card_of}
use Rattle.bridge_cards.specs.CardSet.{has_card, is_of_suit}
use Rattle.bridge_cards.specs.DealText.{space, dot, Joined, IsRankLetter, SpellsSuit, SpellsHand}
use Rattle.bridge_cards.proofs.SuitText.{rank_letter_above}
use Rattle.bridge_cards.proofs.Joining.{Lacks, joined_at, joined_lacks}

-- no separator stands in the text of a suit
pub SpellsSuit-lacks : (separator : ℕ) → separator ≤ 46 → (hand : ℕ) (suit : Suit) (letters : List ℕ) → SpellsSuit hand suit letters → Lacks separator letters
SpellsSuit-lacks separator low hand suit letters spelled =
    All-weaker IsRankLetter (λ byte. byte ≢ separator) (λ letter h e. absurd (omega (arith, rank_letter_above letter h))) letters spelled.ranks_only

abbrev pub SpellsMinors : ℕ → List ℕ → Type 0
SpellsMinors hand = Joined dot (SpellsSuit hand Diamonds) (SpellsSuit hand Clubs)

abbrev pub SpellsRest : ℕ → List ℕ → Type 0
SpellsRest hand = Joined dot (SpellsSuit hand Hearts) (SpellsMinors hand)

-- no space stands in the text of a hand
pub SpellsHand-lacks : (hand : ℕ) (text : List ℕ) → SpellsHand hand text → Lacks space text
SpellsHand-lacks hand text =
    let suit = λ (s : Suit). SpellsSuit-lacks 32 (omega arith) hand s in
    joined_lacks dot space (SpellsSuit hand Spades) (SpellsRest hand) text (omega arith) (suit Spades)
    (λ rest. joined_lacks dot space (SpellsSuit hand Hearts) (SpellsMinors hand) rest (omega arith) (suit Hearts)
    (λ minors. joined_lacks dot space (SpellsSuit hand Diamonds) (SpellsSuit hand Clubs) minors (omega arith) (suit Diamonds) (suit Clubs)))

abbrev pub SpellsTwo : ℕ → ℕ → List ℕ → Type 0
SpellsTwo one two = Joined space (SpellsHand one) (SpellsHand two)

abbrev pub SpellsThree : ℕ → ℕ → ℕ → List ℕ → Type 0
SpellsThree one two three = Joined space (SpellsHand one) (SpellsTwo two three)

-- what the cuts at the dots give
pub at_dot : (hand : ℕ) (suit : Suit) (Q : List ℕ → Type 0) (text before after : List ℕ) → text ≡ before ++ dot ∷ after → Lacks dot before
    → Joined dot (SpellsSuit hand suit) Q text → SpellsSuit hand suit before × Q after
at_dot hand suit Q text before after = joined_at dot (SpellsSuit hand suit) Q text before after (SpellsSuit-lacks 46 (omega arith) hand suit)

-- what the cuts at the spaces give
pub at_space : (hand : ℕ) (Q : List ℕ → Type 0) (text before after : List ℕ) → text ≡ before ++ space ∷ after → Lacks space before
    → Joined space (SpellsHand hand) Q text → SpellsHand hand before × Q after
at_space hand Q text before after = joined_at space (SpellsHand hand) Q text before after (SpellsHand-lacks hand)

-- the text of a suit speaks of the hand's cards of that suit alone
pub SpellsSuit-same : (a b : ℕ) (suit : Suit) (letters : List ℕ) → ((rank : ℕ) → IsRank rank → has_card b (card_of suit rank) ≡ has_card a (card_of suit rank)) → SpellsSuit a suit letters → SpellsSuit b suit letters
SpellsSuit-same a b suit letters same spelled = record {
  ranks_only = spelled.ranks_only;
  once = λ rank h. spelled.once rank h ∙ sym (ap (λ t. cond t 1 0) (same rank h));
}

other_suit_number : (suit other : Suit) (rank : ℕ) → IsRank rank → suit_number suit ≢ suit_number other → is_of_suit other (card_of suit rank) ≡ false
other_suit_number suit other rank h differ = ne_eqb _ _ (λ e. differ (omega arith))

-- the set has the cards of the suit alone
abbrev pub OfSuit : ℕ → Suit → Type 0
OfSuit cards suit = (card : ℕ) → is_of_suit suit card ≡ false → has_card cards card ≡ false

-- a hand put together from its suits
pub record IsJoined (hand spades hearts diamonds clubs : ℕ) : Type 0 where
  pub of_spades : OfSuit spades Spades
  pub of_hearts : OfSuit hearts Hearts
  pub of_diamonds : OfSuit diamonds Diamonds
  pub of_clubs : OfSuit clubs Clubs
  pub joined : (card : ℕ) → has_card hand card ≡ ((has_card spades card || has_card hearts card) || (has_card diamonds card || has_card clubs card))

first_of_four : (a b c d : Bool) → b ≡ false → c ≡ false → d ≡ false → ((a || b) || (c || d)) ≡ a
first_of_four true b c d p q r = refl
first_of_four false b c d p q r = or_from b (c || d) p (or_from c d q r)

second_of_four : (a b c d : Bool) → a ≡ false → c ≡ false → d ≡ false → ((a || b) || (c || d)) ≡ b
second_of_four true b c d p q r = cc
second_of_four false true c d p q r = refl
second_of_four false false c d p q r = or_from c d q r

third_of_four : (a b c d : Bool) → a ≡ false → b ≡ false → d ≡ false → ((a || b) || (c || d)) ≡ c
third_of_four true b c d p q r = cc
third_of_four false true c d p q r = cc
third_of_four false false true d p q r = refl
third_of_four false false false d p q r = r

fourth_of_four : (a b c d : Bool) → a ≡ false → b ≡ false → c ≡ false → ((a || b) || (c || d)) ≡ d
fourth_of_four true b c d p q r = cc
fourth_of_four false true c d p q r = cc
fourth_of_four false false true d p q r = cc
fourth_of_four false false false d p q r = refl

pub spades_of : (hand s h d k : ℕ) (letters : List ℕ) → IsJoined hand s h d k → SpellsSuit s Spades letters → SpellsSuit hand Spades letters
spades_of hand s h d k letters j = SpellsSuit-same s hand Spades letters (λ rank r.
    let card = card_of Spades rank in
    j.joined card ∙ first_of_four _ _ _ _ (j.of_hearts card (other_suit_number Spades Hearts rank r (omega arith))) (j.of_diamonds card (other_suit_number Spades Diamonds rank r (omega arith))) (j.of_clubs card (other_suit_number Spades Clubs rank r (omega arith))))

pub hearts_of : (hand s h d k : ℕ) (letters : List ℕ) → IsJoined hand s h d k → SpellsSuit h Hearts letters → SpellsSuit hand Hearts letters
hearts_of hand s h d k letters j = SpellsSuit-same h hand Hearts letters (λ rank r.
    let card = card_of Hearts rank in
    j.joined card ∙ second_of_four _ _ _ _ (j.of_spades card (other_suit_number Hearts Spades rank r (omega arith))) (j.of_diamonds card (other_suit_number Hearts Diamonds rank r (omega arith))) (j.of_clubs card (other_suit_number Hearts Clubs rank r (omega arith))))

pub diamonds_of : (hand s h d k : ℕ) (letters : List ℕ) → IsJoined hand s h d k → SpellsSuit d Diamonds letters → SpellsSuit hand Diamonds letters
diamonds_of hand s h d k letters j = SpellsSuit-same d hand Diamonds letters (λ rank r.
    let card = card_of Diamonds rank in
    j.joined card ∙ third_of_four _ _ _ _ (j.of_spades card (other_suit_number Diamonds Spades rank r (omega arith))) (j.of_hearts card (other_suit_number Diamonds Hearts rank r (omega arith))) (j.of_clubs card (other_suit_number Diamonds Clubs rank r (omega arith))))

pub clubs_of : (hand s h d k : ℕ) (letters : List ℕ) → IsJoined hand s h d k → SpellsSuit k Clubs letters → SpellsSuit hand Clubs letters
clubs_of hand s h d k letters j = SpellsSuit-same k hand Clubs letters (λ rank r.
    let card = card_of Clubs rank in
    j.joined card ∙ fourth_of_four _ _ _ _ (j.of_spades card (other_suit_number Clubs Spades rank r (omega arith))) (j.of_hearts card (other_suit_number Clubs Hearts rank r (omega arith))) (j.of_diamonds card (other_suit_number Clubs Diamonds rank r (omega arith))))
