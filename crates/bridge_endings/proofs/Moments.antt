-- Moments of a play: the first, those after a card, and that no card brings its side more.
use Rattle.std.proofs.Common.{◌≡◌, ℕ, suc, ◌+◌, ◌-◌, ◌*◌, ◌<◌, ◌≤◌, ◌⊎◌, inl, inr, Bool, true, false, not, ◌&&◌, ◌==◌, nat_le, List, [], ◌∷◌, ◌++◌, length, map, filter, drop, get_or, Option, Some, None, IfSome, refl, sym, ap, ◌∙◌, subst, arith, append_assoc, length-append}
use Rattle.std.proofs.lemmas.List.{at_drop_more}
use Rattle.std.specs.List.{list_all}
use Rattle.std.proofs.Math.Path.{fun_ext}
use Rattle.std.proofs.lemmas.Bool.{cases_eq, eq-eqb, ne_eqb, cond-true, cond-false, and_parts, le-leb, lt-leb}
use Rattle.std.proofs.lemmas.Bool.Decides.{nat_tests}
use Rattle.bridge_cards.specs.declared.suit.Suit.{Suit}
use Rattle.bridge_cards.specs.declared.seat.Seat.{Seat}
use Rattle.bridge_cards.specs.declared.seat.Side.{Side}
use Rattle.bridge_cards.specs.declared.seat.Side.TheVariants.{NorthSouth, EastWest}
use Rattle.bridge_cards.specs.Seat.{clockwise_from, side_of, other_side}
use Rattle.bridge_cards.specs.CardSet.{has_card, deck, card_count}
use Rattle.bridge_cards.specs.Deal.{hand_at, IsDeal}
use Rattle.bridge_cards.specs.Trick.{next_leader}
use Rattle.bridge_cards.proofs.CardCounts.{card_count-without}
use Rattle.bridge_cards.proofs.SuitHeld.{some_card}
use Rattle.bridge_endings.specs.declared.moment.Moment as code
use Rattle.bridge_endings.specs.declared.answer.Answer.{Answer}
use Rattle.bridge_endings.specs.declared.card_cost.CardCost.{CardCost}
use Rattle.bridge_endings.specs.TrickValue.{TrickValue}
use Rattle.bridge_endings.specs.SearchValue.{IsAnswer}
use Rattle.bridge_endings.specs.Worth.{dealt, may_be_played, after_playing, trick_for, best, worth_after, worth_with}
use Rattle.bridge_endings.specs.Left.{left_to}
use Rattle.bridge_endings.specs.Agree.{IsDealtOut}
use Rattle.bridge_endings.specs.DealTricks.{tricks_of}
use Rattle.bridge_endings.specs.PlayedCards.{Moment, first_moment, turn_at, may_play, after_card, won_in_all, after_cards, are_legal, given_away, given_by, cost_of, costs_of, IsNoBetter, seen, IsMoment}
use Rattle.bridge_endings.proofs.Deck.{not_all_cards}
use Rattle.bridge_endings.proofs.Owners.{deal_dealt_out}
use Rattle.bridge_endings.proofs.Minimax.{best_found}
use Rattle.bridge_endings.proofs.LegalCards.{may_be_played-held}
use Rattle.bridge_endings.proofs.WorthSteps.{worth_of_card, worth_with-suc, worth_with_le, after_playing-left_to, trick_for_le}
use Rattle.bridge_endings.proofs.Partners.{some_counted}
use Rattle.bridge_endings.proofs.SearchSteps.{worth_after-part, need_less}
use Rattle.bridge_endings.proofs.Settling.{settles_here}
use Rattle.bridge_endings.proofs.TrickWon.{dealt_out_after}

-- ---- the deck

abbrev whole : ℕ
whole = 4503599627370495

all_there : list_all (has_card whole) deck ≡ true
unfolding has_card deck
all_there = refl

pub whole_deck-has : (card : ℕ) → card < 52 → has_card whole card ≡ true
whole_deck-has card inside = at (has_card whole card) refl
  where
    at : (is : Bool) → has_card whole card ≡ is → has_card whole card ≡ true
    at true is = is
    at false is = let never = sym all_there ∙ not_all_cards (has_card whole) card inside is in absurd (cc)

pub whole_deck-count : card_count whole ≡ 52
unfolding card_count has_card deck
whole_deck-count = refl

-- ---- the first moment

pub same_moment : (a b : Moment) → a.held ≡ b.held → a.leader ≡ b.leader → a.trick ≡ b.trick → a.left ≡ b.left → a.won ≡ b.won → a ≡ b
same_moment a b held leader trick left won =
    ap (λ (h : Seat → ℕ → Bool). let m : Moment = record { held = h; leader = a.leader; trick = a.trick; left = a.left; won = a.won } in m) held
    ∙ ap (λ (l : Seat). let m : Moment = record { held = b.held; leader = l; trick = a.trick; left = a.left; won = a.won } in m) leader
    ∙ ap (λ (t : List ℕ). let m : Moment = record { held = b.held; leader = b.leader; trick = t; left = a.left; won = a.won } in m) trick
    ∙ ap (λ (n : ℕ). let m : Moment = record { held = b.held; leader = b.leader; trick = b.trick; left = n; won = a.won } in m) left
    ∙ ap (λ (n : ℕ). let m : Moment = record { held = b.held; leader = b.leader; trick = b.trick; left = b.left; won = n } in m) won

with_all : (a b : Bool) → (a ≡ true → b ≡ true) → (a && b) ≡ a
with_all true b all = all refl
with_all false b all = refl

module _ (hands : List ℕ) (all : ℕ) (deal : IsDeal hands) (has : (card : ℕ) → card < 52 → has_card all card ≡ true) where
  pub all_left : left_to hands all ≡ dealt hands
  all_left = fun_ext {B = λ _. ℕ → Bool} (λ seat. fun_ext {B = λ _. Bool} (λ card.
      with_all (has_card (hand_at hands seat) card) (has_card all card) (λ there. has card ((deal_dealt_out hands deal).inside seat card there))))

  pub first_is : (trump : Option Suit) (trick : TrickValue) → trick.trump ≡ trump → trick.cards ≡ [] → card_count all ≡ 52
      → IsMoment trump (record { hands = hands; left = all; trick = trick; tricks = 13; won = 0 })
  first_is trump trick trumps empty count =
      let none : length trick.cards ≡ 0 = ap length empty in
      record {
        trump_is = trumps;
        dealt_out = subst IsDealtOut (sym all_left) (deal_dealt_out hands deal);
        part = omega (arith, none);
        many = omega (arith, none, count);
        few = omega arith;
      }

  pub first_seen : (declarer : Seat) (trick : TrickValue) → trick.leader ≡ clockwise_from declarer 1 → trick.cards ≡ [] → card_count all ≡ 52
      → seen (record { hands = hands; left = all; trick = trick; tricks = 13; won = 0 }) ≡ first_moment hands declarer
  first_seen declarer trick leads empty count =
      same_moment (seen (record { hands = hands; left = all; trick = trick; tricks = 13; won = 0 })) (first_moment hands declarer) all_left leads empty count refl

-- ---- after a card

pub same_trump : (trump : Option Suit) (moment : code.Moment) → IsMoment trump moment → IsMoment moment.trick.trump moment
same_trump trump moment is = subst (λ t. IsMoment t moment) (sym is.trump_is) is

module _ (trump : Option Suit) (moment : Moment) (card : ℕ) where
  abbrev played : List ℕ
  played = moment.trick ++ card ∷ []

  abbrev winner : Seat
  winner = next_leader trump moment.leader played

  abbrev goes_on : Moment
  goes_on = record { held = after_playing card moment.held; leader = moment.leader; trick = played; left = moment.left - 1; won = moment.won }

  abbrev begins : Moment
  begins = record { held = after_playing card moment.held; leader = winner; trick = []; left = moment.left - 1; won = moment.won + trick_for (side_of winner) }

  pub after_part-is : length played < 4 → after_card trump moment card ≡ goes_on
  after_part-is part = cond-false (length played == 4) begins goes_on (ne_eqb (length played) 4 (λ e. omega arith))

  pub after_whole-is : length played ≡ 4 → after_card trump moment card ≡ begins
  after_whole-is four = cond-true (length played == 4) begins goes_on (eq-eqb (length played) 4 four)

module _ (trump : Option Suit) (moment : code.Moment) (is : IsMoment trump moment) (card rest : ℕ) (may : may_play (seen moment) card ≡ true) (without : (other : ℕ) → has_card rest other ≡ (has_card moment.left other && not (other == card))) (trick : TrickValue) (played : List ℕ) (played_is : played ≡ moment.trick.cards ++ card ∷ []) where
  has : left_to moment.hands moment.left (turn_at (seen moment)) card ≡ true
  has = may_be_played-held (left_to moment.hands moment.left (turn_at (seen moment))) moment.trick.cards card may

  fewer : card_count moment.left ≡ card_count rest + 1
  fewer =
      card_count-without moment.left rest card (is.dealt_out.inside (turn_at (seen moment)) card has)
      ((and_parts (dealt moment.hands (turn_at (seen moment)) card) (has_card moment.left card) has).1) without

  long : length played ≡ length moment.trick.cards + 1
  long = ap length played_is ∙ length-append moment.trick.cards (card ∷ [])

  held_is : left_to moment.hands rest ≡ after_playing card (left_to moment.hands moment.left)
  held_is = after_playing-left_to moment.hands moment.left rest card without

  out : IsDealtOut (left_to moment.hands rest)
  out = subst IsDealtOut (sym held_is) (dealt_out_after (left_to moment.hands moment.left) is.dealt_out card)

  abbrev part : code.Moment
  part = record { hands = moment.hands; left = rest; trick = trick; tricks = moment.tricks; won = moment.won }

  pub part_is : trick.trump ≡ moment.trick.trump → trick.cards ≡ played → length trick.cards < 4 → IsMoment trump part
  part_is trumps cards few = record {
    trump_is = trumps ∙ is.trump_is;
    dealt_out = out;
    part = few;
    many = omega (arith, is.many, fewer, long, ap length cards);
    few = is.few;
  }

  pub part_seen : trick.leader ≡ moment.trick.leader → trick.cards ≡ played → length trick.cards < 4 → seen part ≡ after_card trump (seen moment) card
  part_seen leads cards few =
      same_moment (seen part) (goes_on trump (seen moment) card) held_is leads (cards ∙ played_is) (omega (arith, fewer)) refl
      ∙ sym (after_part-is trump (seen moment) card (omega (arith, few, ap length cards, ap length played_is)))

  module _ (winner : Seat) (won : ℕ) (four : length played ≡ 4) (winner_is : winner ≡ next_leader trump moment.trick.leader played) (won_is : won ≡ moment.won + trick_for (side_of winner)) where
    abbrev whole_trick : code.Moment
    whole_trick = record { hands = moment.hands; left = rest; trick = trick; tricks = moment.tricks - 1; won = won }

    pub whole_is : trick.trump ≡ moment.trick.trump → trick.cards ≡ [] → IsMoment trump whole_trick
    whole_is trumps cards = record {
      trump_is = trumps ∙ is.trump_is;
      dealt_out = out;
      part = omega (arith, ap length cards);
      many = omega (arith, is.many, fewer, long, four, ap length cards);
      few = omega (arith, is.many, is.few, long, four, fewer, won_is, trick_for_le (side_of winner));
    }

    pub whole_seen : trick.leader ≡ winner → trick.cards ≡ [] → seen whole_trick ≡ after_card trump (seen moment) card
    whole_seen leads cards =
        let wins : winner ≡ next_leader trump moment.trick.leader (moment.trick.cards ++ card ∷ []) = winner_is ∙ ap (next_leader trump moment.trick.leader) played_is in
        same_moment (seen whole_trick) (begins trump (seen moment) card) held_is (leads ∙ wins) cards (omega (arith, fewer)) (won_is ∙ ap (λ (s : Seat). moment.won + trick_for (side_of s)) wins)
        ∙ sym (after_whole-is trump (seen moment) card (sym (ap length played_is) ∙ four))

pub left_after : (trump : Option Suit) (moment : Moment) (card : ℕ) → (after_card trump moment card).left ≡ moment.left - 1
left_after trump moment card = at (length (moment.trick ++ card ∷ []) == 4) refl
  where
    at : (is : Bool) → (length (moment.trick ++ card ∷ []) == 4) ≡ is → (after_card trump moment card).left ≡ moment.left - 1
    at true is = ap (λ m. m.left) (cond-true (length (moment.trick ++ card ∷ []) == 4) (begins trump moment card) (goes_on trump moment card) is)
    at false is = ap (λ m. m.left) (cond-false (length (moment.trick ++ card ∷ []) == 4) (begins trump moment card) (goes_on trump moment card) is)

-- ---- the tricks in all

plus_more : (a b c : ℕ) → (a + b) + c ≡ a + (b + c)
plus_more a b c = omega arith

-- after a card they are those of the worth after it
pub won_after : (trump : Option Suit) (moment : Moment) (card left : ℕ) → moment.left ≡ suc left → won_in_all trump (after_card trump moment card) ≡ moment.won + worth_of_card trump left moment.held moment.leader moment.trick card
won_after trump moment card left more = at (cases_eq (length (moment.trick ++ card ∷ [])) 4)
  where
    one_less : moment.left - 1 ≡ left
    one_less = omega (arith, more)

    at : (length (moment.trick ++ card ∷ []) ≡ 4) ⊎ (length (moment.trick ++ card ∷ []) ≡ 4 → ⊥) → won_in_all trump (after_card trump moment card) ≡ moment.won + worth_of_card trump left moment.held moment.leader moment.trick card
    at (inl four) =
        let test = eq-eqb (length (moment.trick ++ card ∷ [])) 4 four in
        let seat : Seat = next_leader trump moment.leader (moment.trick ++ card ∷ []) in
        ap (won_in_all trump) (after_whole-is trump moment card four)
        ∙ ap (λ n. (moment.won + trick_for (side_of seat)) + worth_with trump n (after_playing card moment.held) seat []) one_less
        ∙ plus_more moment.won (trick_for (side_of seat)) (worth_with trump left (after_playing card moment.held) seat [])
        ∙ ap (λ n. moment.won + n) (sym (cond-true (length (moment.trick ++ card ∷ []) == 4) _ _ test))
    at (inr more_to_come) =
        let test = ne_eqb (length (moment.trick ++ card ∷ [])) 4 more_to_come in
        ap (won_in_all trump) (cond-false (length (moment.trick ++ card ∷ []) == 4) (begins trump moment card) (goes_on trump moment card) test)
        ∙ ap (λ n. moment.won + worth_with trump n (after_playing card moment.held) moment.leader (moment.trick ++ card ∷ [])) one_less
        ∙ ap (λ n. moment.won + n) (sym (cond-false (length (moment.trick ++ card ∷ []) == 4) _ _ test))

reached_itself : (n : ℕ) → nat_le n n ≡ true
reached_itself n = le-leb n n (omega arith)

at_least : (n m : ℕ) → nat_le n m ≡ true → n ≤ m
at_least n m reached = grind (arith, nat_tests)

at_most : (n m : ℕ) → nat_le (n + 1) m ≡ false → m ≤ n
at_most n m beyond = grind (arith, nat_tests)

-- the best for a side of the worths after its cards is no worse than that after one of them
best_no_worse : (worth : ℕ → ℕ) (legal : ℕ → Bool) (side : Side) (card : ℕ) → card < 52 → legal card ≡ true → (before : ℕ) → before ≡ best side (map worth (filter legal deck)) → IsNoBetter side before (worth card)
best_no_worse worth legal NorthSouth card inside may before is =
    omega (arith, is, at_least (worth card) (best NorthSouth (map worth (filter legal deck))) (best_found (worth card) worth legal NorthSouth card inside may (reached_itself (worth card))))
best_no_worse worth legal EastWest card inside may before is =
    omega (arith, is, at_most (worth card) (best EastWest (map worth (filter legal deck))) (best_found (worth card + 1) worth legal EastWest card inside may (lt-leb (worth card + 1) (worth card) (omega arith))))

more_of_both : (side : Side) (won before after : ℕ) → IsNoBetter side before after → IsNoBetter side (won + before) (won + after)
more_of_both NorthSouth won before after less = omega (arith, less)
more_of_both EastWest won before after less = omega (arith, less)

pub no_better : (trump : Option Suit) (moment : Moment) (card left : ℕ) → moment.left ≡ suc left → card < 52 → may_play moment card ≡ true
    → IsNoBetter (side_of (turn_at moment)) (won_in_all trump moment) (won_in_all trump (after_card trump moment card))
no_better trump moment card left more inside may =
    subst (λ n. IsNoBetter (side_of (turn_at moment)) (won_in_all trump moment) n) (sym (won_after trump moment card left more))
    (more_of_both (side_of (turn_at moment)) moment.won (worth_with trump moment.left moment.held moment.leader moment.trick) (worth_of_card trump left moment.held moment.leader moment.trick card)
    (best_no_worse (worth_of_card trump left moment.held moment.leader moment.trick) (may_be_played (moment.held (turn_at moment)) moment.trick) (side_of (turn_at moment)) card inside may
    (worth_with trump moment.left moment.held moment.leader moment.trick)
    (ap (λ n. worth_with trump n moment.held moment.leader moment.trick) more ∙ worth_with-suc trump left moment.held moment.leader moment.trick)))

-- no more than thirteen
pub won_few : (trump : Option Suit) (moment : code.Moment) → IsMoment trump moment → won_in_all trump (seen moment) ≤ 13
won_few trump moment is =
    omega (arith, is.few, is.many, worth_with_le trump (card_count moment.left) (left_to moment.hands moment.left) moment.trick.leader moment.trick.cards is.part)

-- what is answered of the trick at a moment is so of all the tricks
pub reached_in_all : (trump : Option Suit) (moment : code.Moment) → IsMoment trump moment → (need asked : ℕ) → asked ≡ need - moment.won → (answer : Answer)
    → IsAnswer trump (4 * moment.tricks - length moment.trick.cards) asked answer (left_to moment.hands moment.left) moment.trick.leader moment.trick.cards
    → answer.yes ≡ nat_le need (won_in_all trump (seen moment))
reached_in_all trump moment is need asked asks answer told =
    let cards : ℕ = 4 * moment.tricks - length moment.trick.cards in
    let held : Seat → ℕ → Bool = left_to moment.hands moment.left in
    let left : cards ≡ card_count moment.left = omega (arith, is.many) in
    sym (settles_here trump cards asked (has_card answer.counts) answer.yes held moment.trick.leader moment.trick.cards is.dealt_out told.settled)
    ∙ ap (λ n. nat_le n (worth_after trump (worth_with trump cards) held moment.trick.leader moment.trick.cards)) asks
    ∙ ap (nat_le (need - moment.won)) (worth_after-part trump (worth_with trump cards) held moment.trick.leader moment.trick.cards is.part)
    ∙ ap (λ n. nat_le (need - moment.won) (worth_with trump n held moment.trick.leader moment.trick.cards)) left
    ∙ need_less need moment.won (worth_with trump (card_count moment.left) held moment.trick.leader moment.trick.cards)

-- ---- what cards gave away

-- what a side gave away with one card more
given_by-more : (side : Side) (costs : List CardCost) (cost : CardCost) → given_by side (costs ++ cost ∷ []) ≡ given_by side costs + given_by side (cost ∷ [])
given_by-more side [] cost = omega arith
given_by-more side (first ∷ costs) cost = omega (arith, given_by-more side costs cost)

given_by-one : (mover : Side) (seat : Seat) (card before after : ℕ) → mover ≡ side_of seat → IsNoBetter mover before after
    → before + given_by EastWest (record { card = card; seat = seat; tricks = given_away mover before after } ∷ []) ≡ after + given_by NorthSouth (record { card = card; seat = seat; tricks = given_away mover before after } ∷ [])
given_by-one NorthSouth seat card before after is less = rw (← is) (omega (arith, less))
given_by-one EastWest seat card before after is less = rw (← is) (omega (arith, less))

-- ---- one card

count_some : (cards card : ℕ) → card < 52 → has_card cards card ≡ true → 0 < card_count cards
unfolding card_count
count_some cards card inside has = some_counted (has_card cards) deck (some_card (has_card cards) card inside has)

module _ (trump : Option Suit) (moment next : code.Moment) (is : IsMoment trump moment) (card : ℕ) (may : may_play (seen moment) card ≡ true) (next_is : seen next ≡ after_card trump (seen moment) card) where
  inside : card < 52
  inside = is.dealt_out.inside (turn_at (seen moment)) card (may_be_played-held (left_to moment.hands moment.left (turn_at (seen moment))) moment.trick.cards card may)

  some_left : (n : ℕ) × (card_count moment.left ≡ suc n)
  some_left =
      let has = may_be_played-held (left_to moment.hands moment.left (turn_at (seen moment))) moment.trick.cards card may in
      let there = (and_parts (dealt moment.hands (turn_at (seen moment)) card) (has_card moment.left card) has).1 in
      (card_count moment.left - 1, omega (arith, count_some moment.left card inside there))

  -- it brings its side no more
  pub next_no_better : IsNoBetter (side_of (turn_at (seen moment))) (won_in_all trump (seen moment)) (won_in_all trump (seen next))
  next_no_better =
      subst (λ m. IsNoBetter (side_of (turn_at (seen moment))) (won_in_all trump (seen moment)) (won_in_all trump m)) (sym next_is)
      (no_better trump (seen moment) card some_left.0 some_left.1 inside may)

  -- and costs what it gave away
  pub next_cost : (seat : Seat) (side : Side) (before won tricks : ℕ) → seat ≡ turn_at (seen moment) → side ≡ side_of seat → before ≡ won_in_all trump (seen moment) → won ≡ won_in_all trump (seen next) → tricks ≡ given_away side before won
      → record { card = card; seat = seat; tricks = tricks } ≡ cost_of trump (seen moment) card
  next_cost seat side before won tricks seat_is side_is before_is won_is tricks_is =
      let turn : Seat = turn_at (seen moment) in
      let tricks_are : tricks ≡ given_away (side_of turn) (won_in_all trump (seen moment)) (won_in_all trump (after_card trump (seen moment) card)) =
      tricks_is
      ∙ ap (λ (s : Side). given_away s before won) (side_is ∙ ap side_of seat_is)
      ∙ ap (λ n. given_away (side_of turn) n won) before_is
      ∙ ap (given_away (side_of turn) (won_in_all trump (seen moment))) (won_is ∙ ap (won_in_all trump) next_is) in
      ap (λ (s : Seat). let cost : CardCost = record { card = card; seat = s; tricks = tricks } in cost) seat_is
      ∙ ap (λ (n : ℕ). let cost : CardCost = record { card = card; seat = turn; tricks = n } in cost) tricks_are

  -- of the cards left it is one
  pub fewer_left : card_count next.left + 1 ≡ card_count moment.left
  fewer_left = omega (arith, some_left.1, ap (λ m. m.left) next_is, left_after trump (seen moment) card)

-- one card more explains what comes of it
pub explained_more : (trump : Option Suit) (here : Moment) (card first before after : ℕ) (costs more : List CardCost) (cost : CardCost) → before ≡ won_in_all trump here → after ≡ won_in_all trump (after_card trump here card) → IsNoBetter (side_of (turn_at here)) before after → cost ≡ cost_of trump here card → more ≡ costs ++ cost ∷ []
    → first + given_by EastWest costs ≡ before + given_by NorthSouth costs
    → first + given_by EastWest more ≡ after + given_by NorthSouth more
explained_more trump here card first before after costs more cost before_is after_is less is more_is so_far =
    let seat : Seat = turn_at here in
    let cost_is : cost ≡ record { card = card; seat = seat; tricks = given_away (side_of seat) before after } =
    is
    ∙ ap (λ (n : ℕ). let cost : CardCost = record { card = card; seat = seat; tricks = given_away (side_of seat) n (won_in_all trump (after_card trump here card)) } in cost) (sym before_is)
    ∙ ap (λ (n : ℕ). let cost : CardCost = record { card = card; seat = seat; tricks = given_away (side_of seat) before n } in cost) (sym after_is) in
    omega (
      arith,
      so_far,
      ap (given_by EastWest) more_is,
      ap (given_by NorthSouth) more_is,
      given_by-more EastWest costs cost,
      given_by-more NorthSouth costs cost,
      ap (λ c. given_by EastWest (c ∷ [])) cost_is,
      ap (λ c. given_by NorthSouth (c ∷ [])) cost_is,
      given_by-one (side_of seat) seat card before after refl less,
    )

-- the same of the declarer's tricks and the defenders'
pub explained_by : (side : Side) (first last : ℕ) (costs : List CardCost) → first ≤ 13 → last ≤ 13 → first + given_by EastWest costs ≡ last + given_by NorthSouth costs
    → tricks_of side first + given_by (other_side side) costs ≡ tricks_of side last + given_by side costs
explained_by NorthSouth first last costs few few_too is = is
explained_by EastWest first last costs few few_too is = omega (arith, few, few_too, is)

-- ---- the cards so far, and one more of them

module _ (trump : Option Suit) (cards : List ℕ) (index card : ℕ) (within : index < length cards) (card_is : card ≡ get_or cards index card) (here next : Moment) (next_is : next ≡ after_card trump here card) where
  abbrev rest : List ℕ
  rest = drop (index + 1) cards

  from_here : {Y : Type 0} (f : List ℕ → Y) → f (drop index cards) ≡ f (card ∷ rest)
  from_here f = at_drop_more f cards index card within ∙ ap (λ c. f (c ∷ rest)) (sym card_is)

  pub after_more : (last : Moment) → after_cards trump here (drop index cards) ≡ last → after_cards trump next rest ≡ last
  after_more last so_far = ap (λ m. after_cards trump m rest) next_is ∙ sym (from_here (after_cards trump here)) ∙ so_far

  pub legal_more : (is : Bool) → may_play here card ≡ true → are_legal trump here (drop index cards) ≡ is → are_legal trump next rest ≡ is
  legal_more is may so_far =
      ap (λ m. are_legal trump m rest) next_is
      ∙ sym (ap (λ b. b && are_legal trump (after_card trump here card) rest) may)
      ∙ sym (from_here (are_legal trump here))
      ∙ so_far

  pub costs_more : (all costs more : List CardCost) (cost : CardCost) → cost ≡ cost_of trump here card → more ≡ costs ++ cost ∷ [] → costs ++ costs_of trump here (drop index cards) ≡ all → more ++ costs_of trump next rest ≡ all
  costs_more all costs more cost cost_is more_is so_far =
      ap (λ l. l ++ costs_of trump next rest) more_is
      ∙ append_assoc costs (cost ∷ []) (costs_of trump next rest)
      ∙ ap (λ m. costs ++ cost ∷ costs_of trump m rest) next_is
      ∙ ap (λ k. costs ++ k ∷ costs_of trump (after_card trump here card) rest) cost_is
      ∙ sym (ap (λ l. costs ++ l) (from_here (costs_of trump here)))
      ∙ so_far

-- the same of what is there, if anything is
pub explained_if_some : {A : Type 0} (items : A → List CardCost) (costs : Option A) (side : Side) (worth first last : ℕ) → first ≡ worth → worth ≤ 13 → IfSome costs (λ a. first + given_by EastWest (items a) ≡ last + given_by NorthSouth (items a)) → IfSome costs (λ a. last ≤ 13)
    → IfSome costs (λ a. tricks_of side worth + given_by (other_side side) (items a) ≡ tricks_of side last + given_by side (items a))
explained_if_some items None side worth first last is few explained few_too = tt
explained_if_some items (Some a) side worth first last is few explained few_too =
    explained_by side worth last (items a) few few_too (ap (λ n. n + given_by EastWest (items a)) (sym is) ∙ explained)

-- nothing is won at first
pub won_at_first : (trump : Option Suit) (hands : List ℕ) (declarer : Seat) → won_in_all trump (first_moment hands declarer) ≡ worth_with trump (4 * 13) (dealt hands) (clockwise_from declarer 1) []
won_at_first trump hands declarer = omega arith
