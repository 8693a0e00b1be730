-- A sure trick: the leader's side wins it whatever the others play, and so settles whether North and South reach what they need.
use Rattle.std.proofs.Common.{◌≡◌, ℕ, suc, ◌+◌, ◌-◌, ◌*◌, ◌/◌, ◌<◌, ◌≤◌, ◌⊎◌, inl, inr, Bool, true, false, not, ◌&&◌, ◌||◌, ◌==◌, nat_le, nat_lt, [], ◌∷◌, Option, refl, sym, ap, ◌∙◌, arith}
use Rattle.std.proofs.lemmas.Bool.{eqb-true, eq-eqb, and_parts, le-leb, lt-leb}
use Rattle.std.proofs.lemmas.Bool.Decides.{nat_tests}
use Rattle.bridge_cards.specs.declared.suit.Suit.{Suit}
use Rattle.bridge_cards.specs.declared.seat.Seat.{Seat}
use Rattle.bridge_cards.specs.declared.seat.Seat.TheVariants.{North, East, South, West}
use Rattle.bridge_cards.specs.declared.seat.Side.{Side}
use Rattle.bridge_cards.specs.declared.seat.Side.TheVariants.{NorthSouth, EastWest}
use Rattle.bridge_cards.specs.Seat.{clockwise_from, side_of}
use Rattle.bridge_cards.specs.Card.{same_suit}
use Rattle.bridge_cards.specs.Trick.{has_suit, is_trump, beats, is_or_beats}
use Rattle.bridge_endings.specs.TrickValue.{IsWinning}
use Rattle.bridge_endings.specs.Worth.{after_playing, trick_for, worth_after, worth_with}
use Rattle.bridge_endings.specs.Left.{is_sought}
use Rattle.bridge_endings.specs.Sure.{IsSure, settled_by_one}
use Rattle.bridge_endings.specs.Agree.{IsDealtOut, IsUpward, Agree, AreAlike, Settles}
use Rattle.bridge_endings.proofs.Seats.{first_place, other_place}
use Rattle.bridge_endings.proofs.Winning.{winning_led, winning_card, winning_kept}
use Rattle.bridge_endings.proofs.WorthSteps.{worth_of_card, worth_with_le}
use Rattle.bridge_endings.proofs.SearchSteps.{worth_after-part}
use Rattle.bridge_endings.proofs.Agreeing.{suit_back, suit_then, agree_back, alike_suit}
use Rattle.bridge_endings.proofs.Partners.{partner as card_like}
use Rattle.bridge_endings.proofs.AgreedTrick.{counted_above}
use Rattle.bridge_endings.proofs.TrickWon.{dealt_out_after, kept_card, two_cards, in_suit, by_one, by_all, IsWon, won}

pub both_true : (a b : Bool) → a ≡ true → b ≡ true → (a && b) ≡ true
both_true true b p q = q
both_true false b p q = cc

same_suit_too : (a b : ℕ) → same_suit b a ≡ true → same_suit a b ≡ true
same_suit_too a b same = eq-eqb (a / 13) (b / 13) (sym (eqb-true (b / 13) (a / 13) same))

-- a trick for the side settles whether so many are reached
settles : (side : Side) (tricks need worth : ℕ) → 0 < tricks → need ≡ settled_by_one side tricks → 4 * worth ≤ 4 * (tricks - 1) → nat_le need (trick_for side + worth) ≡ is_sought side
settles NorthSouth tricks need worth some is few = le-leb need (1 + worth) (omega arith)
settles EastWest tricks need worth some is few = lt-leb need (0 + worth) (omega arith)

-- ---- how the sure card compares

-- a card of the suit led in place of it
same_led : (trump : Option Suit) (card led a b : ℕ) → same_suit led card ≡ true → beats trump card a b ≡ beats trump led a b
same_led trump card led a b suit =
    let same : card / 13 ≡ led / 13 = sym (eqb-true (led / 13) (card / 13) suit) in
    ap (λ n. (same_suit a b && nat_lt b a) || ((is_trump trump a && not (is_trump trump b)) || ((a / 13 == n) && (not (b / 13 == n) && not (is_trump trump b))))) same

beats_other : (trump : Option Suit) (card led other : ℕ) → same_suit led card ≡ true → (other ≡ card → ⊥) → is_or_beats trump card card other ≡ true → beats trump led card other ≡ true
beats_other trump card led other suit differ does = at (card == other) refl
  where
    at : (is : Bool) → (card == other) ≡ is → beats trump led card other ≡ true
    at true is = absurd (differ (sym (eqb-true card other is)))
    at false is = sym (same_led trump card led card other suit) ∙ ap (λ b. b || beats trump card card other) (sym is) ∙ does

pub not_beaten_led : (trump : Option Suit) (card other : ℕ) → is_or_beats trump card card other ≡ true → beats trump card other card ≡ false
not_beaten_led trump card other does = grind (arith, nat_tests)

not_beaten : (trump : Option Suit) (card led other : ℕ) → same_suit led card ≡ true → is_or_beats trump card card other ≡ true → beats trump led other card ≡ false
not_beaten trump card led other suit does = sym (same_led trump card led other card suit) ∙ not_beaten_led trump card other does

-- the third card beats the two before
third_wins : (trump : Option Suit) (led second card : ℕ) → beats trump led card led ≡ true → beats trump led card second ≡ true → IsWinning trump (led ∷ second ∷ card ∷ []) 2
third_wins trump led second card beats_led beats_second = at (beats trump led second led) refl
  where
    at : (is : Bool) → beats trump led second led ≡ is → IsWinning trump (led ∷ second ∷ card ∷ []) 2
    at true is = winning_card trump (led ∷ second ∷ []) card 1 (winning_card trump (led ∷ []) second 0 (winning_led trump led) is) beats_second
    at false is = winning_card trump (led ∷ second ∷ []) card 0 (winning_kept trump (led ∷ []) second 0 (winning_led trump led) is) beats_led

-- ---- inside an ending

partners_side : (seat : Seat) → side_of (clockwise_from seat 2) ≡ side_of seat
partners_side North = refl
partners_side East = refl
partners_side South = refl
partners_side West = refl

module _ (trump : Option Suit) (held : Seat → ℕ → Bool) (dealt_out : IsDealtOut held) (leader : Seat) (card led : ℕ) (sure : IsSure trump held leader card led) (tricks need : ℕ) (some : 0 < tricks) (is : need ≡ settled_by_one (side_of leader) tricks) where
  abbrev partner : Seat
  partner = clockwise_from leader 2

  abbrev rest : ℕ
  rest = 4 * (tricks - 1)

  abbrev answer : Bool
  answer = is_sought (side_of leader)

  -- a seat of the side wins the trick
  then : (winner : Seat) → side_of winner ≡ side_of leader → (h : Seat → ℕ → Bool) → nat_le need (trick_for (side_of winner) + worth_with trump rest h winner []) ≡ answer
  then winner same h =
      ap (λ (s : Side). nat_le need (trick_for s + worth_with trump rest h winner [])) same
      ∙ settles (side_of leader) tricks need (worth_with trump rest h winner []) some is (omega (arith, worth_with_le trump rest h winner [] (omega arith)))

  was_held : (played : ℕ) (h : Seat → ℕ → Bool) (seat : Seat) (c : ℕ) → after_playing played h seat c ≡ true → h seat c ≡ true
  was_held played h seat c has = (and_parts (h seat c) (not (c == played)) has).0

  -- the leader plays the card
  module _ (has : held (clockwise_from leader 0) card ≡ true) where
    own_won : IsWon trump leader card card 0 (after_playing card held) (card ∷ [])
    own_won = record {
      out = dealt_out_after held dealt_out card;
      first = refl;
      winner_is = refl;
      winning = winning_led trump card;
      others = λ k later few.
          let there = sure.others k (omega arith) few in
          (there.0, kept_card held dealt_out card (clockwise_from leader 0) (clockwise_from leader k) there.0 (other_place leader 0 k (omega arith) few (λ e. omega arith)) has there.1);
      unbeaten = λ k later few other there.
          not_beaten_led trump card other (sure.beats_each k (omega arith) few other (was_held card held (clockwise_from leader k) other there));
    }

    own_answer : nat_le need (worth_of_card trump (rest + 3) held leader [] card) ≡ answer
    own_answer =
        won trump leader card card 0 rest need answer (then (clockwise_from leader 0) (ap (λ (s : Seat). side_of s) (first_place leader))) 3 (after_playing card held) (card ∷ []) (omega arith) own_won

  -- the leader plays a card of the suit, and the partner the card
  module _ (has : held partner card ≡ true) (has_led : held (clockwise_from leader 0) led ≡ true) where
    abbrev held_1 : Seat → ℕ → Bool
    held_1 = after_playing led held

    out_1 : IsDealtOut held_1
    out_1 = dealt_out_after held dealt_out led

    not_led : led ≡ card → ⊥
    not_led = two_cards held dealt_out card partner (clockwise_from leader 0) led (other_place leader 2 0 (omega arith) (omega arith) (λ e. omega arith)) has has_led

    still_1 : (k : ℕ) → 0 < k → k < 4 → (c : ℕ) → held (clockwise_from leader k) c ≡ true → held_1 (clockwise_from leader k) c ≡ true
    still_1 k more few c there = kept_card held dealt_out led (clockwise_from leader 0) (clockwise_from leader k) c (other_place leader 0 k (omega arith) few (λ e. omega arith)) has_led there

    module _ (second : ℕ) (has_second : held_1 (clockwise_from leader 1) second ≡ true) where
      abbrev held_2 : Seat → ℕ → Bool
      held_2 = after_playing second held_1

      out_2 : IsDealtOut held_2
      out_2 = dealt_out_after held_1 out_1 second

      still_2 : (k : ℕ) → 1 < k → k < 4 → (c : ℕ) → held (clockwise_from leader k) c ≡ true → held_2 (clockwise_from leader k) c ≡ true
      still_2 k more few c there =
          kept_card held_1 out_1 second (clockwise_from leader 1) (clockwise_from leader k) c (other_place leader 1 k (omega arith) few (λ e. omega arith)) has_second (still_1 k (omega arith) few c there)

      has_2 : held_2 partner card ≡ true
      has_2 = still_2 2 (omega arith) (omega arith) card has

      was_second : held (clockwise_from leader 1) second ≡ true
      was_second = was_held led held (clockwise_from leader 1) second has_second

      not_second : second ≡ card → ⊥
      not_second = two_cards held dealt_out card partner (clockwise_from leader 1) second (other_place leader 2 1 (omega arith) (omega arith) (λ e. omega arith)) has was_second

      partners_won : IsWon trump leader led card 2 (after_playing card held_2) (led ∷ second ∷ card ∷ [])
      partners_won = record {
        out = dealt_out_after held_2 out_2 card;
        first = refl;
        winner_is = refl;
        winning = third_wins trump led second card
            (beats_other trump card led led sure.suit not_led sure.not_above)
            (beats_other trump card led second sure.suit not_second (sure.beats_each 1 (omega arith) (omega arith) second was_second));
        others = λ k later few.
            let there = sure.others k (omega arith) few in
            (there.0, kept_card held_2 out_2 card partner (clockwise_from leader k) there.0 (other_place leader 2 k (omega arith) few (λ e. omega arith)) has_2 (still_2 k (omega arith) few there.0 there.1));
        unbeaten = λ k later few other there.
            let seat : Seat = clockwise_from leader k in
            not_beaten trump card led other sure.suit
            (sure.beats_each k (omega arith) few other (was_held led held seat other (was_held second held_1 seat other (was_held card held_2 seat other there))));
      }

      third_answer : nat_le need (worth_of_card trump (rest + 1) held_2 leader (led ∷ second ∷ []) card) ≡ answer
      third_answer = won trump leader led card 2 rest need answer (then partner (partners_side leader)) 1 (after_playing card held_2) (led ∷ second ∷ card ∷ []) (omega arith) partners_won

      second_answer : nat_le need (worth_of_card trump (rest + 2) held_1 leader (led ∷ []) second) ≡ answer
      second_answer =
          let one_less : rest + 2 ≡ suc (rest + 1) = omega arith in
          ap (λ cards. nat_le need (worth_after trump (worth_with trump cards) held_2 leader (led ∷ second ∷ []))) one_less
          ∙ by_one trump (rest + 1) need held_2 leader (led ∷ second ∷ []) (omega arith) answer card (dealt_out.inside partner card has)
          (in_suit (held_2 partner card) (same_suit card led) (not (has_suit (held_2 partner) led)) (both_true (held_2 partner card) (same_suit card led) has_2 (same_suit_too card led sure.suit)))
          (ap is_sought (sym (partners_side leader))) third_answer

    led_answer : nat_le need (worth_of_card trump (rest + 3) held leader [] led) ≡ answer
    led_answer =
        let one_less : rest + 3 ≡ suc (rest + 2) = omega arith in
        let there = sure.others 1 (omega arith) (omega arith) in
        ap (λ cards. nat_le need (worth_after trump (worth_with trump cards) held_1 leader (led ∷ []))) one_less
        ∙ by_all trump (rest + 2) need held_1 leader (led ∷ []) (omega arith) answer out_1 there.0 (still_1 1 (omega arith) (omega arith) there.0 there.1) second_answer

  lead_answer : (lead : ℕ) → held leader lead ≡ true → nat_le need (worth_of_card trump (rest + 3) held leader [] lead) ≡ answer → answer ≡ nat_le need (worth_with trump (4 * tricks) held leader [])
  lead_answer lead has told =
      let fuel : 4 * tricks ≡ suc (rest + 3) = omega arith in
      let has_first : held (clockwise_from leader 0) lead ≡ true = ap (λ (s : Seat). held s lead) (first_place leader) ∙ has in
      sym (
      ap (λ cards. nat_le need (worth_with trump cards held leader [])) fuel
      ∙ ap (nat_le need) (sym (worth_after-part trump (worth_with trump (suc (rest + 3))) held leader [] (omega arith)))
      ∙ by_one trump (rest + 3) need held leader [] (omega arith) answer lead (dealt_out.inside leader lead has) (ap (λ b. b && true) has_first)
      (ap (λ (s : Seat). is_sought (side_of s)) (sym (first_place leader))) told)

  -- the question that one trick settles
  pub sure_trick : answer ≡ nat_le need (worth_with trump (4 * tricks) held leader [])
  sure_trick = at sure.holder
    where
      at : (held leader card ≡ true) ⊎ (held partner card ≡ true) → answer ≡ nat_le need (worth_with trump (4 * tricks) held leader [])
      at (inl own) = lead_answer card own (own_answer (ap (λ (s : Seat). held s card) (first_place leader) ∙ own))
      at (inr partners) = lead_answer led sure.has_led (led_answer partners (ap (λ (s : Seat). held s led) (first_place leader) ∙ sure.has_led))

-- ---- at each position that agrees

-- A card that is sure here is sure there, where it counts and the cards above it.
module _ (trump : Option Suit) (counts : ℕ → Bool) (upward : IsUpward counts) (held other : Seat → ℕ → Bool) (out : IsDealtOut held) (out_too : IsDealtOut other) (same : Agree counts held other) (leader : Seat) (card led : ℕ) (does : counts card ≡ true) (sure : IsSure trump held leader card led) where
  -- each card there has one here like it
  here_like : (seat : Seat) (c : ℕ) → other seat c ≡ true → (like : ℕ) × (held seat like ≡ true) × AreAlike counts c like
  here_like seat c has = card_like counts other held (agree_back counts held other same) seat c (out_too.inside seat c has) has

  there_like : (seat : Seat) (c : ℕ) → held seat c ≡ true → (like : ℕ) × (other seat like ≡ true) × AreAlike counts c like
  there_like seat c has = card_like counts held other same seat c (out.inside seat c has) has

  pub sure_there : (then : ℕ) × IsSure trump other leader card then
  sure_there =
      let lead = there_like leader led sure.has_led in (
        lead.0,
        record {
          holder = at sure.holder;
          has_led = lead.1;
          suit = suit_then lead.0 led card (suit_back led lead.0 (alike_suit counts led lead.0 lead.2)) sure.suit;
          not_above = sym (counted_above trump counts upward card card led lead.0 does lead.2) ∙ sure.not_above;
          others = λ index some few.
              let here = sure.others index some few in
              let like = there_like (clockwise_from leader index) here.0 here.1 in
              (like.0, like.1);
          beats_each = λ index some few c has.
              let like = here_like (clockwise_from leader index) c has in
              counted_above trump counts upward card card c like.0 does like.2 ∙ sure.beats_each index some few like.0 like.1;
        },
      )
    where
      at : (held leader card ≡ true) ⊎ (held (clockwise_from leader 2) card ≡ true) → (other leader card ≡ true) ⊎ (other (clockwise_from leader 2) card ≡ true)
      at (inl own) = inl (sym (same.high leader card does) ∙ own)
      at (inr partners) = inr (sym (same.high (clockwise_from leader 2) card does) ∙ partners)

-- a sure trick settles the answer wherever the card counts
pub sure_settles : (trump : Option Suit) (counts : ℕ → Bool) → IsUpward counts → (held : Seat → ℕ → Bool) → IsDealtOut held → (leader : Seat) (card led : ℕ) → counts card ≡ true → IsSure trump held leader card led → (tricks need : ℕ) → 0 < tricks → need ≡ settled_by_one (side_of leader) tricks → Settles trump (4 * tricks) need counts (is_sought (side_of leader)) held leader []
sure_settles trump counts upward held out leader card led does sure tricks need some is other out_too [] same same_trick =
    let there = sure_there trump counts upward held other out out_too same leader card led does sure in
    sym (sure_trick trump other out_too leader card there.0 there.1 tricks need some is)
sure_settles trump counts upward held out leader card led does sure tricks need some is other out_too (c ∷ played) same same_trick = absurd (omega (arith, same_trick.long))
