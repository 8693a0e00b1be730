-- Top trumps win as many tricks as a seat has of them, and so what is settled by them.
use Rattle.std.proofs.Common.{◌≡◌, ℕ, zero, suc, ◌+◌, ◌-◌, ◌*◌, ◌<◌, ◌≤◌, Bool, true, false, ◌&&◌, nat_le, List, [], ◌∷◌, ◌++◌, length, count_by, Option, refl, sym, ap, ◌∙◌, subst, arith, length-append}
use Rattle.std.proofs.lemmas.Bool.{and_parts, le-leb, lt-leb}
use Rattle.bridge_cards.specs.declared.suit.Suit.{Suit}
use Rattle.bridge_cards.specs.declared.seat.Seat.{Seat}
use Rattle.bridge_cards.specs.declared.seat.Seat.TheVariants.{North, East, South, West}
use Rattle.bridge_cards.specs.declared.seat.Side.{Side}
use Rattle.bridge_cards.specs.declared.seat.Side.TheVariants.{NorthSouth, EastWest}
use Rattle.bridge_cards.specs.Seat.{clockwise_from, side_of}
use Rattle.bridge_cards.specs.CardSet.{deck}
use Rattle.bridge_cards.specs.Trick.{is_trump, next_leader}
use Rattle.bridge_endings.specs.Worth.{may_be_played, after_playing, trick_for, worth_after, worth_with}
use Rattle.bridge_endings.specs.Left.{is_sought}
use Rattle.bridge_endings.specs.Agree.{IsDealtOut, IsUpward}
use Rattle.bridge_endings.specs.Trumps.{held_of, NoneOfTheirs, HasEach, IsSettledBy}
use Rattle.bridge_endings.proofs.Partners.{counted_card}
use Rattle.bridge_endings.proofs.Answered.{counts_le}
use Rattle.bridge_endings.proofs.WorthSteps.{worth_of_card, worth_with-suc, worth_with_le}
use Rattle.bridge_endings.proofs.SearchSteps.{worth_after-part, worth_after-whole, need_less}
use Rattle.bridge_endings.proofs.LegalCards.{may_be_played-held}
use Rattle.bridge_endings.proofs.TrickWon.{best_all, some_legal}
use Rattle.bridge_endings.proofs.TrumpTrick.{one_if, IsUnderWay, won_by_side, next}

-- each seat has a place in the trick
place_of : (leader other : Seat) → (k : ℕ) × (k < 4) × (clockwise_from leader k ≡ other)
place_of North North = (0, omega arith, refl)
place_of North East = (1, omega arith, refl)
place_of North South = (2, omega arith, refl)
place_of North West = (3, omega arith, refl)
place_of East North = (3, omega arith, refl)
place_of East East = (0, omega arith, refl)
place_of East South = (1, omega arith, refl)
place_of East West = (2, omega arith, refl)
place_of South North = (2, omega arith, refl)
place_of South East = (3, omega arith, refl)
place_of South South = (0, omega arith, refl)
place_of South West = (1, omega arith, refl)
place_of West North = (1, omega arith, refl)
place_of West East = (2, omega arith, refl)
place_of West South = (3, omega arith, refl)
place_of West West = (0, omega arith, refl)

-- each seat has so many cards, if each place of the trick has
pub each_done : (held : Seat → ℕ → Bool) (leader : Seat) (rest : ℕ) → ((k : ℕ) → k < 4 → count_by (held (clockwise_from leader k)) deck ≡ rest) → HasEach held rest
each_done held leader rest done other =
    let at = place_of leader other in
    ap (λ (s : Seat). count_by (held s) deck) (sym at.2) ∙ done at.0 at.1

-- ---- what is settled

pub settled_by_none : (side : Side) (tricks need worth : ℕ) → IsSettledBy side 0 tricks need → worth ≤ tricks → nat_le need worth ≡ is_sought side
settled_by_none NorthSouth tricks need worth is few = le-leb need worth (omega (arith, is))
settled_by_none EastWest tricks need worth is few = lt-leb need worth (omega (arith, is, few))

pub settled_more : (side : Side) (won more tricks need : ℕ) → won ≤ more → IsSettledBy side won tricks need → IsSettledBy side more tricks need
settled_more NorthSouth won more tricks need le is = omega (arith, le, is)
settled_more EastWest won more tricks need le is = omega (arith, le, is)

-- after a trick that the side wins, and after any
pub settled_then : (side winner : Side) (won tricks need : ℕ) → winner ≡ side → IsSettledBy side (won + 1) (tricks + 1) need → IsSettledBy side won tricks (need - trick_for winner)
settled_then NorthSouth NorthSouth won tricks need same is = omega (arith, is)
settled_then NorthSouth EastWest won tricks need same is = absurd (cc)
settled_then EastWest NorthSouth won tricks need same is = absurd (cc)
settled_then EastWest EastWest won tricks need same is = omega (arith, is)

settled_any : (side winner : Side) (won tricks need : ℕ) → IsSettledBy side (won + 0) (tricks + 1) need → IsSettledBy side won tricks (need - trick_for winner)
settled_any NorthSouth NorthSouth won tricks need is = omega (arith, is)
settled_any NorthSouth EastWest won tricks need is = omega (arith, is)
settled_any EastWest NorthSouth won tricks need is = omega (arith, is)
settled_any EastWest EastWest won tricks need is = omega (arith, is)

module _ (trump : Option Suit) (tops : ℕ → Bool) (upward : IsUpward tops) (trumps : (card : ℕ) → tops card ≡ true → is_trump trump card ≡ true) (seat : Seat) where
  abbrev side : Side
  side = side_of seat

  abbrev place : Seat → ℕ → Seat
  place leader k = clockwise_from leader k

  abbrev UnderWay : (Seat → ℕ → Bool) → Seat → List ℕ → ℕ → Bool → Type 0
  UnderWay held leader trick rest topped = IsUnderWay trump tops upward trumps seat held leader trick rest topped

  -- ---- one trick after another

  module _ (rest : ℕ) (then : (held : Seat → ℕ → Bool) → IsDealtOut held → NoneOfTheirs tops held seat → HasEach held rest → (leader : Seat) (need : ℕ) → IsSettledBy side (held_of tops (held seat)) rest need → nat_le need (worth_with trump (4 * rest) held leader []) ≡ is_sought side) where
    after_trick : (held : Seat → ℕ → Bool) (leader : Seat) (trick : List ℕ) (topped : Bool) (need : ℕ) → length trick ≡ 4 → UnderWay held leader trick rest topped → IsSettledBy side (held_of tops (held seat) + one_if topped) (rest + 1) need
        → IsSettledBy side (held_of tops (held seat)) rest (need - trick_for (side_of (next_leader trump leader trick)))
    after_trick held leader trick true need whole is settled =
        let top = is.there refl in
        let winning = is.winner (omega (arith, whole)) in
        settled_then side (side_of (next_leader trump leader trick)) (held_of tops (held seat)) rest need
        (won_by_side trump tops upward trumps seat leader trick winning.0 top.0 winning.1 top.1 top.2 is.theirs) settled
    after_trick held leader trick false need whole is settled =
        settled_any side (side_of (next_leader trump leader trick)) (held_of tops (held seat)) rest need settled

    runs : (more : ℕ) (held : Seat → ℕ → Bool) (leader : Seat) (trick : List ℕ) (topped : Bool) (need : ℕ) → length trick + more ≡ 4 → UnderWay held leader trick rest topped → IsSettledBy side (held_of tops (held seat) + one_if topped) (rest + 1) need
        → nat_le need (worth_after trump (worth_with trump (4 * rest + more)) held leader trick) ≡ is_sought side
    runs zero held leader trick topped need all is settled =
        let winner : Seat = next_leader trump leader trick in
        let none_more : 4 * rest + 0 ≡ 4 * rest = omega arith in
        let whole : length trick ≡ 4 = omega (arith, all) in
        ap (nat_le need) (
        worth_after-whole trump (worth_with trump (4 * rest + 0)) held leader trick whole
        ∙ ap (λ cards. trick_for (side_of winner) + worth_with trump cards held winner []) none_more)
        ∙ sym (need_less need (trick_for (side_of winner)) (worth_with trump (4 * rest) held winner []))
        ∙ then held is.out is.none (each_done held leader rest (λ k few. is.done k (omega (arith, few, whole)))) winner (need - trick_for (side_of winner))
        (after_trick held leader trick topped need whole is settled)
    runs (suc more) held leader trick topped need all is settled =
        let turn : Seat = place leader (length trick) in
        let part : length trick < 4 = omega (arith, all) in
        let any = counted_card (held turn) (omega (arith, is.to_come (length trick) (omega arith) part)) in
        let legal = some_legal (held turn) trick any.0 any.1 in
        let one_less : 4 * rest + suc more ≡ suc (4 * rest + more) = omega arith in
        ap (λ cards. nat_le need (worth_after trump (worth_with trump cards) held leader trick)) one_less
        ∙ ap (nat_le need) (worth_after-part trump (worth_with trump (suc (4 * rest + more))) held leader trick part ∙ worth_with-suc trump (4 * rest + more) held leader trick)
        ∙ best_all need (worth_of_card trump (4 * rest + more) held leader trick) (may_be_played (held turn) trick) (side_of turn) (is_sought side) legal.0
        (is.out.inside turn legal.0 (may_be_played-held (held turn) trick legal.0 legal.1)) legal.1
        (λ card may.
        let step = next trump tops upward trumps seat held leader trick rest part card topped is (may_be_played-held (held turn) trick card may) in
        runs more (after_playing card held) leader (trick ++ card ∷ []) step.0 need (omega (arith, all, length-append trick (card ∷ []))) step.1
        (subst (λ n. IsSettledBy side n (rest + 1) need) step.2 settled))

  pub tops_win : (tricks : ℕ) (held : Seat → ℕ → Bool) → IsDealtOut held → NoneOfTheirs tops held seat → HasEach held tricks → (leader : Seat) (need : ℕ) → IsSettledBy side (held_of tops (held seat)) tricks need → nat_le need (worth_with trump (4 * tricks) held leader []) ≡ is_sought side
  tops_win zero held out none each leader need settled =
      let few : held_of tops (held seat) ≤ 0 = omega (arith, each seat, counts_le (λ c. tops c && held seat c) (held seat) (λ c is. (and_parts (tops c) (held seat c) is).1) deck) in
      settled_by_none side 0 need (worth_with trump (4 * 0) held leader []) (settled_more side (held_of tops (held seat)) 0 0 need few settled)
      (omega (arith, worth_with_le trump (4 * 0) held leader [] (omega arith)))
  tops_win (suc tricks) held out none each leader need settled =
      let fuel : 4 * suc tricks ≡ 4 * tricks + 4 = omega arith in
      let more : suc tricks ≡ tricks + 1 = omega arith in
      let own : ℕ = held_of tops (held seat) in
      let as_many : own ≡ own + 0 = omega arith in
      ap (λ cards. nat_le need (worth_with trump cards held leader [])) fuel
      ∙ ap (nat_le need) (sym (worth_after-part trump (worth_with trump (4 * tricks + 4)) held leader [] (omega arith)))
      ∙ runs tricks (tops_win tricks) 4 held leader [] false need refl
      (record {
        out = out;
        none = none;
        done = λ k within. absurd (omega (arith, within));
        to_come = λ k later few. each (place leader k) ∙ more;
        theirs = λ k within theirs. absurd (omega (arith, within));
        winner = λ some. absurd (omega (arith, some));
        there = λ is. absurd (cc);
        later = λ is. absurd (cc);
      })
      (subst (λ n. IsSettledBy side n (tricks + 1) need) as_many (subst (λ n. IsSettledBy side own n need) more settled))
