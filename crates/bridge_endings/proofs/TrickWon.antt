-- A trick that a card wins so far which no hand still to play can beat: its seat wins the trick, and what is left then gives the answer.
use Rattle.std.proofs.Common.{◌≡◌, ℕ, zero, suc, ◌+◌, ◌<◌, ◌≤◌, Bool, true, false, not, ◌&&◌, ◌||◌, ◌==◌, nat_le, List, [], ◌∷◌, ◌++◌, length, map, filter, get_or, Option, refl, sym, ap, ◌∙◌, arith, length-append}
use mathlib.Core.Bool.{beq}
use Rattle.std.proofs.lemmas.Bool.{eqb-true, and_parts}
use Rattle.std.proofs.lemmas.List.{get_or_append_left}
use Rattle.bridge_cards.specs.declared.suit.Suit.{Suit}
use Rattle.bridge_cards.specs.declared.seat.Seat.{Seat}
use Rattle.bridge_cards.specs.declared.seat.Side.{Side}
use Rattle.bridge_cards.specs.Seat.{clockwise_from, same_seat, side_of}
use Rattle.bridge_cards.specs.Card.{same_suit}
use Rattle.bridge_cards.specs.CardSet.{deck}
use Rattle.bridge_cards.specs.Trick.{has_suit, beats, next_leader}
use Rattle.bridge_endings.specs.TrickValue.{IsWinning}
use Rattle.bridge_endings.specs.Worth.{may_be_played, legal_cards, after_playing, best, trick_for, worth_after, worth_with}
use Rattle.bridge_endings.specs.Left.{is_sought}
use Rattle.bridge_endings.specs.Agree.{IsDealtOut}
use Rattle.bridge_endings.proofs.Minimax.{best_found, best_none}
use Rattle.bridge_endings.proofs.TwoAnswers.{same_answer, other_answer}
use Rattle.bridge_endings.proofs.Deck.{some_such}
use Rattle.bridge_endings.proofs.Seats.{other_place}
use Rattle.bridge_endings.proofs.LegalCards.{may_be_played-held}
use Rattle.bridge_endings.proofs.Winning.{winning_is, winning_kept}
use Rattle.bridge_endings.proofs.WorthSteps.{worth_of_card, worth_with-suc}
use Rattle.bridge_endings.proofs.SearchSteps.{worth_after-part, worth_after-whole}

-- each card has one answer, so their best has it
pub best_all : (need : ℕ) (worth : ℕ → ℕ) (legal : ℕ → Bool) (side : Side) (answer : Bool) (card : ℕ) → card < 52 → legal card ≡ true → ((other : ℕ) → legal other ≡ true → nat_le need (worth other) ≡ answer) → nat_le need (best side (map worth (filter legal deck))) ≡ answer
best_all need worth legal side answer card inside may all = at (beq answer (is_sought side)) refl
  where
    at : (is : Bool) → beq answer (is_sought side) ≡ is → nat_le need (best side (map worth (filter legal deck))) ≡ answer
    at true is =
        let same = same_answer answer (is_sought side) is in
        best_found need worth legal side card inside may (all card may ∙ same) ∙ sym same
    at false is =
        let against = other_answer answer (is_sought side) is in
        best_none need worth legal side card inside may (λ other legal_too. all other legal_too ∙ against) ∙ sym against

-- ---- a hand with a card may play one

pub in_suit : (has same void : Bool) → (has && same) ≡ true → (has && (same || void)) ≡ true
in_suit true true void both = refl
in_suit true false void both = cc
in_suit false same void both = cc

not_in_suit : (has same some : Bool) → has ≡ true → some ≡ false → (has && (same || not some)) ≡ true
not_in_suit true true some is none = refl
not_in_suit true false true is none = cc
not_in_suit true false false is none = refl
not_in_suit false same some is none = cc

pub some_legal : (hand : ℕ → Bool) (trick : List ℕ) (card : ℕ) → hand card ≡ true → (legal : ℕ) × (may_be_played hand trick legal ≡ true)
some_legal hand [] card has = (card, ap (λ b. b && true) has)
some_legal hand (led ∷ others) card has = at (has_suit hand led) refl
  where
    at : (is : Bool) → has_suit hand led ≡ is → (legal : ℕ) × (may_be_played hand (led ∷ others) legal ≡ true)
    at true is =
        let such = some_such (λ c. hand c && same_suit c led) is in
        (such.0, in_suit (hand such.0) (same_suit such.0 led) (not (has_suit hand led)) such.1)
    at false is = (card, not_in_suit (hand card) (same_suit card led) (has_suit hand led) has is)

-- ---- the hands while the trick is played

pub both_false : (a b : Bool) → a ≡ false → (a && b) ≡ false
both_false true b is = cc
both_false false b is = refl

and_not : (a b : Bool) → a ≡ true → b ≡ false → (a && not b) ≡ true
and_not true true p q = cc
and_not true false p q = refl
and_not false b p q = cc

module _ (held : Seat → ℕ → Bool) (out : IsDealtOut held) (played : ℕ) where
  pub dealt_out_after : IsDealtOut (after_playing played held)
  dealt_out_after = record {
    inside = λ seat card has. out.inside seat card ((and_parts (held seat card) (not (card == played)) has).0);
    once = λ seat card has other differs. both_false (held other card) (not (card == played)) (out.once seat card ((and_parts (held seat card) (not (card == played)) has).0) other differs);
  }

  -- a card that another seat holds is still there
  pub kept_card : (seat other : Seat) (card : ℕ) → same_seat other seat ≡ false → held seat played ≡ true → held other card ≡ true → after_playing played held other card ≡ true
  kept_card seat other card differs has there = at (card == played) refl
    where
      at : (is : Bool) → (card == played) ≡ is → after_playing played held other card ≡ true
      at true is =
          let same : card ≡ played = eqb-true card played is in
          let lacks = out.once seat played has other differs in
          let there_too = ap (held other) same in
          cc
      at false is = and_not (held other card) (card == played) there is

  -- two seats hold two cards
  pub two_cards : (seat other : Seat) (card : ℕ) → same_seat other seat ≡ false → held seat played ≡ true → held other card ≡ true → card ≡ played → ⊥
  two_cards seat other card differs has there same =
      let lacks = out.once seat played has other differs in
      let there_too = ap (held other) same in
      absurd (cc)

-- ---- the answer of a position inside a trick: by one card of the side that wants it, or by all of the hand in turn

module _ (trump : Option Suit) (cards need : ℕ) (held : Seat → ℕ → Bool) (leader : Seat) (trick : List ℕ) (part : length trick < 4) (answer : Bool) where
  abbrev turn : Seat
  turn = clockwise_from leader (length trick)

  abbrev after : ℕ → ℕ
  after = worth_of_card trump cards held leader trick

  worth_here : worth_after trump (worth_with trump (suc cards)) held leader trick ≡ best (side_of turn) (map after (legal_cards (held turn) trick))
  worth_here = worth_after-part trump (worth_with trump (suc cards)) held leader trick part ∙ worth_with-suc trump cards held leader trick

  pub by_one : (card : ℕ) → card < 52 → may_be_played (held turn) trick card ≡ true → answer ≡ is_sought (side_of turn) → nat_le need (after card) ≡ answer → nat_le need (worth_after trump (worth_with trump (suc cards)) held leader trick) ≡ answer
  by_one card inside may wanted told =
      ap (nat_le need) worth_here ∙ best_found need after (may_be_played (held turn) trick) (side_of turn) card inside may (told ∙ wanted) ∙ sym wanted

  pub by_all : IsDealtOut held → (card : ℕ) → held turn card ≡ true → ((other : ℕ) → held turn other ≡ true → nat_le need (after other) ≡ answer) → nat_le need (worth_after trump (worth_with trump (suc cards)) held leader trick) ≡ answer
  by_all out card has all =
      let legal = some_legal (held turn) trick card has in
      ap (nat_le need) worth_here
      ∙ best_all need after (may_be_played (held turn) trick) (side_of turn) answer legal.0 (out.inside turn legal.0 (may_be_played-held (held turn) trick legal.0 legal.1)) legal.1
      (λ other may. all other (may_be_played-held (held turn) trick other may))

-- A trick that the card at that index wins so far. The hands still to play have cards, and none that beats it.
module _ (trump : Option Suit) (leader : Seat) (led winner index : ℕ) where
  pub record IsWon (held : Seat → ℕ → Bool) (trick : List ℕ) : Type 0 where
    pub out : IsDealtOut held
    pub first : get_or trick 0 0 ≡ led
    pub winner_is : get_or trick index 0 ≡ winner
    pub winning : IsWinning trump trick index
    pub others : (k : ℕ) → length trick ≤ k → k < 4 → (card : ℕ) × (held (clockwise_from leader k) card ≡ true)
    pub unbeaten : (k : ℕ) → length trick ≤ k → k < 4 → (card : ℕ) → held (clockwise_from leader k) card ≡ true → beats trump led card winner ≡ false

  won_after : (held : Seat → ℕ → Bool) (trick : List ℕ) → IsWon held trick → length trick < 4 → (card : ℕ) → held (clockwise_from leader (length trick)) card ≡ true → IsWon (after_playing card held) (trick ++ card ∷ [])
  won_after held trick is part card has =
      let long : length (trick ++ card ∷ []) ≡ length trick + 1 = length-append trick (card ∷ []) in
      let some : 0 < length trick = omega (arith, is.winning.within) in
      let not_beaten : beats trump (get_or trick 0 0) card (get_or trick index 0) ≡ false =
      ap (λ l. beats trump l card (get_or trick index 0)) is.first ∙ ap (beats trump led card) is.winner_is ∙ is.unbeaten (length trick) (omega arith) part card has in
      record {
        out = dealt_out_after held is.out card;
        first = get_or_append_left trick (card ∷ []) 0 0 some ∙ is.first;
        winner_is = get_or_append_left trick (card ∷ []) 0 index is.winning.within ∙ is.winner_is;
        winning = winning_kept trump trick card index is.winning not_beaten;
        others = λ k later few.
            let there = is.others k (omega arith) few in
            (there.0, kept_card held is.out card (clockwise_from leader (length trick)) (clockwise_from leader k) there.0 (other_place leader (length trick) k part few (λ e. omega arith)) has there.1);
        unbeaten = λ k later few other there.
            is.unbeaten k (omega arith) few other ((and_parts (held (clockwise_from leader k) other) (not (other == card)) there).0);
      }

  -- the answer once the trick is won is the answer before
  module _ (rest need : ℕ) (answer : Bool) (then : (held : Seat → ℕ → Bool) → nat_le need (trick_for (side_of (clockwise_from leader index)) + worth_with trump rest held (clockwise_from leader index) []) ≡ answer) where
    pub won : (more : ℕ) (held : Seat → ℕ → Bool) (trick : List ℕ) → length trick + more ≡ 4 → IsWon held trick → nat_le need (worth_after trump (worth_with trump (rest + more)) held leader trick) ≡ answer
    won zero held trick whole is =
        let seat : next_leader trump leader trick ≡ clockwise_from leader index = ap (clockwise_from leader) (winning_is trump trick index is.winning) in
        let none_more : rest + 0 ≡ rest = omega arith in
        ap (nat_le need) (
        worth_after-whole trump (worth_with trump (rest + 0)) held leader trick (omega arith)
        ∙ ap (λ (s : Seat). trick_for (side_of s) + worth_with trump (rest + 0) held s []) seat
        ∙ ap (λ cards. trick_for (side_of (clockwise_from leader index)) + worth_with trump cards held (clockwise_from leader index) []) none_more)
        ∙ then held
    won (suc more) held trick whole is =
        let part : length trick < 4 = omega arith in
        let one_less : rest + suc more ≡ suc (rest + more) = omega arith in
        let there = is.others (length trick) (omega arith) part in
        ap (λ cards. nat_le need (worth_after trump (worth_with trump cards) held leader trick)) one_less
        ∙ by_all trump (rest + more) need held leader trick part answer is.out there.0 there.1
        (λ card has. won more (after_playing card held) (trick ++ card ∷ []) (omega (arith, length-append trick (card ∷ []))) (won_after held trick is part card has))
