-- The answers of the search: of a position by those after its cards, and after a card by that of what is left.
use Rattle.std.proofs.Common.{◌≡◌, ℕ, suc, ◌+◌, ◌-◌, ◌*◌, ◌<◌, ◌⊎◌, inl, inr, Bool, true, false, not, ◌&&◌, ◌||◌, ◌==◌, nat_le, List, [], ◌∷◌, ◌++◌, length, Option, IsTrue, refl, sym, ap, ◌∙◌, subst, arith, length-append}
use Rattle.std.proofs.lemmas.Bool.{eq-eqb, ne_eqb, and_parts}
use Rattle.std.proofs.lemmas.Bool.Decides.{nat_tests}
use Rattle.bridge_cards.specs.declared.suit.Suit.{Suit}
use Rattle.bridge_cards.specs.declared.seat.Seat.{Seat}
use Rattle.bridge_cards.specs.declared.seat.Side.{Side}
use Rattle.bridge_cards.specs.Seat.{clockwise_from, side_of}
use Rattle.bridge_cards.specs.Card.{same_suit}
use Rattle.bridge_cards.specs.CardSet.{card_count, deck, has_card}
use Rattle.bridge_cards.specs.Trick.{next_leader}
use Rattle.bridge_cards.proofs.CardSetLaws.{has_card-zero}
use Rattle.bridge_cards.proofs.CardCounts.{count_by-without}
use Rattle.bridge_endings.specs.declared.answer.Answer.{Answer}
use Rattle.bridge_endings.specs.Worth.{dealt, may_be_played, after_playing, trick_for, worth_with}
use Rattle.bridge_endings.specs.Left.{left_to, is_sought, IsForegone}
use Rattle.bridge_endings.specs.Sure.{IsSure, settled_by_one}
use Rattle.bridge_endings.specs.Agree.{IsDealtOut, IsUpward, Settles, IsRanked}
use Rattle.bridge_endings.specs.Closed.{is_held, closed, opened}
use Rattle.bridge_endings.specs.SearchValue.{IsAnswer}
use Rattle.bridge_endings.proofs.WorthSteps.{after_playing-left_to}
use Rattle.bridge_endings.proofs.Settling.{settles_here, settles_found, settles_all, settles_none, settles_needless, settles_beyond, settles_whole}
use Rattle.bridge_endings.proofs.Answered.{IsAnswered, upward_none, upward_union, within_left, within_right, ranked_more, counts_le}
use Rattle.std.proofs.Math.Path.{fun_ext}
use Rattle.bridge_endings.proofs.Closing.{none_holds, closed_out, upward_opened, settles_closed}
use Rattle.bridge_endings.proofs.SureTrick.{sure_settles}

-- an answer is that of the position itself
pub told_here : (held : Seat → ℕ → Bool) → IsDealtOut held → (trump : Option Suit) (tricks need : ℕ) (leader : Seat) (answer : Answer) → IsAnswer trump (4 * tricks) need answer held leader [] → answer.yes ≡ nat_le need (worth_with trump (4 * tricks) held leader [])
told_here held out trump tricks need leader answer is =
    sym (settles_here trump (4 * tricks) need (has_card answer.counts) answer.yes held leader [] out is.settled)

-- a trick begins, and nothing need be searched
pub foregone : (trump : Option Suit) (tricks need : ℕ) (answer : Answer) (held : Seat → ℕ → Bool) (leader : Seat) (trick : List ℕ) → IsForegone (length trick) tricks need → answer.yes ≡ (need == 0) → answer.counts ≡ 0 → IsAnswer trump (4 * tricks - length trick) need answer held leader trick
foregone trump tricks need answer held leader trick (empty, which) says none = record { upward = upward_none answer.counts none; settled = at which }
  where
    at : (need ≡ 0) ⊎ (tricks < need) → Settles trump (4 * tricks - length trick) need (has_card answer.counts) answer.yes held leader trick
    at (inl zero_needed) =
        let is : answer.yes ≡ true = says ∙ eq-eqb need 0 zero_needed in
        rw (is, zero_needed) (settles_needless trump (4 * tricks - length trick) (has_card answer.counts) held leader trick)
    at (inr more) =
        let is : answer.yes ≡ false = says ∙ ne_eqb need 0 (λ e. omega (arith, e, more)) in
        rw is (settles_beyond trump tricks need more (has_card answer.counts) held leader trick empty)

-- the same before the first card
pub foregone_first : (trump : Option Suit) (tricks need : ℕ) (answer : Answer) (held : Seat → ℕ → Bool) (leader : Seat) → (need ≡ 0) ⊎ (tricks < need) → answer.yes ≡ (need == 0) → answer.counts ≡ 0 → IsAnswer trump (4 * tricks) need answer held leader []
foregone_first trump tricks need answer held leader which says none =
    let whole : 4 * tricks - length {A = ℕ} [] ≡ 4 * tricks = omega arith in
    subst (λ n. IsAnswer trump n need answer held leader []) whole (foregone trump tricks need answer held leader [] (refl, which) says none)

module _ (trump : Option Suit) (tricks need : ℕ) (held : Seat → ℕ → Bool) (out : IsDealtOut held) (leader : Seat) (trick : List ℕ) (part : length trick < 4) (legal : ℕ) (more : length trick < 4 * tricks) (may : (card : ℕ) → has_card legal card ≡ may_be_played (held (clockwise_from leader (length trick))) trick card) where
  abbrev side : Side
  side = side_of (clockwise_from leader (length trick))

  abbrev then : ℕ
  then = 4 * tricks - length trick - 1

  one_more : suc then ≡ 4 * tricks - length trick
  one_more = omega (arith, more)

  -- with the card that is played next
  with_one : (counts : ℕ → Bool) (answer : Bool) → Settles trump (suc then) need counts answer held leader trick → Settles trump (4 * tricks - length trick) need counts answer held leader trick
  with_one counts answer = subst (λ n. Settles trump n need counts answer held leader trick) one_more

  -- no card may be played
  pub none_legal : (answer : Answer) → legal ≡ 0 → answer.yes ≡ (need == 0) → answer.counts ≡ 0 → IsAnswer trump (4 * tricks - length trick) need answer held leader trick
  none_legal answer empty says none = record {
    upward = upward_none answer.counts none;
    settled = rw says (with_one (has_card answer.counts) (need == 0)
        (settles_none trump then need held out leader trick part (has_card answer.counts)
        (λ card. sym (may card) ∙ ap (λ cards. has_card cards card) empty ∙ has_card-zero card)));
  }

  -- a card gives the answer that the side in turn wants
  pub found : (card : ℕ) (sought : Bool) (answer : Answer) (best : ℕ) → has_card legal card ≡ true → sought ≡ is_sought side → IsAnswer trump then need answer (after_playing card held) leader (trick ++ card ∷ []) → answer.yes ≡ sought → IsAnswer trump (4 * tricks - length trick) need (record { yes = answer.yes; counts = answer.counts; best = best }) held leader trick
  found card sought answer best has is after same = record {
    upward = after.upward;
    settled = rw (same ∙ is) (with_one (has_card answer.counts) (is_sought side)
        (settles_found trump then need held out leader trick part (has_card answer.counts) card (sym (may card) ∙ has)
        (subst (λ b. Settles trump then need (has_card answer.counts) b (after_playing card held) leader (trick ++ card ∷ [])) (same ∙ is) after.settled)));
  }

  -- none does
  pub none_found : (against : Bool) (rest counts best : ℕ) → (card : ℕ) × IsTrue (has_card legal card) → IsAnswered trump then need held leader trick legal rest counts against → rest ≡ 0 → IsAnswer trump (4 * tricks - length trick) need (record { yes = against; counts = counts; best = best }) held leader trick
  none_found against rest counts best some is empty = record {
    upward = is.upward;
    settled = with_one (has_card counts) against
        (settles_all trump then need held out leader trick part (has_card counts) against some.0 (sym (may some.0) ∙ some.1)
        (λ card legal_too. is.tried card (may card ∙ legal_too) (ap (λ cards. has_card cards card) empty ∙ has_card-zero card)));
  }

-- ---- after a card

module _ (trump : Option Suit) (hands : List ℕ) (left rest : ℕ) (leader : Seat) (trick : List ℕ) (card tricks need : ℕ) (without : (other : ℕ) → has_card rest other ≡ (has_card left other && not (other == card))) where
  abbrev cards_then : ℕ
  cards_then = 4 * tricks - length trick - 1

  abbrev held_then : Seat → ℕ → Bool
  held_then = after_playing card (left_to hands left)

  same_held : left_to hands rest ≡ held_then
  same_held = after_playing-left_to hands left rest card without

  -- the trick is not whole yet
  pub after_part : (leads : Seat) (longer : List ℕ) (answer : Answer) → longer ≡ trick ++ card ∷ [] → leads ≡ leader → IsAnswer trump (4 * tricks - length longer) need answer (left_to hands rest) leads longer → IsAnswer trump cards_then need answer held_then leader (trick ++ card ∷ [])
  after_part leads longer answer is lead told =
      let long : length longer ≡ length trick + 1 = ap length is ∙ length-append trick (card ∷ []) in
      let fuel : 4 * tricks - length longer ≡ cards_then = omega arith in
      subst (λ n. IsAnswer trump n need answer held_then leader (trick ++ card ∷ [])) fuel
      (subst (λ held. IsAnswer trump (4 * tricks - length longer) need answer held leader (trick ++ card ∷ [])) same_held
      (subst (λ seat. IsAnswer trump (4 * tricks - length longer) need answer (left_to hands rest) seat (trick ++ card ∷ [])) lead
      (subst (λ cards. IsAnswer trump (4 * tricks - length longer) need answer (left_to hands rest) leads cards) is told)))

  -- it is, and its winner leads
  pub after_whole : (leads winner : Seat) (longer : List ℕ) (less : ℕ) (answer : Answer) (rank both best : ℕ) → longer ≡ trick ++ card ∷ [] → leads ≡ leader → length longer ≡ 4 → 0 < tricks
      → winner ≡ next_leader trump leads longer → less ≡ need - trick_for (side_of winner)
      → IsAnswer trump (4 * (tricks - 1)) less answer (left_to hands rest) winner []
      → IsRanked trump (has_card rank) longer → IsUpward (has_card rank)
      → ((c : ℕ) → has_card both c ≡ (has_card answer.counts c || has_card rank c))
      → IsAnswer trump cards_then need (record { yes = answer.yes; counts = both; best = best }) held_then leader (trick ++ card ∷ [])
  after_whole leads winner longer less answer rank both best is lead whole some wins need_is told ranked up union =
      let long : length longer ≡ length trick + 1 = ap length is ∙ length-append trick (card ∷ []) in
      let fuel : 4 * (tricks - 1) ≡ cards_then = omega arith in
      let played : List ℕ = trick ++ card ∷ [] in
      let winner_is : winner ≡ next_leader trump leader played = wins ∙ ap (λ seat. next_leader trump seat longer) lead ∙ ap (next_leader trump leader) is in
      let upward = upward_union answer.counts rank both union told.upward up in
      let ranked_too = ranked_more trump (has_card rank) (has_card both) (within_right answer.counts rank both union) played (subst (λ cards. IsRanked trump (has_card rank) cards) is ranked) in
      let before : Settles trump cards_then (need - trick_for (side_of (next_leader trump leader played))) (has_card answer.counts) answer.yes held_then (next_leader trump leader played) [] =
      subst (λ (seat : Seat). Settles trump cards_then (need - trick_for (side_of seat)) (has_card answer.counts) answer.yes held_then seat []) winner_is
      (subst (λ n. Settles trump cards_then n (has_card answer.counts) answer.yes held_then winner []) need_is
      (subst (λ n. Settles trump n less (has_card answer.counts) answer.yes held_then winner []) fuel
      (subst (λ held. Settles trump (4 * (tricks - 1)) less (has_card answer.counts) answer.yes held winner []) same_held told.settled))) in
      record {
        upward = upward;
        settled = settles_whole trump cards_then need (has_card answer.counts) (has_card both) (within_left answer.counts rank both union) upward answer.yes held_then leader played (sym (ap length is) ∙ whole) ranked_too before;
      }

-- ---- a sure trick

-- the card and those above it
above_too : (card a b : ℕ) → same_suit a b ≡ true → a < b → (same_suit card a && nat_le card a) ≡ true → (same_suit card b && nat_le card b) ≡ true
above_too card a b suit less does = grind (arith, nat_tests)

itself : (card : ℕ) → (same_suit card card && nat_le card card) ≡ true
itself card = grind (arith, nat_tests)

pub sure_answer : (hands : List ℕ) (left : ℕ) → IsDealtOut (left_to hands left) → (trump : Option Suit) (leader : Seat) (card counts best : ℕ) → ((led : ℕ) × IsSure trump (left_to hands left) leader card led)
    → ((other : ℕ) → has_card counts other ≡ (same_suit card other && nat_le card other)) → (tricks need : ℕ) → 0 < tricks → need ≡ settled_by_one (side_of leader) tricks → (sought : Bool) → sought ≡ is_sought (side_of leader)
    → IsAnswer trump (4 * tricks) need (record { yes = sought; counts = counts; best = best }) (left_to hands left) leader []
sure_answer hands left out trump leader card counts best sure upwards tricks need some is sought wanted =
    let up : IsUpward (has_card counts) = λ a b suit less does. upwards b ∙ above_too card a b suit less (sym (upwards a) ∙ does) in
    record {
      upward = up;
      settled = rw wanted (sure_settles trump (has_card counts) up (left_to hands left) out leader card sure.0 (upwards card ∙ itself card) sure.1 tricks need some is);
    }

-- ---- hands closed up

module _ (hands closed_hands : List ℕ) (gap : ℕ) (inside : gap < 52) (out : IsDealtOut (dealt hands)) (none : is_held (dealt hands) gap ≡ false) (is : (seat : Seat) (card : ℕ) → dealt closed_hands seat card ≡ closed gap (dealt hands seat) card) where
  same_closed : dealt closed_hands ≡ (λ seat. closed gap (dealt hands seat))
  same_closed = fun_ext {B = λ _. ℕ → Bool} (λ seat. fun_ext {B = λ _. Bool} (λ card. is seat card))

  -- hands closed up are dealt out
  pub closed_dealt : IsDealtOut (dealt closed_hands)
  closed_dealt = subst IsDealtOut (sym same_closed) (closed_out gap inside (dealt hands) out (none_holds (dealt hands) gap none))

  -- an answer of hands closed up is one of the hands, where what counts is opened
  pub closed_answer : (trump : Option Suit) (tricks need : ℕ) (counts best : ℕ) (leader : Seat) (answer : Answer) → ((card : ℕ) → has_card counts card ≡ opened gap (has_card answer.counts) card)
      → IsAnswer trump (4 * tricks) need answer (dealt closed_hands) leader []
      → IsAnswer trump (4 * tricks) need (record { yes = answer.yes; counts = counts; best = best }) (dealt hands) leader []
  closed_answer trump tricks need counts best leader answer opens told = record {
    upward = upward_opened gap inside (dealt hands) out (none_holds (dealt hands) gap none) (has_card counts) (has_card answer.counts) told.upward opens;
    settled = settles_closed gap inside trump (4 * tricks) need (has_card counts) (has_card answer.counts) told.upward opens answer.yes (dealt hands) out (none_holds (dealt hands) gap none) leader
        (subst (λ held. Settles trump (4 * tricks) need (has_card answer.counts) answer.yes held leader []) same_closed told.settled);
  }

-- a card that is gone is in no hand
pub not_there : (hands : List ℕ) (gone all gaps gap : ℕ) → ((card : ℕ) → has_card gaps card ≡ (has_card gone card && not (has_card all card))) → has_card all gap ≡ is_held (dealt hands) gap → has_card gaps gap ≡ true → is_held (dealt hands) gap ≡ false
not_there hands gone all gaps gap without is has = sym is ∙ not_true (has_card all gap) ((and_parts (has_card gone gap) (not (has_card all gap)) (sym (without gap) ∙ has)).1)
  where
    not_true : (b : Bool) → not b ≡ true → b ≡ false
    not_true true p = cc
    not_true false p = refl

-- fewer are gone once a gap is closed, and never more than there are cards
pub fewer_gone : (gone all gaps rest gap : ℕ) → ((card : ℕ) → has_card gaps card ≡ (has_card gone card && not (has_card all card))) → gap < 52 → has_card gaps gap ≡ true → ((card : ℕ) → has_card rest card ≡ (has_card gaps card && not (card == gap))) → card_count rest < card_count gone
unfolding card_count
fewer_gone gone all gaps rest gap without inside has less =
    omega (
      arith,
      count_by-without (has_card gaps) (has_card rest) gap inside has less,
      counts_le (has_card gaps) (has_card gone) (λ card is. (and_parts (has_card gone card) (not (has_card all card)) (sym (without card) ∙ is)).0) deck,
    )
