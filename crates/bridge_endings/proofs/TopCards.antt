-- Top cards: a leader whose cards no other hand beats leads them in turn, and wins a trick by each.
use Rattle.std.proofs.Common.{◌≡◌, ℕ, zero, suc, ◌+◌, ◌-◌, ◌*◌, ◌<◌, ◌≤◌, ◌⊎◌, inl, inr, Bool, true, false, not, ◌&&◌, ◌==◌, nat_le, List, [], ◌∷◌, ◌++◌, length, get_or, count_by, Option, refl, sym, ap, ◌∙◌, subst, arith, length-append}
use Rattle.std.proofs.lemmas.Bool.{and_parts, cases_eq}
use Rattle.std.proofs.lemmas.List.{get_or_append_left}
use Rattle.bridge_cards.specs.declared.suit.Suit.{Suit}
use Rattle.bridge_cards.specs.declared.seat.Seat.{Seat}
use Rattle.bridge_cards.specs.declared.seat.Side.{Side}
use Rattle.bridge_cards.specs.Seat.{clockwise_from, same_seat, side_of}
use Rattle.bridge_cards.specs.CardSet.{deck}
use Rattle.bridge_cards.specs.Trick.{beats, next_leader}
use Rattle.bridge_cards.proofs.CardCounts.{count_by-without}
use Rattle.bridge_endings.specs.TrickValue.{IsWinning}
use Rattle.bridge_endings.specs.Worth.{may_be_played, after_playing, trick_for, worth_after, worth_with}
use Rattle.bridge_endings.specs.Left.{is_sought}
use Rattle.bridge_endings.specs.Agree.{IsDealtOut}
use Rattle.bridge_endings.specs.Sure.{AreUnbeaten}
use Rattle.bridge_endings.specs.Trumps.{held_of, HasEach, IsSettledBy}
use Rattle.bridge_endings.proofs.Partners.{counted_card}
use Rattle.bridge_endings.proofs.Answered.{counts_le}
use Rattle.bridge_endings.proofs.Seats.{first_place, other_place}
use Rattle.bridge_endings.proofs.Winning.{winning_is, winning_led, winning_kept}
use Rattle.bridge_endings.proofs.WorthSteps.{worth_of_card, worth_with-suc, worth_with_le}
use Rattle.bridge_endings.proofs.SearchSteps.{worth_after-part, worth_after-whole, need_less}
use Rattle.bridge_endings.proofs.LegalCards.{may_be_played-held}
use Rattle.bridge_endings.proofs.TrickWon.{best_all, some_legal, dealt_out_after, by_one}
use Rattle.bridge_endings.proofs.SureTrick.{both_true, not_beaten_led}
use Rattle.bridge_endings.proofs.TrumpTrick.{others_hand}
use Rattle.bridge_endings.proofs.TopTrumps.{each_done, settled_by_none, settled_more, settled_then}

and_moved : (a b c : Bool) → (a && (b && c)) ≡ ((a && b) && c)
and_moved true b c = refl
and_moved false b c = refl

module _ (trump : Option Suit) (tops : ℕ → Bool) (leader : Seat) where
  abbrev side : Side
  side = side_of leader

  abbrev place : ℕ → Seat
  place k = clockwise_from leader k

  -- A trick to which the leader led one of them: it wins so far, and no hand still to play beats it.
  pub record IsRunning (top rest : ℕ) (held : Seat → ℕ → Bool) (trick : List ℕ) : Type 0 where
    pub out : IsDealtOut held
    pub unbeaten : AreUnbeaten trump tops held leader
    pub first : get_or trick 0 0 ≡ top
    pub winning : IsWinning trump trick 0
    pub done : (k : ℕ) → k < length trick → count_by (held (place k)) deck ≡ rest
    pub to_come : (k : ℕ) → length trick ≤ k → k < 4 → count_by (held (place k)) deck ≡ rest + 1
    pub behind : (k : ℕ) → length trick ≤ k → k < 4 → (card : ℕ) → held (place k) card ≡ true → beats trump top card top ≡ false

  -- what is held after a card was held before
  was_held : (held : Seat → ℕ → Bool) (played : ℕ) (seat : Seat) (card : ℕ) → after_playing played held seat card ≡ true → held seat card ≡ true
  was_held held played seat card there = (and_parts (held seat card) (not (card == played)) there).0

  still_unbeaten : (held : Seat → ℕ → Bool) (played : ℕ) → AreUnbeaten trump tops held leader → AreUnbeaten trump tops (after_playing played held) leader
  still_unbeaten held played unbeaten card top own k more few other there =
      unbeaten card top (was_held held played leader card own) k more few other (was_held held played (place k) other there)

  -- ---- one card more

  module _ (top rest : ℕ) (held : Seat → ℕ → Bool) (trick : List ℕ) (some : 0 < length trick) (part : length trick < 4) (card : ℕ) (is : IsRunning top rest held trick) (has : held (place (length trick)) card ≡ true) where
    abbrev turn : Seat
    turn = place (length trick)

    abbrev now : Seat → ℕ → Bool
    now = after_playing card held

    abbrev longer : List ℕ
    longer = trick ++ card ∷ []

    long : length longer ≡ length trick + 1
    long = length-append trick (card ∷ [])

    stays : (k : ℕ) → k < 4 → (k ≡ length trick → ⊥) → now (place k) ≡ held (place k)
    stays k few differ = others_hand held is.out turn (place k) card (other_place leader (length trick) k part few (λ e. differ (sym e))) has

    pub own_stays : now leader ≡ held leader
    own_stays =
        others_hand held is.out turn leader card
        (ap (λ (s : Seat). same_seat s turn) (sym (first_place leader)) ∙ other_place leader (length trick) 0 part (omega arith) (λ e. omega (arith, e, some))) has

    less_one : count_by (held turn) deck ≡ count_by (now turn) deck + 1
    less_one = count_by-without (held turn) (now turn) card (is.out.inside turn card has) has (λ c. refl)

    done_at : (k : ℕ) → k < length trick + 1 → (k ≡ length trick) ⊎ (k ≡ length trick → ⊥) → count_by (now (place k)) deck ≡ rest
    done_at k within (inl here) =
        subst (λ n. count_by (now (place n)) deck ≡ rest) (sym here) (omega (arith, less_one, is.to_come (length trick) (omega arith) part))
    done_at k within (inr differ) =
        ap (λ hand. count_by hand deck) (stays k (omega (arith, within, part)) differ) ∙ is.done k (omega (arith, within, differ))

    not_beaten : beats trump (get_or trick 0 0) card (get_or trick 0 0) ≡ false
    not_beaten = ap (λ led. beats trump led card led) is.first ∙ is.behind (length trick) (omega arith) part card has

    pub next : IsRunning top rest now longer
    next = record {
      out = dealt_out_after held is.out card;
      unbeaten = still_unbeaten held card is.unbeaten;
      first = get_or_append_left trick (card ∷ []) 0 0 some ∙ is.first;
      winning = winning_kept trump trick card 0 is.winning not_beaten;
      done = λ k within. done_at k (omega (arith, within, long)) (cases_eq k (length trick));
      to_come = λ k more few. ap (λ hand. count_by hand deck) (stays k few (λ e. omega (arith, e, more, long))) ∙ is.to_come k (omega (arith, more, long)) few;
      behind = λ k more few other there. is.behind k (omega (arith, more, long)) few other (was_held held card (place k) other there);
    }

  -- ---- the card led

  module _ (top rest : ℕ) (held : Seat → ℕ → Bool) (out : IsDealtOut held) (unbeaten : AreUnbeaten trump tops held leader) (each : HasEach held (suc rest)) (is_top : tops top ≡ true) (has : held leader top ≡ true) where
    abbrev then : Seat → ℕ → Bool
    then = after_playing top held

    has_first : held (place 0) top ≡ true
    has_first = ap (λ (s : Seat). held s top) (first_place leader) ∙ has

    first_done : count_by (then (place 0)) deck ≡ rest
    first_done = omega (arith, each (place 0), count_by-without (held (place 0)) (then (place 0)) top (out.inside leader top has) has_first (λ c. refl))

    pub begun : IsRunning top rest then (top ∷ [])
    begun = record {
      out = dealt_out_after held out top;
      unbeaten = still_unbeaten held top unbeaten;
      first = refl;
      winning = winning_led trump top;
      done = λ k within. let at : 0 ≡ k = omega (arith, within) in subst (λ n. count_by (then (place n)) deck ≡ rest) at first_done;
      to_come = λ k more few.
          let one : suc rest ≡ rest + 1 = omega arith in
          ap (λ hand. count_by hand deck) (others_hand held out (place 0) (place k) top (other_place leader 0 k (omega arith) few (λ e. omega (arith, e, more))) has_first) ∙ each (place k) ∙ one;
      behind = λ k more few other there. not_beaten_led trump top other (unbeaten top is_top has k more few other (was_held held top (place k) other there));
    }

    pub one_fewer : held_of tops (held leader) ≡ held_of tops (then leader) + 1
    one_fewer =
        count_by-without (λ c. tops c && held leader c) (λ c. tops c && then leader c) top (out.inside leader top has)
        (both_true (tops top) (held leader top) is_top has) (λ c. and_moved (tops c) (held leader c) (not (c == top)))

  -- ---- one trick after another

  module _ (rest : ℕ) (then : (held : Seat → ℕ → Bool) → IsDealtOut held → AreUnbeaten trump tops held leader → HasEach held rest → (need : ℕ) → IsSettledBy side (held_of tops (held leader)) rest need → nat_le need (worth_with trump (4 * rest) held leader []) ≡ is_sought side) where
    runs : (more top : ℕ) (held : Seat → ℕ → Bool) (trick : List ℕ) (need : ℕ) → length trick + more ≡ 4 → 0 < length trick → IsRunning top rest held trick → IsSettledBy side (held_of tops (held leader) + 1) (rest + 1) need
        → nat_le need (worth_after trump (worth_with trump (4 * rest + more)) held leader trick) ≡ is_sought side
    runs zero top held trick need all some is settled =
        let whole : length trick ≡ 4 = omega (arith, all) in
        let none_more : 4 * rest + 0 ≡ 4 * rest = omega arith in
        let winner : next_leader trump leader trick ≡ leader = ap (clockwise_from leader) (winning_is trump trick 0 is.winning) ∙ first_place leader in
        ap (nat_le need) (
        worth_after-whole trump (worth_with trump (4 * rest + 0)) held leader trick whole
        ∙ ap (λ (s : Seat). trick_for (side_of s) + worth_with trump (4 * rest + 0) held s []) winner
        ∙ ap (λ cards. trick_for side + worth_with trump cards held leader []) none_more)
        ∙ sym (need_less need (trick_for side) (worth_with trump (4 * rest) held leader []))
        ∙ then held is.out is.unbeaten (each_done held leader rest (λ k few. is.done k (omega (arith, few, whole)))) (need - trick_for side)
        (settled_then side side (held_of tops (held leader)) rest need refl settled)
    runs (suc more) top held trick need all some is settled =
        let turn : Seat = place (length trick) in
        let part : length trick < 4 = omega (arith, all) in
        let any = counted_card (held turn) (omega (arith, is.to_come (length trick) (omega arith) part)) in
        let legal = some_legal (held turn) trick any.0 any.1 in
        let one_less : 4 * rest + suc more ≡ suc (4 * rest + more) = omega arith in
        ap (λ cards. nat_le need (worth_after trump (worth_with trump cards) held leader trick)) one_less
        ∙ ap (nat_le need) (worth_after-part trump (worth_with trump (suc (4 * rest + more))) held leader trick part ∙ worth_with-suc trump (4 * rest + more) held leader trick)
        ∙ best_all need (worth_of_card trump (4 * rest + more) held leader trick) (may_be_played (held turn) trick) (side_of turn) (is_sought side) legal.0
        (is.out.inside turn legal.0 (may_be_played-held (held turn) trick legal.0 legal.1)) legal.1
        (λ card may.
        let has = may_be_played-held (held turn) trick card may in
        let long = length-append trick (card ∷ []) in
        runs more top (after_playing card held) (trick ++ card ∷ []) need (omega (arith, all, long)) (omega (arith, long)) (next top rest held trick some part card is has)
        (subst (λ hand. IsSettledBy side (held_of tops hand + 1) (rest + 1) need) (sym (own_stays top rest held trick some part card is has)) settled))

    lead : (held : Seat → ℕ → Bool) → IsDealtOut held → AreUnbeaten trump tops held leader → HasEach held (suc rest) → (need : ℕ) → IsSettledBy side (held_of tops (held leader)) (suc rest) need → (top : ℕ) → tops top ≡ true → held leader top ≡ true
        → nat_le need (worth_with trump (4 * suc rest) held leader []) ≡ is_sought side
    lead held out unbeaten each need settled top is_top has =
        let fuel : 4 * suc rest ≡ suc (4 * rest + 3) = omega arith in
        let more : suc rest ≡ rest + 1 = omega arith in
        let has_too : held (place 0) top ≡ true = ap (λ (s : Seat). held s top) (first_place leader) ∙ has in
        let told : nat_le need (worth_of_card trump (4 * rest + 3) held leader [] top) ≡ is_sought side =
        runs 3 top (after_playing top held) (top ∷ []) need refl (omega arith) (begun top rest held out unbeaten each is_top has)
        (subst (λ n. IsSettledBy side n (rest + 1) need) (one_fewer top rest held out unbeaten each is_top has) (subst (λ n. IsSettledBy side (held_of tops (held leader)) n need) more settled)) in
        ap (λ cards. nat_le need (worth_with trump cards held leader [])) fuel
        ∙ ap (nat_le need) (sym (worth_after-part trump (worth_with trump (suc (4 * rest + 3))) held leader [] (omega arith)))
        ∙ by_one trump (4 * rest + 3) need held leader [] (omega arith) (is_sought side) top (out.inside leader top has) (ap (λ b. b && true) has_too)
        (ap (λ (s : Seat). is_sought (side_of s)) (sym (first_place leader))) told

    one_more : (held : Seat → ℕ → Bool) → IsDealtOut held → AreUnbeaten trump tops held leader → HasEach held (suc rest) → (need : ℕ) → IsSettledBy side (held_of tops (held leader)) (suc rest) need → (held_of tops (held leader) ≡ 0) ⊎ (held_of tops (held leader) ≡ 0 → ⊥)
        → nat_le need (worth_with trump (4 * suc rest) held leader []) ≡ is_sought side
    one_more held out unbeaten each need settled (inl none) =
        settled_by_none side (suc rest) need (worth_with trump (4 * suc rest) held leader []) (subst (λ n. IsSettledBy side n (suc rest) need) none settled)
        (omega (arith, worth_with_le trump (4 * suc rest) held leader [] (omega arith)))
    one_more held out unbeaten each need settled (inr some) =
        let found = counted_card (λ c. tops c && held leader c) (omega (arith, some)) in
        let both = and_parts (tops found.0) (held leader found.0) found.1 in
        lead held out unbeaten each need settled found.0 both.0 both.1

  pub tops_run : (tricks : ℕ) (held : Seat → ℕ → Bool) → IsDealtOut held → AreUnbeaten trump tops held leader → HasEach held tricks → (need : ℕ) → IsSettledBy side (held_of tops (held leader)) tricks need → nat_le need (worth_with trump (4 * tricks) held leader []) ≡ is_sought side
  tops_run zero held out unbeaten each need settled =
      let few : held_of tops (held leader) ≤ 0 = omega (arith, each leader, counts_le (λ c. tops c && held leader c) (held leader) (λ c is. (and_parts (tops c) (held leader c) is).1) deck) in
      settled_by_none side 0 need (worth_with trump (4 * 0) held leader []) (settled_more side (held_of tops (held leader)) 0 0 need few settled)
      (omega (arith, worth_with_le trump (4 * 0) held leader [] (omega arith)))
  tops_run (suc tricks) held out unbeaten each need settled = one_more tricks (tops_run tricks) held out unbeaten each need settled (cases_eq (held_of tops (held leader)) 0)
