-- A trick of a side with top trumps: who has played one of them to it, and that it is then the side's.
use Rattle.std.proofs.Common.{◌≡◌, ℕ, ◌+◌, ◌<◌, ◌≤◌, ◌⊎◌, inl, inr, Bool, true, false, not, ◌&&◌, ◌==◌, List, [], ◌∷◌, ◌++◌, length, get_or, count_by, Option, Some, None, refl, sym, ap, ◌∙◌, subst, arith, length-append}
use Rattle.std.proofs.Math.Path.{fun_ext}
use Rattle.std.proofs.Math.Seq.{get_or-append_seam}
use Rattle.std.proofs.lemmas.List.{get_or_append_left}
use Rattle.std.proofs.lemmas.List.Sums.{AllPass-from_list_all}
use Rattle.std.proofs.lemmas.Bool.{cases_eq, cases_lt, eqb-true}
use Rattle.std.proofs.lemmas.Bool.Decides.{nat_tests}
use Rattle.bridge_cards.specs.declared.suit.Suit.{Suit}
use Rattle.bridge_cards.specs.declared.seat.Seat.{Seat}
use Rattle.bridge_cards.specs.declared.seat.Side.{Side}
use Rattle.bridge_cards.specs.declared.seat.Side.TheVariants.{NorthSouth, EastWest}
use Rattle.bridge_cards.specs.Seat.{clockwise_from, same_seat, side_of, same_side, plays_for}
use Rattle.bridge_cards.specs.Card.{same_suit}
use Rattle.bridge_cards.specs.CardSet.{deck}
use Rattle.bridge_cards.specs.Trick.{is_trump, beats, is_or_beats, next_leader}
use Rattle.bridge_cards.proofs.CardCounts.{count_by-without}
use Rattle.bridge_endings.specs.TrickValue.{IsWinning}
use Rattle.bridge_endings.specs.Worth.{after_playing}
use Rattle.bridge_endings.specs.Agree.{IsDealtOut, IsUpward}
use Rattle.bridge_endings.specs.Trumps.{held_of, NoneOfTheirs}
use Rattle.bridge_endings.proofs.Seats.{same_seat-eq, same_seat-self, other_place}
use Rattle.bridge_endings.proofs.Winning.{winning_is, winning_led, winning_card, winning_kept}
use Rattle.bridge_endings.proofs.TrickWon.{dealt_out_after}

-- ---- hands while cards are played

-- another hand stays as it is
pub others_hand : (held : Seat → ℕ → Bool) → IsDealtOut held → (seat other : Seat) (played : ℕ) → same_seat other seat ≡ false → held seat played ≡ true → after_playing played held other ≡ held other
others_hand held out seat other played differs has =
    fun_ext {B = λ _. Bool} (λ card. at card (card == played) refl)
  where
    with_true : (a : Bool) → (a && true) ≡ a
    with_true true = refl
    with_true false = refl

    with_none : (a b : Bool) → a ≡ false → (a && b) ≡ a
    with_none true b is = cc
    with_none false b is = refl

    at : (card : ℕ) (is : Bool) → (card == played) ≡ is → (held other card && not (card == played)) ≡ held other card
    at card true is = with_none (held other card) (not (card == played)) (ap (held other) (eqb-true card played is) ∙ out.once seat played has other differs)
    at card false is = ap (λ b. held other card && not b) is ∙ with_true (held other card)

same_side-eq : (a b : Side) → same_side a b ≡ true → a ≡ b
same_side-eq NorthSouth NorthSouth is = refl
same_side-eq NorthSouth EastWest is = cc
same_side-eq EastWest NorthSouth is = cc
same_side-eq EastWest EastWest is = refl

-- one trick, if there is one
abbrev pub one_if : Bool → ℕ
one_if true = 1
one_if false = 0

-- ---- one of them is not beaten by another's card

not_over : (trump : Option Suit) (led top other : ℕ) → is_trump trump top ≡ true → (same_suit top other ≡ true → other < top) → is_or_beats trump led other top ≡ false
not_over None led top other is below = cc
not_over (Some suit) led top other is below = grind (arith, nat_tests)

module _ (trump : Option Suit) (tops : ℕ → Bool) (upward : IsUpward tops) (trumps : (card : ℕ) → tops card ≡ true → is_trump trump card ≡ true) (seat : Seat) where
  abbrev side : Side
  side = side_of seat

  lower : (top other : ℕ) → tops top ≡ true → tops other ≡ false → same_suit top other ≡ true → other < top
  lower top other is is_none suit = at (cases_lt other top) (cases_eq other top)
    where
      at : (other < top) ⊎ (top ≤ other) → (other ≡ top) ⊎ (other ≡ top → ⊥) → other < top
      at (inl less) _ = less
      at (inr more) (inl same) = let never = sym is_none ∙ ap tops same ∙ is in absurd (cc)
      at (inr more) (inr differ) = let never = sym is_none ∙ upward top other suit (omega (arith, more, differ)) is in absurd (cc)

  over : (led top other : ℕ) → tops top ≡ true → tops other ≡ false → is_or_beats trump led other top ≡ false
  over led top other is is_none = not_over trump led top other (trumps top is) (lower top other is is_none)

  abbrev place : Seat → ℕ → Seat
  place leader k = clockwise_from leader k

  -- A trick so far, and whether the seat has played one of them to it: then another seat is to play, and it is still there.
  pub record IsUnderWay (held : Seat → ℕ → Bool) (leader : Seat) (trick : List ℕ) (rest : ℕ) (topped : Bool) : Type 0 where
    pub out : IsDealtOut held
    pub none : NoneOfTheirs tops held seat
    pub done : (k : ℕ) → k < length trick → count_by (held (place leader k)) deck ≡ rest
    pub to_come : (k : ℕ) → length trick ≤ k → k < 4 → count_by (held (place leader k)) deck ≡ rest + 1
    pub theirs : (k : ℕ) → k < length trick → plays_for side (place leader k) ≡ false → tops (get_or trick k 0) ≡ false
    pub winner : 0 < length trick → (index : ℕ) × IsWinning trump trick index
    pub there : topped ≡ true → (index : ℕ) × (index < length trick) × (tops (get_or trick index 0) ≡ true)
    pub later : topped ≡ true → (k : ℕ) → length trick ≤ k → k < 4 → same_seat (place leader k) seat ≡ false

  -- ---- the whole trick

  -- a trick with one of them is the side's
  pub won_by_side : (leader : Seat) (trick : List ℕ) (index top : ℕ) → IsWinning trump trick index → top < length trick → tops (get_or trick top 0) ≡ true
      → ((k : ℕ) → k < length trick → plays_for side (place leader k) ≡ false → tops (get_or trick k 0) ≡ false) → side_of (next_leader trump leader trick) ≡ side
  won_by_side leader trick index top winning within is theirs =
      ap (λ k. side_of (clockwise_from leader k)) (winning_is trump trick index winning) ∙ at (plays_for side (place leader index)) refl
    where
      at : (ours : Bool) → plays_for side (place leader index) ≡ ours → side_of (place leader index) ≡ side
      at true ours = same_side-eq (side_of (place leader index)) side ours
      at false not_ours =
          let beaten = AllPass-from_list_all (is_or_beats trump (get_or trick 0 0) (get_or trick index 0)) trick winning.wins_there top 0 within in
          let never = sym (over (get_or trick 0 0) (get_or trick top 0) (get_or trick index 0) is (theirs index winning.within not_ours)) ∙ beaten in
          absurd (cc)

  -- ---- one card more

  both_false : (a b : Bool) → a ≡ false → (a && b) ≡ false
  both_false true b is = cc
  both_false false b is = refl

  both_true : (a b : Bool) → a ≡ true → b ≡ true → (a && b) ≡ true
  both_true true b is too = too
  both_true false b is too = cc

  and_moved : (a b c : Bool) → (a && (b && c)) ≡ ((a && b) && c)
  and_moved true b c = refl
  and_moved false b c = refl

  winner_with : (trick : List ℕ) → (0 < length trick → (index : ℕ) × IsWinning trump trick index) → (card : ℕ) → (index : ℕ) × IsWinning trump (trick ++ card ∷ []) index
  winner_with [] was card = (0, winning_led trump card)
  winner_with (led ∷ others) was card =
      let before = was (omega arith) in
      at before.0 before.1 (beats trump (get_or (led ∷ others) 0 0) card (get_or (led ∷ others) before.0 0)) refl
    where
      at : (index : ℕ) → IsWinning trump (led ∷ others) index → (does : Bool) → beats trump (get_or (led ∷ others) 0 0) card (get_or (led ∷ others) index 0) ≡ does → (then : ℕ) × IsWinning trump ((led ∷ others) ++ card ∷ []) then
      at index winning true does = (length (led ∷ others), winning_card trump (led ∷ others) card index winning does)
      at index winning false does_not = (index, winning_kept trump (led ∷ others) card index winning does_not)

  module _ (held : Seat → ℕ → Bool) (leader : Seat) (trick : List ℕ) (rest : ℕ) (part : length trick < 4) (card : ℕ) (topped : Bool) (is : IsUnderWay held leader trick rest topped) (has : held (place leader (length trick)) card ≡ true) where
    abbrev turn : Seat
    turn = place leader (length trick)

    abbrev now : Seat → ℕ → Bool
    now = after_playing card held

    abbrev longer : List ℕ
    longer = trick ++ card ∷ []

    long : length longer ≡ length trick + 1
    long = length-append trick (card ∷ [])

    stays : (k : ℕ) → k < 4 → (k ≡ length trick → ⊥) → now (place leader k) ≡ held (place leader k)
    stays k few differ = others_hand held is.out turn (place leader k) card (other_place leader (length trick) k part few (λ e. differ (sym e))) has

    less_one : count_by (held turn) deck ≡ count_by (now turn) deck + 1
    less_one = count_by-without (held turn) (now turn) card (is.out.inside turn card has) has (λ c. refl)

    done_at : (k : ℕ) → k < length trick + 1 → (k ≡ length trick) ⊎ (k ≡ length trick → ⊥) → count_by (now (place leader k)) deck ≡ rest
    done_at k within (inl here) =
        subst (λ n. count_by (now (place leader n)) deck ≡ rest) (sym here) (omega (arith, less_one, is.to_come (length trick) (omega arith) part))
    done_at k within (inr differ) =
        ap (λ hand. count_by hand deck) (stays k (omega (arith, within, part)) differ) ∙ is.done k (omega (arith, within, differ))

    theirs_at : (k : ℕ) → k < length trick + 1 → (k ≡ length trick) ⊎ (k ≡ length trick → ⊥) → plays_for side (place leader k) ≡ false → tops (get_or longer k 0) ≡ false
    theirs_at k within (inl here) theirs =
        ap (λ n. tops (get_or longer n 0)) here ∙ ap tops (get_or-append_seam trick card [] 0) ∙ at (tops card) refl
      where
        theirs_here : plays_for side turn ≡ false
        theirs_here = ap (λ n. plays_for side (place leader n)) (sym here) ∙ theirs

        at : (top : Bool) → tops card ≡ top → tops card ≡ false
        at true top = let never = sym has ∙ is.none turn theirs_here card top in absurd (cc)
        at false top = top
    theirs_at k within (inr differ) theirs =
        ap tops (get_or_append_left trick (card ∷ []) 0 k (omega (arith, within, differ))) ∙ is.theirs k (omega (arith, within, differ)) theirs

    stepped : (then : Bool) → (then ≡ true → (index : ℕ) × (index < length longer) × (tops (get_or longer index 0) ≡ true)) → (then ≡ true → (k : ℕ) → length longer ≤ k → k < 4 → same_seat (place leader k) seat ≡ false) → IsUnderWay now leader longer rest then
    stepped then there later = record {
      out = dealt_out_after held is.out card;
      none = λ other theirs c top. both_false (held other c) (not (c == card)) (is.none other theirs c top);
      done = λ k within. done_at k (omega (arith, within, long)) (cases_eq k (length trick));
      to_come = λ k more few. ap (λ hand. count_by hand deck) (stays k few (λ e. omega (arith, e, more, long))) ∙ is.to_come k (omega (arith, more, long)) few;
      theirs = λ k within theirs. theirs_at k (omega (arith, within, long)) (cases_eq k (length trick)) theirs;
      winner = λ _. winner_with trick is.winner card;
      there = there;
      later = later;
    }

    there_still : topped ≡ true → (index : ℕ) × (index < length longer) × (tops (get_or longer index 0) ≡ true)
    there_still does =
        let was = is.there does in
        (was.0, omega (arith, was.1, long), ap tops (get_or_append_left trick (card ∷ []) 0 was.0 was.1) ∙ was.2)

    later_still : topped ≡ true → (k : ℕ) → length longer ≤ k → k < 4 → same_seat (place leader k) seat ≡ false
    later_still does k more few = is.later does k (omega (arith, more, long)) few

    abbrev pub Next : Type 0
    Next = (then : Bool) × IsUnderWay now leader longer rest then × (held_of tops (held seat) + one_if topped ≡ held_of tops (now seat) + one_if then)

    -- another seat plays
    others_card : same_seat seat turn ≡ false → Next
    others_card differs =
        (topped, stepped topped there_still later_still, ap (λ hand. held_of tops hand + one_if topped) (sym (others_hand held is.out turn seat card differs has)))

    module _ (same : seat ≡ turn) where
      has_too : held seat card ≡ true
      has_too = ap (λ (s : Seat). held s card) same ∙ has

      -- the seat plays one of them
      own_top : tops card ≡ true → (was : Bool) → topped ≡ was → Next
      own_top top true was =
          let never = sym (ap (λ (s : Seat). same_seat turn s) same) ∙ is.later was (length trick) (omega arith) part in
          let self = same_seat-self turn in
          absurd (cc)
      own_top top false was = (
        true,
        stepped true
            (λ _. (length trick, omega (arith, long), ap tops (get_or-append_seam trick card [] 0) ∙ top))
            (λ _ k more few. ap (λ (s : Seat). same_seat (place leader k) s) same ∙ other_place leader (length trick) k part few (λ e. omega (arith, e, more, long))),
        ap (λ b. held_of tops (held seat) + one_if b) was ∙ fewer,
      )
        where
          fewer : held_of tops (held seat) + 0 ≡ held_of tops (now seat) + 1
          fewer =
              omega (
                arith,
                count_by-without (λ c. tops c && held seat c) (λ c. tops c && now seat c) card (is.out.inside seat card has_too)
                    (both_true (tops card) (held seat card) top has_too) (λ c. and_moved (tops c) (held seat c) (not (c == card))),
              )

      -- the seat plays another card
      own_other : tops card ≡ false → Next
      own_other not_top =
          (topped, stepped topped there_still later_still, ap (λ p. count_by p deck + one_if topped) (fun_ext {B = λ _. Bool} (λ c. at c (c == card) refl)))
        where
          at : (c : ℕ) (it : Bool) → (c == card) ≡ it → (tops c && held seat c) ≡ (tops c && now seat c)
          at c true it =
              let none : tops c ≡ false = ap tops (eqb-true c card it) ∙ not_top in
              both_false (tops c) (held seat c) none ∙ sym (both_false (tops c) (now seat c) none)
          at c false it = ap (λ b. tops c && b) (sym (ap (λ b. held seat c && not b) it ∙ with_true (held seat c)))
            where
              with_true : (a : Bool) → (a && true) ≡ a
              with_true true = refl
              with_true false = refl

    pub next : Next
    next = at (same_seat seat turn) refl (tops card) refl
      where
        at : (own : Bool) → same_seat seat turn ≡ own → (top : Bool) → tops card ≡ top → Next
        at false differs top is_top = others_card differs
        at true same true top = own_top (same_seat-eq seat turn same) top topped refl
        at true same false top = own_other (same_seat-eq seat turn same) top
