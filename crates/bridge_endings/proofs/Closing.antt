-- Hands closed up are worth the same, and what is settled of them is settled of the hands.
use Rattle.std.proofs.Common.{◌≡◌, ℕ, zero, suc, ◌/◌, ◌<◌, ◌≤◌, ◌⊎◌, inl, inr, Bool, true, false, not, ◌&&◌, ◌||◌, ◌==◌, nat_le, nat_lt, cond, count_by, [], ◌∷◌, Option, refl, sym, ap, ◌∙◌, subst, arith}
use Rattle.std.proofs.lemmas.Bool.{cases_eq, cases_lt, eqb-true, eq-eqb, ne_eqb, and_parts, lt-ltb, ltb-true}
use Rattle.bridge_cards.specs.declared.suit.Suit.{Suit}
use Rattle.bridge_cards.specs.declared.seat.Seat.{Seat}
use Rattle.bridge_cards.specs.declared.seat.Seat.TheVariants.{North, East, South, West}
use Rattle.bridge_cards.specs.Seat.{same_seat}
use Rattle.bridge_cards.specs.Card.{same_suit, suit_number_of}
use Rattle.bridge_cards.specs.CardSet.{deck}
use Rattle.bridge_endings.specs.Worth.{worth_with}
use Rattle.bridge_endings.specs.Agree.{IsDealtOut, IsUpward, Agree, Settles}
use Rattle.bridge_endings.specs.Closed.{is_held, is_below, moved_up, closed, opened}
use Rattle.bridge_endings.proofs.Agreeing.{trick_self}
use Rattle.bridge_endings.proofs.Counting.{count_named, count_parts, counted_alike}
use Rattle.bridge_endings.proofs.Renamed.{Renames, IsRenamed, one_name, worth_renamed}

both : (a b : Bool) → a ≡ true → b ≡ true → (a && b) ≡ true
both true b p q = q
both false b p q = cc

left_so : (a b : Bool) → a ≡ true → (a || b) ≡ true
left_so true b p = refl
left_so false b p = cc

right_so : (a b : Bool) → b ≡ true → (a || b) ≡ true
right_so true b p = refl
right_so false b p = p

either : (a b : Bool) → (a || b) ≡ true → (a ≡ true) ⊎ (b ≡ true)
either true b p = inl refl
either false b p = inr p

none_left : (a b : Bool) → (a || b) ≡ false → (a ≡ false) × (b ≡ false)
none_left true b p = cc
none_left false b p = (refl, p)

-- a card that no seat holds is in none of the hands
pub none_holds : (held : Seat → ℕ → Bool) (card : ℕ) → is_held held card ≡ false → (seat : Seat) → held seat card ≡ false
none_holds held card none seat =
    let north = none_left (held North card) (held East card || (held South card || held West card)) none in
    let east = none_left (held East card) (held South card || held West card) north.1 in
    let south = none_left (held South card) (held West card) east.1 in
    elim seat as (λ s. held s card ≡ false) [
      | North ↦ north.0
      | East ↦ east.0
      | South ↦ south.0
      | West ↦ south.1
    ]

module _ (gap : ℕ) (inside_deck : gap < 52) where
  -- ---- the names of cards once the gap is closed

  abbrev name : ℕ → ℕ
  name card = cond (is_below gap card) (suc card) card

  abbrev known : ℕ → Bool
  known card = not (card == gap)

  below_is : (c : ℕ) → is_below gap c ≡ true → (gap / 13 ≡ c / 13) × (c < gap)
  below_is c is = let its = and_parts (same_suit gap c) (nat_lt c gap) is in (eqb-true (gap / 13) (c / 13) its.0, ltb-true c gap its.1)

  not_below : (c : ℕ) → is_below gap c ≡ false → gap / 13 ≡ c / 13 → gap ≤ c
  not_below c is suit = at (cases_lt c gap)
    where
      at : (c < gap) ⊎ (gap ≤ c) → gap ≤ c
      at (inl less) = let never = sym is ∙ both (same_suit gap c) (nat_lt c gap) (eq-eqb (gap / 13) (c / 13) suit) (lt-ltb c gap less) in cc
      at (inr more) = more

  not_gap : (c : ℕ) → known c ≡ true → c ≡ gap → ⊥
  not_gap c is same = let never = sym is ∙ ap not (eq-eqb c gap same) in cc

  name_below : (c : ℕ) → is_below gap c ≡ true → name c ≡ suc c
  name_below c is = ap (λ b. cond b (suc c) c) is

  name_other : (c : ℕ) → is_below gap c ≡ false → name c ≡ c
  name_other c is = ap (λ b. cond b (suc c) c) is

  names : Renames name known
  names = record {
    suit = λ c has. suit c (is_below gap c) refl;
    order = λ c d in_c in_d same less. order c d in_c in_d (eqb-true (c / 13) (d / 13) same) less (is_below gap c) (is_below gap d) refl refl;
  }
    where
      suit : (c : ℕ) (is : Bool) → is_below gap c ≡ is → suit_number_of (name c) ≡ suit_number_of c
      suit c true is = let its = below_is c is in ap (λ n. n / 13) (name_below c is) ∙ omega (arith, its.0, its.1)
      suit c false is = ap (λ n. n / 13) (name_other c is)

      order : (c d : ℕ) → known c ≡ true → known d ≡ true → c / 13 ≡ d / 13 → c < d → (a b : Bool) → is_below gap c ≡ a → is_below gap d ≡ b → name c < name d
      order c d in_c in_d same less true true p q = omega (arith, less, name_below c p, name_below d q)
      order c d in_c in_d same less true false p q =
          let its = below_is c p in
          omega (arith, its.1, name_below c p, name_other d q, not_below d q (its.0 ∙ same), not_gap d in_d)
      order c d in_c in_d same less false true p q =
          let its = below_is d q in
          absurd (omega (arith, less, its.1, not_below c p (its.0 ∙ sym same)))
      order c d in_c in_d same less false false p q = omega (arith, less, name_other c p, name_other d q)

  -- ---- a hand closed up

  module _ (hand : ℕ → Bool) (inside : (c : ℕ) → hand c ≡ true → c < 52) (without : hand gap ≡ false) where
    abbrev new : ℕ → Bool
    new = closed gap hand

    knows : (c : ℕ) → hand c ≡ true → known c ≡ true
    knows c has = at (cases_eq c gap)
      where
        at : (c ≡ gap) ⊎ (c ≡ gap → ⊥) → known c ≡ true
        at (inl same) = let never = sym has ∙ ap hand same ∙ without in cc
        at (inr differ) = ap not (ne_eqb c gap differ)

    there : (c : ℕ) → hand c ≡ true → new (name c) ≡ true
    there c has = at (is_below gap c) refl
      where
        at : (is : Bool) → is_below gap c ≡ is → new (name c) ≡ true
        at true is =
            ap new (name_below c is)
            ∙ right_so (hand (suc c) && not (is_below gap (suc c))) (hand c && is_below gap c) (both (hand c) (is_below gap c) has is)
        at false is =
            ap new (name_other c is)
            ∙ left_so (hand c && not (is_below gap c)) (moved_up (λ other. hand other && is_below gap other) c) (both (hand c) (not (is_below gap c)) has (ap not is))

    back : (d : ℕ) → new d ≡ true → (c : ℕ) × (hand c ≡ true) × (name c ≡ d)
    back d has = at d (either (hand d && not (is_below gap d)) (moved_up (λ other. hand other && is_below gap other) d) has)
      where
        not_so : (b : Bool) → not b ≡ true → b ≡ false
        not_so true p = cc
        not_so false p = refl

        at : (d : ℕ) → ((hand d && not (is_below gap d)) ≡ true) ⊎ (moved_up (λ other. hand other && is_below gap other) d ≡ true) → (c : ℕ) × (hand c ≡ true) × (name c ≡ d)
        at d (inl stays) =
            let its = and_parts (hand d) (not (is_below gap d)) stays in
            (d, its.0, name_other d (not_so (is_below gap d) its.1))
        at zero (inr moved) = cc
        at (suc c) (inr moved) =
            let its = and_parts (hand c) (is_below gap c) moved in
            (c, its.0, name_below c its.1)

    inside_too : (d : ℕ) → new d ≡ true → d < 52
    inside_too d has =
        let old = back d has in
        subst (λ n. n < 52) old.2 (at old.0 (inside old.0 old.1) (is_below gap old.0) refl)
      where
        at : (c : ℕ) → c < 52 → (is : Bool) → is_below gap c ≡ is → name c < 52
        at c within true is = let its = below_is c is in omega (arith, inside_deck, its.1, name_below c is)
        at c within false is = omega (arith, within, name_other c is)

    pub closed_length : (led : ℕ) → count_by (λ d. new d && same_suit d led) deck ≡ count_by (λ c. hand c && same_suit c led) deck
    closed_length led =
        count_named (count_by (λ c. hand c && same_suit c led) deck) name (λ c. hand c && same_suit c led) (λ d. new d && same_suit d led)
        (λ c has. inside c ((and_parts (hand c) (same_suit c led) has).0))
        (λ d has. inside_too d ((and_parts (new d) (same_suit d led) has).0))
        (λ c has.
        let its = and_parts (hand c) (same_suit c led) has in
        both (new (name c)) (same_suit (name c) led) (there c its.0) (ap (λ n. n == (led / 13)) (names.suit c (knows c its.0)) ∙ its.1))
        (λ d has.
        let its = and_parts (new d) (same_suit d led) has in
        let old = back d its.0 in
        (old.0, both (hand old.0) (same_suit old.0 led) old.1 (ap (λ n. n == (led / 13)) (sym (names.suit old.0 (knows old.0 old.1)) ∙ ap (λ n. n / 13) old.2) ∙ its.1), old.2))
        (λ c d has has_too same.
        one_name name known names c d (knows c ((and_parts (hand c) (same_suit c led) has).0)) (knows d ((and_parts (hand d) (same_suit d led) has_too).0)) same)
        refl

    -- a card that is neither below the gap nor at it stays
    stays : (c : ℕ) → is_below gap c ≡ false → (c ≡ gap → ⊥) → new c ≡ hand c
    stays zero is differs = ap (λ b. (hand 0 && not b) || false) is ∙ alone (hand 0)
      where
        alone : (a : Bool) → ((a && true) || false) ≡ a
        alone true = refl
        alone false = refl
    stays (suc c) is differs = ap (λ b. (hand (suc c) && not b) || (hand c && is_below gap c)) is ∙ at (is_below gap c) refl
      where
        alone : (a b : Bool) → ((a && true) || (b && false)) ≡ a
        alone true b = refl
        alone false true = refl
        alone false false = refl

        at : (low : Bool) → is_below gap c ≡ low → ((hand (suc c) && true) || (hand c && is_below gap c)) ≡ hand (suc c)
        at true low = let its = below_is c low in absurd (differs (omega (arith, its.0, its.1, not_below (suc c) is (omega (arith, its.0, its.1)))))
        at false low = ap (λ b. (hand (suc c) && true) || (hand c && b)) low ∙ alone (hand (suc c)) (hand c)

  -- ---- all hands closed up

  module _ (held : Seat → ℕ → Bool) (out : IsDealtOut held) (without : (seat : Seat) → held seat gap ≡ false) where
    abbrev all_closed : Seat → ℕ → Bool
    all_closed seat = closed gap (held seat)

    renamed : IsRenamed name known held all_closed []
    renamed = record {
      inside = λ seat c has. (out.inside seat c has, knows (held seat) (out.inside seat) (without seat) c has);
      inside_too = λ seat. inside_too (held seat) (out.inside seat) (without seat);
      there = λ seat. there (held seat) (out.inside seat) (without seat);
      back = λ seat. back (held seat) (out.inside seat) (without seat);
      played = λ k within. absurd (omega (arith, within));
    }

    pub worth_closed : (trump : Option Suit) (cards : ℕ) (leader : Seat) → worth_with trump cards all_closed leader [] ≡ worth_with trump cards held leader []
    worth_closed trump cards leader = worth_renamed name known names trump cards held all_closed leader [] renamed (omega arith)

    pub closed_out : IsDealtOut all_closed
    closed_out = record {
      inside = λ seat. inside_too (held seat) (out.inside seat) (without seat);
      once = λ seat d has other differs. lacks seat d has other differs (all_closed other d) refl;
    }
      where
        lacks : (seat : Seat) (d : ℕ) → all_closed seat d ≡ true → (other : Seat) → same_seat other seat ≡ false → (is : Bool) → all_closed other d ≡ is → all_closed other d ≡ false
        lacks seat d has other differs false is = is
        lacks seat d has other differs true is =
            let one = back (held seat) (out.inside seat) (without seat) d has in
            let two = back (held other) (out.inside other) (without other) d is in
            let same : one.0 ≡ two.0 =
            one_name name known names one.0 two.0 (knows (held seat) (out.inside seat) (without seat) one.0 one.1)
            (knows (held other) (out.inside other) (without other) two.0 two.1) (one.2 ∙ sym two.2) in
            let never = sym (out.once seat one.0 one.1 other differs) ∙ ap (held other) same ∙ two.1 in
            cc

    -- ---- what is settled

    module _ (counts places : ℕ → Bool) (up : IsUpward places) (opens : (c : ℕ) → counts c ≡ opened gap places c) where
      counts_too : (c : ℕ) → places c ≡ true → counts c ≡ true
      counts_too c does = opens c ∙ left_so (places c) (places (suc c) && is_below gap c) does

      counts_below : (c : ℕ) → places (suc c) ≡ true → is_below gap c ≡ true → counts c ≡ true
      counts_below c does low = opens c ∙ right_so (places c) (places (suc c) && is_below gap c) (both (places (suc c)) (is_below gap c) does low)

      pub upward_opened : IsUpward counts
      upward_opened c d suit less does = at (either (places c) (places (suc c) && is_below gap c) (sym (opens c) ∙ does))
        where
          from_next : (c ≡ d → ⊥) → places (suc c) ≡ true → same_suit (suc c) d ≡ true → (suc c ≡ d) ⊎ (suc c ≡ d → ⊥) → places d ≡ true
          from_next differs next of_suit (inl same) = sym (ap places same) ∙ next
          from_next differs next of_suit (inr differ) = up (suc c) d of_suit (omega (arith, less, differ)) next

          at : (places c ≡ true) ⊎ ((places (suc c) && is_below gap c) ≡ true) → counts d ≡ true
          at (inl here) = counts_too d (up c d suit less here)
          at (inr next) =
              let its = and_parts (places (suc c)) (is_below gap c) next in
              let low = below_is c its.1 in
              let same : c / 13 ≡ d / 13 = eqb-true (c / 13) (d / 13) suit in
              counts_too d (from_next (λ e. omega (arith, less, e)) its.0 (eq-eqb (suc c / 13) (d / 13) (omega (arith, same, low.0, low.1))) (cases_eq (suc c) d))

      module _ (other : Seat → ℕ → Bool) (out_too : IsDealtOut other) (same : Agree counts held other) where
        lengths : (next : Seat → ℕ → Bool) → ((seat : Seat) (c : ℕ) → places c ≡ true → all_closed seat c ≡ next seat c)
            → ((seat : Seat) (led : ℕ) → count_by (λ d. next seat d && same_suit d led) deck ≡ count_by (λ c. other seat c && same_suit c led) deck) → Agree places all_closed next
        lengths next high long = record {
          high = high;
          small = λ seat led within.
              omega (
                arith,
                same.small seat led within,
                count_parts (held seat) counts led,
                count_parts (other seat) counts led,
                counted_alike counts held other same.high seat led,
                closed_length (held seat) (out.inside seat) (without seat) led,
                long seat led,
                count_parts (all_closed seat) places led,
                count_parts (next seat) places led,
                counted_alike places all_closed next high seat led,
              );
        }

        -- the gap does not count, and no card that counts moves
        above_gap : counts gap ≡ false → Agree places all_closed other
        above_gap none = lengths other high (λ seat led. refl)
          where
            none_there : places gap ≡ false
            none_there = (none_left (places gap) (places (suc gap) && is_below gap gap) (sym (opens gap) ∙ none)).0

            high : (seat : Seat) (c : ℕ) → places c ≡ true → all_closed seat c ≡ other seat c
            high seat c does = stays (held seat) (out.inside seat) (without seat) c (low (is_below gap c) refl) differs ∙ same.high seat c (counts_too c does)
              where
                differs : c ≡ gap → ⊥
                differs is = let never = sym does ∙ ap places is ∙ none_there in cc

                low : (is : Bool) → is_below gap c ≡ is → is_below gap c ≡ false
                low false is = is
                low true is =
                    let its = below_is c is in
                    let never = sym (up c gap (eq-eqb (c / 13) (gap / 13) (sym its.0)) its.1 does) ∙ none_there in
                    cc

        -- the gap counts, and is one there too
        at_gap : counts gap ≡ true → (seat : Seat) → other seat gap ≡ false
        at_gap does seat = sym (same.high seat gap does) ∙ without seat

        over_gap : counts gap ≡ true → Agree places all_closed (λ seat. closed gap (other seat))
        over_gap is = lengths (λ seat. closed gap (other seat)) high (λ seat. closed_length (other seat) (out_too.inside seat) (at_gap is seat))
          where
            kept : (seat : Seat) (c : ℕ) → places c ≡ true → (held seat c && not (is_below gap c)) ≡ (other seat c && not (is_below gap c))
            kept seat c does = ap (λ b. b && not (is_below gap c)) (same.high seat c (counts_too c does))

            moved : (seat : Seat) (c : ℕ) → places (suc c) ≡ true → (low : Bool) → is_below gap c ≡ low → (held seat c && is_below gap c) ≡ (other seat c && is_below gap c)
            moved seat c does true low = ap (λ b. b && is_below gap c) (same.high seat c (counts_below c does low))
            moved seat c does false low = ap (λ b. held seat c && b) low ∙ none (held seat c) (other seat c) ∙ sym (ap (λ b. other seat c && b) low)
              where
                none : (a b : Bool) → (a && false) ≡ (b && false)
                none true true = refl
                none true false = refl
                none false true = refl
                none false false = refl

            high : (seat : Seat) (c : ℕ) → places c ≡ true → all_closed seat c ≡ closed gap (other seat) c
            high seat zero does = ap (λ b. b || false) (kept seat zero does)
            high seat (suc c) does =
                ap (λ b. b || (held seat c && is_below gap c)) (kept seat (suc c) does)
                ∙ ap (λ b. (other seat (suc c) && not (is_below gap (suc c))) || b) (moved seat c does (is_below gap c) refl)

  -- what is settled of hands closed up is settled of the hands, where what counts is opened
  pub settles_closed : (trump : Option Suit) (cards need : ℕ) (counts places : ℕ → Bool) → IsUpward places → ((c : ℕ) → counts c ≡ opened gap places c) → (answer : Bool)
      (held : Seat → ℕ → Bool) (out : IsDealtOut held) → ((seat : Seat) → held seat gap ≡ false) → (leader : Seat)
      → Settles trump cards need places answer (λ seat. closed gap (held seat)) leader [] → Settles trump cards need counts answer held leader []
  settles_closed trump cards need counts places up opens answer held out without leader settled other out_too (c ∷ played) same same_trick = absurd (omega (arith, same_trick.long))
  settles_closed trump cards need counts places up opens answer held out without leader settled other out_too [] same same_trick = at (counts gap) refl
    where
      at : (is : Bool) → counts gap ≡ is → nat_le need (worth_with trump cards other leader []) ≡ answer
      at false is = settled other out_too [] (above_gap held out without counts places up opens other out_too same is) (trick_self places [])
      at true is =
          let gap_there = at_gap held out without counts places up opens other out_too same is in
          ap (nat_le need) (sym (worth_closed other out_too gap_there trump cards leader))
          ∙ settled (λ seat. closed gap (other seat)) (closed_out other out_too gap_there) [] (over_gap held out without counts places up opens other out_too same is) (trick_self places [])
