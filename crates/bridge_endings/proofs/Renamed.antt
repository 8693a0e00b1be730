-- Cards renamed within their suits, in their order: no worth changes.
use Rattle.std.proofs.Common.{◌≡◌, ℕ, zero, suc, ◌+◌, ◌<◌, ◌≤◌, ◌⊎◌, inl, inr, Bool, true, false, not, ◌&&◌, ◌||◌, ◌==◌, cond, nat_lt, List, [], ◌∷◌, ◌++◌, length, map, get_or, Option, Some, None, unwrap_or, refl, sym, ap, ◌∙◌, arith, length-append}
use Rattle.std.specs.List.{list_all, position_or_len}
use Rattle.std.proofs.Math.Seq.{get_or-append_seam}
use Rattle.std.proofs.lemmas.Bool.{cases_eq, cases_lt, eqb-true, eq-eqb, ne_eqb, and_parts}
use Rattle.std.proofs.lemmas.Bool.Decides.{nat_tests}
use Rattle.std.proofs.lemmas.List.{length-map, map-append, get_or-map, get_or_append_left}
use Rattle.bridge_cards.specs.declared.suit.Suit.{Suit}
use Rattle.bridge_cards.specs.declared.seat.Seat.{Seat}
use Rattle.bridge_cards.specs.Suit.{suit_number}
use Rattle.bridge_cards.specs.Seat.{clockwise_from, side_of}
use Rattle.bridge_cards.specs.Card.{same_suit, suit_number_of}
use Rattle.bridge_cards.specs.Trick.{has_suit, follows_suit, is_trump, is_or_beats, wins, next_leader}
use Rattle.bridge_cards.proofs.SuitHeld.{some_card}
use Rattle.bridge_endings.specs.Worth.{may_be_played, legal_cards, after_playing, best, trick_for, worth_after, worth_with}
use Rattle.bridge_endings.proofs.Deck.{some_such}
use Rattle.bridge_endings.proofs.LegalCards.{may_be_played-held}
use Rattle.bridge_endings.proofs.WorthSteps.{worth_of_card, worth_zero, worth_with-suc}
use Rattle.bridge_endings.proofs.SearchSteps.{worth_after-part, worth_after-whole}
use Rattle.bridge_endings.proofs.SameBest.{best_same}

-- tests of the cards of a list and of what f makes of them
all_mapped : (p q : ℕ → Bool) (f : ℕ → ℕ) (xs : List ℕ) → ((k : ℕ) → k < length xs → q (f (get_or xs k 0)) ≡ p (get_or xs k 0)) → list_all q (map f xs) ≡ list_all p xs
all_mapped p q f [] same = refl
all_mapped p q f (x ∷ xs) same =
    ap (λ b. b && list_all q (map f xs)) (same 0 (omega arith))
    ∙ ap (λ b. p x && b) (all_mapped p q f xs (λ k within. same (suc k) (omega arith)))

first_mapped : (p q : ℕ → Bool) (f : ℕ → ℕ) (xs : List ℕ) → ((k : ℕ) → k < length xs → q (f (get_or xs k 0)) ≡ p (get_or xs k 0)) → position_or_len q (map f xs) ≡ position_or_len p xs
first_mapped p q f [] same = refl
first_mapped p q f (x ∷ xs) same =
    ap (λ b. cond (not b) (1 + position_or_len q (map f xs)) 0) (same 0 (omega arith))
    ∙ ap (λ n. cond (not (p x)) (1 + n) 0) (first_mapped p q f xs (λ k within. same (suc k) (omega arith)))

and_both : (a b : Bool) → a ≡ true → b ≡ true → (a && b) ≡ true
and_both true b p q = q
and_both false b p q = cc

-- a name for each of those cards
module _ (name : ℕ → ℕ) (known : ℕ → Bool) where
  -- in the card's suit, and in order
  pub record Renames : Type 0 where
    pub suit : (c : ℕ) → known c ≡ true → suit_number_of (name c) ≡ suit_number_of c
    pub order : (c d : ℕ) → known c ≡ true → known d ≡ true → same_suit c d ≡ true → c < d → name c < name d

  -- the other position is this one renamed
  pub record IsRenamed (held other : Seat → ℕ → Bool) (trick : List ℕ) : Type 0 where
    pub inside : (seat : Seat) (c : ℕ) → held seat c ≡ true → (c < 52) × (known c ≡ true)
    pub inside_too : (seat : Seat) (d : ℕ) → other seat d ≡ true → d < 52
    pub there : (seat : Seat) (c : ℕ) → held seat c ≡ true → other seat (name c) ≡ true
    pub back : (seat : Seat) (d : ℕ) → other seat d ≡ true → (c : ℕ) × (held seat c ≡ true) × (name c ≡ d)
    pub played : (k : ℕ) → k < length trick → known (get_or trick k 0) ≡ true

  module _ (names : Renames) where
    -- ---- how cards compare

    suits : (c d : ℕ) → known c ≡ true → known d ≡ true → same_suit (name c) (name d) ≡ same_suit c d
    suits c d in_c in_d = ap (λ n. n == suit_number_of (name d)) (names.suit c in_c) ∙ ap (λ n. suit_number_of c == n) (names.suit d in_d)

    pub one_name : (c d : ℕ) → known c ≡ true → known d ≡ true → name c ≡ name d → c ≡ d
    one_name c d in_c in_d same = at (cases_eq c d) (cases_lt c d)
      where
        of_one : same_suit c d ≡ true
        of_one = sym (suits c d in_c in_d) ∙ eq-eqb (suit_number_of (name c)) (suit_number_of (name d)) (ap suit_number_of same)

        back_suit : same_suit d c ≡ true
        back_suit = eq-eqb (suit_number_of d) (suit_number_of c) (sym (eqb-true (suit_number_of c) (suit_number_of d) of_one))

        at : (c ≡ d) ⊎ (c ≡ d → ⊥) → (c < d) ⊎ (d ≤ c) → c ≡ d
        at (inl is) _ = is
        at (inr differ) (inl less) = absurd (omega (arith, names.order c d in_c in_d of_one less, same))
        at (inr differ) (inr more) = absurd (omega (arith, names.order d c in_d in_c back_suit (omega (arith, more, differ)), same))

    one : (c d : ℕ) → known c ≡ true → known d ≡ true → (name c == name d) ≡ (c == d)
    one c d in_c in_d = at (cases_eq c d)
      where
        at : (c ≡ d) ⊎ (c ≡ d → ⊥) → (name c == name d) ≡ (c == d)
        at (inl is) = eq-eqb (name c) (name d) (ap name is) ∙ sym (eq-eqb c d is)
        at (inr differ) = ne_eqb (name c) (name d) (λ same. differ (one_name c d in_c in_d same)) ∙ sym (ne_eqb c d differ)

    -- of one suit the higher stays the higher
    above : (c d : ℕ) → known c ≡ true → known d ≡ true → (same_suit c d && nat_lt (name d) (name c)) ≡ (same_suit c d && nat_lt d c)
    above c d in_c in_d = at (same_suit c d) refl (cases_eq c d) (cases_lt c d)
      where
        at : (is : Bool) → same_suit c d ≡ is → (c ≡ d) ⊎ (c ≡ d → ⊥) → (c < d) ⊎ (d ≤ c) → (same_suit c d && nat_lt (name d) (name c)) ≡ (same_suit c d && nat_lt d c)
        at false is _ _ = ap (λ b. b && nat_lt (name d) (name c)) is ∙ sym (ap (λ b. b && nat_lt d c) is)
        at true is (inl same) _ = ap (λ b. same_suit c d && b) (let e : name d ≡ name c = ap name (sym same) in grind (arith, nat_tests))
        at true is (inr differ) (inl less) =
            let more = names.order c d in_c in_d is less in ap (λ b. same_suit c d && b) (grind (arith, nat_tests))
        at true is (inr differ) (inr more) =
            let back_suit : same_suit d c ≡ true = eq-eqb (suit_number_of d) (suit_number_of c) (sym (eqb-true (suit_number_of c) (suit_number_of d) is)) in
            let more_too = names.order d c in_d in_c back_suit (omega (arith, more, differ)) in
            ap (λ b. same_suit c d && b) (grind (arith, nat_tests))

    trumps : (trump : Option Suit) (c : ℕ) → known c ≡ true → is_trump trump (name c) ≡ is_trump trump c
    trumps None c in_c = refl
    trumps (Some s) c in_c = ap (λ n. n == suit_number s) (names.suit c in_c)

    compares : (trump : Option Suit) (led c d : ℕ) → known led ≡ true → known c ≡ true → known d ≡ true → is_or_beats trump (name led) (name c) (name d) ≡ is_or_beats trump led c d
    compares trump led c d in_led in_c in_d =
        simp (one c d in_c in_d, suits c d in_c in_d, above c d in_c in_d, trumps trump c in_c, trumps trump d in_d, suits c led in_c in_led, suits d led in_d in_led)

    -- ---- a trick renamed

    module _ (trump : Option Suit) (trick : List ℕ) (played : (k : ℕ) → k < length trick → known (get_or trick k 0) ≡ true) where
      wins_there : (j : ℕ) → j < length trick → wins trump (map name trick) (name (get_or trick j 0)) ≡ wins trump trick (get_or trick j 0)
      wins_there j within =
          ap (λ led. list_all (is_or_beats trump led (name (get_or trick j 0))) (map name trick)) (get_or-map name trick 0 0 0 (omega (arith, within)))
          ∙ all_mapped (is_or_beats trump (get_or trick 0 0) (get_or trick j 0)) (is_or_beats trump (name (get_or trick 0 0)) (name (get_or trick j 0))) name trick
          (λ k p. compares trump (get_or trick 0 0) (get_or trick j 0) (get_or trick k 0) (played 0 (omega (arith, within))) (played j within) (played k p))

      place_there : position_or_len (wins trump (map name trick)) (map name trick) ≡ position_or_len (wins trump trick) trick
      place_there = first_mapped (wins trump trick) (wins trump (map name trick)) name trick wins_there

      pub leader_there : (leader : Seat) → next_leader trump leader (map name trick) ≡ next_leader trump leader trick
      leader_there leader = ap (clockwise_from leader) (
          ap (λ n. unwrap_or (cond (nat_lt n (length (map name trick))) (Some n) None) 0) place_there
          ∙ ap (λ n. unwrap_or (cond (nat_lt (position_or_len (wins trump trick) trick) n) (Some (position_or_len (wins trump trick) trick)) None) 0) (length-map trick name))

    -- ---- the cards that may be played

    module _ (held other : Seat → ℕ → Bool) (trick : List ℕ) (is : IsRenamed held other trick) where
      void_there : (seat : Seat) (led : ℕ) → known led ≡ true → has_suit (other seat) (name led) ≡ has_suit (held seat) led
      void_there seat led in_led = at (has_suit (held seat) led) (has_suit (other seat) (name led)) refl refl
        where
          carried : has_suit (held seat) led ≡ true → has_suit (other seat) (name led) ≡ true
          carried has =
              let card = some_such (λ c. held seat c && same_suit c led) has in
              let its = and_parts (held seat card.0) (same_suit card.0 led) card.1 in
              let new = is.there seat card.0 its.0 in
              some_card (λ c. other seat c && same_suit c (name led)) (name card.0) (is.inside_too seat (name card.0) new)
              (and_both (other seat (name card.0)) (same_suit (name card.0) (name led)) new (suits card.0 led (is.inside seat card.0 its.0).1 in_led ∙ its.1))

          carried_back : has_suit (other seat) (name led) ≡ true → has_suit (held seat) led ≡ true
          carried_back has =
              let card = some_such (λ c. other seat c && same_suit c (name led)) has in
              let its = and_parts (other seat card.0) (same_suit card.0 (name led)) card.1 in
              let old = is.back seat card.0 its.0 in
              let inside = is.inside seat old.0 old.1 in
              some_card (λ c. held seat c && same_suit c led) old.0 inside.0
              (and_both (held seat old.0) (same_suit old.0 led) old.1 (sym (suits old.0 led inside.1 in_led) ∙ ap (λ c. same_suit c (name led)) old.2 ∙ its.1))

          at : (a b : Bool) → has_suit (held seat) led ≡ a → has_suit (other seat) (name led) ≡ b → has_suit (other seat) (name led) ≡ has_suit (held seat) led
          at true true p q = q ∙ sym p
          at false false p q = q ∙ sym p
          at true false p q = let never = carried p in cc
          at false true p q = let never = carried_back q in cc

    follow_there : (held other : Seat → ℕ → Bool) (trick : List ℕ) → IsRenamed held other trick → (seat : Seat) (c : ℕ) → known c ≡ true → follows_suit (other seat) (map name trick) (name c) ≡ follows_suit (held seat) trick c
    follow_there held other [] is seat c in_c = refl
    follow_there held other (led ∷ trick) is seat c in_c =
        let in_led : known led ≡ true = is.played 0 (omega arith) in
        ap (λ b. b || not (has_suit (other seat) (name led))) (suits c led in_c in_led)
        ∙ ap (λ b. same_suit c led || not b) (void_there held other (led ∷ trick) is seat led in_led)

    module _ (held other : Seat → ℕ → Bool) (trick : List ℕ) (is : IsRenamed held other trick) (seat : Seat) where
      pub may_there : (c : ℕ) → may_be_played (held seat) trick c ≡ true → may_be_played (other seat) (map name trick) (name c) ≡ true
      may_there c may =
          let has = may_be_played-held (held seat) trick c may in
          and_both (other seat (name c)) (follows_suit (other seat) (map name trick) (name c)) (is.there seat c has)
          (follow_there held other trick is seat c (is.inside seat c has).1 ∙ (and_parts (held seat c) (follows_suit (held seat) trick c) may).1)

      pub may_back : (d : ℕ) → may_be_played (other seat) (map name trick) d ≡ true → (c : ℕ) × (may_be_played (held seat) trick c ≡ true) × (name c ≡ d)
      may_back d may =
          let has = may_be_played-held (other seat) (map name trick) d may in
          let old = is.back seat d has in (
            old.0,
            and_both (held seat old.0) (follows_suit (held seat) trick old.0) old.1
                (sym (follow_there held other trick is seat old.0 (is.inside seat old.0 old.1).1) ∙ ap (follows_suit (other seat) (map name trick)) old.2
                ∙ (and_parts (other seat d) (follows_suit (other seat) (map name trick) d) may).1),
            old.2,
          )

    -- ---- a card is played

    module _ (held other : Seat → ℕ → Bool) (trick : List ℕ) (is : IsRenamed held other trick) where
      renamed_new : IsRenamed held other []
      renamed_new = record { inside = is.inside; inside_too = is.inside_too; there = is.there; back = is.back; played = λ k within. absurd (omega (arith, within)) }

      not_played : (c d : ℕ) → known c ≡ true → known d ≡ true → not (name c == name d) ≡ not (c == d)
      not_played c d in_c in_d = ap not (one c d in_c in_d)

      pub renamed_after : (card : ℕ) → known card ≡ true → IsRenamed (after_playing card held) (after_playing (name card) other) (trick ++ card ∷ [])
      renamed_after card in_card = record {
        inside = λ seat c has. is.inside seat c ((and_parts (held seat c) (not (c == card)) has).0);
        inside_too = λ seat d has. is.inside_too seat d ((and_parts (other seat d) (not (d == name card)) has).0);
        there = λ seat c has.
            let its = and_parts (held seat c) (not (c == card)) has in
            and_both (other seat (name c)) (not (name c == name card)) (is.there seat c its.0) (not_played c card (is.inside seat c its.0).1 in_card ∙ its.1);
        back = λ seat d has.
            let its = and_parts (other seat d) (not (d == name card)) has in
            let old = is.back seat d its.0 in
            (old.0, and_both (held seat old.0) (not (old.0 == card)) old.1 (sym (not_played old.0 card (is.inside seat old.0 old.1).1 in_card) ∙ ap (λ n. not (n == name card)) old.2 ∙ its.1), old.2);
        played = λ k within. at k (cases_lt k (length trick)) within;
      }
        where
          at : (k : ℕ) → (k < length trick) ⊎ (length trick ≤ k) → k < length (trick ++ card ∷ []) → known (get_or (trick ++ card ∷ []) k 0) ≡ true
          at k (inl before) within = ap known (get_or_append_left trick (card ∷ []) 0 k before) ∙ is.played k before
          at k (inr here) within =
              let last : k ≡ length trick = omega (arith, here, within, length-append trick (card ∷ [])) in
              ap known (ap (λ n. get_or (trick ++ card ∷ []) n 0) last ∙ get_or-append_seam trick card [] 0) ∙ in_card

    -- ---- everywhere

    module _ (trump : Option Suit) (cards : ℕ) (rest : (held other : Seat → ℕ → Bool) (leader : Seat) (trick : List ℕ) → IsRenamed held other trick → length trick < 4 → worth_with trump cards other leader (map name trick) ≡ worth_with trump cards held leader trick) where
      then_there : (held other : Seat → ℕ → Bool) (leader : Seat) (longer : List ℕ) → IsRenamed held other longer → length longer ≤ 4 → (length longer ≡ 4) ⊎ (length longer ≡ 4 → ⊥) → worth_after trump (worth_with trump cards) other leader (map name longer) ≡ worth_after trump (worth_with trump cards) held leader longer
      then_there held other leader longer is few (inl whole) =
          let winner = next_leader trump leader longer in
          worth_after-whole trump (worth_with trump cards) other leader (map name longer) (length-map longer name ∙ whole)
          ∙ ap (λ s. trick_for (side_of s) + worth_with trump cards other s []) (leader_there trump longer is.played leader)
          ∙ ap (λ n. trick_for (side_of winner) + n) (rest held other winner [] (renamed_new held other longer is) (omega arith))
          ∙ sym (worth_after-whole trump (worth_with trump cards) held leader longer whole)
      then_there held other leader longer is few (inr more) =
          worth_after-part trump (worth_with trump cards) other leader (map name longer) (omega (arith, few, more, length-map longer name))
          ∙ rest held other leader longer is (omega (arith, few, more))
          ∙ sym (worth_after-part trump (worth_with trump cards) held leader longer (omega (arith, few, more)))

      module _ (held other : Seat → ℕ → Bool) (leader : Seat) (trick : List ℕ) (is : IsRenamed held other trick) (part : length trick < 4) where
        abbrev turn : Seat
        turn = clockwise_from leader (length trick)

        abbrev after : ℕ → ℕ
        after = worth_of_card trump cards held leader trick

        abbrev after_there : ℕ → ℕ
        after_there = worth_of_card trump cards other leader (map name trick)

        card_there : (card : ℕ) → may_be_played (held turn) trick card ≡ true → after_there (name card) ≡ after card
        card_there card may =
            let in_card = (is.inside turn card (may_be_played-held (held turn) trick card may)).1 in
            ap (λ l. worth_after trump (worth_with trump cards) (after_playing (name card) other) leader l) (sym (map-append name trick (card ∷ [])))
            ∙ then_there (after_playing card held) (after_playing (name card) other) leader (trick ++ card ∷ []) (renamed_after held other trick is card in_card)
            (omega (arith, part, length-append trick (card ∷ []))) (cases_eq (length (trick ++ card ∷ [])) 4)

        best_there : best (side_of turn) (map after_there (legal_cards (other turn) (map name trick))) ≡ best (side_of turn) (map after (legal_cards (held turn) trick))
        best_there =
            best_same (side_of turn) after_there after (may_be_played (other turn) (map name trick)) (may_be_played (held turn) trick)
            (λ d may. is.inside_too turn d (may_be_played-held (other turn) (map name trick) d may))
            (λ c may. (is.inside turn c (may_be_played-held (held turn) trick c may)).0)
            (λ d may. let old = may_back held other trick is turn d may in (old.0, old.1, sym (card_there old.0 old.1) ∙ ap after_there old.2))
            (λ c may. (name c, may_there held other trick is turn c may, card_there c may))

        suc_there : worth_with trump (suc cards) other leader (map name trick) ≡ worth_with trump (suc cards) held leader trick
        suc_there =
            worth_with-suc trump cards other leader (map name trick)
            ∙ ap (λ n. best (side_of (clockwise_from leader n)) (map after_there (legal_cards (other (clockwise_from leader n)) (map name trick)))) (length-map trick name)
            ∙ best_there
            ∙ sym (worth_with-suc trump cards held leader trick)

    pub worth_renamed : (trump : Option Suit) (cards : ℕ) (held other : Seat → ℕ → Bool) (leader : Seat) (trick : List ℕ) → IsRenamed held other trick → length trick < 4 → worth_with trump cards other leader (map name trick) ≡ worth_with trump cards held leader trick
    worth_renamed trump zero held other leader trick is part = worth_zero trump other leader (map name trick) ∙ sym (worth_zero trump held leader trick)
    worth_renamed trump (suc cards) held other leader trick is part = suc_there trump cards (worth_renamed trump cards) held other leader trick is part
