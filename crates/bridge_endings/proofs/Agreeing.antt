-- How positions agree: as any relation of likeness does, and in fewer cards that count where they do in more.
use Rattle.std.proofs.Common.{◌≡◌, ℕ, ◌+◌, inl, inr, Bool, true, false, not, ◌&&◌, ◌||◌, ◌/◌, count_by, List, slice_index, Option, refl, sym, ap, ◌∙◌, arith}
use Rattle.std.proofs.Math.Path.{fun_ext}
use Rattle.std.proofs.lemmas.Bool.{eqb-true, eq-eqb}
use Rattle.bridge_cards.specs.declared.suit.Suit.{Suit}
use Rattle.bridge_cards.specs.declared.seat.Seat.{Seat}
use Rattle.bridge_cards.specs.Card.{same_suit}
use Rattle.bridge_cards.specs.CardSet.{deck}
use Rattle.bridge_cards.proofs.CardCounts.{count_either}
use Rattle.bridge_endings.specs.Agree.{is_small, Agree, AreAlike, AgreeTrick, Settles}

-- what counts among these counts among those
abbrev pub IsWithin : (ℕ → Bool) → (ℕ → Bool) → Type 0
IsWithin counts more = (card : ℕ) → counts card ≡ true → more card ≡ true

-- cards of one suit, either first
pub suit_back : (a b : ℕ) → same_suit a b ≡ true → same_suit b a ≡ true
suit_back a b same = eq-eqb (b / 13) (a / 13) (sym (eqb-true (a / 13) (b / 13) same))

pub suit_then : (a b c : ℕ) → same_suit a b ≡ true → same_suit b c ≡ true → same_suit a c ≡ true
suit_then a b c first second = eq-eqb (a / 13) (c / 13) (eqb-true (a / 13) (b / 13) first ∙ eqb-true (b / 13) (c / 13) second)

-- ---- each position agrees with itself, and what agrees with one that agrees does

module _ (counts : ℕ → Bool) where
  pub agree_self : (held : Seat → ℕ → Bool) → Agree counts held held
  agree_self held = record { high = λ seat card does. refl; small = λ seat led inside. refl }

  pub agree_back : (held other : Seat → ℕ → Bool) → Agree counts held other → Agree counts other held
  agree_back held other same = record {
    high = λ seat card does. sym (same.high seat card does);
    small = λ seat led inside. sym (same.small seat led inside);
  }

  pub agree_then : (held between other : Seat → ℕ → Bool) → Agree counts held between → Agree counts between other → Agree counts held other
  agree_then held between other first second = record {
    high = λ seat card does. first.high seat card does ∙ second.high seat card does;
    small = λ seat led inside. first.small seat led inside ∙ second.small seat led inside;
  }

  pub alike_back : (c d : ℕ) → AreAlike counts c d → AreAlike counts d c
  alike_back c d (inl same) = inl (sym same)
  alike_back c d (inr small) = inr (suit_back c d small.0, small.2, small.1)

  pub alike_then : (c d e : ℕ) → AreAlike counts c d → AreAlike counts d e → AreAlike counts c e
  alike_then c d e (inl same) second = rw same second
  alike_then c d e (inr small) (inl same) = rw (← same) (inr small)
  alike_then c d e (inr small) (inr too) = inr (suit_then c d e small.0 too.0, small.1, too.2)

  pub alike_suit : (c d : ℕ) → AreAlike counts c d → same_suit c d ≡ true
  alike_suit c d (inl same) = eq-eqb (c / 13) (d / 13) (ap (λ n. n / 13) same)
  alike_suit c d (inr small) = small.0

  pub alike_counts : (c d : ℕ) → AreAlike counts c d → counts c ≡ counts d
  alike_counts c d (inl same) = ap counts same
  alike_counts c d (inr small) = small.1 ∙ sym small.2

  pub trick_self : (trick : List ℕ) → AgreeTrick counts trick trick
  trick_self trick = record { long = refl; each = λ index within. inl refl }

  pub trick_back : (trick other : List ℕ) → AgreeTrick counts trick other → AgreeTrick counts other trick
  trick_back trick other same = record {
    long = sym same.long;
    each = λ index within. alike_back (slice_index trick index) (slice_index other index) (same.each index (omega (arith, same.long, within)));
  }

  pub trick_then : (trick between other : List ℕ) → AgreeTrick counts trick between → AgreeTrick counts between other → AgreeTrick counts trick other
  trick_then trick between other first second = record {
    long = first.long ∙ second.long;
    each = λ index within.
        alike_then (slice_index trick index) (slice_index between index) (slice_index other index) (first.each index within) (second.each index (omega (arith, first.long, within)));
  }

-- ---- fewer cards count

-- a small card is small where more count, or is one of those more
parts : (has suited more counts : Bool) → (counts ≡ true → more ≡ true) → (has && (suited && not counts)) ≡ ((has && (suited && not more)) || (has && (suited && (more && not counts))))
parts false suited more counts within = refl
parts true false more counts within = refl
parts true true true true within = refl
parts true true true false within = refl
parts true true false true within = let never = within refl in cc
parts true true false false within = refl

apart : (has suited more counts : Bool) → ((has && (suited && not more)) && (has && (suited && (more && not counts)))) ≡ false
apart false suited more counts = refl
apart true false more counts = refl
apart true true true counts = refl
apart true true false counts = refl

module _ (counts more : ℕ → Bool) (within : IsWithin counts more) where
  -- a card that counts among the more alone
  abbrev is_between : (ℕ → Bool) → ℕ → ℕ → Bool
  is_between hand led card = hand card && (same_suit card led && (more card && not (counts card)))

  count_parts : (hand : ℕ → Bool) (led : ℕ) → count_by (is_small hand counts led) deck ≡ count_by (is_small hand more led) deck + count_by (is_between hand led) deck
  count_parts hand led =
      count_either (is_small hand more led) (is_between hand led) (is_small hand counts led)
      (λ card. parts (hand card) (same_suit card led) (more card) (counts card) (within card))
      (λ card. apart (hand card) (same_suit card led) (more card) (counts card)) deck

  module _ (held other : Seat → ℕ → Bool) (same : Agree more held other) where
    same_between : (seat : Seat) (led card : ℕ) (is : Bool) → more card ≡ is → is_between (held seat) led card ≡ is_between (other seat) led card
    same_between seat led card true is = ap (λ b. b && (same_suit card led && (more card && not (counts card)))) (same.high seat card is)
    same_between seat led card false is =
        ap (λ b. held seat card && (same_suit card led && (b && not (counts card)))) is
        ∙ none (held seat card) (other seat card) (same_suit card led)
        ∙ ap (λ b. other seat card && (same_suit card led && (b && not (counts card)))) (sym is)
      where
        none : (a b suited : Bool) → (a && (suited && false)) ≡ (b && (suited && false))
        none false false suited = refl
        none false true true = refl
        none false true false = refl
        none true false true = refl
        none true false false = refl
        none true true suited = refl

    pub agree_fewer : Agree counts held other
    agree_fewer = record {
      high = λ seat card does. same.high seat card (within card does);
      small = λ seat led inside.
          count_parts (held seat) led
          ∙ ap (λ n. n + count_by (is_between (held seat) led) deck) (same.small seat led inside)
          ∙ ap (λ p. count_by (is_small (other seat) more led) deck + count_by p deck) (fun_ext {B = λ _. Bool} (λ card. same_between seat led card (more card) refl))
          ∙ sym (count_parts (other seat) led);
    }

  no_more : (card : ℕ) → more card ≡ false → counts card ≡ false
  no_more card not_more = at (counts card) refl
    where
      at : (is : Bool) → counts card ≡ is → counts card ≡ false
      at true is = let does = within card is in cc
      at false is = is

  pub alike_fewer : (c d : ℕ) → AreAlike more c d → AreAlike counts c d
  alike_fewer c d (inl same) = inl same
  alike_fewer c d (inr small) = inr (small.0, no_more c small.1, no_more d small.2)

  pub trick_fewer : (trick other : List ℕ) → AgreeTrick more trick other → AgreeTrick counts trick other
  trick_fewer trick other same = record {
    long = same.long;
    each = λ index inside. alike_fewer (slice_index trick index) (slice_index other index) (same.each index inside);
  }

  -- what is settled by some is settled by more
  pub settles_more : (trump : Option Suit) (cards need : ℕ) (answer : Bool) (held : Seat → ℕ → Bool) (leader : Seat) (trick : List ℕ) → Settles trump cards need counts answer held leader trick → Settles trump cards need more answer held leader trick
  settles_more trump cards need answer held leader trick settled other out played same same_trick =
      settled other out played (agree_fewer held other same) (trick_fewer trick played same_trick)
