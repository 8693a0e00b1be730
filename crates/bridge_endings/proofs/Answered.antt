-- The loop over the cards that may be played: after each that is no longer to be tried the answer is against the side in turn.
use Rattle.std.proofs.Common.{◌≡◌, ◌≢◌, ℕ, ◌<◌, ◌≤◌, ◌⊎◌, inl, inr, Bool, true, false, not, ◌&&◌, ◌||◌, ◌==◌, cond, count_by, List, [], ◌∷◌, ◌++◌, length, slice_index, Option, IsTrue, refl, sym, ap, ◌∙◌, arith}
use Rattle.std.proofs.lemmas.List.Sums.{sum_by-cons}
use Rattle.bridge_cards.specs.declared.suit.Suit.{Suit}
use Rattle.bridge_cards.specs.declared.seat.Seat.{Seat}
use Rattle.bridge_cards.specs.Seat.{clockwise_from}
use Rattle.bridge_cards.specs.Card.{same_suit}
use Rattle.bridge_cards.specs.CardSet.{has_card, card_count, deck}
use Rattle.bridge_cards.proofs.CardSetLaws.{has_card-zero}
use Rattle.bridge_cards.proofs.CardCounts.{count_by-without}
use Rattle.bridge_endings.specs.Worth.{after_playing, may_be_played}
use Rattle.bridge_endings.specs.Agree.{IsDealtOut, IsUpward, AreAlike, Settles, IsRanked}
use Rattle.bridge_endings.proofs.LegalCards.{may_be_played-held}
use Rattle.bridge_endings.proofs.Agreeing.{IsWithin, settles_more}
use Rattle.bridge_endings.proofs.Settling.{settles_like}

-- ---- cards that count together

-- the union of two sets counts upwards where both do
pub upward_union : (one other both : ℕ) → ((card : ℕ) → has_card both card ≡ (has_card one card || has_card other card)) → IsUpward (has_card one) → IsUpward (has_card other) → IsUpward (has_card both)
upward_union one other both is up up_too card above suit less does = at (has_card one card) refl
  where
    or_true : (a : Bool) → (a || true) ≡ true
    or_true true = refl
    or_true false = refl

    at : (in_one : Bool) → has_card one card ≡ in_one → has_card both above ≡ true
    at true p = is above ∙ ap (λ b. b || has_card other above) (up card above suit less p)
    at false p =
        let q : has_card other card ≡ true = ap (λ b. b || has_card other card) (sym p) ∙ sym (is card) ∙ does in
        is above ∙ ap (λ b. has_card one above || b) (up_too card above suit less q) ∙ or_true (has_card one above)

pub within_left : (one other both : ℕ) → ((card : ℕ) → has_card both card ≡ (has_card one card || has_card other card)) → IsWithin (has_card one) (has_card both)
within_left one other both is card does = is card ∙ ap (λ b. b || has_card other card) does

pub within_right : (one other both : ℕ) → ((card : ℕ) → has_card both card ≡ (has_card one card || has_card other card)) → IsWithin (has_card other) (has_card both)
within_right one other both is card does = is card ∙ ap (λ b. has_card one card || b) does ∙ or_true (has_card one card)
  where
    or_true : (a : Bool) → (a || true) ≡ true
    or_true true = refl
    or_true false = refl

-- where no card counts, none counts upwards
pub upward_none : (counts : ℕ) → counts ≡ 0 → IsUpward (has_card counts)
upward_none counts none card above suit less does =
    let never = sym does ∙ ap (λ cards. has_card cards card) none ∙ has_card-zero card in
    cc

-- a winner that counts, or is alone of its suit, does so where more count
pub ranked_more : (trump : Option Suit) (counts more : ℕ → Bool) → IsWithin counts more → (trick : List ℕ) → IsRanked trump counts trick → IsRanked trump more trick
ranked_more trump counts more within trick is = record { index = is.index; winning = is.winning; rank = at is.rank }
  where
    at : (counts (slice_index trick is.index) ≡ true) ⊎ ((k : ℕ) → k < length trick → k ≢ is.index → same_suit (slice_index trick k) (slice_index trick is.index) ≡ false) → (more (slice_index trick is.index) ≡ true) ⊎ ((k : ℕ) → k < length trick → k ≢ is.index → same_suit (slice_index trick k) (slice_index trick is.index) ≡ false)
    at (inl does) = inl (within (slice_index trick is.index) does)
    at (inr alone) = inr alone

-- ---- the loop

-- what is left to try is legal, and after each other legal card the answer is against the side, by the cards that count
pub record IsAnswered (trump : Option Suit) (cards need : ℕ) (held : Seat → ℕ → Bool) (leader : Seat) (trick : List ℕ) (legal rest counts : ℕ) (against : Bool) : Type 0 where
  pub among : (card : ℕ) → has_card rest card ≡ true → has_card legal card ≡ true
  pub tried : (card : ℕ) → has_card legal card ≡ true → has_card rest card ≡ false → Settles trump cards need (has_card counts) against (after_playing card held) leader (trick ++ card ∷ [])
  pub upward : IsUpward (has_card counts)

module _ (trump : Option Suit) (cards need : ℕ) (held : Seat → ℕ → Bool) (leader : Seat) (trick : List ℕ) (legal : ℕ) (against : Bool) where
  module _ (out : IsDealtOut held) (part : length trick < 4) (may : (card : ℕ) → has_card legal card ≡ may_be_played (held (clockwise_from leader (length trick))) trick card) where
    -- a card was tried, and those like it go too
    pub answered_step : (rest less counts its both card : ℕ) → IsAnswered trump cards need held leader trick legal rest counts against
        → has_card rest card ≡ true
        → ((other : ℕ) → has_card less other ≡ true → IsTrue (has_card rest other) × ((other == card) ≡ false))
        → ((other : ℕ) → has_card rest other ≡ true → has_card less other ≡ false → AreAlike (has_card its) card other)
        → ((other : ℕ) → has_card both other ≡ (has_card counts other || has_card its other))
        → IsUpward (has_card its)
        → Settles trump cards need (has_card its) against (after_playing card held) leader (trick ++ card ∷ [])
        → IsAnswered trump cards need held leader trick legal less both against
    answered_step rest less counts its both card before has among gone union up now = record {
      among = λ other there. before.among other (among other there).0;
      tried = λ other legal_too lacks. at other legal_too lacks (has_card rest other) refl;
      upward = upward_union counts its both union before.upward up;
    }
      where
        holds : (other : ℕ) → has_card legal other ≡ true → held (clockwise_from leader (length trick)) other ≡ true
        holds other legal_too = may_be_played-held (held (clockwise_from leader (length trick))) trick other (sym (may other) ∙ legal_too)

        at : (other : ℕ) → has_card legal other ≡ true → has_card less other ≡ false → (is : Bool) → has_card rest other ≡ is → Settles trump cards need (has_card both) against (after_playing other held) leader (trick ++ other ∷ [])
        at other legal_too lacks true is =
            settles_more (has_card its) (has_card both) (within_right counts its both union) trump cards need against (after_playing other held) leader (trick ++ other ∷ [])
            (settles_like trump cards need held out leader trick part (has_card its) against card other (holds card (before.among card has)) (holds other legal_too) (gone other is lacks) now)
        at other legal_too lacks false is =
            settles_more (has_card counts) (has_card both) (within_left counts its both union) trump cards need against (after_playing other held) leader (trick ++ other ∷ [])
            (before.tried other legal_too is)

-- ---- there are fewer cards to try

pub counts_le : (p q : ℕ → Bool) → ((x : ℕ) → p x ≡ true → q x ≡ true) → (xs : List ℕ) → count_by p xs ≤ count_by q xs
counts_le p q each [] = omega arith
counts_le p q each (x ∷ xs) =
    omega (arith, at (p x) refl, sum_by-cons (λ y. cond (p y) 1 0) x xs, sum_by-cons (λ y. cond (q y) 1 0) x xs, counts_le p q each xs)
  where
    at : (is : Bool) → p x ≡ is → cond (p x) 1 0 ≤ cond (q x) 1 0
    at true is = rw (is, each x is) (omega arith)
    at false is = rw is (omega arith)

pub fewer : (rest less card : ℕ) → card < 52 → has_card rest card ≡ true → ((other : ℕ) → has_card less other ≡ true → IsTrue (has_card rest other) × ((other == card) ≡ false)) → card_count less < card_count rest
unfolding card_count
fewer rest less card inside has among =
    omega (
      arith,
      count_by-without (has_card rest) (λ other. has_card rest other && not (other == card)) card inside has (λ other. refl),
      counts_le (has_card less) (λ other. has_card rest other && not (other == card)) (λ x there. both (has_card rest x) (x == card) (among x there).0 (among x there).1) deck,
    )
  where
    both : (a b : Bool) → a ≡ true → b ≡ false → (a && not b) ≡ true
    both true false p q = refl
    both true true p q = cc
    both false b p q = cc
