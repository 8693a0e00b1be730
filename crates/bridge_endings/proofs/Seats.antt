-- Seats by their numbers, and the four of a trick.
use Rattle.std.proofs.Common.{◌≡◌, ℕ, ◌+◌, ◌%◌, ◌<◌, Bool, true, false, refl, sym, ap, ◌∙◌, arith}
use Rattle.std.proofs.lemmas.Bool.{eqb-true, eq-eqb}
use Rattle.bridge_cards.specs.declared.seat.Seat.{Seat}
use Rattle.bridge_cards.specs.declared.seat.Seat.TheVariants.{North, East, South, West}
use Rattle.bridge_cards.specs.Seat.{seat_number, seat_at, clockwise_from, same_seat}

pub seat_at-number : (seat : Seat) → seat_at (seat_number seat) ≡ seat
seat_at-number North = refl
seat_at-number East = refl
seat_at-number South = refl
seat_at-number West = refl

pub same_seat-eq : (a b : Seat) → same_seat a b ≡ true → a ≡ b
same_seat-eq a b same =
    sym (seat_at-number a) ∙ ap seat_at (eqb-true (seat_number a) (seat_number b) same) ∙ seat_at-number b

pub same_seat-self : (seat : Seat) → same_seat seat seat ≡ true
same_seat-self seat = eq-eqb (seat_number seat) (seat_number seat) refl

seat_number-clockwise : (seat : Seat) (k : ℕ) → k < 4 → seat_number (clockwise_from seat k) ≡ (seat_number seat + k) % 4
seat_number-clockwise seat k few = grind arith

-- a seat plays once to a trick
pub one_place : (leader seat : Seat) (j k : ℕ) → j < 4 → k < 4 → same_seat (clockwise_from leader j) seat ≡ true → same_seat (clockwise_from leader k) seat ≡ true → j ≡ k
one_place leader seat j k p q one other =
    let a : seat_number (clockwise_from leader j) ≡ seat_number seat = eqb-true (seat_number (clockwise_from leader j)) (seat_number seat) one in
    let b : seat_number (clockwise_from leader k) ≡ seat_number seat = eqb-true (seat_number (clockwise_from leader k)) (seat_number seat) other in
    let e = seat_number-clockwise leader j p in
    let f = seat_number-clockwise leader k q in
    omega arith

-- two indexes of a trick are two seats
pub other_place : (leader : Seat) (j k : ℕ) → j < 4 → k < 4 → (j ≡ k → ⊥) → same_seat (clockwise_from leader k) (clockwise_from leader j) ≡ false
other_place leader j k p q differ = at (same_seat (clockwise_from leader k) (clockwise_from leader j)) refl
  where
    at : (is : Bool) → same_seat (clockwise_from leader k) (clockwise_from leader j) ≡ is → same_seat (clockwise_from leader k) (clockwise_from leader j) ≡ false
    at true is =
        let same = one_place leader (clockwise_from leader j) j k p q (same_seat-self (clockwise_from leader j)) is in
        absurd (differ same)
    at false is = is

pub first_place : (seat : Seat) → clockwise_from seat 0 ≡ seat
first_place North = refl
first_place East = refl
first_place South = refl
first_place West = refl
