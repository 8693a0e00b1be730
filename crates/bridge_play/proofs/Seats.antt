-- Seats, and who acts for a hand.
use Rattle.std.proofs.Common.{◌≡◌, ◌≢◌, ◌∙◌, Bool, true, false, if◌then◌else◌, refl, sym, ap}
use Rattle.std.proofs.lemmas.Bool.{eqb-true}
use Rattle.bridge_cards.specs.declared.seat.Seat.{Seat}
use Rattle.bridge_cards.specs.declared.seat.Seat.TheVariants.{North, East, South, West}
use Rattle.bridge_cards.specs.Seat.{same_seat, seat_number, seat_at, clockwise_from}
use Rattle.bridge_auction.specs.declared.contract.Contract.{Contract}
use Rattle.bridge_play.specs.Dummy.{dummy_of, actor_of}

-- a seat is known by its number
seat_at-number : (seat : Seat) → seat_at (seat_number seat) ≡ seat
seat_at-number North = refl
seat_at-number East = refl
seat_at-number South = refl
seat_at-number West = refl

pub same_seat-eq : (a b : Seat) → same_seat a b ≡ true → a ≡ b
same_seat-eq a b same =
    sym (seat_at-number a) ∙ ap seat_at (eqb-true (seat_number a) (seat_number b) same) ∙ seat_at-number b

pub same_seat-self : (seat : Seat) → same_seat seat seat ≡ true
same_seat-self North = refl
same_seat-self East = refl
same_seat-self South = refl
same_seat-self West = refl

-- a player is another than his partner
not_partner : (seat : Seat) → seat ≢ clockwise_from seat 2
not_partner North = λ same. cc
not_partner East = λ same. cc
not_partner South = λ same. cc
not_partner West = λ same. cc

-- declarer acts where the hand is dummy's, and otherwise the hand, which is another
not_dummy_by : (contract : Contract) (hand : Seat) (is_dummy : Bool) → same_seat hand (dummy_of contract) ≡ is_dummy → (if is_dummy then contract.declarer else hand) ≢ dummy_of contract
not_dummy_by contract hand true is = not_partner contract.declarer
not_dummy_by contract hand false is =
    λ same. let itself : same_seat hand (dummy_of contract) ≡ true = ap (λ (seat : Seat). same_seat hand seat) (sym same) ∙ same_seat-self hand in cc

pub actor_not_dummy : (contract : Contract) (hand : Seat) → actor_of contract hand ≢ dummy_of contract
actor_not_dummy contract hand = not_dummy_by contract hand (same_seat hand (dummy_of contract)) refl
