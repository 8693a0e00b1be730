-- A claim is read back from its bytes, and only from these.
use Rattle.std.proofs.Common.{◌≡◌, IfSome, ◌+◌, ◌*◌, ◌/◌, ◌%◌, ◌<◌, ◌≤◌, ◌==◌, nat_lt, ℕ, zero, suc, Bool, true, false, List, [], ◌∷◌, ◌++◌, length, Option, Some, None, if◌then◌else◌, refl, sym, ap, ◌∙◌, subst, arith, inl, inr}
use Rattle.std.specs.Option.{option_map}
use Rattle.std.proofs.lemmas.Bool.{ltb-false, eqb-true}
use Rattle.bridge_cards.specs.declared.seat.Seat.{Seat}
use Rattle.bridge_cards.specs.declared.seat.Seat.TheVariants.{North, East, South, West}
use Rattle.bridge_cards.specs.Seat.{seat_number}
use Rattle.bridge_auction.specs.declared.contract.Contract.{Contract}
use Rattle.bridge_play.specs.declared.claim.Claim.{Claim}
use Rattle.session_rules.specs.Record.{PlainRecord, contract_in}
use Rattle.session_rules.specs.StateRange.{IsOfFourSeats}
use Rattle.session_bytes.specs.Parts.{value_if, agreed_byte, is_agreed_in, claim_bytes}
use Rattle.session_bytes.specs.ClaimRead.{agreed_in, seat_numbered, claimed_by, marked_at, claim_at}
use Rattle.session_bytes.proofs.Options.{some_is, not_some}
use Rattle.session_bytes.proofs.ReadSteps.{map_is, if_is}

-- who has agreed
agreed_back : (north east south west : Bool) → agreed_in (value_if north 1 + value_if east 2 + value_if south 4 + value_if west 8) ≡ north ∷ east ∷ south ∷ west ∷ []
agreed_back true true true true = refl
agreed_back true true true false = refl
agreed_back true true false true = refl
agreed_back true true false false = refl
agreed_back true false true true = refl
agreed_back true false true false = refl
agreed_back true false false true = refl
agreed_back true false false false = refl
agreed_back false true true true = refl
agreed_back false true true false = refl
agreed_back false true false true = refl
agreed_back false true false false = refl
agreed_back false false true true = refl
agreed_back false false true false = refl
agreed_back false false false true = refl
agreed_back false false false false = refl

seat_take : (number : ℕ) (seat : Seat) → seat_numbered number ≡ Some seat → seat_number seat ≡ number
seat_take number seat is =
    elim (if_is (number == 0) (Some North) _ (Some seat) is) [
      | inl here ↦ ap seat_number (sym (some_is North seat here.1)) ∙ sym (eqb-true number 0 here.0)
      | inr other ↦ elim (if_is (number == 1) (Some East) _ (Some seat) other.1) [
        | inl here ↦ ap seat_number (sym (some_is East seat here.1)) ∙ sym (eqb-true number 1 here.0)
        | inr other ↦ elim (if_is (number == 2) (Some South) _ (Some seat) other.1) [
          | inl here ↦ ap seat_number (sym (some_is South seat here.1)) ∙ sym (eqb-true number 2 here.0)
          | inr other ↦ elim (if_is (number == 3) (Some West) _ (Some seat) other.1) [
            | inl here ↦ ap seat_number (sym (some_is West seat here.1)) ∙ sym (eqb-true number 3 here.0)
            | inr other ↦ absurd (not_some seat other.1)
          ]
        ]
      ]
    ]

seat_again : (seat : Seat) → seat_numbered (seat_number seat) ≡ Some seat
seat_again North = refl
seat_again East = refl
seat_again South = refl
seat_again West = refl

bit_value : (bit value : ℕ) → bit < 2 → value_if (bit == 1) value ≡ bit * value
bit_value zero value less = omega arith
bit_value (suc zero) value less = omega arith
bit_value (suc (suc n)) value less = absurd (omega (arith, less))

abbrev claim_by : Seat → ℕ → List Bool → Claim
claim_by claimer tricks agreed = record { claimer = claimer; tricks = tricks; agreed = agreed }

bits_take : (claimer : Seat) (tricks bits : ℕ) → bits ≤ 15 → agreed_byte (claim_by claimer tricks (agreed_in bits)) ≡ bits
bits_take claimer tricks bits few =
    let one = bit_value (bits % 2) 1 (omega arith) in
    let two = bit_value (bits / 2 % 2) 2 (omega arith) in
    let four = bit_value (bits / 4 % 2) 4 (omega arith) in
    let eight = bit_value (bits / 8 % 2) 8 (omega arith) in
    rw (one, two, four, eight) (omega (arith, few))

few_bits : (a b c d : Bool) → nat_lt 15 (value_if a 1 + value_if b 2 + value_if c 4 + value_if d 8) ≡ false
few_bits false false false false = refl
few_bits false false false true = refl
few_bits false false true false = refl
few_bits false false true true = refl
few_bits false true false false = refl
few_bits false true false true = refl
few_bits false true true false = refl
few_bits false true true true = refl
few_bits true false false false = refl
few_bits true false false true = refl
few_bits true false true false = refl
few_bits true false true true = refl
few_bits true true false false = refl
few_bits true true false true = refl
few_bits true true true false = refl
few_bits true true true true = refl

claimed_take : (seat tricks bits : ℕ) (claim : Claim) → claimed_by seat tricks bits ≡ Some claim
    → (seat_number claim.claimer ≡ seat) × (claim.tricks ≡ tricks) × (agreed_byte claim ≡ bits) × IsOfFourSeats claim
claimed_take seat tricks bits claim is =
    elim (if_is (nat_lt 15 bits) None (option_map (λ (claimer : Seat). claim_by claimer tricks (agreed_in bits)) (seat_numbered seat)) (Some claim) is) [
      | inl here ↦ absurd (not_some claim here.1)
      | inr other ↦
          let found = map_is (λ (claimer : Seat). claim_by claimer tricks (agreed_in bits)) (seat_numbered seat) claim other.1 in
          let few : bits ≤ 15 = ltb-false 15 bits other.0 in
          subst (λ (k : Claim). (seat_number k.claimer ≡ seat) × (k.tricks ≡ tricks) × (agreed_byte k ≡ bits) × IsOfFourSeats k) found.2
          (seat_take seat found.0 found.1, refl, bits_take found.0 tricks bits few, refl)
    ]

claimed_again : (claimer : Seat) (tricks : ℕ) (agreed : List Bool) → length agreed ≡ 4
    → claimed_by (seat_number claimer) tricks (agreed_byte (claim_by claimer tricks agreed)) ≡ Some (claim_by claimer tricks agreed)
claimed_again claimer tricks [] four = absurd (omega (arith, four))
claimed_again claimer tricks (a ∷ []) four = absurd (omega (arith, four))
claimed_again claimer tricks (a ∷ b ∷ []) four = absurd (omega (arith, four))
claimed_again claimer tricks (a ∷ b ∷ c ∷ []) four = absurd (omega (arith, four))
claimed_again claimer tricks (a ∷ b ∷ c ∷ d ∷ []) four =
    rw (few_bits a b c d, seat_again claimer) (ap (λ agreed. Some (claim_by claimer tricks agreed)) (agreed_back a b c d))
claimed_again claimer tricks (a ∷ b ∷ c ∷ d ∷ e ∷ more) four = absurd (omega (arith, four))

-- the mark of a claim
abbrev mark_of : Bool → ℕ
mark_of agreed = if agreed then 2 else 1

marked_take : (agreed : Bool) (bytes : List ℕ) (x : Option Claim × Bool × List ℕ) → marked_at agreed bytes ≡ Some x
    → (mark_of agreed ∷ bytes ≡ claim_bytes x.1 x.0 ++ x.2) × IfSome x.0 IsOfFourSeats
marked_take agreed [] x is = absurd (not_some x is)
marked_take agreed (seat ∷ []) x is = absurd (not_some x is)
marked_take agreed (seat ∷ tricks ∷ []) x is = absurd (not_some x is)
marked_take agreed (seat ∷ tricks ∷ bits ∷ rest) x is =
    let found = map_is (λ (claim : Claim). (Some claim, agreed, rest)) (claimed_by seat tricks bits) x is in
    let claim : Claim = found.0 in
    let parts = claimed_take seat tricks bits claim found.1 in
    subst (λ (y : Option Claim × Bool × List ℕ). (mark_of agreed ∷ seat ∷ tricks ∷ bits ∷ rest ≡ claim_bytes y.1 y.0 ++ y.2) × IfSome y.0 IsOfFourSeats)
    found.2 (
      ap (λ n. mark_of agreed ∷ n ∷ tricks ∷ bits ∷ rest) (sym parts.0) ∙ ap (λ n. mark_of agreed ∷ seat_number claim.claimer ∷ n ∷ bits ∷ rest) (sym parts.1)
          ∙ ap (λ n. mark_of agreed ∷ seat_number claim.claimer ∷ claim.tricks ∷ n ∷ rest) (sym parts.2),
      parts.3,
    )

pub claim_take : (bytes : List ℕ) (x : Option Claim × Bool × List ℕ) → claim_at bytes ≡ Some x → (claim_bytes x.1 x.0 ++ x.2 ≡ bytes) × IfSome x.0 IsOfFourSeats
claim_take [] x is = absurd (not_some x is)
claim_take (mark ∷ rest) x is =
    elim (if_is (mark == 0) _ _ (Some x) is) [
      | inl here ↦
          let zero_is = eqb-true mark 0 here.0 in
          subst (λ (y : Option Claim × Bool × List ℕ). (claim_bytes y.1 y.0 ++ y.2 ≡ mark ∷ rest) × IfSome y.0 IsOfFourSeats)
          (some_is (None, false, rest) x here.1) (ap (λ n. n ∷ rest) (sym zero_is), tt)
      | inr other ↦ elim (if_is (mark == 1) _ _ (Some x) other.1) [
        | inl here ↦
            let taken = marked_take false rest x here.1 in
            (sym taken.0 ∙ ap (λ n. n ∷ rest) (sym (eqb-true mark 1 here.0)), taken.1)
        | inr other ↦ elim (if_is (mark == 2) _ _ (Some x) other.1) [
          | inl here ↦
              let taken = marked_take true rest x here.1 in
              (sym taken.0 ∙ ap (λ n. n ∷ rest) (sym (eqb-true mark 2 here.0)), taken.1)
          | inr other ↦ absurd (not_some x other.1)
        ]
      ]
    ]

marked_again : (agreed : Bool) (claim : Claim) (rest : List ℕ) → IsOfFourSeats claim
    → marked_at agreed (seat_number claim.claimer ∷ claim.tricks ∷ agreed_byte claim ∷ rest) ≡ Some (Some claim, agreed, rest)
marked_again agreed claim rest four =
    ap (option_map (λ (k : Claim). (Some k, agreed, rest))) (claimed_again claim.claimer claim.tricks claim.agreed four)

pub claim_again : (agreed : Bool) (claim : Option Claim) (rest : List ℕ) → IfSome claim IsOfFourSeats → (claim ≡ None → agreed ≡ false)
    → claim_at (claim_bytes agreed claim ++ rest) ≡ Some (claim, agreed, rest)
claim_again agreed None rest four unmarked = ap (λ b. Some (None, b, rest)) (sym (unmarked refl))
claim_again false (Some claim) rest four unmarked = marked_again false claim rest four
claim_again true (Some claim) rest four unmarked = marked_again true claim rest four

-- without a claim none is agreed
pub unmarked : (plain : PlainRecord) (contract : Option Contract) → contract_in plain ≡ contract → plain.claim ≡ None → is_agreed_in plain ≡ false
unmarked plain None is none = rw is refl
unmarked plain (Some contract) is none = rw (is, none) refl
