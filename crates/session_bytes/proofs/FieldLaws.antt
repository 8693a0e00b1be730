-- The fields of a part are read back from its bytes, and only from these.
use Rattle.std.proofs.Common.{◌≡◌, ◌≢◌, IfSome, IfNone, ◌<◌, ◌≤◌, ◌^◌, nat_lt, ℕ, Bool, false, List, [], ◌∷◌, ◌++◌, length, take, drop, map, Option, Some, None, refl, sym, ap, ◌∙◌, subst, arith, inl, inr, length-append, append_assoc}
use Rattle.std.specs.Prelude.{option_and_then}
use Rattle.std.specs.Int.{w16, to_be_bytes, from_be_bytes}
use Rattle.std.specs.Option.{option_map}
use Rattle.std.proofs.lemmas.Bool.{ltb-false, le-ltb}
use Rattle.std.proofs.lemmas.Nat.{from_be_bytes-to_be_bytes_2, be_bytes_2}
use Rattle.std.proofs.lemmas.List.{take-append-drop, length-take, take_at, drop_at, length-map}
use Rattle.bridge_auction.specs.Call.{call_number}
use Rattle.bridge_play.specs.declared.claim.Claim.{Claim}
use Rattle.session_bytes.specs.declared.record_fields.RecordFields.{RecordFields}
use Rattle.session_rules.specs.declared.ruling.Ruling.{Ruling}
use Rattle.session_rules.specs.Record.{PlainRecord, contract_in}
use Rattle.session_bytes.specs.Parts.{text_bytes, is_agreed_in, claim_bytes, HasRuling, HasRecord, ruling_bytes, record_part}
use Rattle.session_rules.specs.StateRange.{IsOfFourSeats, IsRulingInRange, IsRecordInRange}
use Rattle.session_bytes.specs.ClaimRead.{claim_at}
use Rattle.session_bytes.specs.Reading.{Fields, fields_in, fields_of, bytes_at, calls_at, cards_at, ruling_at, claims_at, fields_at, fields_part, AreFieldsOf}
use Rattle.session_store.specs.declared.disk_format.DiskFormat.{DiskFormat}
use Rattle.session_bytes.proofs.ClaimLaws.{claim_take, claim_again, unmarked}
use Rattle.session_bytes.proofs.Options.{some_is, not_some}
use Rattle.session_bytes.proofs.RulingLaws.{ruling_take, ruling_again}
use Rattle.session_bytes.proofs.ReadSteps.{AreBytes, map_is, then_is, if_is, two_bytes}

-- Bytes behind their number

split_take : (count : ℕ) (bytes : List ℕ) (x : List ℕ × List ℕ) → bytes_at count bytes ≡ Some x → (length x.0 ≡ count) × (x.0 ++ x.1 ≡ bytes)
split_take count bytes x is =
    elim (if_is (nat_lt (length bytes) count) None (Some (take count bytes, drop count bytes)) (Some x) is) [
      | inl here ↦ absurd (not_some x here.1)
      | inr other ↦
          let long : count ≤ length bytes = ltb-false (length bytes) count other.0 in
          let few : length (take count bytes) ≡ count = omega (arith, length-take count bytes, long) in
          subst (λ (y : List ℕ × List ℕ). (length y.0 ≡ count) × (y.0 ++ y.1 ≡ bytes)) (some_is (take count bytes, drop count bytes) x other.1)
          (few, take-append-drop count bytes)
    ]

split_again : (xs rest : List ℕ) → bytes_at (length xs) (xs ++ rest) ≡ Some (xs, rest)
split_again xs rest =
    let long : nat_lt (length (xs ++ rest)) (length xs) ≡ false = le-ltb _ _ (omega (arith, length-append xs rest)) in
    rw (long, take_at xs rest (length xs) refl, drop_at xs rest (length xs) refl) refl

calls_take : (bytes : List ℕ) (x : List ℕ × List ℕ) → AreBytes bytes → calls_at bytes ≡ Some x → to_be_bytes w16 (length x.0) ++ x.0 ++ x.1 ≡ bytes
calls_take [] x are is = absurd (not_some x is)
calls_take (high ∷ []) x are is = absurd (not_some x is)
calls_take (high ∷ low ∷ rest) x are is =
    let number : ℕ = from_be_bytes w16 (high ∷ low ∷ []) in
    let split = split_take number rest x is in
    let two : to_be_bytes w16 (length x.0) ≡ high ∷ low ∷ []
    = be_bytes_2 (high ∷ low ∷ []) (length x.0) refl (two_bytes high low (are 0) (are 1)) split.0 in
    ap (λ front. front ++ (x.0 ++ x.1)) two ∙ ap (λ behind. high ∷ low ∷ behind) split.1

calls_again : (xs rest : List ℕ) → length xs < 2 ^ 16 → calls_at (to_be_bytes w16 (length xs) ++ xs ++ rest) ≡ Some (xs, rest)
calls_again xs rest few =
    ap (λ n. bytes_at n (xs ++ rest)) (from_be_bytes-to_be_bytes_2 (length xs) few) ∙ split_again xs rest

cards_take : (bytes : List ℕ) (x : List ℕ × List ℕ) → cards_at bytes ≡ Some x → text_bytes x.0 ++ x.1 ≡ bytes
cards_take [] x is = absurd (not_some x is)
cards_take (count ∷ rest) x is =
    let split = split_take count rest x is in
    ap (λ n. n ∷ (x.0 ++ x.1)) split.0 ∙ ap (λ behind. count ∷ behind) split.1

-- All fields

-- one part behind the other
join : (a b c d e : List ℕ) (n : ℕ) → a ++ b ++ c ++ (n ∷ []) ++ d ++ e ≡ a ++ b ++ (c ++ (n ∷ (d ++ e)))
join a b c d e n =
    append_assoc (a ++ b ++ c ++ (n ∷ [])) d e ∙ append_assoc (a ++ b ++ c) (n ∷ []) (d ++ e) ∙ append_assoc (a ++ b) c (n ∷ (d ++ e))

claims_take : (format : DiskFormat) (calls cards bytes : List ℕ) (f : Fields) → claims_at format calls cards bytes ≡ Some f
    → (f.calls ≡ calls) × (f.cards ≡ cards) × (f.claims ∷ (claim_bytes f.agreed f.claim ++ ruling_bytes format f.ruling) ≡ bytes)
    × IfSome f.claim IsOfFourSeats × IfSome f.ruling IsRulingInRange × IfSome f.ruling (HasRuling format)
claims_take format calls cards [] f is = absurd (not_some f is)
claims_take format calls cards (claims ∷ rest) f is =
    let made : Option Claim × Bool × List ℕ → Option Ruling → Fields
    = λ both r. record { calls = calls; cards = cards; claims = claims; claim = both.0; agreed = both.1; ruling = r } in
    let claim = then_is (λ both. option_map (made both) (ruling_at format both.2)) (claim_at rest) f is in
    let both = claim.0 in
    let ruled = map_is (made both) (ruling_at format both.2) f claim.2 in
    let first = claim_take rest both claim.1 in
    let second = ruling_take format both.2 ruled.0 ruled.1 in
    subst (λ (f : Fields). (f.calls ≡ calls) × (f.cards ≡ cards) × (f.claims ∷ (claim_bytes f.agreed f.claim ++ ruling_bytes format f.ruling) ≡ claims ∷ rest)
    × IfSome f.claim IsOfFourSeats × IfSome f.ruling IsRulingInRange × IfSome f.ruling (HasRuling format)) ruled.2
    (refl, refl, ap (λ xs. claims ∷ (claim_bytes both.1 both.0 ++ xs)) second.0 ∙ ap (λ xs. claims ∷ xs) first.0, first.1, second.1, second.2)

fields_take : (format : DiskFormat) (bytes : List ℕ) (f : Fields) → AreBytes bytes → fields_at format bytes ≡ Some f → AreFieldsOf format bytes f
fields_take format bytes f are is =
    let calls = then_is (λ (calls : List ℕ × List ℕ). option_and_then (λ (cards : List ℕ × List ℕ). claims_at format calls.0 cards.0 cards.1) (cards_at calls.1)) (calls_at bytes) f is in
    let cards = then_is (λ (cards : List ℕ × List ℕ). claims_at format calls.0.0 cards.0 cards.1) (cards_at calls.0.1) f calls.2 in
    let first = calls_take bytes calls.0 are calls.1 in
    let second = cards_take calls.0.1 cards.0 cards.1 in
    let third = claims_take format calls.0.0 cards.0.0 cards.0.1 f cards.2 in
    let claimed : List ℕ = claim_bytes f.agreed f.claim in
    let end : List ℕ = f.claims ∷ (claimed ++ ruling_bytes format f.ruling) in
    let behind : text_bytes f.cards ++ end ≡ calls.0.1
    = ap (λ xs. text_bytes xs ++ end) third.1 ∙ ap (λ xs. text_bytes cards.0.0 ++ xs) third.2 ∙ second in
    let joined = join (to_be_bytes w16 (length f.calls)) f.calls (text_bytes f.cards) claimed (ruling_bytes format f.ruling) f.claims in
    let whole : fields_part format f ≡ bytes
    = joined ∙ ap (λ xs. to_be_bytes w16 (length xs) ++ xs ++ (text_bytes f.cards ++ end)) third.0
    ∙ ap (λ xs. to_be_bytes w16 (length calls.0.0) ++ calls.0.0 ++ xs) behind ∙ first in
    let long : length (to_be_bytes w16 (length f.calls) ++ f.calls ++ (text_bytes f.cards ++ end)) ≡ length bytes = ap length (sym joined ∙ whole) in
    let one = length-append (to_be_bytes w16 (length f.calls) ++ f.calls) (text_bytes f.cards ++ end) in
    let two = length-append (to_be_bytes w16 (length f.calls)) f.calls in
    let three = length-append (text_bytes f.cards) end in
    record {
      bytes = whole;
      few_calls = omega (arith, long, one, two);
      few_cards = omega (arith, long, one, two, three);
      answers = third.3;
      ruled = third.4;
      of_format = third.5;
    }

pub fields_again : (format : DiskFormat) (plain : PlainRecord) → length plain.calls ≤ 319 → IsRecordInRange plain → HasRecord format plain
    → fields_at format (record_part format plain) ≡ Some (fields_of plain)
fields_again format plain few in_range has =
    let numbers : List ℕ = map call_number plain.calls in
    let claim : List ℕ = claim_bytes (is_agreed_in plain) plain.claim in
    let behind : List ℕ = plain.claims ∷ (claim ++ ruling_bytes format plain.ruling) in
    let count : length plain.calls ≡ length numbers = sym (length-map plain.calls call_number) in
    let joined = join (to_be_bytes w16 (length plain.calls)) numbers (text_bytes plain.cards) claim (ruling_bytes format plain.ruling) plain.claims in
    let first : calls_at (record_part format plain) ≡ Some (numbers, text_bytes plain.cards ++ behind)
    = ap calls_at joined ∙ ap (λ n. calls_at (to_be_bytes w16 n ++ numbers ++ (text_bytes plain.cards ++ behind))) count
    ∙ calls_again numbers (text_bytes plain.cards ++ behind) (omega (arith, few, count)) in
    let second : cards_at (text_bytes plain.cards ++ behind) ≡ Some (plain.cards, behind) = split_again plain.cards behind in
    let third : claim_at (claim ++ ruling_bytes format plain.ruling) ≡ Some (plain.claim, is_agreed_in plain, ruling_bytes format plain.ruling)
    = claim_again (is_agreed_in plain) plain.claim (ruling_bytes format plain.ruling) in_range.claim (unmarked plain (contract_in plain) refl) in
    let fourth : ruling_at format (ruling_bytes format plain.ruling) ≡ Some plain.ruling = ruling_again format plain.ruling in_range.ruling has in
    rw (first, second, third, fourth) refl

-- what was read, as a result tells it
pub fields_written : (format : DiskFormat) (bytes : List ℕ) (o : Option RecordFields) → AreBytes bytes → option_map fields_in o ≡ fields_at format bytes
    → IfSome o (λ fields. AreFieldsOf format bytes (fields_in fields))
fields_written format bytes None are is = tt
fields_written format bytes (Some fields) are is = fields_take format bytes (fields_in fields) are (sym is)

pub fields_other : (format : DiskFormat) (bytes : List ℕ) (o : Option RecordFields) → option_map fields_in o ≡ fields_at format bytes
    → IfNone o ((plain : PlainRecord) → length plain.calls ≤ 319 → IsRecordInRange plain → HasRecord format plain → record_part format plain ≢ bytes)
fields_other format bytes None is =
    λ plain few in_range has same. not_some (fields_of plain) (is ∙ ap (fields_at format) (sym same) ∙ fields_again format plain few in_range has)
fields_other format bytes (Some fields) is = tt
