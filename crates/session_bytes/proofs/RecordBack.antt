-- The record of a play is read back from its part.
use Rattle.std.proofs.Common.{◌≡◌, ◌<◌, ◌≤◌, ◌^◌, ℕ, Bool, List, [], ◌∷◌, ◌++◌, length, get_or, map, take, drop, Option, None, Some, All, refl, ap, ◌∙◌, append_assoc}
use Rattle.std.specs.Prelude.{IfSome, unwrap_or, option_map, option_and_then}
use Rattle.std.specs.Option.{option_map_or}
use Rattle.std.proofs.lemmas.List.{length-map}
use Rattle.std.proofs.lemmas.Nat.{from_be_bytes-to_be_bytes_2}
use Rattle.bridge_auction.specs.declared.call.Call.{Call}
use Rattle.bridge_auction.specs.declared.call.Call.TheVariants.{Pass}
use Rattle.bridge_auction.specs.Call.{call_number, IsCall}
use Rattle.bridge_auction.proofs.CallNumbers.{call_at-call_number}
use Rattle.bridge_play.specs.declared.claim.Claim.{Claim}
use Rattle.session_rules.specs.declared.average.Average.{Average}
use Rattle.session_rules.specs.declared.ruling.Ruling.{Ruling}
use Rattle.session_rules.specs.declared.ruling.Ruling.TheVariants as ruling
use Rattle.bridge_auction.specs.declared.contract.Contract.{Contract}
use Rattle.bridge_auction.specs.Bid.{bid_number, IsBid}
use Rattle.session_bytes.specs.AssignedBytes.{assigned_byte, assigned_tricks}
use Rattle.session_bytes.specs.ClaimRead.{claim_at}
use Rattle.session_bytes.specs.Parts.{two_bytes, text_bytes, is_agreed_in, claim_bytes, HasRuling, HasRecord, ruling_bytes, record_part}
use Rattle.session_bytes.specs.PartsRead.{text_in, after_text, call_or_pass, call_count, after_calls, after_cards, claim_in, after_claim, average_or_even, assigned_at_front, ruling_at_front, record_in}
use Rattle.session_rules.specs.Average.{percent_of}
use Rattle.session_rules.specs.Record.{PlainRecord, contract_in}
use Rattle.session_rules.specs.StateRange.{IsOfFourSeats, IsRulingInRange}
use Rattle.session_store.specs.declared.disk_format.DiskFormat.{DiskFormat}
use Rattle.session_store.specs.declared.disk_format.DiskFormat.TheVariants.{One, Two}
use Rattle.session_bytes.proofs.Options.{not_some}
use Rattle.session_bytes.proofs.ActionBack.{average_back}
use Rattle.session_bytes.proofs.AssignedLaws.{assigned_back}
use Rattle.session_bytes.proofs.ClaimLaws.{claim_again, unmarked}
use Rattle.session_bytes.proofs.BytesBack.{take_front, drop_front, all_back, text_back, after_back}

-- calls
calls_back : (calls : List Call) → All IsCall calls → map call_or_pass (map call_number calls) ≡ calls
calls_back calls known =
    all_back call_number call_or_pass calls
    (λ index call within. ap (λ found. unwrap_or found Pass) (call_at-call_number (get_or calls index call) (known index call within)))

-- the ruling that the format keeps: the first has no averages
abbrev pub kept_ruling : DiskFormat → Option Ruling → Option Ruling
kept_ruling One None = None
kept_ruling One (Some (ruling.Tricks tricks)) = Some (ruling.Tricks tricks)
kept_ruling One (Some ruling.Void) = Some ruling.Void
kept_ruling One (Some (ruling.Adjusted ns ew)) = None
kept_ruling One (Some (ruling.Assigned contract tricks)) = None
kept_ruling Two made = made

adjusted_back : (ns ew : Average)
    → Some (ruling.Adjusted (average_or_even (percent_of ns)) (average_or_even (percent_of ew))) ≡ Some (ruling.Adjusted ns ew)
adjusted_back ns ew = rw (average_back ns, average_back ew) refl

assigned_back_front : (contract : Contract) (tricks : ℕ) → IsBid contract.bid × (tricks ≤ 13) → assigned_at_front (bid_number contract.bid) (assigned_byte contract tricks) ≡ Some (ruling.Assigned contract tricks)
assigned_back_front contract tricks is =
    let back = assigned_back contract tricks is.0 is.1 in
    ap (option_map (λ c. ruling.Assigned c (assigned_tricks (assigned_byte contract tricks)))) back.0
    ∙ ap (λ n. Some (ruling.Assigned contract n)) back.1

ruling_back : (format : DiskFormat) (made : Option Ruling) → IfSome made IsRulingInRange → ruling_at_front (ruling_bytes format made) ≡ kept_ruling format made
ruling_back One None is = refl
ruling_back One (Some (ruling.Tricks tricks)) is = refl
ruling_back One (Some ruling.Void) is = refl
ruling_back One (Some (ruling.Adjusted ns ew)) is = refl
ruling_back One (Some (ruling.Assigned contract tricks)) is = refl
ruling_back Two None is = refl
ruling_back Two (Some (ruling.Tricks tricks)) is = refl
ruling_back Two (Some ruling.Void) is = refl
ruling_back Two (Some (ruling.Adjusted ns ew)) is = adjusted_back ns ew
ruling_back Two (Some (ruling.Assigned contract tricks)) is = assigned_back_front contract tricks is

-- the record with the ruling that the format keeps
abbrev pub kept_record : DiskFormat → PlainRecord → PlainRecord
kept_record format plain = record plain { ruling = kept_ruling format plain.ruling }

-- it is the record itself where the format has its ruling, and only there
had_ruling : (format : DiskFormat) (made : Option Ruling) → IfSome made (HasRuling format) → kept_ruling format made ≡ made
had_ruling One None has = refl
had_ruling One (Some (ruling.Tricks tricks)) has = refl
had_ruling One (Some ruling.Void) has = refl
had_ruling One (Some (ruling.Adjusted ns ew)) has = absurd has
had_ruling One (Some (ruling.Assigned contract tricks)) has = absurd has
had_ruling Two made has = refl

has_ruling : (format : DiskFormat) (made : Option Ruling) → kept_ruling format made ≡ made → IfSome made (HasRuling format)
has_ruling One None same = tt
has_ruling One (Some (ruling.Tricks tricks)) same = tt
has_ruling One (Some ruling.Void) same = tt
has_ruling One (Some (ruling.Adjusted ns ew)) same = not_some (ruling.Adjusted ns ew) same
has_ruling One (Some (ruling.Assigned contract tricks)) same = not_some (ruling.Assigned contract tricks) same
has_ruling Two None same = tt
has_ruling Two (Some made) same = tt

pub had_record : (format : DiskFormat) (plain : PlainRecord) → HasRecord format plain → kept_record format plain ≡ plain
had_record format plain has = ap (λ made. record plain { ruling = made }) (had_ruling format plain.ruling has)

pub has_record : (format : DiskFormat) (plain : PlainRecord) → kept_record format plain ≡ plain → HasRecord format plain
has_record format plain same = has_ruling format plain.ruling (ap (λ (p : PlainRecord). p.ruling) same)

-- six lists, one after the other
six_joined : (a b c d e f : List ℕ) → a ++ b ++ c ++ d ++ e ++ f ≡ a ++ (b ++ (c ++ (d ++ (e ++ f))))
six_joined a b c d e f = simp append_assoc

-- the calls are few and known, a claim is of four seats, and a ruling is within its range
pub record IsWritten (plain : PlainRecord) : Type 0 where
  pub few : length plain.calls < 2 ^ 16
  pub known : All IsCall plain.calls
  pub claim : IfSome plain.claim IsOfFourSeats
  pub ruled : IfSome plain.ruling IsRulingInRange

pub record_back : (format : DiskFormat) (plain : PlainRecord) → IsWritten plain → record_in plain.board (record_part format plain) ≡ kept_record format plain
record_back format plain is =
    let agreed : Bool = is_agreed_in plain in
    let n : ℕ = length plain.calls in
    let calls : List ℕ = map call_number plain.calls in
    let made : List ℕ = ruling_bytes format plain.ruling in
    let last : List ℕ = claim_bytes agreed plain.claim ++ made in
    let behind : List ℕ = text_bytes plain.cards ++ (plain.claims ∷ last) in
    let part : List ℕ = two_bytes n ++ (calls ++ behind) in
    let long : length calls ≡ n = length-map plain.calls call_number in
    let count : call_count part ≡ n = from_be_bytes-to_be_bytes_2 n is.few in
    let calls_are : map call_or_pass (take (call_count part) (drop 2 part)) ≡ plain.calls
    = ap (λ k. map call_or_pass (take k (calls ++ behind))) count ∙ ap (map call_or_pass) (take_front n calls behind long)
    ∙ calls_back plain.calls is.known in
    let past_calls : after_calls part ≡ behind = ap (λ k. drop k (calls ++ behind)) count ∙ drop_front n calls behind long in
    let cards_are : text_in (after_calls part) ≡ plain.cards = ap text_in past_calls ∙ text_back plain.cards (plain.claims ∷ last) in
    let past_cards : after_cards part ≡ plain.claims ∷ last = ap after_text past_calls ∙ after_back plain.cards (plain.claims ∷ last) in
    let claims_are : get_or (after_cards part) 0 0 ≡ plain.claims = ap (λ bytes. get_or bytes 0 0) past_cards in
    let claim : claim_at (claim_bytes agreed plain.claim ++ made) ≡ Some (plain.claim, agreed, made)
    = claim_again agreed plain.claim made is.claim (unmarked plain (contract_in plain) refl) in
    let claim_is : claim_in (drop 1 (after_cards part)) ≡ plain.claim
    = ap (λ bytes. claim_in (drop 1 bytes)) past_cards ∙ ap (option_and_then (λ (read : Option Claim × Bool × List ℕ). read.0)) claim in
    let ruling_is : ruling_at_front (after_claim (drop 1 (after_cards part))) ≡ kept_ruling format plain.ruling
    = ap (λ bytes. ruling_at_front (after_claim (drop 1 bytes))) past_cards
    ∙ ap (λ read. ruling_at_front (option_map_or (λ (read : Option Claim × Bool × List ℕ). read.2) read [])) claim
    ∙ ruling_back format plain.ruling is.ruled in
    ap (record_in plain.board) (six_joined (two_bytes n) calls (text_bytes plain.cards) (plain.claims ∷ []) (claim_bytes agreed plain.claim) made)
    ∙ λ i. record {
      board = plain.board;
      calls = calls_are i;
      cards = cards_are i;
      claims = claims_are i;
      claim = claim_is i;
      ruling = ruling_is i;
    }
