-- A record stays valid where a player acts in it.
use Rattle.std.proofs.Common.{◌≡◌, ◌≢◌, ◌+◌, ◌/◌, ◌%◌, ◌==◌, ◌<◌, ◌≤◌, ℕ, Bool, true, false, not, ◌&&◌, ◌||◌, cond, List, [], ◌∷◌, length, Option, Some, None, Result, Ok, Err, refl, sym, ap, ◌∙◌, subst, arith, inl, inr, get_or-set_other}
use Rattle.std.specs.Prelude.{slice_index_or, nat_lt, nat_le, is_some, unwrap_or, IfSome}
use Rattle.std.specs.Option.{option_map}
use Rattle.std.proofs.lemmas.Bool.{eqb-true, eqb-false, eq-eqb, ltb-false, leb-false, false≢true, cases_eq}
use Rattle.bridge_cards.specs.declared.seat.Seat.{Seat}
use Rattle.bridge_cards.specs.declared.seat.Seat.TheVariants.{North, East, South, West}
use Rattle.bridge_cards.specs.Board.{dealer_of}
use Rattle.bridge_cards.proofs.FollowLaws.{each_may_follow-push}
use Rattle.bridge_cards.specs.Seat.{seat_number, same_seat, clockwise_from}
use Rattle.bridge_auction.specs.declared.call.Call.{Call}
use Rattle.bridge_auction.specs.declared.call.Call.TheVariants as call
use Rattle.bridge_auction.specs.declared.contract.Contract.{Contract}
use Rattle.bridge_auction.specs.declared.refused.CallRefused.{CallRefused}
use Rattle.bridge_auction.specs.declared.refused.CallRefused.TheVariants as call_refused
use Rattle.bridge_auction.specs.Call.{IsCall}
use Rattle.bridge_auction.specs.Contract.{contract_of}
use Rattle.bridge_auction.specs.Legal.{is_ended, is_admissible, MayFollow, IsLegal}
use Rattle.bridge_auction.specs.Answer.{open_answer, answer_to}
use Rattle.bridge_play.specs.declared.claim.Claim.{Claim}
use Rattle.bridge_play.specs.declared.refused.CardRefused.TheVariants as card_refused
use Rattle.bridge_play.specs.declared.refused.ClaimRefused.TheVariants as claim_refused
use Rattle.bridge_play.specs.declared.refused.ConsentRefused.TheVariants as consent_refused
use Rattle.bridge_play.specs.Claims.{is_asked, has_agreed, needs_no_answer, all_agreed, consent_to, with_agreed}
use Rattle.bridge_play.specs.Dummy.{dummy_of, actor_of}
use Rattle.bridge_play.specs.Legal as cards
use Rattle.bridge_play.specs.Play.{PlayValue, with_card, with_claim, with_agreement, without_claim, is_over, is_agreed, card_answer, claim_answer, consent_answer, consent_if, IsClaimIn, IsPlay}
use Rattle.bridge_play.specs.Trick.{turn_of}
use Rattle.bridge_score.specs.declared.Scoring.{Scoring}
use Rattle.session_rules.specs.declared.deed.Deed.{Deed}
use Rattle.session_rules.specs.declared.deed.Deed.TheVariants as deed
use Rattle.session_rules.specs.declared.refused.Refused.{Refused}
use Rattle.session_rules.specs.declared.refused.Refused.TheVariants.{WrongPhase, Stale, NotYourTurn}
use Rattle.session_rules.specs.declared.ruling.Ruling.{Ruling}
use Rattle.session_rules.specs.declared.ruling.Ruling.TheVariants as ruling
use Rattle.session_rules.specs.Deed.{renamed, from_call, from_card, from_claim, from_consent, counted, deed_answer, answer_if_play, answer_in_play, with_deed}
use Rattle.session_rules.specs.Record.{PlainRecord, bidding_of, contract_in, playing_in, play_of, course_in, is_finished, is_ruled_out, is_open}
use Rattle.session_rules.specs.State.{deal_on, hands_on}
use Rattle.session_rules.specs.Valid.{MayStand, IsUnplayed, IsValidRecord, IsDeed}
use Rattle.session_rules.proofs.Lists.{not_refused, not_false}
use Rattle.session_rules.proofs.PlainRecords.{no_contract}
use Rattle.session_rules.proofs.StaysValid.{none_of}
use Rattle.session_rules.proofs.ValidRound.{rest_ok}
use Rattle.session_rules.proofs.ValidRuling.{over_done}

-- an answer under another name is Ok where the answer is
renamed_ok : {E : Type 0} (name : E → Refused) (r : Result (Unit {0}) E) → renamed name r ≡ Ok tt → r ≡ Ok tt
renamed_ok name (Ok deed) is = refl
renamed_ok name (Err e) is = absurd cc

-- An open play has no ruling

open_parts : (void deed : Bool) → (not void && not deed) ≡ true → (void ≡ false) × (deed ≡ false)
open_parts true deed is = absurd cc
open_parts false true is = absurd cc
open_parts false false is = (refl, refl)

unruled_by : (scoring : Scoring) (x : PlainRecord) (made : Option Ruling) → is_ruled_out made ≡ false → is_finished x ≡ false → IfSome made (MayStand scoring (course_in x)) → made ≡ None
unruled_by scoring x None void unfinished ruled = refl
unruled_by scoring x (Some (ruling.Tricks tricks)) void unfinished ruled =
    let over = over_done x.calls (course_in x) ruled in absurd cc
unruled_by scoring x (Some ruling.Void) void unfinished ruled = absurd cc
unruled_by scoring x (Some (ruling.Assigned contract tricks)) void unfinished ruled = absurd cc
unruled_by scoring x (Some (ruling.Adjusted ns ew)) void unfinished ruled = absurd cc

unruled : (scoring : Scoring) (x : PlainRecord) → is_open x ≡ true → IfSome x.ruling (MayStand scoring (course_in x)) → x.ruling ≡ None
unruled scoring x open_play ruled =
    let parts = open_parts (is_ruled_out x.ruling) (is_finished x) open_play in
    unruled_by scoring x x.ruling parts.0 parts.1 ruled

-- A call

admitted : (b : Bool) (e : CallRefused) → ◌≡◌ {A = Result (Unit {0}) CallRefused} (cond b (Ok tt) (Err e)) (Ok tt) → b ≡ true
admitted true e is = refl
admitted false e is = absurd cc

admissible_is : (calls : List Call) (made : Call) → open_answer calls made ≡ Ok tt → is_admissible calls made ≡ true
admissible_is calls call.Pass is = refl
admissible_is calls (call.Bid bid) is = admitted (is_admissible calls (call.Bid bid)) call_refused.InsufficientBid is
admissible_is calls call.Double is = admitted (is_admissible calls call.Double) call_refused.InadmissibleDouble is
admissible_is calls call.Redouble is = admitted (is_admissible calls call.Redouble) call_refused.InadmissibleRedouble is

-- a play in which nothing was played
new_play : (hands : List ℕ) (contract : Contract) (x : PlainRecord) → IsUnplayed x → IsPlay (playing_in hands x contract)
new_play hands contract x before = record {
  legal = subst (cards.IsLegal hands contract) (sym before.cards) (λ index card is. absurd (none_of index card is));
  few = before.claims;
  claimed = subst (λ o. IfSome o (IsClaimIn (playing_in hands x contract))) (sym before.claim) tt;
}

if_some_map : {A B : Type 0} (P : B → Type 0) (f : A → B) (o : Option A) → ((x : A) → P (f x)) → IfSome (option_map f o) P
if_some_map P f None all = tt
if_some_map P f (Some x) all = all x

call_valid : (scoring : Scoring) (deals : List (Option (List ℕ))) (now round : ℕ) (hands : List ℕ) (seat : Seat) (at : ℕ) (made : Call) (x : PlainRecord) → round ≡ now → deal_on deals x.board ≡ Some hands → is_open x ≡ true → IsCall made → deed_answer (bidding_of x) (play_of hands x) seat at (deed.Call made) ≡ Ok tt → IsValidRecord scoring deals now round x → IsValidRecord scoring deals now round (with_deed seat (deed.Call made) x)
call_valid scoring deals now round hands seat at made x current dealt open_play known ok valid =
    let ended : is_ended x.calls ≡ false = not_refused (is_ended x.calls) WrongPhase _ ok in
    let second = rest_ok (is_ended x.calls) WrongPhase _ ok in
    let third = rest_ok (not (at == length x.calls)) Stale _ second in
    let fourth = rest_ok (not (same_seat seat (clockwise_from (dealer_of x.board) (length x.calls)))) NotYourTurn _ third in
    let answered = renamed_ok from_call (answer_to x.calls made) fourth in
    let opened = rest_ok (is_ended x.calls) call_refused.Ended _ answered in
    let before = valid.unplayed (no_contract (dealer_of x.board) x.calls ended) in
    let after = with_deed seat (deed.Call made) x in
    let unplayed : IsUnplayed after = record { cards = before.cards; claims = before.claims; claim = before.claim } in
    record {
      calls = each_may_follow-push MayFollow x.calls made valid.calls (record { known = known; open_auction = ended; admissible = admissible_is x.calls made opened });
      dealt = λ none. absurd (cc (dealt, none));
      unplayed = λ none. unplayed;
      play = if_some_map IsPlay (playing_in (hands_on deals x.board) after) (contract_in after) (λ contract. new_play (hands_on deals x.board) contract after unplayed);
      ruled = subst (λ o. IfSome o (MayStand scoring (course_in after))) (sym (unruled scoring x open_play valid.ruled)) tt;
      later = λ less. absurd (omega arith);
      earlier = λ less. absurd (omega arith);
    }

-- In the play

is_none : (o : Option Claim) → is_some o ≡ false → o ≡ None
is_none None e = refl
is_none (Some claim) e = absurd cc

card_play : (p : PlayValue) (seat : Seat) (card : ℕ) → card_answer p seat card ≡ Ok tt → IsPlay p → IsPlay (with_card p card)
card_play p seat card ok valid =
    let hand = turn_of p.contract p.cards in
    let second = rest_ok (is_over p) card_refused.Over _ ok in
    let none : p.claim ≡ None = is_none p.claim (not_refused (is_some p.claim) card_refused.ClaimStands _ second) in
    let third = rest_ok (is_some p.claim) card_refused.ClaimStands _ second in
    let fourth = rest_ok (not (same_seat seat (actor_of p.contract hand))) card_refused.NotYourTurn _ third in
    let held = not_false (cards.holds p.hands p.cards hand card) (not_refused (not (cards.holds p.hands p.cards hand card)) card_refused.NotHeld _ fourth) in
    let fifth = rest_ok (not (cards.holds p.hands p.cards hand card)) card_refused.NotHeld _ fourth in
    let following = not_false (cards.follows p.hands p.cards hand card) (not_refused (not (cards.follows p.hands p.cards hand card)) card_refused.MustFollow _ fifth) in
    record {
      legal = each_may_follow-push (cards.MayPlay p.hands p.contract) p.cards card valid.legal (record { held = held; following = following });
      few = valid.few;
      claimed = subst (λ o. IfSome o (IsClaimIn (with_card p card))) (sym none) tt;
    }

nobody : (seat : Seat) → slice_index_or (false ∷ false ∷ false ∷ false ∷ []) (seat_number seat) false ≡ false
nobody North = refl
nobody East = refl
nobody South = refl
nobody West = refl

or_parts : (a b : Bool) → (a || b) ≡ false → (a ≡ false) × (b ≡ false)
or_parts true b is = absurd cc
or_parts false b is = (refl, is)

claim_play : (p : PlayValue) (seat : Seat) (tricks : ℕ) → claim_answer p seat tricks ≡ Ok tt → IsPlay p → IsPlay (with_claim p seat tricks)
claim_play p seat tricks ok valid =
    let over = or_parts (length p.cards == 52) (is_agreed p) (not_refused (is_over p) claim_refused.Over _ ok) in
    let second = rest_ok (is_over p) claim_refused.Over _ ok in
    let third = rest_ok (is_some p.claim) claim_refused.ClaimStands _ second in
    let other : same_seat seat (dummy_of p.contract) ≡ false = not_refused (same_seat seat (dummy_of p.contract)) claim_refused.NotYourTurn _ third in
    let fourth = rest_ok (same_seat seat (dummy_of p.contract)) claim_refused.NotYourTurn _ third in
    let whole = not_false (length p.cards % 4 == 0) (not_refused (not (length p.cards % 4 == 0)) claim_refused.MidTrick _ fourth) in
    let between : length p.cards % 4 ≡ 0 = eqb-true (length p.cards % 4) 0 whole in
    let fifth = rest_ok (not (length p.cards % 4 == 0)) claim_refused.MidTrick _ fourth in
    let within : length p.cards / 4 + tricks ≤ 13 = ltb-false 13 (length p.cards / 4 + tricks) (not_refused (nat_lt 13 (length p.cards / 4 + tricks)) claim_refused.TooManyTricks _ fifth) in
    let sixth = rest_ok (nat_lt 13 (length p.cards / 4 + tricks)) claim_refused.TooManyTricks _ fifth in
    let room : p.claims < 99 = leb-false 99 p.claims (not_refused (nat_le 99 p.claims) claim_refused.ClaimsSpent _ sixth) in
    let unfinished : length p.cards ≢ 52 = eqb-false (length p.cards) 52 over.0 in
    record {
      legal = valid.legal;
      few = omega arith;
      claimed = record {
        counted = omega arith;
        between = between;
        some_left = omega arith;
        claimer = λ same. let is_same = eq-eqb (seat_number seat) (seat_number (dummy_of p.contract)) (ap seat_number same) in absurd (false≢true (sym other ∙ is_same));
        within = within;
        asked = λ one agreed. absurd (false≢true (sym (nobody one) ∙ agreed));
      };
    }

-- a seat by its number
one_seat : (a b : Seat) → seat_number a ≡ seat_number b → a ≡ b
one_seat North North e = refl
one_seat North East e = absurd (omega arith)
one_seat North South e = absurd (omega arith)
one_seat North West e = absurd (omega arith)
one_seat East North e = absurd (omega arith)
one_seat East East e = refl
one_seat East South e = absurd (omega arith)
one_seat East West e = absurd (omega arith)
one_seat South North e = absurd (omega arith)
one_seat South East e = absurd (omega arith)
one_seat South South e = refl
one_seat South West e = absurd (omega arith)
one_seat West North e = absurd (omega arith)
one_seat West East e = absurd (omega arith)
one_seat West South e = absurd (omega arith)
one_seat West West e = refl

-- who is asked to a claim, and has not agreed
asked_is : (contract : Contract) (claim : Claim) (seat : Seat) → consent_to contract claim seat ≡ Ok tt → is_asked contract claim.claimer seat ≡ true
asked_is contract claim seat ok =
    let rest = rest_ok (all_agreed contract claim) consent_refused.NoClaim _ ok in
    let parts = or_parts (not (is_asked contract claim.claimer seat)) (has_agreed claim seat) (not_refused (needs_no_answer contract claim seat) consent_refused.NotAsked _ rest) in
    not_false (is_asked contract claim.claimer seat) parts.0

agreed_claim : (p : PlayValue) (seat : Seat) (claim : Claim) → consent_to p.contract claim seat ≡ Ok tt → IsClaimIn p claim → IsClaimIn (with_agreement p seat) (with_agreed seat claim)
agreed_claim p seat claim ok valid = record {
  counted = valid.counted;
  between = valid.between;
  some_left = valid.some_left;
  claimer = valid.claimer;
  within = valid.within;
  asked = λ one agreed.
      elim (cases_eq (seat_number one) (seat_number seat)) [
        | inl same ↦ subst (λ s. is_asked p.contract claim.claimer s ≡ true) (sym (one_seat one seat same)) (asked_is p.contract claim seat ok)
        | inr apart ↦ valid.asked one (sym (get_or-set_other claim.agreed (seat_number seat) (seat_number one) true false apart) ∙ agreed)
      ];
}

agree_by : (p : PlayValue) (seat : Seat) (claim : Option Claim) → consent_if p.contract claim seat ≡ Ok tt → IfSome claim (IsClaimIn p) → IfSome (option_map (with_agreed seat) claim) (IsClaimIn (with_agreement p seat))
agree_by p seat None ok valid = tt
agree_by p seat (Some claim) ok valid = agreed_claim p seat claim ok valid

agree_play : (p : PlayValue) (seat : Seat) → consent_answer p seat p.claims ≡ Ok tt → IsPlay p → IsPlay (with_agreement p seat)
agree_play p seat ok valid = record {
  legal = valid.legal;
  few = valid.few;
  claimed = agree_by p seat p.claim (rest_ok (not (p.claims == p.claims)) consent_refused.Stale _ ok) valid.claimed;
}

refuse_play : (p : PlayValue) → IsPlay p → IsPlay (without_claim p)
refuse_play p valid = record { legal = valid.legal; few = valid.few; claimed = tt }

becomes_some : (hands : List ℕ) (x after : PlainRecord) (play : Option Contract) → ((contract : Contract) → play ≡ Some contract → IsPlay (playing_in hands x contract) → IsPlay (playing_in hands after contract)) → IfSome (option_map (playing_in hands x) play) IsPlay → IfSome (option_map (playing_in hands after) play) IsPlay
becomes_some hands x after None becomes valid = tt
becomes_some hands x after (Some contract) becomes valid = becomes contract refl valid

-- a record whose play becomes another
played_valid : (scoring : Scoring) (deals : List (Option (List ℕ))) (now round : ℕ) (hands : List ℕ) (x after : PlainRecord) (play : Option Contract) → contract_in x ≡ play → ((contract : Contract) → play ≡ Some contract → IsPlay (playing_in hands x contract) → IsPlay (playing_in hands after contract)) → (play ≡ None → ⊥) → after.board ≡ x.board → after.calls ≡ x.calls → after.ruling ≡ x.ruling → round ≡ now → deal_on deals x.board ≡ Some hands → is_open x ≡ true → IsValidRecord scoring deals now round x → IsValidRecord scoring deals now round after
played_valid scoring deals now round hands x after play is becomes some board calls made current dealt open_play valid =
    let contract : contract_in after ≡ play =
    ap (λ b. contract_of (dealer_of b) after.calls) board ∙ ap (contract_of (dealer_of x.board)) calls ∙ is in
    let own : hands_on deals after.board ≡ hands = ap (hands_on deals) board ∙ ap (λ d. unwrap_or d []) dealt in
    let before : hands_on deals x.board ≡ hands = ap (λ d. unwrap_or d []) dealt in
    record {
      calls = subst IsLegal (sym calls) valid.calls;
      dealt = λ none. let here = ap (deal_on deals) board in absurd (cc (dealt, none, here));
      unplayed = λ none. absurd (some (sym contract ∙ none));
      play =
          subst (λ o. IfSome (option_map (playing_in (hands_on deals after.board) after) o) IsPlay) (sym contract)
          (subst (λ h. IfSome (option_map (playing_in h after) play) IsPlay) (sym own)
          (becomes_some hands x after play becomes
          (subst (λ h. IfSome (option_map (playing_in h x) play) IsPlay) before
          (subst (λ o. IfSome (option_map (playing_in (hands_on deals x.board) x) o) IsPlay) is valid.play))));
      ruled = subst (λ o. IfSome o (MayStand scoring (course_in after))) (sym (made ∙ unruled scoring x open_play valid.ruled)) tt;
      later = λ less. absurd (omega arith);
      earlier = λ less. absurd (omega arith);
    }

-- an answer in a play is Ok only where there is one
counted_ok : (made at : ℕ) (r : Result (Unit {0}) Refused) → counted made at r ≡ Ok tt → r ≡ Ok tt
counted_ok made at r is = rest_ok (not (at == made)) Stale r is

in_play : (hands : List ℕ) (x : PlainRecord) (play : Option Contract) (seat : Seat) (at : ℕ) (deed : Deed) → answer_if_play (option_map (playing_in hands x) play) seat at deed ≡ Ok tt → play ≡ None → ⊥
in_play hands x None seat at deed ok none = absurd cc
in_play hands x (Some contract) seat at deed ok none = absurd cc

by_contract : (hands : List ℕ) (x : PlainRecord) (play : Option Contract) (contract : Contract) (seat : Seat) (at : ℕ) (deed : Deed) → answer_if_play (option_map (playing_in hands x) play) seat at deed ≡ Ok tt → play ≡ Some contract → answer_in_play (playing_in hands x contract) seat at deed ≡ Ok tt
by_contract hands x None contract seat at deed ok is = absurd cc
by_contract hands x (Some other) contract seat at deed ok is =
    let same : other ≡ contract = cc in subst (λ k. answer_in_play (playing_in hands x k) seat at deed ≡ Ok tt) same ok

pub deed_valid : (scoring : Scoring) (deals : List (Option (List ℕ))) (now round : ℕ) (hands : List ℕ) (seat : Seat) (at : ℕ) (deed : Deed) (x : PlainRecord) → round ≡ now → deal_on deals x.board ≡ Some hands → is_open x ≡ true → IsDeed deed → deed_answer (bidding_of x) (play_of hands x) seat at deed ≡ Ok tt → IsValidRecord scoring deals now round x → IsValidRecord scoring deals now round (with_deed seat deed x)
deed_valid scoring deals now round hands seat at (deed.Call made) x current dealt open_play known ok valid =
    call_valid scoring deals now round hands seat at made x current dealt open_play known ok valid
deed_valid scoring deals now round hands seat at (deed.Card card) x current dealt open_play known ok valid =
    let play = contract_in x in
    played_valid scoring deals now round hands x (with_deed seat (deed.Card card) x) play refl
    (λ contract is good.
    let p = playing_in hands x contract in
    card_play p seat card (renamed_ok from_card (card_answer p seat card) (counted_ok (length x.cards) at _ (by_contract hands x play contract seat at (deed.Card card) ok is))) good)
    (in_play hands x play seat at (deed.Card card) ok) refl refl refl current dealt open_play valid
deed_valid scoring deals now round hands seat at (deed.Claim tricks) x current dealt open_play known ok valid =
    let play = contract_in x in
    played_valid scoring deals now round hands x (with_deed seat (deed.Claim tricks) x) play refl
    (λ contract is good.
    let p = playing_in hands x contract in
    claim_play p seat tricks (renamed_ok from_claim (claim_answer p seat tricks) (counted_ok x.claims at _ (by_contract hands x play contract seat at (deed.Claim tricks) ok is))) good)
    (in_play hands x play seat at (deed.Claim tricks) ok) refl refl refl current dealt open_play valid
deed_valid scoring deals now round hands seat at deed.Agree x current dealt open_play known ok valid =
    let play = contract_in x in
    played_valid scoring deals now round hands x (with_deed seat deed.Agree x) play refl
    (λ contract is good.
    let p = playing_in hands x contract in
    agree_play p seat (renamed_ok from_consent (consent_answer p seat p.claims) (counted_ok x.claims at _ (by_contract hands x play contract seat at deed.Agree ok is))) good)
    (in_play hands x play seat at deed.Agree ok) refl refl refl current dealt open_play valid
deed_valid scoring deals now round hands seat at deed.Refuse x current dealt open_play known ok valid =
    let play = contract_in x in
    played_valid scoring deals now round hands x (with_deed seat deed.Refuse x) play refl
    (λ contract is good. refuse_play (playing_in hands x contract) good)
    (in_play hands x play seat at deed.Refuse ok) refl refl refl current dealt open_play valid
