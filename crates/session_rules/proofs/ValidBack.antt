-- A session stays valid where the latest thing done in a play is taken back.
use Rattle.std.proofs.Common.{◌≡◌, ◌-◌, ℕ, Bool, true, false, ◌||◌, cond, List, [], ◌∷◌, length, take, Option, Some, None, Ok, refl, sym, ap, ◌∙◌, subst, arith}
use Rattle.std.specs.Prelude.{slice_get, nat_lt, is_some, IfSome}
use Rattle.std.specs.Option.{option_map}
use Rattle.std.proofs.lemmas.Bool.{ltb-false, leb-true, and_parts}
use Rattle.std.proofs.lemmas.Option.{slice_get-get_or}
use Rattle.bridge_cards.specs.Board.{dealer_of}
use Rattle.bridge_auction.specs.declared.call.Call.{Call}
use Rattle.bridge_auction.specs.declared.call.Call.TheVariants.{Pass}
use Rattle.bridge_auction.specs.declared.contract.Contract.{Contract}
use Rattle.bridge_auction.specs.Auction.{less_last}
use Rattle.bridge_auction.specs.Legal.{is_ended, MayFollow, IsLegal}
use Rattle.bridge_auction.proofs.LessLast.{each_may_follow-less_last}
use Rattle.bridge_movement.specs.Shape.{index_of_row}
use Rattle.bridge_play.specs.declared.claim.Claim.{Claim}
use Rattle.bridge_play.specs.Legal as by_cards
use Rattle.bridge_play.specs.Legal.{MayPlay}
use Rattle.bridge_play.specs.Play.{PlayValue, IsClaimCount, IsPlay, cards_left_by, without_latest}
use Rattle.bridge_score.specs.declared.Scoring.{Scoring}
use Rattle.session_rules.specs.declared.action.PlayId.{PlayId}
use Rattle.session_rules.specs.declared.refused.Refused.TheVariants.{NotYet, NotThisRound, RulingStands}
use Rattle.session_rules.specs.declared.ruling.Ruling.{Ruling}
use Rattle.session_rules.specs.Back.{taken_back, back_answer, less_latest_in}
use Rattle.session_rules.specs.Record.{PlainRecord, contract_in, course_in, playing_in}
use Rattle.session_rules.specs.State.{SessionValue, hands_on, row_at, is_row_within, record_of}
use Rattle.session_rules.specs.Valid.{MayStand, IsUnplayed, IsPlayId, IsValidRecord, IsValid}
use Rattle.session_rules.proofs.Lists.{not_refused}
use Rattle.session_rules.proofs.PlainRecords.{no_contract}
use Rattle.session_rules.proofs.StaysValid.{valid_change}
use Rattle.session_rules.proofs.ValidRound.{rest_ok}
use Rattle.session_rules.proofs.ValidRuling.{found_within, row_round}

-- the play in which something is taken back
pub record IsBackOn (now round : ℕ) (found : Option PlainRecord) : Type 0 where
  pub plain : PlainRecord
  pub is : found ≡ Some plain
  pub current : round ≡ now
  pub unruled : plain.ruling ≡ None

none_is : (made : Option Ruling) → is_some made ≡ false → made ≡ None
none_is None e = refl
none_is (Some made) e = absurd cc

pub back_on : (now round : ℕ) (found : Option PlainRecord) → back_answer now round found ≡ Ok tt → IsBackOn now round found
back_on now round None ok = absurd cc
back_on now round (Some plain) ok =
    let begun = ltb-false now round (not_refused (nat_lt now round) NotYet _ ok) in
    let second = rest_ok (nat_lt now round) NotYet _ ok in
    let open_round = ltb-false round now (not_refused (nat_lt round now) NotThisRound _ second) in
    let third = rest_ok (nat_lt round now) NotThisRound _ second in
    record {
      plain = plain;
      is = refl;
      current = omega (arith, begun, open_round);
      unruled = none_is plain.ruling (not_refused (is_some plain.ruling) RulingStands _ third);
    }

-- an auction less its last call is open, so that there is no contract
pub open_before : (calls : List Call) → IsLegal calls → is_ended (less_last calls) ≡ false
open_before [] legal = refl
open_before (call ∷ calls) legal =
    let last : length (call ∷ calls) - 1 ≡ length calls = omega arith in
    ap (λ n. is_ended (take n (call ∷ calls))) last
    ∙ (legal (length calls) _ (slice_get-get_or (call ∷ calls) (length calls) Pass (omega arith))).open_auction

-- nothing was played, nor claimed
pub no_claim : (b : Bool) (claim : Option Claim) → (is_some claim || b) ≡ false → claim ≡ None
no_claim b None none = refl
no_claim b (Some claim) none = absurd cc

pub no_more : (a b : Bool) → (a || b) ≡ false → b ≡ false
no_more true b none = absurd cc
no_more false b none = none

pub no_cards : (cards : List ℕ) → nat_lt 0 (length cards) ≡ false → cards ≡ []
no_cards [] none = refl
no_cards (card ∷ cards) none = absurd (omega (arith, ltb-false 0 (length (card ∷ cards)) none))

none_left : (claim : Option Claim) → cards_left_by claim [] ≡ []
none_left None = refl
none_left (Some claim) = refl

-- at most 99 claims were made, with a contract and without
few_by : (hands : List ℕ) (x : PlainRecord) (contract : Option Contract) → contract_in x ≡ contract → (contract_in x ≡ None → IsUnplayed x) → IfSome (option_map (playing_in hands x) contract) IsPlay → IsClaimCount x.claims
few_by hands x None is unplayed play = let before = unplayed is in before.claims
few_by hands x (Some contract) is unplayed play = play.few

pub claims_few : (scoring : Scoring) (deals : List (Option (List ℕ))) (now round : ℕ) (x : PlainRecord) → IsValidRecord scoring deals now round x → IsClaimCount x.claims
claims_few scoring deals now round x valid = few_by (hands_on deals x.board) x (contract_in x) refl valid.unplayed valid.play

-- the records that may be left
abbrev in_play : PlainRecord → PlainRecord
in_play x = record x { cards = cards_left_by x.claim x.cards; claim = None }

abbrev in_auction : PlainRecord → PlainRecord
in_auction x = record x { calls = less_last x.calls }

-- a play less the latest thing done is one by the rules
cards_legal : (hands : List ℕ) (contract : Contract) (cards : List ℕ) (claim : Option Claim) → by_cards.IsLegal hands contract cards → by_cards.IsLegal hands contract (cards_left_by claim cards)
cards_legal hands contract cards (Some claim) legal = legal
cards_legal hands contract cards None legal = each_may_follow-less_last (MayPlay hands contract) cards legal

play_keeps : (play : PlayValue) → IsPlay play → IsPlay (without_latest play)
play_keeps play is = record { legal = cards_legal play.hands play.contract play.cards play.claim is.legal; few = is.few; claimed = tt }

play_left : (hands : List ℕ) (x : PlainRecord) (contract : Option Contract) → IfSome (option_map (playing_in hands x) contract) IsPlay → IfSome (option_map (playing_in hands (in_play x)) contract) IsPlay
play_left hands x None is = tt
play_left hands x (Some contract) is = play_keeps (playing_in hands x contract) is

none_ruled : (scoring : Scoring) (x y : PlainRecord) → x.ruling ≡ None → y.ruling ≡ x.ruling → IfSome y.ruling (MayStand scoring (course_in y))
none_ruled scoring x y none same = subst (λ (made : Option Ruling). IfSome made (MayStand scoring (course_in y))) (sym (same ∙ none)) tt

in_play_valid : (scoring : Scoring) (deals : List (Option (List ℕ))) (now round : ℕ) (x : PlainRecord) → round ≡ now → x.ruling ≡ None → IsValidRecord scoring deals now round x → IsValidRecord scoring deals now round (in_play x)
in_play_valid scoring deals now round x current unruled valid = record {
  calls = valid.calls;
  dealt = valid.dealt;
  unplayed = λ none.
      let before = valid.unplayed none in
      record { cards = ap (cards_left_by x.claim) before.cards ∙ none_left x.claim; claims = before.claims; claim = refl };
  play = play_left (hands_on deals x.board) x (contract_in x) valid.play;
  ruled = none_ruled scoring x (in_play x) unruled refl;
  later = λ less. absurd (omega (arith, current, less));
  earlier = λ less. absurd (omega (arith, current, less));
}

in_auction_valid : (scoring : Scoring) (deals : List (Option (List ℕ))) (now round : ℕ) (x : PlainRecord) → round ≡ now → x.ruling ≡ None → x.cards ≡ [] → x.claim ≡ None → IsValidRecord scoring deals now round x → IsValidRecord scoring deals now round (in_auction x)
in_auction_valid scoring deals now round x current unruled cards claim valid =
    let hands = hands_on deals x.board in
    let no : contract_in (in_auction x) ≡ None = no_contract (dealer_of x.board) (less_last x.calls) (open_before x.calls valid.calls) in
    record {
      calls = each_may_follow-less_last MayFollow x.calls valid.calls;
      dealt = λ none. ap (λ (calls : List Call). less_last calls) (valid.dealt none);
      unplayed = λ none. record { cards = cards; claims = claims_few scoring deals now round x valid; claim = claim };
      play = subst (λ o. IfSome o IsPlay) (sym (ap (option_map (playing_in hands (in_auction x))) no)) tt;
      ruled = none_ruled scoring x (in_auction x) unruled refl;
      later = λ less. absurd (omega (arith, current, less));
      earlier = λ less. absurd (omega (arith, current, less));
    }

taken_valid : (scoring : Scoring) (deals : List (Option (List ℕ))) (now round : ℕ) (x : PlainRecord) → round ≡ now → x.ruling ≡ None → IsValidRecord scoring deals now round x → IsValidRecord scoring deals now round (taken_back x)
taken_valid scoring deals now round x current unruled valid = by (is_some x.claim || nat_lt 0 (length x.cards)) refl
  where
    by : (b : Bool) → (is_some x.claim || nat_lt 0 (length x.cards)) ≡ b → IsValidRecord scoring deals now round (cond b (in_play x) (in_auction x))
    by true some = in_play_valid scoring deals now round x current unruled valid
    by false none =
        in_auction_valid scoring deals now round x current unruled
        (no_cards x.cards (no_more (is_some x.claim) (nat_lt 0 (length x.cards)) none)) (no_claim (nat_lt 0 (length x.cards)) x.claim none) valid

left_board : (b : Bool) (x : PlainRecord) → (cond b (in_play x) (in_auction x)).board ≡ x.board
left_board true x = refl
left_board false x = refl

pub back_valid : (s : SessionValue) (play : PlayId) → IsValid s → IsPlayId play → back_answer s.round play.round (record_of s play) ≡ Ok tt → IsValid (less_latest_in s play)
back_valid s play valid ranges ok =
    let shape = s.configuration.movement.shape in
    let index = index_of_row shape play.round play.table in
    let on = back_on s.round play.round (record_of s play) ok in
    let found = found_within (is_row_within shape play.round play.table) (slice_get (row_at s.records index) (play.index - 1)) on.plain on.is in
    let within = leb-true play.table shape.tables (and_parts _ _ found.0).1 in
    valid_change s index taken_back (λ records. play.index - 1) valid (λ x. left_board (is_some x.claim || nat_lt 0 (length x.cards)) x)
    (λ row x is was good.
    let round : row.round ≡ play.round = row_round s.configuration play.round play.table row valid.configured ranges.0 ranges.1 within is in
    let same : on.plain ≡ x = let both : Some on.plain ≡ Some x = sym found.1 ∙ was in cc in
    taken_valid s.configuration.scoring s.deals s.round row.round x (round ∙ on.current) (ap (λ (y : PlainRecord). y.ruling) (sym same) ∙ on.unruled) good)
