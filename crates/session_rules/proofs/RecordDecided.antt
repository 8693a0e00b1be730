-- Whether the record of a play is valid.
use Rattle.std.proofs.Common.{◌≡◌, ℕ, List, take, Option, Result, Ok, Err, inl, inr, refl, ap}
use Rattle.bridge_auction.specs.declared.call.Call.{Call}
use Rattle.bridge_auction.specs.declared.call.Call.TheVariants.{Pass, Bid, Double, Redouble}
use Rattle.bridge_auction.specs.declared.contract.Contract.{Contract}
use Rattle.bridge_auction.specs.Call.{IsCall}
use Rattle.bridge_auction.specs.Legal.{is_ended, is_admissible, MayFollow, IsLegal}
use Rattle.bridge_play.specs.Legal.{holds, follows, MayPlay}
use Rattle.bridge_play.specs.Legal as cards
use Rattle.bridge_play.specs.Play.{PlayValue, is_claim_in, IsClaimIn, IsPlay}
use Rattle.bridge_play.specs.Trick.{turn_of}
use Rattle.bridge_play.proofs.RegularClaim.{regular_claim, claim_regular}
use Rattle.bridge_cards.specs.declared.scoring.Scoring.{Scoring}
use Rattle.bridge_cards.specs.declared.scoring.Scoring.TheVariants.{MatchPoints, Imps}
use Rattle.session_rules.specs.declared.refused.Refused.{Refused}
use Rattle.session_rules.specs.declared.ruling.Ruling.{Ruling}
use Rattle.session_rules.specs.declared.ruling.Ruling.TheVariants as ruling
use Rattle.session_rules.specs.Correction.{tricks_answer}
use Rattle.session_rules.specs.Record.{PlainRecord, empty_record, Course, contract_in, course_in, play_of, is_open}
use Rattle.session_rules.specs.State.{deal_on, hands_on}
use Rattle.session_rules.specs.Valid.{MayStand, IsUnplayed, IsValidRecord}
use Rattle.session_rules.proofs.Decided.{Decided, decided_like, decided_both, decided_implies, decided_equal, decided_less, decided_most, decided_true, decided_false, decided_none, decided_empty, decided_found, decided_indexes}

-- whether a call is one of the 38
decided_call : (call : Call) → Decided (IsCall call)
decided_call Pass = inl tt
decided_call (Bid bid) = decided_both (decided_most 1 bid.level) (decided_most bid.level 7)
decided_call Double = inl tt
decided_call Redouble = inl tt

-- whether a call may be made after those
decided_follows : (earlier : List Call) (call : Call) → Decided (MayFollow earlier call)
decided_follows earlier call =
    decided_like (decided_both (decided_call call) (decided_both (decided_false (is_ended earlier)) (decided_true (is_admissible earlier call))))
    (λ all. record { known = all.0; open_auction = all.1.0; admissible = all.1.1 })
    (λ may. (may.known, (may.open_auction, may.admissible)))

-- whether calls are a legal list
decided_calls : (calls : List Call) → Decided (IsLegal calls)
decided_calls calls =
    decided_indexes (λ index call. MayFollow (take index calls) call) (λ index call. decided_follows (take index calls) call) calls

-- whether a card may be played after those
decided_card : (hands : List ℕ) (contract : Contract) (earlier : List ℕ) (card : ℕ) → Decided (MayPlay hands contract earlier card)
decided_card hands contract earlier card =
    decided_like
    (decided_both (decided_true (holds hands earlier (turn_of contract earlier) card)) (decided_true (follows hands earlier (turn_of contract earlier) card)))
    (λ both. record { held = both.0; following = both.1 }) (λ may. (may.held, may.following))

-- whether cards are a legal list
decided_cards : (hands : List ℕ) (contract : Contract) (played : List ℕ) → Decided (cards.IsLegal hands contract played)
decided_cards hands contract played =
    decided_indexes (λ index card. MayPlay hands contract (take index played) card) (λ index card. decided_card hands contract (take index played) card) played

-- whether cards and claims are a play
decided_play : (play : PlayValue) → Decided (IsPlay play)
decided_play play =
    decided_like
    (decided_both (decided_cards play.hands play.contract play.cards) (decided_both (decided_most play.claims 99)
    (decided_found (IsClaimIn play)
    (λ claim. decided_like (decided_true (is_claim_in play claim)) (regular_claim play claim) (claim_regular play claim)) play.claim)))
    (λ all. record { legal = all.0; few = all.1.0; claimed = all.1.1 }) (λ is. (is.legal, (is.few, is.claimed)))

-- whether an answer accepts
decided_accepted : (answer : Result (Unit {0}) Refused) → Decided (answer ≡ Ok tt)
decided_accepted (Ok done) = inl refl
decided_accepted (Err refused) = inr (λ same. cc)

-- whether the scoring is by matchpoints
decided_scoring : (scoring : Scoring) → Decided (scoring ≡ MatchPoints)
decided_scoring MatchPoints = inl refl
decided_scoring Imps = inr (λ same. cc)

-- whether a ruling may stand
decided_ruling : (scoring : Scoring) (course : Option Course) (made : Ruling) → Decided (MayStand scoring course made)
decided_ruling scoring course (ruling.Tricks tricks) = decided_accepted (tricks_answer course)
decided_ruling scoring course ruling.Void = inl tt
decided_ruling scoring course (ruling.Assigned contract tricks) = inl tt
decided_ruling scoring course (ruling.Adjusted ns ew) = decided_scoring scoring

-- whether nothing was played, and no claim stands
decided_unplayed : (plain : PlainRecord) → Decided (IsUnplayed plain)
decided_unplayed plain =
    decided_like (decided_both (decided_empty plain.cards) (decided_both (decided_most plain.claims 99) (decided_none plain.claim)))
    (λ all. record { cards = all.0; claims = all.1.0; claim = all.1.1 }) (λ is. (is.cards, (is.claims, is.claim)))

-- whether nothing has happened in a play
decided_untouched : (plain : PlainRecord) → Decided (plain ≡ empty_record plain.board)
decided_untouched plain =
    decided_like
    (decided_both (decided_empty plain.calls) (decided_both (decided_empty plain.cards)
    (decided_both (decided_equal plain.claims 0) (decided_both (decided_none plain.claim) (decided_none plain.ruling)))))
    (λ all. λ i. record {
      board = plain.board;
      calls = all.0 i;
      cards = all.1.0 i;
      claims = all.1.1.0 i;
      claim = all.1.1.1.0 i;
      ruling = all.1.1.1.1 i;
    })
    (λ same. (
      ap (λ (p : PlainRecord). p.calls) same,
      (
        ap (λ (p : PlainRecord). p.cards) same,
        (ap (λ (p : PlainRecord). p.claims) same, (ap (λ (p : PlainRecord). p.claim) same, ap (λ (p : PlainRecord). p.ruling) same)),
      ),
    ))

-- whether the record of a play of that round is valid
pub decided_record : (scoring : Scoring) (deals : List (Option (List ℕ))) (now round : ℕ) (plain : PlainRecord) → Decided (IsValidRecord scoring deals now round plain)
decided_record scoring deals now round plain =
    decided_like
    (decided_both (decided_calls plain.calls)
    (decided_both (decided_implies (decided_none (deal_on deals plain.board)) (decided_empty plain.calls))
    (decided_both (decided_implies (decided_none (contract_in plain)) (decided_unplayed plain))
    (decided_both (decided_found IsPlay decided_play (play_of (hands_on deals plain.board) plain))
    (decided_both (decided_found (MayStand scoring (course_in plain)) (decided_ruling scoring (course_in plain)) plain.ruling)
    (decided_both (decided_implies (decided_less now round) (decided_untouched plain))
    (decided_implies (decided_less round now) (decided_false (is_open plain)))))))))
    (λ all. record {
      calls = all.0;
      dealt = all.1.0;
      unplayed = all.1.1.0;
      play = all.1.1.1.0;
      ruled = all.1.1.1.1.0;
      later = all.1.1.1.1.1.0;
      earlier = all.1.1.1.1.1.1;
    })
    (λ is. (is.calls, (is.dealt, (is.unplayed, (is.play, (is.ruled, (is.later, is.earlier)))))))
