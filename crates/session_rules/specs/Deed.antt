-- What a player does in the current play of a table: the answer, and the record that it leaves.
use Rattle.std.specs.Prelude.{ℕ, ◌+◌, false, not, ◌==◌, if◌then◌else◌, [], ◌∷◌, ◌++◌, length, Option, None, Some, Result, Ok, Err}
use Rattle.std.specs.Option.{option_map}
use Rattle.bridge_cards.specs.declared.seat.Seat.{Seat}
use Rattle.bridge_cards.specs.Seat.{clockwise_from, same_seat}
use Rattle.bridge_auction.specs.declared.refused.CallRefused.{CallRefused}
use Rattle.bridge_auction.specs.declared.refused.CallRefused.TheVariants as call_refused
use Rattle.bridge_auction.specs.declared.call.Call.{Call}
use Rattle.bridge_auction.specs.Auction.{AuctionValue}
use Rattle.bridge_auction.specs.Legal.{is_ended}
use Rattle.bridge_auction.specs.Answer.{answer_to}
use Rattle.bridge_play.specs.declared.refused.CardRefused.{CardRefused}
use Rattle.bridge_play.specs.declared.refused.CardRefused.TheVariants as card_refused
use Rattle.bridge_play.specs.declared.refused.ClaimRefused.{ClaimRefused}
use Rattle.bridge_play.specs.declared.refused.ClaimRefused.TheVariants as claim_refused
use Rattle.bridge_play.specs.declared.refused.ConsentRefused.{ConsentRefused}
use Rattle.bridge_play.specs.declared.refused.ConsentRefused.TheVariants as consent_refused
use Rattle.bridge_play.specs.Claims.{with_agreed}
use Rattle.bridge_play.specs.Play.{PlayValue, card_answer, claim_answer, consent_answer}
use Rattle.session_rules.specs.declared.deed.Deed.{Deed}
use Rattle.session_rules.specs.declared.deed.Deed.TheVariants as deed
use Rattle.session_rules.specs.declared.refused.Refused.{Refused}
use Rattle.session_rules.specs.declared.refused.Refused.TheVariants.{NotCurrent, WrongPhase, Stale, NoClaim, ClaimStands, NotAsked, NotYourTurn, MidTrick, TooManyTricks, InsufficientBid, InadmissibleDouble, InadmissibleRedouble, NotHeld, MustFollow, ClaimsSpent}
use Rattle.session_rules.specs.Answer.{Answer}
use Rattle.session_rules.specs.Record.{PlainRecord}

-- The names of refusals in a session: of calls,
abbrev pub from_call : CallRefused → Refused
from_call call_refused.Ended = WrongPhase
from_call call_refused.InsufficientBid = InsufficientBid
from_call call_refused.InadmissibleDouble = InadmissibleDouble
from_call call_refused.InadmissibleRedouble = InadmissibleRedouble

-- of cards, where a play that is over is not the table's current one,
abbrev pub from_card : CardRefused → Refused
from_card card_refused.Over = NotCurrent
from_card card_refused.ClaimStands = ClaimStands
from_card card_refused.NotYourTurn = NotYourTurn
from_card card_refused.NotHeld = NotHeld
from_card card_refused.MustFollow = MustFollow

-- of claims,
abbrev pub from_claim : ClaimRefused → Refused
from_claim claim_refused.Over = NotCurrent
from_claim claim_refused.ClaimStands = ClaimStands
from_claim claim_refused.NotYourTurn = NotYourTurn
from_claim claim_refused.MidTrick = MidTrick
from_claim claim_refused.TooManyTricks = TooManyTricks
from_claim claim_refused.ClaimsSpent = ClaimsSpent

-- and of answers to claims
abbrev pub from_consent : ConsentRefused → Refused
from_consent consent_refused.Stale = Stale
from_consent consent_refused.NoClaim = NoClaim
from_consent consent_refused.NotAsked = NotAsked

-- an answer, where the refusal has another name
abbrev pub renamed : {E : Type 0} → (E → Refused) → Result (Unit {0}) E → Answer
renamed name (Ok passed) = Ok tt
renamed name (Err refused) = Err (name refused)

-- the answer to a call by a player, the refusals in order
abbrev pub call_answer : AuctionValue → Seat → ℕ → Call → Answer
call_answer auction seat at call =
    if is_ended auction.calls then Err WrongPhase
    else if not (at == length auction.calls) then Err Stale
    else if not (same_seat seat (clockwise_from auction.dealer (length auction.calls))) then Err NotYourTurn
    else renamed from_call (answer_to auction.calls call)

-- the answer to a card, a claim or an answer to a claim, of which so many were made before, where the player names how many
abbrev pub counted : ℕ → ℕ → Answer → Answer
counted made at answer = if not (at == made) then Err Stale else answer

-- the answer to what a player does once there is a contract
abbrev pub answer_in_play : PlayValue → Seat → ℕ → Deed → Answer
answer_in_play play seat at (deed.Call call) = Err WrongPhase
answer_in_play play seat at (deed.Card card) = counted (length play.cards) at (renamed from_card (card_answer play seat card))
answer_in_play play seat at (deed.Claim tricks) = counted play.claims at (renamed from_claim (claim_answer play seat tricks))
answer_in_play play seat at deed.Agree = counted play.claims at (renamed from_consent (consent_answer play seat play.claims))
answer_in_play play seat at deed.Refuse = counted play.claims at (renamed from_consent (consent_answer play seat play.claims))

-- before that all but calls are refused
abbrev pub answer_if_play : Option PlayValue → Seat → ℕ → Deed → Answer
answer_if_play None seat at deed = Err WrongPhase
answer_if_play (Some play) seat at deed = answer_in_play play seat at deed

-- the answer to what a player does: a call is judged in the auction, all else in the play of the cards
abbrev pub deed_answer : AuctionValue → Option PlayValue → Seat → ℕ → Deed → Answer
deed_answer auction play seat at (deed.Call call) = call_answer auction seat at call
deed_answer auction play seat at deed = answer_if_play play seat at deed

-- the record that it leaves
abbrev pub with_deed : Seat → Deed → PlainRecord → PlainRecord
with_deed seat (deed.Call call) plain = record plain { calls = plain.calls ++ call ∷ [] }
with_deed seat (deed.Card card) plain = record plain { cards = plain.cards ++ card ∷ [] }
with_deed seat (deed.Claim tricks) plain = record plain {
  claims = plain.claims + 1;
  claim = Some (record { claimer = seat; tricks = tricks; agreed = false ∷ false ∷ false ∷ false ∷ [] });
}
with_deed seat deed.Agree plain = record plain { claim = option_map (with_agreed seat) plain.claim }
with_deed seat deed.Refuse plain = record plain { claim = None }
