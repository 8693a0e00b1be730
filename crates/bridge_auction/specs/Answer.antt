-- The answer to a call: the Law's, and beside it the name of what is wrong.
use Rattle.std.specs.Prelude.{if◌then◌else◌, List, Result, Ok, Err}
use Rattle.bridge_auction.specs.declared.call.Call.{Call}
use Rattle.bridge_auction.specs.declared.call.Call.TheVariants.{Pass, Bid, Double, Redouble}
use Rattle.bridge_auction.specs.declared.refused.CallRefused.{CallRefused}
use Rattle.bridge_auction.specs.declared.refused.CallRefused.TheVariants.{Ended, InsufficientBid, InadmissibleDouble, InadmissibleRedouble}
use Rattle.bridge_auction.specs.Legal.{is_ended, is_admissible}

-- the answer to a call that is taken where it is admissible, and otherwise refused so
abbrev pub taken_or : List Call → Call → CallRefused → Result (Unit {0}) CallRefused
taken_or earlier call refused = if is_admissible earlier call then Ok tt else Err refused

-- the answer to a call in an open auction; a pass is always taken
abbrev pub open_answer : List Call → Call → Result (Unit {0}) CallRefused
open_answer earlier Pass = Ok tt
open_answer earlier (Bid bid) = taken_or earlier (Bid bid) InsufficientBid
open_answer earlier Double = taken_or earlier Double InadmissibleDouble
open_answer earlier Redouble = taken_or earlier Redouble InadmissibleRedouble

-- the answer to a call after a legal list of calls
abbrev pub answer_to : List Call → Call → Result (Unit {0}) CallRefused
answer_to earlier call = if is_ended earlier then Err Ended else open_answer earlier call
