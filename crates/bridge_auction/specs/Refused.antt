-- The numbers and names of refused calls.
use Rattle.std.specs.Prelude.{ℕ, List, codes}
use Rattle.bridge_auction.specs.declared.refused.CallRefused.{CallRefused}
use Rattle.bridge_auction.specs.declared.refused.CallRefused.TheVariants.{Ended, InsufficientBid, InadmissibleDouble, InadmissibleRedouble}

-- the number that a reply names
abbrev pub refusal_number : CallRefused → ℕ
refusal_number Ended = 9
refusal_number InsufficientBid = 17
refusal_number InadmissibleDouble = 18
refusal_number InadmissibleRedouble = 19

-- the name that a reply has after the number
abbrev pub refusal_name : CallRefused → List ℕ
refusal_name Ended = codes "WrongPhase"
refusal_name InsufficientBid = codes "InsufficientBid"
refusal_name InadmissibleDouble = codes "InadmissibleDouble"
refusal_name InadmissibleRedouble = codes "InadmissibleRedouble"
