-- The numbers and names of refusals.
use Rattle.std.specs.Prelude.{ℕ, List, codes}
use Rattle.session_rules.specs.declared.refused.Refused.{Refused}
use Rattle.session_rules.specs.declared.refused.Refused.TheVariants.{NoKey, NotAllowed, Closed, NoSuchPlay, NotYet, SitsOut, NotCurrent, NotDealt, WrongPhase, Stale, NoClaim, ClaimStands, NotAsked, NotYourTurn, MidTrick, TooManyTricks, InsufficientBid, InadmissibleDouble, InadmissibleRedouble, NotHeld, MustFollow, AlreadyDealt, BadDeal, RoundOpen, NoContract, NotFinished, NotAnEnding, ClaimsSpent, NotMatchPoints, NothingToTakeBack, NotThisRound, RulingStands, BoardBegun}

-- the number of a refusal
abbrev pub refusal_number : Refused → ℕ
refusal_number NoKey = 1
refusal_number NotAllowed = 2
refusal_number Closed = 3
refusal_number NoSuchPlay = 4
refusal_number NotYet = 5
refusal_number SitsOut = 6
refusal_number NotCurrent = 7
refusal_number NotDealt = 8
refusal_number WrongPhase = 9
refusal_number Stale = 10
refusal_number NoClaim = 11
refusal_number ClaimStands = 12
refusal_number NotAsked = 13
refusal_number NotYourTurn = 14
refusal_number MidTrick = 15
refusal_number TooManyTricks = 16
refusal_number InsufficientBid = 17
refusal_number InadmissibleDouble = 18
refusal_number InadmissibleRedouble = 19
refusal_number NotHeld = 20
refusal_number MustFollow = 21
refusal_number AlreadyDealt = 22
refusal_number BadDeal = 23
refusal_number RoundOpen = 24
refusal_number NoContract = 25
refusal_number NotFinished = 26
refusal_number NotAnEnding = 27
refusal_number ClaimsSpent = 28
refusal_number NotMatchPoints = 29
refusal_number NothingToTakeBack = 50
refusal_number NotThisRound = 51
refusal_number RulingStands = 52
refusal_number BoardBegun = 53

-- the name of a refusal, in one word
abbrev pub refusal_name : Refused → List ℕ
refusal_name NoKey = codes "NoKey"
refusal_name NotAllowed = codes "NotAllowed"
refusal_name Closed = codes "Closed"
refusal_name NoSuchPlay = codes "NoSuchPlay"
refusal_name NotYet = codes "NotYet"
refusal_name SitsOut = codes "SitsOut"
refusal_name NotCurrent = codes "NotCurrent"
refusal_name NotDealt = codes "NotDealt"
refusal_name WrongPhase = codes "WrongPhase"
refusal_name Stale = codes "Stale"
refusal_name NoClaim = codes "NoClaim"
refusal_name ClaimStands = codes "ClaimStands"
refusal_name NotAsked = codes "NotAsked"
refusal_name NotYourTurn = codes "NotYourTurn"
refusal_name MidTrick = codes "MidTrick"
refusal_name TooManyTricks = codes "TooManyTricks"
refusal_name InsufficientBid = codes "InsufficientBid"
refusal_name InadmissibleDouble = codes "InadmissibleDouble"
refusal_name InadmissibleRedouble = codes "InadmissibleRedouble"
refusal_name NotHeld = codes "NotHeld"
refusal_name MustFollow = codes "MustFollow"
refusal_name AlreadyDealt = codes "AlreadyDealt"
refusal_name BadDeal = codes "BadDeal"
refusal_name RoundOpen = codes "RoundOpen"
refusal_name NoContract = codes "NoContract"
refusal_name NotFinished = codes "NotFinished"
refusal_name NotAnEnding = codes "NotAnEnding"
refusal_name ClaimsSpent = codes "ClaimsSpent"
refusal_name NotMatchPoints = codes "NotMatchPoints"
refusal_name NothingToTakeBack = codes "NothingToTakeBack"
refusal_name NotThisRound = codes "NotThisRound"
refusal_name RulingStands = codes "RulingStands"
refusal_name BoardBegun = codes "BoardBegun"
