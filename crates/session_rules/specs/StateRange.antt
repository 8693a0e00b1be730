-- The ranges of what a session holds.
use Rattle.std.specs.Prelude.{◌≡◌, ℕ, List, length, Option, IfSome, All}
use Rattle.bridge_cards.specs.CardSet.{IsCardSet}
use Rattle.bridge_auction.specs.Bid.{IsBid}
use Rattle.bridge_play.specs.declared.claim.Claim.{Claim}
use Rattle.session_rules.specs.declared.correction.Correction.{Correction}
use Rattle.session_rules.specs.declared.correction.Correction.TheVariants as correction
use Rattle.session_rules.specs.declared.ruling.Ruling.{Ruling}
use Rattle.session_rules.specs.declared.ruling.Ruling.TheVariants as ruling
use Rattle.session_rules.specs.Numbers.{IsTrickCount}
use Rattle.session_rules.specs.Record.{PlainRecord}
use Rattle.session_rules.specs.State.{SessionValue}
use Rattle.session_rules.specs.Valid.{IsValid}

-- four sets of cards
abbrev pub AreHands : List ℕ → Type 0
AreHands hands = (length hands ≡ 4) × All IsCardSet hands

-- the board is not dealt, or its hands are four
abbrev pub AreHandsOrNone : Option (List ℕ) → Type 0
AreHandsOrNone deal = IfSome deal AreHands

-- each of the four seats has agreed to the claim or has not
abbrev pub IsOfFourSeats : Claim → Type 0
IsOfFourSeats claim = length claim.agreed ≡ 4

-- the tricks of a ruling are at most 13, and its bid is one
abbrev pub IsRulingInRange : Ruling → Type 0
IsRulingInRange (ruling.Tricks tricks) = IsTrickCount tricks
IsRulingInRange (ruling.Assigned contract tricks) = IsBid contract.bid × IsTrickCount tricks
IsRulingInRange _ = Unit {0}

-- a correction sets no more tricks than a board has, and its bid is one
abbrev pub IsCorrectionInRange : Correction → Type 0
IsCorrectionInRange (correction.Tricks tricks) = IsTrickCount tricks
IsCorrectionInRange (correction.Assign contract tricks) = IsBid contract.bid × IsTrickCount tricks
IsCorrectionInRange _ = Unit {0}

-- the claim and the ruling are within their ranges
pub record IsRecordInRange (plain : PlainRecord) : Type 0 where
  pub claim : IfSome plain.claim IsOfFourSeats
  pub ruling : IfSome plain.ruling IsRulingInRange

-- What a session holds is within its ranges. So is that of each session by the types of its fields.
pub record IsStateInRange (s : SessionValue) : Type 0 where
  pub deals : All AreHandsOrNone s.deals
  pub records : All (All IsRecordInRange) s.records

-- What each session is: valid, and within its ranges.
pub record IsSession (s : SessionValue) : Type 0 where
  pub valid : IsValid s
  pub ranges : IsStateInRange s
