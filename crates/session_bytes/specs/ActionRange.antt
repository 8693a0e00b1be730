-- The ranges of what an action names.
use Rattle.std.specs.Prelude.{◌≡◌, ◌<◌, ◌^◌, ℕ, length, All}
use Rattle.bridge_auction.specs.Call.{IsCall}
use Rattle.bridge_cards.specs.Board.{IsBoard}
use Rattle.bridge_cards.specs.Card.{IsCard}
use Rattle.bridge_cards.specs.CardSet.{IsCardSet}
use Rattle.bridge_config.specs.declared.fields.Key.{Key}
use Rattle.session_rules.specs.declared.act.Act.{Act}
use Rattle.session_rules.specs.declared.act.Act.TheVariants as act
use Rattle.session_rules.specs.declared.action.Action.{Action}
use Rattle.session_rules.specs.declared.action.PlayId.{PlayId}
use Rattle.session_rules.specs.declared.deed.Deed.{Deed}
use Rattle.session_rules.specs.declared.deed.Deed.TheVariants as deed
use Rattle.session_rules.specs.Act.{act_of}
use Rattle.session_rules.specs.Numbers.{IsRoundNumber, IsTableNumber, IsBoardIndex, IsTrickCount, IsMadeCount}
use Rattle.session_rules.specs.StateRange.{IsCorrectionInRange}

-- a key has 32 bits
abbrev pub IsKey : Key → Type 0
IsKey key = key.0 < 2 ^ 32

-- the board that a player names, and how many calls, cards or claims were made before
abbrev pub IsTurn : ℕ → ℕ → Type 0
IsTurn board at = IsBoard board × IsMadeCount at

-- the round, the table and the index of a play
abbrev pub IsPlayIdInRange : PlayId → Type 0
IsPlayIdInRange play = IsRoundNumber play.round × IsTableNumber play.table × IsBoardIndex play.index

-- the call, the card or the tricks
abbrev pub IsDeedInRange : Deed → Type 0
IsDeedInRange (deed.Call call) = IsCall call
IsDeedInRange (deed.Card card) = IsCard card
IsDeedInRange (deed.Claim tricks) = IsTrickCount tricks
IsDeedInRange _ = Unit {0}

-- what an act names
abbrev pub IsActInRange : Act → Type 0
IsActInRange (act.Player key board at deed) = IsKey key × IsTurn board at × IsDeedInRange deed
IsActInRange (act.Deal key board hands) = IsKey key × IsBoard board × (length hands ≡ 4) × All IsCardSet hands
IsActInRange (act.Undeal key board) = IsKey key × IsBoard board
IsActInRange (act.Back key play) = IsKey key × IsPlayIdInRange play
IsActInRange (act.RoundEnd key round) = IsKey key × IsRoundNumber round
IsActInRange (act.Ruling key play made) = IsKey key × IsPlayIdInRange play × IsCorrectionInRange made

-- The numbers that an action names are within their ranges. So are those of each action by the types of its fields.
abbrev pub IsInRange : Action → Type 0
IsInRange action = IsActInRange (act_of action)
