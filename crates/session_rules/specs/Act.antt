-- Who does what by an action.
use Rattle.std.specs.Prelude.{ℕ, Bool, true, false}
use Rattle.bridge_config.specs.declared.fields.Key.{Key}
use Rattle.session_rules.specs.declared.act.Act.{Act}
use Rattle.session_rules.specs.declared.act.Act.TheVariants as act
use Rattle.session_rules.specs.declared.action.Action.{Action}
use Rattle.session_rules.specs.declared.action.Action.TheVariants.{Deal, Undeal, Call, Card, Claim, Agree, Refuse, NextRound, Back, Tricks, Void, Adjust, Assign, Restore}
use Rattle.session_rules.specs.declared.action.PlayId.{PlayId}
use Rattle.session_rules.specs.declared.correction.Correction.{Correction}
use Rattle.session_rules.specs.declared.correction.Correction.TheVariants as correction
use Rattle.session_rules.specs.declared.deed.Deed.{Deed}
use Rattle.session_rules.specs.declared.deed.Deed.TheVariants as deed

-- the act of an action
abbrev pub act_of : Action → Act
act_of (Deal key board hands) = act.Deal key board hands
act_of (Undeal key board) = act.Undeal key board
act_of (Call key board at call) = act.Player key board at (deed.Call call)
act_of (Card key board at card) = act.Player key board at (deed.Card card)
act_of (Claim key board at tricks) = act.Player key board at (deed.Claim tricks)
act_of (Agree key board at) = act.Player key board at deed.Agree
act_of (Refuse key board at) = act.Player key board at deed.Refuse
act_of (NextRound key round) = act.RoundEnd key round
act_of (Back key play) = act.Back key play
act_of (Tricks key play tricks) = act.Ruling key play (correction.Tricks tricks)
act_of (Void key play) = act.Ruling key play correction.Void
act_of (Adjust key play ns ew) = act.Ruling key play (correction.Adjust ns ew)
act_of (Assign key play contract tricks) = act.Ruling key play (correction.Assign contract tricks)
act_of (Restore key play) = act.Ruling key play correction.Restore

-- whether the director rules on a play, or takes a ruling back
abbrev pub is_ruling : Action → Bool
is_ruling (Tricks key play tricks) = true
is_ruling (Void key play) = true
is_ruling (Adjust key play ns ew) = true
is_ruling (Assign key play contract tricks) = true
is_ruling (Restore key play) = true
is_ruling other = false

-- the key by which somebody acts
abbrev pub key_of : Act → Key
key_of (act.Player key board at deed) = key
key_of (act.Deal key board hands) = key
key_of (act.Undeal key board) = key
key_of (act.RoundEnd key round) = key
key_of (act.Back key play) = key
key_of (act.Ruling key play correction) = key

-- the action by which a player does that
abbrev pub of_player : Key → ℕ → ℕ → Deed → Action
of_player key board at (deed.Call call) = Call key board at call
of_player key board at (deed.Card card) = Card key board at card
of_player key board at (deed.Claim tricks) = Claim key board at tricks
of_player key board at deed.Agree = Agree key board at
of_player key board at deed.Refuse = Refuse key board at

-- the action by which the director rules that
abbrev pub of_ruling : Key → PlayId → Correction → Action
of_ruling key play (correction.Tricks tricks) = Tricks key play tricks
of_ruling key play correction.Void = Void key play
of_ruling key play (correction.Adjust ns ew) = Adjust key play ns ew
of_ruling key play (correction.Assign contract tricks) = Assign key play contract tricks
of_ruling key play correction.Restore = Restore key play
