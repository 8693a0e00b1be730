-- An action is that of its act, and an act that of its action.
use Rattle.std.proofs.Common.{◌≡◌, ℕ, refl}
use Rattle.bridge_config.specs.declared.fields.Key.{Key}
use Rattle.session_rules.specs.declared.act.Act.{Act}
use Rattle.session_rules.specs.declared.act.Act.TheVariants as act
use Rattle.session_rules.specs.declared.action.Action.{Action}
use Rattle.session_rules.specs.declared.action.Action.TheVariants.{Deal, Undeal, Call, Card, Claim, Agree, Refuse, NextRound, Back, Tricks, Void, Adjust, Assign, Restore}
use Rattle.session_rules.specs.declared.action.PlayId.{PlayId}
use Rattle.session_rules.specs.declared.correction.Correction.{Correction}
use Rattle.session_rules.specs.declared.correction.Correction.TheVariants as correction
use Rattle.session_rules.specs.declared.deed.Deed.{Deed}
use Rattle.session_rules.specs.declared.deed.Deed.TheVariants as deed
use Rattle.session_rules.specs.Act.{act_of, of_player, of_ruling}

abbrev pub action_by : Act → Action
action_by (act.Player key board at deed) = of_player key board at deed
action_by (act.Deal key board hands) = Deal key board hands
action_by (act.Undeal key board) = Undeal key board
action_by (act.RoundEnd key round) = NextRound key round
action_by (act.Back key play) = Back key play
action_by (act.Ruling key play made) = of_ruling key play made

pub by_its_act : (a : Action) → action_by (act_of a) ≡ a
by_its_act (Deal key board hands) = refl
by_its_act (Undeal key board) = refl
by_its_act (Call key board at call) = refl
by_its_act (Card key board at card) = refl
by_its_act (Claim key board at tricks) = refl
by_its_act (Agree key board at) = refl
by_its_act (Refuse key board at) = refl
by_its_act (NextRound key round) = refl
by_its_act (Back key play) = refl
by_its_act (Tricks key play tricks) = refl
by_its_act (Void key play) = refl
by_its_act (Adjust key play ns ew) = refl
by_its_act (Assign key play contract tricks) = refl
by_its_act (Restore key play) = refl

pub act_of_player : (key : Key) (board at : ℕ) (deed : Deed) → act_of (of_player key board at deed) ≡ act.Player key board at deed
act_of_player key board at (deed.Call call) = refl
act_of_player key board at (deed.Card card) = refl
act_of_player key board at (deed.Claim tricks) = refl
act_of_player key board at deed.Agree = refl
act_of_player key board at deed.Refuse = refl

pub act_of_ruling : (key : Key) (play : PlayId) (made : Correction) → act_of (of_ruling key play made) ≡ act.Ruling key play made
act_of_ruling key play (correction.Tricks tricks) = refl
act_of_ruling key play correction.Void = refl
act_of_ruling key play (correction.Adjust ns ew) = refl
act_of_ruling key play (correction.Assign contract tricks) = refl
act_of_ruling key play correction.Restore = refl
