-- A session stays valid at each accepted action.
use Rattle.std.proofs.Common.{◌≡◌, Ok}
use Rattle.session_rules.specs.declared.act.Act.{Act}
use Rattle.session_rules.specs.declared.act.Act.TheVariants as act
use Rattle.session_rules.specs.declared.action.Action.{Action}
use Rattle.session_rules.specs.Act.{act_of}
use Rattle.session_rules.specs.State.{SessionValue, director_answer, record_of}
use Rattle.session_rules.specs.Back.{back_answer}
use Rattle.session_rules.specs.DirectorStep.{deal_answer, undeal_answer, next_answer, rule_answer}
use Rattle.session_rules.specs.Step.{act_answer, step_answer, changed_by, changed}
use Rattle.session_rules.specs.Valid.{IsAct, IsAction, IsValid}
use Rattle.session_rules.proofs.ValidRuling.{allowed_ok, rule_valid}
use Rattle.session_rules.proofs.ValidRound.{deal_valid, next_valid}
use Rattle.session_rules.proofs.ValidPlayer.{player_valid}
use Rattle.session_rules.proofs.ValidBack.{back_valid}
use Rattle.session_rules.proofs.ValidUndeal.{undeal_valid}

act_valid : (a : Act) (s : SessionValue) → IsAct a → IsValid s → act_answer s a ≡ Ok tt → IsValid (changed_by s a)
act_valid (act.Player key board at deed) s ranges valid ok = player_valid s key.0 board at deed valid ranges ok
act_valid (act.Deal key board hands) s ranges valid ok =
    deal_valid s board hands valid (allowed_ok (director_answer s.configuration key.0) (deal_answer s board hands) ok)
act_valid (act.Undeal key board) s ranges valid ok =
    undeal_valid s board ranges valid (allowed_ok (director_answer s.configuration key.0) (undeal_answer s board) ok)
act_valid (act.RoundEnd key round) s ranges valid ok =
    next_valid s round valid (allowed_ok (director_answer s.configuration key.0) (next_answer s round) ok)
act_valid (act.Back key play) s ranges valid ok =
    back_valid s play valid ranges (allowed_ok (director_answer s.configuration key.0) (back_answer s.round play.round (record_of s play)) ok)
act_valid (act.Ruling key play made) s ranges valid ok =
    rule_valid s play made valid ranges
    (allowed_ok (director_answer s.configuration key.0) (rule_answer s.configuration.scoring s.round play.round made (record_of s play)) ok)

pub step_valid : (action : Action) (s : SessionValue) → IsAction action → IsValid s → step_answer s action ≡ Ok tt → IsValid (changed s action)
step_valid action = act_valid (act_of action)
