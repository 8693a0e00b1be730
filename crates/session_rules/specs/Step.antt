-- The answer to each action, and the one change that an accepted action makes. What a player does is answered in
-- `PlayerStep`, what the director does in `DirectorStep`.
use Rattle.std.specs.Prelude.{◌+◌, ◌-◌, slice_set, Some, None}
use Rattle.session_rules.specs.declared.act.Act.{Act}
use Rattle.session_rules.specs.declared.act.Act.TheVariants as act
use Rattle.session_rules.specs.declared.action.Action.{Action}
use Rattle.session_rules.specs.Act.{act_of}
use Rattle.session_rules.specs.Answer.{Answer}
use Rattle.session_rules.specs.State.{SessionValue, director_answer, record_of}
use Rattle.session_rules.specs.PlayerStep.{seen_by, player_answer, acted}
use Rattle.session_rules.specs.Back.{back_answer, less_latest_in}
use Rattle.session_rules.specs.DirectorStep.{if_allowed, deal_answer, undeal_answer, next_answer, rule_answer, ruled}

-- the answer to an act: a player is judged by what is seen at the table, the others must be the director
abbrev pub act_answer : SessionValue → Act → Answer
act_answer s (act.Player key board at deed) = player_answer (seen_by s key.0 board) key.0 board at deed
act_answer s (act.Deal key board hands) = if_allowed (director_answer s.configuration key.0) (deal_answer s board hands)
act_answer s (act.Undeal key board) = if_allowed (director_answer s.configuration key.0) (undeal_answer s board)
act_answer s (act.RoundEnd key round) = if_allowed (director_answer s.configuration key.0) (next_answer s round)
act_answer s (act.Back key play) = if_allowed (director_answer s.configuration key.0) (back_answer s.round play.round (record_of s play))
act_answer s (act.Ruling key play made) =
    if_allowed (director_answer s.configuration key.0) (rule_answer s.configuration.scoring s.round play.round made (record_of s play))

-- the session after an accepted act
abbrev pub changed_by : SessionValue → Act → SessionValue
changed_by s (act.Player key board at deed) = acted s key.0 deed
changed_by s (act.Deal key board hands) = record s { deals = slice_set s.deals (board - 1) (Some hands) }
changed_by s (act.Undeal key board) = record s { deals = slice_set s.deals (board - 1) None }
changed_by s (act.RoundEnd key round) = record s { round = s.round + 1 }
changed_by s (act.Back key play) = less_latest_in s play
changed_by s (act.Ruling key play made) = ruled s play made

-- The answer to an action: the first refusal that applies, or that it is accepted.
abbrev pub step_answer : SessionValue → Action → Answer
step_answer s action = act_answer s (act_of action)

-- The session after an accepted action.
abbrev pub changed : SessionValue → Action → SessionValue
changed s action = changed_by s (act_of action)
