-- After any accepted actions the record of a play is the plain record of its own.
use Rattle.std.proofs.Common.{◌≡◌, ℕ, List, [], ◌∷◌, Option, Some, None, Ok, refl, ap, ◌∙◌}
use Rattle.bridge_config.specs.ConfigValue.{ConfigValue}
use Rattle.bridge_config.specs.Limits.{IsConfiguration}
use Rattle.session_rules.specs.declared.act.Act.{Act}
use Rattle.session_rules.specs.declared.act.Act.TheVariants as act
use Rattle.session_rules.specs.declared.action.Action.{Action}
use Rattle.session_rules.specs.declared.action.PlayId.{PlayId}
use Rattle.session_rules.specs.declared.deed.Deed.{Deed}
use Rattle.session_rules.specs.declared.refused.Refused.{Refused}
use Rattle.session_rules.specs.declared.seating.Seating.{Seating}
use Rattle.std.specs.Prelude.{Result, Err}
use Rattle.std.specs.List.{cons_option}
use Rattle.session_rules.specs.Act.{act_of}
use Rattle.session_rules.specs.Record.{PlainRecord, empty_record}
use Rattle.session_rules.specs.State.{SessionValue, opening, seating_of, record_of}
use Rattle.session_rules.specs.PlayerStep.{acted_at}
use Rattle.session_rules.specs.Step.{changed_by, changed}
use Rattle.session_rules.specs.Valid.{IsPlayId, IsValid}
use Rattle.session_rules.specs.Own.{OwnDeed, after_actions, AreAccepted, own_deed_in, round_after, own, plain_record}
use Rattle.session_rules.proofs.StaysValid.{opening_valid}
use Rattle.session_rules.proofs.ValidStep.{step_valid}
use Rattle.session_rules.proofs.PlainBack.{all_happened, happened_board, all_left}
use Rattle.session_rules.proofs.PlainStep.{perhaps_done, record_step}

-- the configuration stays, and the round is that after the action
acted_configuration : (s : SessionValue) (deed : Deed) (sits : Result Seating Refused) → (acted_at s deed sits).configuration ≡ s.configuration
acted_configuration s deed (Err refused) = refl
acted_configuration s deed (Ok seating) = refl

acted_round : (s : SessionValue) (deed : Deed) (sits : Result Seating Refused) → (acted_at s deed sits).round ≡ s.round
acted_round s deed (Err refused) = refl
acted_round s deed (Ok seating) = refl

pub configuration_stays : (a : Act) (s : SessionValue) → (changed_by s a).configuration ≡ s.configuration
configuration_stays (act.Player key board at deed) s = acted_configuration s deed (seating_of s.configuration s.round key.0)
configuration_stays (act.Deal key board hands) s = refl
configuration_stays (act.Undeal key board) s = refl
configuration_stays (act.RoundEnd key round) s = refl
configuration_stays (act.Back key play) s = refl
configuration_stays (act.Ruling key play made) s = refl

round_is : (a : Act) (s : SessionValue) → (changed_by s a).round ≡ round_after s.round a
round_is (act.Player key board at deed) s = acted_round s deed (seating_of s.configuration s.round key.0)
round_is (act.Deal key board hands) s = refl
round_is (act.Undeal key board) s = refl
round_is (act.RoundEnd key round) s = refl
round_is (act.Back key play) s = refl
round_is (act.Ruling key play made) s = refl

same_board : (deed : Option OwnDeed) (x : PlainRecord) → (perhaps_done deed x).board ≡ x.board
same_board None x = refl
same_board (Some deed) x = happened_board deed x

one_more : (deed : Option OwnDeed) (later : List OwnDeed) (x : PlainRecord) → all_happened later (perhaps_done deed x) ≡ all_happened (cons_option deed later) x
one_more None later x = refl
one_more (Some deed) later x = refl

forward : (actions : List Action) (s : SessionValue) (play : PlayId) (board : ℕ) (x : PlainRecord) → IsValid s → IsPlayId play → AreAccepted s actions → record_of s play ≡ Some x → x.board ≡ board → record_of (after_actions s actions) play ≡ Some (all_happened (own s.configuration play board s.round actions) x)
forward [] s play board x valid id accepted is same = is
forward (action ∷ actions) s play board x valid id accepted is same =
    let by = act_of action in
    let deed = own_deed_in s.configuration play board s.round by in
    let next = record_step by s play board x accepted.0 id valid accepted.1 is same in
    let rest = forward actions (changed s action) play board (perhaps_done deed x) (step_valid action s accepted.0 valid accepted.1) id accepted.2 next (same_board deed x ∙ same) in
    let y = perhaps_done deed x in
    rest
    ∙ ap (λ (k : ConfigValue). Some (all_happened (own k play board (changed s action).round actions) y)) (configuration_stays by s)
    ∙ ap (λ r. Some (all_happened (own s.configuration play board r actions) y)) (round_is by s)
    ∙ ap Some (one_more deed (own s.configuration play board (round_after s.round by) actions) x)

pub records_plain : (configuration : ConfigValue) (actions : List Action) (play : PlayId) (board : ℕ) → IsConfiguration configuration → IsPlayId play → AreAccepted (opening configuration) actions → record_of (opening configuration) play ≡ Some (empty_record board) → record_of (after_actions (opening configuration) actions) play ≡ Some (plain_record board (own configuration play board 1 actions))
records_plain configuration actions play board limits id accepted is =
    forward actions (opening configuration) play board (empty_record board) (opening_valid configuration limits) id accepted is refl
    ∙ ap Some (all_left board (own configuration play board 1 actions) [])
