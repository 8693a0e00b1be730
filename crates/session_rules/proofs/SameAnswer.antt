-- The answer to a player is the same in two sessions that agree at his table.
use Rattle.std.proofs.Common.{◌≡◌, ℕ, Bool, true, false, cond, List, Option, Some, None, Result, Ok, Err, refl, sym, ap, ◌∙◌, subst}
use Rattle.bridge_config.specs.ConfigValue.{ConfigValue}
use Rattle.session_rules.specs.declared.act.Act.{Act}
use Rattle.session_rules.specs.declared.act.Act.TheVariants as act
use Rattle.session_rules.specs.declared.action.Action.{Action}
use Rattle.session_rules.specs.declared.deed.Deed.{Deed}
use Rattle.session_rules.specs.declared.refused.Refused.{Refused}
use Rattle.session_rules.specs.declared.seating.Seating.{Seating}
use Rattle.session_rules.specs.Act.{act_of}
use Rattle.session_rules.specs.Record.{PlainRecord}
use Rattle.session_rules.specs.State.{SessionValue, deal_on, seating_of, is_of_set}
use Rattle.session_rules.specs.PlayerStep.{Seen, seen_by, seen_deal, seen_records, player_answer}
use Rattle.session_rules.specs.Step.{act_answer, step_answer}
use Rattle.session_rules.specs.Apart.{player_in_act, player_key, AgreeAtTable}

-- a deal that is looked at only where it is the same
deal_if : (b : Bool) (x y : Option (List ℕ)) → (b ≡ true → x ≡ y) → cond b x None ≡ cond b y None
deal_if true x y same = same refl
deal_if false x y same = refl

deal_same : (key : ℕ) (s t : SessionValue) (board : ℕ) (sits : Result Seating Refused) → AgreeAtTable key s t → seating_of s.configuration s.round key ≡ sits → seen_deal s board sits ≡ seen_deal t board sits
deal_same key s t board (Err refused) agree is = refl
deal_same key s t board (Ok seating) agree is =
    deal_if (is_of_set s.configuration seating.set board) (deal_on s.deals board) (deal_on t.deals board) (agree.deals seating board is)
    ∙ ap (λ (k : ConfigValue). cond (is_of_set k seating.set board) (deal_on t.deals board) None) agree.configuration

records_same : (key : ℕ) (s t : SessionValue) (sits : Result Seating Refused) → AgreeAtTable key s t → seating_of s.configuration s.round key ≡ sits → seen_records s sits ≡ seen_records t sits
records_same key s t (Err refused) agree is = refl
records_same key s t (Ok seating) agree is = agree.records seating is

-- what is seen is the same
seen_same : (key : ℕ) (s t : SessionValue) (board : ℕ) → AgreeAtTable key s t → seen_by s key board ≡ seen_by t key board
seen_same key s t board agree =
    let sits_s = seating_of s.configuration s.round key in
    let sits_t = seating_of t.configuration t.round key in
    let sits : sits_s ≡ sits_t = ap (λ (k : ConfigValue). seating_of k s.round key) agree.configuration ∙ ap (λ r. seating_of t.configuration r key) agree.round in
    let deals : seen_deal s board sits_s ≡ seen_deal t board sits_t = deal_same key s t board sits_s agree refl ∙ ap (seen_deal t board) sits in
    let records : seen_records s sits_s ≡ seen_records t sits_t = records_same key s t sits_s agree refl ∙ ap (seen_records t) sits in
    let made : ConfigValue → ℕ → Option (List ℕ) → List PlainRecord → Seen =
    λ k r d p. record { configuration = k; round = r; deal = d; records = p } in
    ap (λ k. made k s.round (seen_deal s board sits_s) (seen_records s sits_s)) agree.configuration
    ∙ ap (λ r. made t.configuration r (seen_deal s board sits_s) (seen_records s sits_s)) agree.round
    ∙ ap (λ d. made t.configuration t.round d (seen_records s sits_s)) deals
    ∙ ap (made t.configuration t.round (seen_deal t board sits_t)) records

player_same : (own key : ℕ) (s t : SessionValue) (board at : ℕ) (deed : Deed) → Some own ≡ Some key → AgreeAtTable key s t → player_answer (seen_by s own board) own board at deed ≡ player_answer (seen_by t own board) own board at deed
player_same own key s t board at deed is agree =
    let same : own ≡ key = cc in
    let there = subst (λ k. AgreeAtTable k s t) (sym same) agree in
    ap (λ (seen : Seen). player_answer seen own board at deed) (seen_same own s t board there)

act_same : (a : Act) (key : ℕ) (s t : SessionValue) → player_in_act a ≡ Some key → AgreeAtTable key s t → act_answer s a ≡ act_answer t a
act_same (act.Player own board at deed) key s t is agree = player_same own.0 key s t board at deed is agree
act_same (act.Deal own board hands) key s t is agree = absurd cc
act_same (act.Undeal own board) key s t is agree = absurd cc
act_same (act.RoundEnd own round) key s t is agree = absurd cc
act_same (act.Back own play) key s t is agree = absurd cc
act_same (act.Ruling own play made) key s t is agree = absurd cc

pub answer_same : (action : Action) (key : ℕ) (s t : SessionValue) → player_key action ≡ Some key → AgreeAtTable key s t → step_answer s action ≡ step_answer t action
answer_same action = act_same (act_of action)
