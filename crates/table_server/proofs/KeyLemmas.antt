-- Lines leave the configuration as it is, so that their keys are judged alike.
use Rattle.std.proofs.Common.{◌≡◌, ℕ, ◌+◌, ◌<◌, ◌≤◌, zero, suc, Bool, true, false, cond, List, [], ◌∷◌, ◌++◌, length, Result, Ok, Err, refl, ap, ◌∙◌, arith}
use Rattle.std.specs.Prelude.{min}
use Rattle.std.proofs.lemmas.List.Sums.{count_by-le-length, sum_by_push}
use Rattle.sector_disk.specs.Disk.{Disk}
use Rattle.bridge_config.specs.ConfigValue.{ConfigValue}
use Rattle.session_store.specs.Value.{StoreValue}
use Rattle.session_rules.specs.declared.action.Action.{Action}
use Rattle.session_rules.specs.declared.refused.Refused.{Refused}
use Rattle.session_rules.specs.Act.{act_of}
use Rattle.session_rules.specs.State.{SessionValue}
use Rattle.session_rules.specs.Step.{step_answer}
use Rattle.session_rules.proofs.PlainLaw.{configuration_stays}
use Rattle.session_bytes.specs.SessionKeeping.{step_by}
use Rattle.table_server.specs.declared.asked.Asked.{Asked}
use Rattle.table_server.specs.declared.asked.Asked.TheVariants.{Change, Told, BadLine, LongLine}
use Rattle.table_server.specs.declared.held_replies.HeldReplies.{HeldReplies}
use Rattle.table_server.specs.Answered.{after_all, after_asked}
use Rattle.table_server.specs.Serving.{Serving, ServingBy}
use Rattle.table_server.specs.Standing.{Standing, standing_of, standing_by, standing_within}
use Rattle.table_server.specs.WrongKeys.{has_wrong_key, wrong_keys}

-- the answer to an action,
kept_by : (standing : Standing) (room : ℕ) (action : Action) (answer : Result (Unit {0}) Refused)
    → (standing_by standing room (step_by standing.state action answer)).state.configuration ≡ standing.state.configuration
kept_by standing room action (Ok done) = configuration_stays (act_of action) standing.state
kept_by standing room action (Err refused) = refl

-- where so many can be taken,
kept_within : (standing : Standing) (room : ℕ) (action : Action)
    → (standing_within standing room (step_by standing.state action (step_answer standing.state action))).state.configuration ≡ standing.state.configuration
kept_within standing zero action = refl
kept_within standing (suc room) action = kept_by standing room action (step_answer standing.state action)

-- a line,
kept_after : (standing : Standing) (asked : Asked) → (after_asked standing asked).state.configuration ≡ standing.state.configuration
kept_after standing (Change action) = kept_within standing standing.room action
kept_after standing (Told question) = refl
kept_after standing BadLine = refl
kept_after standing LongLine = refl

-- and lines leave it as it is
pub kept_after_all : (standing : Standing) (asked : List Asked) → (after_all standing asked).state.configuration ≡ standing.state.configuration
kept_after_all standing [] = refl
kept_after_all standing (one ∷ more) = kept_after_all (after_asked standing one) more ∙ kept_after standing one

-- so it is that of the store from which lines are served
module _ {D : Type 0} (disk : Disk D) (start : StoreValue D SessionValue Action) (asked : List Asked) (store : StoreValue D SessionValue Action) (held : HeldReplies) (written : List ℕ) where
  kept_serving : (failed : Bool) → ServingBy disk failed start asked store held written → store.state.configuration ≡ start.state.configuration
  kept_serving true s = ap (λ (t : SessionValue). t.configuration) s.served.state ∙ kept_after_all (standing_of start) (s.served.answered ++ s.served.taken)
  kept_serving false s = ap (λ (t : Standing). t.state.configuration) s.holding.standing ∙ kept_after_all (standing_of start) asked

  pub configuration_kept : Serving disk start asked store held written → store.state.configuration ≡ start.state.configuration
  configuration_kept s = kept_serving held.served.failed s

-- one line more is counted
pub counts_one : (configuration now : ConfigValue) (asked : List Asked) (one : Asked) (count more lines : ℕ) → now ≡ configuration → count ≡ wrong_keys configuration asked
    → more ≡ cond (has_wrong_key now one) 1 0 → lines ≡ length asked → lines < 65536 → min (count + more) 18446744073709551615 ≡ wrong_keys configuration (asked ++ one ∷ [])
counts_one configuration now asked one count more lines same counted is whole few =
    let pushed : wrong_keys configuration (asked ++ one ∷ []) ≡ wrong_keys configuration asked + cond (has_wrong_key configuration one) 1 0 =
    sum_by_push (λ (line : Asked). cond (has_wrong_key configuration line) 1 0) asked one in
    let own : more ≡ cond (has_wrong_key configuration one) 1 0 = is ∙ ap (λ (k : ConfigValue). cond (has_wrong_key k one) 1 0) same in
    let most : wrong_keys configuration asked ≤ length asked = count_by-le-length (has_wrong_key configuration) asked in
    let small : more ≤ 1 = small_one (has_wrong_key configuration one) more own in
    omega (arith, pushed, own, most, small, counted, whole, few)
  where
    small_one : (wrong : Bool) (n : ℕ) → n ≡ cond wrong 1 0 → n ≤ 1
    small_one true n is = omega (arith, is)
    small_one false n is = omega (arith, is)
