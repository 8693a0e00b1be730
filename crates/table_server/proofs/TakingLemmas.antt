-- Changes that a store took.
use Rattle.std.proofs.Common.{◌≡◌, ℕ, zero, suc, ◌+◌, ◌<◌, ◌≤◌, ◌∙◌, Bool, true, false, [], ◌∷◌, Result, Ok, Err, refl, sym, ap, subst, arith}
use Rattle.std.specs.Prelude.{◌==◌, if◌then◌else◌}
use Rattle.sector_disk.specs.Disk.{Disk}
use Rattle.session_store.specs.Answers.{TakesMore, room, after_fault, after_failed_submit, with_action, with_record}
use Rattle.session_store.specs.Store.{Continues}
use Rattle.session_store.specs.Value.{StoreValue}
use Rattle.session_rules.specs.declared.action.Action.{Action}
use Rattle.session_rules.specs.declared.refused.Refused.{Refused as SessionRefused}
use Rattle.bridge_session.specs.SessionKeeping.{session_keeping}
use Rattle.session_rules.specs.State.{SessionValue}
use Rattle.line_replies.specs.declared.short_reply.ShortReply.TheVariants.{Refused}
use Rattle.table_server.specs.Serving.{FailsTaking, IsTaken}
use Rattle.table_server.specs.Standing.{Standing, standing_of, standing_within, accepted_within, reply_within}

-- where actions can be taken, one that the session accepts is
accepted_there : (n : ℕ) (action : Action) (answer : Result SessionValue SessionRefused) (s : SessionValue) → 0 < n → answer ≡ Ok s → accepted_within n action answer ≡ action ∷ []
accepted_there zero action answer s some is = absurd (omega (arith, some))
accepted_there (suc n) action answer s some is = rw is refl

-- and the session is the one after it
state_there : (n : ℕ) (standing : Standing) (answer : Result SessionValue SessionRefused) (s : SessionValue) → 0 < n → answer ≡ Ok s → s ≡ (standing_within standing n answer).state
state_there zero standing answer s some is = absurd (omega (arith, some))
state_there (suc n) standing answer s some is = rw is refl

-- either way the store has failed
pub failed_either : {D : Type 0} (full : Bool) (v w : StoreValue D SessionValue Action) (d : D) → (if full then after_fault v d else after_fault w d).failed ≡ true
failed_either true v w d = refl
failed_either false v w d = refl

-- and leaves room for one fewer, or for as many where a checkpoint failed
room_failed : {D : Type 0} (full : Bool) (v : StoreValue D SessionValue Action) (action : Action) (s : SessionValue) (d : D)
    → let new = if full then after_fault (with_action v action s) d else after_fault (with_record v action s) d in (room new ≤ room v) × (room v ≤ room new + 1)
unfolding room
room_failed true v action s d = (omega arith, omega arith)
room_failed false v action s d = (omega arith, omega arith)

-- a store that accepted an action and failed
pub fails_taking : {D : Type 0} (disk : Disk D) (v new : StoreValue D SessionValue Action) (action : Action) → TakesMore v → session_keeping.step v.state action ≡ Ok new.state → new ≡ after_failed_submit v action new.state new.disk → Continues session_keeping disk v (action ∷ []) new → FailsTaking disk v action new
fails_taking {D} disk v new action more accepts is call =
    let answer = session_keeping.step v.state action in
    let accepted : accepted_within (room v) action answer ≡ action ∷ [] = accepted_there (room v) action answer new.state more.2 accepts in record {
      failed = ap (λ (w : StoreValue D SessionValue Action). w.failed) is
          ∙ failed_either (v.records == 1024) (with_action v action new.state) (with_record v action new.state) new.disk;
      accepted = accepted;
      state = state_there (room v) (standing_of v) answer new.state more.2 accepts;
      fewer = subst (λ (w : StoreValue D SessionValue Action). (room w ≤ room v) × (room v ≤ room w + 1)) (sym is)
          (room_failed (v.records == 1024) v action new.state new.disk);
      continues = rw accepted call;
    }

-- where actions can be taken, one that the session refuses is refused, and nothing changes
reply_refused : (n : ℕ) (answer : Result SessionValue SessionRefused) (refusal : SessionRefused) → 0 < n → answer ≡ Err refusal → Refused refusal ≡ reply_within n answer
reply_refused zero answer refusal some is = absurd (omega (arith, some))
reply_refused (suc n) answer refusal some is = rw is refl

standing_refused : (n : ℕ) (standing : Standing) (answer : Result SessionValue SessionRefused) (refusal : SessionRefused) → 0 < n → answer ≡ Err refusal → standing_within standing n answer ≡ standing
standing_refused zero standing answer refusal some is = absurd (omega (arith, some))
standing_refused (suc n) standing answer refusal some is = rw is refl

accepted_refused : (n : ℕ) (action : Action) (answer : Result SessionValue SessionRefused) (refusal : SessionRefused) → 0 < n → answer ≡ Err refusal → accepted_within n action answer ≡ []
accepted_refused zero action answer refusal some is = absurd (omega (arith, some))
accepted_refused (suc n) action answer refusal some is = rw is refl

-- a store that refused an action
pub refuses_taking : {D : Type 0} (disk : Disk D) (v new : StoreValue D SessionValue Action) (action : Action) (refusal : SessionRefused) → TakesMore v → session_keeping.step v.state action ≡ Err refusal → new ≡ v → Continues session_keeping disk v [] new → IsTaken disk v action new (Refused refusal)
refuses_taking {D} disk v new action refusal more refuses is call =
    let answer = session_keeping.step v.state action in
    let none : accepted_within (room v) action answer ≡ [] = accepted_refused (room v) action answer refusal more.2 refuses in record {
      works = ap (λ (w : StoreValue D SessionValue Action). w.failed) is ∙ more.0;
      reply_is = reply_refused (room v) answer refusal more.2 refuses;
      standing = ap (λ (w : StoreValue D SessionValue Action). standing_of w) is ∙ sym (standing_refused (room v) (standing_of v) answer refusal more.2 refuses);
      continues = rw none call;
    }
