-- One step of a connection after another.
use Rattle.std.proofs.Common.{◌≡◌, ◌≢◌, ◌⊎◌, ◌<◌, ◌≤◌, inl, inr, refl, sym, subst, arith, ℕ, Bool, true, false, ◌||◌, List, [], ◌∷◌, ◌++◌, length, length-append, Option, ap, ◌∙◌, append_assoc}
use Rattle.std.proofs.lemmas.Bool.{true≢false}
use Rattle.http_server.specs.History.{History, IsDone, IsQuiet, Rests}
use Rattle.http.specs.declared.request.Request.{Request}
use Rattle.http_server.specs.declared.response.Response.{Response}
use Rattle.http_server.specs.declared.state.Config.{Config}
use Rattle.http_server.specs.declared.state.State.{State}
use Rattle.http_server.specs.declared.state.State.TheVariants.{Open, Closing, Upgraded, Aborted}
use Rattle.http_server.specs.declared.connection.Connection.{Connection}
use Rattle.http_server.specs.Connection.{config_of, history}
use Rattle.http_server.specs.Exchange.{Calls}
use Rattle.http_server.proofs.StreamLemmas.{Calls-none, Calls-then}
use Rattle.http_server.proofs.KnownLemmas.{Appends-then, Consumes-then}
use Rattle.web_loop.specs.declared.turn.Step.{Step}
use Rattle.web_loop.specs.declared.turn.Step.TheVariants.{Moved, Interrupted, Blocked, Held, Closed}
use Rattle.web_loop.specs.Turns.{is_moved, AnswersFirst, Grows, Receives, Sends, StepEnds}

-- what was received in two parts
pub Receives-then : (a b c : History) (u v w : Option (List ℕ)) → Receives a b u v → Receives b c v w → Receives a c u w
Receives-then a b c u v w x y = (
  x.0 ++ y.0,
  Consumes-then u v w x.0 y.0 x.1 y.1,
  y.2 ∙ ap (λ (t : List ℕ). t ++ y.0) x.2 ∙ append_assoc a.received x.0 y.0,
)

-- what only grows: what was received and sent, and whether the end was found
pub record OnlyGrows (old new : History) : Type 0 where
  pub received : length old.received ≤ length new.received
  pub sent : length old.sent ≤ length new.sent
  pub ended : old.ended ≡ true → new.ended ≡ true

pub only_grows : (a b : History) (r s w x : Option (List ℕ)) → Receives a b r s → Sends a b w x → (a.ended ≡ true → b.ended ≡ true) → OnlyGrows a b
only_grows a b r s w x reads sends ended = record {
  received = omega (arith, ap (λ (t : List ℕ). length t) reads.2, length-append a.received reads.0);
  sent = omega (arith, ap (λ (t : List ℕ). length t) sends.2, length-append a.sent sends.0);
  ended = ended;
}

-- what grew before, and what grew behind
pub Grows-then : (a b c : History) → Grows a b → OnlyGrows b c → Grows a c
Grows-then a b c (inl received) more = inl (omega (arith, received, more.received))
Grows-then a b c (inr (inl sent)) more = inr (inl (omega (arith, sent, more.sent)))
Grows-then a b c (inr (inr ended)) more = inr (inr (ended.0, more.ended ended.1))

pub Grows-behind : (a b c : History) → OnlyGrows a b → Grows b c → Grows a c
Grows-behind a b c before (inl received) = inl (omega (arith, received, before.received))
Grows-behind a b c before (inr (inl sent)) = inr (inl (omega (arith, sent, before.sent)))
Grows-behind a b c before (inr (inr ended)) = inr (inr (unended a.ended (λ e. let never = before.ended e in absurd (true≢false (sym never ∙ ended.0))), ended.1))
  where
    unended : (e : Bool) → ¬ (e ≡ true) → e ≡ false
    unended true none = absurd (none refl)
    unended false none = refl

-- where nothing moved before, a step that does not is quiet, and where something did or does, the history grew
pub quiet_still : (moved : Bool) (step : Step) (a b c : History) → (moved ≡ false → IsQuiet a b) → (step ≢ Moved → IsQuiet b c) → (moved || is_moved step) ≡ false → IsQuiet a c
quiet_still true step a b c before now none = absurd (true≢false none)
quiet_still false step a b c before now none =
    let x = before refl in
    let y = now (λ is. true≢false (sym (ap (λ (s : Step). is_moved s) is) ∙ none)) in
    (y.0 ∙ x.0, y.1 ∙ x.1, y.2 ∙ x.2)

pub grown : (moved : Bool) (step : Step) (a b c : History) → OnlyGrows a b → OnlyGrows b c → (moved ≡ true → Grows a b) → (step ≡ Moved → Grows b c) → (moved || is_moved step) ≡ true → Grows a c
grown true step a b c first second before now some = Grows-then a b c (before refl) second
grown false Moved a b c first second before now some = Grows-behind a b c first (now refl)
grown false Interrupted a b c first second before now some = absurd (true≢false (sym some))
grown false Blocked a b c first second before now some = absurd (true≢false (sym some))
grown false Held a b c first second before now some = absurd (true≢false (sym some))
grown false Closed a b c first second before now some = absurd (true≢false (sym some))

-- a connection that is not done, with nothing pending, is open
pub state_open : (state : State) → ¬ (state ≢ Open) → state ≡ Open
state_open Open none = refl
state_open (Closing reason) none = absurd (none (λ is. cc))
state_open Upgraded none = absurd (none (λ is. cc))
state_open Aborted none = absurd (none (λ is. cc))

-- what was sent in two parts
pub Sends-then : (a b c : History) (u v w : Option (List ℕ)) → Sends a b u v → Sends b c v w → Sends a c u w
Sends-then a b c u v w x y = (
  x.0 ++ y.0,
  Appends-then u v w x.0 y.0 x.1 y.1,
  y.2 ∙ ap (λ (t : List ℕ). t ++ y.0) x.2 ∙ append_assoc a.sent x.0 y.0,
)

none_there : (xs : List ℕ) → ¬ (0 < length xs) → xs ≡ []
none_there [] none = refl
none_there (x ∷ xs) none = absurd (none (omega arith))

moved_or_not : (step : Step) → (step ≡ Moved) ⊎ (step ≢ Moved)
moved_or_not Moved = inl refl
moved_or_not Interrupted = inr (λ is. cc)
moved_or_not Blocked = inr (λ is. cc)
moved_or_not Held = inr (λ is. cc)
moved_or_not Closed = inr (λ is. cc)

module _ {S : Type 0} (answers : S → Request (List ℕ) → Response → S → Type 0) (config : Config) where
  -- what is answered first, and the calls behind it
  pub AnswersFirst-then : (a b c : S) (old mid new : History) → AnswersFirst answers config a b old mid → Calls answers b c mid.calls new.calls → AnswersFirst answers config a c old new
  AnswersFirst-then a b c old mid new x calls = record {
    mid = x.mid;
    between = x.between;
    limits = x.limits;
    quiet = x.quiet;
    rests = x.rests;
    first = x.first;
    behind = Calls-then answers _ _ _ _ _ _ x.behind calls;
  }

  -- of a turn that is what its first step answers first
  pub AnswersFirst-step : (steps : ℕ) (start here : Connection) (a b c : S) (new : History) → (steps ≡ 0 → here ≡ start) → (steps ≡ 0 → b ≡ a)
      → (steps ≡ 0) ⊎ AnswersFirst answers config a b (history start) (history here) → AnswersFirst answers config b c (history here) new → Calls answers b c (history here).calls new.calls
      → AnswersFirst answers config a c (history start) new
  AnswersFirst-step steps start here a b c new same_connection same_service (inl none) step calls =
      subst (λ (connection : Connection). AnswersFirst answers config a c (history connection) new) (same_connection none)
      (subst (λ (s : S). AnswersFirst answers config s c (history here) new) (same_service none) step)
  AnswersFirst-step steps start here a b c new same_connection same_service (inr first) step calls =
      AnswersFirst-then a b c (history start) (history here) new first calls

module _ {S : Type 0} (answers : S → Request (List ℕ) → Response → S → Type 0) (waits : S → ℕ) (config : Config) (step : Step) (before after : S) (old : History) (mid : Connection) (new : History)
    (limits : config_of mid ≡ config) (quiet : IsQuiet old (history mid)) (rests : Rests config (history mid)) (calls : Calls answers before after old.calls (history mid).calls)
    (same_calls : new.calls ≡ (history mid).calls) where
  first_answered : AnswersFirst answers config before after old new
  first_answered = record {
    mid = mid;
    between = after;
    limits = limits;
    quiet = quiet;
    rests = rests;
    first = calls;
    behind = Calls-none answers after after (history mid).calls new.calls refl same_calls;
  }

  module _ (open_still : ¬ (IsDone (history mid))) where
    -- a step behind the answer to a request that waits
    pub holds : step ≡ Held → new ≡ history mid → waits after ≢ waits before → StepEnds answers waits config step before after old new
    holds held same waited = record {
      first = first_answered;
      quiet = λ _. subst (λ (h : History). IsQuiet old h × Rests config h) (sym same) (quiet, rests);
      done = λ done. absurd (open_still (subst IsDone same done));
      held = λ _. waited;
      passed = λ unheld. absurd (unheld held);
      moved = λ moved. cc;
      ended = λ ended. ap (λ (h : History). h.ended) same ∙ quiet.1 ∙ ended;
      reads = inl (ap (λ (h : History). h.received) same ∙ quiet.0);
    }

    module _ (same : waits after ≡ waits before) (unheld : step ≢ Held) (still : step ≢ Moved → new ≡ history mid) where
      step_ends : (step ≡ Moved → Grows (history mid) new) → ((history mid).ended ≡ true → new.ended ≡ true) → (new.received ≡ old.received) ⊎ (new.pending ≡ [])
          → StepEnds answers waits config step before after old new
      step_ends grows ended reads = record {
        first = first_answered;
        quiet = λ unmoved. subst (λ (h : History). IsQuiet old h × Rests config h) (sym (still unmoved)) (quiet, rests);
        done = λ done.
            elim (moved_or_not step) [
              | inl moved ↦ inl moved
              | inr unmoved ↦ absurd (open_still (subst IsDone (still unmoved) done))
            ];
        held = λ held. absurd (unheld held);
        passed = λ _. inl same;
        moved = λ moved. Grows-behind old (history mid) new (record { received = omega (arith, ap (λ (t : List ℕ). length t) quiet.0); sent = omega (arith, ap (λ (t : List ℕ). length t) quiet.2); ended = λ e. quiet.1 ∙ e }) (grows moved);
        ended = λ e. ended (quiet.1 ∙ e);
        reads = reads;
      }

      -- a step that writes once
      pub writes_once : new.received ≡ (history mid).received → (step ≡ Moved → length (history mid).sent < length new.sent) → new.ended ≡ (history mid).ended
          → StepEnds answers waits config step before after old new
      writes_once received sent ended = step_ends (λ moved. inr (inl (sent moved))) (λ e. ended ∙ e) (inl (received ∙ quiet.0))

      -- one that reads once, with nothing pending
      pub reads_once : new.pending ≡ (history mid).pending → ¬ (0 < length (history mid).pending)
          → (step ≡ Moved → (length (history mid).received < length new.received) ⊎ (new.ended ≡ true)) → ((history mid).ended ≡ true → new.ended ≡ true)
          → StepEnds answers waits config step before after old new
      reads_once pending none moved ended =
          let empty = none_there (history mid).pending none in
          let short : length (history mid).pending ≡ 0 = ap (λ (t : List ℕ). length t) empty in
          let unended = (rests (state_open (history mid).state (λ closed. open_still (closed, short))) (omega (arith, short))).0 in
          step_ends (λ is. elim (moved is) [ inl received ↦ inl received | inr end ↦ inr (inr (unended, end)) ]) ended (inr (pending ∙ empty))

  -- a step that finds the connection done
  pub closes : step ≡ Closed → new ≡ history mid → IsDone (history mid) → StepEnds answers waits config step before after old new
  closes closed same done = record {
    first = first_answered;
    quiet = λ _. subst (λ (h : History). IsQuiet old h × Rests config h) (sym same) (quiet, rests);
    done = λ _. inr closed;
    held = λ held. cc;
    passed = λ _. inr (closed, subst IsDone (sym same) done);
    moved = λ moved. cc;
    ended = λ ended. ap (λ (h : History). h.ended) same ∙ quiet.1 ∙ ended;
    reads = inl (ap (λ (h : History). h.received) same ∙ quiet.0);
  }
