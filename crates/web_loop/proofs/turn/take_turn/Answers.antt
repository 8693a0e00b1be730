use Rattle.std.proofs.Common.{◌≡◌, ◌⊎◌, inl, inr, arith, ℕ, List, Bool, ◌||◌, ◌↔◌, IsTrue, true, false, if◌then◌else◌, refl, ap, sym, subst, ◌∙◌}
use Rattle.http_server.specs.Connection.{config_of, history}
use Rattle.http_server.specs.History.{History, IsDone}
use Rattle.http.specs.declared.request.Request.{Request}
use Rattle.http_server.specs.declared.response.Response.{Response}
use Rattle.http_server.specs.declared.state.Config.{Config}
use Rattle.http_server.proofs.StreamLemmas.{Calls-then}
use Rattle.web_loop.specs.declared.turn.Step.{Step}
use Rattle.web_loop.specs.declared.turn.Step.TheVariants.{Moved, Interrupted}
use Rattle.web_loop.specs.declared.turn.Turn.{Turn}
use Rattle.web_loop.specs.declared.turn.Turn.TheVariants.{GoesOn, Closes}
use Rattle.web_loop.specs.Turns.{has_moved, is_moved, AnswersFirst, StepEnds, TurnEnds}
use Rattle.web_loop.proofs.TurnLemmas.{grown, only_grows, quiet_still, AnswersFirst-step, Receives-then, Sends-then}
use Rattle.web_loop.proofs.turn.take_turn.Goals as goal

module _ {S : Type 0} (answers : S → Request (List ℕ) → Response → S → Type 0) (waits : S → ℕ) (config : Config) (before after : S) (old new : History) where
  -- a turn that is cut short
  cut_short_ends : (done : Bool) (turn : Turn) → turn ≡ (if done then Closes else GoesOn) → IsTrue done ↔ IsDone new → waits after ≡ waits before → AnswersFirst answers config before after old new
      → TurnEnds answers waits config turn before after old new
  cut_short_ends true turn is ends same first = record {
    first = first;
    done = λ _. is;
    quiet = λ waits. cc;
    moved = λ waits. cc;
    rests = λ moved waits. cc;
    closes = λ _. inl (ends.0 refl);
    held = λ holds. cc;
    passed = λ _. inl same;
  }
  cut_short_ends false turn is ends same first = record {
    first = first;
    done = λ d. let never = ends.1 d in cc;
    quiet = λ waits. cc;
    moved = λ waits. cc;
    rests = λ moved waits. cc;
    closes = λ closes. cc;
    held = λ holds. cc;
    passed = λ _. inl same;
  }

  -- at a step behind which the turn goes on no request that waits was answered
  goes_on : (step : Step) → (step ≡ Moved) ⊎ (step ≡ Interrupted) → StepEnds answers waits config step before after old new → waits after ≡ waits before
  goes_on step is ends =
      elim (ends.passed (λ held. elim is [ inl moved ↦ cc | inr interrupted ↦ cc ])) [
        | inl same ↦ same
        | inr closed ↦ absurd (let closes = closed.0 in elim is [ inl moved ↦ cc | inr interrupted ↦ cc ])
      ]

pub returns-in-Blocked : goal.returns-in-Blocked
returns-in-Blocked g c =
    let old = history c.args.connection.now in
    let here = history c.loop.connection in
    let new = history c.take_step-step.new.connection in
    let answers = g.S.Service.answers in
    let waits = g.S.LastingService.waits in
    let before = c.loop.invariant in
    let config = before.4 in
    let step = c.take_step-step.result in
    let same_moved : (c.loop.moved || c.is_moved-moved.result) ≡ (c.loop.moved || is_moved step) = ap (λ b. c.loop.moved || b) c.is_moved-moved.ensures in
    let ends = subst (λ limits. StepEnds answers waits limits c.take_step-step.result c.loop.service c.take_step-step.new.service here new) config c.take_step-step.ensures.ends in
    let first = AnswersFirst-step answers (config_of c.args.connection.now) c.loop.counter c.args.connection.now c.loop.connection c.args.service.now c.loop.service c.take_step-step.new.service
    new before.5 before.6 before.7 ends.first c.take_step-step.ensures.calls in
    let grew = only_grows old here _ _ _ _ before.0 before.1 before.8 in
    let blocked = c.in-Blocked.is in
    record {
      read = Receives-then old here new (g.R.Read.remaining c.args.reader.now) (g.R.Read.remaining c.loop.reader) (g.R.Read.remaining c.take_step-step.new.reader) c.loop.invariant.0 c.take_step-step.ensures.read;
      written = Sends-then old here new (g.W.Write.contents c.args.writer.now) (g.W.Write.contents c.loop.writer) (g.W.Write.contents c.take_step-step.new.writer) c.loop.invariant.1 c.take_step-step.ensures.written;
      calls = Calls-then g.S.Service.answers _ _ _ _ _ _ c.loop.invariant.2 c.take_step-step.ensures.calls;
      ends = record {
        first = first;
        done = λ done. absurd (elim (ends.done done) [ inl moved ↦ cc | inr closed ↦ cc ]);
        quiet = λ is. quiet_still c.loop.moved step old here new before.9 (λ unmoved. (ends.quiet unmoved).0) (sym same_moved ∙ ap (λ (turn : Turn). has_moved turn) is);
        moved = λ is. grown c.loop.moved step old here new grew (only_grows here new _ _ _ _ c.take_step-step.ensures.read c.take_step-step.ensures.written ends.ended) before.10 ends.moved (sym same_moved ∙ ap (λ (turn : Turn). has_moved turn) is);
        rests = λ moved is. (ends.quiet (λ m. cc)).1;
        closes = λ is. cc;
        held = λ is. cc;
        passed = λ _.
            elim (ends.passed (λ held. cc)) [
              | inl same ↦ inl (same ∙ c.loop.invariant.3)
              | inr closed ↦ absurd (let closes = closed.0 in cc)
            ];
      };
      config = c.take_step-step.ensures.config ∙ c.loop.invariant.4;
    }

pub returns-in-Held : goal.returns-in-Held
returns-in-Held g c =
    let old = history c.args.connection.now in
    let here = history c.loop.connection in
    let new = history c.take_step-step.new.connection in
    let answers = g.S.Service.answers in
    let waits = g.S.LastingService.waits in
    let before = c.loop.invariant in
    let config = before.4 in
    let step = c.take_step-step.result in
    let same_moved : (c.loop.moved || c.is_moved-moved.result) ≡ (c.loop.moved || is_moved step) = ap (λ b. c.loop.moved || b) c.is_moved-moved.ensures in
    let ends = subst (λ limits. StepEnds answers waits limits c.take_step-step.result c.loop.service c.take_step-step.new.service here new) config c.take_step-step.ensures.ends in
    let first = AnswersFirst-step answers (config_of c.args.connection.now) c.loop.counter c.args.connection.now c.loop.connection c.args.service.now c.loop.service c.take_step-step.new.service
    new before.5 before.6 before.7 ends.first c.take_step-step.ensures.calls in
    let held = c.in-Held.is in
    record {
      read = Receives-then old here new (g.R.Read.remaining c.args.reader.now) (g.R.Read.remaining c.loop.reader) (g.R.Read.remaining c.take_step-step.new.reader) c.loop.invariant.0 c.take_step-step.ensures.read;
      written = Sends-then old here new (g.W.Write.contents c.args.writer.now) (g.W.Write.contents c.loop.writer) (g.W.Write.contents c.take_step-step.new.writer) c.loop.invariant.1 c.take_step-step.ensures.written;
      calls = Calls-then g.S.Service.answers _ _ _ _ _ _ c.loop.invariant.2 c.take_step-step.ensures.calls;
      ends = record {
        first = first;
        done = λ done. absurd (elim (ends.done done) [ inl moved ↦ cc | inr closed ↦ cc ]);
        quiet = λ is. cc;
        moved = λ is. cc;
        rests = λ moved is. cc;
        closes = λ is. cc;
        held = λ _. record {
          waited = λ same. ends.held held (same ∙ sym before.3);
          mid = c.loop.connection;
          between = c.loop.service;
          limits = config;
          unwaited = before.3;
          calls = c.take_step-step.ensures.calls;
          unsent = (ends.quiet (λ moved. cc)).0.2;
        };
        passed = λ unheld. absurd (unheld refl);
      };
      config = c.take_step-step.ensures.config ∙ c.loop.invariant.4;
    }

pub returns-in-Closed : goal.returns-in-Closed
returns-in-Closed g c =
    let old = history c.args.connection.now in
    let here = history c.loop.connection in
    let new = history c.take_step-step.new.connection in
    let answers = g.S.Service.answers in
    let waits = g.S.LastingService.waits in
    let before = c.loop.invariant in
    let config = before.4 in
    let step = c.take_step-step.result in
    let same_moved : (c.loop.moved || c.is_moved-moved.result) ≡ (c.loop.moved || is_moved step) = ap (λ b. c.loop.moved || b) c.is_moved-moved.ensures in
    let ends = subst (λ limits. StepEnds answers waits limits c.take_step-step.result c.loop.service c.take_step-step.new.service here new) config c.take_step-step.ensures.ends in
    let first = AnswersFirst-step answers (config_of c.args.connection.now) c.loop.counter c.args.connection.now c.loop.connection c.args.service.now c.loop.service c.take_step-step.new.service
    new before.5 before.6 before.7 ends.first c.take_step-step.ensures.calls in
    let closed = c.in-Closed.is in
    record {
      read = Receives-then old here new (g.R.Read.remaining c.args.reader.now) (g.R.Read.remaining c.loop.reader) (g.R.Read.remaining c.take_step-step.new.reader) c.loop.invariant.0 c.take_step-step.ensures.read;
      written = Sends-then old here new (g.W.Write.contents c.args.writer.now) (g.W.Write.contents c.loop.writer) (g.W.Write.contents c.take_step-step.new.writer) c.loop.invariant.1 c.take_step-step.ensures.written;
      calls = Calls-then g.S.Service.answers _ _ _ _ _ _ c.loop.invariant.2 c.take_step-step.ensures.calls;
      ends = record {
        first = first;
        done = λ _. refl;
        quiet = λ is. cc;
        moved = λ is. cc;
        rests = λ moved is. cc;
        closes = λ _. inr (ends.quiet (λ moved. cc)).1;
        held = λ is. cc;
        passed = λ _.
            elim (ends.passed (λ held. cc)) [
              | inl same ↦ inl (same ∙ before.3)
              | inr closed ↦ inr (refl, closed.1)
            ];
      };
      config = c.take_step-step.ensures.config ∙ c.loop.invariant.4;
    }

pub returns-then-not-wants_write : goal.returns-then-not-wants_write
returns-then-not-wants_write g c =
    let old = history c.args.connection.now in
    let here = history c.loop.connection in
    let new = history c.take_step-step.new.connection in
    let answers = g.S.Service.answers in
    let waits = g.S.LastingService.waits in
    let before = c.loop.invariant in
    let config = before.4 in
    let step = c.take_step-step.result in
    let same_moved : (c.loop.moved || c.is_moved-moved.result) ≡ (c.loop.moved || is_moved step) = ap (λ b. c.loop.moved || b) c.is_moved-moved.ensures in
    let ends = subst (λ limits. StepEnds answers waits limits c.take_step-step.result c.loop.service c.take_step-step.new.service here new) config c.take_step-step.ensures.ends in
    let first = AnswersFirst-step answers (config_of c.args.connection.now) c.loop.counter c.args.connection.now c.loop.connection c.args.service.now c.loop.service c.take_step-step.new.service
    new before.5 before.6 before.7 ends.first c.take_step-step.ensures.calls in
    record {
      read = Receives-then old here new (g.R.Read.remaining c.args.reader.now) (g.R.Read.remaining c.loop.reader) (g.R.Read.remaining c.take_step-step.new.reader) c.loop.invariant.0 c.take_step-step.ensures.read;
      written = Sends-then old here new (g.W.Write.contents c.args.writer.now) (g.W.Write.contents c.loop.writer) (g.W.Write.contents c.take_step-step.new.writer) c.loop.invariant.1 c.take_step-step.ensures.written;
      calls = Calls-then g.S.Service.answers _ _ _ _ _ _ c.loop.invariant.2 c.take_step-step.ensures.calls;
      ends = cut_short_ends answers waits (config_of c.args.connection.now) c.args.service.now c.take_step-step.new.service old new c.is_done.result c.cut_short.result c.cut_short.ensures c.is_done.ensures
          (goes_on answers waits _ _ _ _ _ c.take_step-step.result c.in-Moved.is ends ∙ before.3) first;
      config = c.take_step-step.ensures.config ∙ c.loop.invariant.4;
    }

pub returns : goal.returns
returns g c = record {
  read = c.loop.invariant.0;
  written = c.loop.invariant.1;
  calls = c.loop.invariant.2;
  ends = cut_short_ends g.S.Service.answers g.S.LastingService.waits (config_of c.args.connection.now) c.args.service.now c.loop.service (history c.args.connection.now) (history c.loop.connection)
      c.is_done-2.result c.cut_short-2.result c.cut_short-2.ensures c.is_done-2.ensures c.loop.invariant.3
      (elim c.loop.invariant.7 [ inl none ↦ absurd (omega (arith, none, c.loop-test.false)) | inr first ↦ first ]);
  config = c.loop.invariant.4;
}

pub loop-preserved : goal.loop-preserved
loop-preserved g c =
    let old = history c.args.connection.now in
    let here = history c.loop.connection in
    let new = history c.take_step-step.new.connection in
    let answers = g.S.Service.answers in
    let waits = g.S.LastingService.waits in
    let before = c.loop.invariant in
    let config = before.4 in
    let step = c.take_step-step.result in
    let same_moved : (c.loop.moved || c.is_moved-moved.result) ≡ (c.loop.moved || is_moved step) = ap (λ b. c.loop.moved || b) c.is_moved-moved.ensures in
    let ends = subst (λ limits. StepEnds answers waits limits c.take_step-step.result c.loop.service c.take_step-step.new.service here new) config c.take_step-step.ensures.ends in
    let first = AnswersFirst-step answers (config_of c.args.connection.now) c.loop.counter c.args.connection.now c.loop.connection c.args.service.now c.loop.service c.take_step-step.new.service
    new before.5 before.6 before.7 ends.first c.take_step-step.ensures.calls in
    let grew = only_grows old here _ _ _ _ before.0 before.1 before.8 in (
      Receives-then old here new (g.R.Read.remaining c.args.reader.now) (g.R.Read.remaining c.loop.reader) (g.R.Read.remaining c.take_step-step.new.reader) c.loop.invariant.0 c.take_step-step.ensures.read,
      Sends-then old here new (g.W.Write.contents c.args.writer.now) (g.W.Write.contents c.loop.writer) (g.W.Write.contents c.take_step-step.new.writer) c.loop.invariant.1 c.take_step-step.ensures.written,
      Calls-then g.S.Service.answers _ _ _ _ _ _ c.loop.invariant.2 c.take_step-step.ensures.calls,
      goes_on answers waits _ _ _ _ _ c.take_step-step.result c.in-Moved.is ends ∙ before.3,
      c.take_step-step.ensures.config ∙ c.loop.invariant.4,
      λ none. absurd (omega (arith, none)),
      λ none. absurd (omega (arith, none)),
      inr first,
      λ e. ends.ended (before.8 e),
      λ none. quiet_still c.loop.moved step old here new before.9 (λ unmoved. (ends.quiet unmoved).0) (sym same_moved ∙ none),
      λ some. grown c.loop.moved step old here new grew (only_grows here new _ _ _ _ c.take_step-step.ensures.read c.take_step-step.ensures.written ends.ended) before.10 ends.moved (sym same_moved ∙ some),
    )
