use Rattle.std.proofs.Common.{◌≡◌, ◌⊎◌, ◌-◌, ◌<◌, true, inl, inr, refl, sym, ◌∙◌, arith}
use Rattle.std.proofs.lemmas.Bool.Decides.{nat_tests}
use Rattle.web_loop.specs.Turns.{has_moved}
use Rattle.web_loop.proofs.client.Client.take_turn.Goals.{then-has_moved-via-then-has_moved, then-has_moved-via-else-has_moved+then-wrong-gt0}
use Rattle.web_loop.proofs.client.Client.take_turn.Goals as goal

pub returns-then-has_moved-clause-turn : goal.returns-then-has_moved-clause-turn
returns-then-has_moved-clause-turn g c =
    let turn = c.take_turn_now-turn.ensures.turn in
    let offences = g.S.LastingService.offences in
    let wrong : c.saturating_sub-wrong.result ≡ offences c.take_turn_now-turn.new.service - offences c.args.service.now =
    grind (arith, c.saturating_sub-wrong.ensures, c.offences.ensures, c.offences-before.ensures) in
    let active : (has_moved c.take_turn_now-turn.result ≡ true) ⊎ (0 < offences c.take_turn_now-turn.new.service - offences c.args.service.now) =
    elim c.then-has_moved.branch [
      | then-has_moved-via-then-has_moved w ↦ inl (sym c.has_moved.ensures ∙ w.if-has_moved.true)
      | then-has_moved-via-else-has_moved+then-wrong-gt0 w ↦ inr (grind (arith, nat_tests, wrong, w.if-wrong-gt0.true))
    ] in
    inr (inr (
      record { asks = sym c.waits.ensures ∙ c.if-waits.false; free = c.goes_on.ensures.free c.if-not-goes_on.false },
      (
        c.take_turn_now-turn.result,
        record {
          takes = record { calls = turn.takes.calls; read = turn.takes.read; config = turn.takes.config; address = turn.takes.address };
          written = turn.written;
          ends = turn.ends;
          held = turn.held;
          anew = turn.anew;
        },
        inl (record {
          active = active;
          ends = refl;
          heard = refl;
          begun = c.note.ensures.begun;
          noted = rw (turn.takes.address, wrong) at c.note.ensures.table;
        }),
      ),
    ))
