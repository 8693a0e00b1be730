use Rattle.std.proofs.Common.{ap, sym, ◌∙◌, inl, inr, arith}
use Rattle.std.proofs.lemmas.Bool.{cases_eq}
use Rattle.slab.specs.Slab.{get}
use Rattle.web_loop.specs.declared.clients.Clients.{Clients}
use Rattle.web_loop.specs.declared.turn.Turn.{Turn}
use Rattle.web_loop.specs.Round.{left_by}
use Rattle.web_loop.proofs.clients.Clients.take_turn_at.Goals as goal

pub returns-in-Closes-clause-limits : goal.returns-in-Closes-clause-limits
returns-in-Closes-clause-limits g c =
    let same = ap (λ clients. clients.config) c.close.ensures.rest in
    record {
      config = same;
      each = λ limited other client found.
          elim (cases_eq other c.args.key) [
            | inl at ↦ grind (arith, at, found, c.close.ensures.removes.changed)
            | inr differs ↦
                limited other client (sym (c.close.ensures.removes.others other differs ∙ c.turn_at-turn.ensures.others other differs) ∙ found) ∙ sym same
          ];
    }

pub returns-in-Closes-clause-turn : goal.returns-in-Closes-clause-turn
returns-in-Closes-clause-turn g c =
    let offenders = ap (λ (clients : Clients g.row.T.Denot). clients.offenders) c.close.ensures.rest in
    (get c.turn_at-turn.new.connected c.args.key, rw offenders c.turn_at-turn.ensures.turn, c.close.ensures.removes.changed ∙ sym (ap (λ (turn : Turn). left_by turn (get c.turn_at-turn.new.connected c.args.key)) c.in-Closes.is))
