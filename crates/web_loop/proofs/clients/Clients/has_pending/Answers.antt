use Rattle.std.proofs.Common.{◌≡◌, true, false, inl, inr, sym, subst, ◌∙◌, arith}
use Rattle.std.proofs.lemmas.Bool.{cases_eq}
use Rattle.slab.specs.Slab.{get}
use Rattle.web_loop.specs.Connected.{IsPendingAt}
use Rattle.web_loop.proofs.clients.Clients.has_pending.Goals as goal

pub loop-key-preserved : goal.loop-key-preserved
loop-key-preserved g c = λ key below pending.
    elim (cases_eq key c.loop-key.key) [
      | inl at ↦
          let found : true ≡ false =
          sym (c.is_pending_at.ensures.1 (subst (λ k. IsPendingAt (get c.args.self.now.connected k)) at pending)) ∙ c.if-is_pending_at.false in cc
      | inr other ↦ c.loop-key.invariant key (omega (arith, below, other)) pending
    ]

pub returns-then-is_pending_at-clause-some : goal.returns-then-is_pending_at-clause-some
returns-then-is_pending_at-clause-some g c = λ _. (c.loop-key.key, c.is_pending_at.ensures.0 c.if-is_pending_at.true)

pub returns-clause-none : goal.returns-clause-none
returns-clause-none g c = λ _ key below. c.loop-key.invariant key (omega (arith, below, c.loop-key-test.false))
