use Rattle.std.proofs.Common.{◌≡◌, ◌%◌, ℕ, arith}
use Rattle.session_store.specs.Form.{place}
use Rattle.session_store.proofs.snapshot.place_of.Goals as goal

place-odd : (epoch : ℕ) → epoch % 2 ≡ 1 → 0 ≡ place epoch
unfolding place
place-odd epoch odd = omega (arith, odd)

place-even : (epoch : ℕ) → (epoch % 2 ≡ 1 → ⊥) → 512 ≡ place epoch
unfolding place
place-even epoch even = omega (arith, even)

pub returns-then-epoch-eq1-clause-place : goal.returns-then-epoch-eq1-clause-place
returns-then-epoch-eq1-clause-place c = place-odd c.args.epoch c.if-epoch-eq1.true

pub returns-else-epoch-eq1-clause-place : goal.returns-else-epoch-eq1-clause-place
returns-else-epoch-eq1-clause-place c = place-even c.args.epoch c.if-epoch-eq1.false
