use Rattle.std.proofs.Common.{◌≡◌}
use Rattle.web_loop.specs.Offenders.{with_times}
use Rattle.web_loop.proofs.offender.Offender.add_all.Given as goal

abbrev pub invariant-loop : goal.invariant-loop
invariant-loop l =
    (l.self.times.items ≡ with_times l.counter l.at l.initial.self.times.items)
    × (l.self.until ≡ l.initial.self.until) × (l.self.address ≡ l.initial.self.address)
