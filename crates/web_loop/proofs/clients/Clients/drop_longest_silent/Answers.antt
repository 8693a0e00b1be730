use Rattle.std.proofs.Common.{subst, inl}
use Rattle.web_loop.specs.Room.{FindsLongest}
use Rattle.web_loop.proofs.clients.Clients.drop_longest_silent.Goals as goal

pub returns-in-Some-clause-drops : goal.returns-in-Some-clause-drops
returns-in-Some-clause-drops g c =
    let found = subst (λ found. FindsLongest c.args.from c.args.self.now.connected c.args.self.now.connected.capacity found) c.in-Some.is c.longest_silent.ensures in
    inl (c.in-Some.key, c.in-Some.field-0-1, found, c.close.ensures)
