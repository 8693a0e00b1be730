use Rattle.std.proofs.Common.{◌≡◌, ◌+◌, ◌-◌, suc, Some, subst, arith}
use Rattle.web_loop.specs.Room.{Drops}
use Rattle.web_loop.proofs.Rooms.{OnlyCloses-then}
use Rattle.web_loop.proofs.clients.Clients.keep_at_most.Goals as goal

pub loop-preserved : goal.loop-preserved
loop-preserved g c =
    let before = c.loop.invariant in
    let drops = c.drop_longest_silent.ensures in
    let one_more : suc (c.loop.counter - c.args.most) ≡ c.loop.counter + 1 - c.args.most = omega (arith, before.2) in (
      subst (λ count. Drops (Some c.args.address) count c.args.self.now c.drop_longest_silent.new.self) one_more (c.loop.self, before.0, drops.drops),
      OnlyCloses-then _ _ _ before.1 drops.closes,
      omega (arith, before.2),
      omega (arith, before.2, before.3, c.loop-test.true),
    )
