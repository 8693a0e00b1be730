use Rattle.std.proofs.Common.{◌∙◌, ◌||◌, subst, arith}
use Rattle.slab.specs.Slab.{get}
use Rattle.web_loop.specs.Round.{LeavesAfter}
use Rattle.web_loop.proofs.Limits.{KeepsLimits-then}
use Rattle.web_loop.proofs.Leading.{LeadsTo-then, TurnsBelow-left, TurnsBelow-more}
use Rattle.web_loop.proofs.clients.Clients.take_each_turn.Goals as goal

pub loop-key-preserved : goal.loop-key-preserved
loop-key-preserved g c =
    let answers = g.S.Service.answers in
    let stays = g.S.LastingService.stays in
    let wish = g.S.LastingService.wish in
    let waits = g.S.LastingService.waits in
    let offences = g.S.LastingService.offences in
    let remaining = g.T.Read.remaining in
    let contents = g.T.Write.contents in
    let clients = get c.args.self.now.connected in
    let here = get c.loop-key.self.connected in
    let left = get c.take_turn_at.new.self.connected in
    let key = c.loop-key.key in
    let before = c.loop-key.invariant in
    let turn = c.take_turn_at.ensures in (
      LeadsTo-then answers _ _ _ before.0 turn.leads,
      TurnsBelow-more answers stays wish waits offences remaining contents c.args.now c.args.looks clients left key c.args.service.now c.loop-key.service c.take_turn_at.new.service
          c.args.self.now.offenders c.loop-key.self.offenders c.take_turn_at.new.self.offenders c.loop-key.moved c.has_moved-moved.result c.take_turn_at.result
          (TurnsBelow-left answers stays wish waits offences remaining contents c.args.now c.args.looks clients here left key c.args.service.now c.loop-key.service
          c.args.self.now.offenders c.loop-key.self.offenders c.loop-key.moved (λ other below. turn.others other (λ same. omega (arith, same, below))) before.1)
          (subst (λ found. LeavesAfter answers stays wish waits offences remaining contents c.args.now (c.args.looks || c.loop-key.moved) c.take_turn_at.result found (left key)
          c.loop-key.service c.take_turn_at.new.service c.loop-key.self.offenders c.take_turn_at.new.self.offenders) (before.2 key (omega arith)) turn.turn)
          c.has_moved-moved.ensures,
      λ other later. turn.others other (λ same. omega (arith, same, later)) ∙ before.2 other (omega (arith, later)),
      KeepsLimits-then _ _ _ before.3 turn.limits,
      turn.looked ∙ before.4,
    )
