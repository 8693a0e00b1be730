use Rattle.std.proofs.Common.{◌∙◌, refl, sym, subst, arith}
use Rattle.std.proofs.lemmas.Bool.{true≢false}
use Rattle.std.proofs.lemmas.Bool.Decides.{nat_tests}
use Rattle.http_server.specs.Connection.{config_of, history}
use Rattle.http_server.specs.History.{Rests}
use Rattle.web_loop.proofs.TurnLemmas.{closes, holds, reads_once, writes_once}
use Rattle.web_loop.proofs.turn.take_step.Goals as goal

pub returns-then-is_done-clause-ends : goal.returns-then-is_done-clause-ends
returns-then-is_done-clause-ends g c =
    let config = c.advance.ensures.config in
    closes g.S.Service.answers g.S.LastingService.waits (config_of c.args.connection.now) _ c.args.service.now c.advance.new.service (history c.args.connection.now) c.advance.new.self _
    config c.advance.ensures.quiet (subst (λ limits. Rests limits (history c.advance.new.self)) config c.advance.ensures.rests) c.advance.ensures.calls refl
    refl refl (c.is_done.ensures.0 c.if-is_done.true)

pub returns-then-waits-before-clause-ends : goal.returns-then-waits-before-clause-ends
returns-then-waits-before-clause-ends g c =
    let config = c.advance.ensures.config in
    holds g.S.Service.answers g.S.LastingService.waits (config_of c.args.connection.now) _ c.args.service.now c.advance.new.service (history c.args.connection.now) c.advance.new.self _
    config c.advance.ensures.quiet (subst (λ limits. Rests limits (history c.advance.new.self)) config c.advance.ensures.rests) c.advance.ensures.calls refl
    (λ done. absurd (true≢false (sym (c.is_done.ensures.1 done) ∙ c.if-is_done.false)))
    refl refl (λ same. grind (arith, nat_tests, c.waits.ensures, c.waits-before.ensures, c.if-waits-before.true, same))

pub returns-then-wants_write-clause-ends : goal.returns-then-wants_write-clause-ends
returns-then-wants_write-clause-ends g c =
    let config = c.advance.ensures.config in
    writes_once g.S.Service.answers g.S.LastingService.waits (config_of c.args.connection.now) c.write_once.result c.args.service.now c.advance.new.service (history c.args.connection.now)
    c.advance.new.self (history c.write_once.new.connection)
    config c.advance.ensures.quiet (subst (λ limits. Rests limits (history c.advance.new.self)) config c.advance.ensures.rests) c.advance.ensures.calls c.write_once.ensures.calls
    (λ done. absurd (true≢false (sym (c.is_done.ensures.1 done) ∙ c.if-is_done.false)))
    (grind (arith, nat_tests, c.waits.ensures, c.waits-before.ensures, c.if-waits-before.false))
    c.write_once.ensures.unheld c.write_once.ensures.still c.write_once.ensures.received c.write_once.ensures.moved c.write_once.ensures.ended

pub returns-else-wants_write-clause-ends : goal.returns-else-wants_write-clause-ends
returns-else-wants_write-clause-ends g c =
    let config = c.advance.ensures.config in
    reads_once g.S.Service.answers g.S.LastingService.waits (config_of c.args.connection.now) c.read_once.result c.args.service.now c.advance.new.service (history c.args.connection.now)
    c.advance.new.self (history c.read_once.new.connection)
    config c.advance.ensures.quiet (subst (λ limits. Rests limits (history c.advance.new.self)) config c.advance.ensures.rests) c.advance.ensures.calls c.read_once.ensures.calls
    (λ done. absurd (true≢false (sym (c.is_done.ensures.1 done) ∙ c.if-is_done.false)))
    (grind (arith, nat_tests, c.waits.ensures, c.waits-before.ensures, c.if-waits-before.false))
    c.read_once.ensures.unheld c.read_once.ensures.still
    c.read_once.ensures.pending (λ some. absurd (true≢false (sym (c.wants_write.ensures.1 some) ∙ c.if-wants_write.false))) c.read_once.ensures.moved c.read_once.ensures.ended
