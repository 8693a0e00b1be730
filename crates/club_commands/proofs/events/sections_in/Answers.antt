use Rattle.std.proofs.Common.{◌+◌, ◌∷◌, [], inl, arith, length-append}
use Rattle.std.proofs.lemmas.List.Elements.{All-push}
use Rattle.std.proofs.lemmas.Result.{err_from_is_err_and}
use Rattle.club_commands.specs.Works.{IsRead}
use Rattle.club_commands.proofs.events.sections_in.Goals as goal

pub returns-in_err-session-clause-fault : goal.returns-in_err-session-clause-fault
returns-in_err-session-clause-fault g c =
    let p = err_from_is_err_and c.from_residual.result c.from_residual.ensures.1 in
    rw (p.1, p.2) (inl (c.loop-index.index + 1, omega arith, omega (arith, c.loop-index-test.true, c.requires), c.in_err-session.ensures.fault))

pub loop-index-preserved : goal.loop-index-preserved
loop-index-preserved g c =
    let before = c.loop-index.invariant in
    let items = c.loop-index.sections.items in
    rw c.in_ok-push_section.ensures.pushed (
      omega (arith, before.0, length-append items (c.in_ok-session.session ∷ [])),
      All-push IsRead items c.in_ok-session.session before.1 c.in_ok-session.ensures.read,
    )
