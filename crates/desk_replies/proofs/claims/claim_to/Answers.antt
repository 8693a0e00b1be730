use Rattle.std.proofs.Common.{sym, ap, ◌∙◌, Ok}
use Rattle.desk_replies.proofs.ClaimViews.{none_seen, is_seen}
use Rattle.desk_replies.proofs.claims.claim_to.Goals as goal

pub returns-in-Ok-clause-seen : goal.returns-in-Ok-clause-seen
returns-in-Ok-clause-seen c =
    ap (λ seen. Ok seen) c.seen_of.ensures.seen ∙ sym (is_seen c.args.session.now c.args.key.0 c.in-Ok.view c.in-Ok.ensures)

pub returns-in-Err-clause-seen : goal.returns-in-Err-clause-seen
returns-in-Err-clause-seen c = sym (none_seen c.args.session.now c.args.key.0 c.in-Err.refused c.in-Err.ensures)
