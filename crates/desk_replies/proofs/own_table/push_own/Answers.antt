use Rattle.session_rules.specs.State.{seating_of}
use Rattle.desk_replies.specs.Claims.{claim_to}
use Rattle.desk_replies.specs.Told.{own_call_lines, own_said_lines, own_answer_lines, next_lines}
use Rattle.desk_replies.proofs.Lines.{four_more}
use Rattle.desk_replies.proofs.own_table.push_own.Goals as goal

pub returns-clause-line : goal.returns-clause-line
returns-clause-line c =
    let s = c.args.session.now in
    let desk = c.args.desk.now in
    let key = c.args.key.0 in
    let seen = claim_to s key in
    four_more (own_call_lines s.configuration.pairs desk (seating_of s.configuration s.round key)) (own_said_lines desk seen) (own_answer_lines desk seen) (next_lines s.configuration s.round key)
    _ _ _ _ _ c.push_own_call.ensures.line c.push_own_said.ensures.line c.push_own_answers.ensures.lines c.push_next.ensures.line
