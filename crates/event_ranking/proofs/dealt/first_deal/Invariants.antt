use Rattle.std.proofs.Common.{◌≡◌, drop}
use Rattle.event_ranking.specs.Dealt.{first_deal}
use Rattle.event_ranking.proofs.dealt.first_deal.Given as goal

abbrev pub invariant-loop-session : goal.invariant-loop-session
invariant-loop-session l = first_deal l.sections l.board ≡ first_deal (drop l.session-index l.sections) l.board
