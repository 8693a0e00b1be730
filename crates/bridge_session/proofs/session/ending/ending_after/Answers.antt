use Rattle.std.proofs.Common.{◌≡◌, ap, ◌∙◌, subst}
use Rattle.std.specs.Prelude.{IfOk}
use Rattle.bridge_play.specs.Trick.{trump_of}
use Rattle.bridge_session.proofs.LeftEndings.{is_an_ending, ending_seen}
use Rattle.bridge_session.proofs.session.ending.ending_after.Goals as goal

pub unwrap-requires : goal.unwrap-requires
unwrap-requires c =
    is_an_ending c.hands_after.result c.args.tricks c.new.result c.hands_after.ensures.four c.requires.few_left c.hands_after.ensures.equal c.hands_after.ensures.once
    c.new.ensures.unequal.0 (λ long. (c.new.ensures.too_long.0 long).1) (λ both. (c.new.ensures.overlap.0 both).2)

pub returns-clause-left : goal.returns-clause-left
returns-clause-left c =
    ending_seen c.args.play.now c.args.tricks c.hands_after.result c.suit-trump.result c.leader.result c.unwrap.result
    c.hands_after.ensures.four c.hands_after.ensures.cards (c.suit-trump.ensures ∙ ap trump_of c.contract.ensures) c.leader.ensures
    (subst (λ r. IfOk r (λ ending. ending ≡ record { hands = c.hands_after.result; trump = c.suit-trump.result; leader = c.leader.result })) c.unwrap.ensures c.new.ensures.ending)
