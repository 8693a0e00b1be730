use Rattle.std.proofs.Common.{◌≡◌, ◌∙◌, subst}
use Rattle.std.specs.Prelude.{All}
use Rattle.std.proofs.lemmas.Result.{IfOk-weaker}
use Rattle.bridge_results.specs.Plays.{plays_of, HasTricksWithin}
use Rattle.event_results.proofs.plays.plays_of.Goals as goal

pub returns-clause-plays : goal.returns-clause-plays
returns-clause-plays c =
    IfOk-weaker c.from_slice.result (λ v. v.items ≡ c.as_slice.result.now) (λ v. v.items ≡ plays_of c.args.session.now)
    (λ v is. is ∙ c.as_slice.ensures.value ∙ c.plays_of.ensures.plays) c.from_slice.ensures.items

pub returns-clause-tricks : goal.returns-clause-tricks
returns-clause-tricks c = subst (All HasTricksWithin) c.plays_of.ensures.plays c.plays_of.ensures.tricks
