use Rattle.std.proofs.Common.{subst, sym, ◌∙◌}
use Rattle.bridge_play.specs.CardPlay.{CardPlayValue}
use Rattle.bridge_play.specs.Play.{IsPlay, with_claims}
use Rattle.bridge_play.proofs.KeptPlay.{back_keeps}
use Rattle.bridge_play.proofs.play.Play.take_back.Goals as goal

pub invariant_of-self-2 : goal.invariant_of-self-2
invariant_of-self-2 c =
    subst (λ (p : CardPlayValue). IsPlay (with_claims p c.self.inside.claims c.self.inside.claim)) (sym c.take_back.ensures.rest)
    (back_keeps c.self.inside.card_play c.self.inside.claims c.self.inside.claim (sym c.is_some.ensures ∙ c.if-is_some.false) c.self.invariant)
