use Rattle.std.proofs.Common.{Bool, count_by, sym, ap, ◌∙◌}
use Rattle.std.proofs.Math.Path.{fun_ext}
use Rattle.bridge_cards.specs.CardSet.{deck}
use Rattle.bridge_endings.proofs.TrumpsTested.{counted}
use Rattle.bridge_endings.proofs.top_trumps.cards_of.Goals as goal

pub returns : goal.returns
returns c = c.len.ensures.count ∙ sym (counted c.held.result) ∙ ap (λ p. count_by p deck) (fun_ext {B = λ _. Bool} c.held.ensures)
