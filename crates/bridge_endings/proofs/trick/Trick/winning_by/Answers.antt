use Rattle.std.proofs.Common.{length, sym, ap, ◌∙◌, arith}
use Rattle.std.proofs.lemmas.List.{length-take-le}
use Rattle.bridge_endings.specs.TrickValue.{TrickValue}
use Rattle.bridge_endings.proofs.trick.Trick.winning_by.Goals as goal

pub returns-clause-index : goal.returns-clause-index
returns-clause-index c = sym (length-take-le c.self.inside.played c.self.inside.cards (omega arith)) ∙ ap (λ (t : TrickValue). length t.cards) c.self.view_is
