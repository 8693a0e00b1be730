use Rattle.std.proofs.Common.{length, sym, ap, ◌∙◌, arith}
use Rattle.std.proofs.lemmas.List.{length-take-le}
use Rattle.bridge_endings.proofs.trick.Trick.len.Goals as goal

pub returns-clause-length : goal.returns-clause-length
returns-clause-length c =
    c.from.ensures ∙ sym (length-take-le c.self.inside.played c.self.inside.cards (omega arith)) ∙ ap (λ trick. length trick.cards) c.self.view_is
