use Rattle.std.proofs.Common.{◌≡◌, sym, ap, ◌∙◌, subst}
use Rattle.bridge_cards.specs.Seat.{clockwise_from}
use Rattle.bridge_cards.specs.Trick.{winning_index}
use Rattle.bridge_endings.specs.TrickValue.{TrickValue, IsKeptWinner}
use Rattle.bridge_endings.proofs.Winning.{winning_is}
use Rattle.bridge_endings.proofs.trick.Trick.winner.Goals as goal

pub returns : goal.returns
returns c =
    let trick = c.args.self.now in
    let kept : IsKeptWinner trick.trump trick.cards c.self.inside.winning.card c.self.inside.winning.index c.self.inside.winning.higher =
    subst (λ (t : TrickValue). IsKeptWinner t.trump t.cards c.self.inside.winning.card c.self.inside.winning.index c.self.inside.winning.higher) c.self.view_is c.self.invariant.2 in
    let place_is : c.from.result ≡ winning_index trick.trump trick.cards = c.from.ensures ∙ sym (winning_is trick.trump trick.cards c.self.inside.winning.index (kept.winning c.requires)) in
    c.clockwise.ensures ∙ ap (clockwise_from c.self.inside.leader) place_is ∙ ap (λ (t : TrickValue). clockwise_from t.leader (winning_index trick.trump trick.cards)) c.self.view_is
