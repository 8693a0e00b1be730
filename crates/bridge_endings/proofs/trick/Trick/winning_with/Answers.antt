use Rattle.std.proofs.Common.{◌≡◌, length, sym, ap, ◌∙◌, subst, arith}
use Rattle.std.proofs.lemmas.List.{length-take-le}
use Rattle.bridge_endings.specs.TrickValue.{TrickValue, IsKeptWinner}
use Rattle.bridge_endings.proofs.Winning.{keeps_first, keeps_new, keeps_old}
use Rattle.bridge_endings.proofs.trick.Trick.winning_with.Goals as goal

pub returns-then-self-eq0 : goal.returns-then-self-eq0
returns-then-self-eq0 c =
    let trick = c.args.self.now in
    let here : c.self.inside.played ≡ length trick.cards = sym (length-take-le c.self.inside.played c.self.inside.cards (omega arith)) ∙ ap (λ (t : TrickValue). length t.cards) c.self.view_is in
    rw c.winning_by.ensures.card (
    keeps_first trick.trump trick.cards c.args.card c.winning_by.result.higher c.winning_by.result.index (omega (arith, here)) (omega (arith, here, c.winning_by.ensures.index)) c.winning_by.ensures.higher)

pub returns-then-has : goal.returns-then-has
returns-then-has c =
    let trick = c.args.self.now in
    let winner = c.self.inside.winning in
    let kept : IsKeptWinner trick.trump trick.cards winner.card winner.index winner.higher = subst (λ (t : TrickValue). IsKeptWinner t.trump t.cards winner.card winner.index winner.higher) c.self.view_is c.self.invariant.2 in
    let here : c.self.inside.played ≡ length trick.cards = sym (length-take-le c.self.inside.played c.self.inside.cards (omega arith)) ∙ ap (λ (t : TrickValue). length t.cards) c.self.view_is in
    rw c.winning_by-then-has.ensures.card (
    keeps_new trick.trump trick.cards c.args.card winner.card winner.index winner.higher (omega (arith, here)) (omega arith) kept c.winning_by-then-has.result.index c.winning_by-then-has.result.higher c.winning_by-then-has.ensures.index
    (sym c.has.ensures ∙ c.if-has.true) c.winning_by-then-has.ensures.higher)

pub returns-else-has : goal.returns-else-has
returns-else-has c =
    let trick = c.args.self.now in
    let winner = c.self.inside.winning in
    let kept : IsKeptWinner trick.trump trick.cards winner.card winner.index winner.higher = subst (λ (t : TrickValue). IsKeptWinner t.trump t.cards winner.card winner.index winner.higher) c.self.view_is c.self.invariant.2 in
    let here : c.self.inside.played ≡ length trick.cards = sym (length-take-le c.self.inside.played c.self.inside.cards (omega arith)) ∙ ap (λ (t : TrickValue). length t.cards) c.self.view_is in
    keeps_old trick.trump trick.cards c.args.card winner.card winner.index winner.higher (omega (arith, here)) (omega arith) kept (sym c.has.ensures ∙ c.if-has.false)
