use Rattle.std.proofs.Common.{rules, ◌∙◌}
use Rattle.std.specs.List.{range_with_len}
use Rattle.std.proofs.lemmas.List.{map-id}
use Rattle.std.proofs.lemmas.List.FromFn.{fill_by_all}
use Rattle.bridge_cards.specs.CardSet.{deck}
use Rattle.bridge_cards.proofs.shuffle.ordered_deck.Goals as goal

pub returns : goal.returns
unfolding deck
returns c =
    let made = c.from_fn.ensures.items in
    fill_by_all (λ k. k) c.from_fn.result 52 0 made.long (λ k inside. let called = made.at k 0 inside in search rules)
    ∙ map-id (range_with_len 0 52)
