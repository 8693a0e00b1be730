use Rattle.std.proofs.Common.{rules, ◌≡◌, arith, subst}
use Rattle.bridge_cards.specs.CardSet.{has_card}
use Rattle.bridge_endings.specs.Worth.{dealt}
use Rattle.bridge_endings.specs.Agree.{Agree}
use Rattle.bridge_endings.proofs.found.Found.with.Goals as goal

pub returns : goal.returns
returns c =
    let found = c.args.self.now in
    let other = c.args.other.now in
    let counts : found.counts ≡ other.counts = search (rules) in
    record {
      upward = c.requires.found.0.upward;
      lengths = c.requires.found.0.lengths;
      bounded = λ held out same.
          let one = c.requires.found.0.bounded held out same in
          let two = c.is_of.ensures (search (rules)) held out (subst (λ cards. Agree (has_card cards) (dealt found.hands) held) counts same) in
          record { least = omega (arith, one.least, two.least, c.max.ensures); most = omega (arith, one.most, two.most, c.min.ensures) };
    }
