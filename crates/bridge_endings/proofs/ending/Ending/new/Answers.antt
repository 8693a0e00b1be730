use Rattle.std.proofs.Common.{ℕ, List, ◌≡◌, length, get_or, ap, arith}
use Rattle.std.proofs.lemmas.Grind.{common_steps}
use Rattle.std.proofs.lemmas.List.{get_or_default}
use Rattle.bridge_cards.specs.CardSet.{card_count}
use Rattle.bridge_cards.specs.Deal.{NoneTwice, SomeTwice}
use Rattle.bridge_endings.specs.Ending.{tricks_in}
use Rattle.bridge_endings.proofs.ending.Ending.new.Goals as goal

not_both : (hands : List ℕ) → NoneTwice hands → SomeTwice hands → ⊥
not_both hands once twice = omega (arith, once twice.0, twice.1)

-- the first hand, whatever stands in for one that is not there
first_count : (hands : List ℕ) (other : ℕ) → length hands ≡ 4 → card_count (get_or hands 0 other) ≡ tricks_in hands
first_count hands other four = ap card_count (get_or_default hands 0 other 0 (omega (arith, four)))

pub returns-clause-overlap : goal.returns-clause-overlap
returns-clause-overlap c = (λ other. cc, λ wanted. absurd (not_both c.args.hands c.if-not-are_disjoint.ensures.cases wanted.2))

pub invariant_of-result : goal.invariant_of-result
invariant_of-result c =
    let four : length c.args.hands ≡ 4 = c.well_formed.0.1.0.1 in
    let first = first_count c.args.hands c.index-hands-0.result four in
    record {
      four = four;
      sets = grind (arith, common_steps);
      equal = c.if-not-are_equal.ensures;
      short = omega (arith, first, c.len.ensures.count, c.from.ensures, c.if-len-from.false);
      once = c.if-not-are_disjoint.ensures.cases;
    }

pub returns-clause-valid : goal.returns-clause-valid
returns-clause-valid c = invariant_of-result c
