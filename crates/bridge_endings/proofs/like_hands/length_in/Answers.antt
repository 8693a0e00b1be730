use Rattle.std.proofs.Common.{◌∙◌, sym, arith}
use Rattle.bridge_endings.proofs.Finding.{suit_length_is}
use Rattle.bridge_endings.proofs.Lengths.{few_of_suit}
use Rattle.bridge_endings.proofs.like_hands.length_in.Goals as goal

pub returns-clause-length : goal.returns-clause-length
returns-clause-length c = c.len.ensures.count ∙ sym (suit_length_is c.args.hand c.of_suit.result c.args.suit c.of_suit.ensures)

pub returns-clause-few : goal.returns-clause-few
returns-clause-few c =
    omega (arith, c.len.ensures.count, suit_length_is c.args.hand c.of_suit.result c.args.suit c.of_suit.ensures, few_of_suit c.args.hand c.args.suit)
