use Rattle.std.proofs.Common.{◌≡◌, ◌*◌, ◌≤◌, length}
use Rattle.bridge_results.proofs.SuitLetters.{letters_to}
use Rattle.bridge_results.proofs.pages.diagram.suit_letters.Given as goal

abbrev pub invariant-loop-index : goal.invariant-loop-index
invariant-loop-index l = record {
  text : l.text.bytes ≡ letters_to l.format l.hand l.suit l.index;
  room : length l.text.bytes ≤ 2 * l.index;
}
