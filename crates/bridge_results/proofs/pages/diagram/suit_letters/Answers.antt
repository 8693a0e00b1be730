use Rattle.std.proofs.Common.{ap, ◌∙◌, arith}
use Rattle.bridge_results.proofs.SuitLetters.{letters_to, letters_more, letters_all, letters_none}
use Rattle.bridge_results.proofs.pages.diagram.suit_letters.Goals as goal

pub loop-index-preserved : goal.loop-index-preserved
loop-index-preserved c = record {
  text = letters_more c.args.format c.args.hand c.args.suit c.loop-index.index c.loop-index.text.bytes c.push_rank.new.text.bytes c.loop-index.invariant.text c.push_rank.ensures.text;
  room = omega arith;
}

pub returns : goal.returns
returns c =
    c.loop-index.invariant.text ∙ ap (letters_to c.args.format c.args.hand c.args.suit) (omega arith) ∙ letters_all c.args.format c.args.hand c.args.suit

pub loop-index-init : goal.loop-index-init
loop-index-init c = record {
  text = c.new-text.ensures ∙ letters_none c.args.format c.args.hand c.args.suit;
  room = rw c.new-text.ensures (omega arith);
}
