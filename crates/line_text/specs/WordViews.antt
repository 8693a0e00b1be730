-- What contracts see of the words of a line.
use Rattle.line_text.specs.declared.words.Five.{Five as FiveWords}
use Rattle.line_text.specs.Words.{Five}

-- the words that five references give
abbrev pub view_of_five : FiveWords → Five
view_of_five words = record {
  first = words.first.now;
  second = words.second.now;
  third = words.third.now;
  fourth = words.fourth.now;
  fifth = words.fifth.now;
}
