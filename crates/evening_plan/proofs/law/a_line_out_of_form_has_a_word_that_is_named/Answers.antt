use Rattle.evening_plan.proofs.NamedWords.{names_each_fault}
use Rattle.evening_plan.proofs.law.a_line_out_of_form_has_a_word_that_is_named.Goals as goal

pub returns : goal.returns
returns c = names_each_fault
