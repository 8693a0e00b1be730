use Rattle.page_layout.proofs.Walk.{then_written, failed_before}
use Rattle.evening_plan.specs.PairText.{pair_plan, rounds_text}
use Rattle.evening_plan.proofs.Written.{then_failed}
use Rattle.evening_plan.proofs.pair.write_pair.Goals as goal

pub returns-in_err-write_words : goal.returns-in_err-write_words
unfolding pair_plan
returns-in_err-write_words g c = failed_before _ _ _ _ _ c.from_residual.ensures.0 c.in_err-write_words.ensures

pub returns-in_err-write_titles : goal.returns-in_err-write_titles
unfolding pair_plan
returns-in_err-write_titles g c =
    then_failed _ _ _ _ _ _ _ c.from_residual-in_err-write_titles.ensures.0 c.in_ok-write_words.ensures c.in_err-write_titles.ensures

pub returns : goal.returns
unfolding pair_plan rounds_text
returns g c =
    then_written _ _ _ _ _ _ c.in_ok-write_words.ensures (then_written _ _ _ _ _ _ c.in_ok-write_titles.ensures c.write_rounds.ensures)
