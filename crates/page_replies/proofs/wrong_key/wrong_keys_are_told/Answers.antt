use Rattle.page_replies.proofs.WrongKeys.{place_told, tables_told, results_told}
use Rattle.page_replies.proofs.wrong_key.wrong_keys_are_told.Goals as goal

pub returns-clause-place : goal.returns-clause-place
returns-clause-place c = place_told

pub returns-clause-tables : goal.returns-clause-tables
returns-clause-tables c = tables_told

pub returns-clause-results : goal.returns-clause-results
returns-clause-results c = results_told
