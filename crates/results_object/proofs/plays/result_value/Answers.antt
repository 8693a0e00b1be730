use Rattle.std.proofs.Common.{◌∙◌}
use Rattle.results_object.proofs.plays.result_value.Goals as goal

pub returns : goal.returns
returns c =
    let with_contract = c.with.ensures _ _ c.new.ensures (rw (c.as_str.ensures.value ∙ c.contract_cell.ensures.text) at c.text_value-contract.ensures) in
    let with_declarer = c.with-2.ensures _ _ with_contract (rw c.declarer_cell.ensures.text at c.text_value.ensures) in
    let with_lead = c.with-3.ensures _ _ with_declarer (rw (c.as_str-2.ensures.value ∙ c.lead_cell.ensures.text) at c.text_value-lead.ensures) in
    let with_tricks = c.with-4.ensures _ _ with_lead c.tricks_value.ensures in
    c.build.ensures _ with_tricks
