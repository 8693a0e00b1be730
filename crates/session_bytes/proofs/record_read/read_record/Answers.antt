use Rattle.std.proofs.Common.{◌∙◌, ap, sym}
use Rattle.session_bytes.specs.Reading.{fields_in, fields_of, fields_at}
use Rattle.session_bytes.proofs.Options.{some_is, not_some}
use Rattle.session_bytes.proofs.ReadRecords.{valid_fields, if_none_then}
use Rattle.session_bytes.proofs.record_read.read_record.Goals as goal

pub returns-clause-none : goal.returns-clause-none
returns-clause-none c =
    if_none_then _ _ c.record_of.result c.record_of.ensures.none (λ none plain board_is valid in_range has is.
    none plain board_is valid in_range
    (some_is (fields_of plain) (fields_in c.in-Some.fields)
    (sym (valid_fields c.args.format c.args.scoring c.args.deals.now c.args.now c.args.round plain valid in_range has) ∙ ap (fields_at c.args.format) is ∙ sym c.in-Some.ensures.value)))

pub returns-in_default-clause-none : goal.returns-in_default-clause-none
returns-in_default-clause-none c = λ plain board_is valid in_range has is.
    not_some (fields_of plain) (c.in_default.ensures.value ∙ ap (fields_at c.args.format) (sym is) ∙ valid_fields c.args.format c.args.scoring c.args.deals.now c.args.now c.args.round plain valid in_range has)
