use Rattle.std.proofs.Math.Facts.{Fits-lt-pow}
use Rattle.session_bytes.proofs.FieldLaws.{fields_written, fields_other}
use Rattle.session_bytes.proofs.record_fields.read_fields.Goals as goal

pub returns-clause-written : goal.returns-clause-written
returns-clause-written c = fields_written c.args.format c.args.part.now c.fields_at.result (λ i. Fits-lt-pow (c.type_inv.part i)) c.fields_at.ensures

pub returns-clause-other : goal.returns-clause-other
returns-clause-other c = fields_other c.args.format c.args.part.now c.fields_at.result c.fields_at.ensures
