use Rattle.std.proofs.Common.{arith}
use Rattle.std.proofs.lemmas.Grind.{common_steps}
use Rattle.std.proofs.Math.Facts.{Fits-lt-pow}
use Rattle.session_bytes.proofs.ActionLaws.{read_written, read_other}
use Rattle.session_bytes.proofs.action_read.read_action.Goals as goal

-- src/action_read.rt:14:1
pub returns-clause-value : goal.returns-clause-value
returns-clause-value c = grind (arith, common_steps)

-- src/action_read.rt:14:1
pub returns-clause-written : goal.returns-clause-written
returns-clause-written c = read_written c.args.format c.args.bytes.now c.read_behind_key.result (λ i. Fits-lt-pow (c.type_inv.bytes i)) (returns-clause-value c)

-- src/action_read.rt:14:1
pub returns-clause-other : goal.returns-clause-other
returns-clause-other c = read_other c.args.format c.args.bytes.now c.read_behind_key.result (returns-clause-value c)
