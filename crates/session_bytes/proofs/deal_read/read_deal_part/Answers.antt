use Rattle.std.proofs.Common.{◌≡◌}
use Rattle.std.proofs.Math.Facts.{Fits-lt-pow}
use Rattle.session_bytes.specs.Parts.{deal_part}
use Rattle.session_rules.specs.StateRange.{AreHandsOrNone}
use Rattle.session_rules.specs.Valid.{IsDealOrNone}
use Rattle.session_bytes.proofs.DealLaws.{IsDealOf, deal_written, deal_other}
use Rattle.session_bytes.proofs.ReadRecords.{if_some_then}
use Rattle.session_bytes.proofs.deal_read.read_deal_part.Goals as goal

pub returns-clause-written : goal.returns-clause-written
returns-clause-written c =
    if_some_then (IsDealOf c.args.part.now) (λ deal. deal_part deal ≡ c.args.part.now) c.deal_at.result
    (deal_written c.args.part.now c.deal_at.result (λ i. Fits-lt-pow (c.type_inv.part i)) c.deal_at.ensures) (λ deal is. is.written)

pub returns-clause-deal : goal.returns-clause-deal
returns-clause-deal c =
    if_some_then (IsDealOf c.args.part.now) IsDealOrNone c.deal_at.result
    (deal_written c.args.part.now c.deal_at.result (λ i. Fits-lt-pow (c.type_inv.part i)) c.deal_at.ensures) (λ deal is. is.dealt)

pub returns-clause-hands : goal.returns-clause-hands
returns-clause-hands c =
    if_some_then (IsDealOf c.args.part.now) AreHandsOrNone c.deal_at.result
    (deal_written c.args.part.now c.deal_at.result (λ i. Fits-lt-pow (c.type_inv.part i)) c.deal_at.ensures) (λ deal is. is.hands)

pub returns-clause-other : goal.returns-clause-other
returns-clause-other c = deal_other c.args.part.now c.deal_at.result c.deal_at.ensures
