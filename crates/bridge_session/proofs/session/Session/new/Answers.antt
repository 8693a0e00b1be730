use Rattle.std.specs.Prelude.{nat_le}
use Rattle.std.proofs.lemmas.Bool.{leb-true, and_parts}
use Rattle.bridge_table.proofs.Tables.{lists_in}
use Rattle.bridge_session.proofs.NewSession.{IsNew, new_is_kept, new_is_opening}
use Rattle.bridge_session.proofs.session.Session.new.Goals as goal
use Rattle.bridge_session.proofs.session.Session.new.Goals.{In_ok-room}

is_new : (c : In_ok-room) → IsNew c.args.config c.in_ok-room.room.deals.items (lists_in c.in_ok-room.room.tables.items)
is_new c =
    let limits = c.in_ok-room.ensures.limits in
    let boards = c.args.config.boards in
    record {
      few = leb-true boards 3 (and_parts (nat_le 1 boards) (nat_le boards 3) limits.boards).1;
      rows = limits.movement.complete.count;
      deals = c.in_ok-room.ensures.deals;
      tables = c.in_ok-room.ensures.tables;
    }

pub invariant_of-result : goal.invariant_of-result
invariant_of-result c = new_is_kept c.args.config c.in_ok-room.room.deals.items (lists_in c.in_ok-room.room.tables.items) c.in_ok-room.ensures.limits (is_new c)

pub returns : goal.returns
returns c = record { opening = new_is_opening c.args.config c.in_ok-room.room.deals.items (lists_in c.in_ok-room.room.tables.items) (is_new c) }
