use Rattle.std.proofs.Common.{ℕ, ap, sym, refl, ◌∙◌}
use Rattle.slab.specs.Slab.{get}
use Rattle.http_server.specs.Connection.{config_of, history}
use Rattle.web_loop.proofs.Limits.{KeepsLimits-admits, KeepsLimits-none}
use Rattle.web_loop.proofs.clients.Clients.admit.Goals as goal

pub returns-clause-admitted : goal.returns-clause-admitted
returns-clause-admitted g c =
    let kept = λ (key : ℕ). ap (λ slab. get slab key) c.reserve.ensures.rest_kept in
    record {
      made = c.make_room.new.self;
      room = c.make_room.ensures;
      key = c.insert_reserved.result;
      client = c.new.result;
      vacant = sym (kept c.insert_reserved.result) ∙ c.insert_reserved.ensures.was_vacant;
      comes = record { changed = c.insert_reserved.ensures.updates.changed; others = λ other differs. c.insert_reserved.ensures.updates.others other differs ∙ kept other };
      reads = c.new.ensures.handles.0;
      limits = ap config_of c.new.ensures.connection ∙ c.new-connection.ensures.config ∙ ap (λ clients. clients.config) c.make_room.ensures.closes.rest;
      anew = ap history c.new.ensures.connection ∙ c.new-connection.ensures.history;
      comes_from = c.new.ensures.address;
      heard = c.new.ensures.heard;
      unheld = c.new.ensures.held;
      rest = refl;
    }

pub returns-clause-limits : goal.returns-clause-limits
returns-clause-limits g c =
    KeepsLimits-admits c.args.stream c.args.address c.args.now _ _ (ap (λ clients. clients.config) c.make_room.ensures.closes.rest) (returns-clause-admitted g c)

pub returns-in_err-reserve-clause-limits : goal.returns-in_err-reserve-clause-limits
returns-in_err-reserve-clause-limits g c =
    KeepsLimits-none c.args.address c.args.self.now c.make_room.new.self _ c.make_room.ensures refl (λ key. ap (λ slab. get slab key) c.reserve.ensures.rest_kept)
