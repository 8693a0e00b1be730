-- What limits connections have behind each change.
use Rattle.std.proofs.Common.{◌≡◌, sym, ap, ◌∙◌, inl, inr, arith}
use Rattle.std.proofs.lemmas.Bool.{cases_eq}
use Rattle.std.specs.declared.net.ip_addr.IpAddr.{IpAddr}
use Rattle.std.specs.declared.time.Instant.{Instant}
use Rattle.slab.specs.Slab.{SameValues}
use Rattle.web_loop.specs.declared.clients.Clients.{Clients}
use Rattle.web_loop.specs.Connected.{KeepsLimits}
use Rattle.web_loop.specs.Room.{Admits, MakesRoom}

pub KeepsLimits-then : {T : Type 0} (a b c : Clients T) → KeepsLimits a b → KeepsLimits b c → KeepsLimits a c
KeepsLimits-then a b c x y = record { config = y.config ∙ x.config; each = λ limited. y.each (x.each limited) }

-- a client that came has the limits, as those that are left have them
pub KeepsLimits-admits : {T : Type 0} (stream : T) (address : IpAddr) (now : Instant) (old new : Clients T) → new.config ≡ old.config → Admits stream address now old new → KeepsLimits old new
KeepsLimits-admits stream address now old new same admits = record {
  config = same;
  each = λ limited other client found.
      elim (cases_eq other admits.key) [
        | inl at ↦ grind (arith, at, found, admits.comes.changed, admits.limits, same)
        | inr differs ↦
            let there = sym (admits.comes.others other differs) ∙ found in
            elim (admits.room.closes.others other) [
              | inl none ↦ grind (arith, none, there)
              | inr kept ↦ limited other client (sym kept ∙ there) ∙ sym same
            ]
      ];
}

-- and those that are left where nobody came
pub KeepsLimits-none : {T : Type 0} (address : IpAddr) (old made new : Clients T) → MakesRoom address old made → new.config ≡ made.config → SameValues made.connected new.connected → KeepsLimits old new
KeepsLimits-none {T} address old made new room same values = record {
  config = same ∙ ap (λ (clients : Clients T). clients.config) room.closes.rest;
  each = λ limited key client found.
      elim (room.closes.others key) [
        | inl none ↦ grind (arith, none, found, values key)
        | inr kept ↦ limited key client (sym kept ∙ sym (values key) ∙ found) ∙ sym (same ∙ ap (λ (clients : Clients T). clients.config) room.closes.rest)
      ];
}
