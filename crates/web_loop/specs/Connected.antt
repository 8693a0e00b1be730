-- Who is connected, and with what limits.
use Rattle.std.specs.Prelude.{◌≡◌, ◌⊎◌, ◌<◌, ℕ, length, Option, None, Some, IsNone}
use Rattle.slab.specs.Slab.{Slab, Updates, get}
use Rattle.http_server.specs.declared.state.Config.{Config}
use Rattle.http_server.specs.Connection.{config_of, history}
use Rattle.web_loop.specs.declared.client.Client.{Client}
use Rattle.web_loop.specs.declared.clients.Clients.{Clients}

-- each connection has these limits
abbrev pub AreLimited : {T : Type 0} → Config → Slab (Client T) → Type 0
AreLimited {T} config connected = (key : ℕ) (client : Client T) → get connected key ≡ Some client → config_of client.connection ≡ config

-- The limits stay those, and each connection still has them.
pub record KeepsLimits {T : Type 0} (old new : Clients T) : Type 0 where
  pub config : new.config ≡ old.config
  pub each : AreLimited old.config old.connected → AreLimited new.config new.connected

-- an answer to the client under a key is to be sent and not sent yet
abbrev pub IsPendingAt : {T : Type 0} → Option (Client T) → Type 0
IsPendingAt None = ⊥
IsPendingAt (Some client) = IsNone client.held × (0 < length (history client.connection).pending)

-- the client that stood under a key, with no answer put off
abbrev pub released : {T : Type 0} → Option (Client T) → Option (Client T)
released None = None
released (Some client) = Some (record client { held = None })

-- The client under a key is gone, if there was one, and nothing else changed.
pub record Closes {T : Type 0} (key : ℕ) (old new : Clients T) : Type 0 where
  pub removes : Updates old.connected new.connected key None
  pub rest : new ≡ record old { connected = new.connected }

-- Some clients are gone, and nothing else changed.
pub record OnlyCloses {T : Type 0} (old new : Clients T) : Type 0 where
  pub others : (key : ℕ) → (get new.connected key ≡ None) ⊎ (get new.connected key ≡ get old.connected key)
  pub rest : new ≡ record old { connected = new.connected }
