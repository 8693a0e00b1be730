-- Room for one more client.
use Rattle.std.specs.Prelude.{⊤, ◌≡◌, ◌≢◌, ◌⊎◌, ◌<◌, ◌≤◌, ℕ, zero, suc, ◌-◌, Bool, true, nat_lt, Option, None, Some}
use Rattle.std.specs.Time.{instant_nanos}
use Rattle.std.specs.declared.net.ip_addr.IpAddr.{IpAddr}
use Rattle.std.specs.declared.time.Instant.{Instant}
use Rattle.slab.specs.Slab.{Slab, Updates, get, slab_len, SameValues}
use Rattle.http_server.specs.Connection.{config_of, history}
use Rattle.http_server.specs.History.{new_history}
use Rattle.web_loop.specs.declared.client.Client.{Client}
use Rattle.web_loop.specs.declared.clients.Clients.{Clients}
use Rattle.web_loop.specs.Connected.{Closes, OnlyCloses}

-- a client stands under a key, from this address where one is named
abbrev pub IsFrom : {T : Type 0} → Option IpAddr → Option (Client T) → Type 0
IsFrom from None = ⊥
IsFrom None (Some client) = ⊤
IsFrom (Some address) (Some client) = client.address ≡ address

-- and it was heard then
abbrev pub IsHeardAt : {T : Type 0} → Option IpAddr → Instant → Option (Client T) → Type 0
IsHeardAt from heard None = ⊥
IsHeardAt from heard (Some client) = IsFrom from (Some client) × (client.heard ≡ heard)

-- one of the first so many keys has the client that has been silent the longest, of those from this address, or of all
pub record IsLongestSilent {T : Type 0} (from : Option IpAddr) (connected : Slab (Client T)) (count key : ℕ) (heard : Instant) : Type 0 where
  pub within : key < count
  pub stands : IsHeardAt from heard (get connected key)
  pub longest : (other : ℕ) (later : Instant) → other < count → IsHeardAt from later (get connected other) → instant_nanos heard ≤ instant_nanos later

-- none of those stands under the first so many keys
abbrev pub HasNone : {T : Type 0} → Option IpAddr → Slab (Client T) → ℕ → Type 0
HasNone from connected count = (key : ℕ) → key < count → ¬ (IsFrom from (get connected key))

-- that client, if there is one
abbrev pub FindsLongest : {T : Type 0} → Option IpAddr → Slab (Client T) → ℕ → Option (ℕ × Instant) → Type 0
FindsLongest from connected count None = HasNone from connected count
FindsLongest from connected count (Some found) = IsLongestSilent from connected count found.0 found.1

-- a time is before that of what was found, if anything was
abbrev pub is_earlier : Instant → Option (ℕ × Instant) → Bool
is_earlier heard None = true
is_earlier heard (Some found) = nat_lt (instant_nanos heard) (instant_nanos found.1)

-- that client is gone, if there is one
abbrev pub DropsLongest : {T : Type 0} → Option IpAddr → Clients T → Clients T → Type 0
DropsLongest from old new =
    ((key : ℕ) × (heard : Instant) × IsLongestSilent from old.connected old.connected.capacity key heard × Closes key old new)
    ⊎ (HasNone from old.connected old.connected.capacity × (new ≡ old))

-- so many of them, one after another
abbrev pub Drops : {T : Type 0} → Option IpAddr → ℕ → Clients T → Clients T → Type 0
Drops from zero old new = new ≡ old
Drops {T} from (suc count) old new = (mid : Clients T) × Drops from count old mid × DropsLongest from mid new

-- so many of those stand under the first keys
abbrev pub Counts : {T : Type 0} → Option IpAddr → Slab (Client T) → ℕ → ℕ → Type 0
Counts from connected zero count = count ≡ 0
Counts from connected (suc key) count =
    (IsFrom from (get connected key) × ((fewer : ℕ) × Counts from connected key fewer × (count ≡ suc fewer)))
    ⊎ ((¬ (IsFrom from (get connected key))) × Counts from connected key count)

-- of the clients from an address those are left that were heard last, so many at most
abbrev pub KeepsAtMost : {T : Type 0} → ℕ → IpAddr → Clients T → Clients T → Type 0
KeepsAtMost most address old new =
    (count : ℕ) × Counts (Some address) old.connected old.connected.capacity count × Drops (Some address) (count - most) old new

-- a client from another address is connected
abbrev pub HasOther : {T : Type 0} → IpAddr → IpAddr → Slab (Client T) → Type 0
HasOther address other connected = (other ≢ address) × ((key : ℕ) × IsFrom (Some other) (get connected key))

-- all clients under the first so many keys are from this address
abbrev pub AreAllFrom : {T : Type 0} → IpAddr → Slab (Client T) → ℕ → Type 0
AreAllFrom address connected count = (key : ℕ) (client : Client _) → key < count → get connected key ≡ Some client → client.address ≡ address

-- where another address is connected, 63 clients of this one are left at most, and 64 of the other
abbrev pub SharesRoom : {T : Type 0} → IpAddr → Clients T → Clients T → Type 0
SharesRoom {T} address old new =
    ((other : IpAddr) × (mid : Clients T) × HasOther address other old.connected × KeepsAtMost 63 address old mid × KeepsAtMost 64 other mid new)
    ⊎ (AreAllFrom address old.connected old.connected.capacity × (new ≡ old))

-- Of two addresses each is left its half; then, where all places are taken, one client gives way.
pub record MakesRoom {T : Type 0} (address : IpAddr) (old new : Clients T) : Type 0 where
  pub closes : OnlyCloses old new
  pub shared : Clients T
  pub shares : SharesRoom address old shared
  pub full : 128 ≤ slab_len shared.connected → DropsLongest None shared new
  pub free : slab_len shared.connected < 128 → new ≡ shared

-- A client came now from an address, for which room was made: its connection has the limits, and nothing was received or sent in
-- it. The others are those that room left.
pub record Admits {T : Type 0} (stream : T) (address : IpAddr) (now : Instant) (old new : Clients T) : Type 0 where
  pub made : Clients T
  pub room : MakesRoom address old made
  pub key : ℕ
  pub client : Client T
  pub vacant : get made.connected key ≡ None
  pub comes : Updates made.connected new.connected key (Some client)
  pub reads : client.reader ≡ stream
  pub limits : config_of client.connection ≡ old.config
  pub anew : history client.connection ≡ new_history
  pub comes_from : client.address ≡ address
  pub heard : client.heard ≡ now
  pub unheld : client.held ≡ None
  pub rest : new ≡ record made { connected = new.connected }

-- Nobody came: nothing changed, or room was made and is left.
abbrev pub AdmitsNone : {T : Type 0} → IpAddr → Clients T → Clients T → Type 0
AdmitsNone {T} address old new =
    (new ≡ old) ⊎ ((made : Clients T) × MakesRoom address old made × (new ≡ record made { connected = new.connected }) × SameValues made.connected new.connected)
