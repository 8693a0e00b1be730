-- A round, in which each client has its turn.
use Rattle.std.specs.Prelude.{◌≡◌, ◌⊎◌, ◌-◌, ◌<◌, ℕ, zero, suc, nat_le, List, Bool, true, false, ◌||◌, if◌then◌else◌, Option, None, Some}
use Rattle.std.specs.Time.{instant_nanos}
use Rattle.std.specs.declared.time.Instant.{Instant}
use Rattle.slab.specs.Slab.{get}
use Rattle.http.specs.declared.request.Request.{Request}
use Rattle.http_server.specs.declared.response.Response.{Response}
use Rattle.http_server.specs.Connection.{config_of, history}
use Rattle.web_loop.specs.declared.client.Client.{Client}
use Rattle.web_loop.specs.declared.clients.Clients.{Clients}
use Rattle.web_loop.specs.declared.offenders.Offenders.{Offenders}
use Rattle.web_loop.specs.declared.turn.Turn.{Turn}
use Rattle.web_loop.specs.declared.turn.Turn.TheVariants.{Waits, Closes}
use Rattle.web_loop.specs.Turns.{has_moved, Sends, TakesTurn, TurnEnds}
use Rattle.web_loop.specs.Offenders.{address_number, millis, IsNoted}
use Rattle.web_loop.specs.Waiting.{HoldsAnew, IsFree, IsHeard, IsOnHold, IsSlowed, IsUnslowed}

-- each client is looked at for what it wishes: behind a round in which one did something, or a second after the last such look
abbrev pub looks_at : {T : Type 0} → Clients T → Instant → Bool
looks_at clients now = clients.moved || nat_le 1000000000 (instant_nanos now - instant_nanos clients.looked)

-- a client goes where its turn closes, and else stands
abbrev pub left_by : {T : Type 0} → Turn → Option (Client T) → Option (Client T)
left_by Closes stood = None
left_by _ stood = stood

module _ {S T : Type 0} (answers : S → Request (List ℕ) → Response → S → Type 0) (stays : S → List ℕ → Type 0) (wish : S → Option (List ℕ)) (waits offences : S → ℕ)
    (remaining contents : T → Option (List ℕ)) (now : Instant) where
  -- A client goes on: its service is called as often as its connection, and an answer that waits is put off, unless memory is
  -- refused.
  pub record GoesOn (turn : Turn) (client after : Client T) (old new : S) : Type 0 where
    pub takes : TakesTurn answers remaining client after old new
    pub written : Sends (history client.connection) (history after.connection) (contents client.writer) (contents after.writer)
    pub ends : TurnEnds answers waits (config_of client.connection) turn old new (history client.connection) (history after.connection)
    pub held : HoldsAnew (wish new) now after.held
    pub anew : waits new ≡ waits old → after.held ≡ None

  -- It did something, or an offence was answered: it is heard, and the offences are noted.
  pub record IsActive (made turn : Turn) (client after : Client T) (old new : S) (before known : Offenders) : Type 0 where
    pub active : (has_moved made ≡ true) ⊎ (0 < offences new - offences old)
    pub ends : turn ≡ made
    pub heard : after.heard ≡ now
    pub begun : known.begun ≡ before.begun
    pub noted : IsNoted (address_number client.address) (offences new - offences old) (millis before.begun now) before.known.items known.known.items

  -- It did nothing, and no offence was answered: it closes once it has been silent for 20 seconds.
  pub record IsAtRest (made turn : Turn) (client after : Client T) (old new : S) (before known : Offenders) : Type 0 where
    pub rests : has_moved made ≡ false
    pub none : offences new - offences old ≡ 0
    pub heard : after.heard ≡ client.heard
    pub stands : IsHeard now client → turn ≡ made
    pub closes : ¬ (IsHeard now client) → turn ≡ Closes
    pub unnoted : known ≡ before

  -- the turn of a client, that is looked at for what it wishes or not: nothing is done where its address waits or its answer stays put
  -- off, in which case it is heard; else it goes on
  abbrev pub IsClientTurn : Bool → Turn → Client T → Client T → S → S → Offenders → Offenders → Type 0
  IsClientTurn looks turn client after old new before known =
      (IsSlowed client now before × (turn ≡ Waits false) × (after ≡ client) × (new ≡ old) × (known ≡ before))
      ⊎ ((IsUnslowed client now before × IsOnHold stays looks now old client.held × (turn ≡ Waits false) × (after ≡ record client { heard = now }) × (new ≡ old) × (known ≡ before))
      ⊎ (IsFree stays looks now client before old
      × ((made : Turn) × GoesOn made client after old new × (IsActive made turn client after old new before known ⊎ IsAtRest made turn client after old new before known))))

  -- the turn of the client under a key, if there is one, and what then stands there
  abbrev pub StandsAfter : Bool → Turn → Option (Client T) → Option (Client T) → S → S → Offenders → Offenders → Type 0
  StandsAfter looks turn None stood old new before known = (stood ≡ None) × (turn ≡ Waits false) × (new ≡ old) × (known ≡ before)
  StandsAfter looks turn (Some client) stood old new before known =
      (after : Client T) × (stood ≡ Some after) × IsClientTurn looks turn client after old new before known

  -- the same, and it goes where its turn closes
  abbrev pub LeavesAfter : Bool → Turn → Option (Client T) → Option (Client T) → S → S → Offenders → Offenders → Type 0
  LeavesAfter looks turn found left old new before known =
      (stood : Option (Client T)) × StandsAfter looks turn found stood old new before known × (left ≡ left_by turn stood)

  -- The turns of the clients under the first so many keys, one after another, and whether any of them did something: each is looked
  -- at behind one that did.
  abbrev pub TurnsBelow : Bool → (ℕ → Option (Client T)) → (ℕ → Option (Client T)) → ℕ → S → S → Offenders → Offenders → Bool → Type 0
  TurnsBelow looks clients left zero old new before known moved = (new ≡ old) × (known ≡ before) × (moved ≡ false)
  TurnsBelow looks clients left (suc count) old new before known moved =
      (mid : S) × (noted : Offenders) × (did : Bool) × (turn : Turn) × TurnsBelow looks clients left count old mid before noted did
      × LeavesAfter (looks || did) turn (clients count) (left count) mid new noted known × (moved ≡ (did || has_moved turn))

  -- the turns of all clients
  abbrev pub TurnsOfAll : Bool → Clients T → Clients T → S → S → Bool → Type 0
  TurnsOfAll looks clients after old new moved =
      TurnsBelow looks (get clients.connected) (get after.connected) clients.connected.capacity old new clients.offenders after.offenders moved

  -- Each client had its turn, and it is kept whether any of them did something and when all were last looked at.
  pub record TakesRound (clients after : Clients T) (old new : S) : Type 0 where
    pub turns : TurnsOfAll (looks_at clients now) clients after old new after.moved
    pub looked : after.looked ≡ (if looks_at clients now then now else clients.looked)
