-- Answers that are put off.
use Rattle.std.specs.Prelude.{◌≡◌, ◌⊎◌, ◌-◌, ◌<◌, ℕ, nat_le, Bool, true, false, List, Option, None, Some}
use Rattle.std.specs.Time.{instant_nanos}
use Rattle.std.specs.declared.time.Instant.{Instant}
use Rattle.web_loop.specs.declared.client.Client.{Client}
use Rattle.web_loop.specs.declared.client.Held.{Held}
use Rattle.web_loop.specs.declared.offenders.Offenders.{Offenders}
use Rattle.web_loop.specs.Offenders.{address_number, millis, waits}

-- 15 seconds have passed
abbrev pub is_late : Instant → Instant → Bool
is_late since now = nat_le 15000 (millis since now)

-- An answer stays put off: 15 seconds have not passed, and what it wishes for has not come, or the client is not looked at.
abbrev pub StaysPutOff : {S : Type 0} → (S → List ℕ → Type 0) → Bool → Instant → S → Held → Type 0
StaysPutOff stays looks now service held = (is_late held.since now ≡ false) × ((looks ≡ false) ⊎ stays service held.wish)

-- a client has an answer that stays put off
abbrev pub IsOnHold : {S : Type 0} → (S → List ℕ → Type 0) → Bool → Instant → S → Option Held → Type 0
IsOnHold stays looks now service None = ⊥
IsOnHold stays looks now service (Some held) = StaysPutOff stays looks now service held

-- an answer that is put off is so since now, for what the last request wishes
abbrev pub HoldsAnew : Option (List ℕ) → Instant → Option Held → Type 0
HoldsAnew wish now None = Unit {0}
HoldsAnew wish now (Some held) = (wish ≡ Some held.wish) × (held.since ≡ now)

-- the address of a client waits now
abbrev pub IsSlowed : {T : Type 0} → Client T → Instant → Offenders → Type 0
IsSlowed client now offenders = waits (address_number client.address) (millis offenders.begun now) offenders.known.items ≡ true

-- it does not
abbrev pub IsUnslowed : {T : Type 0} → Client T → Instant → Offenders → Type 0
IsUnslowed client now offenders = waits (address_number client.address) (millis offenders.begun now) offenders.known.items ≡ false

-- A client goes on: its address does not wait, and no answer is to be put off still.
pub record IsFree {S T : Type 0} (stays : S → List ℕ → Type 0) (looks : Bool) (now : Instant) (client : Client T) (offenders : Offenders) (service : S) : Type 0 where
  pub asks : IsUnslowed client now offenders
  pub free : ¬ (IsOnHold stays looks now service client.held)

-- a client has not been silent for 20 seconds
abbrev pub IsHeard : {T : Type 0} → Instant → Client T → Type 0
IsHeard now client = instant_nanos now - instant_nanos client.heard < 20000000000
