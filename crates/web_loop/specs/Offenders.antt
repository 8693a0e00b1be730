-- Offences, by the addresses that they came from.
use Rattle.std.specs.Prelude.{◌≡◌, ◌≢◌, ◌⊎◌, ◌<◌, slice_index_or, ℕ, ◌+◌, ◌*◌, ◌-◌, ◌/◌, Bool, ◌&&◌, ◌==◌, nat_lt, if◌then◌else◌, min, max, List, [], ◌∷◌, ◌++◌, length, drop, slice_index, zero, suc}
use Rattle.std.specs.List.{All, list_any, remove}
use Rattle.std.specs.Time.{instant_nanos}
use Rattle.std.specs.Net.Addr.{ipv4_bits, ipv6_bits}
use Rattle.std.specs.declared.time.Instant.{Instant}
use Rattle.std.specs.declared.net.ip_addr.IpAddr.{IpAddr}
use Rattle.std.specs.declared.net.ip_addr.IpAddr.TheVariants.{V4, V6}
use Rattle.web_loop.specs.declared.offender.Offender.{Offender}

-- the latest ten times, the oldest first, and one more: where there are ten, the oldest goes
abbrev pub with_time : ℕ → List ℕ → List ℕ
with_time at times = (if nat_lt (length times) 10 then times else drop 1 times) ++ at ∷ []

-- and so many more
abbrev pub with_times : ℕ → ℕ → List ℕ → List ℕ
with_times zero at times = times
with_times (suc count) at times = with_time at (with_times count at times)

-- ten offences lie within the last minute of 60,000 milliseconds: there are ten, and the oldest is not as old
abbrev pub is_slowed : ℕ → List ℕ → Bool
is_slowed at times = length times == 10 && nat_lt (at - slice_index times 0) 60000

-- how long a slowed address waits, in milliseconds: a second for each offence of its last turn, at least one and at most 60
abbrev pub wait_for : ℕ → ℕ
wait_for wrong = 1000 * max 1 (min wrong 60)

-- an address as a number: an address of 32 bits as the one of 128 bits that stands for it
abbrev pub address_number : IpAddr → ℕ
address_number (V4 a) = 65535 * 4294967296 + ipv4_bits a
address_number (V6 a) = ipv6_bits a

-- milliseconds from one time to another
abbrev pub millis : Instant → Instant → ℕ
millis from to = min ((instant_nanos to - instant_nanos from) / 1000000) 18446744073709551615

-- an address of the table waits
abbrev pub is_waiting : ℕ → ℕ → Offender → Bool
is_waiting address at offender = offender.address == address && nat_lt at offender.until

-- the address waits
abbrev pub waits : ℕ → ℕ → List Offender → Bool
waits address at known = list_any (is_waiting address at) known

-- an address from which no offence came
abbrev pub HasNoOffence : ℕ → Offender → Type 0
HasNoOffence address offender = (offender.address ≡ address) × (offender.times.items ≡ []) × (offender.until ≡ 0)

-- after a turn in which so many offences were answered: where ten came within the last minute, the address waits
pub record IsAfter (wrong at : ℕ) (old new : Offender) : Type 0 where
  pub address : new.address ≡ old.address
  pub times : new.times.items ≡ with_times (min wrong 10) at old.times.items
  pub until : new.until ≡ (if is_slowed at new.times.items then min (at + wait_for wrong) 18446744073709551615 else old.until)

-- the address is kept so as the last of at most 128, for which the first makes room
abbrev pub IsRemembered : ℕ → ℕ → Offender → List Offender → List Offender → Type 0
IsRemembered wrong at offender old new =
    (after : Offender) × IsAfter wrong at offender after × (new ≡ (if nat_lt (length old) 128 then old else drop 1 old) ++ after ∷ [])

-- In a turn of an address so many offences were answered: the address is kept, whether it had a place or is new; an
-- address without one, and without an offence, gets none.
abbrev pub IsNoted : ℕ → ℕ → ℕ → List Offender → List Offender → Type 0
IsNoted address wrong at old new =
    ((index : ℕ) × (offender : Offender) × (index < length old) × (slice_index_or old index offender ≡ offender) × (offender.address ≡ address) × IsRemembered wrong at offender (remove old index) new)
    ⊎ (((offender : Offender) × (0 < wrong) × All (λ other. other.address ≢ address) old × HasNoOffence address offender × IsRemembered wrong at offender old new)
    ⊎ (All (λ other. other.address ≢ address) old × (wrong ≡ 0) × (new ≡ old)))
