-- The seconds that a clock shows.
use Rattle.std.specs.Prelude.{◌≡◌, ◌⊎◌, ◌-◌, ◌/◌, ℕ, min, Option, Some, None}
use Rattle.std.specs.Time.{instant_nanos}
use Rattle.std.specs.declared.time.Instant.{Instant}

-- the whole seconds of so many nanoseconds, or so many as a `u32` can count
abbrev pub whole_seconds : ℕ → ℕ
whole_seconds nanos = min (nanos / 1_000_000_000) 4294967295

-- a clock that began then shows that second: those up to some time that it reads, or none where a time cannot be read
abbrev pub Shows : Option Instant → ℕ → Type 0
Shows None at = at ≡ 0
Shows (Some begun) at = (at ≡ 0) ⊎ ((now : Instant) × (at ≡ whole_seconds (instant_nanos now - instant_nanos begun)))
