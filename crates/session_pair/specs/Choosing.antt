-- Which of two disks a pair is opened from.
use Rattle.std.specs.Prelude.{◌≡◌, ◌⊎◌, ◌<◌, ◌≤◌, ℕ}

-- of two disks with these epochs and numbers of records, the one is taken first: its epoch is greater, or the same with no
-- fewer records
abbrev pub ComesFirst : ℕ → ℕ → ℕ → ℕ → Type 0
ComesFirst epoch records other_epoch other_records =
    (other_epoch < epoch) ⊎ ((other_epoch ≡ epoch) × (other_records ≤ records))
