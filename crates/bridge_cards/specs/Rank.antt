-- Ranks of cards (Law 1).
use Rattle.std.specs.Prelude.{ℕ, ◌+◌, ◌≤◌, ◌==◌, nat_lt, if◌then◌else◌}

-- 2 to 10, then the jack, the queen, the king and the ace
abbrev pub IsRank : ℕ → Type 0
IsRank rank = (2 ≤ rank) × (rank ≤ 14)

-- the letter that stands for a rank, in ASCII: a digit below ten, then T, J, Q, K and A
unfoldable pub rank_letter : ℕ → ℕ
rank_letter rank =
    if nat_lt rank 10 then 48 + rank
    else if rank == 10 then 84
    else if rank == 11 then 74
    else if rank == 12 then 81
    else if rank == 13 then 75
    else 65
