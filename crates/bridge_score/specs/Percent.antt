-- A share as a percentage.
use Rattle.std.specs.Prelude.{ℕ, ◌+◌, ◌*◌, ◌/◌, ◌<◌, ◌≤◌, ◌==◌, unsigned_abs, int_le, nat_le, pos, Bool, ◌&&◌, if◌then◌else◌, Option, Some, None}
use Rattle.bridge_score.specs.declared.ranking.Ranked.{Ranked}

-- the share in hundredths of a per cent, to the nearest, and a half up; none where nothing is available
abbrev pub percent_hundredths_of : ℕ → ℕ → Option ℕ
percent_hundredths_of earned available =
    if available == 0 then None else Some ((20000 * earned + available) / (2 * available))

-- the hundredths lie at most half a hundredth above the share, and less than half a hundredth below it
pub record IsNearest (earned available hundredths : ℕ) : Type 0 where
  pub above : hundredths * (2 * available) ≤ 20000 * earned + available
  pub below : 20000 * earned < hundredths * (2 * available) + available

-- what a pair gained lies between nothing and all that was available to it, which is at most 10,000,000
abbrev pub is_share : Ranked → Bool
is_share ranked =
    int_le (pos 0) ranked.value && nat_le (unsigned_abs ranked.value) ranked.available && nat_le ranked.available 10000000

-- the share of a pair in hundredths of a per cent, where it is one
abbrev pub share_percent : Ranked → Option ℕ
share_percent ranked =
    if is_share ranked then percent_hundredths_of (unsigned_abs ranked.value) ranked.available else None
