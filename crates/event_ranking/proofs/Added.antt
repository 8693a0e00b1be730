-- Sums of what a pair gains in a section's plays.
use Rattle.std.proofs.Common.{◌≤◌, ℕ, ℤ, arith}
use Rattle.std.proofs.lemmas.Int.{ints}
use mir.Syntax.{w32}
use mir.Val.{SFits}
use Rattle.bridge_cards.specs.declared.scoring.Scoring.{Scoring}
use Rattle.bridge_cards.specs.declared.scoring.Scoring.TheVariants.{MatchPoints, Imps}
use Rattle.bridge_ranking.specs.Gains.{IsGainWithin}

-- what is gained of 432 plays' worth stays below the limits
pub gain_fits : (scoring : Scoring) (v : ℤ) (a : ℕ) → IsGainWithin scoring v a → a ≤ 149290560 → SFits w32 v
gain_fits MatchPoints v a within few = omega (arith, ints, within.0, within.1)
gain_fits Imps v a within few = omega (arith, ints, within.0, within.1)
