-- The ranges of what a pair gains, and the lists of scores that it is computed from.
use Rattle.std.specs.Prelude.{◌≡◌, ℕ, ◌*◌, ◌-◌, ◌≤◌, List, [], ◌∷◌, ◌++◌, slice_index_or, slice_set, length, map, filter, All, ℤ, pos, neg_ℤ, ◌≤ℤ◌}
use Rattle.std.specs.List.{range_with_len}
use Rattle.bridge_cards.specs.declared.seat.Side.TheVariants.{NorthSouth, EastWest}
use Rattle.bridge_cards.specs.declared.scoring.Scoring.{Scoring}
use Rattle.bridge_cards.specs.declared.scoring.Scoring.TheVariants.{MatchPoints, Imps}
use Rattle.bridge_ranking.specs.declared.game.Game.{Game}
use Rattle.bridge_ranking.specs.Ranking.{is_on, scores_on}
use Rattle.bridge_ranking.specs.KeptGames.{IsGame}

-- from nothing to all that is available, or, in IMPs, on either side of 0 twice that number, which is 40 for each other score
abbrev pub IsGainWithin : Scoring → ℤ → ℕ → Type 0
IsGainWithin MatchPoints gain available = (pos 0 ≤ℤ gain) × (gain ≤ℤ pos available)
IsGainWithin Imps gain available = (neg_ℤ (pos (2 * available)) ≤ℤ gain) × (gain ≤ℤ pos (2 * available))

-- as many games as a session may have, and as many on a board
pub record AreGames (games : List Game) : Type 0 where
  pub most : length games ≤ 432
  pub few : (board : ℕ) → length (filter (is_on board) games) ≤ 144
  pub each : All IsGame games

-- the lists of scores by board, with one score more on a board
abbrev pub with_score : List (List ℤ) → ℕ → ℤ → List (List ℤ)
with_score lists board score = slice_set lists (board - 1) (slice_index_or lists (board - 1) [] ++ score ∷ [])

-- each side's scores, board by board, all within the scoring table
pub record AreScored (games : List Game) (north_south east_west : List (List ℤ)) : Type 0 where
  pub each : All IsGame games
  pub ns : north_south ≡ map (scores_on games NorthSouth) (range_with_len 1 36)
  pub ew : east_west ≡ map (scores_on games EastWest) (range_with_len 1 36)
