-- The plan of an evening.
use Rattle.std.specs.Prelude.{ℕ, List, ◌++◌, flat_map}
use Rattle.std.specs.List.{range_with_len}
use Rattle.evening_plan.specs.Evening.{Evening}
use Rattle.evening_plan.specs.EventText.{event_text}
use Rattle.evening_plan.specs.PairText.{pair_plan}

-- the pairs, by number
unfoldable pub pairs_text : Evening → List ℕ
pairs_text evening = flat_map (pair_plan evening) (range_with_len 1 evening.movement.shape.pairs)

-- The plan: its head, and each pair by number.
unfoldable pub plan_text : Evening → List ℕ
plan_text evening = event_text evening ++ pairs_text evening
