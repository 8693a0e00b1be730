-- What a pair gains where the scores of several sections are compared with one another (Laws 12C2, 78).
use Rattle.std.specs.Prelude.{ℕ, ◌+◌, List, [], map, flat_map, slice_index_or, sum_by, ℤ, pos, ◌-ℤ◌, neg_ℤ}
use Rattle.bridge_cards.specs.declared.scoring.Scoring.{Scoring}
use Rattle.bridge_cards.specs.declared.scoring.Scoring.TheVariants.{MatchPoints, Imps}
use Rattle.bridge_score.specs.declared.ranking.Line.{Line}
use Rattle.bridge_score.specs.Comparison.{int_sum_by}
use Rattle.bridge_ranking.specs.declared.game.Game.{Game}
use Rattle.bridge_ranking.specs.Ranking.{value_in, available_in}
use Rattle.event_ranking.specs.declared.ranking.SectionLine.{SectionLine}

-- the plays of all sections, in their order
abbrev pub joint : List (List Game) → List Game
joint sections = flat_map (λ games. games) sections

-- a pair's line: the sums over its own section's plays, of what it gained there against the scores of all sections
abbrev pub joint_line : Scoring → List Game → List Game → ℕ → Line
joint_line scoring all own pair = record {
  pair = pair;
  value = int_sum_by (value_in scoring all pair) own;
  available = sum_by (available_in all pair) own;
}

-- a line beside the number of its section
abbrev pub of_section : ℕ → Line → SectionLine
of_section section line = record { section = section; line = line }

-- the lines of these pairs of the section at an index, against the scores of all
abbrev pub made_lines : Scoring → List (List Game) → ℕ → List ℕ → List SectionLine
made_lines scoring wide index pairs =
    map (λ pair. of_section (index + 1) (joint_line scoring (joint wide) (slice_index_or wide index []) pair)) pairs

-- what the other side gains by a play: the rest of what is available, or what the one side loses
abbrev pub other_gain : Scoring → ℤ → ℕ → ℤ
other_gain MatchPoints gain available = pos available -ℤ gain
other_gain Imps gain available = neg_ℤ gain
