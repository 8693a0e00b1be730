-- The ScoreTable of a board over all sections: a row for each play of it, in the order of the traveller, with the section's letters.
use Rattle.std.specs.Prelude.{ℕ, List, ◌++◌, codes, flat_map}
use Rattle.bridge_cards.specs.declared.scoring.Scoring.{Scoring}
use Rattle.results_pbn.specs.Scores.{gain_columns, score_row}
use Rattle.event_results.specs.declared.play.SectionPlay.{SectionPlay}
use Rattle.event_pbn.specs.SectionCell.{section_cell}

-- the columns of what was played, behind the tag's name
unfoldable pub play_columns : List ℕ
play_columns =
    codes "[ScoreTable \"Section\\2L;Round\\2R;Table\\2R;PairId_NS\\2R;PairId_EW\\2R;Contract\\5L;Declarer\\1L;Result\\2R;Lead\\2L;Score_NS\\6R;"

-- the row of a play: its section, and then as one section alone has it
abbrev pub section_row : Scoring → SectionPlay → List ℕ
section_row scoring play = section_cell play.section ++ score_row scoring play.line

-- the table
abbrev pub section_scores : Scoring → List SectionPlay → List ℕ
section_scores scoring plays = (play_columns ++ gain_columns scoring) ++ flat_map (section_row scoring) plays
