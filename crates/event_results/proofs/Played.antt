-- The texts of what has a line.
use Rattle.std.proofs.Common.{◌≡◌, ℕ, ◌==◌, false, List, [], ◌∷◌, length, refl}
use Rattle.bridge_ranking.specs.declared.field.Field.{Field}
use Rattle.session_rules.specs.State.{SessionValue}
use Rattle.page_layout.specs.declared.format.Format.{Format}
use Rattle.bridge_results.specs.MakeableText.{MakeableBoards}
use Rattle.event_ranking.specs.declared.ranking.SectionRanked.{SectionRanked}
use Rattle.event_ranking.specs.declared.sheet.Among.{Among}
use Rattle.event_ranking.specs.EventText.{sheet_text}
use Rattle.event_results.specs.declared.play.SectionPlay.{SectionPlay}
use Rattle.event_results.specs.EventPage.{ranked_sheet, board_text, played_text}

-- of a board
pub played_some : (format : Format) (boards : MakeableBoards) (sections : List SessionValue) (board : ℕ) (lines : List SectionPlay) → (length lines == 0) ≡ false
    → board_text format boards sections board lines ≡ played_text format boards sections board lines
played_some format boards sections board [] none = cc
played_some format boards sections board (line ∷ lines) some = refl

-- of a ranking
pub ranked_some : (format : Format) (sections : List SessionValue) (among : Among) (field : Field) (ranking : List SectionRanked) → (length ranking == 0) ≡ false
    → sheet_text format sections among field ranking ≡ ranked_sheet format sections among field ranking
ranked_some format sections among field [] none = cc
ranked_some format sections among field (ranked ∷ ranking) some = refl
