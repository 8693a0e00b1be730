-- What was found of the deals of a session and of how they were played: what could be made, and the tricks that cards gave away.
use Rattle.std.specs.Prelude.{ℕ, ◌==◌, Bool, ◌&&◌, if◌then◌else◌, List, [], ◌∷◌, ◌++◌, codes, slice_get, Option}
use Rattle.std.specs.Option.{option_map_or}
use Rattle.std.specs.Fmt.{decimal}
use Rattle.page_layout.specs.declared.format.Format.TheVariants.{Html}
use Rattle.page_layout.specs.Page.{paragraph_text}
use Rattle.bridge_results.specs.declared.makeable.Makeable.{Makeable}
use Rattle.bridge_results.specs.declared.analysis.PlayCosts.{PlayCosts}
use Rattle.bridge_results.specs.declared.analysis.Analysis as found
use Rattle.bridge_results.specs.declared.play.TablePlay.{TablePlay}
use Rattle.bridge_results.specs.HtmlCells.{perhaps_card}

-- what could be made on each board from board 1 on, as far as it is known, and what the cards of plays cost
pub record Analysis : Type 0 where
  pub boards : List (Option Makeable)
  pub plays : List PlayCosts

-- nothing was found
abbrev pub no_analysis : Analysis
no_analysis = record { boards = []; plays = [] }

-- what the code has of it
abbrev pub seen : found.Analysis → Analysis
seen analysis = record { boards = analysis.boards.now; plays = analysis.plays.now }

-- whether these are costs of a play
abbrev pub is_of : PlayCosts → TablePlay → Bool
is_of known play = known.board == play.board && (known.round == play.row.round && known.table == play.row.table)

-- what the cards of a play cost, by the first that is known of it
abbrev pub costs_at : List PlayCosts → TablePlay → List ℕ
costs_at [] play = []
costs_at (known ∷ more) play = if is_of known play then known.cards.items else costs_at more play

-- the tricks that a card gave away, if it gave any
abbrev pub cost_mark : ℕ → List ℕ
cost_mark cost = if cost == 0 then [] else codes " -" ++ decimal cost

-- the card at an index, if so many were played, and the tricks that it gave away, if that is known
abbrev pub marked_card : List ℕ → List ℕ → ℕ → List ℕ
marked_card cards costs index = perhaps_card (slice_get cards index) ++ option_map_or cost_mark (slice_get costs index) []

-- what the marks behind cards say, where there may be some
abbrev pub costs_note : List PlayCosts → List ℕ
costs_note [] = []
costs_note (known ∷ more) = paragraph_text Html (codes "A card with -1 behind it gave a trick away, as all the cards lay.")
