-- What could be made on a board, as the tags OptimumScore and OptimumResultTable.
use Rattle.std.specs.Prelude.{ℕ, List, [], ◌++◌, Option}
use Rattle.std.specs.Option.{option_map_or}
use Rattle.bridge_cards.specs.Board.{dealer_of, vulnerability_on}
use Rattle.bridge_par.specs.declared.tricks.TrickTable.{TrickTable}
use Rattle.bridge_par.specs.Par.{par_score}
use Rattle.makeable_deals.specs.Games.{score_tag, table_tag}
use Rattle.bridge_results.specs.declared.makeable.Makeable.{Makeable}

-- par, and the tricks of all declarers
unfoldable pub optimum_tags : ℕ → TrickTable → List ℕ
optimum_tags board table = score_tag (par_score table (vulnerability_on board) (dealer_of board)) ++ table_tag table

-- the same where it is known
abbrev pub known_tags : ℕ → Option Makeable → List ℕ
known_tags board known = option_map_or (λ (found : Makeable). optimum_tags board found.table) known []
