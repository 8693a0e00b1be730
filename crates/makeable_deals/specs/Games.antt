-- The games of a text with what their deals could make: after each deal's line the tags OptimumScore, ParContract and
-- OptimumResultTable of Portable Bridge Notation.
use Rattle.std.specs.Prelude.{ℕ, ℤ, Bool, List, [], ◌∷◌, ◌++◌, length, take, codes, flat_map, nat_lt, ◌||◌, if◌then◌else◌}
use Rattle.std.specs.Fmt.{decimal, signed_decimal}
use Rattle.std.specs.Str.{bytes_eq}
use Rattle.bridge_cards.specs.declared.seat.Seat.{Seat}
use Rattle.bridge_cards.specs.declared.seat.Seat.TheVariants.{North, East, South, West}
use Rattle.bridge_cards.specs.Seat.{seat_letter}
use Rattle.bridge_par.specs.declared.par_contract.ParContract.{ParContract}
use Rattle.bridge_par.specs.declared.tricks.TrickTable.{TrickTable}
use Rattle.bridge_par.specs.Tricks.{tricks_by}
use Rattle.bridge_par.specs.Par.{par_score, par_contracts}
use Rattle.makeable_deals.specs.declared.board_deal.BoardDeal.{BoardDeal}
use Rattle.makeable_deals.specs.Makeable.{table_of, contract_behind}

-- ---- the tags of a deal

-- a number in two columns, at the right
abbrev pub in_two : ℕ → List ℕ
in_two number = (if nat_lt number 10 then codes " " else []) ++ decimal number

-- a declarer, a denomination in two columns, and the tricks, as `N NT  7`
unfoldable pub result_row : Seat → List ℕ → ℕ → List ℕ
result_row seat denomination tricks =
    ((((seat_letter seat ∷ codes " ") ++ denomination) ++ codes " ") ++ in_two tricks) ++ codes "\n"

-- a declarer's rows: no trump, and the suits from spades down
unfoldable pub result_rows : TrickTable → Seat → List ℕ
result_rows table seat =
    (((result_row seat (codes "NT") (tricks_by table.no_trump seat) ++ result_row seat (codes " S") (tricks_by table.spades seat))
    ++ result_row seat (codes " H") (tricks_by table.hearts seat)) ++ result_row seat (codes " D") (tricks_by table.diamonds seat))
    ++ result_row seat (codes " C") (tricks_by table.clubs seat)

-- the par score of North and South, as `[OptimumScore "NS -110"]`
unfoldable pub score_tag : ℤ → List ℕ
score_tag score = (codes "[OptimumScore \"NS " ++ signed_decimal score) ++ codes "\"]\n"

-- words that stand behind a space each, or `Pass` where there are none
abbrev pub words_or_pass : List ℕ → List ℕ
words_or_pass [] = codes "Pass"
words_or_pass (space ∷ words) = words

-- the contracts that reach it, as `[ParContract "2S E 2S W"]`
unfoldable pub contracts_tag : List ParContract → List ℕ
contracts_tag contracts = (codes "[ParContract \"" ++ words_or_pass (flat_map contract_behind contracts)) ++ codes "\"]\n"

-- the rows of all declarers, North's first and then clockwise, under their heads
unfoldable pub table_tag : TrickTable → List ℕ
table_tag table =
    (((codes "[OptimumResultTable \"Declarer;Denomination\\2R;Result\\2R\"]\n" ++ result_rows table North) ++ result_rows table East)
    ++ result_rows table South) ++ result_rows table West

-- the tags of par
abbrev pub par_tags : BoardDeal → TrickTable → List ℕ
par_tags deal table =
    let score = par_score table deal.vulnerability deal.dealer in
    score_tag score ++ contracts_tag (par_contracts table deal.vulnerability score)

-- the tags of a deal where the declarers take those tricks
abbrev pub tags_with : BoardDeal → TrickTable → List ℕ
tags_with deal table = par_tags deal table ++ table_tag table

-- a deal's tags
abbrev pub deal_tags : BoardDeal → List ℕ
deal_tags deal = tags_with deal (table_of deal.deal)

-- ---- the games

-- whether a line begins with those bytes
abbrev pub begins : List ℕ → List ℕ → Bool
begins start line = bytes_eq (take (length start) line) start

-- whether a line is a deal's: its tag, or the director's line
abbrev pub is_deal_line : List ℕ → Bool
is_deal_line line = begins (codes "[Deal \"") line || begins (codes "DEAL ") line

-- a line of the text with its line feed
abbrev pub whole_line : List ℕ → List ℕ
whole_line line = line ++ codes "\n"

-- the tags of the first of the deals
abbrev pub first_tags : List BoardDeal → List ℕ
first_tags [] = []
first_tags (deal ∷ deals) = deal_tags deal

-- the deals behind the first
abbrev pub behind_first : List BoardDeal → List BoardDeal
behind_first [] = []
behind_first (deal ∷ deals) = deals

-- what stands after a line: where it is a deal's, the tags of the first of the deals
abbrev pub tags_after : List ℕ → List BoardDeal → List ℕ
tags_after line deals = if is_deal_line line then first_tags deals else []

-- the deals that are due after a line
abbrev pub deals_after : List ℕ → List BoardDeal → List BoardDeal
deals_after line deals = if is_deal_line line then behind_first deals else deals

-- a text's lines, and after each that is a deal's the tags of its deal
unfoldable pub games_text : List (List ℕ) → List BoardDeal → List ℕ
games_text [] deals = []
games_text (line ∷ texts) deals = (whole_line line ++ tags_after line deals) ++ games_text texts (deals_after line deals)
