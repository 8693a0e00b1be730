-- What could be made on a board: the tricks of each declarer in each denomination, and par.
use Rattle.std.specs.Prelude.{ℕ, ◌-◌, ◌%◌, ◌==◌, nat_lt, if◌then◌else◌, List, [], ◌∷◌, ◌++◌, codes, length, flat_map, slice_get, ℤ, Option, option_and_then}
use Rattle.std.specs.List.{range_with_len}
use Rattle.std.specs.Option.{option_map_or}
use Rattle.std.specs.Fmt.{decimal, signed_decimal}
use Rattle.bridge_cards.specs.declared.seat.Seat.{Seat}
use Rattle.bridge_cards.specs.declared.seat.Seat.TheVariants.{North, East, South, West}
use Rattle.bridge_cards.specs.Board.{dealer_of, vulnerability_on}
use Rattle.bridge_cards.specs.Seat.{seat_letter}
use Rattle.bridge_auction.specs.declared.contract.Contract.{Contract}
use Rattle.bridge_auction.specs.Spelling.{bid_text, doubling_text}
use Rattle.bridge_par.specs.declared.tricks.TrickTable.{TrickTable}
use Rattle.bridge_par.specs.declared.par_contract.ParContract.{ParContract}
use Rattle.bridge_par.specs.Tricks.{tricks_by}
use Rattle.bridge_par.specs.Par.{par_score, par_contracts}
use Rattle.page_layout.specs.declared.format.Format.{Format}
use Rattle.page_layout.specs.declared.format.Format.TheVariants.{Plain, Html}
use Rattle.page_layout.specs.declared.format.Content.TheVariants.{Cards}
use Rattle.page_layout.specs.Html.{html_text}
use Rattle.page_layout.specs.Table.{row_text, title_row, table_end}
use Rattle.bridge_results.specs.declared.makeable.Makeable.{Makeable}
use Rattle.bridge_results.specs.declared.pages.columns.TheConstants.{MAKEABLE_COLUMNS}
use Rattle.bridge_results.specs.HtmlCells.{doubled_marks}

-- what could be made on each of the boards, from board 1 on, as far as it is known
abbrev pub MakeableBoards : Type 0
MakeableBoards = List (Option Makeable)

-- the same on a board
abbrev pub makeable_on : MakeableBoards → ℕ → Option Makeable
makeable_on boards board = option_and_then (λ found. found) (slice_get boards (board - 1))

-- ---- the tricks

-- seven tricks or more, with which a contract can be made (Law 19B), and a dash for fewer
abbrev pub makeable_cell : ℕ → List ℕ
makeable_cell tricks = if nat_lt tricks 7 then codes "-" else decimal tricks

-- a declarer, and the tricks in clubs, diamonds, hearts, spades and no trump
abbrev pub makeable_cells : TrickTable → Seat → List (List ℕ)
makeable_cells table seat =
    (seat_letter seat ∷ []) ∷ makeable_cell (tricks_by table.clubs seat) ∷ makeable_cell (tricks_by table.diamonds seat)
    ∷ makeable_cell (tricks_by table.hearts seat) ∷ makeable_cell (tricks_by table.spades seat)
    ∷ makeable_cell (tricks_by table.no_trump seat) ∷ []

-- a declarer's row
unfoldable pub makeable_row : Format → TrickTable → Seat → List ℕ
makeable_row format table seat = row_text format MAKEABLE_COLUMNS (makeable_cells table seat)

-- the title of a denomination in HTML: a suit as its symbol
unfoldable pub denomination_title : List ℕ → List ℕ
denomination_title letters = (codes "<th scope=\"col\" class=\"r\">" ++ html_text Cards letters) ++ codes "</th>"

-- what stands above the rows
unfoldable pub makeable_head : Format → List ℕ
makeable_head Plain =
    title_row Plain MAKEABLE_COLUMNS
    (codes "Can be made" ∷ codes "C" ∷ codes "D" ∷ codes "H" ∷ codes "S" ∷ codes "NT" ∷ [])
makeable_head Html =
    (((((codes "<table class=\"makeable\">\n<caption>Can be made</caption>\n<thead><tr><th scope=\"col\">By</th>"
    ++ denomination_title (codes "C")) ++ denomination_title (codes "D")) ++ denomination_title (codes "H"))
    ++ denomination_title (codes "S")) ++ denomination_title (codes "NT")) ++ codes "</tr></thead>\n"

-- the rows of North and South, and of East and West
unfoldable pub makeable_table : Format → TrickTable → List ℕ
makeable_table format table =
    ((((makeable_head format ++ makeable_row format table North) ++ makeable_row format table South)
    ++ makeable_row format table East) ++ makeable_row format table West) ++ table_end format

-- ---- par

-- what begins the line of par
abbrev pub par_label : Format → List ℕ
par_label Plain = codes "Par: "
par_label Html = codes "<p>Par: "

-- with what North and South score
unfoldable pub par_start : Format → ℤ → List ℕ
par_start format score = par_label format ++ signed_decimal score

-- what ends it: in plain text an empty line behind it
abbrev pub par_end : Format → List ℕ
par_end Plain = codes "\n\n"
par_end Html = codes "</p>\n"

-- what stands before a contract, the contracts counted from 0: the tenth and each tenth after it begin a line
abbrev pub par_gap : ℕ → List ℕ
par_gap index = if index % 10 == 9 then codes ",\n  " else codes ", "

-- a bid and its doubling, as `5DX`: in HTML as the contracts of the traveller
unfoldable pub par_bid : Format → Contract → List ℕ
par_bid Plain contract = bid_text contract.bid ++ doubling_text contract.doubling
par_bid Html contract = html_text Cards (bid_text contract.bid ++ doubled_marks contract.doubling)

-- a contract that reaches par behind what stands before it, as `, 5DX W`
unfoldable pub par_contract : Format → ℕ → ParContract → List ℕ
par_contract format index reaching =
    ((par_gap index ++ par_bid format reaching.contract) ++ codes " ") ++ seat_letter reaching.contract.declarer ∷ []

-- the contract at an index, if there is one
abbrev pub par_contract_at : Format → List ParContract → ℕ → List ℕ
par_contract_at format contracts index = option_map_or (par_contract format index) (slice_get contracts index) []

-- the contracts
abbrev pub par_contracts_text : Format → List ParContract → List ℕ
par_contracts_text format contracts = flat_map (par_contract_at format contracts) (range_with_len 0 (length contracts))

-- the par score of North and South and the contracts that reach it, as `Par: 600, 3NT N, 3NT S`
abbrev pub par_text : Format → ℤ → List ParContract → List ℕ
par_text format score contracts = par_start format score ++ (par_contracts_text format contracts ++ par_end format)

-- the par of a board where the declarers take those tricks
abbrev pub board_par : Format → ℕ → TrickTable → List ℕ
board_par format board table =
    let score = par_score table (vulnerability_on board) (dealer_of board) in
    par_text format score (par_contracts table (vulnerability_on board) score)

-- ---- the board

-- The tricks and par of a board.
abbrev pub makeable_text : Format → ℕ → TrickTable → List ℕ
makeable_text format board table = makeable_table format table ++ board_par format board table

-- the same, if it is known
abbrev pub known_text : Format → ℕ → Option Makeable → List ℕ
known_text format board found = option_map_or (λ (known : Makeable). makeable_text format board known.table) found []
