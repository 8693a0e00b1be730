-- How a board was played at a table, in HTML: its auction and its play, trick by trick. It opens where its names are chosen.
use Rattle.std.specs.Prelude.{ℕ, ◌+◌, ◌-◌, ◌*◌, ◌/◌, nat_le, nat_lt, Bool, ◌&&◌, if◌then◌else◌, List, [], ◌∷◌, ◌++◌, codes, length, flat_map, slice_get, Option, None, Some, option_and_then}
use Rattle.std.specs.List.{range_with_len}
use Rattle.std.specs.Option.{option_map_or}
use Rattle.std.specs.Fmt.{decimal}
use Rattle.bridge_cards.specs.declared.seat.Seat.{Seat}
use Rattle.bridge_cards.specs.Seat.{seat_letter, clockwise_from}
use Rattle.bridge_auction.specs.declared.call.Call.{Call}
use Rattle.bridge_auction.specs.declared.call.Call.TheVariants.{Pass, Bid, Double, Redouble}
use Rattle.bridge_auction.specs.declared.contract.Contract.{Contract}
use Rattle.bridge_auction.specs.Auction.{AuctionValue}
use Rattle.bridge_auction.specs.Spelling.{bid_text}
use Rattle.bridge_play.specs.declared.claim.Claim.{Claim}
use Rattle.bridge_play.specs.Play.{PlayValue, is_agreed}
use Rattle.bridge_play.specs.Trick.{whole_tricks, leader_of}
use Rattle.bridge_movement.specs.Boards.{boards_before}
use Rattle.bridge_config.specs.ConfigValue.{ConfigValue, Pair}
use Rattle.session_rules.specs.declared.action.PlayId.{PlayId}
use Rattle.session_rules.specs.Record.{PlainRecord, bidding_of, play_of}
use Rattle.session_rules.specs.State.{SessionValue, hands_on, record_of}
use Rattle.page_layout.specs.declared.format.Format.TheVariants.{Html}
use Rattle.page_layout.specs.declared.format.Content.TheVariants.{Words, Cards}
use Rattle.page_layout.specs.Html.{html_text}
use Rattle.page_layout.specs.Page.{paragraph_text}
use Rattle.page_layout.specs.Table.{title_row, table_end}
use Rattle.page_layout.specs.Linked.{linked_row}
use Rattle.bridge_results.specs.declared.play.TablePlay.{TablePlay}
use Rattle.bridge_results.specs.declared.html.columns.TheConstants.{CALL_COLUMNS, TRICK_COLUMNS}
use Rattle.bridge_results.specs.PlayCells.{declarer_cell}
use Rattle.bridge_results.specs.ShownPairs.{Names, shown_pair}
use Rattle.bridge_results.specs.HtmlCells.{result_cell}
use Rattle.bridge_results.specs.Costs.{marked_card}
use Rattle.bridge_results.specs.HtmlLinks.{play_target}

-- ---- the auction

-- a call, as `Pass`, `X`, `XX` or `1NT`
abbrev pub call_words : Call → List ℕ
call_words Pass = codes "Pass"
call_words (Bid bid) = bid_text bid
call_words Double = codes "X"
call_words Redouble = codes "XX"

-- the call at an index, if there is one
abbrev pub call_cell : List Call → ℕ → List ℕ
call_cell calls index = option_map_or call_words (slice_get calls index) []

-- a line of the auction, the lines counted from 0: a call in each of four columns
abbrev pub call_row : List Call → ℕ → List ℕ
call_row calls line =
    linked_row CALL_COLUMNS ([] ∷ [] ∷ [] ∷ [] ∷ [])
    (call_cell calls (4 * line) ∷ call_cell calls (4 * line + 1) ∷ call_cell calls (4 * line + 2) ∷ call_cell calls (4 * line + 3) ∷ [])

-- how many lines so many calls take, or cards, four a line
abbrev pub fours : ℕ → ℕ
fours count = (count + 3) / 4

-- the letter of the seat that is so many places clockwise from another
abbrev pub letter_from : Seat → ℕ → List ℕ
letter_from seat places = seat_letter (clockwise_from seat places) ∷ []

-- what stands above the calls: the seats from the dealer on, clockwise
unfoldable pub auction_head : TablePlay → Seat → List ℕ
auction_head play dealer =
    (((codes "<table class=\"auction\" id=\"" ++ play_target play) ++ codes "\">\n<caption>Auction</caption>\n")
    ++ title_row Html CALL_COLUMNS (letter_from dealer 0 ∷ letter_from dealer 1 ∷ letter_from dealer 2 ∷ letter_from dealer 3 ∷ []))

-- the lines of the auction
abbrev pub call_rows : List Call → List ℕ
call_rows calls = flat_map (call_row calls) (range_with_len 0 (fours (length calls)))

-- The auction: the calls in four columns, the dealer's first.
abbrev pub auction_html : TablePlay → AuctionValue → List ℕ
auction_html play auction = auction_head play auction.dealer ++ (call_rows auction.calls ++ table_end Html)

-- ---- the play

-- who won a trick, the tricks counted from 0: who leads to the next (Law 44)
abbrev pub winner_cell : Contract → List ℕ → ℕ → List ℕ
winner_cell contract cards trick =
    if nat_lt trick (whole_tricks cards) then seat_letter (leader_of contract cards (trick + 1)) ∷ [] else []

-- a trick, counted from 0: its number from 1, who led, the four cards with what they cost, and who won it
abbrev pub trick_row : Contract → List ℕ → List ℕ → ℕ → List ℕ
trick_row contract cards costs trick =
    linked_row TRICK_COLUMNS ([] ∷ [] ∷ [] ∷ [] ∷ [] ∷ [] ∷ [] ∷ [])
    (decimal (trick + 1) ∷ (seat_letter (leader_of contract cards trick) ∷ []) ∷ marked_card cards costs (4 * trick)
    ∷ marked_card cards costs (4 * trick + 1) ∷ marked_card cards costs (4 * trick + 2)
    ∷ marked_card cards costs (4 * trick + 3) ∷ winner_cell contract cards trick ∷ [])

-- what stands above the tricks
unfoldable pub tricks_head : List ℕ
tricks_head =
    codes "<table class=\"tricks\">\n<caption>Play</caption>\n"
    ++ title_row Html TRICK_COLUMNS
    (codes "Trick" ∷ codes "Led by" ∷ codes "1st" ∷ codes "2nd" ∷ codes "3rd" ∷ codes "4th" ∷ codes "Won by" ∷ [])

-- the tricks, the last of which may have fewer than four cards
abbrev pub trick_rows : Contract → List ℕ → List ℕ → List ℕ
trick_rows contract cards costs = flat_map (trick_row contract cards costs) (range_with_len 0 (fours (length cards)))

-- who claimed how many of the tricks that were left (Law 68)
abbrev pub claim_words : Claim → List ℕ
claim_words claim =
    ((codes "Claim by " ++ seat_letter claim.claimer ∷ []) ++ codes ", tricks: ") ++ decimal claim.tricks

-- the claim by which the play ended, if it did
abbrev pub agreed_claim : PlayValue → Option Claim
agreed_claim play = if is_agreed play then play.claim else None

-- the same in words
abbrev pub claim_html : Option Claim → List ℕ
claim_html claim = option_map_or (λ (agreed : Claim). paragraph_text Html (claim_words agreed)) claim []

-- what ends the tricks, and the claim
unfoldable pub play_end : PlayValue → List ℕ
play_end play = table_end Html ++ claim_html (agreed_claim play)

-- The play: a row for each trick, and the claim.
abbrev pub play_html : List ℕ → PlayValue → List ℕ
play_html costs play = tricks_head ++ (trick_rows play.contract play.cards costs ++ play_end play)

-- the same, once there was a contract
abbrev pub play_part : List ℕ → Option PlayValue → List ℕ
play_part costs play = option_map_or (play_html costs) play []

-- ---- what opens

-- a pair's number and its names, which no text beside them is turned by, behind what stands before them
abbrev pub pair_behind : List ℕ → Names → List Pair → ℕ → List ℕ
pair_behind before names pairs pair =
    (((before ++ html_text Words (decimal pair)) ++ codes " <bdi>") ++ html_text Words (shown_pair names pairs pair)) ++ codes "</bdi>"

-- the round and the table
abbrev pub meeting_words : TablePlay → List ℕ
meeting_words play = ((codes "Round " ++ decimal play.row.round) ++ codes ", table ") ++ decimal play.row.table

-- the pair that sat North and South
unfoldable pub first_names : Names → List Pair → TablePlay → List ℕ
first_names names pairs play = pair_behind (codes "<details>\n<summary>") names pairs play.row.ns

-- the pair that sat East and West
unfoldable pub second_names : Names → List Pair → TablePlay → List ℕ
second_names names pairs play = pair_behind (codes ", ") names pairs play.row.ew

-- what came of the play, its declarer, and where it was played
unfoldable pub summary_end : TablePlay → List ℕ
summary_end play =
    ((((codes ": " ++ html_text Cards (result_cell play.outcome)) ++ codes " ") ++ html_text Words (declarer_cell play.outcome))
    ++ codes "</summary>\n") ++ paragraph_text Html (meeting_words play)

-- what is shown before it is opened, and the round and the table
abbrev pub summary_html : Names → List Pair → TablePlay → List ℕ
summary_html names pairs play = first_names names pairs play ++ (second_names names pairs play ++ summary_end play)

-- the auction and the play
abbrev pub calls_and_cards : List ℕ → TablePlay → AuctionValue → Option PlayValue → List ℕ
calls_and_cards costs play auction played = auction_html play auction ++ (play_part costs played ++ codes "</details>\n")

-- How a board was played: the pairs and what came of it, and where that is opened, the auction and the play.
abbrev pub course_html : Names → List ℕ → List Pair → TablePlay → AuctionValue → Option PlayValue → List ℕ
course_html names costs pairs play auction played = summary_html names pairs play ++ calls_and_cards costs play auction played

-- ---- the record that is shown

-- the play of a line: the round, the table, and the index of the board in the set
abbrev pub id_by : ConfigValue → TablePlay → PlayId
id_by configuration play = record {
  round = play.row.round;
  table = play.row.table;
  index = play.board - boards_before configuration.boards play.row.set;
}

-- whether these are numbers of a play: 12 rounds, 12 tables and three boards at most
abbrev pub is_id : PlayId → Bool
is_id id =
    (nat_le 1 id.round && nat_le id.round 12) && ((nat_le 1 id.table && nat_le id.table 12) && (nat_le 1 id.index && nat_le id.index 3))

-- the same, where they are
abbrev pub shown_id : ConfigValue → TablePlay → Option PlayId
shown_id configuration play = if is_id (id_by configuration play) then Some (id_by configuration play) else None

-- the record of the play
abbrev pub shown_record : SessionValue → TablePlay → Option PlainRecord
shown_record s play = option_and_then (record_of s) (shown_id s.configuration play)

-- how the play went by its record
abbrev pub recorded_html : Names → List ℕ → SessionValue → TablePlay → PlainRecord → List ℕ
recorded_html names costs s play plain =
    course_html names costs s.configuration.pairs play (bidding_of plain) (play_of (hands_on s.deals plain.board) plain)

-- how the play went by that record, if there is one
abbrev pub found_html : Names → List ℕ → SessionValue → TablePlay → Option PlainRecord → List ℕ
found_html names costs s play found = option_map_or (recorded_html names costs s play) found []

-- How the play of a line went, as the session's record of that table and board tells.
abbrev pub course_on : Names → List ℕ → SessionValue → TablePlay → List ℕ
course_on names costs s play = found_html names costs s play (shown_record s play)
