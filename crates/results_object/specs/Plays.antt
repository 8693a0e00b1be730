-- A play of a board in JSON: who met, what came of it, what each side gained, and its auction and cards.
use Rattle.std.specs.Prelude.{ℕ, Bool, true, false, List, [], codes, ℤ, Option, None, option_and_then}
use Rattle.std.specs.Option.{option_map, option_map_or}
use Rattle.bridge_cards.specs.Card.{card_text}
use Rattle.bridge_cards.specs.declared.scoring.Scoring.{Scoring}
use Rattle.bridge_cards.specs.declared.scoring.Scoring.TheVariants.{MatchPoints, Imps}
use Rattle.bridge_auction.specs.declared.call.Call.{Call}
use Rattle.bridge_auction.specs.Auction.{AuctionValue}
use Rattle.bridge_auction.specs.Spelling.{call_text}
use Rattle.bridge_movement.specs.declared.row.Row.{Row}
use Rattle.bridge_play.specs.Play.{PlayValue}
use Rattle.session_rules.specs.Average.{percent_of}
use Rattle.session_rules.specs.declared.outcome.Outcome.{Outcome}
use Rattle.session_rules.specs.declared.outcome.Outcome.TheVariants.{Played, Adjusted, Assigned}
use Rattle.session_rules.specs.Record.{PlainRecord, bidding_of, play_of}
use Rattle.session_rules.specs.State.{SessionValue, hands_on}
use Rattle.bridge_results.specs.declared.compare.Comparison.{Comparison}
use Rattle.bridge_results.specs.declared.play.TablePlay.{TablePlay}
use Rattle.bridge_results.specs.declared.traveller.BoardLine.{BoardLine}
use Rattle.bridge_results.specs.HtmlBoard.{gain_for}
use Rattle.bridge_results.specs.HtmlCells.{gain_share}
use Rattle.bridge_results.specs.HtmlCourse.{shown_record}
use Rattle.bridge_results.specs.PlayCells.{contract_cell, declarer_cell, lead_cell, gain_cell, line_score}
use Rattle.serde_json.specs.Data.{Data, null, string, array, object, item, no_items, member, no_members}
use Rattle.results_object.specs.Values.{text_data, count_data, number_data, percent_data, list_data}

-- who met, when and where
abbrev pub row_data : Row → Data
row_data row = object (member (codes "ew") (count_data row.ew) (member (codes "ns") (count_data row.ns)
    (member (codes "round") (count_data row.round) (member (codes "table") (count_data row.table) no_members))))

-- declarer's tricks, those of a ruling where there is one
abbrev pub tricks_data : Outcome → Data
tricks_data (Played contract tricks) = count_data tricks
tricks_data (Assigned contract tricks) = count_data tricks
tricks_data _ = null

-- the averages that were awarded in place of a score: to North and South, and to East and West, in per cent
abbrev pub averages_data : Outcome → Data
averages_data (Adjusted ns ew) = array (item (count_data (percent_of ns)) (item (count_data (percent_of ew)) no_items))
averages_data _ = null

-- the contract or what else came of the play, declarer, the opening lead, and the tricks
abbrev pub result_data : TablePlay → Data
result_data play = object (member (codes "contract") (text_data (contract_cell play.outcome))
    (member (codes "declarer") (text_data (declarer_cell play.outcome)) (member (codes "lead") (text_data (lead_cell play.lead))
    (member (codes "tricks") (tricks_data play.outcome) no_members))))

-- what a side gained, if anything can be
abbrev pub gain_of : Bool → Option Comparison → Option ℤ
gain_of ns comparison = option_map (gain_for ns) comparison

-- the same in hundredths of a per cent of what was available, by matchpoints
abbrev pub share_of : Scoring → ℕ → Option ℤ → Option ℕ
share_of MatchPoints available gain = option_and_then (λ (gained : ℤ). gain_share gained available) gain
share_of Imps available gain = None

-- what a side gained, and the same in per cent
abbrev pub gain_data : Scoring → ℕ → Option ℤ → Data
gain_data scoring available gain = object (member (codes "percent") (percent_data (share_of scoring available gain))
    (member (codes "points") (text_data (gain_cell scoring gain)) no_members))

-- a call
abbrev pub call_data : Call → Data
call_data call = string (call_text call)

-- a card
abbrev pub card_data : ℕ → Data
card_data card = text_data (card_text card)

-- the cards of a play, if it has begun
abbrev pub cards_of : Option PlayValue → List ℕ
cards_of played = option_map_or (λ (known : PlayValue). known.cards) played []

-- the calls and the cards
abbrev pub course_data : AuctionValue → Option PlayValue → Data
course_data auction played = object (member (codes "calls") (list_data call_data auction.calls)
    (member (codes "cards") (list_data card_data (cards_of played)) no_members))

-- those of a record
abbrev pub recorded_data : SessionValue → PlainRecord → Data
recorded_data s plain = course_data (bidding_of plain) (play_of (hands_on s.deals plain.board) plain)

-- those of the record that is found, or null
abbrev pub found_data : SessionValue → Option PlainRecord → Data
found_data s found = option_map_or (recorded_data s) found null

-- a play
abbrev pub play_data : SessionValue → ℕ → BoardLine → Data
play_data s available line = object (member (codes "averages") (averages_data line.play.outcome)
    (member (codes "course") (found_data s (shown_record s line.play))
    (member (codes "ew") (gain_data s.configuration.scoring available (gain_of false line.comparison))
    (member (codes "ns") (gain_data s.configuration.scoring available (gain_of true line.comparison))
    (member (codes "result") (result_data line.play) (member (codes "row") (row_data line.play.row)
    (member (codes "score") (number_data (line_score line.comparison)) no_members)))))))
