-- What is found of a session: what could be made on each board, and the tricks that cards gave away.
use Rattle.std.specs.Prelude.{◌≡◌, ℕ, if◌then◌else◌, List, [], flat_map, map, Option, None, Some, option_and_then}
use Rattle.std.specs.Option.{option_map, option_to_list}
use Rattle.std.specs.List.{range_with_len}
use Rattle.bridge_par.specs.declared.tricks.TrickTable.{TrickTable}
use Rattle.bridge_play.specs.Play.{PlayValue}
use Rattle.bridge_play.specs.Trick.{trump_of}
use Rattle.bridge_endings.specs.declared.card_cost.CardCost.{CardCost}
use Rattle.bridge_endings.specs.PlayedCards.{first_moment, are_legal, costs_of}
use Rattle.event_ranking.specs.Dealt.{first_deal}
use Rattle.makeable_deals.specs.Makeable.{table_of}
use Rattle.session_rules.specs.declared.action.PlayId.{PlayId}
use Rattle.session_rules.specs.Record.{PlainRecord, play_of}
use Rattle.session_rules.specs.State.{SessionValue, deal_on, hands_on, record_of}
use Rattle.bridge_results.specs.declared.makeable.Makeable.{Makeable}
use Rattle.bridge_results.specs.declared.analysis.PlayCosts.{PlayCosts}
use Rattle.bridge_results.specs.declared.play.TablePlay.{TablePlay}
use Rattle.bridge_results.specs.Plays.{plays_of}
use Rattle.bridge_results.specs.HtmlCourse.{shown_id}
use Rattle.bridge_results.specs.Costs.{Analysis}
use Rattle.session_analysis.specs.declared.found.Found.{Found}
use Rattle.session_analysis.specs.declared.found.Plays.{Plays}
use Rattle.session_analysis.specs.declared.found.Plays.TheVariants as asked

-- ---- what could be made

-- the tricks of each declarer in each denomination on boards 1 to 36, by plain minimax over all the cards, where they are dealt
unfoldable pub tables_of : SessionValue → List (Option TrickTable)
tables_of s = map (λ board. option_map table_of (deal_on s.deals board)) (range_with_len 1 36)

-- the tricks that are known of a board
abbrev pub seen_table : Option Makeable → Option TrickTable
seen_table found = option_map (λ (known : Makeable). known.table) found

-- these are what could be made on the boards of a session
abbrev pub AreBoardsOf : SessionValue → List (Option Makeable) → Type 0
AreBoardsOf s boards = map seen_table boards ≡ tables_of s

-- the same of several sections, by the deal of the first that has the board dealt
unfoldable pub event_tables_of : List SessionValue → List (Option TrickTable)
event_tables_of sections = map (λ board. option_map table_of (first_deal sections board)) (range_with_len 1 36)

-- these are what could be made on their boards
abbrev pub AreEventBoardsOf : List SessionValue → List (Option Makeable) → Type 0
AreEventBoardsOf sections boards = map seen_table boards ≡ event_tables_of sections

-- ---- what cards cost

-- the tricks that each of a play's cards gave away, where that deal was played and each card was legal
abbrev pub cards_cost : List ℕ → PlayValue → Option (List ℕ)
cards_cost hands play =
    if are_legal (trump_of play.contract) (first_moment hands play.contract.declarer) play.cards
    then Some (map (λ (cost : CardCost). cost.tricks) (costs_of (trump_of play.contract) (first_moment hands play.contract.declarer) play.cards))
    else None

-- the same, once there is a deal and a contract
abbrev pub play_cost : Option (List ℕ) → Option PlayValue → Option (List ℕ)
play_cost hands play = option_and_then (λ dealt. option_and_then (cards_cost dealt) play) hands

-- the play of that number, once it has a contract
abbrev pub played_by : SessionValue → PlayId → Option PlayValue
played_by s id = option_and_then (λ (plain : PlainRecord). play_of (hands_on s.deals plain.board) plain) (record_of s id)

-- the round, the table and the board of a play, and the tricks that each of its cards gave away
abbrev pub Known : Type 0
Known = (ℕ × ℕ × ℕ) × List ℕ

-- the same of a line of the results, by the play of that number
abbrev pub cost_by : SessionValue → TablePlay → PlayId → Option Known
cost_by s play id =
    option_map (λ cards. ((play.row.round, play.row.table, play.board), cards)) (play_cost (deal_on s.deals play.board) (played_by s id))

-- the same by its own number
abbrev pub cost_on : SessionValue → TablePlay → Option Known
cost_on s play = option_and_then (cost_by s play) (shown_id s.configuration play)

-- the same of all plays of which something came
unfoldable pub all_costs : SessionValue → List Known
all_costs s = flat_map (λ play. option_to_list (cost_on s play)) (plays_of s)

-- what is known of a play
abbrev pub seen_costs : PlayCosts → Known
seen_costs known = ((known.round, known.table, known.board), known.cards.items)

-- these are what the cards of the plays of a session cost
abbrev pub AreCostsOf : SessionValue → List PlayCosts → Type 0
AreCostsOf s plays = map seen_costs plays ≡ all_costs s

-- ---- both

-- what was found, as a page takes it
abbrev pub seen_found : Found → Analysis
seen_found found = record { boards = found.boards.items; plays = found.plays.items }

-- what was found of plays
abbrev pub AreAsked : Plays → SessionValue → List PlayCosts → Type 0
AreAsked asked.Found s plays = AreCostsOf s plays
AreAsked asked.LeftOut s plays = plays ≡ []

-- this is what is found of a session
abbrev pub IsAnalysisOf : Plays → SessionValue → Analysis → Type 0
IsAnalysisOf asked s analysis = AreBoardsOf s analysis.boards × AreAsked asked s analysis.plays
