-- Deals in a text: the tags Board, Dealer, Vulnerable and Deal of Portable Bridge Notation, each on a line of its own, and the
-- director's lines that deal a board, as `DEAL key board deal`. All other lines are passed over.
use Rattle.std.specs.Prelude.{ℕ, zero, suc, ◌≡◌, ◌⊎◌, ◌+◌, ◌-◌, ◌&&◌, nat_le, if◌then◌else◌, List, [], ◌∷◌, ◌++◌, length, take, drop, codes, Option, Some, None, unwrap_or, MatchOption, Result, Ok, Err}
use Rattle.std.specs.Option.{option_map}
use Rattle.std.specs.Str.{bytes_eq}
use Rattle.std.specs.Str.Parse.{digits_value}
use Rattle.std.specs.Str.Lines.{strip_carriage_return}
use Rattle.line_text.specs.Numeral.{is_numeral}
use Rattle.line_text.specs.Words.{spaced, spaced_words}
use Rattle.bridge_cards.specs.declared.seat.Seat.{Seat}
use Rattle.bridge_cards.specs.declared.seat.Seat.TheVariants.{North, East, South, West}
use Rattle.bridge_cards.specs.declared.vulnerability.Vulnerability.{Vulnerability}
use Rattle.bridge_cards.specs.declared.vulnerability.Vulnerability.TheVariants.{Neither, NorthSouth, EastWest, Both}
use Rattle.bridge_cards.specs.declared.deal.BadDeal.{BadDeal}
use Rattle.bridge_cards.specs.Board.{dealer_of, vulnerability_on}
use Rattle.bridge_cards.specs.BadDeal.{JudgesDealText}
use Rattle.makeable_deals.specs.declared.board_deal.BoardDeal.{BoardDeal}
use Rattle.makeable_deals.specs.declared.heading.Heading.{Heading}
use Rattle.makeable_deals.specs.declared.line_item.LineItem.{LineItem}
use Rattle.makeable_deals.specs.declared.line_item.LineItem.TheVariants as item
use Rattle.makeable_deals.specs.declared.refused.DealsFault.{DealsFault}
use Rattle.makeable_deals.specs.declared.refused.DealsFault.TheVariants.{Line, Memory}
use Rattle.makeable_deals.specs.declared.refused.DealsRefused.{DealsRefused}
use Rattle.makeable_deals.specs.declared.refused.DealsRefused.TheVariants as refused

-- ---- a tag on a line

-- what stands behind those bytes, where the line begins so
abbrev pub behind : List ℕ → List ℕ → Option (List ℕ)
behind start line = if bytes_eq (take (length start) line) start then Some (drop (length start) line) else None

-- without the quotation mark and the bracket at the end
abbrev pub without_end : List ℕ → List ℕ
without_end text =
    if bytes_eq (drop (length text - 2) text) (codes "\"]") then take (length text - 2) text else text

-- the value of the tag that begins so, as `[Board "`
abbrev pub value_in : List ℕ → List ℕ → Option (List ℕ)
value_in start line = option_map without_end (behind start line)

-- ---- what a value is

-- a board, 1 to 36
abbrev pub board_of : List ℕ → Option ℕ
board_of value =
    if is_numeral value && (nat_le 1 (digits_value 10 value) && nat_le (digits_value 10 value) 36)
    then Some (digits_value 10 value) else None

-- a seat, by its letter
abbrev pub seat_of : List ℕ → Option Seat
seat_of value =
    if bytes_eq value (codes "N") then Some North
    else if bytes_eq value (codes "E") then Some East
    else if bytes_eq value (codes "S") then Some South
    else if bytes_eq value (codes "W") then Some West
    else None

-- which sides are vulnerable, in any of the words for it
abbrev pub vulnerability_of : List ℕ → Option Vulnerability
vulnerability_of value =
    if bytes_eq value (codes "None") then Some Neither
    else if bytes_eq value (codes "Love") then Some Neither
    else if bytes_eq value (codes "-") then Some Neither
    else if bytes_eq value (codes "NS") then Some NorthSouth
    else if bytes_eq value (codes "EW") then Some EastWest
    else if bytes_eq value (codes "All") then Some Both
    else if bytes_eq value (codes "Both") then Some Both
    else None

-- ---- what a line says

-- what is found, or why it is refused
abbrev pub or_refused : {X : Type 0} → (X → LineItem) → DealsRefused → Option X → Result LineItem DealsRefused
or_refused says cause None = Err cause
or_refused says cause (Some x) = Ok (says x)

-- a deal, or any text that is none
abbrev pub ReadsDeal : List ℕ → Result LineItem DealsRefused → Type 0
ReadsDeal value result =
    ((hands : List ℕ) × JudgesDealText value (Ok hands) × (result ≡ Ok (item.Deal hands)))
    ⊎ ((cause : BadDeal) × JudgesDealText value (Err cause) × (result ≡ Err refused.Deal))

-- what a director's line deals: the word that is the board, and the text of the hands, which is the rest of the line
pub record Dealing : Type 0 where
  pub board : List ℕ
  pub hands : List ℕ

-- by the words behind `DEAL`, the first of which is the key
abbrev pub dealing_of : List (List ℕ) → Option Dealing
dealing_of (key ∷ board ∷ words) = Some (record { board = board; hands = spaced words })
dealing_of _ = None

-- the deal of a board, or any text that is none
abbrev pub ReadsDealt : Option ℕ → List ℕ → Result LineItem DealsRefused → Type 0
ReadsDealt None value result = result ≡ Err refused.Board
ReadsDealt (Some board) value result =
    ((hands : List ℕ) × JudgesDealText value (Ok hands) × (result ≡ Ok (item.Dealt board hands)))
    ⊎ ((cause : BadDeal) × JudgesDealText value (Err cause) × (result ≡ Err refused.Deal))

-- a line of the director's; one without a board deals nothing
abbrev pub ReadsDealing : Option Dealing → Result LineItem DealsRefused → Type 0
ReadsDealing None result = result ≡ Err refused.Board
ReadsDealing (Some dealing) result = ReadsDealt (board_of dealing.board) dealing.hands result

-- a line that is no tag
abbrev pub ReadsUntagged : List ℕ → Result LineItem DealsRefused → Type 0
ReadsUntagged line result = MatchOption (behind (codes "DEAL ") line) (result ≡ Ok item.Other)
    (λ rest. ReadsDealing (dealing_of (spaced_words rest)) result)

-- a line that is no tag of the first three
abbrev pub ReadsLast : List ℕ → Result LineItem DealsRefused → Type 0
ReadsLast line result = MatchOption (value_in (codes "[Deal \"") line) (ReadsUntagged line result) (λ value. ReadsDeal value result)

-- what a line says: a board, a dealer, who is vulnerable, a deal, or nothing of these
abbrev pub ReadsLine : List ℕ → Result LineItem DealsRefused → Type 0
ReadsLine line result =
    MatchOption (value_in (codes "[Board \"") line)
    (MatchOption (value_in (codes "[Dealer \"") line)
    (MatchOption (value_in (codes "[Vulnerable \"") line) (ReadsLast line result)
    (λ value. result ≡ or_refused item.Vulnerable refused.Vulnerable (vulnerability_of value)))
    (λ value. result ≡ or_refused item.Dealer refused.Dealer (seat_of value)))
    (λ value. result ≡ or_refused item.Board refused.Board (board_of value))

-- ---- the lines, one after another

-- no tag before a deal
abbrev pub no_heading : Heading
no_heading = record { board = None; dealer = None; vulnerability = None }

-- a board begins anew
abbrev pub heading_after : Heading → LineItem → Heading
heading_after heading (item.Board board) = record { board = Some board; dealer = None; vulnerability = None }
heading_after heading (item.Dealer seat) = record heading { dealer = Some seat }
heading_after heading (item.Vulnerable vulnerability) = record heading { vulnerability = Some vulnerability }
heading_after heading (item.Dealt board hands) = record { board = Some board; dealer = None; vulnerability = None }
heading_after heading _ = heading

-- a deal of a board; where a tag is missing, dealer and vulnerability are the board's (Law 2)
abbrev pub board_deal : Heading → ℕ → List ℕ → BoardDeal
board_deal heading board hands = record {
  board = board;
  dealer = unwrap_or heading.dealer (dealer_of board);
  vulnerability = unwrap_or heading.vulnerability (vulnerability_on board);
  deal = hands;
}

-- a deal is one more, where a board is known
abbrev pub with_deal : Heading → List BoardDeal → List ℕ → Option ℕ → Result (List BoardDeal) DealsRefused
with_deal heading found hands None = Err refused.NoBoard
with_deal heading found hands (Some board) = Ok (found ++ board_deal heading board hands ∷ [])

-- the deals with what a line says, under the heading with that
abbrev pub deals_after : Heading → List BoardDeal → LineItem → Result (List BoardDeal) DealsRefused
deals_after heading found (item.Deal hands) = with_deal heading found hands heading.board
deals_after heading found (item.Dealt board hands) = with_deal heading found hands heading.board
deals_after heading found _ = Ok found

-- a line is refused: its tag's value is none, or its deal has no board
abbrev pub RefusesLine : Heading → List BoardDeal → List ℕ → DealsRefused → Type 0
RefusesLine heading found line cause =
    ReadsLine (strip_carriage_return line) (Err cause)
    ⊎ ((says : LineItem) × ReadsLine (strip_carriage_return line) (Ok says) × (deals_after (heading_after heading says) found says ≡ Err cause))

-- a line is taken, and leaves this heading and these deals
abbrev pub TakesLine : Heading → List BoardDeal → List ℕ → Heading → List BoardDeal → Type 0
TakesLine heading found line after more =
    (says : LineItem) × ReadsLine (strip_carriage_return line) (Ok says) × (deals_after (heading_after heading says) found says ≡ Ok more)
    × (after ≡ heading_after heading says)

-- the fault of a line
abbrev pub fault_at : ℕ → DealsRefused → DealsFault
fault_at number cause = Line number cause

-- what one line does: it is taken; or memory or the line is refused
abbrev pub StepsBy : ℕ → Heading → List BoardDeal → List ℕ → Heading → List BoardDeal → Result (Unit {0}) DealsFault → Type 0
StepsBy number heading found line after more (Ok _) = TakesLine heading found line after more
StepsBy number heading found line after more (Err fault) =
    (fault ≡ Memory) ⊎ ((cause : DealsRefused) × RefusesLine heading found line cause × (fault ≡ fault_at number cause))

-- what a deal adds, or that there is no board or no memory
abbrev pub AddsDeal : ℕ → Heading → List ℕ → List BoardDeal → List BoardDeal → Result (Unit {0}) DealsFault → Type 0
AddsDeal number heading hands found more (Ok _) = with_deal heading found hands heading.board ≡ Ok more
AddsDeal number heading hands found more (Err fault) =
    (fault ≡ Memory) ⊎ ((cause : DealsRefused) × (with_deal heading found hands heading.board ≡ Err cause) × (fault ≡ fault_at number cause))

-- what a line's words add to heading and deals, likewise
abbrev pub TakesItem : ℕ → Heading → List BoardDeal → LineItem → Heading → List BoardDeal → Result (Unit {0}) DealsFault → Type 0
TakesItem number heading found says after more (Ok _) =
    (deals_after (heading_after heading says) found says ≡ Ok more) × (after ≡ heading_after heading says)
TakesItem number heading found says after more (Err fault) =
    (fault ≡ Memory) ⊎ ((cause : DealsRefused) × (deals_after (heading_after heading says) found says ≡ Err cause) × (fault ≡ fault_at number cause))

-- what the lines give of which the first has that number, where fewer than so many may come: the deals, or the first fault
unfoldable pub ReadsLines : ℕ → ℕ → Heading → List BoardDeal → List (List ℕ) → Result (List BoardDeal) DealsFault → Type 0
ReadsLines zero number heading found texts result = result ≡ Err (fault_at 100000 refused.TooManyLines)
ReadsLines (suc more) number heading found [] result = result ≡ Ok found
ReadsLines (suc more) number heading found (line ∷ texts) result =
    ((cause : DealsRefused) × RefusesLine heading found line cause × (result ≡ Err (fault_at number cause)))
    ⊎ ((after : Heading) × (deals : List BoardDeal) × TakesLine heading found line after deals
    × ReadsLines more (number + 1) after deals texts result)

-- what a text gives, of at most 99,999 lines: the line after them is too many; or memory was refused
abbrev pub ReadsDeals : List (List ℕ) → Result (List BoardDeal) DealsFault → Type 0
ReadsDeals texts result = (result ≡ Err Memory) ⊎ ReadsLines 100000 1 no_heading [] texts result
