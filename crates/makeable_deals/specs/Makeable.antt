-- What is written of a deal: the tricks that each declarer takes in each denomination, and par.
use Rattle.std.specs.Prelude.{ℕ, List, [], ◌∷◌, ◌++◌, codes, flat_map, ℤ, Option, Some, None}
use Rattle.std.specs.Fmt.{decimal, signed_decimal}
use Rattle.bridge_cards.specs.declared.seat.Seat.{Seat}
use Rattle.bridge_cards.specs.declared.seat.Seat.TheVariants.{North, East, South, West}
use Rattle.bridge_cards.specs.declared.suit.Suit.{Suit}
use Rattle.bridge_cards.specs.declared.suit.Suit.TheVariants as suit
use Rattle.bridge_cards.specs.Seat.{seat_letter}
use Rattle.bridge_auction.specs.Spelling.{contract_text}
use Rattle.bridge_endings.specs.DealTricks.{declarer_tricks}
use Rattle.bridge_par.specs.declared.tricks.DeclarerTricks.{DeclarerTricks}
use Rattle.bridge_par.specs.declared.tricks.TrickTable.{TrickTable}
use Rattle.bridge_par.specs.declared.par_contract.ParContract.{ParContract}
use Rattle.bridge_par.specs.Tricks.{tricks_by}
use Rattle.bridge_par.specs.Par.{par_score, par_contracts}
use Rattle.makeable_deals.specs.declared.board_deal.BoardDeal.{BoardDeal}

-- ---- the tricks

-- those of the declarers where that suit is trumps, or none is, by plain minimax over all the cards
unfoldable pub declarers_with : List ℕ → Option Suit → DeclarerTricks
declarers_with hands trump = record {
  north = declarer_tricks trump hands North;
  east = declarer_tricks trump hands East;
  south = declarer_tricks trump hands South;
  west = declarer_tricks trump hands West;
}

-- those in all denominations
unfoldable pub table_of : List ℕ → TrickTable
table_of hands = record {
  clubs = declarers_with hands (Some suit.Clubs);
  diamonds = declarers_with hands (Some suit.Diamonds);
  hearts = declarers_with hands (Some suit.Hearts);
  spades = declarers_with hands (Some suit.Spades);
  no_trump = declarers_with hands None;
}

-- ---- the lines

-- a number behind a space
abbrev pub number_behind : ℕ → List ℕ
number_behind number = codes " " ++ decimal number

-- a declarer's tricks in clubs, diamonds, hearts, spades and no trump, as `1 N 10 4 9 8 9`
unfoldable pub declarer_line : ℕ → TrickTable → Seat → List ℕ
declarer_line board table seat =
    (((((((decimal board ++ codes " ") ++ seat_letter seat ∷ []) ++ number_behind (tricks_by table.clubs seat))
    ++ number_behind (tricks_by table.diamonds seat)) ++ number_behind (tricks_by table.hearts seat))
    ++ number_behind (tricks_by table.spades seat)) ++ number_behind (tricks_by table.no_trump seat)) ++ codes "\n"

-- a contract behind a space
abbrev pub contract_behind : ParContract → List ℕ
contract_behind reaching = codes " " ++ contract_text reaching.contract

-- the par score of North and South and the contracts that reach it, as `1 PAR 600 3NT N 3NT S`
unfoldable pub par_line : ℕ → ℤ → List ParContract → List ℕ
par_line board score contracts =
    (((decimal board ++ codes " PAR ") ++ signed_decimal score) ++ flat_map contract_behind contracts) ++ codes "\n"

-- that of a deal where the declarers take those tricks
abbrev pub par_text : BoardDeal → TrickTable → List ℕ
par_text deal table =
    let score = par_score table deal.vulnerability deal.dealer in
    par_line deal.board score (par_contracts table deal.vulnerability score)

-- the lines of a deal: the declarers', North's first and then clockwise, and par's
unfoldable pub lines_with : BoardDeal → TrickTable → List ℕ
lines_with deal table =
    (((declarer_line deal.board table North ++ declarer_line deal.board table East) ++ declarer_line deal.board table South)
    ++ declarer_line deal.board table West) ++ par_text deal table

-- a deal's lines
abbrev pub deal_lines : BoardDeal → List ℕ
deal_lines deal = lines_with deal (table_of deal.deal)

-- the lines of all deals, in order
abbrev pub makeable_text : List BoardDeal → List ℕ
makeable_text deals = flat_map deal_lines deals
