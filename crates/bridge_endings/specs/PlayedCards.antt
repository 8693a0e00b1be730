-- A whole deal that is played: what comes of the cards so far where both sides then play for as many tricks as they can, and what
-- each card gave away.
use Rattle.std.specs.Prelude.{◌≡◌, ℕ, ◌+◌, ◌-◌, ◌*◌, ◌<◌, ◌≤◌, ◌==◌, Bool, true, ◌&&◌, if◌then◌else◌, List, [], ◌∷◌, ◌++◌, length, Option}
use Rattle.bridge_cards.specs.declared.suit.Suit.{Suit}
use Rattle.bridge_cards.specs.declared.seat.Seat.{Seat}
use Rattle.bridge_cards.specs.declared.seat.Side.{Side}
use Rattle.bridge_cards.specs.declared.seat.Side.TheVariants.{NorthSouth, EastWest}
use Rattle.bridge_cards.specs.Seat.{clockwise_from, side_of, other_side, plays_for}
use Rattle.bridge_cards.specs.CardSet.{card_count}
use Rattle.bridge_cards.specs.Trick.{next_leader}
use Rattle.bridge_endings.specs.declared.card_cost.CardCost.{CardCost}
use Rattle.bridge_endings.specs.declared.moment.Moment as code
use Rattle.bridge_endings.specs.Worth.{dealt, may_be_played, after_playing, trick_for, worth_with}
use Rattle.bridge_endings.specs.Left.{left_to}
use Rattle.bridge_endings.specs.Agree.{IsDealtOut}
use Rattle.bridge_endings.specs.DealTricks.{tricks_of, declarer_tricks}

-- a moment of the play: what each seat holds, who led to the trick, the trick's cards so far, how many cards are still to be
-- played, and how many tricks North and South have won
pub record Moment : Type 0 where
  pub held : Seat → ℕ → Bool
  pub leader : Seat
  pub trick : List ℕ
  pub left : ℕ
  pub won : ℕ

-- nobody has played, and the seat to the declarer's left leads (Law 41)
abbrev pub first_moment : List ℕ → Seat → Moment
first_moment hands declarer = record { held = dealt hands; leader = clockwise_from declarer 1; trick = []; left = 52; won = 0 }

-- the hand to play
abbrev pub turn_at : Moment → Seat
turn_at moment = clockwise_from moment.leader (length moment.trick)

-- whether that hand may play the card (Law 44)
abbrev pub may_play : Moment → ℕ → Bool
may_play moment card = may_be_played (moment.held (turn_at moment)) moment.trick card

-- the moment once it has played the card: a whole trick counts for the side of its winner, who leads to the next
abbrev pub after_card : Option Suit → Moment → ℕ → Moment
after_card trump moment card =
    let held = after_playing card moment.held in
    let trick = moment.trick ++ card ∷ [] in
    let winner = next_leader trump moment.leader trick in
    if length trick == 4
    then record { held = held; leader = winner; trick = []; left = moment.left - 1; won = moment.won + trick_for (side_of winner) }
    else record { held = held; leader = moment.leader; trick = trick; left = moment.left - 1; won = moment.won }

-- the moment after these cards
abbrev pub after_cards : Option Suit → Moment → List ℕ → Moment
after_cards trump moment [] = moment
after_cards trump moment (card ∷ cards) = after_cards trump (after_card trump moment card) cards

-- whether each of the cards may be played in its turn
abbrev pub are_legal : Option Suit → Moment → List ℕ → Bool
are_legal trump moment [] = true
are_legal trump moment (card ∷ cards) = may_play moment card && are_legal trump (after_card trump moment card) cards

-- the tricks of North and South in the whole deal: those that they have won, and of the rest those that they win where both
-- sides play for as many as they can
abbrev pub won_in_all : Option Suit → Moment → ℕ
won_in_all trump moment = moment.won + worth_with trump moment.left moment.held moment.leader moment.trick

-- the tricks of the declarer's side in the whole deal, where it begins with these cards
abbrev pub tricks_after : Option Suit → List ℕ → Seat → List ℕ → ℕ
tricks_after trump hands declarer cards = tricks_of (side_of declarer) (won_in_all trump (after_cards trump (first_moment hands declarer) cards))

-- ---- costs

-- what a card gives away for the side that plays it, by the tricks of North and South in all before it and after it
abbrev pub given_away : Side → ℕ → ℕ → ℕ
given_away NorthSouth before after = before - after
given_away EastWest before after = after - before

-- no card brings its side more than it had before
abbrev pub IsNoBetter : Side → ℕ → ℕ → Type 0
IsNoBetter NorthSouth before after = after ≤ before
IsNoBetter EastWest before after = before ≤ after

-- a card, the seat that plays it, and the tricks that it gives away
abbrev pub cost_of : Option Suit → Moment → ℕ → CardCost
cost_of trump moment card = record {
  card = card;
  seat = turn_at moment;
  tricks = given_away (side_of (turn_at moment)) (won_in_all trump moment) (won_in_all trump (after_card trump moment card));
}

-- the same of each of the cards
abbrev pub costs_of : Option Suit → Moment → List ℕ → List CardCost
costs_of trump moment [] = []
costs_of trump moment (card ∷ cards) = cost_of trump moment card ∷ costs_of trump (after_card trump moment card) cards

-- the tricks that a side gave away
abbrev pub given_by : Side → List CardCost → ℕ
given_by side [] = 0
given_by side (cost ∷ costs) = (if plays_for side cost.seat then cost.tricks else 0) + given_by side costs

-- what North and South have in all before the cards, with what East and West give away by them, is what they have after them with
-- what they give away themselves
abbrev pub IsExplained : Option Suit → Moment → Moment → List CardCost → Type 0
IsExplained trump before after costs =
    won_in_all trump before + given_by EastWest costs ≡ won_in_all trump after + given_by NorthSouth costs

-- the same of the declarer's side and its opponents, in a deal that begins with the cards
abbrev pub ExplainsTricks : Option Suit → List ℕ → Seat → List ℕ → List CardCost → Type 0
ExplainsTricks trump hands declarer cards costs =
    declarer_tricks trump hands declarer + given_by (other_side (side_of declarer)) costs
    ≡ tricks_after trump hands declarer cards + given_by (side_of declarer) costs

-- ---- what the code keeps of a moment

abbrev pub seen : code.Moment → Moment
seen moment = record {
  held = left_to moment.hands moment.left;
  leader = moment.trick.leader;
  trick = moment.trick.cards;
  left = card_count moment.left;
  won = moment.won;
}

-- what holds of it
pub record IsMoment (trump : Option Suit) (moment : code.Moment) : Type 0 where
  pub trump_is : moment.trick.trump ≡ trump
  pub dealt_out : IsDealtOut (left_to moment.hands moment.left)
  pub part : length moment.trick.cards < 4
  pub many : 4 * moment.tricks ≡ card_count moment.left + length moment.trick.cards
  pub few : moment.won + moment.tricks ≤ 13
