-- What the view of a player depends on: two sessions that agree there.
use Rattle.std.specs.Prelude.{◌≡◌, ◌≢◌, ℕ, length, List, [], slice_get, Option, None, Some, Ok}
use Rattle.std.specs.Option.{option_map_or}
use Rattle.bridge_cards.specs.declared.seat.Seat.{Seat}
use Rattle.bridge_cards.specs.declared.seat.Side.{Side}
use Rattle.bridge_play.specs.Dummy.{dummy_of}
use Rattle.bridge_play.specs.Play.{PlayValue}
use Rattle.bridge_play.specs.Trick.{whole_tricks, tricks_won}
use Rattle.session_rules.specs.declared.seating.Seating.{Seating}
use Rattle.session_rules.specs.Record.{PlainRecord, play_of}
use Rattle.session_rules.specs.State.{SessionValue, Deals, deal_on, row_at, current_index, seating_of}
use Rattle.session_rules.specs.See.{cards_left, plain_trick, last_trick}

-- Two plays of cards look alike: as many cards and claims, the claim, the trick that is not whole, the last whole trick, the
-- tricks of both sides, and once a card was played the cards left to dummy.
pub record PlaysLookAlike (p q : PlayValue) : Type 0 where
  pub cards_made : length p.cards ≡ length q.cards
  pub claims_made : p.claims ≡ q.claims
  pub claim : p.claim ≡ q.claim
  pub trick : plain_trick p.contract p.cards (whole_tricks p.cards) ≡ plain_trick q.contract q.cards (whole_tricks q.cards)
  pub last : last_trick p.contract p.cards ≡ last_trick q.contract q.cards
  pub tricks : (side : Side) → tricks_won p.contract p.cards side (whole_tricks p.cards) ≡ tricks_won q.contract q.cards side (whole_tricks q.cards)
  pub dummy : length p.cards ≢ 0 → cards_left p.hands p.cards (dummy_of p.contract) ≡ cards_left q.hands q.cards (dummy_of q.contract)

-- both have a contract, or neither
abbrev pub CardsLookAlike : Option PlayValue → Option PlayValue → Type 0
CardsLookAlike None None = Unit {0}
CardsLookAlike None (Some q) = ⊥
CardsLookAlike (Some p) None = ⊥
CardsLookAlike (Some p) (Some q) = PlaysLookAlike p q

-- the cards that were played, once there is a contract
abbrev pub cards_in : Option PlayValue → List ℕ
cards_in play = option_map_or (λ (p : PlayValue). p.cards) play []

-- Two records with those hands look alike from a seat: they are of one board, with the same calls, the same cards are left to
-- the seat, and the plays look alike. Of the cards of the other hands nothing is said.
pub record RecordsLookAlike (seat : Seat) (hands : List ℕ) (a : PlainRecord) (others : List ℕ) (b : PlainRecord) : Type 0 where
  pub board : a.board ≡ b.board
  pub calls : a.calls ≡ b.calls
  pub hand : cards_left hands (cards_in (play_of hands a)) seat ≡ cards_left others (cards_in (play_of others b)) seat
  pub play : CardsLookAlike (play_of hands a) (play_of others b)

-- both boards are dealt, or neither
abbrev pub DealtLookAlike : Seat → PlainRecord → Option (List ℕ) → PlainRecord → Option (List ℕ) → Type 0
DealtLookAlike seat a None b None = Unit {0}
DealtLookAlike seat a None b (Some others) = ⊥
DealtLookAlike seat a (Some hands) b None = ⊥
DealtLookAlike seat a (Some hands) b (Some others) = RecordsLookAlike seat hands a others b

-- both tables have a current play, or neither
abbrev pub CurrentLookAlike : Seat → Deals → Option PlainRecord → Deals → Option PlainRecord → Type 0
CurrentLookAlike seat deals None others None = Unit {0}
CurrentLookAlike seat deals None others (Some b) = ⊥
CurrentLookAlike seat deals (Some a) others None = ⊥
CurrentLookAlike seat deals (Some a) others (Some b) = DealtLookAlike seat a (deal_on deals a.board) b (deal_on others b.board)

-- the current plays of two tables look alike
pub record TablesLookAlike (seat : Seat) (deals : Deals) (records : List PlainRecord) (others : Deals) (plays : List PlainRecord) : Type 0 where
  pub index : current_index records ≡ current_index plays
  pub current : CurrentLookAlike seat deals (slice_get records (current_index records)) others (slice_get plays (current_index plays))

-- Two sessions have one configuration and one round, and where the player of the key sits in it, the current plays of that
-- table look alike from the player's seat.
pub record LookAlikeTo (key : ℕ) (s t : SessionValue) : Type 0 where
  pub configuration : s.configuration ≡ t.configuration
  pub round : s.round ≡ t.round
  pub table : (seating : Seating) → seating_of s.configuration s.round key ≡ Ok seating →
      TablesLookAlike seating.seat s.deals (row_at s.records seating.row) t.deals (row_at t.records seating.row)
