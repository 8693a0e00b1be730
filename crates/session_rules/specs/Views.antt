-- What contracts see of a view.
use Rattle.std.specs.Prelude.{◌≡◌, ◌≤◌, ℕ, length, is_some, option_and_then, List, Ok}
use Rattle.std.specs.Option.{option_map, option_map_or}
use Rattle.bridge_cards.specs.declared.seat.Seat.{Seat}
use Rattle.bridge_cards.specs.Board.{dealer_of, vulnerability_on}
use Rattle.bridge_cards.specs.CardSet.{cards_of}
use Rattle.bridge_play.specs.declared.claim.Claim.{Claim}
use Rattle.session_rules.specs.declared.seating.Seating.{Seating}
use Rattle.session_rules.specs.declared.view.Trick.{Trick}
use Rattle.session_rules.specs.declared.view.View.{View}
use Rattle.session_rules.specs.Record.{PlainRecord}
use Rattle.session_rules.specs.State.{SessionValue, Deals, seating_of}
use Rattle.session_rules.specs.See.{PlainTrick, Shown, ShownPlay, shown_turn, shown_among, shown_to}

-- a trick as it is shown
abbrev pub plain_seen : Trick → PlainTrick
plain_seen trick = record { leader = trick.leader; cards = trick.cards.items }

-- Each field of a view is made of what may be shown, of the round and of where the viewer sits. No auction has more than
-- 319 calls.
pub record IsViewOf (round table : ℕ) (seat : Seat) (shown : Shown) (view : View) : Type 0 where
  pub round_is : view.play.round ≡ round
  pub table_is : view.play.table ≡ table
  pub index : view.play.index ≡ shown.index
  pub board : view.board ≡ shown.board
  pub seat_is : view.seat ≡ seat
  pub dealer : view.dealer ≡ dealer_of shown.board
  pub vulnerability : view.vulnerability ≡ vulnerability_on shown.board
  pub in_play : view.in_play ≡ is_some shown.play
  pub turn : view.turn ≡ shown_turn shown shown.play
  pub calls_made : view.calls_made ≡ length shown.calls
  pub cards_made : view.cards_made ≡ shown.cards_made
  pub claims_made : view.claims_made ≡ shown.claims_made
  pub hand : cards_of view.hand ≡ shown.hand
  pub dummy : option_map cards_of view.dummy ≡ option_and_then (λ (play : ShownPlay). play.dummy) shown.play
  pub calls : view.calls.now ≡ shown.calls
  pub few : length view.calls.now ≤ 319
  pub trick : option_map plain_seen view.trick ≡ option_map (λ (play : ShownPlay). play.trick) shown.play
  pub last : option_map plain_seen view.last ≡ option_and_then (λ (play : ShownPlay). play.last) shown.play
  pub tricks_ns : view.tricks_ns ≡ option_map_or (λ (play : ShownPlay). play.tricks_ns) shown.play 0
  pub tricks_ew : view.tricks_ew ≡ option_map_or (λ (play : ShownPlay). play.tricks_ew) shown.play 0
  pub claim : view.claim ≡ option_map (λ (claim : Claim). (claim.claimer, claim.tricks)) shown.claim

-- the view shows what may be shown among the records of a table to that seat
pub record IsViewAmong (deals : Deals) (records : List PlainRecord) (round table : ℕ) (seat : Seat) (view : View) : Type 0 where
  pub shown : Shown
  pub allowed : shown_among deals seat records ≡ Ok shown
  pub fields : IsViewOf round table seat shown view

-- the view shows what may be shown to the player of the key, where that player sits
pub record IsViewTo (s : SessionValue) (key : ℕ) (view : View) : Type 0 where
  pub seating : Seating
  pub sits : seating_of s.configuration s.round key ≡ Ok seating
  pub shown : Shown
  pub allowed : shown_to s key ≡ Ok shown
  pub fields : IsViewOf s.round seating.table seating.seat shown view

-- two views show the same
pub record ShowSame (one other : View) : Type 0 where
  pub round : one.play.round ≡ other.play.round
  pub table : one.play.table ≡ other.play.table
  pub index : one.play.index ≡ other.play.index
  pub board : one.board ≡ other.board
  pub seat : one.seat ≡ other.seat
  pub dealer : one.dealer ≡ other.dealer
  pub vulnerability : one.vulnerability ≡ other.vulnerability
  pub in_play : one.in_play ≡ other.in_play
  pub turn : one.turn ≡ other.turn
  pub calls_made : one.calls_made ≡ other.calls_made
  pub cards_made : one.cards_made ≡ other.cards_made
  pub claims_made : one.claims_made ≡ other.claims_made
  pub hand : cards_of one.hand ≡ cards_of other.hand
  pub dummy : option_map cards_of one.dummy ≡ option_map cards_of other.dummy
  pub calls : one.calls.now ≡ other.calls.now
  pub trick : option_map plain_seen one.trick ≡ option_map plain_seen other.trick
  pub last : option_map plain_seen one.last ≡ option_map plain_seen other.last
  pub tricks_ns : one.tricks_ns ≡ other.tricks_ns
  pub tricks_ew : one.tricks_ew ≡ other.tricks_ew
  pub claim : one.claim ≡ other.claim
