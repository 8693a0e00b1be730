-- A key has one view.
use Rattle.std.proofs.Common.{◌≡◌, ℕ, Result, Ok, sym, ◌∙◌, subst}
use Rattle.bridge_cards.specs.declared.seat.Seat.{Seat}
use Rattle.session_rules.specs.declared.seating.Seating.{Seating}
use Rattle.session_rules.specs.declared.view.View.{View}
use Rattle.session_rules.specs.State.{SessionValue}
use Rattle.session_rules.specs.See.{Shown}
use Rattle.session_rules.specs.Views.{IsViewOf, IsViewTo, ShowSame}

-- an answer has one value
ok_same : {A E : Type 0} (answer : Result A E) (x y : A) → answer ≡ Ok x → answer ≡ Ok y → x ≡ y
ok_same answer x y a b = cc

-- views that are made of the same show the same
made_same : (round table : ℕ) (seat : Seat) (shown : Shown) (one other : View) → IsViewOf round table seat shown one → IsViewOf round table seat shown other → ShowSame one other
made_same round table seat shown one other a b = record {
  round = a.round_is ∙ sym b.round_is;
  table = a.table_is ∙ sym b.table_is;
  index = a.index ∙ sym b.index;
  board = a.board ∙ sym b.board;
  seat = a.seat_is ∙ sym b.seat_is;
  dealer = a.dealer ∙ sym b.dealer;
  vulnerability = a.vulnerability ∙ sym b.vulnerability;
  in_play = a.in_play ∙ sym b.in_play;
  turn = a.turn ∙ sym b.turn;
  calls_made = a.calls_made ∙ sym b.calls_made;
  cards_made = a.cards_made ∙ sym b.cards_made;
  claims_made = a.claims_made ∙ sym b.claims_made;
  hand = a.hand ∙ sym b.hand;
  dummy = a.dummy ∙ sym b.dummy;
  calls = a.calls ∙ sym b.calls;
  trick = a.trick ∙ sym b.trick;
  last = a.last ∙ sym b.last;
  tricks_ns = a.tricks_ns ∙ sym b.tricks_ns;
  tricks_ew = a.tricks_ew ∙ sym b.tricks_ew;
  claim = a.claim ∙ sym b.claim;
}

pub one_view : (s : SessionValue) (key : ℕ) (one other : View) → IsViewTo s key one → IsViewTo s key other → ShowSame one other
one_view s key one other a b =
    let seating = ok_same _ a.seating b.seating a.sits b.sits in
    let shown = ok_same _ a.shown b.shown a.allowed b.allowed in
    made_same s.round b.seating.table b.seating.seat b.shown one other
    (subst (λ (x : Shown). IsViewOf s.round b.seating.table b.seating.seat x one) shown
    (subst (λ (x : Seating). IsViewOf s.round x.table x.seat a.shown one) seating a.fields))
    b.fields
