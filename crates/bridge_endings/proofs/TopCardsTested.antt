-- Top cards at each position that agrees with this one in them, what the tests of them tell, and the answer that they give.
use Rattle.std.proofs.Common.{◌≡◌, ℕ, ◌*◌, ◌<◌, ◌≤◌, inl, Bool, true, false, not, ◌&&◌, count_by, List, [], ◌∷◌, Option, sym, ap, ◌∙◌, arith}
use Rattle.std.proofs.Math.Path.{fun_ext}
use Rattle.std.proofs.lemmas.Bool.{and_parts}
use Rattle.bridge_cards.specs.declared.suit.Suit.{Suit}
use Rattle.bridge_cards.specs.declared.seat.Seat.{Seat}
use Rattle.bridge_cards.specs.Seat.{clockwise_from, same_seat, side_of}
use Rattle.bridge_cards.specs.CardSet.{has_card, deck, card_count}
use Rattle.bridge_cards.specs.Trick.{is_trump}
use Rattle.bridge_cards.proofs.CardSetLaws.{has_card-zero}
use Rattle.bridge_endings.specs.Worth.{dealt}
use Rattle.bridge_endings.specs.Left.{left_to, is_sought}
use Rattle.bridge_endings.specs.Agree.{IsDealtOut, IsUpward, Settles}
use Rattle.bridge_endings.specs.SearchValue.{IsAnswer}
use Rattle.bridge_endings.specs.Sure.{AreUnbeaten, AreApart}
use Rattle.bridge_endings.specs.Trumps.{held_of, HasEach, FourHave, IsSettledBy}
use Rattle.bridge_endings.proofs.Seats.{first_place, other_place}
use Rattle.bridge_endings.proofs.Agreeing.{suit_back, agree_back}
use Rattle.bridge_endings.proofs.Partners.{partner as card_like}
use Rattle.bridge_endings.proofs.AgreedTrick.{counted_above}
use Rattle.bridge_endings.proofs.SureCard.{no_ruff, left_not_in_hand}
use Rattle.bridge_endings.proofs.TopTrumps.{settled_more}
use Rattle.bridge_endings.proofs.TrumpsThere.{all_same, counted_same}
use Rattle.bridge_endings.proofs.TrumpsTested.{counted, each_seat}
use Rattle.bridge_endings.proofs.TopCards.{tops_run}

-- what top cards settle
pub tops_settle : (trump : Option Suit) (tops : ℕ → Bool) → IsUpward tops → (held : Seat → ℕ → Bool) → IsDealtOut held → (leader : Seat) → AreUnbeaten trump tops held leader → (won : ℕ) → won ≤ held_of tops (held leader) → (tricks need : ℕ) → HasEach held tricks → IsSettledBy (side_of leader) won tricks need
    → Settles trump (4 * tricks) need tops (is_sought (side_of leader)) held leader []
tops_settle trump tops upward held out leader unbeaten won many tricks need each settled other out_too [] same same_trick =
    tops_run trump tops leader tricks other out_too
    (λ card top own k more few c there.
    let like = card_like tops other held (agree_back tops held other same) (clockwise_from leader k) c (out_too.inside (clockwise_from leader k) c there) there in
    counted_above trump tops upward card card c like.0 top like.2 ∙ unbeaten card top (same.high leader card top ∙ own) k more few like.0 like.1)
    (λ s. sym (all_same tops held other out out_too same s) ∙ each s)
    need
    (settled_more (side_of leader) won (held_of tops (other leader)) tricks need (omega (arith, many, counted_same tops held other out out_too same leader)) settled)
tops_settle trump tops upward held out leader unbeaten won many tricks need each settled other out_too (c ∷ played) same same_trick = absurd (omega (arith, same_trick.long))

-- the cards of two sets, counted
pub many_common : (tops own common won : ℕ) → ((card : ℕ) → has_card common card ≡ (has_card tops card && has_card own card)) → won ≤ card_count common → won ≤ held_of (has_card tops) (has_card own)
many_common tops own common won commons enough =
    omega (arith, enough, counted common, ap (λ p. count_by p deck) (fun_ext {B = λ _. Bool} commons))

not_both : (a b both : Bool) → both ≡ (a && b) → both ≡ false → a ≡ true → b ≡ false
not_both true b both is none does = sym is ∙ none
not_both false b both is none does = cc

-- what two sets have in common, where that is nothing
pub apart_if : (tops others common : ℕ) → ((card : ℕ) → has_card common card ≡ (has_card tops card && has_card others card)) → common ≡ 0 → AreApart others tops
apart_if tops others common commons none card top =
    not_both (has_card tops card) (has_card others card) (has_card common card) (commons card) (ap (λ cards. has_card cards card) none ∙ has_card-zero card) top

-- the answer by the cards of the leader that are above the others', where no other hand has a trump
module _ (hands : List ℕ) (trump : Option Suit) (left : ℕ) (out : IsDealtOut (left_to hands left)) (leader : Seat) (own others tops : ℕ) (owns : (card : ℕ) → has_card own card ≡ left_to hands left leader card) (rest : (card : ℕ) → has_card others card ≡ (has_card left card && not (has_card own card))) (none : (card : ℕ) → has_card others card ≡ true → is_trump trump card ≡ false) (upward : IsUpward (has_card tops)) (apart : AreApart others tops) where
  -- what another seat holds is among the others
  among : (k : ℕ) → 0 < k → k < 4 → (card : ℕ) → left_to hands left (clockwise_from leader k) card ≡ true → has_card others card ≡ true
  among k more few card has =
      let seat : Seat = clockwise_from leader k in
      let differs : same_seat leader seat ≡ false = ap (λ (s : Seat). same_seat s seat) (sym (first_place leader)) ∙ other_place leader k 0 few (omega arith) (λ e. omega (arith, e, more)) in
      rest card ∙ left_not_in_hand (has_card left card) (has_card own card) ((and_parts (dealt hands seat card) (has_card left card) has).1) (owns card ∙ out.once seat card has leader differs)

  unbeaten : AreUnbeaten trump (has_card tops) (left_to hands left) leader
  unbeaten card top has k more few other there =
      let is_other = among k more few other there in
      no_ruff trump card other
      (λ suited higher. let never = sym is_other ∙ apart other (upward card other (suit_back other card suited) higher top) in cc)
      (inl (none other is_other))

  pub tops_answer : (won best : ℕ) → won ≤ held_of (has_card tops) (has_card own) → (tricks need : ℕ) → FourHave (left_to hands left) tricks → IsSettledBy (side_of leader) won tricks need → (reached : Bool) → reached ≡ is_sought (side_of leader)
      → IsAnswer trump (4 * tricks) need (record { yes = reached; counts = tops; best = best }) (left_to hands left) leader []
  tops_answer won best many tricks need each settled reached sought =
      let same_own : held_of (has_card tops) (has_card own) ≡ held_of (has_card tops) (left_to hands left leader) = ap (λ p. count_by p deck) (fun_ext {B = λ _. Bool} (λ card. ap (λ b. has_card tops card && b) (owns card))) in
      record {
        upward = upward;
        settled = rw sought (tops_settle trump (has_card tops) upward (left_to hands left) out leader unbeaten won (omega (arith, many, same_own)) tricks need (each_seat (left_to hands left) tricks each) settled);
      }
