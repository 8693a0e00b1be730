-- How answers are settled for all positions that agree: by a card that was found, by all cards, and by what is left after a trick.
use Rattle.std.proofs.Common.{◌≡◌, ℕ, suc, ◌+◌, ◌-◌, ◌*◌, ◌<◌, Bool, true, false, ◌==◌, nat_le, List, [], ◌∷◌, ◌++◌, length, Option, refl, sym, ap, ◌∙◌, arith}
use Rattle.std.proofs.lemmas.Bool.{le-leb}
use Rattle.bridge_cards.specs.declared.suit.Suit.{Suit}
use Rattle.bridge_cards.specs.declared.seat.Seat.{Seat}
use Rattle.bridge_cards.specs.Seat.{clockwise_from, side_of}
use Rattle.bridge_cards.specs.Trick.{next_leader}
use Rattle.bridge_endings.specs.Worth.{may_be_played, after_playing, trick_for, worth_after, worth_with}
use Rattle.bridge_endings.specs.Left.{is_sought}
use Rattle.bridge_endings.specs.Agree.{IsDealtOut, IsUpward, Agree, AreAlike, AgreeTrick, Settles, IsRanked}
use Rattle.bridge_endings.proofs.Minimax.{best_empty}
use Rattle.bridge_endings.proofs.LegalCards.{may_be_played-held}
use Rattle.bridge_endings.proofs.WorthSteps.{worth_of_card, worth_with-suc}
use Rattle.bridge_endings.proofs.SearchSteps.{worth_after-part, worth_after-whole, need_less, zero_worth, too_many_left}
use Rattle.bridge_endings.proofs.TrickWon.{dealt_out_after, best_all, by_one}
use Rattle.bridge_endings.proofs.Agreeing.{IsWithin, agree_self, agree_back, agree_then, alike_back, trick_self, trick_back, trick_then, agree_fewer}
use Rattle.bridge_endings.proofs.Partners.{legal_partner, agree_after, trick_after}
use Rattle.bridge_endings.proofs.AgreedTrick.{same_leader}

-- an answer that is settled is that of the position itself
pub settles_here : (trump : Option Suit) (cards need : ℕ) (counts : ℕ → Bool) (answer : Bool) (held : Seat → ℕ → Bool) (leader : Seat) (trick : List ℕ) → IsDealtOut held → Settles trump cards need counts answer held leader trick → nat_le need (worth_after trump (worth_with trump cards) held leader trick) ≡ answer
settles_here trump cards need counts answer held leader trick out settled =
    settled held out trick (agree_self counts held) (trick_self counts trick)

-- ---- by one card, or by all

module _ (trump : Option Suit) (cards need : ℕ) (held : Seat → ℕ → Bool) (out : IsDealtOut held) (leader : Seat) (trick : List ℕ) (part : length trick < 4) (counts : ℕ → Bool) where
  abbrev turn : Seat
  turn = clockwise_from leader (length trick)

  -- the answer after a card
  abbrev pub SettlesAfter : Bool → ℕ → Type 0
  SettlesAfter answer card = Settles trump cards need counts answer (after_playing card held) leader (trick ++ card ∷ [])

  module _ (other : Seat → ℕ → Bool) (out_too : IsDealtOut other) (played : List ℕ) (same : Agree counts held other) (same_trick : AgreeTrick counts trick played) where
    part_too : length played < 4
    part_too = omega (arith, part, same_trick.long)

    turn_is : clockwise_from leader (length played) ≡ turn
    turn_is = ap (clockwise_from leader) (sym same_trick.long)

    -- what is settled after a card is the answer after a card like it
    after_like : (answer : Bool) (c d : ℕ) → held turn c ≡ true → other turn d ≡ true → AreAlike counts c d → SettlesAfter answer c → nat_le need (worth_of_card trump cards other leader played d) ≡ answer
    after_like answer c d has has_too like settled =
        settled (after_playing d other) (dealt_out_after other out_too d) (played ++ d ∷ [])
        (agree_after counts held other out out_too same turn c d has has_too like)
        (trick_after counts trick played same_trick c d like)

    -- the other position's legal cards, each with one like it
    like_there : (c : ℕ) → may_be_played (held turn) trick c ≡ true → (d : ℕ) × (may_be_played (other turn) played d ≡ true) × AreAlike counts c d
    like_there = legal_partner counts held other out out_too same trick played same_trick turn

    like_here : (d : ℕ) → may_be_played (other turn) played d ≡ true → (c : ℕ) × (may_be_played (held turn) trick c ≡ true) × AreAlike counts c d
    like_here d may =
        let found = legal_partner counts other held out_too out (agree_back counts held other same) played trick (trick_back counts trick played same_trick) turn d may in
        (found.0, found.1, alike_back counts d found.0 found.2)

    there : (d : ℕ) → may_be_played (other turn) played d ≡ true → may_be_played (other (clockwise_from leader (length played))) played d ≡ true
    there d may = ap (λ (s : Seat). may_be_played (other s) played d) turn_is ∙ may

    by_card : (card : ℕ) → may_be_played (held turn) trick card ≡ true → SettlesAfter (is_sought (side_of turn)) card → nat_le need (worth_after trump (worth_with trump (suc cards)) other leader played) ≡ is_sought (side_of turn)
    by_card card may settled =
        let like = like_there card may in
        let has_too = may_be_played-held (other turn) played like.0 like.1 in
        by_one trump cards need other leader played part_too (is_sought (side_of turn)) like.0 (out_too.inside turn like.0 has_too) (there like.0 like.1)
        (ap (λ (s : Seat). is_sought (side_of s)) (sym turn_is))
        (after_like (is_sought (side_of turn)) card like.0 (may_be_played-held (held turn) trick card may) has_too like.2 settled)

    worth_there : worth_after trump (worth_with trump (suc cards)) other leader played ≡ worth_with trump (suc cards) other leader played
    worth_there = worth_after-part trump (worth_with trump (suc cards)) other leader played part_too

    each_card : (answer : Bool) → ((card : ℕ) → may_be_played (held turn) trick card ≡ true → SettlesAfter answer card) → (d : ℕ) → may_be_played (other (clockwise_from leader (length played))) played d ≡ true → nat_le need (worth_of_card trump cards other leader played d) ≡ answer
    each_card answer all d may =
        let may_here : may_be_played (other turn) played d ≡ true = ap (λ (s : Seat). may_be_played (other s) played d) (sym turn_is) ∙ may in
        let like = like_here d may_here in
        after_like answer like.0 d (may_be_played-held (held turn) trick like.0 like.1) (may_be_played-held (other turn) played d may_here) like.2 (all like.0 like.1)

    by_cards : (answer : Bool) (card : ℕ) → may_be_played (held turn) trick card ≡ true → ((c : ℕ) → may_be_played (held turn) trick c ≡ true → SettlesAfter answer c) → nat_le need (worth_after trump (worth_with trump (suc cards)) other leader played) ≡ answer
    by_cards answer card may all =
        let like = like_there card may in
        let seat : Seat = clockwise_from leader (length played) in
        ap (nat_le need) (worth_there ∙ worth_with-suc trump cards other leader played)
        ∙ best_all need (worth_of_card trump cards other leader played) (may_be_played (other seat) played) (side_of seat) answer like.0
        (out_too.inside turn like.0 (may_be_played-held (other turn) played like.0 like.1)) (there like.0 like.1) (each_card answer all)

    none_there : ((c : ℕ) → may_be_played (held turn) trick c ≡ false) → (d : ℕ) → may_be_played (other (clockwise_from leader (length played))) played d ≡ false
    none_there none d = at (may_be_played (other (clockwise_from leader (length played))) played d) refl
      where
        at : (is : Bool) → may_be_played (other (clockwise_from leader (length played))) played d ≡ is → may_be_played (other (clockwise_from leader (length played))) played d ≡ false
        at true is =
            let like = like_here d (ap (λ (s : Seat). may_be_played (other s) played d) (sym turn_is) ∙ is) in
            let never = sym (none like.0) ∙ like.1 in
            cc
        at false is = is

    by_none : ((c : ℕ) → may_be_played (held turn) trick c ≡ false) → nat_le need (worth_after trump (worth_with trump (suc cards)) other leader played) ≡ (need == 0)
    by_none none =
        let seat : Seat = clockwise_from leader (length played) in
        sym (zero_worth need (worth_after trump (worth_with trump (suc cards)) other leader played)
        (worth_there ∙ worth_with-suc trump cards other leader played
        ∙ best_empty need (worth_of_card trump cards other leader played) (may_be_played (other seat) played) (side_of seat) (none_there none)))

  -- a card gives the answer that the side in turn wants
  pub settles_found : (card : ℕ) → may_be_played (held turn) trick card ≡ true → SettlesAfter (is_sought (side_of turn)) card → Settles trump (suc cards) need counts (is_sought (side_of turn)) held leader trick
  settles_found card may settled other out_too played same same_trick = by_card other out_too played same same_trick card may settled

  -- all cards give one answer
  pub settles_all : (answer : Bool) (card : ℕ) → may_be_played (held turn) trick card ≡ true → ((c : ℕ) → may_be_played (held turn) trick c ≡ true → SettlesAfter answer c) → Settles trump (suc cards) need counts answer held leader trick
  settles_all answer card may all other out_too played same same_trick = by_cards other out_too played same same_trick answer card may all

  -- there is no card
  pub settles_none : ((c : ℕ) → may_be_played (held turn) trick c ≡ false) → Settles trump (suc cards) need counts (need == 0) held leader trick
  settles_none none other out_too played same same_trick = by_none other out_too played same same_trick none

  -- after a card like one after which it is settled
  pub settles_like : (answer : Bool) (c d : ℕ) → held turn c ≡ true → held turn d ≡ true → AreAlike counts c d → SettlesAfter answer c → SettlesAfter answer d
  settles_like answer c d has has_too like settled other out_too played same same_trick =
      settled other out_too played
      (agree_then counts (after_playing c held) (after_playing d held) other (agree_after counts held held out out (agree_self counts held) turn c d has has_too like) same)
      (trick_then counts (trick ++ c ∷ []) (trick ++ d ∷ []) played (trick_after counts trick trick (trick_self counts trick) c d like) same_trick)

-- ---- what is known without a card

-- no tricks are needed
pub settles_needless : (trump : Option Suit) (cards : ℕ) (counts : ℕ → Bool) (held : Seat → ℕ → Bool) (leader : Seat) (trick : List ℕ) → Settles trump cards 0 counts true held leader trick
settles_needless trump cards counts held leader trick other out played same same_trick = le-leb 0 (worth_after trump (worth_with trump cards) other leader played) (omega arith)

-- more are needed than are left
pub settles_beyond : (trump : Option Suit) (tricks need : ℕ) → tricks < need → (counts : ℕ → Bool) (held : Seat → ℕ → Bool) (leader : Seat) (trick : List ℕ) → length trick ≡ 0 → Settles trump (4 * tricks - length trick) need counts false held leader trick
settles_beyond trump tricks need more counts held leader trick none other out played same same_trick =
    let empty : length played ≡ 0 = sym same_trick.long ∙ none in
    let whole : 4 * tricks - length trick ≡ 4 * tricks = omega (arith, none) in
    ap (nat_le need) (worth_after-part trump (worth_with trump (4 * tricks - length trick)) other leader played (omega (arith, empty)))
    ∙ ap (λ n. nat_le need (worth_with trump n other leader played)) whole
    ∙ too_many_left trump tricks need other leader played empty more

-- ---- the trick is whole

none_played : (counts : ℕ → Bool) → AgreeTrick counts [] []
none_played counts = trick_self counts []

module _ (trump : Option Suit) (cards need : ℕ) (counts more : ℕ → Bool) (within : IsWithin counts more) (upward : IsUpward more) (answer : Bool) (held : Seat → ℕ → Bool) (leader : Seat) (trick : List ℕ) (whole : length trick ≡ 4) (ranked : IsRanked trump more trick) where
  abbrev winner : Seat
  winner = next_leader trump leader trick

  pub settles_whole : Settles trump cards (need - trick_for (side_of winner)) counts answer held winner [] → Settles trump cards need more answer held leader trick
  settles_whole settled other out played same same_trick =
      let seat : next_leader trump leader played ≡ winner = same_leader trump more upward trick played same_trick ranked leader in
      ap (nat_le need) (
      worth_after-whole trump (worth_with trump cards) other leader played (sym same_trick.long ∙ whole)
      ∙ ap (λ (s : Seat). trick_for (side_of s) + worth_with trump cards other s []) seat)
      ∙ sym (need_less need (trick_for (side_of winner)) (worth_with trump cards other winner []))
      ∙ settled other out [] (agree_fewer counts more within held other same) (none_played counts)
