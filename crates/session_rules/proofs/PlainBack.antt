-- What is done in a play makes the plain record, the latest thing done being taken back now and then.
use Rattle.std.proofs.Common.{◌≡◌, ℕ, Bool, true, false, ◌||◌, cond, List, [], ◌∷◌, ◌++◌, length, Option, Some, None, refl, sym, ap, ◌∙◌}
use Rattle.std.specs.Prelude.{nat_lt, is_some}
use Rattle.std.specs.List.{list_any}
use Rattle.std.proofs.lemmas.Bool.{lt-ltb}
use Rattle.bridge_auction.specs.Auction.{less_last}
use Rattle.bridge_play.specs.declared.claim.Claim.{Claim}
use Rattle.bridge_play.specs.Play.{cards_left_by}
use Rattle.session_rules.specs.declared.deed.Deed.TheVariants as deed
use Rattle.session_rules.specs.Back.{taken_back}
use Rattle.session_rules.specs.Record.{PlainRecord, empty_record}
use Rattle.session_rules.specs.Own.{OwnDeed, ByPlayer, ByDirector, TakenBack, call_made, card_played, claim_left, is_call, is_card, without_last, less_latest, left_with, left_of, record_made}
use Rattle.session_rules.proofs.LastGone.{found_none, found_some, last_gone}
use Rattle.session_rules.proofs.PlainParts.{done_to, all_done, all_is, board_step}

-- what happens in a play
abbrev pub happened : OwnDeed → PlainRecord → PlainRecord
happened TakenBack x = taken_back x
happened (ByPlayer seat deed) x = done_to (ByPlayer seat deed) x
happened (ByDirector made) x = done_to (ByDirector made) x

abbrev pub all_happened : List OwnDeed → PlainRecord → PlainRecord
all_happened [] x = x
all_happened (deed ∷ later) x = all_happened later (happened deed x)

-- the board stays
back_board_if : (b : Bool) (x : PlainRecord) → (cond b (record x { cards = cards_left_by x.claim x.cards; claim = None }) (record x { calls = less_last x.calls })).board ≡ x.board
back_board_if true x = refl
back_board_if false x = refl

pub back_board : (x : PlainRecord) → (taken_back x).board ≡ x.board
back_board x = back_board_if (is_some x.claim || nat_lt 0 (length x.cards)) x

pub happened_board : (deed : OwnDeed) (x : PlainRecord) → (happened deed x).board ≡ x.board
happened_board TakenBack x = back_board x
happened_board (ByPlayer seat deed) x = board_step (ByPlayer seat deed) x
happened_board (ByDirector made) x = board_step (ByDirector made) x

-- one thing more
done_push : (deeds : List OwnDeed) (deed : OwnDeed) (x : PlainRecord) → all_done (deeds ++ deed ∷ []) x ≡ done_to deed (all_done deeds x)
done_push [] deed x = refl
done_push (first ∷ later) deed x = done_push later deed (done_to first x)

made_push : (board : ℕ) (before : List OwnDeed) (deed : OwnDeed) → record_made board (before ++ deed ∷ []) ≡ done_to deed (record_made board before)
made_push board before deed =
    sym (all_is board (before ++ deed ∷ [])) ∙ done_push before deed (empty_record board) ∙ ap (done_to deed) (all_is board before)

-- What is seen of a record, where some things done leave it

module _ (seen : PlainRecord → PlainRecord) (keeps : (deed : OwnDeed) (x : PlainRecord) → seen (done_to deed x) ≡ seen (done_to deed (seen x))) where
  same_after : (deeds : List OwnDeed) (x y : PlainRecord) → seen x ≡ seen y → seen (all_done deeds x) ≡ seen (all_done deeds y)
  same_after [] x y same = same
  same_after (deed ∷ later) x y same =
      same_after later (done_to deed x) (done_to deed y) (keeps deed x ∙ ap (λ z. seen (done_to deed z)) same ∙ sym (keeps deed y))

  less_same : (test : OwnDeed → Bool) → ((deed : OwnDeed) (x : PlainRecord) → test deed ≡ true → seen (done_to deed x) ≡ seen x) → (deeds : List OwnDeed) (x : PlainRecord) → seen (all_done (without_last test deeds) x) ≡ seen (all_done deeds x)
  less_same test leaves [] x = refl
  less_same test leaves (deed ∷ later) x = by (less_same test leaves later) (list_any test later) (test deed) refl refl
    where
      by : ((y : PlainRecord) → seen (all_done (without_last test later) y) ≡ seen (all_done later y)) → (more here : Bool) → list_any test later ≡ more → test deed ≡ here → seen (all_done (without_last test (deed ∷ later)) x) ≡ seen (all_done (deed ∷ later) x)
      by rest true here some is =
          ap (λ b. seen (all_done (cond b (deed ∷ without_last test later) (cond (test deed) later (deed ∷ later))) x)) some
          ∙ rest (done_to deed x)
      by rest false true none is =
          ap (λ b. seen (all_done (cond b (deed ∷ without_last test later) (cond (test deed) later (deed ∷ later))) x)) none
          ∙ ap (λ b. seen (all_done (cond b later (deed ∷ later)) x)) is
          ∙ same_after later x (done_to deed x) (sym (leaves deed x is))
      by rest false false none is =
          ap (λ b. seen (all_done (cond b (deed ∷ without_last test later) (cond (test deed) later (deed ∷ later))) x)) none
          ∙ ap (λ b. seen (all_done (cond b later (deed ∷ later)) x)) is

-- all but the cards
abbrev but_cards : PlainRecord → PlainRecord
but_cards x = record x { cards = [] }

but_cards_keeps : (deed : OwnDeed) (x : PlainRecord) → but_cards (done_to deed x) ≡ but_cards (done_to deed (but_cards x))
but_cards_keeps (ByPlayer seat (deed.Call call)) x = refl
but_cards_keeps (ByPlayer seat (deed.Card card)) x = refl
but_cards_keeps (ByPlayer seat (deed.Claim tricks)) x = refl
but_cards_keeps (ByPlayer seat deed.Agree) x = refl
but_cards_keeps (ByPlayer seat deed.Refuse) x = refl
but_cards_keeps (ByDirector made) x = refl
but_cards_keeps TakenBack x = refl

card_leaves : (deed : OwnDeed) (x : PlainRecord) → is_card deed ≡ true → but_cards (done_to deed x) ≡ but_cards x
card_leaves (ByPlayer seat (deed.Call call)) x is = absurd cc
card_leaves (ByPlayer seat (deed.Card card)) x is = refl
card_leaves (ByPlayer seat (deed.Claim tricks)) x is = absurd cc
card_leaves (ByPlayer seat deed.Agree) x is = absurd cc
card_leaves (ByPlayer seat deed.Refuse) x is = absurd cc
card_leaves (ByDirector made) x is = absurd cc
card_leaves TakenBack x is = absurd cc

-- all but the calls
abbrev but_calls : PlainRecord → PlainRecord
but_calls x = record x { calls = [] }

but_calls_keeps : (deed : OwnDeed) (x : PlainRecord) → but_calls (done_to deed x) ≡ but_calls (done_to deed (but_calls x))
but_calls_keeps (ByPlayer seat (deed.Call call)) x = refl
but_calls_keeps (ByPlayer seat (deed.Card card)) x = refl
but_calls_keeps (ByPlayer seat (deed.Claim tricks)) x = refl
but_calls_keeps (ByPlayer seat deed.Agree) x = refl
but_calls_keeps (ByPlayer seat deed.Refuse) x = refl
but_calls_keeps (ByDirector made) x = refl
but_calls_keeps TakenBack x = refl

call_leaves : (deed : OwnDeed) (x : PlainRecord) → is_call deed ≡ true → but_calls (done_to deed x) ≡ but_calls x
call_leaves (ByPlayer seat (deed.Call call)) x is = refl
call_leaves (ByPlayer seat (deed.Card card)) x is = absurd cc
call_leaves (ByPlayer seat (deed.Claim tricks)) x is = absurd cc
call_leaves (ByPlayer seat deed.Agree) x is = absurd cc
call_leaves (ByPlayer seat deed.Refuse) x is = absurd cc
call_leaves (ByDirector made) x is = absurd cc
call_leaves TakenBack x is = absurd cc

-- The latest thing is taken back

-- a record by its cards and all else
by_cards : (x y : PlainRecord) → but_cards x ≡ but_cards y → x ≡ record y { cards = x.cards }
by_cards x y same = ap (λ (z : PlainRecord). record z { cards = x.cards }) same

-- a record by its calls and all else
by_calls : (x y : PlainRecord) → but_calls x ≡ but_calls y → x ≡ record y { calls = x.calls }
by_calls x y same = ap (λ (z : PlainRecord). record z { calls = x.calls }) same

abbrev left_if : Bool → PlainRecord → PlainRecord
left_if b x = cond b (record x { cards = cards_left_by x.claim x.cards; claim = None }) (record x { calls = less_last x.calls })

card_gone : (board : ℕ) (before : List OwnDeed) → claim_left before ≡ None → list_any is_card before ≡ true → taken_back (record_made board before) ≡ record_made board (without_last is_card before)
card_gone board before unclaimed some =
    let x = record_made board before in
    let after = without_last is_card before in
    let y = record_made board after in
    let more : nat_lt 0 (length x.cards) ≡ true = lt-ltb 0 (length x.cards) (found_some card_played before some) in
    let cards : y.cards ≡ less_last x.cards = last_gone card_played before in
    let rest : but_cards y ≡ but_cards x =
    ap but_cards (sym (all_is board after))
    ∙ less_same but_cards but_cards_keeps is_card card_leaves before (empty_record board)
    ∙ ap but_cards (all_is board before) in
    ap (λ claim. left_if (is_some claim || nat_lt 0 (length x.cards)) (record x { claim = claim })) unclaimed
    ∙ ap (λ b. left_if b (record x { claim = None })) more
    ∙ ap (λ claim. record x { cards = less_last x.cards; claim = claim }) (sym unclaimed)
    ∙ sym (by_cards y x rest ∙ ap (λ cs. record x { cards = cs }) cards)

call_gone : (board : ℕ) (before : List OwnDeed) → claim_left before ≡ None → list_any is_card before ≡ false → taken_back (record_made board before) ≡ record_made board (without_last is_call before)
call_gone board before unclaimed none =
    let x = record_made board before in
    let after = without_last is_call before in
    let y = record_made board after in
    let no_cards : x.cards ≡ [] = found_none card_played before none in
    let calls : y.calls ≡ less_last x.calls = last_gone call_made before in
    let rest : but_calls y ≡ but_calls x =
    ap but_calls (sym (all_is board after))
    ∙ less_same but_calls but_calls_keeps is_call call_leaves before (empty_record board)
    ∙ ap but_calls (all_is board before) in
    ap (λ claim. left_if (is_some claim || nat_lt 0 (length x.cards)) (record x { claim = claim })) unclaimed
    ∙ ap (λ (cs : List ℕ). left_if (nat_lt 0 (length cs)) (record x { claim = None })) no_cards
    ∙ ap (λ claim. record x { calls = less_last x.calls; claim = claim }) (sym unclaimed)
    ∙ sym (by_calls y x rest ∙ ap (λ cs. record x { calls = cs }) calls)

claim_gone : (board : ℕ) (before : List OwnDeed) (claim : Claim) → claim_left before ≡ Some claim → taken_back (record_made board before) ≡ record_made board (before ++ TakenBack ∷ [])
claim_gone board before claim stands =
    let x = record_made board before in
    ap (λ o. left_if (is_some o || nat_lt 0 (length x.cards)) (record x { claim = o })) stands
    ∙ sym (made_push board before TakenBack)

abbrev less_by : List OwnDeed → Bool → Bool → List OwnDeed
less_by before claimed played = cond claimed (before ++ TakenBack ∷ []) (cond played (without_last is_card before) (without_last is_call before))

back_is : (board : ℕ) (before : List OwnDeed) → taken_back (record_made board before) ≡ record_made board (less_latest before)
back_is board before = by (claim_left before) (list_any is_card before) refl refl
  where
    by : (claim : Option Claim) (played : Bool) → claim_left before ≡ claim → list_any is_card before ≡ played → taken_back (record_made board before) ≡ record_made board (less_latest before)
    by (Some claim) played stands some =
        claim_gone board before claim stands ∙ ap (λ o. record_made board (less_by before (is_some o) (list_any is_card before))) (sym stands)
    by None true stands some =
        card_gone board before stands some
        ∙ ap (λ b. record_made board (less_by before false b)) (sym some)
        ∙ ap (λ o. record_made board (less_by before (is_some o) (list_any is_card before))) (sym stands)
    by None false stands some =
        call_gone board before stands some
        ∙ ap (λ b. record_made board (less_by before false b)) (sym some)
        ∙ ap (λ o. record_made board (less_by before (is_some o) (list_any is_card before))) (sym stands)

-- what is left after one thing more
one_is : (board : ℕ) (deed : OwnDeed) (before : List OwnDeed) → happened deed (record_made board before) ≡ record_made board (left_with deed before)
one_is board TakenBack before = back_is board before
one_is board (ByPlayer seat deed) before = sym (made_push board before (ByPlayer seat deed))
one_is board (ByDirector made) before = sym (made_push board before (ByDirector made))

-- and after all
pub all_left : (board : ℕ) (deeds before : List OwnDeed) → all_happened deeds (record_made board before) ≡ record_made board (left_of deeds before)
all_left board [] before = refl
all_left board (deed ∷ later) before = ap (all_happened later) (one_is board deed before) ∙ all_left board later (left_with deed before)
