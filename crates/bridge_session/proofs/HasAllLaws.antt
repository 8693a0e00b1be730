-- A session keeps all that it has at each action that takes nothing back.
use Rattle.std.proofs.Common.{◌≡◌, ◌-◌, ◌≤◌, ◌++◌, ℕ, zero, suc, Bool, true, false, not, List, [], ◌∷◌, Option, None, Some, Result, Ok, Err, refl, sym, ap, ◌∙◌, arith, inl, inr, cond, subst, ◌*◌, take, drop, length, map}
use Rattle.std.specs.Prelude.{slice_get, slice_set, unwrap_or, is_some, nat_le}
use Rattle.std.specs.Bool.{Decides}
use Rattle.std.specs.Cmp.Lexicographic.{pointwise}
use Rattle.std.proofs.lemmas.Bool.Decides.{Decides-like}
use Rattle.std.proofs.lemmas.Slice.Eq.{starts_is}
use Rattle.std.specs.List.{AllZip}
use Rattle.std.specs.Option.{option_map_or}
use Rattle.std.proofs.lemmas.List.{append_assoc}
use Rattle.bridge_cards.specs.declared.seat.Seat.{Seat}
use Rattle.session_rules.specs.declared.act.Act.{Act}
use Rattle.session_rules.specs.declared.act.Act.TheVariants as act
use Rattle.session_rules.specs.declared.action.Action.{Action}
use Rattle.session_rules.specs.declared.deed.Deed.{Deed}
use Rattle.session_rules.specs.declared.deed.Deed.TheVariants as deed
use Rattle.session_rules.specs.declared.correction.Correction.{Correction}
use Rattle.session_rules.specs.declared.refused.Refused.{Refused}
use Rattle.session_rules.specs.declared.refused.Refused.TheVariants.{Closed, NoSuchPlay, AlreadyDealt}
use Rattle.session_rules.specs.declared.seating.Seating.{Seating}
use Rattle.bridge_movement.specs.Shape.{index_of_row}
use Rattle.session_rules.specs.declared.action.PlayId.{PlayId}
use Rattle.session_rules.specs.Act.{act_of}
use Rattle.session_rules.specs.Deed.{with_deed}
use Rattle.session_rules.specs.DirectorStep.{deal_answer, with_ruling, ruled}
use Rattle.session_rules.specs.PlayerStep.{acted_among, acted_at}
use Rattle.session_rules.specs.Record.{PlainRecord}
use Rattle.session_rules.specs.State.{SessionValue, Deals, row_at, changed_at, current_index, deal_on, director_answer, is_closed, seating_of}
use Rattle.session_rules.specs.Step.{act_answer, step_answer, changed_by, changed}
use Rattle.session_rules.proofs.Lists.{not_refused}
use Rattle.session_rules.proofs.ValidRuling.{allowed_ok}
use Rattle.bridge_config.specs.ConfigValue.{ConfigValue}
use Rattle.bridge_table.specs.declared.record.Record.{Record}
use Rattle.bridge_table.specs.Kept.{plain_of}
use Rattle.bridge_session.specs.KeptSession.{state_of}
use Rattle.bridge_session.specs.HasAll.{BeginsWith, HasPlay, HasDeal, HasAllOf, HasRowOf, TakesNothingBack}

-- a list that is made longer
begins_more : {A : Type 0} (xs start more : List A) → BeginsWith xs start → BeginsWith (xs ++ more) start
begins_more xs start more begins = record { rest = begins.rest ++ more; is = ap (λ ys. ys ++ more) begins.is ∙ append_assoc start begins.rest more }

-- a list that is changed at a place, where what stands there is kept
set_kept : {A B : Type 0} (R : A → B → Type 0) (new : A) (xs : List A) (ys : List B) (i : ℕ) (x : A) → slice_get xs i ≡ Some x → ((y : B) → R x y → R new y) → AllZip R xs ys → AllZip R (slice_set xs i new) ys
set_kept R new [] ys i x found keeps all = absurd cc
set_kept R new (z ∷ xs) [] i x found keeps all = absurd all
set_kept R new (z ∷ xs) (y ∷ ys) zero x found keeps all = (keeps y (subst (λ w. R w y) (ap (λ o. unwrap_or o z) found) all.0), all.1)
set_kept R new (z ∷ xs) (y ∷ ys) (suc i) x found keeps all = (all.0, set_kept R new xs ys i x found keeps all.1)

changed_by_found : {A B : Type 0} (R : A → B → Type 0) (f : A → A) → ((x : A) (y : B) → R x y → R (f x) y) → (xs : List A) (ys : List B) (i : ℕ) (o : Option A) → slice_get xs i ≡ o → AllZip R xs ys → AllZip R (option_map_or (λ x. slice_set xs i (f x)) o xs) ys
changed_by_found R f keeps xs ys i None found all = all
changed_by_found R f keeps xs ys i (Some x) found all = set_kept R (f x) xs ys i x found (keeps x) all

changed_kept : {A B : Type 0} (R : A → B → Type 0) (f : A → A) → ((x : A) (y : B) → R x y → R (f x) y) → (xs : List A) (ys : List B) (i : ℕ) → AllZip R xs ys → AllZip R (changed_at f xs i) ys
changed_kept R f keeps xs ys i all = changed_by_found R f keeps xs ys i (slice_get xs i) refl all

-- what is done in a play
deed_kept : (seat : Seat) (deed : Deed) (ours theirs : PlainRecord) → HasPlay ours theirs → HasPlay (with_deed seat deed ours) theirs
deed_kept seat (deed.Call call) ours theirs has = record { board = has.board; calls = begins_more ours.calls theirs.calls (call ∷ []) has.calls; cards = has.cards }
deed_kept seat (deed.Card card) ours theirs has = record { board = has.board; calls = has.calls; cards = begins_more ours.cards theirs.cards (card ∷ []) has.cards }
deed_kept seat (deed.Claim tricks) ours theirs has = record { board = has.board; calls = has.calls; cards = has.cards }
deed_kept seat deed.Agree ours theirs has = record { board = has.board; calls = has.calls; cards = has.cards }
deed_kept seat deed.Refuse ours theirs has = record { board = has.board; calls = has.calls; cards = has.cards }

ruling_kept : (made : Correction) (ours theirs : PlainRecord) → HasPlay ours theirs → HasPlay (with_ruling made ours) theirs
ruling_kept made ours theirs has = record { board = has.board; calls = has.calls; cards = has.cards }

-- the same in a session
acted_kept : (s t : SessionValue) (deed : Deed) (seating : Result Seating Refused) → HasAllOf s t → HasAllOf (acted_at s deed seating) t
acted_kept s t deed (Err refused) has = has
acted_kept s t deed (Ok seating) has = record {
  round = has.round;
  deals = has.deals;
  plays = changed_kept (AllZip HasPlay) (acted_among seating.seat deed)
      (λ ours theirs. changed_kept HasPlay (with_deed seating.seat deed) (deed_kept seating.seat deed) ours theirs (current_index ours))
      s.records t.records seating.row has.plays;
}

ruled_kept : (s t : SessionValue) (play : PlayId) (made : Correction) → HasAllOf s t → HasAllOf (ruled s play made) t
ruled_kept s t play made has = record {
  round = has.round;
  deals = has.deals;
  plays = changed_kept (AllZip HasPlay) (λ records. changed_at (with_ruling made) records (play.index - 1))
      (λ ours theirs. changed_kept HasPlay (with_ruling made) (ruling_kept made) ours theirs (play.index - 1))
      s.records t.records (index_of_row s.configuration.movement.shape play.round play.table) has.plays;
}

-- a deal in an empty place
none_there : (y : Option (List ℕ)) (hands : List ℕ) → HasDeal None y → HasDeal (Some hands) y
none_there y hands (inl none) = inl none
none_there y hands (inr same) = inl (sym same)

set_none : (xs : List (Option (List ℕ))) (i : ℕ) (y : Option (List ℕ)) → slice_get xs i ≡ None → slice_set xs i y ≡ xs
set_none [] i y found = refl
set_none (z ∷ xs) zero y found = absurd cc
set_none (z ∷ xs) (suc i) y found = ap (λ ws. z ∷ ws) (set_none xs i y found)

deal_at : (hands : List ℕ) (xs ys : List (Option (List ℕ))) (i : ℕ) (o : Option (Option (List ℕ))) → slice_get xs i ≡ o → unwrap_or o None ≡ None → AllZip HasDeal xs ys → AllZip HasDeal (option_map_or (λ (x : Option (List ℕ)). slice_set xs i (Some hands)) o (slice_set xs i (Some hands))) ys
deal_at hands xs ys i None found none all = subst (λ zs. AllZip HasDeal zs ys) (sym (set_none xs i (Some hands) found)) all
deal_at hands xs ys i (Some x) found none all =
    set_kept HasDeal (Some hands) xs ys i x found (λ y has. none_there y hands (subst (λ d. HasDeal d y) none has)) all

is_none : (o : Option (List ℕ)) → is_some o ≡ false → o ≡ None
is_none None e = refl
is_none (Some hands) e = absurd cc

answered : (b : Bool) (e : Refused) (rest : Result (Unit {0}) Refused) → cond b (Err e) rest ≡ Ok tt → rest ≡ Ok tt
answered true e rest is = absurd cc
answered false e rest is = is

undealt : (s : SessionValue) (board : ℕ) (hands : List ℕ) → deal_answer s board hands ≡ Ok tt → deal_on s.deals board ≡ None
undealt s board hands ok =
    let second = answered (is_closed s.configuration s.round) Closed _ ok in
    let third = answered (not (nat_le board (s.configuration.movement.shape.sets * s.configuration.boards))) NoSuchPlay _ second in
    is_none (deal_on s.deals board) (not_refused (is_some (deal_on s.deals board)) AlreadyDealt _ third)

option_same : {A : Type 0} (o : Option (Option (List ℕ))) (r : A) → option_map_or (λ (x : Option (List ℕ)). r) o r ≡ r
option_same None r = refl
option_same (Some x) r = refl

dealt_kept : (s t : SessionValue) (board : ℕ) (hands : List ℕ) → deal_answer s board hands ≡ Ok tt → HasAllOf s t → HasAllOf (record s { deals = slice_set s.deals (board - 1) (Some hands) }) t
dealt_kept s t board hands ok has = record {
  round = has.round;
  deals = subst (λ zs. AllZip HasDeal zs t.deals) (option_same (slice_get s.deals (board - 1)) (slice_set s.deals (board - 1) (Some hands)))
      (deal_at hands s.deals t.deals (board - 1) (slice_get s.deals (board - 1)) refl (undealt s board hands ok) has.deals);
  plays = has.plays;
}

act_kept : (a : Act) (s t : SessionValue) → TakesNothingBack a → HasAllOf s t → act_answer s a ≡ Ok tt → HasAllOf (changed_by s a) t
act_kept (act.Player key board at deed) s t takes has ok = acted_kept s t deed (seating_of s.configuration s.round key.0) has
act_kept (act.Deal key board hands) s t takes has ok =
    dealt_kept s t board hands (allowed_ok (director_answer s.configuration key.0) (deal_answer s board hands) ok) has
act_kept (act.Undeal key board) s t takes has ok = absurd takes
act_kept (act.RoundEnd key round) s t takes has ok = record { round = omega (arith, has.round); deals = has.deals; plays = has.plays }
act_kept (act.Back key play) s t takes has ok = absurd takes
act_kept (act.Ruling key play made) s t takes has ok = ruled_kept s t play made has

pub step_kept : (action : Action) (s t : SessionValue) → TakesNothingBack (act_of action) → HasAllOf s t → step_answer s action ≡ Ok tt → HasAllOf (changed s action) t
step_kept action = act_kept (act_of action)

-- ---- tests

-- whether a list begins with another
pub begins_decided : {A : Type 0} {E : A → A → Bool} → ((a b : A) → Decides (E a b) (a ≡ b)) → (xs start : List A) (r : Bool) → r ≡ pointwise E start (take (length start) xs) → Decides r (BeginsWith xs start)
begins_decided decides xs start r is =
    let both = starts_is decides xs start r is in
    (λ e. record { rest = drop (length start) xs; is = both.0 e }, λ (begins : BeginsWith xs start). both.1 begins.rest begins.is)

-- the same of lists that are these
pub begins_at : {A : Type 0} (xs ys start first : List A) → xs ≡ ys → start ≡ first → BeginsWith xs start → BeginsWith ys first
begins_at xs ys start first long short begins = record { rest = begins.rest; is = sym long ∙ begins.is ∙ ap (λ front. front ++ begins.rest) short }

-- whether a deal is the same
some_one : (our their : List ℕ) → ◌≡◌ {A = Option (List ℕ)} (Some our) (Some their) → our ≡ their
some_one our their e = ap (λ o. unwrap_or o our) e

has_same : (our their : List ℕ) → HasDeal (Some our) (Some their) → our ≡ their
has_same our their (inl none) = absurd cc
has_same our their (inr same) = some_one our their same

pub deal_decided : (our their : List ℕ) (r : Bool) → Decides r (our ≡ their) → Decides r (HasDeal (Some our) (Some their))
deal_decided our their r decides = Decides-like r (λ same. inr (ap Some same)) (has_same our their) decides

-- where a test failed
pub failed : {P Q : Type 0} (r : Bool) → Decides r P → r ≡ false → (Q → P) → Decides false Q
failed r decides not_so from = (λ e. absurd cc, λ q. sym not_so ∙ decides.1 (from q))

-- ---- of the fields of sessions

tables_seen : {X : Type 0} (items : X → List Record) (xs : List X) → map (λ x. map plain_of (items x)) xs ≡ map (map plain_of) (map items xs)
tables_seen items [] = refl
tables_seen items (x ∷ xs) = ap (λ rest. map plain_of (items x) ∷ rest) (tables_seen items xs)

module _ {X : Type 0} (items : X → List Record) (ours theirs : ConfigValue) (round other_round : ℕ) (deals other_deals : Deals) (tables other_tables : List X) where
  abbrev ours_of : SessionValue
  ours_of = state_of ours round deals (map items tables)

  abbrev theirs_of : SessionValue
  theirs_of = state_of theirs other_round other_deals (map items other_tables)

  abbrev Plays : Type 0
  Plays = AllZip (AllZip HasPlay) (map (λ x. map plain_of (items x)) tables) (map (λ x. map plain_of (items x)) other_tables)

  plays_seen : Plays → AllZip (AllZip HasPlay) ours_of.records theirs_of.records
  plays_seen plays = subst (λ ys. AllZip (AllZip HasPlay) ours_of.records ys) (tables_seen items other_tables)
      (subst (λ xs. AllZip (AllZip HasPlay) xs (map (λ x. map plain_of (items x)) other_tables)) (tables_seen items tables) plays)

  plays_of : HasAllOf ours_of theirs_of → Plays
  plays_of has = subst (λ ys. AllZip (AllZip HasPlay) (map (λ x. map plain_of (items x)) tables) ys) (sym (tables_seen items other_tables))
      (subst (λ xs. AllZip (AllZip HasPlay) xs theirs_of.records) (sym (tables_seen items tables)) has.plays)

  -- where the rounds and the deals are as they are to be, the tables decide
  pub all_decided : (r : Bool) → other_round ≤ round → AllZip HasDeal deals other_deals → Decides r Plays → Decides r (HasAllOf ours_of theirs_of)
  all_decided r later dealt decides =
      Decides-like r (λ plays. record { round = later; deals = dealt; plays = plays_seen plays }) plays_of decides

  -- and one row decides for itself
  pub row_decided : (r : Bool) (index : ℕ) (own other : List PlainRecord) → own ≡ row_at (map (λ x. map plain_of (items x)) tables) index
      → other ≡ row_at (map (λ x. map plain_of (items x)) other_tables) index → Decides r (AllZip HasPlay own other)
      → Decides r (HasRowOf ours_of theirs_of index)
  row_decided r index own other is is' decides =
      subst (λ ys. Decides r (AllZip HasPlay (row_at ours_of.records index) ys)) (is' ∙ ap (λ rows. row_at rows index) (tables_seen items other_tables))
      (subst (λ xs. Decides r (AllZip HasPlay xs other)) (is ∙ ap (λ rows. row_at rows index) (tables_seen items tables)) decides)

-- ---- what a loop over two lists has come to

-- the one follows from the other, and the other from it
abbrev pub IsStill : Type 0 → Type 0 → Type 0
IsStill whole rest = (whole → rest) × (rest → whole)
