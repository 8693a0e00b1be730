-- A session stays valid where a player acts.
use Rattle.std.proofs.Common.{◌≡◌, ◌+◌, ◌%◌, ◌==◌, ◌<◌, ◌≤◌, ℕ, suc, Bool, true, false, not, cond, List, [], ◌∷◌, Option, Some, None, Result, Ok, Err, refl, sym, ap, ◌∙◌, subst, arith}
use Rattle.std.specs.Prelude.{slice_get, ok_or}
use Rattle.std.specs.List.{position_or_len}
use Rattle.std.specs.Option.{option_map, option_or}
use Rattle.std.proofs.lemmas.Bool.{eqb-true}
use Rattle.std.proofs.lemmas.Option.{slice_get_within, get_or_from_slice_get}
use Rattle.bridge_cards.specs.declared.seat.Seat.{Seat}
use Rattle.bridge_cards.specs.declared.seat.Side.TheVariants.{NorthSouth, EastWest}
use Rattle.bridge_config.specs.ConfigValue.{ConfigValue}
use Rattle.bridge_config.specs.Limits.{IsConfiguration}
use Rattle.bridge_movement.specs.declared.place.Place.{Place}
use Rattle.bridge_movement.specs.declared.row.Row.{Row}
use Rattle.bridge_movement.specs.Seating.{seat_of, place_of}
use Rattle.session_rules.specs.declared.deed.Deed.{Deed}
use Rattle.session_rules.specs.declared.refused.Refused.{Refused}
use Rattle.session_rules.specs.declared.refused.Refused.TheVariants.{NotCurrent, Closed, SitsOut}
use Rattle.session_rules.specs.declared.seating.Player.{Player}
use Rattle.session_rules.specs.declared.seating.Seating.{Seating}
use Rattle.session_rules.specs.Answer.{Answer, ◌>>◌, require}
use Rattle.session_rules.specs.Deed.{deed_answer, with_deed}
use Rattle.session_rules.specs.Record.{PlainRecord, bidding_of, play_of, is_open}
use Rattle.bridge_movement.specs.Shape.{index_of_row}
use Rattle.session_rules.specs.State.{SessionValue, deal_on, row_at, current_index, acting_player, is_closed, seating_at, seated, seating_of, is_of_set}
use Rattle.session_rules.specs.PlayerStep.{seen_by, seen_deal, seen_records, answer_among, player_answer, acted_at, acted}
use Rattle.session_rules.proofs.PlayerAnswer.{answer_dealt, answer_current, answer_seated}
use Rattle.session_rules.specs.Valid.{IsDeed, IsValid}
use Rattle.session_rules.proofs.StaysValid.{none_of, valid_change}
use Rattle.session_rules.proofs.ValidRuling.{row_round}
use Rattle.session_rules.proofs.ValidDeed.{deed_valid}
use Rattle.session_rules.proofs.PlainRecords.{deed_board}

-- The current play is open
open_here : (p : PlainRecord → Bool) (y x : PlainRecord) (ys : List PlainRecord) (passes : Bool) (n : ℕ) → p y ≡ passes → (slice_get ys n ≡ Some x → p x ≡ true) → slice_get (y ∷ ys) (cond (not passes) (1 + n) 0) ≡ Some x → p x ≡ true
open_here p y x ys true n test later is =
    let same : y ≡ x = cc in ap p (sym same) ∙ test
open_here p y x ys false n test later is =
    let next : 1 + n ≡ suc n = omega arith in
    later (ap (slice_get (y ∷ ys)) (sym next) ∙ is)

first_passes : (p : PlainRecord → Bool) (xs : List PlainRecord) (x : PlainRecord) → slice_get xs (position_or_len p xs) ≡ Some x → p x ≡ true
first_passes p [] x is = absurd (none_of (position_or_len p []) x is)
first_passes p (y ∷ ys) x is = open_here p y x ys (p y) (position_or_len p ys) refl (first_passes p ys x) is

-- What an accepted answer says of the current play
pub record IsActedOn (deal : Option (List ℕ)) (board : ℕ) (seat : Seat) (at : ℕ) (deed : Deed) (found : Option PlainRecord) : Type 0 where
  pub plain : PlainRecord
  pub is : found ≡ Some plain
  pub same : plain.board ≡ board
  pub hands : List ℕ
  pub dealt : deal ≡ Some hands
  pub ok : deed_answer (bidding_of plain) (play_of hands plain) seat at deed ≡ Ok tt

dealt_on : (deal : Option (List ℕ)) (plain : PlainRecord) (seat : Seat) (at : ℕ) (deed : Deed) → answer_dealt plain seat at deed deal ≡ Ok tt → (hands : List ℕ) × (deal ≡ Some hands) × (deed_answer (bidding_of plain) (play_of hands plain) seat at deed ≡ Ok tt)
dealt_on None plain seat at deed ok = absurd cc
dealt_on (Some hands) plain seat at deed ok = (hands, refl, ok)

pub passed : (b : Bool) (e : Refused) (r : Answer) → (require b e >> r) ≡ Ok tt → (b ≡ true) × (r ≡ Ok tt)
passed true e r is = (refl, is)
passed false e r is = absurd cc

pub acted_on : (deal : Option (List ℕ)) (board : ℕ) (seat : Seat) (at : ℕ) (deed : Deed) (found : Option PlainRecord) → answer_current deal board seat at deed found ≡ Ok tt → IsActedOn deal board seat at deed found
acted_on deal board seat at deed None ok = absurd cc
acted_on deal board seat at deed (Some plain) ok =
    let here = passed (plain.board == board) NotCurrent (answer_dealt plain seat at deed deal) ok in
    let there = dealt_on deal plain seat at deed here.1 in
    record { plain = plain; is = refl; same = eqb-true plain.board board here.0; hands = there.0; dealt = there.1; ok = there.2 }

-- Where a player sits
table_by : (row : Row) (place : Place) (a b c : Bool) → ◌≡◌ {A = Option Place} (cond a (cond b (Some (record { table = row.table; side = NorthSouth; set = row.set })) (cond c (Some (record { table = row.table; side = EastWest; set = row.set })) None)) None) (Some place) → row.table ≡ place.table
table_by row place true true c is = cc
table_by row place true false true is = cc
table_by row place true false false is = absurd cc
table_by row place false b c is = absurd cc

pub record HasTable (rows : List Row) (place : Place) : Type 0 where
  pub at : ℕ
  pub row : Row
  pub is : slice_get rows at ≡ Some row
  pub table : row.table ≡ place.table

first_or_later : (row : Row) (rows : List Row) (round pair : ℕ) (place : Place) (here : Option Place) → seat_of round pair row ≡ here → (place_of rows round pair ≡ Some place → HasTable rows place) → option_or here (place_of rows round pair) ≡ Some place → HasTable (row ∷ rows) place
first_or_later row rows round pair place (Some own) seat later is =
    let same : own ≡ place = cc in
    record { at = 0; row = row; is = refl; table = table_by row own _ _ _ seat ∙ ap (λ (p : Place). p.table) same }
first_or_later row rows round pair place None seat later is =
    let rest = later is in
    record { at = suc rest.at; row = rest.row; is = rest.is; table = rest.table }

has_table : (rows : List Row) (round pair : ℕ) (place : Place) → place_of rows round pair ≡ Some place → HasTable rows place
has_table [] round pair place is = absurd cc
has_table (row ∷ rows) round pair place is = first_or_later row rows round pair place (seat_of round pair row) refl (has_table rows round pair place) is

pub record IsSeatedAt (configuration : ConfigValue) (round : ℕ) (seating : Seating) : Type 0 where
  pub table : ℕ
  pub first : 1 ≤ table
  pub within : table ≤ configuration.movement.shape.tables
  pub row : seating.row ≡ index_of_row configuration.movement.shape round table

placed_at : (configuration : ConfigValue) (round : ℕ) (player : Player) (seating : Seating) (found : Option Place) → IsConfiguration configuration → place_of configuration.movement.rows round player.pair ≡ found → ok_or (option_map (seating_at configuration round player.first) found) SitsOut ≡ Ok seating → IsSeatedAt configuration round seating
placed_at configuration round player seating None limits is sits = absurd cc
placed_at configuration round player seating (Some place) limits is sits =
    let own : seating_at configuration round player.first place ≡ seating = cc in
    let there = has_table configuration.movement.rows round player.pair place is in
    let rows = configuration.movement.rows in
    let tables : ℕ = configuration.movement.shape.tables in
    let due = (limits.movement.complete.order there.at (slice_get_within rows there.at there.row there.is)).1 there.row in
    let number : there.row.table ≡ there.at % tables + 1 = ap (λ (r : Row). r.table) (sym (get_or_from_slice_get rows there.at there.row there.row there.is)) ∙ due.2 in
    let some : 2 ≤ tables = limits.shape.tables.0 in
    let less : there.at % tables < tables = omega arith in
    let table = there.table in
    record {
      table = place.table;
      first = omega arith;
      within = omega arith;
      row = ap (λ (s : Seating). s.row) (sym own);
    }

open_session : (b : Bool) (r : Result Seating Refused) (seating : Seating) → cond b (Err Closed) r ≡ Ok seating → r ≡ Ok seating
open_session true r seating is = absurd cc
open_session false r seating is = is

seated_at : (configuration : ConfigValue) (round : ℕ) (player : Result Player Refused) (seating : Seating) → IsConfiguration configuration → seated configuration round player ≡ Ok seating → IsSeatedAt configuration round seating
seated_at configuration round (Err refused) seating limits sits = absurd cc
seated_at configuration round (Ok player) seating limits sits =
    placed_at configuration round player seating (place_of configuration.movement.rows round player.pair) limits refl
    (open_session (is_closed configuration round) (ok_or (option_map (seating_at configuration round player.first) (place_of configuration.movement.rows round player.pair)) SitsOut) seating sits)

-- The session after the act
abbrev pub answer_at : SessionValue → ℕ → ℕ → Deed → Result Seating Refused → Result (Unit {0}) Refused
answer_at s board at deed sits =
    answer_seated (record { configuration = s.configuration; round = s.round; deal = seen_deal s board sits; records = seen_records s sits }) board at deed sits

acted_valid : (s : SessionValue) (key board at : ℕ) (deed : Deed) (sits : Result Seating Refused) → IsValid s → IsDeed deed → seating_of s.configuration s.round key ≡ sits → answer_at s board at deed sits ≡ Ok tt → IsValid (acted_at s deed sits)
acted_valid s key board at deed (Err refused) valid known is ok = absurd cc
acted_valid s key board at deed (Ok seating) valid known is ok =
    let mine = is_of_set s.configuration seating.set board in
    let records = row_at s.records seating.row in
    let of_set = passed mine NotCurrent (answer_among records (cond mine (deal_on s.deals board) None) board seating.seat at deed) ok in
    let on = acted_on (cond mine (deal_on s.deals board) None) board seating.seat at deed (slice_get records (current_index records)) of_set.1 in
    let sits = seated_at s.configuration s.round (acting_player s.configuration key) seating valid.configured is in
    valid_change s seating.row (with_deed seating.seat deed) current_index valid (deed_board seating.seat deed)
    (λ row x there was good.
    let same : on.plain ≡ x = let both : Some on.plain ≡ Some x = sym on.is ∙ was in cc in
    let round : row.round ≡ s.round = row_round s.configuration s.round sits.table row valid.configured valid.begun sits.first sits.within (ap (slice_get s.configuration.movement.rows) (sym sits.row) ∙ there) in
    let board_is : x.board ≡ board = ap (λ (p : PlainRecord). p.board) (sym same) ∙ on.same in
    let dealt : deal_on s.deals x.board ≡ Some on.hands = ap (deal_on s.deals) board_is ∙ ap (λ b. cond b (deal_on s.deals board) None) (sym of_set.0) ∙ on.dealt in
    let answered : deed_answer (bidding_of x) (play_of on.hands x) seating.seat at deed ≡ Ok tt =
    subst (λ (p : PlainRecord). deed_answer (bidding_of p) (play_of on.hands p) seating.seat at deed ≡ Ok tt) same on.ok in
    deed_valid s.configuration.scoring s.deals s.round row.round on.hands seating.seat at deed x round dealt (first_passes is_open records x was) known answered good)

pub player_valid : (s : SessionValue) (key board at : ℕ) (deed : Deed) → IsValid s → IsDeed deed → player_answer (seen_by s key board) key board at deed ≡ Ok tt → IsValid (acted s key deed)
player_valid s key board at deed valid known ok = acted_valid s key board at deed (seating_of s.configuration s.round key) valid known refl ok
