-- What an accepted action does to the record of a play.
use Rattle.std.proofs.Common.{◌≡◌, ◌≢◌, ◌+◌, ◌-◌, ◌*◌, ◌/◌, ◌==◌, ◌≤◌, ℕ, Bool, true, false, ◌&&◌, cond, List, [], map, Option, Some, None, Result, Ok, Err, refl, sym, ap, ◌∙◌, arith, inl, inr}
use Rattle.std.specs.Prelude.{slice_get, unwrap_or}
use Rattle.std.specs.List.{range_with_len}
use Rattle.std.specs.Option.{option_map}
use Rattle.std.proofs.lemmas.Bool.{cases_eq, eqb-true, eqb-false, eq-eqb, false≢true, leb-true, and_parts}
use Rattle.std.proofs.lemmas.Nat.{div-mul-add}
use Rattle.std.proofs.lemmas.Option.{slice_get-map, slice_get_cases, slice_get_within, get_or_from_slice_get}
use Rattle.std.proofs.lemmas.List.FromFn.{length-range_with_len, get_or-range_with_len}
use Rattle.bridge_cards.specs.declared.seat.Seat.{Seat}
use Rattle.bridge_movement.specs.declared.row.Row.{Row}
use Rattle.bridge_movement.specs.declared.shape.Shape.{Shape}
use Rattle.bridge_movement.specs.Row.{is_live}
use Rattle.session_rules.specs.declared.act.Act.{Act}
use Rattle.session_rules.specs.declared.act.Act.TheVariants as act
use Rattle.session_rules.specs.declared.action.PlayId.{PlayId}
use Rattle.session_rules.specs.declared.correction.Correction.{Correction}
use Rattle.session_rules.specs.declared.deed.Deed.{Deed}
use Rattle.session_rules.specs.declared.refused.Refused.{Refused}
use Rattle.session_rules.specs.declared.refused.Refused.TheVariants.{NotCurrent}
use Rattle.session_rules.specs.declared.seating.Seating.{Seating}
use Rattle.session_rules.specs.Deed.{with_deed}
use Rattle.session_rules.specs.Record.{PlainRecord}
use Rattle.bridge_movement.specs.Shape.{index_of_row}
use Rattle.session_rules.specs.State.{SessionValue, deal_on, row_at, row_boards, changed_at, current_index, director_answer, seating_of, is_of_set, is_row_within, record_of}
use Rattle.session_rules.specs.PlayerStep.{seen_by, answer_among, player_answer, acted_at, acted}
use Rattle.session_rules.specs.Back.{taken_back, back_answer, less_latest_in}
use Rattle.session_rules.specs.DirectorStep.{rule_answer, with_ruling, ruled}
use Rattle.session_rules.specs.Step.{act_answer, changed_by}
use Rattle.session_rules.specs.Valid.{board_of, IsPlayId, IsAct, IsValid}
use Rattle.session_rules.specs.Own.{OwnDeed, ByPlayer, ByDirector, TakenBack, own_deed_by, same_play, ruled_in, back_in, own_deed_in}
use Rattle.session_rules.proofs.Lists.{changed_at-Some, changed_at-None}
use Rattle.session_rules.proofs.StaysValid.{set_read, set_other, row_found, mapped_from}
use Rattle.session_rules.proofs.ValidBack.{back_on}
use Rattle.session_rules.proofs.ValidRuling.{allowed_ok, ruled_on, found_within}
use Rattle.session_rules.proofs.ValidPlayer.{answer_at, passed, acted_on}
use Rattle.session_rules.proofs.PlainBack.{happened}

-- what is done, if anything is
abbrev pub perhaps_done : Option OwnDeed → PlainRecord → PlainRecord
perhaps_done None x = x
perhaps_done (Some deed) x = happened deed x

-- The records after a change

abbrev changes : (PlainRecord → PlainRecord) → (List PlainRecord → ℕ) → List PlainRecord → List PlainRecord
changes f at records = changed_at f records (at records)

changed_there : (f : PlainRecord → PlainRecord) (at : List PlainRecord → ℕ) (records : List (List PlainRecord)) (row_index index : ℕ) (x : PlainRecord) → slice_get (row_at records row_index) index ≡ Some x → row_at (changed_at (changes f at) records row_index) row_index ≡ changes f at (row_at records row_index)
changed_there f at records row_index index x is =
    let own = row_found records row_index index x is in
    let within = slice_get_within records row_index own.0 own.1 in
    ap (λ o. unwrap_or o []) (ap (λ rs. slice_get rs row_index) (changed_at-Some (changes f at) records row_index own.0 own.1) ∙ set_read records row_index (changes f at own.0) within)
    ∙ ap (changes f at) (sym own.2)

here_changed : (f : PlainRecord → PlainRecord) (at : List PlainRecord → ℕ) (records : List (List PlainRecord)) (row_index index : ℕ) (x : PlainRecord) → slice_get (row_at records row_index) index ≡ Some x → at (row_at records row_index) ≡ index → slice_get (row_at (changed_at (changes f at) records row_index) row_index) index ≡ Some (f x)
here_changed f at records row_index index x is same =
    let row = row_at records row_index in
    ap (λ rs. slice_get rs index) (changed_there f at records row_index index x is)
    ∙ ap (λ i. slice_get (changed_at f row i) index) same
    ∙ ap (λ rs. slice_get rs index) (changed_at-Some f row index x is)
    ∙ set_read row index (f x) (slice_get_within row index x is)

other_index : (f : PlainRecord → PlainRecord) (xs : List PlainRecord) (i j : ℕ) → j ≢ i → slice_get (changed_at f xs i) j ≡ slice_get xs j
other_index f xs i j apart =
    elim (slice_get_cases xs i).1 [
      | inl (x, within, found, read) ↦ ap (λ rs. slice_get rs j) (changed_at-Some f xs i x found) ∙ set_other xs i j (f x) apart
      | inr (past, none) ↦ ap (λ rs. slice_get rs j) (changed_at-None f xs i none)
    ]

index_apart : (f : PlainRecord → PlainRecord) (at : List PlainRecord → ℕ) (records : List (List PlainRecord)) (row_index index : ℕ) (x : PlainRecord) → slice_get (row_at records row_index) index ≡ Some x → index ≢ at (row_at records row_index) → slice_get (row_at (changed_at (changes f at) records row_index) row_index) index ≡ Some x
index_apart f at records row_index index x is apart =
    ap (λ rs. slice_get rs index) (changed_there f at records row_index index x is)
    ∙ other_index f (row_at records row_index) (at (row_at records row_index)) index apart
    ∙ is

row_apart : (g : List PlainRecord → List PlainRecord) (records : List (List PlainRecord)) (changed_index row_index : ℕ) → row_index ≢ changed_index → row_at (changed_at g records changed_index) row_index ≡ row_at records row_index
row_apart g records changed_index row_index apart =
    elim (slice_get_cases records changed_index).1 [
      | inl (rs, within, found, read) ↦
          ap (λ o. unwrap_or o []) (ap (λ rows. slice_get rows row_index) (changed_at-Some g records changed_index rs found) ∙ set_other records changed_index row_index (g rs) apart)
      | inr (past, none) ↦ ap (λ rows. row_at rows row_index) (changed_at-None g records changed_index none)
    ]

-- the record of the play, of which the index is within
record_at : (s : SessionValue) (records : List (List PlainRecord)) (play : PlayId) (y : PlainRecord) → is_row_within s.configuration.movement.shape play.round play.table ≡ true → slice_get (row_at records (index_of_row s.configuration.movement.shape play.round play.table)) (play.index - 1) ≡ Some y → record_of (record s { records = records }) play ≡ Some y
record_at s records play y within is =
    ap (λ b. cond b (slice_get (row_at records (index_of_row s.configuration.movement.shape play.round play.table)) (play.index - 1)) None) within ∙ is

-- Rulings

-- an index is of one round and table
one_place : (shape : Shape) (round table other_round other_table : ℕ) → 1 ≤ round → 1 ≤ table → table ≤ shape.tables → 1 ≤ other_round → 1 ≤ other_table → other_table ≤ shape.tables → index_of_row shape round table ≡ index_of_row shape other_round other_table → (round ≡ other_round) × (table ≡ other_table)
one_place shape round table other_round other_table least first within least_other first_other within_other same =
    let tables : ℕ = shape.tables in
    let a : ((round - 1) * tables + (table - 1)) / tables ≡ round - 1 = div-mul-add (round - 1) tables (table - 1) (omega arith) in
    let b : ((other_round - 1) * tables + (other_table - 1)) / tables ≡ other_round - 1 = div-mul-add (other_round - 1) tables (other_table - 1) (omega arith) in
    let rounds : round - 1 ≡ other_round - 1 = sym a ∙ ap (λ n. n / tables) same ∙ b in
    let products : (round - 1) * tables ≡ (other_round - 1) * tables = ap (λ n. n * tables) rounds in
    (omega (arith, rounds), omega (arith, same, products))

same_fields : (a b : PlayId) → same_play a b ≡ true → (a.round ≡ b.round) × (a.table ≡ b.table) × (a.index ≡ b.index)
same_fields a b is =
    let first = and_parts (a.round == b.round) ((a.table == b.table) && (a.index == b.index)) is in
    let second = and_parts (a.table == b.table) (a.index == b.index) first.1 in
    (eqb-true a.round b.round first.0, eqb-true a.table b.table second.0, eqb-true a.index b.index second.1)

all_true : (a b c : Bool) → a ≡ true → b ≡ true → c ≡ true → (a && (b && c)) ≡ true
all_true true true true p q r = refl
all_true true true false p q r = absurd cc
all_true true false c p q r = absurd cc
all_true false b c p q r = absurd cc

fields_same : (a b : PlayId) → a.round ≡ b.round → a.table ≡ b.table → a.index ≡ b.index → same_play a b ≡ true
fields_same a b round table index =
    all_true (a.round == b.round) (a.table == b.table) (a.index == b.index) (eq-eqb a.round b.round round) (eq-eqb a.table b.table table) (eq-eqb a.index b.index index)

-- a session in which the director changed the record of a play
abbrev pub directed : SessionValue → PlayId → (PlainRecord → PlainRecord) → SessionValue
directed s named f = record s {
  records = changed_at (changes f (λ records. named.index - 1)) s.records (index_of_row s.configuration.movement.shape named.round named.table);
}

directed_by : (s : SessionValue) (play named : PlayId) (f : PlainRecord → PlainRecord) (x : PlainRecord) (same : Bool) → IsPlayId play → IsPlayId named → same_play named play ≡ same → is_row_within s.configuration.movement.shape named.round named.table ≡ true → is_row_within s.configuration.movement.shape play.round play.table ≡ true → slice_get (row_at s.records (index_of_row s.configuration.movement.shape play.round play.table)) (play.index - 1) ≡ Some x → record_of (directed s named f) play ≡ Some (cond same (f x) x)
directed_by s play named f x true ranges ranges_named test within_named within is =
    let shape = s.configuration.movement.shape in
    let same = same_fields named play test in
    let row_index : index_of_row shape named.round named.table ≡ index_of_row shape play.round play.table = ap (λ r. index_of_row shape r named.table) same.0 ∙ ap (index_of_row shape play.round) same.1 in
    let at : List PlainRecord → ℕ = λ records. named.index - 1 in
    let g = changes f at in
    record_at s (changed_at g s.records (index_of_row shape named.round named.table)) play (f x) within
    (ap (λ p. slice_get (row_at (changed_at g s.records p) (index_of_row shape play.round play.table)) (play.index - 1)) row_index
    ∙ here_changed f at s.records (index_of_row shape play.round play.table) (play.index - 1) x is (ap (λ n. n - 1) same.2))
directed_by s play named f x false ranges ranges_named test within_named within is =
    let shape = s.configuration.movement.shape in
    let mine = index_of_row shape play.round play.table in
    let its = index_of_row shape named.round named.table in
    let at : List PlainRecord → ℕ = λ records. named.index - 1 in
    let g = changes f at in
    record_at s (changed_at g s.records its) play x within
    (elim (cases_eq mine its) [
      | inr apart ↦ ap (λ rs. slice_get rs (play.index - 1)) (row_apart g s.records its mine apart) ∙ is
      | inl row_index ↦
          ap (λ p. slice_get (row_at (changed_at g s.records p) mine) (play.index - 1)) (sym row_index)
          ∙ index_apart f at s.records mine (play.index - 1) x is
          (λ index.
          let both = one_place shape named.round named.table play.round play.table ranges_named.0 ranges_named.1 (leb-true named.table shape.tables (and_parts _ _ within_named).1) ranges.0 ranges.1 (leb-true play.table shape.tables (and_parts _ _ within).1) (sym row_index) in
          let here : named.index ≡ play.index = omega (arith, ranges.2, ranges_named.2, index) in
          false≢true (sym test ∙ fields_same named play both.0 both.1 here))
    ])

-- the play that is named, or another
if_named : (deed : OwnDeed) (x : PlainRecord) (same : Bool) → cond same (happened deed x) x ≡ perhaps_done (cond same (Some deed) None) x
if_named deed x true = refl
if_named deed x false = refl

pub rule_step : (s : SessionValue) (play named : PlayId) (made : Correction) (x : PlainRecord) → IsPlayId play → IsPlayId named → rule_answer s.configuration.scoring s.round named.round made (record_of s named) ≡ Ok tt → record_of s play ≡ Some x → record_of (ruled s named made) play ≡ Some (perhaps_done (ruled_in play named made) x)
rule_step s play named made x ranges ranges_named ok is =
    let shape = s.configuration.movement.shape in
    let on = ruled_on s.configuration.scoring s.round named.round made (record_of s named) ok in
    let within_named = (found_within (is_row_within shape named.round named.table) (slice_get (row_at s.records (index_of_row shape named.round named.table)) (named.index - 1)) on.plain on.is).0 in
    let found = found_within (is_row_within shape play.round play.table) (slice_get (row_at s.records (index_of_row shape play.round play.table)) (play.index - 1)) x is in
    directed_by s play named (with_ruling made) x (same_play named play) ranges ranges_named refl within_named found.0 found.1
    ∙ ap Some (if_named (ByDirector made) x (same_play named play))

pub back_step : (s : SessionValue) (play named : PlayId) (x : PlainRecord) → IsPlayId play → IsPlayId named → back_answer s.round named.round (record_of s named) ≡ Ok tt → record_of s play ≡ Some x → record_of (less_latest_in s named) play ≡ Some (perhaps_done (back_in play named) x)
back_step s play named x ranges ranges_named ok is =
    let shape = s.configuration.movement.shape in
    let on = back_on s.round named.round (record_of s named) ok in
    let within_named = (found_within (is_row_within shape named.round named.table) (slice_get (row_at s.records (index_of_row shape named.round named.table)) (named.index - 1)) on.plain on.is).0 in
    let found = found_within (is_row_within shape play.round play.table) (slice_get (row_at s.records (index_of_row shape play.round play.table)) (play.index - 1)) x is in
    directed_by s play named taken_back x (same_play named play) ranges ranges_named refl within_named found.0 found.1
    ∙ ap Some (if_named TakenBack x (same_play named play))

-- Players

-- the boards of a row in order
pub board_there : (boards : ℕ) (rows : List Row) (records : List (List PlainRecord)) (row_index index : ℕ) (x : PlainRecord) → map (map board_of) records ≡ map (row_boards boards) rows → slice_get (row_at records row_index) index ≡ Some x → (row : Row) × (slice_get rows row_index ≡ Some row) × (slice_get (row_boards boards row) index ≡ Some x.board)
board_there boards rows records row_index index x same is =
    let own = row_found records row_index index x is in
    let seen : slice_get (map (row_boards boards) rows) row_index ≡ Some (map board_of own.0) =
    ap (λ rs. slice_get rs row_index) (sym same) ∙ slice_get-map (map board_of) records row_index ∙ ap (option_map (map board_of)) own.1 in
    let row = mapped_from (row_boards boards) rows row_index (map board_of own.0) seen in
    (row.0, row.1, ap (λ rs. slice_get rs index) row.2 ∙ slice_get-map board_of own.0 index ∙ ap (option_map board_of) (ap (λ rs. slice_get rs index) (sym own.2) ∙ is))

pub board_number : (live : Bool) (first n index board : ℕ) → slice_get (cond live (range_with_len first n) []) index ≡ Some board → board ≡ first + index
board_number true first n index board is =
    let within = slice_get_within (range_with_len first n) index board is in
    sym (get_or_from_slice_get (range_with_len first n) index board board is) ∙ get_or-range_with_len first n index board (omega (arith, within, length-range_with_len first n))
board_number false first n index board is = let within = slice_get_within {A = ℕ} [] index board is in absurd (omega arith)

-- in a row one board is in one index
one_index : (s : SessionValue) (row_index i j : ℕ) (x y : PlainRecord) → IsValid s → slice_get (row_at s.records row_index) i ≡ Some x → slice_get (row_at s.records row_index) j ≡ Some y → x.board ≡ y.board → i ≡ j
one_index s row_index i j x y valid at_i at_j same =
    let n : ℕ = s.configuration.boards in
    let a = board_there n s.configuration.movement.rows s.records row_index i x valid.of_boards at_i in
    let b = board_there n s.configuration.movement.rows s.records row_index j y valid.of_boards at_j in
    let row : a.0 ≡ b.0 = let both : Some a.0 ≡ Some b.0 = sym a.1 ∙ b.1 in cc in
    let first : ℕ = (b.0.set - 1) * n + 1 in
    let at_x = board_number (is_live b.0) first n i x.board (ap (λ (r : Row). slice_get (row_boards n r) i) (sym row) ∙ a.2) in
    let at_y = board_number (is_live b.0) first n j y.board b.2 in
    omega (arith, at_x, at_y, same)

acted_by : (s : SessionValue) (play : PlayId) (seat : Seat) (row_index : ℕ) (deed : Deed) (board named : ℕ) (x current : PlainRecord) (a b : Bool) → IsValid s → (row_index == index_of_row s.configuration.movement.shape play.round play.table) ≡ a → (named == board) ≡ b → x.board ≡ board → slice_get (row_at s.records row_index) (current_index (row_at s.records row_index)) ≡ Some current → current.board ≡ named → slice_get (row_at s.records (index_of_row s.configuration.movement.shape play.round play.table)) (play.index - 1) ≡ Some x → slice_get (row_at (changed_at (changes (with_deed seat deed) current_index) s.records row_index) (index_of_row s.configuration.movement.shape play.round play.table)) (play.index - 1) ≡ Some (perhaps_done (cond (a && b) (Some (ByPlayer seat deed)) None) x)
acted_by s play seat row_index deed board named x current true true valid at_index of_board own now on is =
    let mine = index_of_row s.configuration.movement.shape play.round play.table in
    let same : row_index ≡ mine = eqb-true row_index mine at_index in
    let name : named ≡ board = eqb-true named board of_board in
    let there : slice_get (row_at s.records row_index) (play.index - 1) ≡ Some x = ap (λ p. slice_get (row_at s.records p) (play.index - 1)) same ∙ is in
    let index = one_index s row_index (current_index (row_at s.records row_index)) (play.index - 1) current x valid now there (on ∙ name ∙ sym own) in
    ap (λ p. slice_get (row_at (changed_at (changes (with_deed seat deed) current_index) s.records row_index) p) (play.index - 1)) (sym same)
    ∙ here_changed (with_deed seat deed) current_index s.records row_index (play.index - 1) x there index
acted_by s play seat row_index deed board named x current true false valid at_index of_board own now on is =
    let mine = index_of_row s.configuration.movement.shape play.round play.table in
    let same : row_index ≡ mine = eqb-true row_index mine at_index in
    let there : slice_get (row_at s.records row_index) (play.index - 1) ≡ Some x = ap (λ p. slice_get (row_at s.records p) (play.index - 1)) same ∙ is in
    ap (λ p. slice_get (row_at (changed_at (changes (with_deed seat deed) current_index) s.records row_index) p) (play.index - 1)) (sym same)
    ∙ index_apart (with_deed seat deed) current_index s.records row_index (play.index - 1) x there
    (λ index.
    let found : slice_get (row_at s.records row_index) (current_index (row_at s.records row_index)) ≡ Some x = ap (slice_get (row_at s.records row_index)) (sym index) ∙ there in
    let one : current ≡ x = let both : Some current ≡ Some x = sym now ∙ found in cc in
    let name : named ≡ board = sym on ∙ ap board_of one ∙ own in
    eqb-false named board of_board name)
acted_by s play seat row_index deed board named x current false b valid at_index of_board own now on is =
    let mine = index_of_row s.configuration.movement.shape play.round play.table in
    ap (λ rs. slice_get rs (play.index - 1)) (row_apart (changes (with_deed seat deed) current_index) s.records row_index mine (λ same. eqb-false row_index mine at_index (sym same))) ∙ is

player_by : (s : SessionValue) (play : PlayId) (board named at : ℕ) (deed : Deed) (x : PlainRecord) (sits : Result Seating Refused) → IsValid s → answer_at s named at deed sits ≡ Ok tt → record_of s play ≡ Some x → x.board ≡ board → record_of (acted_at s deed sits) play ≡ Some (perhaps_done (own_deed_by s.configuration play board named deed sits) x)
player_by s play board named at deed x (Err refused) valid ok is own = absurd cc
player_by s play board named at deed x (Ok seating) valid ok is own =
    let shape = s.configuration.movement.shape in
    let mine = is_of_set s.configuration seating.set named in
    let records = row_at s.records seating.row in
    let of_set = passed mine NotCurrent (answer_among records (cond mine (deal_on s.deals named) None) named seating.seat at deed) ok in
    let on = acted_on (cond mine (deal_on s.deals named) None) named seating.seat at deed (slice_get records (current_index records)) of_set.1 in
    let found = found_within (is_row_within shape play.round play.table) (slice_get (row_at s.records (index_of_row shape play.round play.table)) (play.index - 1)) x is in
    let a : Bool = seating.row == index_of_row shape play.round play.table in
    let b : Bool = named == board in
    record_at s (changed_at (changes (with_deed seating.seat deed) current_index) s.records seating.row) play (perhaps_done (cond (a && b) (Some (ByPlayer seating.seat deed)) None) x) found.0
    (acted_by s play seating.seat seating.row deed board named x on.plain a b valid refl refl own on.is on.same found.1)

pub player_step : (s : SessionValue) (play : PlayId) (key board named at : ℕ) (deed : Deed) (x : PlainRecord) → IsValid s → player_answer (seen_by s key named) key named at deed ≡ Ok tt → record_of s play ≡ Some x → x.board ≡ board → record_of (acted s key deed) play ≡ Some (perhaps_done (own_deed_by s.configuration play board named deed (seating_of s.configuration s.round key)) x)
player_step s play key board named at deed x valid ok is own = player_by s play board named at deed x (seating_of s.configuration s.round key) valid ok is own

-- Each act
pub record_step : (a : Act) (s : SessionValue) (play : PlayId) (board : ℕ) (x : PlainRecord) → IsAct a → IsPlayId play → IsValid s → act_answer s a ≡ Ok tt → record_of s play ≡ Some x → x.board ≡ board → record_of (changed_by s a) play ≡ Some (perhaps_done (own_deed_in s.configuration play board s.round a) x)
record_step (act.Player key named at deed) s play board x ranges id valid ok is own = player_step s play key.0 board named at deed x valid ok is own
record_step (act.Deal key of_board hands) s play board x ranges id valid ok is own = is
record_step (act.Undeal key of_board) s play board x ranges id valid ok is own = is
record_step (act.RoundEnd key round) s play board x ranges id valid ok is own = is
record_step (act.Back key named) s play board x ranges id valid ok is own =
    back_step s play named x id ranges (allowed_ok (director_answer s.configuration key.0) (back_answer s.round named.round (record_of s named)) ok) is
record_step (act.Ruling key named made) s play board x ranges id valid ok is own =
    rule_step s play named made x id ranges (allowed_ok (director_answer s.configuration key.0) (rule_answer s.configuration.scoring s.round named.round made (record_of s named)) ok) is
