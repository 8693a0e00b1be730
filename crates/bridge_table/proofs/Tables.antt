-- The records of all tables, before and after a change of one.
use Rattle.std.proofs.Common.{◌≡◌, ◌<◌, ◌≤◌, ℕ, List, [], ◌∷◌, length, Option, Some, Result, refl, sym, ap, ◌∙◌, subst, arith, Vec, Global}
use Rattle.std.specs.Prelude.{All, map, slice_get, slice_set, slice_index_or, unwrap_or, OnOk, OnErr}
use Rattle.std.specs.Vec.{with_items}
use Rattle.std.specs.Option.{option_map}
use Rattle.std.proofs.lemmas.List.{map-set, length-map, with_items_is}
use Rattle.std.proofs.lemmas.Option.{slice_get-map, slice_get_read, slice_get_within, get_or_from_slice_get}
use Rattle.bridge_cards.specs.declared.seat.Seat.{Seat}
use Rattle.session_rules.specs.declared.deed.Deed.{Deed}
use Rattle.session_rules.specs.Deed.{with_deed}
use Rattle.bridge_table.specs.declared.record.Record.{Record}
use Rattle.session_rules.specs.declared.refused.Refused.{Refused}
use Rattle.session_rules.specs.Record.{PlainRecord}
use Rattle.session_rules.specs.State.{row_at, changed_at, current_index}
use Rattle.session_rules.specs.PlayerStep.{acted_among}
use Rattle.bridge_table.specs.Kept.{plain_of, board_kept, IsTiedIn}
use Rattle.session_rules.proofs.Lists.{changed_at-Some, at_result, map-changed_at}
use Rattle.session_rules.proofs.PlainRecords.{deed_board}

-- a row of the records
pub row_is : (tables : List (List Record)) (index : ℕ) (table : List Record) → slice_get tables index ≡ Some table → slice_get (map (map plain_of) tables) index ≡ Some (map plain_of table)
row_is tables index table is = slice_get-map (map plain_of) tables index ∙ ap (option_map (map plain_of)) is

pub row_at_is : (tables : List (List Record)) (index : ℕ) (table : List Record) → slice_get tables index ≡ Some table → row_at (map (map plain_of) tables) index ≡ map plain_of table
row_at_is tables index table is = ap (λ row. unwrap_or row []) (row_is tables index table is)

-- the records, where a table is changed
pub changed_row : (tables : List (List Record)) (index : ℕ) (table after : List Record) (f : List PlainRecord → List PlainRecord) → slice_get tables index ≡ Some table → map plain_of after ≡ f (map plain_of table) → map (map plain_of) (slice_set tables index after) ≡ changed_at f (map (map plain_of) tables) index
changed_row tables index table after f is left =
    map-set (map plain_of) tables index after
    ∙ ap (slice_set (map (map plain_of) tables) index) left
    ∙ sym (changed_at-Some f (map (map plain_of) tables) index (map plain_of table) (row_is tables index table is))

-- a row has few records
pub few_row : (tables : List (List Record)) (index : ℕ) (table : List Record) → All (λ (row : List Record). length row ≤ 3) tables → slice_get tables index ≡ Some table → length table ≤ 3
few_row tables index table few is =
    let P : List Record → Type 0 = λ row. length row ≤ 3 in
    subst P (get_or_from_slice_get tables index table [] is) (few index [] (slice_get_within tables index table is))

-- the records of a row are tied
pub tied_row : (deals : List (Option (List ℕ))) (tables : List (List Record)) (index : ℕ) (table : List Record) → All (All (IsTiedIn deals)) tables → slice_get tables index ≡ Some table → All (IsTiedIn deals) table
tied_row deals tables index table tied is =
    subst (All (IsTiedIn deals)) (get_or_from_slice_get tables index table [] is) (tied index [] (slice_get_within tables index table is))

-- the lists in vectors
abbrev pub lists_in : List (Vec Record Global) → List (List Record)
lists_in vectors = map (λ (table : Vec Record Global). table.items) vectors

pub list_there : (vectors : List (Vec Record Global)) (index : ℕ) (table : Vec Record Global) → index < length (lists_in vectors) → table ≡ slice_index_or vectors index table → slice_get (lists_in vectors) index ≡ Some table.items
list_there vectors index table within is =
    let inside : index < length vectors = omega (arith, length-map vectors (λ (t : Vec Record Global). t.items)) in
    slice_get-map (λ (t : Vec Record Global). t.items) vectors index
    ∙ ap (option_map (λ (t : Vec Record Global). t.items)) (slice_get_read vectors (length vectors) index table refl inside is)

pub list_changed : (vectors : List (Vec Record Global)) (index : ℕ) (table : Vec Record Global) (after : List Record) → length after ≡ table.len → lists_in (slice_set vectors index (with_items table after)) ≡ slice_set (lists_in vectors) index after
list_changed vectors index table after long =
    map-set (λ (t : Vec Record Global). t.items) vectors index (with_items table after)
    ∙ ap (slice_set (lists_in vectors) index) (with_items_is table after long)

-- the boards are those of what is seen
boards_seen : (table : List Record) → map board_kept table ≡ map (λ (plain : PlainRecord). plain.board) (map plain_of table)
boards_seen [] = refl
boards_seen (kept ∷ table) = ap (λ rest. kept.board ∷ rest) (boards_seen table)

pub boards_same : (seat : Seat) (deed : Deed) (r : Result (Unit {0}) Refused) (before after : List Record) → OnOk r (map plain_of after ≡ acted_among seat deed (map plain_of before)) → OnErr r (after ≡ before) → map board_kept after ≡ map board_kept before
boards_same seat deed r before after taken refused =
    at_result _ _ (map board_kept after ≡ map board_kept before) r taken refused
    (λ ok left.
    boards_seen after
    ∙ ap (map (λ (plain : PlainRecord). plain.board)) left
    ∙ map-changed_at (λ (plain : PlainRecord). plain.board) (with_deed seat deed) (map plain_of before) (current_index (map plain_of before)) (deed_board seat deed)
    ∙ sym (boards_seen before))
    (λ same. ap (map board_kept) same)
