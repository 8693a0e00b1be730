-- Pairs, rows and deals are read back from their parts.
use Rattle.std.proofs.Common.{◌≡◌, ◌+◌, ◌*◌, ◌/◌, ◌%◌, ◌<◌, ℕ, List, [], ◌∷◌, ◌++◌, length, get_or, map, drop, Option, None, Some, All, refl, sym, ap, ◌∙◌, arith, append_assoc}
use Rattle.std.specs.List.{range_with_len}
use Rattle.std.proofs.lemmas.List.{ext_get_or}
use Rattle.std.proofs.lemmas.List.FromFn.{length-map-range_with_len, get_or-map-range_with_len}
use Rattle.bridge_config.specs.ConfigValue.{Pair}
use Rattle.bridge_config.specs.Limits.{IsKeyNumber, IsPair}
use Rattle.bridge_movement.specs.declared.row.Row.{Row}
use Rattle.bridge_movement.specs.declared.shape.Shape.{Shape}
use Rattle.bridge_movement.specs.Fair.{IsComplete}
use Rattle.bridge_movement.specs.Shape.{row_count}
use Rattle.session_bytes.specs.Parts.{text_bytes, four_bytes, eight_bytes, row_bytes, movement_part, pair_part, deal_part}
use Rattle.session_bytes.specs.PartsRead.{text_in, after_text, key_in, second_player, pair_of_part, row_of_part, rows_of_part, deal_of}
use Rattle.session_rules.specs.StateRange.{AreHands, AreHandsOrNone}
use Rattle.session_bytes.proofs.BytesBack.{text_back, after_back, key_back, hand_back}
use Rattle.session_bytes.proofs.PartLemmas.{flat_fixed_index}

-- a pair

two_back : (a b : List ℕ) (k l : ℕ) → IsKeyNumber k → IsKeyNumber l
    → pair_of_part (pair_part (record { names = a ∷ b ∷ []; keys = k ∷ l ∷ [] })) ≡ record { names = a ∷ b ∷ []; keys = k ∷ l ∷ [] }
two_back a b k l k_small l_small =
    let second : List ℕ = text_bytes b ++ four_bytes l in
    let part : List ℕ = (text_bytes a ++ four_bytes k) ++ second in
    let part_is : part ≡ text_bytes a ++ (four_bytes k ++ second) = append_assoc (text_bytes a) (four_bytes k) second in
    let after_first : after_text part ≡ four_bytes k ++ second = ap after_text part_is ∙ after_back a (four_bytes k ++ second) in
    let first_name : text_in part ≡ a = ap text_in part_is ∙ text_back a (four_bytes k ++ second) in
    let first_key : key_in (after_text part) ≡ k = ap key_in after_first ∙ key_back k second (omega (arith, k_small)) in
    let second_is : second_player part ≡ second = ap (drop 4) after_first in
    let second_name : text_in (second_player part) ≡ b = ap text_in second_is ∙ text_back b (four_bytes l) in
    let second_key : key_in (after_text (second_player part)) ≡ l
    = ap (λ bytes. key_in (after_text bytes)) second_is ∙ ap key_in (after_back b (four_bytes l)) ∙ key_back l [] (omega (arith, l_small)) in
    λ i. record { names = first_name i ∷ second_name i ∷ []; keys = first_key i ∷ second_key i ∷ [] }

pub pair_back : (pair : Pair) → IsPair pair → All IsKeyNumber pair.keys → pair_of_part (pair_part pair) ≡ pair
pair_back pair is small = of pair.names pair.keys is.two_names is.two_keys small
  where
    of : (names : List (List ℕ)) (keys : List ℕ) → length names ≡ 2 → length keys ≡ 2 → All IsKeyNumber keys
        → pair_of_part (pair_part (record { names = names; keys = keys })) ≡ record { names = names; keys = keys }
    of [] keys names_two keys_two small = absurd cc
    of (a ∷ []) keys names_two keys_two small = absurd cc
    of (a ∷ b ∷ c ∷ names) keys names_two keys_two small = absurd cc
    of (a ∷ b ∷ []) [] names_two keys_two small = absurd cc
    of (a ∷ b ∷ []) (k ∷ []) names_two keys_two small = absurd cc
    of (a ∷ b ∷ []) (k ∷ l ∷ m ∷ keys) names_two keys_two small = absurd cc
    of (a ∷ b ∷ []) (k ∷ l ∷ []) names_two keys_two small = two_back a b k l (small 0 0 (omega arith)) (small 1 0 (omega arith))

-- rows that are complete

byte_of_row : (rows : List Row) (index k : ℕ) (row : Row) → index < length rows → k < 3
    → get_or (movement_part rows) (index * 3 + k) 0 ≡ get_or (row_bytes (get_or rows index row)) k 0
byte_of_row rows index k row within small =
    let quotient : (index * 3 + k) / 3 ≡ index = omega arith in
    let remainder : (index * 3 + k) % 3 ≡ k = omega arith in
    flat_fixed_index row_bytes 3 (λ r. refl) rows (index * 3 + k) row 0 (omega arith) (omega arith)
    ∙ ap (λ q. get_or (row_bytes (get_or rows q row)) ((index * 3 + k) % 3) 0) quotient
    ∙ ap (λ r. get_or (row_bytes (get_or rows index row)) r 0) remainder

row_back : (shape : Shape) (rows : List Row) (index : ℕ) (d : Row) → IsComplete shape rows → index < length rows
    → row_of_part shape.tables (movement_part rows) index ≡ get_or rows index d
row_back shape rows index d complete within =
    let row : Row = get_or rows index d in
    let due = (complete.order index within).1 d in
    let bytes = byte_of_row rows index in
    let ns : get_or (movement_part rows) (index * 3) 0 ≡ row.ns
    = ap (λ n. get_or (movement_part rows) n 0) (let e : index * 3 ≡ index * 3 + 0 = omega arith in e) ∙ bytes 0 d within (omega arith) in
    let ew : get_or (movement_part rows) (index * 3 + 1) 0 ≡ row.ew = bytes 1 d within (omega arith) in
    let set : get_or (movement_part rows) (index * 3 + 2) 0 ≡ row.set = bytes 2 d within (omega arith) in
    λ i. record { round = sym due.1 i; table = sym due.2 i; ns = ns i; ew = ew i; set = set i }

pub rows_back : (shape : Shape) (rows : List Row) → IsComplete shape rows → rows_of_part shape (movement_part rows) ≡ rows
rows_back shape rows complete =
    let read : ℕ → Row = row_of_part shape.tables (movement_part rows) in
    let n : ℕ = row_count shape in
    let long : length (map read (range_with_len 0 n)) ≡ length rows = length-map-range_with_len read 0 n ∙ sym complete.count in
    let nobody : Row = record { round = 0; table = 0; ns = 0; ew = 0; set = 0 } in
    ext_get_or nobody (map read (range_with_len 0 n)) rows long
    (λ index within.
    get_or-map-range_with_len read 0 n index index nobody (omega (arith, within, long, complete.count)) (omega arith)
    ∙ row_back shape rows index nobody complete (omega (arith, within, long)))

-- a deal

hands_back : (hands : List ℕ) → AreHands hands → deal_of (deal_part (Some hands)) ≡ Some hands
hands_back [] are = absurd (let four = are.0 in cc)
hands_back (n ∷ []) are = absurd (let four = are.0 in cc)
hands_back (n ∷ e ∷ []) are = absurd (let four = are.0 in cc)
hands_back (n ∷ e ∷ s ∷ []) are = absurd (let four = are.0 in cc)
hands_back (n ∷ e ∷ s ∷ w ∷ []) are =
    let north = hand_back n (eight_bytes e ++ (eight_bytes s ++ (eight_bytes w ++ []))) (let h = are.1 0 0 (omega arith) in omega (arith, h)) in
    let east = hand_back e (eight_bytes s ++ (eight_bytes w ++ [])) (let h = are.1 1 0 (omega arith) in omega (arith, h)) in
    let south = hand_back s (eight_bytes w ++ []) (let h = are.1 2 0 (omega arith) in omega (arith, h)) in
    let west = hand_back w [] (let h = are.1 3 0 (omega arith) in omega (arith, h)) in
    λ i. Some (north i ∷ east i ∷ south i ∷ west i ∷ [])
hands_back (n ∷ e ∷ s ∷ w ∷ more ∷ rest) are = absurd (let four = are.0 in cc)

pub deal_back : (deal : Option (List ℕ)) → AreHandsOrNone deal → deal_of (deal_part deal) ≡ deal
deal_back None are = refl
deal_back (Some hands) are = hands_back hands are
