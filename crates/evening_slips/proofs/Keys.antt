-- Keys by pair and player.
use Rattle.std.proofs.Common.{◌≡◌, ℕ, ◌-◌, ◌<◌, ◌≤◌, Bool, true, false, nat_lt, cond, List, [], ◌∷◌, length, get_or, map, Some, None, Option, refl, sym, ap, ◌∙◌, arith}
use Rattle.std.specs.Prelude.{slice_get}
use Rattle.std.specs.Option.{option_map_or}
use Rattle.std.proofs.lemmas.Bool.{ltb-true, ltb-false}
use Rattle.std.proofs.lemmas.List.{get_or-map, length-map}
use Rattle.std.proofs.lemmas.Option.{slice_get-get_or, slice_get_past}
use Rattle.bridge_config.specs.declared.fields.Key.{Key}
use Rattle.bridge_config.specs.declared.fields.PairFields.{PairFields}
use Rattle.bridge_config.specs.ConfigValue.{Pair, pair_of, key_number}
use Rattle.evening_slips.specs.Slips.{player_key}

-- the first key of a pair, and the second
pub first_key : (keys : List Key) → (get_or keys 0 (record { 0 = 0 })).0 ≡ get_or (map key_number keys) 0 0
first_key [] = refl
first_key (key ∷ keys) = refl

pub second_key : (keys : List Key) → (get_or keys 1 (record { 0 = 0 })).0 ≡ get_or (map key_number keys) 1 0
second_key [] = refl
second_key (key ∷ []) = refl
second_key (key ∷ other ∷ keys) = refl

-- the key of the pair that was found at an index
pub key_found : (pairs : List PairFields) (pair i : ℕ) (first : Bool) (found : PairFields) → i ≡ pair - 1
    → true ≡ nat_lt i (length pairs) → found ≡ get_or pairs i found
    → get_or (map key_number found.keys) (cond first 0 1) 0 ≡ player_key (map pair_of pairs) pair first
key_found pairs pair i first found at inside is =
    let within : i < length pairs = ltb-true i (length pairs) (sym inside) in
    let there : slice_get (map pair_of pairs) i ≡ Some (pair_of found) =
    slice_get-get_or (map pair_of pairs) i (pair_of found) (omega (arith, within, length-map pairs pair_of))
    ∙ ap Some (get_or-map pair_of pairs i found (pair_of found) within ∙ ap pair_of (sym is)) in
    ap (λ (o : Option Pair). option_map_or (λ (p : Pair). get_or p.keys (cond first 0 1) 0) o 0) (sym there)
    ∙ ap (λ k. option_map_or (λ (p : Pair). get_or p.keys (cond first 0 1) 0) (slice_get (map pair_of pairs) k) 0) at

-- and where there is no such pair
pub no_key : (pairs : List PairFields) (pair i : ℕ) (first : Bool) → i ≡ pair - 1 → false ≡ nat_lt i (length pairs)
    → 0 ≡ player_key (map pair_of pairs) pair first
no_key pairs pair i first at outside =
    let past : length pairs ≤ i = ltb-false i (length pairs) (sym outside) in
    let none : slice_get (map pair_of pairs) i ≡ None =
    slice_get_past (map pair_of pairs) i (omega (arith, past, length-map pairs pair_of)) in
    ap (λ (o : Option Pair). option_map_or (λ (p : Pair). get_or p.keys (cond first 0 1) 0) o 0) (sym none)
    ∙ ap (λ k. option_map_or (λ (p : Pair). get_or p.keys (cond first 0 1) 0) (slice_get (map pair_of pairs) k) 0) at
