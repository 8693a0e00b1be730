-- Keys among keys.
use Rattle.std.proofs.Common.{◌≡◌, ◌↔◌, ℕ, Bool, true, false, All, IsTrue, ◌==◌, not, ◌&&◌, ◌||◌, List, [], ◌∷◌, ◌++◌, length, map, get_or, drop, refl, sym, ap, ◌∙◌, inl, inr, suc, arith, subst, ◌<◌, ◌≤◌, ◌+◌, ◌^◌}
use Rattle.std.proofs.Math.Seq.{drop-cons}
use Rattle.std.proofs.lemmas.Bool.{eq-eqb, ne_eqb}
use Rattle.std.proofs.lemmas.Bool.Decides.{eqb_tells}
use Rattle.std.specs.List.{list_any}
use Rattle.bridge_config.specs.declared.fields.Key.{Key}
use Rattle.std.proofs.lemmas.List.{append-nil, map_push, get_or_default}
use Rattle.std.proofs.lemmas.Grind.{flat_map-append}
use Rattle.bridge_config.specs.declared.fields.PairFields.{PairFields}
use Rattle.bridge_config.specs.ConfigValue.{Pair, keys_in, key_number, pair_of}
use Rattle.bridge_config.specs.Limits.{stands_in, are_distinct, IsKeyNumber, AreKeys}

-- a test of the images of a list is a test of the list
pub list_any-map : {X Y : Type 0} (p : Y → Bool) (f : X → Y) (xs : List X) → list_any p (map f xs) ≡ list_any (λ x. p (f x)) xs
list_any-map p f [] = refl
list_any-map p f (x ∷ xs) = ap (λ b. p (f x) || b) (list_any-map p f xs)

-- a number is among the numbers of keys where a key has it
pub stands_in-map : (keys : List Key) (key : ℕ) → stands_in (map key_number keys) key ≡ list_any (λ other. other.0 == key) keys
stands_in-map keys key = list_any-map (λ other. other == key) key_number keys

-- a test of equality may be turned round
eqb-sym : (a b : ℕ) → (a == b) ≡ (b == a)
eqb-sym a b = elim (eqb_tells a b) [ inl same ↦ same.0 ∙ sym (eq-eqb b a (sym same.1)) | inr other ↦ other.0 ∙ sym (ne_eqb b a (λ e. other.1 (sym e))) ]

-- the two ways to say that a number is among others
flipped : (key : ℕ) (keys : List ℕ) → list_any (λ other. key == other) keys ≡ stands_in keys key
flipped key [] = refl
flipped key (other ∷ keys) = ap (λ b. b || list_any (λ o. key == o) keys) (eqb-sym key other) ∙ ap (λ b. (other == key) || b) (flipped key keys)

-- keys are distinct where the first does not stand in the others, and those are distinct
pub are_distinct-cons : (key : ℕ) (keys : List ℕ) → are_distinct (key ∷ keys) ≡ (not (stands_in keys key) && are_distinct keys)
are_distinct-cons key keys = ap (λ b. not b && are_distinct keys) (flipped key keys)

-- the keys from an index on
pub are_distinct-drop : (keys : List ℕ) (index : ℕ) (d : ℕ) → index < length keys → are_distinct (drop index keys) ≡ (not (stands_in (drop (index + 1) keys) (get_or keys index d)) && are_distinct (drop (index + 1) keys))
are_distinct-drop keys index d within =
    let one : index + 1 ≡ suc index = omega arith in
    ap are_distinct (drop-cons keys index d within ∙ ap (λ n. get_or keys index d ∷ drop n keys) (sym one))
    ∙ are_distinct-cons (get_or keys index d) (drop (index + 1) keys)

-- keys of four bytes, by their indexes
pub are_numbers : (keys : List ℕ) → ((index : ℕ) → get_or keys index 0 < 2 ^ 32) → All IsKeyNumber keys
are_numbers keys below index d within =
    let least = below index in
    let most : get_or keys index 0 ≤ 4294967295 = omega (arith, least) in
    subst IsKeyNumber (sym (get_or_default keys index d 0 within)) most

-- keys of four bytes by a test whether one stands twice
pub keys_told : (keys : List ℕ) (test : Bool) → test ≡ are_distinct keys → All IsKeyNumber keys → IsTrue test ↔ AreKeys keys
keys_told keys true is numbers = (λ told. record { numbers = numbers; distinct = sym is }, λ are. refl)
keys_told keys false is numbers = (λ told. absurd (let no : false ≡ true = told in cc), λ are. absurd (let distinct = are.distinct in cc))

-- the keys of one pair more
pub keys_in-push : (front : List PairFields) (pair : PairFields) → keys_in (map pair_of (front ++ pair ∷ [])) ≡ keys_in (map pair_of front) ++ map key_number pair.keys
keys_in-push front pair =
    ap keys_in (map_push pair_of front pair)
    ∙ flat_map-append (λ (p : Pair). p.keys) (map pair_of front) (pair_of pair ∷ [])
    ∙ ap (λ (keys : List ℕ). keys_in (map pair_of front) ++ keys) (append-nil (map key_number pair.keys))
