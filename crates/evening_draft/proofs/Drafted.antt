-- What is drafted is within the limits of a configuration.
use Rattle.std.proofs.Common.{◌≡◌, ◌↔◌, ℕ, ◌+◌, ◌*◌, ◌<◌, ◌≤◌, Bool, true, false, cond, ◌&&◌, chars, List, [], ◌∷◌, length, map, drop, refl, sym, ap, subst, ◌∙◌, arith}
use Rattle.std.specs.Prelude.{All, nat_le}
use Rattle.std.proofs.lemmas.Bool.{and_from}
use Rattle.std.proofs.lemmas.Bool.Decides.{nat_tests}
use Rattle.std.proofs.lemmas.List.Elements.{All-nil, All-cons}
use Rattle.bridge_movement.specs.MovementValue.{MovementValue}
use Rattle.bridge_movement.specs.Shape.{IsShape}
use Rattle.bridge_movement.specs.Fair.{IsMovement}
use Rattle.bridge_config.specs.ConfigValue.{ConfigValue, Pair, keys_of, keys_in}
use Rattle.bridge_config.specs.Limits.{is_name, IsPair, IsConfiguration, AreKeys, are_distinct}
use Rattle.evening_draft.specs.declared.wishes.PairNames.{PairNames}
use Rattle.evening_draft.specs.declared.wishes.Wishes.{Wishes}
use Rattle.evening_draft.specs.AsciiName.{player_word, player_name, with_characters}
use Rattle.evening_draft.specs.Draft.{names_of, names_from, drafted_pairs, drafted, HasHeading, boards_for}
use Rattle.evening_draft.specs.Keys.{HasNineDigits, key_count}
use Rattle.evening_draft.proofs.PlayerWord.{word_is_name}

-- as many pairs as names
pub pairs_count : (number : ℕ) (names : List PairNames) (keys : List ℕ) → length keys ≡ 2 * length names →
    length (drafted_pairs number names keys) ≡ length names
pairs_count number [] keys twice = refl
pairs_count number (n ∷ names) [] twice = absurd (omega arith)
pairs_count number (n ∷ names) (k ∷ []) twice = absurd (omega arith)
pairs_count number (n ∷ names) (k ∷ l ∷ keys) twice =
    let rest : length (drafted_pairs (number + 1) names keys) ≡ length names = pairs_count (number + 1) names keys (omega arith) in
    omega arith

-- the pairs have the keys in order
pub pairs_keys : (number : ℕ) (names : List PairNames) (keys : List ℕ) → length keys ≡ 2 * length names →
    keys_in (drafted_pairs number names keys) ≡ keys
pairs_keys number [] [] twice = refl
pairs_keys number [] (k ∷ keys) twice = absurd (omega arith)
pairs_keys number (n ∷ names) [] twice = absurd (omega arith)
pairs_keys number (n ∷ names) (k ∷ []) twice = absurd (omega arith)
pairs_keys number (n ∷ names) (k ∷ l ∷ keys) twice =
    ap (λ rest. k ∷ l ∷ rest) (pairs_keys (number + 1) names keys (omega arith))

-- and the names in ASCII
pub pairs_names : (number : ℕ) (names : List PairNames) (keys : List ℕ) → length keys ≡ 2 * length names →
    map (λ (pair : Pair). pair.names) (drafted_pairs number names keys) ≡ names_from number names
pairs_names number [] keys twice = refl
pairs_names number (n ∷ names) [] twice = absurd (omega arith)
pairs_names number (n ∷ names) (k ∷ []) twice = absurd (omega arith)
pairs_names number (n ∷ names) (k ∷ l ∷ keys) twice =
    ap (λ rest. names_of number n ∷ rest) (pairs_names (number + 1) names keys (omega arith))

chosen : (b : Bool) (x y : List ℕ) → (b ≡ true → is_name x ≡ true) → is_name y ≡ true → is_name (cond b x y) ≡ true
chosen true x y given other = given refl
chosen false x y given other = other

-- a name in ASCII is a name
pub player_is_name : (pair : ℕ) (first : Bool) (name : List ℕ) → pair < 256 → is_name (player_name pair first name) ≡ true
player_is_name pair first name small =
    let kept : List ℕ = with_characters [] (chars name) in
    chosen (is_name kept) kept (player_word pair first) (λ is. is) (word_is_name pair first small)

pub pairs_are : (number : ℕ) (names : List PairNames) (keys : List ℕ) → length keys ≡ 2 * length names →
    number + length names ≤ 256 → All IsPair (drafted_pairs number names keys)
pairs_are number [] keys twice few = All-nil IsPair
pairs_are number (n ∷ names) [] twice few = absurd (omega arith)
pairs_are number (n ∷ names) (k ∷ []) twice few = absurd (omega arith)
pairs_are number (n ∷ names) (k ∷ l ∷ keys) twice few =
    let one = player_is_name number true n.first.bytes (omega arith) in
    let other = player_is_name number false n.second.bytes (omega arith) in
    All-cons IsPair (record { names = names_of number n; keys = k ∷ l ∷ [] }) (drafted_pairs (number + 1) names keys)
    (record {
      two_names = refl;
      two_keys = refl;
      names = and_from _ _ one (and_from _ _ other refl);
    }) (pairs_are (number + 1) names keys (omega arith) (omega arith))

-- the keys of the draft are those that were drawn
pub drafted_keys : (wishes : Wishes) (names : List PairNames) (movement : MovementValue) (keys : List ℕ) →
    length keys ≡ key_count (length names) → keys_of (drafted wishes names movement keys) ≡ keys
drafted_keys wishes names movement [] count = absurd (omega arith)
drafted_keys wishes names movement (k ∷ keys) count = ap (λ rest. k ∷ rest) (pairs_keys 1 names keys (omega arith))

boards_within : (boards : ℕ) → 1 ≤ boards → boards ≤ 3 → (nat_le 1 boards && nat_le boards 3) ≡ true
boards_within boards least most = grind (arith, nat_tests)

rest_count : (names : List PairNames) (keys : List ℕ) → length keys ≡ key_count (length names) →
    length (drop 1 keys) ≡ 2 * length names
rest_count names [] count = absurd (omega arith)
rest_count names (k ∷ keys) count = omega arith

pub is_configuration : (wishes : Wishes) (names : List PairNames) (movement : MovementValue) (keys : List ℕ) →
    length keys ≡ key_count (length names) → are_distinct keys ≡ true → All HasNineDigits keys →
    movement.shape.pairs ≡ length names → IsShape movement.shape → IsMovement movement.shape movement.rows →
    1 ≤ boards_for movement.shape.rounds wishes.boards → boards_for movement.shape.rounds wishes.boards ≤ 3 →
    HasHeading wishes → IsConfiguration (drafted wishes names movement keys)
is_configuration wishes names movement keys count distinct nine pairs limits fair least most heading =
    let twice = rest_count names keys count in
    let same : keys_of (drafted wishes names movement keys) ≡ keys = drafted_keys wishes names movement keys count in
    let few : length names ≤ 24 = let most = limits.pairs.1 in omega arith in
    record {
      event = heading.event;
      site = heading.site;
      date_form = heading.date_form;
      date_within = heading.date_within;
      boards = boards_within (boards_for movement.shape.rounds wishes.boards) least most;
      shape = limits;
      movement = fair;
      count = pairs_count 1 names (drop 1 keys) twice ∙ sym pairs;
      pairs = pairs_are 1 names (drop 1 keys) twice (omega arith);
      keys = subst AreKeys (sym same) (record {
        numbers = λ k d within. let digits = (nine k d within).1 in omega arith;
        distinct = distinct;
      });
    }

-- with its parts in place, it is a configuration exactly where it has a heading
pub heading_decides : (wishes : Wishes) (names : List PairNames) (movement : MovementValue) (keys : List ℕ) (some : Type 0)
    (boards : ℕ) (pairs : List Pair) → length keys ≡ key_count (length names) → are_distinct keys ≡ true →
    All HasNineDigits keys → movement.shape.pairs ≡ length names → IsShape movement.shape →
    IsMovement movement.shape movement.rows → 1 ≤ boards → boards ≤ 3 →
    boards ≡ boards_for movement.shape.rounds wishes.boards → pairs ≡ drafted_pairs 1 names (drop 1 keys) →
    (some ↔ IsConfiguration (record (drafted wishes names movement keys) { boards = boards; pairs = pairs })) →
    some ↔ HasHeading wishes
heading_decides wishes names movement keys some boards pairs count distinct nine shape_pairs limits fair least most boards_are pairs_are_these is =
    let P : ℕ → Type 0 = λ b. (1 ≤ b) × (b ≤ 3) in
    let within = subst P boards_are (least, most) in
    let Q : ℕ → List Pair → Type 0 = λ b ps. IsConfiguration (record (drafted wishes names movement keys) { boards = b; pairs = ps }) in (
      λ there. let all = is.0 there in record {
        event = all.event;
        site = all.site;
        date_form = all.date_form;
        date_within = all.date_within;
      },
      λ heading. is.1 (subst (λ b. Q b pairs) (sym boards_are) (subst (Q (boards_for movement.shape.rounds wishes.boards)) (sym pairs_are_these)
          (is_configuration wishes names movement keys count distinct nine shape_pairs limits fair within.0 within.1 heading))),
    )

-- what is said of the draft, by the parts that it was made of
pub record IsDraftOf (wishes : Wishes) (names : List PairNames) (seed_keys : List ℕ) (config : ConfigValue) : Type 0 where
  pub keys : keys_of config ≡ seed_keys
  pub nine : All HasNineDigits (keys_of config)
  pub ascii : map (λ (pair : Pair). pair.names) config.pairs ≡ names_from 1 names
  pub stated : config ≡ drafted wishes names config.movement (keys_of config)

pub is_draft : (wishes : Wishes) (names : List PairNames) (movement : MovementValue) (keys seed_keys : List ℕ) (config : ConfigValue) →
    keys ≡ seed_keys → length keys ≡ key_count (length names) → All HasNineDigits keys →
    config ≡ drafted wishes names movement keys → IsDraftOf wishes names seed_keys config
is_draft wishes names movement keys seed_keys config from count nine is =
    let same : keys_of config ≡ keys = ap keys_of is ∙ drafted_keys wishes names movement keys count in
    let moved : config.movement ≡ movement = ap (λ (c : ConfigValue). c.movement) is in
    record {
      keys = same ∙ from;
      nine = subst (All HasNineDigits) (sym same) nine;
      ascii = ap (λ (c : ConfigValue). map (λ (pair : Pair). pair.names) c.pairs) is
          ∙ pairs_names 1 names (drop 1 keys) (rest_count names keys count);
      stated = is ∙ ap (λ m. drafted wishes names m keys) (sym moved)
          ∙ ap (λ k. drafted wishes names config.movement k) (sym same);
    }
