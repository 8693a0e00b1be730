-- What the parts of a configuration state.
use Rattle.std.proofs.Common.{Option, None, Some, IfSome, ◌≡◌, ◌+◌, ◌*◌, ◌<◌, ◌≤◌, ℕ, suc, true, List, [], ◌∷◌, ◌++◌, All, get_or, length, map, take, drop, refl, sym, ap, subst, ◌∙◌, arith, append_assoc}
use Rattle.std.specs.Prelude.{Any, slice_index}
use Rattle.bridge_config.specs.ConfigValue.{ConfigValue, Pair}
use Rattle.bridge_config.specs.Limits.{is_name, is_date_form, IsPair, IsConfiguration}
use Rattle.bridge_cards.specs.declared.scoring.Scoring.{Scoring}
use Rattle.bridge_cards.specs.declared.scoring.Scoring.TheVariants.{MatchPoints, Imps}
use Rattle.arrayvec.specs.ArrayVec.{ArrayVec}
use Rattle.std.proofs.lemmas.List.{length-append, length-map, map-append, get_or-map, get_or-take, take_more}
use Rattle.std.specs.List.{list_all}
use Rattle.std.proofs.lemmas.Bool.{and_parts}
use Rattle.std.proofs.lemmas.List.Elements.{All-map}
use Rattle.bridge_movement.specs.declared.row.Row.{Row}
use Rattle.bridge_movement.specs.declared.shape.Shape.{Shape}
use Rattle.bridge_movement.specs.Shape.{row_count}
use Rattle.bridge_movement.specs.MovementValue.{MovementValue}
use Rattle.session_bytes.specs.Parts.{text_bytes, four_bytes, scoring_number, configuration_part, movement_part, pair_part}
use Rattle.session_bytes.specs.PartsRead.{text_in, after_text, second_player, numbers_in, shape_of_numbers, rows_of_part, pair_of_part, configuration_in}
use Rattle.session_bytes.specs.declared.heading.Heading.{Heading}
use Rattle.session_bytes.specs.Reading.{items_of}
use Rattle.session_bytes.specs.Head.{head_parts, IsHeadingOf, IsHeadingPart, IsPairPart, AreHeadParts, IsHead, NoHead}
use Rattle.session_bytes.proofs.BytesBack.{take_front, text_back, after_back}
use Rattle.session_bytes.proofs.SessionBack.{numbers_of, behind_site, date_long, numbers_back, configuration_back}

scoring_small : (scoring : Scoring) → scoring_number scoring < 2
scoring_small MatchPoints = omega arith
scoring_small Imps = omega arith

pub heading_stated : (c : ConfigValue) (round : ℕ) → IsConfiguration c → IsHeadingPart (configuration_part c round)
heading_stated c round is =
    let back = configuration_back c round is [] in
    let event = ap (λ (d : ConfigValue). is_name d.event) back in
    let site = ap (λ (d : ConfigValue). is_name d.site) back in
    let date = ap (λ (d : ConfigValue). is_date_form d.date) back in
    let behind = ap (λ (xs : List ℕ). length xs) (behind_site c round is []) in
    let number : slice_index (numbers_in (configuration_part c round)) 0 ≡ scoring_number c.scoring = ap (λ ns. slice_index ns 0) (numbers_back c round is []) in
    let small = scoring_small c.scoring in
    record {
      event = event ∙ is.event;
      site = site ∙ is.site;
      long = omega (arith, behind, length-append c.date (numbers_of c round), date_long c round is []);
      date = date ∙ is.date_form;
      scoring = omega (arith, number, small);
    }

-- the fields that were read are those that the parts name
pub config_named : (first second : List ℕ) (rest : List (List ℕ)) (heading : Heading) (movement : MovementValue) (pairs : List Pair) → IsHeadingOf first heading →
    movement ≡ record { shape = heading.shape; rows = rows_of_part heading.shape second } → pairs ≡ map pair_of_part (take heading.shape.pairs rest) →
    record {
      event = heading.event.bytes;
      site = heading.site.bytes;
      date = heading.date.bytes;
      scoring = heading.scoring;
      boards = heading.boards;
      movement = movement;
      director = heading.director.0;
      pairs = pairs;
    } ≡ configuration_in first second rest
config_named first second rest heading movement pairs of movement_is pairs_are =
    let of_shape : Shape → MovementValue = λ shape. record { shape = shape; rows = rows_of_part shape second } in
    let moved : movement ≡ of_shape (shape_of_numbers (numbers_in first)) = movement_is ∙ ap of_shape of.shape in
    let paired : pairs ≡ map pair_of_part (take (shape_of_numbers (numbers_in first)).pairs rest) = pairs_are ∙ ap (λ (shape : Shape). map pair_of_part (take shape.pairs rest)) of.shape in
    λ i. record {
      event = of.event i;
      site = of.site i;
      date = of.date i;
      scoring = of.scoring i;
      boards = of.boards i;
      movement = moved i;
      director = of.director i;
      pairs = paired i;
    }

-- the part of a pair is in form
in_form : (a b : List ℕ) (k l : ℕ) → is_name a ≡ true → is_name b ≡ true → IsPairPart ((text_bytes a ++ four_bytes k) ++ (text_bytes b ++ four_bytes l))
in_form a b k l first second =
    let rest : List ℕ = text_bytes b ++ four_bytes l in
    let part : List ℕ = (text_bytes a ++ four_bytes k) ++ rest in
    let part_is : part ≡ text_bytes a ++ (four_bytes k ++ rest) = append_assoc (text_bytes a) (four_bytes k) rest in
    let after_first : after_text part ≡ four_bytes k ++ rest = ap after_text part_is ∙ after_back a (four_bytes k ++ rest) in
    let second_is : second_player part ≡ rest = ap (drop 4) after_first in
    let long = ap (λ (xs : List ℕ). length xs) after_first in
    record {
      first = ap is_name (ap text_in part_is ∙ text_back a (four_bytes k ++ rest)) ∙ first;
      key = omega (arith, long);
      second = ap is_name (ap text_in second_is ∙ text_back b (four_bytes l)) ∙ second;
      last = ap (λ (xs : List ℕ). length xs) (ap after_text second_is ∙ after_back b (four_bytes l));
    }

of_two : (names : List (List ℕ)) (keys : List ℕ) → length names ≡ 2 → length keys ≡ 2 → list_all is_name names ≡ true → IsPairPart (pair_part (record { names = names; keys = keys }))
of_two (a ∷ b ∷ []) (k ∷ l ∷ []) two_names two_keys named =
    let first = and_parts (is_name a) (list_all is_name (b ∷ [])) named in
    let second = and_parts (is_name b) (list_all is_name []) first.1 in
    in_form a b k l first.0 second.0
of_two [] keys two_names two_keys named = absurd cc
of_two (a ∷ []) keys two_names two_keys named = absurd cc
of_two (a ∷ b ∷ c ∷ names) keys two_names two_keys named = absurd cc
of_two (a ∷ b ∷ []) [] two_names two_keys named = absurd cc
of_two (a ∷ b ∷ []) (k ∷ []) two_names two_keys named = absurd cc
of_two (a ∷ b ∷ []) (k ∷ l ∷ m ∷ keys) two_names two_keys named = absurd cc

pair_stated : (pair : Pair) → IsPair pair → IsPairPart (pair_part pair)
pair_stated pair is = of_two pair.names pair.keys is.two_names is.two_keys is.names

movement_length : (rows : List Row) → length (movement_part rows) ≡ length rows * 3
movement_length [] = refl
movement_length (row ∷ rows) = omega (arith, movement_length rows)

-- a part that is not in form is among them
pub no_pair : (parts : List (ArrayVec ℕ)) → Any (λ part. ¬ IsPairPart part.items) parts → ¬ All IsPairPart (map items_of parts)
no_pair parts some all =
    let part = some.1 in
    let there = get_or-map items_of parts some.0 part (items_of part) some.2 ∙ ap items_of some.3 in
    some.4 (subst IsPairPart there (all some.0 (items_of part) (omega (arith, length-map parts items_of, some.2))))

-- the parts of a configuration are in form
pub head_stated : (c : ConfigValue) (round : ℕ) (boards : List (List ℕ)) → IsConfiguration c →
    AreHeadParts (configuration_part c round) (movement_part c.movement.rows) (map pair_part c.pairs ++ boards)
head_stated c round boards is =
    let numbers = numbers_back c round is boards in
    let shape : shape_of_numbers (numbers_in (configuration_part c round)) ≡ c.movement.shape = ap shape_of_numbers numbers in
    let count : length (map pair_part c.pairs) ≡ c.movement.shape.pairs = length-map c.pairs pair_part ∙ is.count in
    let rows : length (movement_part c.movement.rows) ≡ row_count c.movement.shape * 3 = movement_length c.movement.rows ∙ ap (λ n. n * 3) is.movement.complete.count in
    let each : All IsPairPart (map pair_part c.pairs) = All-map IsPairPart pair_part c.pairs (λ index d within. pair_stated (get_or c.pairs index d) (is.pairs index d within)) in
    record {
      heading = heading_stated c round is;
      long = rows ∙ ap (λ (sh : Shape). row_count sh * 3) (sym shape);
      enough = let few = ap (λ (sh : Shape). sh.pairs) shape in omega (arith, few, count, length-append (map pair_part c.pairs) boards);
      pairs = subst (All IsPairPart) (sym (ap (λ (sh : Shape). take sh.pairs (map pair_part c.pairs ++ boards)) shape ∙ take_front c.movement.shape.pairs (map pair_part c.pairs) boards count)) each;
      configured = subst IsConfiguration (sym (configuration_back c round is boards)) is;
    }

-- Two lists whose elements are seen in one way

module _ {X Y Z : Type 0} (f : X → Z) (g : Y → Z) (xs : List X) (ys : List Y) (i : ℕ) (x : X) (y : Y) where
  -- the same up to an index, and at it
  pub same_more : i < length xs → i < length ys → map f (take i xs) ≡ take i (map g ys) → f (get_or xs i x) ≡ g (get_or ys i y) →
      map f (take (i + 1) xs) ≡ take (i + 1) (map g ys)
  same_more one other same here =
      ap (map f) (take_more xs i x one)
      ∙ map-append f (take i xs) (get_or xs i x ∷ [])
      ∙ ap (λ zs. zs ++ f (get_or xs i x) ∷ []) same
      ∙ ap (λ z. take i (map g ys) ++ z ∷ []) (here ∙ sym (get_or-map g ys i y (g y) other))
      ∙ sym (take_more (map g ys) i (g y) (omega (arith, other, length-map ys g)))

  -- the same all along, and so at an index
  pub same_at : i < length xs → length xs ≤ length ys → map f xs ≡ take (length xs) (map g ys) → f (get_or xs i x) ≡ g (get_or ys i y)
  same_at within enough same =
      sym (get_or-map f xs i x (g y) within)
      ∙ ap (λ (zs : List Z). get_or zs i (g y)) same
      ∙ get_or-take (length xs) (map g ys) i (g y) within
      ∙ get_or-map g ys i y (g y) (omega (arith, within, enough))

-- parts that are not in form begin with those of no configuration
pub not_parts : (first second : List ℕ) (rest : List (List ℕ)) → ¬ AreHeadParts first second rest → NoHead first second rest
not_parts first second rest are_not configuration round boards is of one two three =
    are_not
    (subst (λ parts. AreHeadParts first second parts) three
    (subst (λ part. AreHeadParts first part (map pair_part configuration.pairs ++ boards)) two
    (subst (λ part. AreHeadParts part (movement_part configuration.movement.rows) (map pair_part configuration.pairs ++ boards)) one
    (head_stated configuration round boards is))))

-- nor do parts that do not begin with those of what they name
pub not_head : (first second : List ℕ) (rest : List (List ℕ)) (c : ConfigValue) (now : ℕ) → c ≡ configuration_in first second rest → now ≡ slice_index (numbers_in first) 11 →
    ¬ IsHead c now first second rest → NoHead first second rest
not_head first second rest c now named at is_not configuration round boards is of one two three =
    let found : configuration ≡ c =
    sym (configuration_back configuration round is boards)
    ∙ ap (λ part. configuration_in part (movement_part configuration.movement.rows) (map pair_part configuration.pairs ++ boards)) one
    ∙ ap (λ part. configuration_in first part (map pair_part configuration.pairs ++ boards)) two
    ∙ ap (configuration_in first second) three
    ∙ sym named in
    let then : round ≡ now =
    sym (ap (λ ns. slice_index ns 11) (numbers_back configuration round is boards)) ∙ ap (λ part. slice_index (numbers_in part) 11) one ∙ sym at in
    let long = length-map configuration.pairs pair_part in
    let front = take_front (length configuration.pairs) (map pair_part configuration.pairs) boards long in
    let head : IsHead configuration round first second rest = record {
      round = of;
      heading = record { first = one; second = two };
      pairs = sym front ∙ ap (take (length configuration.pairs)) three;
    } in
    is_not (subst (λ n. IsHead c n first second rest) then (subst (λ (k : ConfigValue). IsHead k round first second rest) found head))

-- the first parts of a head
pub first_parts : (first second : List ℕ) (rest : List (List ℕ)) (c : ConfigValue) (now : ℕ) → IsHead c now first second rest →
    head_parts c now ≡ take (2 + length c.pairs) (first ∷ second ∷ rest)
first_parts first second rest c now is =
    let two : suc (suc (length c.pairs)) ≡ 2 + length c.pairs = omega arith in
    let each : head_parts c now ≡ first ∷ second ∷ take (length c.pairs) rest = λ i. is.heading.first i ∷ is.heading.second i ∷ is.pairs i in
    each ∙ ap (λ n. take n (first ∷ second ∷ rest)) two

pub if_some : {X : Type 0} (P Q : X → Type 0) (found : Option X) → ((x : X) → P x → Q x) → IfSome found P → IfSome found Q
if_some P Q None follows is = tt
if_some P Q (Some x) follows is = follows x is
