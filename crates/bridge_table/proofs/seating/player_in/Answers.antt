use Rattle.std.proofs.Common.{◌≡◌, ◌+◌, ◌<◌, ◌==◌, ℕ, List, Bool, false, length, Option, Some, refl, sym, ap, ◌∙◌}
use Rattle.std.specs.Prelude.{map, position, slice_get, slice_index}
use Rattle.std.specs.Option.{option_map, option_map_or}
use Rattle.std.proofs.lemmas.Option.{slice_get-map, slice_get_read}
use Rattle.std.proofs.lemmas.List.Quantifiers.{position-Some}
use Rattle.bridge_config.specs.ConfigValue.{Pair, pair_of}
use Rattle.bridge_config.specs.declared.fields.PairFields.{PairFields}
use Rattle.session_rules.specs.declared.seating.Player.{Player}
use Rattle.session_rules.specs.State.{has_key, is_first_key}
use Rattle.session_rules.proofs.Lists.{position-map}
use Rattle.bridge_table.proofs.seating.player_in.Goals as goal

-- the index that is found is that of the pair
found : (key : ℕ) (pairs : List PairFields) → position (has_key key) (map pair_of pairs) ≡ position (λ pair. has_key key (pair_of pair)) pairs
found key pairs = position-map (has_key key) (λ pair. has_key key (pair_of pair)) pair_of pairs (λ k d within. refl)

-- the player of the pair at an index
abbrev player_at : List Pair → ℕ → ℕ → Player
player_at pairs key index = record { pair = index + 1; first = is_first_key pairs key index }

first_key : (pairs : List PairFields) (key index : ℕ) (pair : PairFields) → slice_get pairs index ≡ Some pair → is_first_key (map pair_of pairs) key index ≡ (slice_index (pair_of pair).keys 0 == key)
first_key pairs key index pair is =
    ap (λ found. option_map_or (λ (p : Pair). slice_index p.keys 0 == key) found false) (slice_get-map pair_of pairs index ∙ ap (option_map pair_of) is)

pub returns-in_err-index : goal.returns-in_err-index
returns-in_err-index c =
    let pairs = map pair_of c.args.pairs.now in
    c.from_residual.ensures ∙ ap (option_map (player_at pairs c.args.key.0)) (c.in_err-index.ensures ∙ sym (found c.args.key.0 c.args.pairs.now))

pub returns : goal.returns
returns c =
    let pairs = c.args.pairs.now in
    let key = c.args.key.0 in
    let index = c.in_ok-index.index in
    let pair = c.index-pairs-index.result in
    let is_found : position (λ p. has_key key (pair_of p)) pairs ≡ Some index = sym c.in_ok-index.ensures in
    let inside : index < length pairs = (position-Some (λ p. has_key key (pair_of p)) pairs index pair is_found).0 in
    let is : slice_get pairs index ≡ Some pair = slice_get_read pairs (length pairs) index pair refl inside c.index-pairs-index.is in
    let made : Bool → Option Player = λ first. Some (record { pair = index + 1; first = first }) in
    ap made (c.is_key_of.ensures ∙ sym (first_key pairs key index pair is))
    ∙ ap (option_map (player_at (map pair_of pairs) key)) (c.in_ok-index.ensures ∙ sym (found key pairs))
