-- The text of a configuration spells it.
use Rattle.std.proofs.Common.{◌≡◌, ℕ, ◌+◌, ◌*◌, ◌≤◌, inl, inr, List, ◌++◌, length, suc, refl, sym, ap, subst, ◌∙◌, length-append, arith}
use Rattle.std.specs.Prelude.{All, Result}
use Rattle.std.specs.declared.io.Error.{Error}
use Rattle.line_text.specs.Streams.{Stream, Written}
use Rattle.std.specs.Str.Lines.{lines}
use Rattle.std.proofs.lemmas.Grind.{flat_map-append}
use Rattle.std.proofs.lemmas.List.{length-map}
use Rattle.std.proofs.lemmas.List.Elements.{All-append}
use Rattle.std.proofs.Math.Nat.{mul-le-mul_right}
use Rattle.bridge_movement.specs.MovementValue.{MovementValue}
use Rattle.bridge_movement.specs.Shape.{IsShape}
use Rattle.bridge_movement.specs.Fair.{IsMovement}
use Rattle.bridge_config.specs.ConfigValue.{ConfigValue, heading_of, people_of}
use Rattle.bridge_config.specs.Limits.{IsConfiguration}
use Rattle.bridge_config.specs.Spelling.{heading_lines, people_lines, row_text, SpellsMovement, Spells}
use Rattle.evening_draft.specs.declared.form.MovementForm.{MovementForm}
use Rattle.evening_draft.specs.declared.form.MovementForm.TheVariants.{Mitchell, Rows}
use Rattle.evening_draft.specs.ConfigText.{ended, text_of, movement_lines, IsFormOf, config_text, IsConfigWritten}
use Rattle.evening_draft.proofs.Lines.{length-pair_lines}
use Rattle.evening_draft.proofs.Spelled.{IsLine, lines_again, text_length, all_longer}
use Rattle.evening_draft.proofs.ConfigLines.{heading_short, movement_short, people_short}

-- in that form the movement is spelled
spells_movement : (form : MovementForm) (movement : MovementValue) → IsFormOf form movement →
    SpellsMovement movement (movement_lines form movement)
spells_movement Mitchell movement of = inl (movement.shape.tables, of, refl)
spells_movement Rows movement of = inr refl

-- so many rows at most
few_rows : (rounds tables : ℕ) → rounds ≤ 12 → tables ≤ 12 → rounds * tables ≤ 144
few_rows rounds tables few few' =
    let more : rounds * tables ≤ 12 * tables = mul-le-mul_right tables few in omega arith

few_movement_lines : (form : MovementForm) (movement : MovementValue) → IsShape movement.shape →
    IsMovement movement.shape movement.rows → length (movement_lines form movement) ≤ 145
few_movement_lines Mitchell m limits is = omega arith
few_movement_lines Rows m limits is =
    let rows : length m.rows ≡ m.shape.rounds * m.shape.tables = is.complete.count in
    let most : m.shape.rounds * m.shape.tables ≤ 144 = few_rows m.shape.rounds m.shape.tables limits.rounds.1 limits.tables.1 in
    let same = length-map m.rows row_text in
    omega arith

pub config_spelled : (form : MovementForm) (c : ConfigValue) → IsFormOf form c.movement → IsConfiguration c →
    Spells (config_text form c) c
config_spelled form c of limits =
    let heading : List (List ℕ) = heading_lines (heading_of c) in
    let movement : List (List ℕ) = movement_lines form c.movement in
    let people : List (List ℕ) = people_lines (people_of c) in
    let short_heading : All (IsLine 40) heading = heading_short c limits in
    let short_movement : All (IsLine 40) movement = movement_short form c.movement limits.shape limits.movement in
    let short_people : All (IsLine 100) people = people_short c limits in
    let all : List (List ℕ) = heading ++ (movement ++ people) in
    let short : All (IsLine 128) all =
    All-append (IsLine 128) heading (movement ++ people) (all_longer 40 128 heading (omega arith) short_heading)
    (All-append (IsLine 128) movement people (all_longer 40 128 movement (omega arith) short_movement)
    (all_longer 100 128 people (omega arith) short_people)) in
    let whole : text_of all ≡ config_text form c =
    flat_map-append ended heading (movement ++ people)
    ∙ ap (λ rest. text_of heading ++ rest) (flat_map-append ended movement people) in
    let again : lines (config_text form c) ≡ all = ap lines (sym whole) ∙ lines_again 128 all short in
    let long_heading : length (text_of heading) ≤ 41 * length heading = text_length 40 heading short_heading in
    let long_movement : length (text_of movement) ≤ 41 * length movement = text_length 40 movement short_movement in
    let long_people : length (text_of people) ≤ 101 * length people = text_length 100 people short_people in
    let few : length movement ≤ 145 = few_movement_lines form c.movement limits.shape limits.movement in
    let pairs : length people ≡ suc (length c.pairs) = ap suc (length-pair_lines 1 c.pairs) in
    let count : length c.pairs ≡ c.movement.shape.pairs = limits.count in
    let most : c.movement.shape.pairs ≤ 24 = limits.shape.pairs.1 in
    let five : length heading ≡ 5 = refl in
    let back : length (text_of movement ++ text_of people) ≡ length (text_of movement) + length (text_of people) =
    length-append (text_of movement) (text_of people) in
    let total : length (config_text form c) ≡ length (text_of heading) + length (text_of movement ++ text_of people) =
    length-append (text_of heading) (text_of movement ++ text_of people) in
    record {
      length_within = omega arith;
      lines_within = subst (All (λ line. length line ≤ 128)) (sym again) (λ k d within. (short k d within).short);
      movement_texts = movement;
      movement = spells_movement form c.movement of;
      whole = again;
      limits = limits;
    }

pub is_written : (form : MovementForm) (c : ConfigValue) (movement : MovementValue) (writer : Stream) (result : Result (Unit {0}) Error) →
    movement ≡ c.movement → IsFormOf form movement → IsConfiguration c → Written writer (config_text form c) result →
    IsConfigWritten c writer result
is_written form c movement writer result same of limits written =
    let of_c : IsFormOf form c.movement = subst (IsFormOf form) same of in
    record { form = form; of = of_c; written = written; spells = config_spelled form c of_c limits }
