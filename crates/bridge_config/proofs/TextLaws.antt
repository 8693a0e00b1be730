-- What a text states is spelled by it, and what it spells is read from it.
use Rattle.std.proofs.Common.{◌≡◌, ℕ, ◌^◌, ◌<◌, ◌≤◌, true, leb, List, [], ◌++◌, length, Result, Ok, Err, refl, sym, ap, ◌∙◌, subst, inl, inr, arith}
use Rattle.std.specs.Prelude.{All}
use Rattle.std.specs.Str.Lines.{lines}
use Rattle.std.proofs.lemmas.Bool.{cases_lt, lt-ltb, le-ltb, le-leb, leb-true, and_from, and_parts, MatchBool-at_true, MatchBool-at_false}
use Rattle.std.proofs.lemmas.List.{append-nil}
use Rattle.std.proofs.lemmas.List.Elements.{All-append}
use Rattle.bridge_config.specs.declared.refused.ConfigFault.{ConfigFault}
use Rattle.bridge_config.specs.declared.refused.ConfigRefused.TheVariants.{TooLong}
use Rattle.bridge_config.specs.ConfigValue.{ConfigValue, heading_of, people_of, Heading, People}
use Rattle.bridge_config.specs.Limits.{is_between, IsConfiguration}
use Rattle.bridge_config.specs.Spelling.{heading_lines, people_lines, Spells}
use Rattle.bridge_config.specs.Then.{◌>>=◌}
use Rattle.bridge_config.specs.Reading.{due_line, heading_in, people_in, Moved, ReadsMovement, stated_by, after_movement, ReadsAfterHeading, ReadsConfiguration}
use Rattle.bridge_config.proofs.Steps.{bind_ok, ok_is, All-append_parts, IsShort, TakesLines}
use Rattle.bridge_config.proofs.Headings.{IsHeading, heading_takes, heading_again}
use Rattle.bridge_config.proofs.MovementLaws.{movement_takes, movement_again}
use Rattle.bridge_config.proofs.People.{ArePeople, people_takes, people_again}

-- a number from low to high passes the test for it
between_from : (low high n : ℕ) → low ≤ n → n ≤ high → is_between low high n ≡ true
between_from low high n least most = and_from (leb low n) (leb n high) (le-leb low n least) (le-leb n high most)

-- a number that passes the test lies from low to high
between_parts : (low high n : ℕ) → is_between low high n ≡ true → (low ≤ n) × (n ≤ high)
between_parts low high n e =
    let parts = and_parts (leb low n) (leb n high) e in (leb-true low n parts.0, leb-true n high parts.1)

-- lines in three parts
joined : (texts first second third after_first after_second after_third : List (List ℕ)) → TakesLines texts first after_first →
    TakesLines after_first second after_second → TakesLines after_second third after_third → after_third ≡ [] →
    (texts ≡ first ++ (second ++ third)) × All IsShort texts
joined texts first second third after_first after_second after_third a b c none =
    let last : after_second ≡ third = c.parts ∙ ap (λ (ts : List (List ℕ)). third ++ ts) none ∙ append-nil third in
    let middle : after_first ≡ second ++ third = b.parts ∙ ap (λ (ts : List (List ℕ)). second ++ ts) last in
    let whole : texts ≡ first ++ (second ++ third) = a.parts ∙ ap (λ (ts : List (List ℕ)). first ++ ts) middle in
    let short : All IsShort (first ++ (second ++ third)) =
    All-append IsShort first (second ++ third) a.short (All-append IsShort second third b.short c.short) in
    (whole, subst (λ (ts : List (List ℕ)). All IsShort ts) (sym whole) short)

-- heading, movement and people that were read, one after the other, are spelled by the text
pub people_read_spelled : (text : List ℕ) (heading : Heading × List (List ℕ)) (moved : Moved) (people : People) → length text ≤ 16384 →
    heading_in (lines text) ≡ Ok heading → ReadsMovement (due_line 6 heading.1) (Ok moved) →
    people_in moved.movement.shape.pairs moved.number moved.rest ≡ Ok people →
    Spells text (stated_by heading.0 moved.movement people)
people_read_spelled text heading moved people within heading_is movement_is people_is =
    let first = heading_takes (lines text) heading heading_is in
    let second = movement_takes heading.1 moved movement_is in
    let third = people_takes moved.movement.shape.pairs moved.number moved.rest people (omega (arith, second.shape.pairs)) people_is in
    let all = joined (lines text) (heading_lines heading.0) second.movement_texts (people_lines people) heading.1 moved.rest []
    first.lines second.lines third.lines refl in
    record {
      length_within = within;
      lines_within = all.1;
      movement_texts = second.movement_texts;
      movement = second.spelled;
      whole = all.0;
      limits = record {
        event = first.limits.event;
        site = first.limits.site;
        date_form = first.limits.date_form;
        date_within = first.limits.date_within;
        boards = between_from 1 3 heading.0.boards first.limits.boards.0 first.limits.boards.1;
        shape = second.shape;
        movement = second.rows;
        count = third.count_is;
        pairs = third.within.limits;
        keys = record { numbers = third.within.keys; distinct = third.within.distinct };
      };
    }

-- the same, where the heading was read and the lines after it gave a configuration
heading_read_spelled : (text : List ℕ) (configuration : ConfigValue) (heading : Result (Heading × List (List ℕ)) ConfigFault) →
    length text ≤ 16384 → heading_in (lines text) ≡ heading → ReadsAfterHeading heading (Ok configuration) →
    Spells text configuration
heading_read_spelled text configuration (Err fault) within heading_is reads = absurd cc
heading_read_spelled text configuration (Ok heading) within heading_is (moved, movement_is, is) =
    let a = bind_ok moved (after_movement heading.0) configuration (sym is) in
    let m : Moved = a.0 in
    let b = bind_ok (people_in m.movement.shape.pairs m.number m.rest) (λ people. Ok (stated_by heading.0 m.movement people)) configuration a.2 in
    let movement_is' : ReadsMovement (due_line 6 heading.1) (Ok m) =
    subst (λ (r : Result Moved ConfigFault). ReadsMovement (due_line 6 heading.1) r) a.1 movement_is in
    subst (λ (c : ConfigValue). Spells text c) (ok_is (stated_by heading.0 m.movement b.0) configuration b.2)
    (people_read_spelled text heading m b.0 within heading_is movement_is' b.1)

-- a configuration that was read of a text is spelled by it
pub read_is_spelled : (text : List ℕ) (configuration : ConfigValue) → ReadsConfiguration text (Ok configuration) → Spells text configuration
read_is_spelled text configuration read =
    let long : Type 0 = ◌≡◌ {A = Result ConfigValue ConfigFault} (Ok configuration) (Err (record { line = 0; cause = TooLong })) in
    let after : Type 0 = ReadsAfterHeading (heading_in (lines text)) (Ok configuration) in
    elim (cases_lt 16384 (length text)) [
      | inl above ↦ absurd (let e : long = MatchBool-at_true long after (lt-ltb 16384 (length text) above) read in cc)
      | inr within ↦ heading_read_spelled text configuration (heading_in (lines text)) within refl
          (MatchBool-at_false long after (le-ltb 16384 (length text) within) read)
    ]

-- a configuration that a text spells is read of it
pub spelled_is_read : (text : List ℕ) (configuration : ConfigValue) (read : Result ConfigValue ConfigFault) → Spells text configuration → ReadsConfiguration text read → read ≡ Ok configuration
spelled_is_read text configuration read spelled reads =
    let limits : IsConfiguration configuration = spelled.limits in
    let heading : Heading = heading_of configuration in
    let people : People = people_of configuration in
    let first : List (List ℕ) = heading_lines heading in
    let second : List (List ℕ) = spelled.movement_texts in
    let third : List (List ℕ) = people_lines people in
    let whole : lines text ≡ first ++ (second ++ third) = spelled.whole in
    let short = All-append_parts IsShort first (second ++ third)
    (subst (λ (ts : List (List ℕ)). All IsShort ts) whole spelled.lines_within) in
    let short' = All-append_parts IsShort second third short.1 in
    let long : Type 0 = ◌≡◌ {A = Result ConfigValue ConfigFault} read (Err (record { line = 0; cause = TooLong })) in
    let after : Type 0 = ReadsAfterHeading (heading_in (lines text)) read in
    let reads_after : after = MatchBool-at_false long after (le-ltb 16384 (length text) spelled.length_within) reads in
    let is_heading : IsHeading heading = record {
      event = limits.event;
      site = limits.site;
      date_form = limits.date_form;
      date_within = limits.date_within;
      boards = between_parts 1 3 configuration.boards limits.boards;
    } in
    let heading_is : heading_in (lines text) ≡ Ok (heading, second ++ third) =
    ap heading_in whole ∙ heading_again heading (second ++ third) short.0 is_heading in
    let given : ReadsAfterHeading (Ok (heading, second ++ third)) read =
    subst (λ (r : Result (Heading × List (List ℕ)) ConfigFault). ReadsAfterHeading r read) heading_is reads_after in
    let movement = movement_again configuration.movement second third given.0 spelled.movement short'.0 limits.shape limits.movement given.1 in
    let are_people : ArePeople people = record { limits = limits.pairs; keys = limits.keys.numbers; distinct = limits.keys.distinct } in
    let few : length configuration.pairs < 2 ^ 64 = omega (arith, limits.count, limits.shape.pairs) in
    let people_is : people_in (length configuration.pairs) movement.0 third ≡ Ok people = people_again movement.0 people few short'.1 are_people in
    let counted : people_in configuration.movement.shape.pairs movement.0 third ≡ Ok people =
    ap (λ (n : ℕ). people_in n movement.0 third) (sym limits.count) ∙ people_is in
    let moved : Moved = record { movement = configuration.movement; number = movement.0; rest = third } in
    let made : after_movement heading moved ≡ Ok configuration =
    ap (λ (r : Result People ConfigFault). r >>= λ p. Ok (stated_by heading configuration.movement p)) counted in
    given.2 ∙ ap (λ (r : Result Moved ConfigFault). r >>= after_movement heading) movement.1 ∙ made
