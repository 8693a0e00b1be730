-- The first five lines that are read are spelled so, and those that are spelled so are read.
use Rattle.std.proofs.Common.{◌≡◌, ℕ, ◌≤◌, true, List, [], ◌∷◌, ◌++◌, Result, Ok, refl, subst, arith}
use Rattle.std.specs.Prelude.{codes, All}
use Rattle.std.specs.Fmt.{decimal}
use Rattle.bridge_cards.specs.declared.scoring.Scoring.{Scoring}
use Rattle.bridge_config.specs.declared.refused.ConfigFault.{ConfigFault}
use Rattle.bridge_config.specs.Limits.{is_name, is_date_form, is_date_within}
use Rattle.line_text.specs.Words.{spaced}
use Rattle.bridge_config.specs.Spelling.{scoring_word, heading_lines}
use Rattle.bridge_config.specs.LineReading.{name_line, date_line, scoring_line, number_line}
use Rattle.bridge_config.specs.ConfigValue.{Heading}
use Rattle.bridge_config.specs.Reading.{heading_in}
use Rattle.bridge_config.proofs.LineLaws.{name_takes, name_again, date_takes, date_again, scoring_takes, scoring_again, number_takes, number_again}
use Rattle.bridge_config.proofs.Steps.{ok_is, line_then, line_takes, IsShort, TakesLines, takes_none, takes_line, name_short, date_short, scoring_short, number_short}

-- what follows once a line is read
abbrev after_boards : List ℕ → List ℕ → List ℕ → Scoring → ℕ → List (List ℕ) → Result (Heading × List (List ℕ)) ConfigFault
after_boards event site date scoring boards texts =
    Ok (record { event = event; site = site; date = date; scoring = scoring; boards = boards }, texts)

abbrev after_scoring : List ℕ → List ℕ → List ℕ → Scoring → List (List ℕ) → Result (Heading × List (List ℕ)) ConfigFault
after_scoring event site date scoring texts =
    line_then 5 texts (number_line 5 (codes "BOARDS") 1 3) (after_boards event site date scoring)

abbrev after_date : List ℕ → List ℕ → List ℕ → List (List ℕ) → Result (Heading × List (List ℕ)) ConfigFault
after_date event site date texts = line_then 4 texts (scoring_line 4) (after_scoring event site date)

abbrev after_site : List ℕ → List ℕ → List (List ℕ) → Result (Heading × List (List ℕ)) ConfigFault
after_site event site texts = line_then 3 texts (date_line 3) (after_date event site)

abbrev after_event : List ℕ → List (List ℕ) → Result (Heading × List (List ℕ)) ConfigFault
after_event event texts = line_then 2 texts (name_line 2 (codes "SITE")) (after_site event)

-- each part of a heading is within its limits
pub record IsHeading (heading : Heading) : Type 0 where
  pub event : is_name heading.event ≡ true
  pub site : is_name heading.site ≡ true
  pub date_form : is_date_form heading.date ≡ true
  pub date_within : is_date_within heading.date ≡ true
  pub boards : (1 ≤ heading.boards) × (heading.boards ≤ 3)

-- lines in front were read as a heading, and others are left
pub record TakesHeading (texts : List (List ℕ)) (heading : Heading) (rest : List (List ℕ)) : Type 0 where
  pub lines : TakesLines texts (heading_lines heading) rest
  pub limits : IsHeading heading

-- lines that were read as a heading spell it
pub heading_takes : (texts : List (List ℕ)) (read : Heading × List (List ℕ)) → heading_in texts ≡ Ok read →
    TakesHeading texts read.0 read.1
unfolding heading_in
heading_takes texts read e =
    let one = line_takes 1 texts (name_line 1 (codes "EVENT")) after_event read e in
    let two = line_takes 2 one.1 (name_line 2 (codes "SITE")) (after_site one.2) read one.5 in
    let three = line_takes 3 two.1 (date_line 3) (after_date one.2 two.2) read two.5 in
    let four = line_takes 4 three.1 (scoring_line 4) (after_scoring one.2 two.2 three.2) read three.5 in
    let five = line_takes 5 four.1 (number_line 5 (codes "BOARDS") 1 3) (after_boards one.2 two.2 three.2 four.2) read four.5 in
    let event = name_takes 1 (codes "EVENT") one.0 one.2 one.4 in
    let site = name_takes 2 (codes "SITE") two.0 two.2 two.4 in
    let date = date_takes 3 three.0 three.2 three.4 in
    let scoring = scoring_takes 4 four.0 four.2 four.4 in
    let boards = number_takes 5 1 3 (codes "BOARDS") five.0 five.2 (omega arith) five.4 in
    let made : Heading = record { event = one.2; site = two.2; date = three.2; scoring = four.2; boards = five.2 } in
    let lines5 : TakesLines four.1 (spaced (codes "BOARDS" ∷ decimal five.2 ∷ []) ∷ []) five.1 =
    takes_line four.1 five.0 (spaced (codes "BOARDS" ∷ decimal five.2 ∷ [])) five.1 [] five.1 five.3 boards.0
    (number_short 5 1 3 (codes "BOARDS") five.0 five.2 five.4) (takes_none five.1) in
    let lines4 = takes_line three.1 four.0 (spaced (codes "SCORING" ∷ scoring_word four.2 ∷ [])) four.1 _ five.1 four.3 scoring
    (scoring_short 4 four.0 four.2 four.4) lines5 in
    let lines3 = takes_line two.1 three.0 (spaced (codes "DATE" ∷ three.2 ∷ [])) three.1 _ five.1 three.3 date.0
    (date_short 3 three.0 three.2 three.4) lines4 in
    let lines2 = takes_line one.1 two.0 (spaced (codes "SITE" ∷ two.2 ∷ [])) two.1 _ five.1 two.3 site.0
    (name_short 2 (codes "SITE") two.0 two.2 two.4) lines3 in
    let lines1 = takes_line texts one.0 (spaced (codes "EVENT" ∷ one.2 ∷ [])) one.1 _ five.1 one.3 event.0
    (name_short 1 (codes "EVENT") one.0 one.2 one.4) lines2 in
    subst (λ (x : Heading × List (List ℕ)). TakesHeading texts x.0 x.1) (ok_is (made, five.1) read five.5)
    (record {
      lines = lines1;
      limits = record {
        event = event.1;
        site = site.1;
        date_form = date.1;
        date_within = date.2;
        boards = (boards.1, boards.2);
      };
    })

-- lines that spell a heading are read as it
pub heading_again : (heading : Heading) (rest : List (List ℕ)) → All IsShort (heading_lines heading) → IsHeading heading →
    heading_in (heading_lines heading ++ rest) ≡ Ok (heading, rest)
unfolding heading_in
heading_again heading rest short limits =
    let one : name_line 1 (codes "EVENT") (spaced (codes "EVENT" ∷ heading.event ∷ [])) ≡ Ok heading.event =
    name_again 1 (codes "EVENT") _ heading.event (short 0 [] (omega arith)) refl limits.event refl in
    let two : name_line 2 (codes "SITE") (spaced (codes "SITE" ∷ heading.site ∷ [])) ≡ Ok heading.site =
    name_again 2 (codes "SITE") _ heading.site (short 1 [] (omega arith)) refl limits.site refl in
    let three : date_line 3 (spaced (codes "DATE" ∷ heading.date ∷ [])) ≡ Ok heading.date =
    date_again 3 _ heading.date (short 2 [] (omega arith)) limits.date_form limits.date_within refl in
    let four : scoring_line 4 (spaced (codes "SCORING" ∷ scoring_word heading.scoring ∷ [])) ≡ Ok heading.scoring =
    scoring_again 4 _ heading.scoring (short 3 [] (omega arith)) refl in
    let five : number_line 5 (codes "BOARDS") 1 3 (spaced (codes "BOARDS" ∷ decimal heading.boards ∷ [])) ≡ Ok heading.boards =
    number_again 5 1 3 (codes "BOARDS") _ heading.boards (omega arith) (short 4 [] (omega arith)) refl limits.boards.0 limits.boards.1 refl in
    rw (one, two, three, four, five) refl
