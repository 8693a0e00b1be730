-- The director and the pairs that are read are spelled so, and those that are spelled so are read.
use Rattle.std.proofs.Common.{◌≡◌, ℕ, ◌+◌, ◌^◌, ◌<◌, true, cond, eqb, List, [], ◌∷◌, ◌++◌, length, Result, Ok, Err, refl, sym, ap, ◌∙◌, subst, arith}
use Rattle.std.specs.Prelude.{codes, All}
use Rattle.std.specs.Fmt.{decimal}
use Rattle.std.proofs.lemmas.Bool.{eqb-true}
use Rattle.std.proofs.lemmas.List.{append-nil, nil_from_length}
use Rattle.std.proofs.lemmas.List.Elements.{All-cons, All-head, All-tail}
use Rattle.bridge_config.specs.declared.refused.ConfigFault.{ConfigFault}
use Rattle.bridge_config.specs.ConfigValue.{Pair, keys_in, People}
use Rattle.bridge_config.specs.Limits.{are_distinct, IsPair}
use Rattle.line_text.specs.Words.{spaced}
use Rattle.bridge_config.specs.Spelling.{pair_lines, people_lines}
use Rattle.bridge_config.specs.Then.{◌>>=◌}
use Rattle.bridge_config.specs.LineReading.{form_at, number_line}
use Rattle.bridge_config.specs.Reading.{pairs_in, people_in}
use Rattle.bridge_config.proofs.PassedTests.{ok_if}
use Rattle.bridge_config.proofs.LineLaws.{number_takes, number_again}
use Rattle.bridge_config.proofs.Steps.{bind_ok, line_takes, IsShort, TakesLines, takes_line, number_short}
use Rattle.bridge_config.proofs.Pairs.{IsKey, pairs_takes, pairs_again}

-- names and keys are within their limits, and no key stands twice
pub record ArePeople (people : People) : Type 0 where
  pub limits : All IsPair people.pairs
  pub keys : All IsKey (people.director ∷ keys_in people.pairs)
  pub distinct : are_distinct (people.director ∷ keys_in people.pairs) ≡ true

-- all the lines were read as those of people
pub record TakesPeople (count : ℕ) (texts : List (List ℕ)) (people : People) : Type 0 where
  pub count_is : length people.pairs ≡ count
  pub lines : TakesLines texts (people_lines people) []
  pub within : ArePeople people

-- what follows once the pairs are read: no line may be left
abbrev after_pairs : ℕ → ℕ → ℕ → List Pair × List (List ℕ) → Result People ConfigFault
after_pairs count n director pairs =
    cond (eqb (length pairs.1) 0) (Ok (record { director = director; pairs = pairs.0 })) (Err (form_at (n + 1 + count)))

-- lines that were read as the director's and the pairs' spell them, and are the last
pub people_takes : (count n : ℕ) (texts : List (List ℕ)) (people : People) → count < 2 ^ 64 →
    people_in count n texts ≡ Ok people → TakesPeople count texts people
unfolding people_in
people_takes count n texts people fits e =
    let a = line_takes n texts (number_line n (codes "DIRECTOR") 0 4294967295) (λ director rest. pairs_in count (n + 1) 1 (director ∷ []) rest >>= after_pairs count n director) people e in
    let line : List ℕ = a.0 in
    let rest : List (List ℕ) = a.1 in
    let director : ℕ = a.2 in
    let b = bind_ok (pairs_in count (n + 1) 1 (director ∷ []) rest) (after_pairs count n director) people a.5 in
    let pairs : List Pair = b.0.0 in
    let left : List (List ℕ) = b.0.1 in
    let made : People = record { director = director; pairs = pairs } in
    let end = ok_if (eqb (length left) 0) (form_at (n + 1 + count)) made people b.2 in
    let nothing : left ≡ [] = nil_from_length left (eqb-true _ _ end.0) in
    let one = number_takes n 0 4294967295 (codes "DIRECTOR") line director (omega arith) a.4 in
    let others = pairs_takes count (n + 1) 1 (director ∷ []) rest b.0 (omega arith) b.1 in
    let lines : TakesLines texts (people_lines made) left =
    takes_line texts line (spaced (codes "DIRECTOR" ∷ decimal director ∷ [])) rest (pair_lines 1 pairs) left a.3 one.0
    (number_short n 0 4294967295 (codes "DIRECTOR") line director a.4) others.lines in
    subst (λ (x : People). TakesPeople count texts x) end.1
    (record {
      count_is = others.count_is;
      lines = subst (λ (ts : List (List ℕ)). TakesLines texts (people_lines made) ts) nothing lines;
      within = record {
        limits = others.limits;
        keys = All-cons IsKey director (keys_in pairs) one.2 others.keys;
        distinct = others.distinct refl;
      };
    })

-- lines that spell the director and the pairs are read as them
pub people_again : (n : ℕ) (people : People) → length people.pairs < 2 ^ 64 → All IsShort (people_lines people) →
    ArePeople people → people_in (length people.pairs) n (people_lines people) ≡ Ok people
unfolding people_in
people_again n people fits short within =
    let director : ℕ = people.director in
    let pairs : List Pair = people.pairs in
    let first : List ℕ = spaced (codes "DIRECTOR" ∷ decimal director ∷ []) in
    let one : number_line n (codes "DIRECTOR") 0 4294967295 first ≡ Ok director =
    number_again n 0 4294967295 (codes "DIRECTOR") first director (omega arith)
    (All-head IsShort first (pair_lines 1 pairs) short) refl (omega arith) (All-head IsKey director (keys_in pairs) within.keys) refl in
    let others : pairs_in (length pairs) (n + 1) 1 (director ∷ []) (pair_lines 1 pairs ++ []) ≡ Ok (pairs, []) =
    pairs_again (n + 1) 1 (director ∷ []) pairs [] (omega arith) (All-tail IsShort first (pair_lines 1 pairs) short) within.limits
    (All-tail IsKey director (keys_in pairs) within.keys) within.distinct in
    let whole : pairs_in (length pairs) (n + 1) 1 (director ∷ []) (pair_lines 1 pairs) ≡ Ok (pairs, []) =
    ap (pairs_in (length pairs) (n + 1) 1 (director ∷ [])) (sym (append-nil (pair_lines 1 pairs))) ∙ others in
    rw (one, whole) refl
