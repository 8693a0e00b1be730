-- The values of numbered sections, one after another.
use Rattle.std.proofs.Common.{◌≡◌, ℕ, ◌+◌, ◌<◌, ◌≤◌, List, [], ◌∷◌, ◌++◌, length, get_or, take, map, sym, ap, ◌∙◌, arith}
use Rattle.std.specs.List.{enumerate_from}
use Rattle.std.proofs.lemmas.List.{take_all}
use Rattle.std.proofs.lemmas.List.FromFn.{length-enumerate_from, get_or-enumerate_from}
use Rattle.serde_json.specs.Data.{Data}
use Rattle.serde_json.specs.View.{view}
use Rattle.serde_json.specs.declared.value.Value.{Value}
use Rattle.session_rules.specs.State.{SessionValue}
use Rattle.results_object.proofs.Lists.{one_more}

-- one section more
pub section_more : (f : ℕ × SessionValue → Data) (sections : List SessionValue) (i : ℕ) (s : SessionValue) (values new : List Value) (value : Value) → i < length sections → s ≡ get_or sections i s
    → map view values ≡ map f (take i (enumerate_from 1 sections)) → view value ≡ f (i + 1, s) → new ≡ values ++ value ∷ []
    → map view new ≡ map f (take (i + 1) (enumerate_from 1 sections))
section_more f sections i s values new value within is so_far this added =
    let number : 1 + i ≡ i + 1 = omega arith in
    let at : get_or (enumerate_from 1 sections) i (i + 1, s) ≡ (i + 1, s)
    = get_or-enumerate_from 1 sections i (i + 1, s) within ∙ ap (λ (n : ℕ). (n, get_or sections i s)) number ∙ ap (λ (t : SessionValue). (i + 1, t)) (sym is) in
    one_more f (enumerate_from 1 sections) i (i + 1, s) values new value (omega (arith, within, length-enumerate_from 1 sections)) (sym at) so_far this added

-- all of them
pub all_sections : (f : ℕ × SessionValue → Data) (sections : List SessionValue) (i : ℕ) (values : List Value) → length sections ≤ i
    → map view values ≡ map f (take i (enumerate_from 1 sections)) → map view values ≡ map f (enumerate_from 1 sections)
all_sections f sections i values last so_far =
    so_far ∙ ap (map f) (take_all i (enumerate_from 1 sections) (omega (arith, last, length-enumerate_from 1 sections)))
