use Rattle.std.proofs.Common.{◌≡◌, ◌<◌, ◌+◌, ◌∷◌, ℕ, List, length, map, true, false, Some, None, refl, sym, ap, ◌∙◌}
use Rattle.std.proofs.lemmas.Bool.{lt-ltb}
use Rattle.std.proofs.lemmas.List.Folds.{list_all-map}
use Rattle.std.proofs.lemmas.List.{length-map}
use Rattle.std.specs.List.{list_all}
use Rattle.std.specs.Str.{bytes_eq}
use Rattle.session_store.specs.declared.disk_format.DiskFormat.{DiskFormat}
use Rattle.store_tests.specs.Counter.{count_from, count_in, total_in}
use Rattle.store_tests.proofs.tests.counter.read_counter.Goals as goal

module _ {X : Type 0} (format : DiskFormat) (f : X → List ℕ) (parts : List X) (x : X) (xs : List X) (n : ℕ) (a b : List ℕ)
    (is_a : a ≡ f x) (is_b : b ≡ f x) (split : parts ≡ x ∷ xs) (total : Some n ≡ total_in format a) (few : length xs < 494) where
  counter_same : true ≡ list_all (λ part. bytes_eq b (f part)) xs
      → Some (record { parts = length xs + 1; total = n }) ≡ count_in format (map f parts)
  counter_same same =
      sym (ap (λ (ps : List X). count_in format (map f ps)) split
      ∙ ap (λ (bytes : List ℕ). count_from (f x) (map f xs) (total_in format bytes)) (sym is_a)
      ∙ ap (count_from (f x) (map f xs)) (sym total)
      ∙ rw (length-map xs f, lt-ltb (length xs) 494 few, list_all-map (bytes_eq (f x)) f xs, ← is_b, ← same) refl)

  counter_not : false ≡ list_all (λ part. bytes_eq b (f part)) xs → None ≡ count_in format (map f parts)
  counter_not other =
      sym (ap (λ (ps : List X). count_in format (map f ps)) split
      ∙ ap (λ (bytes : List ℕ). count_from (f x) (map f xs) (total_in format bytes)) (sym is_a)
      ∙ ap (count_from (f x) (map f xs)) (sym total)
      ∙ rw (length-map xs f, lt-ltb (length xs) 494 few, list_all-map (bytes_eq (f x)) f xs, ← is_b, ← other) refl)

pub returns-then-not-all_are : goal.returns-then-not-all_are
returns-then-not-all_are c =
    counter_not c.args.format (λ part. part.items) c.args.parts.now c.in-Some.first.now c.in-Some.rest.now c.in-Some-read_total.total _ _
    c.as_slice.ensures.value c.as_slice-in-Some-read_total.ensures.value c.in-Some.ensures.cases.0 c.in-Some-read_total.ensures
    c.if-rest-ge494.false c.if-not-all_are.ensures

pub returns-else-not-all_are : goal.returns-else-not-all_are
returns-else-not-all_are c =
    counter_same c.args.format (λ part. part.items) c.args.parts.now c.in-Some.first.now c.in-Some.rest.now c.in-Some-read_total.total _ _
    c.as_slice.ensures.value c.as_slice-in-Some-read_total.ensures.value c.in-Some.ensures.cases.0 c.in-Some-read_total.ensures
    c.if-rest-ge494.false c.if-not-all_are.ensures
