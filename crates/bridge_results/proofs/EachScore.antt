-- Each frequency counts the lines with its score.
use Rattle.std.proofs.Common.{◌≡◌, ◌≢◌, ◌+◌, ℕ, zero, suc, Bool, true, false, cond, List, [], ◌∷◌, length, filter, Option, Some, None, refl, sym, ap, arith, sum_by, ℤ, get_or}
use Rattle.std.specs.Prelude.{option_and_then, All, AllPairs}
use Rattle.std.specs.Bool.{Decides}
use Rattle.std.specs.List.{cons_option, filter_map, fold}
use Rattle.std.specs.Option.{option_map_or}
use Rattle.std.specs.Ordering.{int_eq}
use Rattle.std.proofs.lemmas.Bool.Decides.{Decides-int_eq}
use Rattle.std.proofs.lemmas.List.Elements.{All-nil, All-cons}
use Rattle.std.proofs.lemmas.List.Sums.{sum_by-cons}
use Rattle.bridge_ranking.specs.declared.game.PlayResult.{PlayResult}
use Rattle.bridge_ranking.specs.declared.game.PlayResult.TheVariants.{Score, Averages}
use Rattle.bridge_results.specs.declared.compare.Comparison.{Comparison}
use Rattle.bridge_results.specs.declared.frequency.Frequency.{Frequency}
use Rattle.bridge_results.specs.declared.traveller.BoardLine.{BoardLine}
use Rattle.bridge_results.specs.Frequencies.{with_frequency, once, frequency_by, frequency_in, frequencies_of, has_score, HaveOtherScores}
use Rattle.bridge_results.specs.PlayCells.{result_score, line_score}
use Rattle.bridge_results.proofs.Counted.{one_more, same_score, all_once, each_score_once}

-- how many plays a frequency counts for a score
abbrev counts_for : ℤ → Frequency → ℕ
counts_for score frequency = cond (int_eq score frequency.score) frequency.count 0

abbrev counted_for : ℤ → List Frequency → ℕ
counted_for score frequencies = sum_by (counts_for score) frequencies

-- 1 for a play of a score
abbrev one_for : ℤ → Frequency → ℕ
one_for score frequency = cond (int_eq score frequency.score) 1 0

-- one play more counts for its own score
more_here : (here : Bool) (n : ℕ) → cond here (n + 1) 0 ≡ cond here n 0 + cond here 1 0
more_here true n = refl
more_here false n = refl

counts_new : (score : ℤ) (new : Frequency) → new.count ≡ 1 → counted_for score (new ∷ []) ≡ counted_for score [] + one_for score new
counts_new score new one =
    omega (arith, sum_by-cons (counts_for score) new [], ap {B = ℕ} (λ n. cond (int_eq score new.score) n 0) one)

counts_more : (same : Bool) (score : ℤ) (first new : Frequency) (frequencies after : List Frequency) → Decides same (new.score ≡ first.score) →
    counted_for score after ≡ counted_for score frequencies + one_for score new →
    counted_for score (cond same (one_more first ∷ frequencies) (first ∷ after)) ≡ counted_for score (first ∷ frequencies) + one_for score new
counts_more true score first new frequencies after decides rest =
    let alike = ap {B = ℕ} (λ (z : ℤ). cond (int_eq score z) 1 0) (decides.0 refl) in
    omega (
      arith,
      alike,
      more_here (int_eq score first.score) first.count,
      sum_by-cons (counts_for score) (one_more first) frequencies,
      sum_by-cons (counts_for score) first frequencies,
    )
counts_more false score first new frequencies after decides rest =
    omega (arith, rest, sum_by-cons (counts_for score) first after, sum_by-cons (counts_for score) first frequencies)

counted_more : (score : ℤ) (frequencies : List Frequency) (new : Frequency) → new.count ≡ 1 → counted_for score (with_frequency frequencies new) ≡ counted_for score frequencies + one_for score new
counted_more score [] new one = counts_new score new one
counted_more score (first ∷ frequencies) new one =
    counts_more (same_score new first) score first new frequencies (with_frequency frequencies new) (Decides-int_eq new.score first.score)
    (counted_more score frequencies new one)

-- so do all
counted_all : (score : ℤ) (frequencies more : List Frequency) → All (λ (new : Frequency). new.count ≡ 1) more →
    counted_for score (fold with_frequency frequencies more) ≡ counted_for score frequencies + sum_by (one_for score) more
counted_all score frequencies [] one = omega arith
counted_all score frequencies (new ∷ more) one =
    omega (
      arith,
      counted_all score (with_frequency frequencies new) more (λ k d within. one (suc k) d (omega (arith, within))),
      counted_more score frequencies new (one zero new (omega arith)),
      sum_by-cons (one_for score) new more,
    )

-- a line has the score of its frequency
one_longer : (has : Bool) (line : BoardLine) (lines : List BoardLine) → cond has 1 0 + length lines ≡ length (cond has (line ∷ lines) lines)
one_longer true line lines = omega arith
one_longer false line lines = omega arith

result_counts : (score : ℤ) (comparison : Comparison) (result : PlayResult) (line : BoardLine) (lines : List BoardLine) (more : List Frequency) → sum_by (one_for score) more ≡ length lines →
    sum_by (one_for score) (cons_option (frequency_by comparison result) more) ≡ length (cond (option_map_or (int_eq score) (result_score result) false) (line ∷ lines) lines)
result_counts score comparison (Score own) line lines more rest =
    omega (arith, rest, sum_by-cons (one_for score) (once comparison own) more, one_longer (int_eq score own) line lines)
result_counts score comparison (Averages ns ew) line lines more rest = rest

line_counts : (score : ℤ) (comparison : Option Comparison) (line : BoardLine) (lines : List BoardLine) (more : List Frequency) → sum_by (one_for score) more ≡ length lines →
    sum_by (one_for score) (cons_option (option_and_then (λ (c : Comparison). frequency_by c c.result) comparison) more) ≡ length (cond (option_map_or (int_eq score) (line_score comparison) false) (line ∷ lines) lines)
line_counts score None line lines more rest = rest
line_counts score (Some comparison) line lines more rest = result_counts score comparison comparison.result line lines more rest

lines_count : (score : ℤ) (lines : List BoardLine) → sum_by (one_for score) (filter_map frequency_in lines) ≡ length (filter (has_score score) lines)
lines_count score [] = refl
lines_count score (line ∷ lines) =
    line_counts score line.comparison line (filter (has_score score) lines) (filter_map frequency_in lines) (lines_count score lines)

-- of frequencies of different scores each counts alone for its score
counts_nothing : (same : Bool) (score other : ℤ) (n : ℕ) → Decides same (score ≡ other) → score ≢ other → cond same n 0 ≡ 0
counts_nothing true score other n decides apart = absurd (apart (decides.0 refl))
counts_nothing false score other n decides apart = refl

none_for : (score : ℤ) (frequencies : List Frequency) → All (λ (f : Frequency). score ≢ f.score) frequencies → counted_for score frequencies ≡ 0
none_for score [] apart = refl
none_for score (first ∷ frequencies) apart =
    omega (
      arith,
      sum_by-cons (counts_for score) first frequencies,
      counts_nothing (int_eq score first.score) score first.score first.count (Decides-int_eq score first.score) (apart zero first (omega arith)),
      none_for score frequencies (λ k d within. apart (suc k) d (omega (arith, within))),
    )

counts_itself : (same : Bool) (score : ℤ) (n : ℕ) → Decides same (score ≡ score) → cond same n 0 ≡ n
counts_itself true score n decides = refl
counts_itself false score n decides = absurd (cc (decides.1 refl))

each_counts : (frequencies : List Frequency) → AllPairs HaveOtherScores frequencies → All (λ (f : Frequency). f.count ≡ counted_for f.score frequencies) frequencies
each_counts [] pairs = All-nil (λ (f : Frequency). f.count ≡ counted_for f.score [])
each_counts (first ∷ frequencies) pairs =
    All-cons (λ (f : Frequency). f.count ≡ counted_for f.score (first ∷ frequencies)) first frequencies
    (omega (
      arith,
      sum_by-cons (counts_for first.score) first frequencies,
      counts_itself (int_eq first.score first.score) first.score first.count (Decides-int_eq first.score first.score),
      none_for first.score frequencies (λ k d within. pairs zero (suc k) d (omega arith) (omega (arith, within))),
    ))
    (λ k d within.
    let f = get_or frequencies k d in
    let apart : f.score ≢ first.score = λ e. pairs zero (suc k) d (omega arith) (omega (arith, within)) (sym e) in
    omega (
      arith,
      sum_by-cons (counts_for f.score) first frequencies,
      counts_nothing (int_eq f.score first.score) f.score first.score first.count (Decides-int_eq f.score first.score) apart,
      each_counts frequencies (λ i j e less inside. pairs (suc i) (suc j) e (omega (arith, less)) (omega (arith, inside))) k d within,
    ))

-- each frequency counts the lines with its score
pub each_score_counted : (lines : List BoardLine) → All (λ (f : Frequency). f.count ≡ length (filter (has_score f.score) lines)) (frequencies_of lines)
each_score_counted lines = λ k d within.
    let f = get_or (frequencies_of lines) k d in
    omega (
      arith,
      each_counts (frequencies_of lines) (each_score_once lines) k d within,
      counted_all f.score [] (filter_map frequency_in lines) (all_once lines),
      lines_count f.score lines,
    )
