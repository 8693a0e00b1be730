-- What is counted of the numbers that a loop has passed.
use Rattle.std.proofs.Common.{◌≡◌, ◌∙◌, ℕ, ◌+◌, ◌-◌, ◌≤◌, take, get_or, ap, arith}
use Rattle.std.specs.Prelude.{sum_by}
use Rattle.std.specs.List.{range_with_len}
use Rattle.std.proofs.lemmas.List.FromFn.{length-range_with_len, get_or-range_with_len}
use Rattle.std.proofs.lemmas.List.Sums.{sum_by_more}

-- of the numbers from 1 to 36, one more
pub number_more : (f : ℕ → ℕ) (n : ℕ) → 1 ≤ n → n ≤ 36
    → sum_by f (take (n + 1 - 1) (range_with_len 1 36)) ≡ sum_by f (take (n - 1) (range_with_len 1 36)) + f n
number_more f n least most =
    let next : n + 1 - 1 ≡ n - 1 + 1 = omega arith in
    let there : get_or (range_with_len 1 36) (n - 1) 0 ≡ n = get_or-range_with_len 1 36 (n - 1) 0 (omega arith) ∙ omega arith in
    ap (λ i. sum_by f (take i (range_with_len 1 36))) next
    ∙ sum_by_more f (range_with_len 1 36) (n - 1) 0 (omega (arith, length-range_with_len 1 36))
    ∙ ap (λ m. sum_by f (take (n - 1) (range_with_len 1 36)) + f m) there
