-- Lines that are shown whole.
use Rattle.std.proofs.Common.{◌≡◌, ℕ, ◌≤◌, false, nat_lt, cond, List, [], ◌++◌, length, take, sym, ap, ◌∙◌, append-nil, arith}
use Rattle.std.specs.Prelude.{flat_map, min, codes}
use Rattle.std.proofs.lemmas.Bool.{le-ltb}
use Rattle.std.proofs.lemmas.List.{take_all}
use Rattle.evening_plan.specs.Shown.{shown_byte, shown_text}

-- of a line of at most 80 bytes nothing is cut off
pub shown_whole : (line : List ℕ) (n : ℕ) → n ≡ min (length line) 80 → length line ≤ 80 → flat_map shown_byte (take n line) ≡ shown_text line
shown_whole line n is short =
    let all : length line ≤ n = omega (arith, is, short) in
    let none : nat_lt 80 (length line) ≡ false = le-ltb 80 (length line) short in
    let same : take n line ≡ take 80 line = take_all n line all ∙ sym (take_all 80 line short) in
    ap (flat_map shown_byte) same ∙ sym (append-nil (flat_map shown_byte (take 80 line)))
    ∙ ap (λ b. flat_map shown_byte (take 80 line) ++ cond b (codes " ..") []) (sym none)
