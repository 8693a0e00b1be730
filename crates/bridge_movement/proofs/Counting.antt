-- What holds of each number below another, and of one of them, by a test that is run.
use Rattle.std.proofs.Common.{ℕ, ◌≡◌, ◌<◌, ◌⊎◌, Bool, true, false, ◌&&◌, ◌||◌, zero, suc, arith, refl, sym, true≢false, inl, inr}
use Rattle.std.proofs.Common.{subst}

-- the test holds of each number below n
abbrev pub every : ℕ → (ℕ → Bool) → Bool
every zero p = true
every (suc n) p = p n && every n p

-- the test holds of some number below n
abbrev pub some : ℕ → (ℕ → Bool) → Bool
some zero p = false
some (suc n) p = p n || some n p

pub both_parts : (x y : Bool) → (x && y) ≡ true → (x ≡ true) × (y ≡ true)
both_parts true y h = (refl, h)
both_parts false y h = absurd (true≢false (sym h))

pub either_part : (x y : Bool) → (x || y) ≡ true → (x ≡ true) ⊎ (y ≡ true)
either_part true y h = inl refl
either_part false y h = inr h

last_or_before : (n k : ℕ) → k < suc n → (k ≡ n) ⊎ (k < n)
last_or_before n k below = grind arith

pub every_tells : (n : ℕ) (p : ℕ → Bool) → every n p ≡ true → (k : ℕ) → k < n → p k ≡ true
every_tells zero p h k below = absurd (omega arith)
every_tells (suc n) p h k below =
    let parts = both_parts (p n) (every n p) h in
    elim (last_or_before n k below) [
      | inl last ↦ subst (λ j. p j ≡ true) (sym last) parts.0
      | inr before ↦ every_tells n p parts.1 k before
    ]

pub some_tells : (n : ℕ) (p : ℕ → Bool) → some n p ≡ true → (k : ℕ) × (k < n) × (p k ≡ true)
some_tells zero p h = absurd (true≢false (sym h))
some_tells (suc n) p h =
    elim (either_part (p n) (some n p) h) [
      | inl last ↦ (n, omega arith, last)
      | inr before ↦ let found = some_tells n p before in (found.0, omega (arith, found.1), found.2)
    ]
