-- The list of contracts that reach par.
use Rattle.std.proofs.Common.{ℕ, suc, ◌≡◌, ◌+◌, ◌-◌, ◌<◌, Bool, false, cond, List, [], ◌∷◌, ◌++◌, ℤ, refl, ap, sym, ◌∙◌, append_assoc, append-nil, arith}
use Rattle.bridge_cards.specs.declared.vulnerability.Vulnerability.{Vulnerability}
use Rattle.bridge_par.specs.declared.tricks.TrickTable.{TrickTable}
use Rattle.bridge_par.specs.declared.par_contract.ParContract.{ParContract}
use Rattle.bridge_par.specs.Par.{reaching, reaching_from}

turned : {X : Type 0} (s a b c d : List X) → (((s ++ a) ++ b) ++ c) ++ d ≡ s ++ (a ++ (b ++ (c ++ (d ++ []))))
turned s a b c d = simp (append_assoc, append-nil) refl

-- four lists, one after the other
pub four-appended : {X : Type 0} (s s1 s2 s3 s4 a b c d : List X) → s1 ≡ s ++ a → s2 ≡ s1 ++ b → s3 ≡ s2 ++ c → s4 ≡ s3 ++ d →
    s4 ≡ s ++ (a ++ (b ++ (c ++ (d ++ []))))
four-appended s s1 s2 s3 s4 a b c d e1 e2 e3 e4 =
    e4 ∙ ap (λ x. x ++ d) (e3 ∙ ap (λ x. x ++ c) (e2 ∙ ap (λ x. x ++ b) e1)) ∙ turned s a b c d

-- a bid more, whose contracts stand first
pub reaching_from-more : (table : TrickTable) (vulnerability : Vulnerability) (par : ℤ) (above : ℕ) →
    reaching_from table vulnerability par (suc above)
    ≡ reaching table vulnerability par above ++ reaching_from table vulnerability par above
unfolding reaching_from
reaching_from-more table vulnerability par above = refl

pub reaching_from-none : (table : TrickTable) (vulnerability : Vulnerability) (par : ℤ) →
    reaching_from table vulnerability par 0 ≡ []
unfolding reaching_from
reaching_from-none table vulnerability par = refl

-- the next bid's contracts behind those found so far
pub listed-more : (table : TrickTable) (vulnerability : Vulnerability) (par : ℤ) (now next whole : List ParContract) (left number : ℕ) →
    number < 35 → left ≡ 34 - number → next ≡ now ++ reaching table vulnerability par left →
    now ++ reaching_from table vulnerability par (35 - number) ≡ whole →
    next ++ reaching_from table vulnerability par (35 - (number + 1)) ≡ whole
listed-more table vulnerability par now next whole left number within is e before =
    let one : 35 - number ≡ suc left = omega arith in
    let rest : 35 - (number + 1) ≡ left = omega arith in
    ap (λ n. next ++ reaching_from table vulnerability par n) rest
    ∙ ap (λ s. s ++ reaching_from table vulnerability par left) e
    ∙ append_assoc now (reaching table vulnerability par left) (reaching_from table vulnerability par left)
    ∙ ap (λ s. now ++ s) (sym (reaching_from-more table vulnerability par left))
    ∙ ap (λ n. now ++ reaching_from table vulnerability par n) (sym one)
    ∙ before

-- all bids
pub listed-all : (table : TrickTable) (vulnerability : Vulnerability) (par : ℤ) (now whole : List ParContract) (number : ℕ) →
    number ≡ 35 → now ++ reaching_from table vulnerability par (35 - number) ≡ whole → now ≡ whole
listed-all table vulnerability par now whole number is before =
    let none : 35 - number ≡ 0 = omega arith in
    sym (append-nil now) ∙ ap (λ s. now ++ s) (sym (reaching_from-none table vulnerability par))
    ∙ ap (λ n. now ++ reaching_from table vulnerability par n) (sym none) ∙ before

-- what is not reached is not listed
pub unreached : {X : Type 0} (now : List X) (one : X) (test : Bool) → test ≡ false → now ≡ now ++ cond test (one ∷ []) []
unreached now one test none = sym (append-nil now) ∙ ap (λ b. now ++ cond b (one ∷ []) []) (sym none)
