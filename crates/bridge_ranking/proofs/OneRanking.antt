-- A field has one ranking.
use Rattle.std.proofs.Common.{◌≡◌, ◌<◌, ◌≤◌, ◌⊎◌, ◌==◌, ◌&&◌, ℕ, zero, suc, Bool, true, false, if◌then◌else◌, List, [], ◌∷◌, map, sum_by, refl, sym, ap, ap₂, ◌∙◌, subst, arith, inl, inr}
use Rattle.std.specs.Prelude.{All, AllPairs}
use Rattle.std.proofs.lemmas.Bool.{and_parts, eqb-true, eq-eqb}
use Rattle.std.proofs.lemmas.List.Elements.{All-cons, All-head, All-tail, All-map}
use Rattle.std.proofs.lemmas.List.Sorted.{All-permutation, sum_by-IsPermutation}
use Rattle.std.proofs.lemmas.List.Sums.{sum_by-cons}
use Rattle.bridge_score.specs.declared.ranking.Ranked.{Ranked}
use Rattle.bridge_score.specs.Ranking.{ranked_in, StandsBefore}
use Rattle.bridge_ranking.specs.declared.field.Field.{Field}
use Rattle.bridge_ranking.specs.Ranking.{games_of, line_of, lines_of, pairs_of_field, IsRankingTo}
use Rattle.session_rules.specs.State.{SessionValue}

-- a line with the place and the pair of another counts 1, any other 0
abbrev counts_for : Ranked → Ranked → ℕ
counts_for x y = if (y.place == x.place) && (y.pair == x.pair) then 1 else 0

counts_itself : (x : Ranked) → counts_for x x ≡ 1
counts_itself x = rw (eq-eqb x.place x.place refl, eq-eqb x.pair x.pair refl) refl

either : (b : Bool) → (b ≡ true) ⊎ (b ≡ false)
either true = inl refl
either false = inr refl

-- whatever stands before a line stands before each with its place and pair
before_same : (y z x : Ranked) → z.place ≡ x.place → z.pair ≡ x.pair → StandsBefore y z → StandsBefore y x
before_same y z x place pair (inl less) = inl (subst (λ n. y.place < n) place less)
before_same y z x place pair (inr both) = inr (both.0 ∙ place, subst (λ n. y.pair ≤ n) pair both.1)

-- so it does where a line of its place and pair is among them
before_counted : (x y : Ranked) (ys : List Ranked) → 0 < sum_by (counts_for x) ys → All (StandsBefore y) ys → StandsBefore y x
before_counted x y [] some all = absurd (omega (arith, some))
before_counted x y (z ∷ zs) some all =
    elim (either ((z.place == x.place) && (z.pair == x.pair))) [
      | inl here ↦
          let parts = and_parts (z.place == x.place) (z.pair == x.pair) here in
          before_same y z x (eqb-true z.place x.place parts.0) (eqb-true z.pair x.pair parts.1) (All-head (StandsBefore y) z zs all)
      | inr other ↦
          let none : counts_for x z ≡ 0 = ap (λ b. if b then 1 else 0) other in
          before_counted x y zs (omega (arith, some, none, sum_by-cons (counts_for x) z zs)) (All-tail (StandsBefore y) z zs all)
    ]

-- the first line stands before each of the same lines
first_before : (x y : Ranked) (xs ys : List Ranked) → ((f : Ranked → ℕ) → sum_by f (x ∷ xs) ≡ sum_by f (y ∷ ys)) → AllPairs StandsBefore (y ∷ ys) → StandsBefore y x
first_before x y xs ys sums pairs =
    let itself : counts_for x x ≡ 1 = counts_itself x in
    before_counted x y (y ∷ ys)
    (omega (arith, sums (counts_for x), itself, sum_by-cons (counts_for x) x xs))
    (All-cons (StandsBefore y) y ys (inr (refl, omega arith)) (λ k d within. pairs zero (suc k) d (omega arith) (omega (arith, within))))

-- two lines that stand before each other have one place and one pair
one_place : (x y : Ranked) → StandsBefore x y → StandsBefore y x → (x.place ≡ y.place) × (x.pair ≡ y.pair)
one_place x y (inl a) (inl b) = absurd (omega (arith, a, b))
one_place x y (inl a) (inr b) = absurd (omega (arith, a, b.0))
one_place x y (inr a) (inl b) = absurd (omega (arith, a.0, b))
one_place x y (inr a) (inr b) = (a.0, omega (arith, a.1, b.1))

-- the same lines in order, of which each is determined by its pair, stand in one way
one_order : (g : ℕ → Ranked) (xs ys : List Ranked) → ((f : Ranked → ℕ) → sum_by f xs ≡ sum_by f ys) → AllPairs StandsBefore xs → AllPairs StandsBefore ys
    → All (λ x. x ≡ g x.pair) xs → All (λ y. y ≡ g y.pair) ys → xs ≡ ys
one_order g [] [] sums px py gx gy = refl
one_order g [] (y ∷ ys) sums px py gx gy = absurd (omega (arith, sums (λ r. 1), sum_by-cons (λ (r : Ranked). 1) y ys))
one_order g (x ∷ xs) [] sums px py gx gy = absurd (omega (arith, sums (λ r. 1), sum_by-cons (λ (r : Ranked). 1) x xs))
one_order g (x ∷ xs) (y ∷ ys) sums px py gx gy =
    let key = one_place x y (first_before y x ys xs (λ f. sym (sums f)) px) (first_before x y xs ys sums py) in
    let same : x ≡ y = All-head (λ (r : Ranked). r ≡ g r.pair) x xs gx ∙ ap g key.1 ∙ sym (All-head (λ (r : Ranked). r ≡ g r.pair) y ys gy) in
    let rest : (f : Ranked → ℕ) → sum_by f xs ≡ sum_by f ys
    = λ f. let one : f x ≡ f y = ap f same in omega (arith, sums f, one, sum_by-cons f x xs, sum_by-cons f y ys) in
    ap₂ (λ (first : Ranked) (later : List Ranked). first ∷ later) same
    (one_order g xs ys rest (λ i j d less within. px (suc i) (suc j) d (omega (arith, less)) (omega (arith, within)))
    (λ i j d less within. py (suc i) (suc j) d (omega (arith, less)) (omega (arith, within)))
    (All-tail (λ (r : Ranked). r ≡ g r.pair) x xs gx) (All-tail (λ (r : Ranked). r ≡ g r.pair) y ys gy))

pub one_ranking : (s : SessionValue) (key next : ℕ) (field : Field) (one other : List Ranked) → IsRankingTo s key field one → IsRankingTo s next field other → one ≡ other
one_ranking s key next field one other a b =
    let scoring = s.configuration.scoring in
    let lines = lines_of s field in
    let made : ℕ → Ranked = λ pair. ranked_in scoring lines (line_of scoring (games_of s) pair) in
    let ranked : List Ranked = map (ranked_in scoring lines) lines in
    let each : All (λ (r : Ranked). r ≡ made r.pair) ranked
    = All-map (λ (r : Ranked). r ≡ made r.pair) (ranked_in scoring lines) lines
    (All-map (λ line. ranked_in scoring lines line ≡ made line.pair) (line_of scoring (games_of s)) (pairs_of_field s.configuration.movement.shape field) (λ k d within. refl)) in
    one_order made one other
    (λ f. sum_by-IsPermutation f ranked one a.ranked.lines_are ∙ sym (sum_by-IsPermutation f ranked other b.ranked.lines_are))
    a.ranked.order b.ranked.order
    (All-permutation (λ (r : Ranked). r ≡ made r.pair) ranked one a.ranked.lines_are each)
    (All-permutation (λ (r : Ranked). r ≡ made r.pair) ranked other b.ranked.lines_are each)
