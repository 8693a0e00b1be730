-- What East and West gain by the scores of North and South.
use Rattle.std.proofs.Common.{◌≡◌, ◌+◌, ◌*◌, ◌<◌, ℕ, zero, suc, cond, not, List, [], ◌∷◌, length, map, remove, sum_by, ℤ, pos, neg_ℤ, ◌-ℤ◌, Option, Some, None, refl, ap, ◌∙◌, arith, nat_lt}
use Rattle.std.specs.Prelude.{position, int_lt, unsigned_abs}
use Rattle.std.specs.List.{position_or_len}
use Rattle.std.specs.Option.{option_map_or}
use Rattle.std.specs.Ordering.{int_eq}
use Rattle.std.proofs.lemmas.Int.{ints}
use Rattle.std.proofs.lemmas.List.{length-map}
use Rattle.std.proofs.lemmas.List.Edits.{length-remove}
use Rattle.std.proofs.lemmas.List.Sums.{sum_by-cons}
use Rattle.bridge_cards.specs.declared.scoring.Scoring.{Scoring}
use Rattle.bridge_cards.specs.declared.scoring.Scoring.TheVariants.{MatchPoints, Imps}
use Rattle.bridge_cards.specs.declared.seat.Side.{Side}
use Rattle.bridge_cards.specs.declared.seat.Side.TheVariants.{NorthSouth, EastWest}
use Rattle.bridge_ranking.specs.Ranking.{score_for, gain_at, gain_of, available_of}
use Rattle.bridge_score.proofs.Sums.{int_sum_by-cons}
use Rattle.bridge_score.proofs.OtherScores.{imps_against-both}
use Rattle.event_ranking.specs.Joint.{other_gain}
use Rattle.bridge_score.specs.Comparison.{score_at, int_sum_by, matchpoints_against, matchpoints_of, imps_against, cross_imps_of}
use Rattle.bridge_score.specs.ImpScale.{imps_of}

-- a list without an element, mapped
remove-map : {X Y : Type 0} (f : X → Y) (xs : List X) (i : ℕ) → remove (map f xs) i ≡ map f (remove xs i)
remove-map f [] zero = refl
remove-map f [] (suc i) = refl
remove-map f (x ∷ xs) zero = refl
remove-map f (x ∷ xs) (suc i) = ap (λ ys. f x ∷ ys) (remove-map f xs i)

-- the score at an index, with the other sign
score_at-neg : (scores : List ℤ) (i : ℕ) → score_at (map neg_ℤ scores) i ≡ neg_ℤ (score_at scores i)
score_at-neg [] i = refl
score_at-neg (x ∷ xs) zero = refl
score_at-neg (x ∷ xs) (suc i) = score_at-neg xs i

neg_eq : (a b : ℤ) → int_eq (neg_ℤ a) (neg_ℤ b) ≡ int_eq a b
neg_eq a b = grind (arith, ints)

neg_first : (own : ℤ) (scores : List ℤ) → position_or_len (int_eq (neg_ℤ own)) (map neg_ℤ scores) ≡ position_or_len (int_eq own) scores
neg_first own [] = refl
neg_first own (x ∷ xs) =
    ap (λ b. cond (not b) (1 + position_or_len (int_eq (neg_ℤ own)) (map neg_ℤ xs)) 0) (neg_eq own x)
    ∙ ap (λ n. cond (not (int_eq own x)) (1 + n) 0) (neg_first own xs)

pub neg_position : (own : ℤ) (scores : List ℤ) → position (int_eq (neg_ℤ own)) (map neg_ℤ scores) ≡ position (int_eq own) scores
neg_position own scores =
    ap (λ n. cond (nat_lt n (length (map neg_ℤ scores))) (Some n) None) (neg_first own scores)
    ∙ ap (λ k. cond (nat_lt (position_or_len (int_eq own) scores) k) (Some (position_or_len (int_eq own) scores)) None) (length-map scores neg_ℤ)

-- two scores share 20
against_neg : (own other : ℤ) → matchpoints_against (neg_ℤ own) (neg_ℤ other) + matchpoints_against own other ≡ 20
against_neg own other = grind (arith, ints)

over_neg : (own : ℤ) (others : List ℤ) → sum_by (matchpoints_against (neg_ℤ own)) (map neg_ℤ others) + sum_by (matchpoints_against own) others ≡ 20 * length others
over_neg own [] = refl
over_neg own (x ∷ xs) =
    omega (arith, over_neg own xs, against_neg own x, sum_by-cons (matchpoints_against (neg_ℤ own)) (neg_ℤ x) (map neg_ℤ xs), sum_by-cons (matchpoints_against own) x xs)

pub matchpoints_neg : (scores : List ℤ) (i : ℕ) → i < length scores → matchpoints_of (map neg_ℤ scores) i + matchpoints_of scores i ≡ available_of scores
matchpoints_neg scores i within =
    let own = score_at scores i in
    let alike = ap (λ (z : ℤ). sum_by (matchpoints_against z) (remove (map neg_ℤ scores) i)) (score_at-neg scores i)
    ∙ ap (sum_by (matchpoints_against (neg_ℤ own))) (remove-map neg_ℤ scores i) in
    omega (arith, alike, over_neg own (remove scores i), length-remove scores i within)

-- what one wins the other loses
neg_difference : (a b : ℤ) → unsigned_abs (neg_ℤ a -ℤ neg_ℤ b) ≡ unsigned_abs (b -ℤ a)
neg_difference a b = grind (arith, ints)

neg_less : (a b : ℤ) → int_lt (neg_ℤ a) (neg_ℤ b) ≡ int_lt b a
neg_less a b = grind (arith, ints)

neg_imps : (own other : ℤ) → imps_against (neg_ℤ own) (neg_ℤ other) ≡ neg_ℤ (imps_against own other)
neg_imps own other =
    let alike : imps_against (neg_ℤ own) (neg_ℤ other) ≡ imps_against other own
    = ap (λ n. let imps = imps_of n in cond (int_lt (neg_ℤ own) (neg_ℤ other)) (neg_ℤ (pos imps)) (pos imps)) (neg_difference own other)
    ∙ ap (λ b. let imps = imps_of (unsigned_abs (other -ℤ own)) in cond b (neg_ℤ (pos imps)) (pos imps)) (neg_less own other) in
    omega (arith, ints, alike, imps_against-both own other)

imps_neg : (own : ℤ) (others : List ℤ) → int_sum_by (imps_against (neg_ℤ own)) (map neg_ℤ others) ≡ neg_ℤ (int_sum_by (imps_against own) others)
imps_neg own [] = refl
imps_neg own (x ∷ xs) =
    omega (arith, ints, imps_neg own xs, neg_imps own x, int_sum_by-cons (imps_against (neg_ℤ own)) (neg_ℤ x) (map neg_ℤ xs), int_sum_by-cons (imps_against own) x xs)

pub cross_imps_neg : (scores : List ℤ) (i : ℕ) → cross_imps_of (map neg_ℤ scores) i ≡ neg_ℤ (cross_imps_of scores i)
cross_imps_neg scores i =
    let own = score_at scores i in
    ap (λ (z : ℤ). int_sum_by (imps_against z) (remove (map neg_ℤ scores) i)) (score_at-neg scores i)
    ∙ ap (int_sum_by (imps_against (neg_ℤ own))) (remove-map neg_ℤ scores i)
    ∙ imps_neg own (remove scores i)

pub map_itself : (scores : List ℤ) → map (λ (z : ℤ). z) scores ≡ scores
map_itself [] = refl
map_itself (x ∷ xs) = ap (λ ys. x ∷ ys) (map_itself xs)

-- a score stands at one index, on either side
pub side_position : (side : Side) (own : ℤ) (scores : List ℤ) → position (int_eq (score_for side own)) (map (score_for side) scores) ≡ position (int_eq own) scores
side_position NorthSouth own scores = ap (position (int_eq own)) (map_itself scores)
side_position EastWest own scores = neg_position own scores

-- what a side gains at an index
pub north_gain : (scoring : Scoring) (scores : List ℤ) (i : ℕ) → gain_at scoring (map (score_for NorthSouth) scores) i ≡ gain_at scoring scores i
north_gain scoring scores i = ap (λ xs. gain_at scoring xs i) (map_itself scores)

pub east_gain : (scoring : Scoring) (scores : List ℤ) (i : ℕ) → i < length scores → gain_at scoring (map (score_for EastWest) scores) i ≡ other_gain scoring (gain_at scoring scores i) (available_of scores)
east_gain MatchPoints scores i within = omega (arith, ints, matchpoints_neg scores i within)
east_gain Imps scores i within = cross_imps_neg scores i

-- what a score gains that stands at an index, or at none
pub gain_found : (scoring : Scoring) (side : Side) (scores : List ℤ) (own : ℤ) (i : ℕ) → position (int_eq own) scores ≡ Some i → gain_of scoring (map (score_for side) scores) (score_for side own) ≡ gain_at scoring (map (score_for side) scores) i
gain_found scoring side scores own i found =
    ap (λ (o : Option ℕ). option_map_or (gain_at scoring (map (score_for side) scores)) o (pos 0)) (side_position side own scores ∙ found)

pub gain_missed : (scoring : Scoring) (side : Side) (scores : List ℤ) (own : ℤ) → position (int_eq own) scores ≡ None → gain_of scoring (map (score_for side) scores) (score_for side own) ≡ pos 0
gain_missed scoring side scores own found =
    ap (λ (o : Option ℕ). option_map_or (gain_at scoring (map (score_for side) scores)) o (pos 0)) (side_position side own scores ∙ found)
