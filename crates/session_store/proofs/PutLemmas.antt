-- Writing into an array of zeros, from the left.
use Rattle.std.proofs.Common.{◌≡◌, ◌≤◌, ◌+◌, ◌-◌, ℕ, List, ◌++◌, length, take, drop, replicate, sym, ap, subst, ◌∙◌, arith}
use Rattle.std.proofs.Math.Seq.{drop-append-add}
use Rattle.std.proofs.lemmas.List.{take-append-drop, drop-replicate}
use Rattle.std.proofs.lemmas.Slice.{take-put_mid, drop-put_mid}
use Rattle.session_store.proofs.FormLemmas.{take_seam}
use borrow.Rule.Slice.PartMut.{put_mid}
use Rattle.std.proofs.lemmas.List.{length-append, length-replicate}

pub put_zeros : (before part xs ys : List ℕ) (a k : ℕ) → length before ≡ a → k ≡ length part → ys ≡ part
    → xs ≡ before ++ replicate (512 - a) 0 → a + length part ≤ 512
    → put_mid a k xs ys ≡ before ++ part ++ replicate (512 - (a + length part)) 0
put_zeros before part xs ys a k long_before long_part is_part was fits =
    let n = a + length part in
    let written = put_mid a k xs ys in
    let same_long : length ys ≡ length part = ap length is_part in
    let within : a ≤ length xs = rw was (simp (length-append, length-replicate) (omega (arith, long_before))) in
    let head : take n written ≡ before ++ part
    = take-put_mid a k xs ys n (omega (arith, same_long)) within
    ∙ rw (is_part, was) (ap (λ (zs : List ℕ). zs ++ part) (take_seam a before (replicate (512 - a) 0) long_before)) in
    let tail : drop n written ≡ replicate (512 - n) 0
    = drop-put_mid a k xs ys n (omega (arith, long_part)) within (same_long ∙ sym long_part)
    ∙ rw was (drop_behind before part a long_before fits) in
    sym (take-append-drop n written) ∙ ap (λ (zs : List ℕ). zs ++ drop n written) head
    ∙ ap (λ (zs : List ℕ). before ++ part ++ zs) tail
  where
    drop_behind : (before part : List ℕ) (a : ℕ) → length before ≡ a → a + length part ≤ 512
        → drop (a + length part) (before ++ replicate (512 - a) 0) ≡ replicate (512 - (a + length part)) 0
    drop_behind before part a long_before fits =
        let zeros : List ℕ = replicate (512 - a) 0 in
        subst (λ (b : ℕ). drop (b + length part) (before ++ zeros) ≡ replicate (512 - (a + length part)) 0) long_before
        (drop-append-add before zeros (length part)
        ∙ drop-replicate (length part) (512 - a) 0
        ∙ let rest : 512 - a - length part ≡ 512 - (a + length part) = omega arith in ap (λ (m : ℕ). replicate m 0) rest)

-- one part more
pub put_next : (old new before part given : List ℕ) (a m n : ℕ)
    → ((front : List ℕ) → length front ≡ a → old ≡ front ++ replicate (512 - a) 0
    → new ≡ front ++ given ++ replicate (512 - (a + length given)) 0)
    → length before ≡ a → given ≡ part → m ≡ 512 - a → n ≡ 512 - (a + length part)
    → old ≡ before ++ replicate m 0 → new ≡ before ++ part ++ replicate n 0
put_next old new before part given a m n put long is_part is_m is_n was =
    rw (is_n, ← is_part) (put before long (rw (← is_m) was))
