-- Pairs of stores, from call to call.
use Rattle.std.proofs.Common.{◌≡◌, ◌⊎◌, ◌≤◌, ◌+◌, List, [], ◌++◌, Some, true, false, inl, inr, ⊎_elim, sym, ap, subst, ◌∙◌, arith}
use Rattle.std.proofs.lemmas.Bool.{cases_Bool}
use Rattle.sector_disk.specs.Disk.{Image, Disk}
use Rattle.sector_disk.proofs.RunLaws.{now_has}
use Rattle.session_store.specs.Keeping.{Keeping, fold}
use Rattle.session_store.specs.Epochs.{epoch_in, IsOfEpochs}
use Rattle.session_store.specs.Base.{StandsForPrefix}
use Rattle.session_store.specs.Sound.{IsSoundDisk, StandsOnlyFor}
use Rattle.session_store.specs.Value.{StoreValue, IsStore}
use Rattle.session_store.specs.Store.{Continues}
use Rattle.session_store.specs.Pair.{IsChosen, IsSide, IsInStep, MomentLaw, ToldLaw, ServedLaw, AloneLaw}
use Rattle.session_store.proofs.CallLaws.{continues_begins}
use Rattle.session_store.proofs.StoreLemmas.{of_nil, sound-stands}
use Rattle.session_store.proofs.OpenLemmas.{prefix-none, store-sound}

module _ {D S A R : Type 0} (kept : Keeping S A R) (disk : Disk D) where
  -- the base of a store with nothing pending is its state
  pub base-is : (v : StoreValue D S A) → IsStore kept disk v → v.pending ≡ [] → v.base ≡ v.state
  base-is v store none =
      of_nil kept v.base v.state (subst (λ (xs : List A). fold kept v.base xs ≡ Some v.state) none store.accepted)

  -- a side after calls
  pub side-on : (v v' : StoreValue D S A) (s t : S) (xs : List A) → IsSide kept disk v s → Continues kept disk v xs v'
      → (v'.failed ≡ false → v'.state ≡ t) → IsSide kept disk v' t
  side-on v v' s t xs side call state = record {
    honest = call.remains.stays_honest side.honest;
    sound = λ works. call.sound (side.sound (still works));
    state = state;
    within = λ failed c left. elim (cases_Bool v.failed) [
      | inl before ↦
          let same = call.ages.rests before in
          let was = side.within before c (subst (λ (x : StoreValue D S A). disk.may_leave x.disk c) same left) in
          let epochs = ap (λ (x : StoreValue D S A). x.epoch) same in
          omega (arith, was, epochs)
      | inr works ↦
          (now_has disk v.disk v'.disk (IsOfEpochs v.epoch (v'.epoch + 1)) (call.ages.any_moment works (side.sound works)) c left).1
    ];
  }
    where
      -- one that works now worked before
      still : v'.failed ≡ false → v.failed ≡ false
      still works = elim (cases_Bool v.failed) [
        | inl before ↦
            let never : true ≡ false = sym before ∙ sym (ap (λ (x : StoreValue D S A). x.failed) (call.ages.rests before)) ∙ works in cc
        | inr worked ↦ worked
      ]

  -- a disk that was kept is sound after any calls
  pub side-alone : (v v' : StoreValue D S A) (s : S) (xs : List A) → IsSide kept disk v s → IsStore kept disk v'
      → Continues kept disk v xs v' → v.failed ≡ false → IsSoundDisk kept disk v'.disk
  side-alone v v' s xs side store call works = store-sound kept disk v' store.large (call.sound (side.sound works))

  -- a side with nothing pending stands for its state
  pub side-stands : (v : StoreValue D S A) (s : S) → IsStore kept disk v → IsSide kept disk v s → v.failed ≡ false
      → v.pending ≡ [] → StandsOnlyFor kept disk s v.disk
  side-stands v s store side works none =
      subst (λ (x : S). StandsOnlyFor kept disk x v.disk) (side.state works)
      (sound-stands kept disk v none (base-is v store none) (side.sound works))

  -- at every moment of calls it stands for that with a prefix of what was accepted
  pub side-prefix : (v v' : StoreValue D S A) (s : S) (xs : List A) → IsStore kept disk v → IsSide kept disk v s
      → v.failed ≡ false → v.pending ≡ [] → Continues kept disk v xs v'
      → (c : Image) → disk.left_since v'.disk (disk.moment v.disk) c → StandsForPrefix kept s xs c
  side-prefix v v' s xs store side works none call c left =
      let from = (call.any_moment (side.sound works)).each c left in
      subst (λ (x : S). StandsForPrefix kept x xs c) (base-is v store none ∙ side.state works)
      (subst (λ (pending : List A). StandsForPrefix kept v.base (pending ++ xs) c) none from)

  -- and is of no epoch below its own
  pub side-least : (v v' : StoreValue D S A) (s : S) (xs : List A) → IsSide kept disk v s → v.failed ≡ false
      → Continues kept disk v xs v' → (c : Image) → disk.left_since v'.disk (disk.moment v.disk) c → v.epoch ≤ epoch_in c
  side-least v v' s xs side works call c left = ((call.ages.any_moment works (side.sound works)).each c left).0

  -- one that had failed is left as it was, and its images are of no later epoch than the next
  pub side-most : (v v' : StoreValue D S A) (s : S) (xs : List A) → IsSide kept disk v s → v.failed ≡ true
      → Continues kept disk v xs v' → (c : Image) → disk.left_since v'.disk (disk.moment v.disk) c → epoch_in c ≤ v.epoch + 1
  side-most v v' s xs side failed call c left =
      side.within failed c (disk.only_now v.disk c side.honest
      (subst (λ (x : StoreValue D S A). disk.left_since x.disk (disk.moment v.disk) c) (call.ages.rests failed) left))

module _ {D E S A R : Type 0} (kept : Keeping S A R) (first : Disk D) (second : Disk E) where
  pub moment_law : MomentLaw kept first second
  moment_law v v' w w' s xs ys store other told works call call' a b c left left' chosen =
      of_sides (cases_Bool v.failed) (cases_Bool w.failed) chosen
    where
      side : IsSide kept first v s
      side = told.served.in_step.first_side

      side' : IsSide kept second w s
      side' = told.served.in_step.second_side

      of_first : v.failed ≡ false → c ≡ a → StandsForPrefix kept s xs c ⊎ StandsForPrefix kept s ys c
      of_first still is = inl (subst (StandsForPrefix kept s xs) (sym is)
          (side-prefix kept first v v' s xs store side still (told.served.first_none still) call a left))

      of_second : w.failed ≡ false → c ≡ b → StandsForPrefix kept s xs c ⊎ StandsForPrefix kept s ys c
      of_second still is = inr (subst (StandsForPrefix kept s ys) (sym is)
          (side-prefix kept second w w' s ys other side' still (told.served.second_none still) call' b left'))

      of_sides : (v.failed ≡ true) ⊎ (v.failed ≡ false) → (w.failed ≡ true) ⊎ (w.failed ≡ false) → IsChosen a b c
          → StandsForPrefix kept s xs c ⊎ StandsForPrefix kept s ys c
      of_sides (inr still) o (inl (is, above)) = of_first still is
      of_sides o (inr still) (inr (is, above)) = of_second still is
      of_sides (inl failed) (inr still) (inl (is, above)) =
          let most = side-most kept first v v' s xs side failed call a left in
          let least = side-least kept second w w' s ys side' still call' b left' in
          let behind = told.first_behind failed still in
          absurd (omega (arith, above, most, least, behind))
      of_sides (inr still) (inl failed) (inr (is, above)) =
          let most = side-most kept second w w' s ys side' failed call' b left' in
          let least = side-least kept first v v' s xs side still call a left in
          let behind = told.second_behind failed still in
          absurd (omega (arith, above, most, least, behind))
      of_sides (inl failed) (inl failed') chosen =
          absurd (⊎_elim (λ still. let never : true ≡ false = sym failed ∙ still in cc) (λ still. let never : true ≡ false = sym failed' ∙ still in cc) works)

  pub told_law : ToldLaw kept first second
  told_law v w s store other told works a b c left left' chosen =
      let honest = told.served.in_step.first_side.honest in
      let honest' = told.served.in_step.second_side.honest in
      ⊎_elim (prefix-none kept first s c) (prefix-none kept first s c)
      (moment_law v v w w s [] [] store other told works (continues_begins kept first v) (continues_begins kept second w) a b c
      (first.counts_now v.disk (first.moment v.disk) a honest (omega arith) left)
      (second.counts_now w.disk (second.moment w.disk) b honest' (omega arith) left') chosen)

  pub served_law : ServedLaw kept first second
  served_law v v' w w' s t xs ys step call call' state state' =
      let now : IsInStep kept first second v' w' t = record {
        first_side = side-on kept first v v' s t xs step.first_side call state;
        second_side = side-on kept second w w' s t ys step.second_side call' state';
      } in
      (now, λ none none'. record { in_step = now; first_none = none; second_none = none' })

  pub alone_law : AloneLaw kept first second
  alone_law v v' w w' s xs ys step store other call call' = (
    side-alone kept first v v' s xs step.first_side store call,
    side-alone kept second w w' s ys step.second_side other call',
    λ t served. (
      λ works. side-stands kept first v' t store served.in_step.first_side works (served.first_none works),
      λ works. side-stands kept second w' t other served.in_step.second_side works (served.second_none works),
    ),
  )
