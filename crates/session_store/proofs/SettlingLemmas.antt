-- Settling a pair of stores.
use Rattle.std.proofs.Common.{◌≡◌, ◌⊎◌, ◌<◌, ◌≤◌, ◌+◌, ◌-◌, ◌^◌, ℕ, List, [], ◌++◌, drop, Err, true, false, inl, inr, refl, sym, ap, subst, ◌∙◌, arith}
use Rattle.std.proofs.lemmas.List.{drop_all}
use Rattle.sector_disk.specs.Disk.{Disk, Rose}
use Rattle.session_store.specs.Keeping.{Keeping}
use Rattle.session_store.specs.Value.{StoreValue}
use Rattle.session_store.specs.Store.{Continues}
use Rattle.session_store.specs.Answers.{Checkpoints}
use Rattle.session_store.specs.Pair.{IsServedPair, IsToldPair}
use Rattle.session_store.specs.Settling.{IsSettledPair, CannotRise, CannotSettle}
use Rattle.session_store.specs.declared.fault.CheckpointFault.{CheckpointFault}
use Rattle.session_store.specs.declared.fault.CheckpointFault.TheVariants.{Failed, EpochsSpent, Disk as DiskFailed}
use Rattle.session_store.proofs.PairLemmas.{side-on}

-- a store cannot both work and have failed
pub not_both : {P : Type 0} {D S A : Type 0} (v : StoreValue D S A) → v.failed ≡ true → v.failed ≡ false → P
not_both v failed works = let never : true ≡ false = sym failed ∙ works in cc

-- nothing is pending after a call that accepted nothing, where nothing was
pub none-still : {D S A R : Type 0} (kept : Keeping S A R) (disk : Disk D) (v v' : StoreValue D S A) → Continues kept disk v [] v'
    → v.pending ≡ [] → v'.pending ≡ []
none-still {D} {S} {A} {R} kept disk v v' call none =
    call.pending ∙ ap (λ (xs : List A). drop call.confirmed (xs ++ [])) none ∙ drop_all call.confirmed [] (omega arith)

module _ {D E S A R : Type 0} (kept : Keeping S A R) (first : Disk D) (second : Disk E) (v : StoreValue D S A) (w : StoreValue E S A) (s : S) where
  -- one of which the first was lost is settled once the second is two epochs above
  pub second-rises : v.failed ≡ true → w.failed ≡ false → (w' : StoreValue E S A) → Continues kept second w [] w'
      → w'.failed ≡ w.failed → w'.state ≡ w.state → v.epoch + 2 ≤ w'.epoch
      → IsServedPair kept first second v w s → IsToldPair kept first second v w' s
  second-rises failed works w' call same state above served = record {
    served = record {
      in_step = record {
        first_side = served.in_step.first_side;
        second_side = side-on kept second w w' s s [] served.in_step.second_side call
            (λ still. state ∙ served.in_step.second_side.state works);
      };
      first_none = served.first_none;
      second_none = λ still. none-still kept second w w' call (served.second_none works);
    };
    first_behind = λ _ _. above;
    second_behind = λ failed' _. not_both w' failed' (same ∙ works);
  }

  -- and the other way round
  pub first-rises : w.failed ≡ true → v.failed ≡ false → (v' : StoreValue D S A) → Continues kept first v [] v'
      → v'.failed ≡ v.failed → v'.state ≡ v.state → w.epoch + 2 ≤ v'.epoch
      → IsServedPair kept first second v w s → IsToldPair kept first second v' w s
  first-rises failed works v' call same state above served = record {
    served = record {
      in_step = record {
        first_side = side-on kept first v v' s s [] served.in_step.first_side call
            (λ still. state ∙ served.in_step.first_side.state works);
        second_side = served.in_step.second_side;
      };
      first_none = λ still. none-still kept first v v' call (served.first_none works);
      second_none = served.second_none;
    };
    first_behind = λ failed' _. not_both v' failed' (same ∙ works);
    second_behind = λ _ _. above;
  }

-- a pair that is settled, of which one disk was lost
pub settled-second : {D E S A : Type 0} (v : StoreValue D S A) (w : StoreValue E S A) → v.failed ≡ true → w.failed ≡ false
    → IsSettledPair v w → v.epoch + 2 ≤ w.epoch
settled-second v w failed works (inl both) = not_both v failed both.0
settled-second v w failed works (inr (inl (one, above))) = above
settled-second v w failed works (inr (inr (other, above))) = not_both w other.0 works

pub settled-first : {D E S A : Type 0} (v : StoreValue D S A) (w : StoreValue E S A) → w.failed ≡ true → v.failed ≡ false
    → IsSettledPair v w → w.epoch + 2 ≤ v.epoch
settled-first v w failed works (inl both) = not_both w failed both.1
settled-first v w failed works (inr (inl (one, above))) = not_both v one.0 works
settled-first v w failed works (inr (inr (other, above))) = above

-- why a checkpoint on the way up was not made is why a store did not rise
pub cannot-rise : {D S A R : Type 0} (kept : Keeping S A R) (disk : Disk D) (v v1 v2 : StoreValue D S A) (epoch begun : ℕ)
    (fault : CheckpointFault)
    → Checkpoints kept disk v1 v2 (Err fault) → v1.failed ≡ v.failed → disk.faults v1.disk ≡ disk.faults v.disk
    → (v1 ≡ v) ⊎ ((v.failed ≡ false) × (v.epoch < begun)) → v1.epoch < 2 ^ 64 - 1 → CannotRise disk epoch v v2 fault
cannot-rise kept disk v v1 v2 epoch begun Failed did same no_fault (inl none) below = (sym same ∙ did.0, did.1 ∙ none)
cannot-rise kept disk v v1 v2 epoch begun Failed did same no_fault (inr rose) below = not_both v (sym same ∙ did.0) rose.0
cannot-rise kept disk v v1 v2 epoch begun EpochsSpent did same no_fault so below = let spent = did.1 in absurd (omega (arith, spent, below))
cannot-rise {D} {S} {A} {R} kept disk v v1 v2 epoch begun DiskFailed did same no_fault so below = (
  sym same ∙ did.0,
  ap (λ (x : StoreValue D S A). x.failed) did.2,
  subst (λ (n : ℕ). Rose n (disk.faults v2.disk)) no_fault did.3,
)

module _ {D E S A : Type 0} (first : Disk D) (second : Disk E) where
  -- why the one that is kept did not rise is why the pair is not settled
  pub second-cannot : (v : StoreValue D S A) (w w' : StoreValue E S A) (epoch : ℕ) (fault : CheckpointFault) → v.failed ≡ true
      → w.failed ≡ false → epoch ≡ v.epoch → CannotRise second epoch w w' fault → CannotSettle first second v w v w' fault
  second-cannot v w w' epoch Failed failed works is why = not_both w why.0 works
  second-cannot v w w' epoch DiskFailed failed works is why = (inl ((failed, works), why.2), (failed, why.1))
  second-cannot v w w' epoch EpochsSpent failed works is why =
      let spent = why.0 in (inl ((failed, works), omega (arith, spent, is)), refl, why.1)

  pub first-cannot : (v v' : StoreValue D S A) (w : StoreValue E S A) (epoch : ℕ) (fault : CheckpointFault) → w.failed ≡ true
      → v.failed ≡ false → epoch ≡ w.epoch → CannotRise first epoch v v' fault → CannotSettle first second v w v' w fault
  first-cannot v v' w epoch Failed failed works is why = not_both v why.0 works
  first-cannot v v' w epoch DiskFailed failed works is why = (inr ((failed, works), why.2), (why.1, failed))
  first-cannot v v' w epoch EpochsSpent failed works is why =
      let spent = why.0 in (inr ((failed, works), omega (arith, spent, is)), why.1, refl)
