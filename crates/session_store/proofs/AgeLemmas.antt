-- How the epochs of images go on from call to call.
use Rattle.std.proofs.Common.{◌≡◌, ◌≤◌, ◌+◌, ℕ, List, Some, None, Result, true, false, inl, inr, refl, sym, ap, subst, ◌∙◌, arith}
use Rattle.std.proofs.lemmas.Bool.{cases_Bool}
use Rattle.sector_disk.specs.Disk.{Image, Disk}
use Rattle.sector_disk.specs.Calls.{Called, Syncs}
use Rattle.sector_disk.specs.Runs.{EveryMoment}
use Rattle.sector_disk.proofs.RunLaws.{begins, weakens, joins, syncs_on}
use Rattle.session_store.specs.Keeping.{Keeping}
use Rattle.session_store.specs.declared.reading.Header.{Header}
use Rattle.session_store.specs.Stands.{header_in}
use Rattle.session_store.specs.Base.{HasEpoch, IsSettled}
use Rattle.session_store.specs.Epochs.{epoch_of, epoch_in, IsOfEpochs}
use Rattle.session_store.specs.Value.{StoreValue}
use Rattle.session_store.specs.Store.{IsSoundStore, Ages}

-- the epoch of an image whose header that counts is of it
pub has_epoch-is : (epoch : ℕ) (image : Image) → HasEpoch epoch image → epoch_in image ≡ epoch
unfolding epoch_of
has_epoch-is epoch image has = ap epoch_of has.1 ∙ has.2

-- by the header that was found
pub none-epoch : (image : Image) → None ≡ header_in image → 0 ≡ epoch_in image
unfolding epoch_of
none-epoch image none = ap epoch_of none

pub some-epoch : (image : Image) (h : Header) → Some h ≡ header_in image → h.epoch ≡ epoch_in image
unfolding epoch_of
some-epoch image h some = ap epoch_of some

module _ {S A R : Type 0} (kept : Keeping S A R) where
  -- the image of a store at work is of its epoch
  pub settled-epoch : (epoch n : ℕ) (base : S) (pending : List A) (image : Image)
      → IsSettled kept epoch base n pending image → HasEpoch epoch image
  settled-epoch epoch n base pending image settled = settled.is_base.header image (λ k below used. refl)

module _ {D S A R : Type 0} (kept : Keeping S A R) (disk : Disk D) where
  -- every image of a store that works is of its epoch
  pub own-epoch : (v : StoreValue D S A) → v.failed ≡ false → IsSoundStore kept disk v
      → (c : Image) → disk.may_leave v.disk c → epoch_in c ≡ v.epoch
  own-epoch v works sound c left = has_epoch-is v.epoch c ((sound.working works).of_epoch c left)

  -- so it is from now on
  pub epochs-begin : (v : StoreValue D S A) (most : ℕ) → v.epoch ≤ most → v.failed ≡ false → IsSoundStore kept disk v
      → EveryMoment disk v.disk v.disk (IsOfEpochs v.epoch most)
  epochs-begin v most within works sound =
      begins disk v.disk (IsOfEpochs v.epoch most) sound.honest
      (λ c left. let is = own-epoch v works sound c left in (omega (arith, is), omega (arith, is, within)))

  -- also over a sync
  pub sync-epochs : {T E : Type 0} (v : StoreValue D S A) (new : D) (result : Result T E)
      → Called disk v.disk new result → (disk.honest v.disk → Syncs disk v.disk new result)
      → v.failed ≡ false → IsSoundStore kept disk v → EveryMoment disk v.disk new (IsOfEpochs v.epoch (v.epoch + 1))
  sync-epochs v new result called did works sound =
      syncs_on disk v.disk v.disk new (IsOfEpochs v.epoch (v.epoch + 1)) result
      (epochs-begin v (v.epoch + 1) (omega arith) works sound) called (did sound.honest)

  -- a call of a store that works
  pub ages-on : (old new : StoreValue D S A) → old.failed ≡ false → old.epoch ≤ new.epoch
      → (old.failed ≡ false → IsSoundStore kept disk old → EveryMoment disk old.disk new.disk (IsOfEpochs old.epoch (new.epoch + 1)))
      → Ages kept disk old new
  ages-on old new works rises moments = record {
    rests = λ failed. let never : false ≡ true = sym works ∙ failed in cc;
    rises = rises;
    any_moment = moments;
  }

  -- before the first call
  pub ages-begin : (old : StoreValue D S A) → Ages kept disk old old
  ages-begin old = record {
    rests = λ failed. refl;
    rises = omega arith;
    any_moment = epochs-begin old (old.epoch + 1) (omega arith);
  }

  -- calls, and then others
  pub ages-join : (old mid new : StoreValue D S A) → (IsSoundStore kept disk old → IsSoundStore kept disk mid)
      → Ages kept disk old mid → Ages kept disk mid new → Ages kept disk old new
  ages-join old mid new keeps a b = record {
    rests = λ failed. let same = a.rests failed in b.rests (ap (λ (v : StoreValue D S A). v.failed) same ∙ failed) ∙ same;
    rises = omega (arith, a.rises, b.rises);
    any_moment = λ works sound. elim (cases_Bool mid.failed) [
      | inl failed ↦
          subst (λ (v : StoreValue D S A). EveryMoment disk old.disk v.disk (IsOfEpochs old.epoch (v.epoch + 1)))
          (sym (b.rests failed)) (a.any_moment works sound)
      | inr still ↦
          let P = IsOfEpochs old.epoch (new.epoch + 1) in
          joins disk old.disk mid.disk new.disk P
          (weakens disk old.disk mid.disk (IsOfEpochs old.epoch (mid.epoch + 1)) (a.any_moment works sound) P
          (λ c of. let most = of.1 in (of.0, omega (arith, most, b.rises))))
          (weakens disk mid.disk new.disk (IsOfEpochs mid.epoch (new.epoch + 1)) (b.any_moment still (keeps sound)) P
          (λ c of. let least = of.0 in (omega (arith, least, a.rises), of.1)))
    ];
  }
