-- Images that stand for the same whatever becomes of the sectors that are not in use.
use Rattle.std.proofs.Common.{◌≡◌, ◌≢◌, ◌⊎◌, ◌<◌, ◌≤◌, ◌+◌, ◌-◌, ◌^◌, ℕ, suc, List, [], ◌∷◌, ◌++◌, length, take, Some, Ok, inl, inr, refl, sym, ap, subst, ◌∙◌, arith}
use Rattle.std.proofs.lemmas.Bool.{cases_eq}
use Rattle.sector_disk.specs.Disk.{Image, with_sector}
use Rattle.sector_disk.proofs.ImageLaws.{with_sector-same, with_sector-other}
use Rattle.session_store.specs.Keeping.{Keeping, IsLawful, fold}
use Rattle.session_store.specs.Form.{entry_in, record_sector, place}
use Rattle.session_store.specs.declared.disk_format.DiskFormat.TheVariants.{Two}
use Rattle.session_store.specs.declared.reading.Header.{Header}
use Rattle.session_store.specs.declared.reading.Entry.TheVariants.{Holds}
use Rattle.session_store.specs.Stands.{replay, NoneLater, IsLater}
use Rattle.session_store.specs.Base.{IsSpare, Agrees, IsBase, MayHold, HoldsAll, IsSettled, StandsForPrefix}
use Rattle.session_store.specs.Snapshot.{SameButParts}
use Rattle.session_store.proofs.FormLemmas.{places, entry_in-record, record_not_later}
use Rattle.session_store.proofs.StandsLemmas.{replay-missing, replay-holds, fold-cons, fold-nil, fold-step}

-- spare sectors lie below the journal
pub spare_below : (epoch k : ℕ) → IsSpare epoch k → k < 1024
spare_below epoch k spare = let at = places epoch in omega (arith, spare.1, at.3)

-- and are neither a header nor a part in use
pub not_spare-header : (epoch k : ℕ) → (k ≡ 0) ⊎ (k ≡ 512) → IsSpare epoch k → ⊥
not_spare-header epoch k is spare = let at = places epoch in omega (arith, is, spare.0, spare.1, at.1, at.3)

pub not_spare-part : (epoch i : ℕ) → i ≤ 494 → IsSpare epoch (place epoch + 1 + i) → ⊥
not_spare-part epoch i few spare = let at = places epoch in omega (arith, few, spare.0, spare.1, at.1, at.2, at.3)

module _ {S A R : Type 0} (kept : Keeping S A R) where
  -- a base is one in every image that agrees
  pub base-same : (epoch n : ℕ) (base : S) (a b : Image) → IsBase kept epoch base n a → Agrees epoch n a b
      → IsBase kept epoch base n b
  base-same epoch n base a b is_base same = record {
    header = λ other agrees. is_base.header other (λ k below used. agrees k below used ∙ same k below used);
    stands = λ other agrees. is_base.stands other (λ k below used. agrees k below used ∙ same k below used);
  }

  agrees_itself : (epoch n : ℕ) (image : Image) → Agrees epoch n image image
  agrees_itself epoch n image = λ k below used. refl

  -- a record more in the base
  pub base-steps : (epoch n : ℕ) (base next : S) (a : A) (image : Image) → IsBase kept epoch base n image → n < 1024
      → entry_in kept Two epoch n (image (1024 + n)) ≡ Holds a → kept.step base a ≡ Ok next
      → IsBase kept epoch next (n + 1) image
  base-steps epoch n base next a image is_base within holds accepted = record {
    header = λ other agrees. is_base.header other (λ k below used. agrees k (omega arith) used);
    stands = λ other agrees.
        let here : other (1024 + n) ≡ image (1024 + n)
        = agrees (1024 + n) (omega arith) (λ spare. omega (arith, spare_below epoch (1024 + n) spare)) in
        let there : entry_in kept Two epoch n (other (1024 + n)) ≡ Holds a = rw here holds in
        let left : 1024 - n ≡ suc (1024 - (n + 1)) = omega arith in
        is_base.stands other (λ k below used. agrees k (omega arith) used)
        ∙ ap (λ (m : ℕ). replay kept Two m other epoch n base) left
        ∙ replay-holds kept Two other (1024 - (n + 1)) epoch n base next a there accepted;
  }

  -- all the records that are there
  pub base-holds : (pending : List A) (epoch n m : ℕ) (base end : S) (image : Image) → IsBase kept epoch base n image
      → m ≡ n + length pending → m ≤ 1024 → HoldsAll kept epoch n pending image → fold kept base pending ≡ Some end
      → IsBase kept epoch end m image
  unfolding HoldsAll fold
  base-holds [] epoch n m base end image is_base is_m within holds made =
      let same : base ≡ end = cc in
      let here : m ≡ n = omega (arith, is_m) in
      subst (λ (s : S). IsBase kept epoch s m image) same
      (subst (λ (k : ℕ). IsBase kept epoch base k image) (sym here) is_base)
  base-holds (a ∷ pending) epoch n m base end image is_base is_m within holds made =
      let first = fold-cons kept base a pending end made in
      base-holds pending epoch (n + 1) m first.0 end image
      (base-steps epoch n base first.0 a image is_base (omega (arith, is_m)) holds.0 first.1)
      (omega (arith, is_m)) within holds.1 first.2

  -- images with the same journal may hold the same
  pub may_hold-same : (pending : List A) (epoch n : ℕ) (a b : Image) → ((k : ℕ) → 1024 ≤ k → b k ≡ a k)
      → MayHold kept epoch n pending a → MayHold kept epoch n pending b
  unfolding MayHold
  may_hold-same [] epoch n a b same may = λ j above below. rw (same (1024 + j) (omega arith)) (may j above below)
  may_hold-same (x ∷ pending) epoch n a b same may =
      (rw (same (1024 + n) (omega arith)) may.0, may_hold-same pending epoch (n + 1) a b same may.1)

  -- one action more may be there, whether it is or not
  pub may_hold-more : (pending : List A) (epoch n : ℕ) (x : A) (image : Image) → n + length pending < 1024
      → MayHold kept epoch n pending image → MayHold kept epoch n (pending ++ x ∷ []) image
  unfolding MayHold
  may_hold-more [] epoch n x image room may =
      (inr (may n (omega arith) (omega arith)), λ j above below. may j (omega arith) below)
  may_hold-more (y ∷ pending) epoch n x image room may =
      (may.0, may_hold-more pending epoch (n + 1) x image (omega arith) may.1)

  pub may_hold-written : (pending : List A) (epoch n : ℕ) (x : A) (image : Image) (bytes : List ℕ) (at : ℕ)
      → at ≡ 1024 + (n + length pending) → n + length pending < 1024
      → entry_in kept Two epoch (n + length pending) bytes ≡ Holds x
      → MayHold kept epoch n pending image → MayHold kept epoch n (pending ++ x ∷ []) (with_sector image at bytes)
  unfolding MayHold
  may_hold-written [] epoch n x image bytes at is_at room holds may =
      let here : 1024 + n ≡ at = omega (arith, is_at) in
      let number : n + 0 ≡ n = omega arith in (
        inl (rw here (rw (with_sector-same image at bytes) (subst (λ (k : ℕ). entry_in kept Two epoch k bytes ≡ Holds x) number holds))),
        λ j above below.
            let other : 1024 + j ≢ at = omega arith in
            rw (with_sector-other image at bytes (1024 + j) other) (may j (omega arith) below),
      )
  may_hold-written (y ∷ pending) epoch n x image bytes at is_at room holds may =
      let other : 1024 + n ≢ at = omega arith in
      let number : n + suc (length pending) ≡ n + 1 + length pending = omega arith in (
        rw (with_sector-other image at bytes (1024 + n) other) may.0,
        may_hold-written pending epoch (n + 1) x image bytes at (omega arith) (omega arith)
            (subst (λ (k : ℕ). entry_in kept Two epoch k bytes ≡ Holds x) number holds) may.1,
      )

  -- behind the pending actions there is no record
  pub may_hold-end : (pending : List A) (epoch n m : ℕ) (image : Image) → m ≡ n + length pending
      → MayHold kept epoch n pending image → MayHold kept epoch m [] image
  unfolding MayHold
  may_hold-end [] epoch n m image is_m may = λ j above below. may j (omega arith) below
  may_hold-end (y ∷ pending) epoch n m image is_m may =
      may_hold-end pending epoch (n + 1) m image (omega arith) may.1

  -- the records that follow a base make of it the base with a prefix of them
  pub replay-prefix : (pending : List A) (epoch n left : ℕ) (base end : S) (image : Image)
      → left ≡ 1024 - n → n + length pending ≤ 1024 → MayHold kept epoch n pending image → fold kept base pending ≡ Some end
      → (count : ℕ) × (count ≤ length pending) × (s : S) × (fold kept base (take count pending) ≡ Some s)
      × (replay kept Two left image epoch n base ≡ Ok s)
  unfolding MayHold
  replay-prefix [] epoch n left base end image is_left within may made = (
    0,
    omega arith,
    base,
    fold-nil kept base,
    replay-missing kept Two image left epoch n base (λ some. may n (omega arith) (omega arith)),
  )
  replay-prefix (a ∷ pending) epoch n left base end image is_left within may made =
      elim may.0 [
        | inr missing ↦
            (0, omega arith, base, fold-nil kept base, replay-missing kept Two image left epoch n base (λ some. missing))
        | inl holds ↦
            let first = fold-cons kept base a pending end made in
            let rest = replay-prefix pending epoch (n + 1) (1024 - (n + 1)) first.0 end image refl (omega arith) may.1 first.2 in
            let more : left ≡ suc (1024 - (n + 1)) = omega arith in (
              suc rest.0,
              omega (arith, rest.1),
              rest.2,
              fold-step kept base first.0 a (take rest.0 pending) first.1 ∙ rest.3,
              ap (λ (m : ℕ). replay kept Two m image epoch n base) more
                  ∙ replay-holds kept Two image (1024 - (n + 1)) epoch n base first.0 a holds first.1 ∙ rest.4,
            )
      ]

  -- the image of a store at work stands for its base with a prefix of the pending actions, and is in order
  pub settled-stands : (epoch n : ℕ) (base end : S) (pending : List A) (image : Image) → n + length pending ≤ 1024
      → fold kept base pending ≡ Some end → IsSettled kept epoch base n pending image
      → StandsForPrefix kept base pending image
  settled-stands epoch n base end pending image within made settled =
      let prefix = replay-prefix pending epoch n (1024 - n) base end image refl within settled.journal made in
      let own = settled.is_base.header image (agrees_itself epoch n image) in
      record {
        count = prefix.0;
        few = prefix.1;
        state = prefix.2;
        made = prefix.3;
        stands = settled.is_base.stands image (agrees_itself epoch n image) ∙ prefix.4;
        in_order = λ h has.
            let same : h ≡ own.0 = cc in
            let epochs : epoch ≡ h.epoch = sym own.2 ∙ ap (λ (x : Header). x.epoch) (sym same) in
            subst (λ (e : ℕ). NoneLater e image) epochs settled.in_order;
      }

  -- it is one also after a change of spare sectors
  pub settled-same : (epoch n : ℕ) (base : S) (pending : List A) (a b : Image) → SameButParts (epoch + 1) a b
      → IsSettled kept epoch base n pending a → IsSettled kept epoch base n pending b
  settled-same epoch n base pending a b same settled =
      let journal = λ (k : ℕ) (above : 1024 ≤ k). same k (λ spare. omega (arith, spare_below epoch k spare)) in
      record {
        is_base = base-same epoch n base a b settled.is_base (λ k below used. same k used);
        journal = may_hold-same pending epoch n a b journal settled.journal;
        in_order = λ k above below. rw (journal k above) (settled.in_order k above below);
      }

  -- with one action more, whether its record is there
  pub settled-more : (epoch n : ℕ) (base : S) (pending : List A) (x : A) (image : Image) → n + length pending < 1024
      → IsSettled kept epoch base n pending image → IsSettled kept epoch base n (pending ++ x ∷ []) image
  settled-more epoch n base pending x image room settled = record {
    is_base = settled.is_base;
    journal = may_hold-more pending epoch n x image room settled.journal;
    in_order = settled.in_order;
  }

  -- or was written
  pub settled-written : IsLawful kept → (epoch n number : ℕ) (base : S) (pending : List A) (x : A) (image : Image)
      → number ≡ n + length pending → number < 1024 → epoch < 2 ^ 64 → kept.IsAction x
      → IsSettled kept epoch base n pending image
      → IsSettled kept epoch base n (pending ++ x ∷ []) (with_sector image (1024 + number) (record_sector kept epoch number x))
  settled-written lawful epoch n number base pending x image is_number room small is_action settled =
      let bytes = record_sector kept epoch number x in
      let at = 1024 + number in
      let holds = subst (λ (k : ℕ). entry_in kept Two epoch k bytes ≡ Holds x) is_number (entry_in-record kept lawful epoch number x is_action) in
      record {
        is_base = base-same epoch n base image (with_sector image at bytes) settled.is_base
            (λ k below used. let other : k ≢ at = omega arith in with_sector-other image at bytes k other);
        journal = may_hold-written pending epoch n x image bytes at (omega arith) (omega arith) holds settled.journal;
        in_order = λ k above below. elim (cases_eq k at) [
          | inl here ↦ λ later. record_not_later kept epoch number x small
              (subst (λ (b : List ℕ). IsLater epoch b) (ap (with_sector image at bytes) here ∙ with_sector-same image at bytes) later)
          | inr other ↦ λ later. settled.in_order k above below
              (subst (λ (b : List ℕ). IsLater epoch b) (with_sector-other image at bytes k other) later)
        ];
      }

  -- once its pending actions are all there, they are in the base
  pub settled-confirmed : (epoch n m : ℕ) (base end : S) (pending : List A) (image : Image) → m ≡ n + length pending → m ≤ 1024
      → HoldsAll kept epoch n pending image → fold kept base pending ≡ Some end
      → IsSettled kept epoch base n pending image → IsSettled kept epoch end m [] image
  settled-confirmed epoch n m base end pending image is_m within holds made settled = record {
    is_base = base-holds pending epoch n m base end image settled.is_base is_m within holds made;
    journal = may_hold-end pending epoch n m image is_m settled.journal;
    in_order = settled.in_order;
  }
