-- Why a disk gives no session.
use Rattle.std.proofs.Common.{◌≡◌, ◌∙◌, ◌⊎◌, ◌<◌, ◌≤◌, Option, Result, Ok, Err, inl, inr, sym, ap}
use Rattle.std.proofs.lemmas.Bool.{cases_lt}
use Rattle.sector_disk.specs.Disk.{Disk, Image}
use Rattle.sector_disk.specs.Runs.{Quiet}
use Rattle.session_store.specs.declared.fault.StoreFault.{StoreFault}
use Rattle.session_store.specs.declared.fault.StoreFault.TheVariants.{TooSmall}
use Rattle.session_store.specs.declared.reading.Header.{Header}
use Rattle.session_store.specs.Looking.{IsUnseen}
use Rattle.session_store.specs.Opening.{Refuses}
use Rattle.bridge_session.specs.SessionKeeping.{session_keeping}
use Rattle.club_disk.specs.Stored.{RefusesDisk, RefusesReading}

-- the fault of an opening that is that of a disk with too few sectors
pub is_too_small : {A D : Type 0} (result : Result A (D × StoreFault)) (d left : D) (fault : StoreFault)
    → result ≡ Err (left, fault) → result ≡ Err (d, TooSmall) → fault ≡ TooSmall
is_too_small {D = D} result d left fault is small =
    let both = sym is ∙ small in
    let pairs : (left, fault) ≡ (d, TooSmall) = cc in
    ap (λ (p : D × StoreFault). p.1) pairs

-- and the disk is handed back as it was
pub is_same_disk : {A D : Type 0} (result : Result A (D × StoreFault)) (d left : D) (fault : StoreFault)
    → result ≡ Err (left, fault) → result ≡ Err (d, TooSmall) → left ≡ d
is_same_disk {D = D} result d left fault is small =
    let both = sym is ∙ small in
    let pairs : (left, fault) ≡ (d, TooSmall) = cc in
    ap (λ (p : D × StoreFault). p.0) pairs

-- why a disk gives no session
pub refuses_disk : {D : Type 0} (disk : Disk D) (d left : D) (fault : StoreFault)
    → (disk.count d < 2048 → (left ≡ d) × (fault ≡ TooSmall))
    → (2048 ≤ disk.count d → Refuses session_keeping disk d left fault) → RefusesDisk disk d left fault
refuses_disk disk d left fault small refuses = at (cases_lt (disk.count d) 2048)
  where
    at : (disk.count d < 2048) ⊎ (2048 ≤ disk.count d) → RefusesDisk disk d left fault
    at (inl few) = inl (few, (small few).0, (small few).1)
    at (inr many) = inr (many, refuses many)

-- why reading a disk gave nothing
pub refuses_reading : {D X : Type 0} (disk : Disk D) (header : Image → Option Header) (d left : D) (result : Result X StoreFault) (fault : StoreFault)
    → result ≡ Err fault → Quiet disk d left → (disk.count d < 2048 → (result ≡ Err TooSmall) × (left ≡ d))
    → (2048 ≤ disk.count d → IsUnseen session_keeping disk header d left fault) → RefusesReading disk header d left fault
refuses_reading {X = X} disk header d left result fault is quiet small unseen = at (cases_lt (disk.count d) 2048)
  where
    named : result ≡ Err TooSmall → fault ≡ TooSmall
    named too_small = ap (λ (r : Result X StoreFault). elim r [ Ok _ ↦ fault | Err e ↦ e ]) (sym is ∙ too_small)

    at : (disk.count d < 2048) ⊎ (2048 ≤ disk.count d) → RefusesReading disk header d left fault
    at (inl few) = inl (few, (small few).1, named (small few).0)
    at (inr many) = inr (many, quiet, unseen many)
