-- A call of a disk in memory, whole.
use Rattle.std.proofs.Common.{◌≡◌, inr, ℕ, List, length, Result, Ok, Err, sym, ap, subst}
use Rattle.sector_disk.specs.Disk.{one_more}
use Rattle.sector_disk.specs.Calls.{Called, Elapses, IsWritten, IsSynced, Writes, Syncs}
use Rattle.sector_disk.specs.Memory.{memory_disk}
use Rattle.sector_disk.specs.declared.memory.MemoryDisk.{MemoryDisk}
use Rattle.sector_disk.proofs.Events.{same_elapses}
use Rattle.sector_disk.proofs.Images.{is_untouched}

module _ {T E : Type 0} (m n : MemoryDisk) where
  -- any call that answers Ok
  pub called_ok : (v : T) → length n.sectors.items ≡ length m.sectors.items → n.faults ≡ m.faults → Elapses memory_disk m n → Called {T = T} {E = E} memory_disk m n (Ok v)
  called_ok v count faults time = record {
    stays_honest = λ honest. honest;
    was_honest = λ honest. honest;
    count = count;
    faults_ok = faults;
    faults_err = tt;
    time = λ honest. time;
  }

  -- any call that fails: it leaves sectors and events as they were
  pub called_err : (result : Result T E) (e : E) → result ≡ Err e → n.sectors.items ≡ m.sectors.items → n.events.items ≡ m.events.items → n.faults ≡ one_more m.faults → Called memory_disk m n result
  called_err result e is sectors events faults = subst (Called memory_disk m n) (sym is) (record {
    stays_honest = λ honest. honest;
    was_honest = λ honest. honest;
    count = ap length sectors;
    faults_ok = tt;
    faults_err = faults;
    time = λ honest. same_elapses m n events sectors;
  })

  -- a write that answers Ok
  pub writes_ok : (i : ℕ) (bytes : List ℕ) (v : T) → IsWritten memory_disk m n i bytes → Writes {T = T} {E = E} memory_disk m n i bytes (Ok v)
  writes_ok i bytes v written = record { ok = written; err = tt }

  -- a write that fails: it leaves the sectors as they were
  pub writes_err : (i : ℕ) (bytes : List ℕ) (result : Result T E) (e : E) → result ≡ Err e → n.sectors.items ≡ m.sectors.items → Writes memory_disk m n i bytes result
  writes_err i bytes result e is sectors = subst (Writes memory_disk m n i bytes) (sym is) (record { ok = tt; err = inr (is_untouched m n sectors) })

  -- a sync that answers Ok
  pub syncs_ok : (v : T) → IsSynced memory_disk m n → Syncs {T = T} {E = E} memory_disk m n (Ok v)
  syncs_ok v synced = record { ok = synced; err = tt }

  -- a sync that fails: it leaves the sectors as they were
  pub syncs_err : (result : Result T E) (e : E) → result ≡ Err e → n.sectors.items ≡ m.sectors.items → Syncs memory_disk m n result
  syncs_err result e is sectors = subst (Syncs memory_disk m n) (sym is) (record { ok = tt; err = inr (is_untouched m n sectors) })
