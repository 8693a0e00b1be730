-- How a run of calls begins, and goes on by one call more or by another run.
use Rattle.std.proofs.Common.{◌≡◌, ◌⊎◌, ℕ, List, Result, inl, inr, ⊎_elim, arith, refl, ◌∙◌}
use Rattle.sector_disk.specs.Disk.{Image, with_sector, Disk}
use Rattle.sector_disk.specs.Calls.{Called, Reads, Writes, Syncs}
use Rattle.sector_disk.specs.Runs.{EveryMoment, OnlyRead, Remains, Quiet}
use Rattle.sector_disk.proofs.ImageLaws.{image_is, same_has}
use Rattle.sector_disk.proofs.CallLaws.{write_leaves, sync_leaves, sync_reads}

-- before the first call
pub begins : {D : Type 0} (disk : Disk D) (old : D) (P : Image → Type 0) → disk.honest old
    → ((c : Image) → disk.may_leave old c → P c) → EveryMoment disk old old P
begins disk old P honest here = record {
  honest = honest;
  later = omega arith;
  each = λ c left. here c (disk.only_now old c honest left);
  before = λ t c le left. inl left;
  keeps = λ t c le left. left;
}

module _ {D : Type 0} (disk : Disk D) (old new : D) (P : Image → Type 0) (run : EveryMoment disk old new P) where
  -- what a power cut may leave now has P
  pub now_has : (c : Image) → disk.may_leave new c → P c
  now_has c left = run.each c (disk.counts_now new (disk.moment old) c run.honest run.later left)

  -- what has P has Q
  pub weakens : (Q : Image → Type 0) → ((c : Image) → P c → Q c) → EveryMoment disk old new Q
  weakens Q so = record {
    honest = run.honest;
    later = run.later;
    each = λ c left. so c (run.each c left);
    before = λ t c le left. ⊎_elim (λ was. inl was) (λ has. inr (so c has)) (run.before t c le left);
    keeps = run.keeps;
  }

-- one call more
module _ {D T E : Type 0} (disk : Disk D) (old mid new : D) (P : Image → Type 0) (result : Result T E)
    (so_far : EveryMoment disk old mid P) (called : Called disk mid new result) where
  -- any, after which a power cut leaves what has P
  pub goes_on : ((c : Image) → disk.may_leave new c → P c) → EveryMoment disk old new P
  goes_on here = let time = called.time so_far.honest in record {
    honest = called.stays_honest so_far.honest;
    later = omega (arith, so_far.later, time.later);
    each = λ c left. ⊎_elim (so_far.each c) (here c) (time.nothing_else (disk.moment old) c so_far.later left);
    before = λ t c le left.
        ⊎_elim (so_far.before t c le) (λ now. inr (here c now)) (time.nothing_else t c (omega (arith, le, so_far.later)) left);
    keeps = λ t c le left. time.keeps t c (omega (arith, le, so_far.later)) (so_far.keeps t c le left);
  }

  -- a read
  pub reads_on : (i : ℕ) (bytes : List ℕ) → Reads disk mid new i bytes result → EveryMoment disk old new P
  reads_on i bytes did = goes_on (λ c left. now_has disk old mid P so_far c (did.untouched.images c left))

  -- a write that keeps P in each image
  pub writes_on : (i : ℕ) (bytes : List ℕ) → Writes disk mid new i bytes result
      → ((c : Image) → disk.may_leave mid c → P c → P (with_sector c i bytes)) → EveryMoment disk old new P
  writes_on i bytes did keeps_it = let has = now_has disk old mid P so_far in goes_on (λ c left.
      ⊎_elim (has c) (λ d. same_has P c (with_sector d.0 i bytes) d.2 (keeps_it d.0 d.1 (has d.0 d.1)))
      (write_leaves disk mid new i bytes result did c left))

  -- a sync
  pub syncs_on : Syncs disk mid new result → EveryMoment disk old new P
  syncs_on did = goes_on (λ c left. now_has disk old mid P so_far c (sync_leaves disk mid new so_far.honest result did c left))

-- two runs, one after the other
pub joins : {D : Type 0} (disk : Disk D) (old mid new : D) (P : Image → Type 0)
    → EveryMoment disk old mid P → EveryMoment disk mid new P → EveryMoment disk old new P
joins disk old mid new P first second = record {
  honest = second.honest;
  later = omega (arith, first.later, second.later);
  each = λ c left. ⊎_elim (first.each c) (λ has. has) (second.before (disk.moment old) c first.later left);
  before = λ t c le left.
      ⊎_elim (first.before t c le) (λ has. inr has) (second.before t c (omega (arith, le, first.later)) left);
  keeps = λ t c le left. second.keeps t c (omega (arith, le, first.later)) (first.keeps t c le left);
}

module _ {D : Type 0} (disk : Disk D) where
  -- before the first read
  pub none_read : (old : D) → disk.honest old → OnlyRead disk old old
  none_read old honest = record {
    reads = λ k i. disk.reads old k;
    moments = begins disk old (disk.may_leave old) honest (λ c left. left);
  }

  -- nothing else may be left than before
  pub only_read_leaves : (old new : D) → OnlyRead disk old new → (c : Image) → disk.may_leave new c → disk.may_leave old c
  only_read_leaves old new run = now_has disk old new (disk.may_leave old) run.moments

  -- a run goes on over reads
  pub only_reads_on : (old mid new : D) (P : Image → Type 0)
      → EveryMoment disk old mid P → OnlyRead disk mid new → EveryMoment disk old new P
  only_reads_on old mid new P so_far run =
      joins disk old mid new P so_far
      (weakens disk mid new (disk.may_leave mid) run.moments P (now_has disk old mid P so_far))

  -- a sync among the reads
  pub one_sync : {T E : Type 0} (old mid new : D) (result : Result T E)
      → OnlyRead disk old mid → Called disk mid new result → Syncs disk mid new result → OnlyRead disk old new
  one_sync old mid new result so_far called did = record {
    reads = λ k. sync_reads disk mid new result did k ∙ so_far.reads k;
    moments = syncs_on disk old mid new (disk.may_leave old) result so_far.moments called did;
  }

  -- two such runs, one after the other
  pub only_read_joins : (old mid new : D) → OnlyRead disk old mid → OnlyRead disk mid new → OnlyRead disk old new
  only_read_joins old mid new first second = record {
    reads = λ k. second.reads k ∙ first.reads k;
    moments = only_reads_on old mid new (disk.may_leave old) first.moments second;
  }

module _ {D : Type 0} (disk : Disk D) where
  -- before the first call
  pub remains : (old : D) → Remains disk old old
  remains old = record { stays_honest = λ honest. honest; was_honest = λ honest. honest; count = refl }

  -- after one call more
  pub remains_on : {T E : Type 0} (old mid new : D) (result : Result T E)
      → Remains disk old mid → Called disk mid new result → Remains disk old new
  remains_on old mid new result so_far called = record {
    stays_honest = λ honest. called.stays_honest (so_far.stays_honest honest);
    was_honest = λ honest. so_far.was_honest (called.was_honest honest);
    count = called.count ∙ so_far.count;
  }

  -- two runs, one after the other
  pub remains_joins : (old mid new : D) → Remains disk old mid → Remains disk mid new → Remains disk old new
  remains_joins old mid new first second = record {
    stays_honest = λ honest. second.stays_honest (first.stays_honest honest);
    was_honest = λ honest. first.was_honest (second.was_honest honest);
    count = second.count ∙ first.count;
  }

  -- before the first read or sync
  pub quiet : (old : D) → Quiet disk old old
  quiet old = record { remains = remains old; only_read = none_read disk old }

  -- one sync more
  pub quiet_sync : {T E : Type 0} (old mid new : D) (result : Result T E) → Quiet disk old mid
      → Called disk mid new result → (disk.honest mid → Syncs disk mid new result) → Quiet disk old new
  quiet_sync old mid new result so_far called did = record {
    remains = remains_on old mid new result so_far.remains called;
    only_read = λ honest.
        one_sync disk old mid new result (so_far.only_read honest) called (did (so_far.remains.stays_honest honest));
  }

  -- two runs of reads and syncs, one after the other
  pub quiet_joins : (old mid new : D) → Quiet disk old mid → Quiet disk mid new → Quiet disk old new
  quiet_joins old mid new first second = record {
    remains = remains_joins old mid new first.remains second.remains;
    only_read = λ honest.
        only_read_joins disk old mid new (first.only_read honest) (second.only_read (first.remains.stays_honest honest));
  }

-- what a write may leave is what might be left before, or such an image with the sector
pub write_is : {D T E : Type 0} (disk : Disk D) (old new : D) (i : ℕ) (bytes : List ℕ) (result : Result T E)
    → Writes disk old new i bytes result → (c : Image) → disk.may_leave new c
    → disk.may_leave old c ⊎ ((d : Image) × disk.may_leave old d × (c ≡ with_sector d i bytes))
write_is disk old new i bytes result did c left =
    ⊎_elim (λ was. inl was) (λ d. inr (d.0, d.1, image_is c (with_sector d.0 i bytes) d.2))
    (write_leaves disk old new i bytes result did c left)
