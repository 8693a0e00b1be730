-- What reads give and a power cut may leave after a write, a sync and a power cut.
use Rattle.std.proofs.Common.{◌≡◌, ◌≢◌, inl, inr, ℕ, zero, suc, ◌<◌, ◌%◌, List, [], ◌∷◌, ◌++◌, length, refl, sym, ◌∙◌, ap, subst, arith}
use Rattle.std.specs.Prelude.{replicate}
use Rattle.std.specs.List.{Contains}
use Rattle.std.proofs.lemmas.Bool.{cases_eq, cases_lt}
use Rattle.std.proofs.lemmas.Bool.Decides.{nat_tests}
use Rattle.std.proofs.lemmas.List.Elements.{Contains-push_cases, Contains-get_or}
use Rattle.std.proofs.lemmas.List.{length_push, length-replicate, get_or-replicate, get_or_past}
use Rattle.sector_disk.specs.Disk.{Image, IsSame, with_sector}
use Rattle.sector_disk.proofs.ImageLaws.{with_sector-same, with_sector-other}
use Rattle.sector_disk.specs.Calls.{IsDiskUntouched, IsWritten, IsSynced, WithOrWithout}
use Rattle.sector_disk.specs.Held.{SectorValue, newest, picked, restarted, written, settled, cut_to, blank, possible, sector_at, after, IsImage}
use Rattle.sector_disk.specs.Memory.{held, memory_disk}
use Rattle.sector_disk.specs.declared.memory.MemoryDisk.{MemoryDisk}
use Rattle.sector_disk.specs.declared.memory.events.Event.{Event}
use Rattle.sector_disk.specs.declared.memory.events.Event.TheVariants.{Write, Sync}
use Rattle.sector_disk.proofs.Last.{last_of-push}

-- the one value of a list of one
pub only_value : (v x : List ℕ) → Contains (v ∷ []) x → x ≡ v
only_value v x (zero, within, is) = sym is
only_value v x (suc k, within, is) = absurd (omega arith)

-- a write of a sector changes that sector
after-write_same : (i : ℕ) (h : SectorValue) (bytes : List ℕ) → after i h (Write i bytes) ≡ written bytes h
after-write_same i h bytes = grind (arith, nat_tests)

-- and no other
after-write_other : (i k : ℕ) (h : SectorValue) (bytes : List ℕ) → k ≢ i → after k h (Write i bytes) ≡ h
after-write_other i k h bytes other = grind (arith, nat_tests)

-- sectors of which sector i was written
module _ (old new : ℕ → SectorValue) (i : ℕ) (bytes : List ℕ) (wrote : (k : ℕ) → new k ≡ after k (old k) (Write i bytes)) where
  -- sector i holds the new value too
  here : new i ≡ written bytes (old i)
  here = wrote i ∙ after-write_same i (old i) bytes

  -- the others hold what they held
  elsewhere : (k : ℕ) → k ≢ i → new k ≡ old k
  elsewhere k other = wrote k ∙ after-write_other i k (old k) bytes other

  -- reads give the new bytes in sector i
  pub write_reads : IsSame (λ k. newest (new k)) (with_sector (λ k. newest (old k)) i bytes)
  write_reads k = elim (cases_eq k i) [
    | inl same ↦ subst (λ (j : ℕ). newest (new j) ≡ with_sector (λ k. newest (old k)) i bytes j) (sym same) (ap newest here ∙ last_of-push (old i).synced bytes (old i).since ∙ sym (with_sector-same (λ k. newest (old k)) i bytes))
    | inr other ↦ ap newest (elsewhere k other) ∙ sym (with_sector-other (λ k. newest (old k)) i bytes k other)
  ]

  -- a power cut may leave what it might have left before, also with the new bytes in sector i
  pub write_images : (c : Image) → IsImage new c → WithOrWithout (IsImage old) i bytes c
  write_images c image = elim (Contains-push_cases (possible (old i)) bytes (c i) (subst (λ (h : SectorValue). Contains (possible h) (c i)) here (image i))) [
    | inl was ↦ inl (λ k. elim (cases_eq k i) [
      | inl same ↦ subst (λ (j : ℕ). Contains (possible (old j)) (c j)) (sym same) was
      | inr other ↦ subst (λ (h : SectorValue). Contains (possible h) (c k)) (elsewhere k other) (image k)
    ])
    | inr is ↦ inr (with_sector c i (old i).synced, before, with_new is)
  ]
    where
      -- with the synced value in sector i the image was possible before
      before : IsImage old (with_sector c i (old i).synced)
      before k = elim (cases_eq k i) [
        | inl same ↦ subst (λ (j : ℕ). Contains (possible (old j)) (with_sector c i (old i).synced j)) (sym same) (0, omega arith, sym (with_sector-same c i (old i).synced))
        | inr other ↦ subst (λ (v : List ℕ). Contains (possible (old k)) v) (sym (with_sector-other c i (old i).synced k other)) (subst (λ (h : SectorValue). Contains (possible h) (c k)) (elsewhere k other) (image k))
      ]

      -- and with the new bytes in it, that image is this one
      with_new : bytes ≡ c i → IsSame c (with_sector (with_sector c i (old i).synced) i bytes)
      with_new is k = elim (cases_eq k i) [
        | inl same ↦ subst (λ (j : ℕ). c j ≡ with_sector (with_sector c i (old i).synced) i bytes j) (sym same) (sym is ∙ sym (with_sector-same (with_sector c i (old i).synced) i bytes))
        | inr other ↦ sym (with_sector-other (with_sector c i (old i).synced) i bytes k other ∙ with_sector-other c i (old i).synced k other)
      ]

-- where each sector has one value, a power cut leaves what reads give
pub only_newest : (sectors : ℕ → SectorValue) → ((k : ℕ) → (sectors k).since ≡ []) → (c : Image) → IsImage sectors c → IsSame c (λ k. newest (sectors k))
only_newest sectors settled c image k =
    subst (λ (ws : List (List ℕ)). Contains ((sectors k).synced ∷ ws) (c k) → c k ≡ newest (record { first = (sectors k).first; synced = (sectors k).synced; since = ws })) (sym (settled k)) (only_value (sectors k).synced (c k)) (image k)

-- sectors that all began alike
pub all_cut : (n : ℕ) (v : List ℕ) (sectors : List SectorValue) → sectors ≡ replicate n (cut_to v) → (k : ℕ) → restarted (sector_at sectors k) ≡ sector_at sectors k
all_cut n v sectors is k = subst (λ (s : List SectorValue). restarted (sector_at s k) ≡ sector_at s k) (sym is) (elim (cases_lt k n) [
  | inl within ↦ subst (λ (h : SectorValue). restarted h ≡ h) (sym (get_or-replicate n k (cut_to v) blank within)) refl
  | inr past ↦ subst (λ (h : SectorValue). restarted h ≡ h) (sym (get_or_past (replicate n (cut_to v)) k blank (omega (arith, length-replicate n (cut_to v))))) refl
])

-- sectors that lost power
module _ (old new : List SectorValue) (picks : ℕ → ℕ) (count : length new ≡ length old) (cut : (k : ℕ) → k < length old → sector_at new k ≡ cut_to (picked (sector_at old k) (picks k))) where
  -- no sector was written since
  pub cut_since : (k : ℕ) → (sector_at new k).since ≡ []
  cut_since k = elim (cases_lt k (length old)) [
    | inl within ↦ ap (λ (h : SectorValue). h.since) (cut k within)
    | inr past ↦ ap (λ (h : SectorValue). h.since) (get_or_past new k blank (omega arith))
  ]

  -- reads give what a power cut might have left
  pub cut_possible : IsImage (sector_at old) (λ k. newest (sector_at new k))
  cut_possible k = elim (cases_lt k (length old)) [
    | inl within ↦ subst (Contains (possible (sector_at old k))) (sym (ap newest (cut k within))) (Contains-get_or (possible (sector_at old k)) (picks k % length (possible (sector_at old k))) [] (omega arith))
    | inr past ↦ subst (Contains (possible (sector_at old k))) (sym (ap newest (get_or_past new k blank (omega arith)))) (subst (λ (h : SectorValue). Contains (possible h) []) (sym (get_or_past old k blank past)) (0, omega arith, refl))
  ]

-- the disk as a whole, from what its sectors hold and its events
module _ (m n : MemoryDisk) where
  -- the clock goes on by an event
  grew : (e : Event) → n.events.items ≡ m.events.items ++ e ∷ [] → length m.events.items < length n.events.items
  grew e events = omega (arith, length_push m.events.items e, ap length events)

  -- a write of sector i
  pub is_written : (i : ℕ) (bytes : List ℕ) → n.events.items ≡ m.events.items ++ (Write i bytes) ∷ [] → ((k : ℕ) → held n k ≡ after k (held m k) (Write i bytes)) → IsWritten memory_disk m n i bytes
  is_written i bytes events wrote = record {
    reads = write_reads (held m) (held n) i bytes wrote;
    images = write_images (held m) (held n) i bytes wrote;
    later = grew (Write i bytes) events;
  }

  -- a sync
  pub is_synced : n.events.items ≡ m.events.items ++ Sync ∷ [] → ((k : ℕ) → held n k ≡ settled (held m k)) → IsSynced memory_disk m n
  is_synced events synced = record {
    reads = λ k. ap newest (synced k);
    images = λ c image k. only_newest (held n) (λ k. ap (λ (h : SectorValue). h.since) (synced k)) c image k ∙ ap newest (synced k);
    later = grew Sync events;
  }

  -- a call that leaves the sectors as they were
  pub is_untouched : n.sectors.items ≡ m.sectors.items → IsDiskUntouched memory_disk m n
  is_untouched same = record {
    reads = λ k. ap (λ (s : List SectorValue). newest (sector_at s k)) same;
    images = λ c image. subst (λ (s : List SectorValue). IsImage (sector_at s) c) same image;
  }
