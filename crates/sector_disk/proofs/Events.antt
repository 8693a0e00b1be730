-- One event more, and time.
use Rattle.std.proofs.Common.{◌≡◌, ◌⊎◌, inl, inr, ℕ, ◌≤◌, true, false, List, [], ◌∷◌, ◌++◌, length, take, refl, sym, ◌∙◌, ap, subst, arith}
use Rattle.std.specs.Prelude.{◌==◌, if◌then◌else◌}
use Rattle.std.specs.List.{Contains}
use Rattle.std.proofs.lemmas.Bool.{cases_lt}
use Rattle.std.proofs.lemmas.List.{take-append-le, length_push}
use Rattle.sector_disk.specs.Disk.{Image}
use Rattle.sector_disk.specs.Calls.{Elapses}
use Rattle.sector_disk.specs.Held.{SectorValue, written, restarted, possible, sector_at, after, after_events, after_first, IsReplayed, IsImage, LeftSince, left_only_now}
use Rattle.sector_disk.specs.Memory.{held, memory_disk}
use Rattle.sector_disk.specs.declared.memory.MemoryDisk.{MemoryDisk}
use Rattle.sector_disk.specs.declared.memory.events.Event.{Event}
use Rattle.sector_disk.specs.declared.memory.events.Event.TheVariants.{Write, Sync}

-- an event at the end is replayed last
after_events-push : (k : ℕ) (h : SectorValue) (events : List Event) (e : Event) → after_events k h (events ++ e ∷ []) ≡ after k (after_events k h events) e
after_events-push k h [] e = refl
after_events-push k h (d ∷ events) e = after_events-push k (after k h d) events e

-- an event leaves the first value
restarted-after : (k : ℕ) (h : SectorValue) (e : Event) → restarted (after k h e) ≡ restarted h
restarted-after k h (Write i bytes) = elim (i == k) as (λ b. restarted (if b then written bytes h else h) ≡ restarted h) [ true ↦ refl | false ↦ refl ]
restarted-after k h Sync = refl

-- sectors after one event more
module _ (old new : ℕ → SectorValue) (events : List Event) (e : Event) (one_more : (k : ℕ) → new k ≡ after k (old k) e) where
  -- they began with the same values
  same_first : (k : ℕ) → restarted (new k) ≡ restarted (old k)
  same_first k = ap restarted (one_more k) ∙ restarted-after k (old k) e

  -- they hold what all events made of these
  replayed_push : IsReplayed old events → IsReplayed new (events ++ e ∷ [])
  replayed_push replayed k =
      after_events-push k (restarted (new k)) events e
      ∙ ap (λ (h : SectorValue). after k (after_events k h events) e) (same_first k)
      ∙ ap (λ (h : SectorValue). after k h e) (replayed k)
      ∙ sym (one_more k)

  -- what was left before the event
  earlier : (j k : ℕ) → j ≤ length events → after_first new (events ++ e ∷ []) j k ≡ after_first old events j k
  earlier j k le =
      ap (λ (h : SectorValue). after_events k h (take j (events ++ e ∷ []))) (same_first k)
      ∙ ap (λ (es : List Event). after_events k (restarted (old k)) es) (take-append-le j events (e ∷ []) le)

  -- a power cut left what it might have left before the event, or what it may leave now
  pub nothing_else : IsReplayed new (events ++ e ∷ []) → (t : ℕ) (c : Image) → LeftSince new (events ++ e ∷ []) t c → LeftSince old events t c ⊎ IsImage new c
  nothing_else replayed t c left = elim (cases_lt (length events) left.0) [
    | inl now ↦ inr (left_only_now new (events ++ e ∷ []) replayed c (left.0, omega (arith, length_push events e, left.2), left.2, left.3))
    | inr before ↦ inl (left.0, left.1, before, λ k. subst (λ (h : SectorValue). Contains (possible h) (c k)) (earlier left.0 k before) (left.3 k))
  ]

  -- what it might have left before the event it still might have left
  pub keeps : (t : ℕ) (c : Image) → LeftSince old events t c → LeftSince new (events ++ e ∷ []) t c
  keeps t c left = (left.0, left.1, omega (arith, length_push events e, left.2), λ k. subst (λ (h : SectorValue). Contains (possible h) (c k)) (sym (earlier left.0 k left.2)) (left.3 k))

-- what the sectors hold is still what the events made of them
pub replayed_to : (old new : ℕ → SectorValue) (events longer : List Event) (e : Event) → longer ≡ events ++ e ∷ [] → ((k : ℕ) → new k ≡ after k (old k) e) → IsReplayed old events → IsReplayed new longer
replayed_to old new events longer e is one_more replayed = subst (IsReplayed new) (sym is) (replayed_push old new events e one_more replayed)

-- the disk as a whole
module _ (m n : MemoryDisk) where
  -- time goes on with an event
  pub push_elapses : (e : Event) → n.events.items ≡ m.events.items ++ e ∷ [] → ((k : ℕ) → held n k ≡ after k (held m k) e) → Elapses memory_disk m n
  push_elapses e events one_more =
      let replayed : IsReplayed (held n) (m.events.items ++ e ∷ []) = subst (IsReplayed (held n)) events n.replayed in
      record {
        later = omega (arith, length_push m.events.items e, ap length events);
        nothing_else = λ t c le left. nothing_else (held m) (held n) m.events.items e one_more replayed t c (subst (λ (es : List Event). LeftSince (held n) es t c) events left);
        keeps = λ t c le left. subst (λ (es : List Event). LeftSince (held n) es t c) (sym events) (keeps (held m) (held n) m.events.items e one_more t c left);
      }

  -- and with a call that makes none
  pub same_elapses : n.events.items ≡ m.events.items → n.sectors.items ≡ m.sectors.items → Elapses memory_disk m n
  same_elapses events sectors = record {
    later = omega (arith, ap length events);
    nothing_else = λ t c le left. inl (subst (λ (es : List Event). LeftSince (held m) es t c) events (subst (λ (s : List SectorValue). LeftSince (sector_at s) n.events.items t c) sectors left));
    keeps = λ t c le left. subst (λ (es : List Event). LeftSince (held n) es t c) (sym events) (subst (λ (s : List SectorValue). LeftSince (sector_at s) m.events.items t c) (sym sectors) left);
  }
