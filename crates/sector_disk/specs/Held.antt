-- What a sector of a disk in memory holds, and how writes and syncs change it.
use Rattle.std.specs.Prelude.{◌≡◌, ◌≤◌, ◌%◌, ◌==◌, if◌then◌else◌, ℕ, List, [], ◌∷◌, ◌++◌, length, take, slice_index_or}
use Rattle.std.specs.List.{Contains}
use Rattle.std.proofs.Common.{refl, sym, ◌∙◌, ap, subst, arith}
use Rattle.std.proofs.lemmas.List.{take_all}
use Rattle.std.proofs.lemmas.List.Elements.{Contains-append_right}
use Rattle.sector_disk.specs.Disk.{Image}
use Rattle.sector_disk.specs.declared.memory.events.Event.{Event}
use Rattle.sector_disk.specs.declared.memory.events.Event.TheVariants.{Write, Sync}

-- one sector
pub record SectorValue : Type 0 where
  -- when the disk was made, or last lost power
  pub first : List ℕ
  -- at the last sync since then
  pub synced : List ℕ
  -- the values written after that sync, the oldest first
  pub since : List (List ℕ)

-- the last of these values, or else that one
abbrev pub last_of : List ℕ → List (List ℕ) → List ℕ
last_of v [] = v
last_of v (w ∷ ws) = last_of w ws

-- what a read gives
abbrev pub newest : SectorValue → List ℕ
newest h = last_of h.synced h.since

-- what a power cut may leave: the synced value, which is value 0, and each one written since
abbrev pub possible : SectorValue → List (List ℕ)
possible h = h.synced ∷ h.since

-- as it was at first
abbrev pub restarted : SectorValue → SectorValue
restarted h = record { first = h.first; synced = h.first; since = [] }

-- after a write of this value
abbrev pub written : List ℕ → SectorValue → SectorValue
written bytes h = record { first = h.first; synced = h.synced; since = h.since ++ bytes ∷ [] }

-- after a sync
abbrev pub settled : SectorValue → SectorValue
settled h = record { first = h.first; synced = newest h; since = [] }

-- after a power cut that left this value
abbrev pub cut_to : List ℕ → SectorValue
cut_to v = record { first = v; synced = v; since = [] }

-- the value that a pick means: that index of the list, modulo its length
abbrev pub picked : SectorValue → ℕ → List ℕ
picked h pick = slice_index_or (possible h) (pick % length (possible h)) []

-- where there is no such sector
abbrev pub blank : SectorValue
blank = cut_to []

-- the sector k of these
abbrev pub sector_at : List SectorValue → ℕ → SectorValue
sector_at sectors k = slice_index_or sectors k blank

-- sector k after an event
abbrev pub after : ℕ → SectorValue → Event → SectorValue
after k h (Write i bytes) = if i == k then written bytes h else h
after k h Sync = settled h

-- sector k after these events, the first of them first
abbrev pub after_events : ℕ → SectorValue → List Event → SectorValue
after_events k h [] = h
after_events k h (e ∷ events) = after_events k (after k h e) events

-- what the sectors hold is what these events made of their first values
abbrev pub IsReplayed : (ℕ → SectorValue) → List Event → Type 0
IsReplayed sectors events = (k : ℕ) → after_events k (restarted (sectors k)) events ≡ sectors k

-- each sector of the image has one of its possible values
abbrev pub IsImage : (ℕ → SectorValue) → Image → Type 0
IsImage sectors c = (k : ℕ) → Contains (possible (sectors k)) (c k)

-- the sectors after the first n of these events
abbrev pub after_first : (ℕ → SectorValue) → List Event → ℕ → ℕ → SectorValue
after_first sectors events n k = after_events k (restarted (sectors k)) (take n events)

-- a power cut after n of these events, from the number t on, left this image
abbrev pub LeftSince : (ℕ → SectorValue) → List Event → ℕ → Image → Type 0
LeftSince sectors events t c = (n : ℕ) × (t ≤ n) × (n ≤ length events) × IsImage (after_first sectors events n) c

-- the last value is one of them
last_in : (v : List ℕ) (ws : List (List ℕ)) → Contains (v ∷ ws) (last_of v ws)
last_in v [] = (0, omega arith, refl)
last_in v (w ∷ ws) = Contains-append_right (v ∷ []) (w ∷ ws) (last_of w ws) (last_in w ws)

-- so the disk as it reads is one of the images that a power cut may leave
pub newest_left : (sectors : ℕ → SectorValue) → IsImage sectors (λ k. newest (sectors k))
newest_left sectors k = last_in (sectors k).synced (sectors k).since

module _ (sectors : ℕ → SectorValue) (events : List Event) (replayed : IsReplayed sectors events) where
  -- after all events the sectors are as they are now
  all_events : (k : ℕ) → after_first sectors events (length events) k ≡ sectors k
  all_events k =
      ap (λ (es : List Event). after_events k (restarted (sectors k)) es) (take_all (length events) events (omega arith)) ∙ replayed k

  -- what a power cut may leave now, it might have left since an earlier moment
  pub left_now : (t : ℕ) (c : Image) → t ≤ length events → IsImage sectors c → LeftSince sectors events t c
  left_now t c le image =
      (length events, le, omega arith, λ k. subst (λ (h : SectorValue). Contains (possible h) (c k)) (sym (all_events k)) (image k))

  -- since this moment it can have left nothing else
  pub left_only_now : (c : Image) → LeftSince sectors events (length events) c → IsImage sectors c
  left_only_now c left = let all : left.0 ≡ length events = omega (arith, left.1, left.2) in
      λ k. subst (λ (h : SectorValue). Contains (possible h) (c k))
      (ap (λ (n : ℕ). after_first sectors events n k) all ∙ all_events k) (left.3 k)
