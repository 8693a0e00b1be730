-- Snapshots: what the one in use stands for, and what a new one does.
use Rattle.std.proofs.Common.{◌≡◌, ◌≢◌, ◌⊎◌, ◌<◌, ◌≤◌, ◌+◌, ◌-◌, ◌*◌, ◌^◌, ◌==◌, ℕ, suc, List, [], ◌∷◌, length, get_or, Option, Some, None, Result, Ok, Err, nat_lt, inl, inr, refl, sym, ap, subst, ◌∙◌, arith}
use Rattle.std.specs.Prelude.{All, IfSome}
use Rattle.std.proofs.lemmas.Bool.{cases_eq, cases_Bool, eqb-true, eq-eqb, cond-true, cond-false}
use Rattle.sector_disk.specs.Disk.{Image, with_sector}
use Rattle.sector_disk.proofs.ImageLaws.{with_sector-same, with_sector-other}
use Rattle.session_store.specs.Keeping.{Keeping, IsLawful}
use Rattle.session_store.specs.Form.{header_of, part_mark, sector, payload_in, place}
use Rattle.session_store.specs.declared.disk_format.DiskFormat.TheVariants.{Two}
use Rattle.session_store.specs.declared.reading.Header.{Header}
use Rattle.session_store.specs.declared.fault.StoreFault.{StoreFault}
use Rattle.session_store.specs.Stands.{placed, header_at, newer, header_in, with_part, after_part, parts_from, after_parts, after_header, after_state, replay, recovered, NoneLater, IsLater}
use Rattle.session_store.specs.Base.{Agrees, HasEpoch, HasFormat, MayHold, IsSettled}
use Rattle.session_store.specs.Snapshot.{SameButParts, NothingLater, HasParts, header_sector, WithSnapshot}
use Rattle.session_store.proofs.FormLemmas.{header_of-range, header_of-sector, payload_in-sector, entry_in-not_later, places}
use Rattle.session_store.proofs.StandsLemmas.{newer_first, newer_second, newer_is_first, newer_is_second, header_in-same, parts_from-same, replay-same, recovered-is}
use Rattle.session_store.proofs.BaseLemmas.{spare_below, not_spare-header, not_spare-part}

-- the header that counts is one of the two, in its place
pub newer_cases : (a b : Option Header) (h : Header) → newer a b ≡ Some h → (a ≡ Some h) ⊎ (b ≡ Some h)
unfolding newer
newer_cases None b h is = inr is
newer_cases (Some a) None h is = inl is
newer_cases (Some a) (Some b) h is =
    let test = nat_lt a.epoch b.epoch in
    elim (cases_Bool test) [
      | inl less ↦ inr (sym (cond-true test (Some b) (Some a) less) ∙ is)
      | inr more ↦ inl (sym (cond-false test (Some b) (Some a) more) ∙ is)
    ]

placed_is : (at : ℕ) (o : Option Header) (h : Header) → placed at o ≡ Some h → (o ≡ Some h) × (place h.epoch ≡ at)
unfolding placed
placed_is at None h is = absurd (cc)
placed_is at (Some g) h is = elim (cases_Bool (place g.epoch == at)) [
  | inl here ↦
      let same : Some g ≡ Some h = sym (cond-true (place g.epoch == at) (Some g) None here) ∙ is in
      let header : g ≡ h = cc in
      (same, subst (λ (x : Header). place x.epoch ≡ at) header (eqb-true (place g.epoch) at here))
  | inr elsewhere ↦
      let none : None ≡ Some h = sym (cond-false (place g.epoch == at) (Some g) None elsewhere) ∙ is in absurd (cc)
]

pub placed-here : (at : ℕ) (h : Header) → place h.epoch ≡ at → placed at (Some h) ≡ Some h
unfolding placed
placed-here at h here = cond-true _ _ _ (eq-eqb (place h.epoch) at here)

-- what it states is in range
pub header_in-range : (image : Image) (h : Header) → header_in image ≡ Some h → (1 ≤ h.epoch) × (1 ≤ h.parts) × (h.parts ≤ 494)
unfolding header_in
header_in-range image h is = elim (newer_cases _ _ h is) [
  | inl first ↦ header_of-range (image 0) h (placed_is 0 _ h first).0
  | inr second ↦ header_of-range (image 512) h (placed_is 512 _ h second).0
]

-- so is what a sector states as a header at its place
pub header_at-range : (at : ℕ) (bytes : List ℕ) (o : Option Header) → o ≡ header_at at bytes
    → IfSome o (λ h. (1 ≤ h.epoch) × (h.parts ≤ 494))
header_at-range at bytes None is = tt
header_at-range at bytes (Some h) is = let range = header_of-range bytes h (placed_is at _ h (sym is)).0 in (range.0, range.2)

-- an image of this epoch has nothing of a later one
pub nothing_later : (image : Image) (h : Header) → header_in image ≡ Some h → NoneLater h.epoch image → NothingLater h.epoch image
unfolding header_in
nothing_later image h is none = record {
  first = λ g at. newer_first _ _ h g is at;
  second = λ g at. newer_second _ _ h g is at;
  none_later = none;
}

-- the place of an epoch's snapshot is not below the next's first sector, nor in it
places_again : (epoch : ℕ) → (place epoch ≡ 512 - place (epoch + 1)) × (place (epoch + 1) ≤ 512)
places_again epoch = let at = places epoch in (omega (arith, at.1, at.2, at.3), omega (arith, at.3))

same_place : (epoch next : ℕ) → next ≡ epoch + 1 → place (next + 1) ≡ place epoch
same_place epoch next is_next =
    let at = places epoch in
    let again = places next in
    let at_next : place next ≡ 512 - 512 * at.0 = ap place is_next ∙ at.3 in
    omega (arith, at.1, at.2, at_next, again.1, again.2, again.3)

-- the parts that were written are those that are read
parts_from-written : (image : Image) (epoch i : ℕ) (parts : List (List ℕ))
    → ((k : ℕ) → k < length parts → image (place epoch + 1 + (i + k)) ≡ sector (part_mark Two) epoch (i + k) (get_or parts k []))
    → All (λ part. length part ≤ 480) parts → parts_from Two image epoch i (length parts) ≡ Ok parts
unfolding parts_from after_part with_part
parts_from-written image epoch i [] written fit = refl
parts_from-written image epoch i (part ∷ parts) written fit =
    let number : i + 0 ≡ i = omega arith in
    let here : image (place epoch + 1 + i) ≡ sector (part_mark Two) epoch i part
    = subst (λ (n : ℕ). image (place epoch + 1 + n) ≡ sector (part_mark Two) epoch n part) number (written 0 (omega arith)) in
    let read : payload_in (part_mark Two) epoch i (image (place epoch + 1 + i)) ≡ Some part
    = rw here (payload_in-sector (part_mark Two) epoch i part refl (fit 0 [] (omega arith))) in
    let rest = parts_from-written image epoch (i + 1) parts
    (λ k below. let next : i + suc k ≡ i + 1 + k = omega arith in
    subst (λ (n : ℕ). image (place epoch + 1 + n) ≡ sector (part_mark Two) epoch n (get_or parts k [])) next (written (suc k) (omega arith)))
    (λ k d below. fit (suc k) d (omega arith)) in
    rw (read, rest) refl

module _ {S A R : Type 0} (kept : Keeping S A R) where
  after_state-same : (a b : Image) (h : Header) → ((k : ℕ) → k < 1024 → b (1024 + k) ≡ a (1024 + k))
      → (o : Option S) → after_state kept b h o ≡ after_state kept a h o
  unfolding after_state
  after_state-same a b h same None = refl
  after_state-same a b h same (Some s) = replay-same kept h.format a b same 1024 h.epoch 0 s (omega arith)

  after_parts-same : (a b : Image) (h : Header) → ((k : ℕ) → k < 1024 → b (1024 + k) ≡ a (1024 + k))
      → (parts : Result (List (List ℕ)) StoreFault) → after_parts kept b h parts ≡ after_parts kept a h parts
  unfolding after_parts
  after_parts-same a b h same (Err fault) = refl
  after_parts-same a b h same (Ok parts) = after_state-same a b h same (kept.state_of h.format parts)

  -- the frame law, for images that agree on the sectors of the disk
  pub frame : (a b : Image) (h : Header) → header_in a ≡ Some h → Agrees h.epoch 1024 a b
      → (header_in b ≡ Some h) × (recovered kept b ≡ recovered kept a)
  unfolding recovered after_header
  frame a b h is same =
      let range = header_in-range a h is in
      let first : b 0 ≡ a 0 = same 0 (omega arith) (not_spare-header h.epoch 0 (inl refl)) in
      let second : b 512 ≡ a 512 = same 512 (omega arith) (not_spare-header h.epoch 512 (inr refl)) in
      let headers : header_in b ≡ header_in a = header_in-same a b first second in
      let header : header_in b ≡ Some h = headers ∙ is in
      let at = places h.epoch in
      let parts : parts_from h.format b h.epoch 0 h.parts ≡ parts_from h.format a h.epoch 0 h.parts
      = parts_from-same h.format a b h.epoch 0 h.parts
      (λ k above below. same (place h.epoch + 1 + k) (omega (arith, range.2, at.1, at.2, below)) (not_spare-part h.epoch k (omega (arith, range.2, below)))) in
      let journal = λ (k : ℕ) (below : k < 1024). same (1024 + k) (omega arith) (λ spare. omega (arith, spare_below h.epoch (1024 + k) spare)) in
      (header, rw (header, is, parts) (after_parts-same a b h journal (parts_from h.format a h.epoch 0 h.parts)))

  -- an image that stands for a state and is in order is one of a base with no record to come
  pub stands-settled : (image : Image) (h : Header) (s : S) → header_in image ≡ Some h → recovered kept image ≡ Ok s
      → NoneLater h.epoch image → IsSettled kept h.epoch s 1024 [] image
  unfolding replay MayHold
  stands-settled image h s is stands none = record {
    is_base = record {
      header = λ other agrees. (h, (frame image other h is agrees).0, refl);
      stands = λ other agrees. (frame image other h is agrees).1 ∙ stands;
    };
    journal = λ j above below. absurd (omega arith);
    in_order = none;
  }

  -- nothing is later where a store is at work
  pub settled-nothing_later : (epoch n : ℕ) (base : S) (pending : List A) (image : Image)
      → IsSettled kept epoch base n pending image → NothingLater epoch image
  settled-nothing_later epoch n base pending image settled =
      let own = settled.is_base.header image (λ k below used. refl) in
      subst (λ (e : ℕ). NothingLater e image) own.2
      (nothing_later image own.0 own.1 (subst (λ (e : ℕ). NoneLater e image) (sym own.2) settled.in_order))

  -- nothing is later either after a change of the next snapshot's parts
  pub nothing_later-same : (epoch : ℕ) (a b : Image) → SameButParts (epoch + 1) a b → NothingLater epoch a → NothingLater epoch b
  nothing_later-same epoch a b same nothing =
      let first : b 0 ≡ a 0 = same 0 (not_spare-header epoch 0 (inl refl)) in
      let second : b 512 ≡ a 512 = same 512 (not_spare-header epoch 512 (inr refl)) in
      record {
        first = λ h is. nothing.first h (ap (header_at 0) (sym first) ∙ is);
        second = λ h is. nothing.second h (ap (header_at 512) (sym second) ∙ is);
        none_later = λ k above below later. nothing.none_later k above below
            (subst (λ (bytes : List ℕ). IsLater epoch bytes) (same k (λ spare. omega (arith, spare_below epoch k spare))) later);
      }

  -- the header of the next snapshot is the one that counts
  next_header : (epoch next : ℕ) (h : Header) (other : Image) → next ≡ epoch + 1 → h.epoch ≡ next
      → header_at (place next) (other (place next)) ≡ Some h
      → ((g : Header) → header_at (place epoch) (other (place epoch)) ≡ Some g → g.epoch ≤ epoch)
      → header_in other ≡ Some h
  unfolding header_in
  next_header epoch next h other is_next is_epoch new old =
      let at = places epoch in
      let at_next : place next ≡ 512 - 512 * at.0 = ap place is_next ∙ at.3 in
      elim (cases_eq at.0 0) [
        | inl zero_place ↦
            let old_at : place epoch ≡ 0 = omega (arith, at.2, zero_place) in
            let new_at : place next ≡ 512 = omega (arith, at_next, zero_place) in
            newer_is_second (header_at 0 (other 0)) (header_at 512 (other 512)) h
            (subst (λ (p : ℕ). header_at p (other p) ≡ Some h) new_at new)
            (λ g is. let below = old g (subst (λ (p : ℕ). header_at p (other p) ≡ Some g) (sym old_at) is) in omega (arith, below, is_next, is_epoch))
        | inr one_place ↦
            let one : at.0 ≡ 1 = omega (arith, at.1, one_place) in
            let old_at : place epoch ≡ 512 = omega (arith, at.2, one) in
            let new_at : place next ≡ 0 = omega (arith, at_next, one) in
            newer_is_first (header_at 0 (other 0)) (header_at 512 (other 512)) h
            (subst (λ (p : ℕ). header_at p (other p) ≡ Some h) new_at new)
            (λ g is. let below = old g (subst (λ (p : ℕ). header_at p (other p) ≡ Some g) (sym old_at) is) in omega (arith, below, is_next, is_epoch))
      ]

  -- no header at either place is of a later epoch
  either_place : (epoch : ℕ) (image : Image) → ((g : Header) → header_at 0 (image 0) ≡ Some g → g.epoch ≤ epoch)
      → ((g : Header) → header_at 512 (image 512) ≡ Some g → g.epoch ≤ epoch)
      → (g : Header) → header_at (place epoch) (image (place epoch)) ≡ Some g → g.epoch ≤ epoch
  either_place epoch image first second g is =
      let at = places epoch in
      elim (cases_eq at.0 0) [
        | inl zero_place ↦
            let here : place epoch ≡ 0 = omega (arith, at.2, zero_place) in
            first g (subst (λ (p : ℕ). header_at p (image p) ≡ Some g) here is)
        | inr one_place ↦
            let here : place epoch ≡ 512 = omega (arith, at.1, at.2, one_place) in
            second g (subst (λ (p : ℕ). header_at p (image p) ≡ Some g) here is)
      ]

  -- so where the header that counts is of this epoch
  pub has_epoch-none_later : (epoch : ℕ) (image : Image) → HasEpoch epoch image
      → (g : Header) → header_at (place epoch) (image (place epoch)) ≡ Some g → g.epoch ≤ epoch
  unfolding header_in
  has_epoch-none_later epoch image has = either_place epoch image
      (λ g is. subst (λ (e : ℕ). g.epoch ≤ e) has.2 (newer_first _ _ has.0 g has.1 is))
      (λ g is. subst (λ (e : ℕ). g.epoch ≤ e) has.2 (newer_second _ _ has.0 g has.1 is))

  -- the header of a new snapshot
  new_header : ℕ → S → Header
  new_header epoch s = record { format = Two; epoch = epoch; parts = length (kept.parts s) }

  -- counts, where the other one is of no later epoch
  new_header-counts : IsLawful kept → (epoch next : ℕ) (s : S) (d other : Image) → next ≡ epoch + 1 → next < 2 ^ 64
      → kept.IsState s → ((g : Header) → header_at (place epoch) (d (place epoch)) ≡ Some g → g.epoch ≤ epoch)
      → Agrees next 0 (with_sector d (place next) (header_sector kept next s)) other → header_in other ≡ Some (new_header next s)
  unfolding new_header
  new_header-counts lawful epoch next s d other is_next small is_state old agrees =
      let bytes = header_sector kept next s in
      let at = places epoch in
      let at_next : place next ≡ 512 - 512 * at.0 = ap place is_next ∙ at.3 in
      let count = length (kept.parts s) in
      let h = new_header next s in
      let stated : header_of bytes ≡ Some h
      = header_of-sector next count (omega (arith, is_next)) small (lawful.some_part s is_state) (lawful.few_parts s is_state) in
      let counts : header_at (place next) bytes ≡ Some h = ap (placed (place next)) stated ∙ placed-here (place next) h refl in
      let other_place : place epoch ≢ place next = omega (arith, at.1, at.2, at_next) in
      let here : other (place next) ≡ bytes
      = agrees (place next) (omega (arith, at.1, at_next)) (λ spare. omega (arith, spare.0, spare.1, places_again next))
      ∙ with_sector-same d (place next) bytes in
      let there : other (place epoch) ≡ d (place epoch)
      = agrees (place epoch) (omega (arith, at.1, at.2)) (λ spare. omega (arith, spare.0, same_place epoch next is_next))
      ∙ with_sector-other d (place next) bytes (place epoch) other_place in
      next_header epoch next h other is_next refl (ap (header_at (place next)) here ∙ counts)
      (λ g is. old g (ap (header_at (place epoch)) (sym there) ∙ is))

  -- a new snapshot, header over parts, is a base of its own
  snapshot-settled : IsLawful kept → (epoch next : ℕ) (s : S) (d : Image) → next ≡ epoch + 1 → next < 2 ^ 64
      → kept.IsState s → NothingLater epoch d → HasParts kept next s d
      → IsSettled kept next s 0 [] (with_sector d (place next) (header_sector kept next s))
  unfolding MayHold new_header
  snapshot-settled lawful epoch next s d is_next small is_state nothing has_parts =
      let bytes = header_sector kept next s in
      let c = with_sector d (place next) bytes in
      let at = places epoch in
      let at_next : place next ≡ 512 - 512 * at.0 = ap place is_next ∙ at.3 in
      let count = length (kept.parts s) in
      let few = lawful.few_parts s is_state in
      let h = new_header next s in
      let header : (other : Image) → Agrees next 0 c other → header_in other ≡ Some h
      = λ other. new_header-counts lawful epoch next s d other is_next small is_state (either_place epoch d nothing.first nothing.second) in
      record {
        is_base = record {
          header = λ other agrees. (h, header other agrees, refl);
          stands = λ other agrees.
              let read : parts_from Two other next 0 count ≡ Ok (kept.parts s)
              = parts_from-written other next 0 (kept.parts s)
              (λ k below.
              let i : place next + 1 + (0 + k) ≡ place next + 1 + k = omega arith in
              let away : place next + 1 + k ≢ place next = omega arith in
              let number : 0 + k ≡ k = omega arith in
              let here : other (place next + 1 + k) ≡ sector (part_mark Two) next k (get_or (kept.parts s) k [])
              = agrees (place next + 1 + k) (omega (arith, at.1, at_next, few, below)) (not_spare-part next k (omega (arith, few, below)))
              ∙ with_sector-other d (place next) bytes (place next + 1 + k) away ∙ has_parts k below in
              subst (λ (n : ℕ). other (place next + 1 + n) ≡ sector (part_mark Two) next n (get_or (kept.parts s) k [])) (sym number) here)
              (lawful.parts_fit s is_state) in
              recovered-is kept other h (kept.parts s) s (header other agrees) read (lawful.restored s is_state);
        };
        journal = λ j above below.
            let away : 1024 + j ≢ place next = omega (arith, at.1, at_next) in
            rw (with_sector-other d (place next) bytes (1024 + j) away)
            (entry_in-not_later kept Two epoch next j (d (1024 + j)) (nothing.none_later (1024 + j) (omega arith) (omega arith)) (omega (arith, is_next)) small);
        in_order = λ k above below later.
            let away : k ≢ place next = omega (arith, at.1, at_next) in
            let older = subst (λ (b : List ℕ). IsLater next b) (with_sector-other d (place next) bytes k away) later in
            nothing.none_later k above below (older.0, omega (arith, older.1, is_next));
      }

  -- what the writing of a snapshot leaves at its end is of the second format
  pub with_snapshot-format : IsLawful kept → (images : Image → Type 0) (epoch next : ℕ) (s : S) (c : Image)
      → next ≡ epoch + 1 → next < 2 ^ 64 → kept.IsState s
      → ((d : Image) → images d → (g : Header) → header_at (place epoch) (d (place epoch)) ≡ Some g → g.epoch ≤ epoch)
      → WithSnapshot kept images next s c → HasFormat Two c
  unfolding new_header
  with_snapshot-format lawful images epoch next s c is_next small is_state old written =
      let d = written.0 in
      let from = written.1 in
      let same : d (place epoch) ≡ from.0 (place epoch)
      = from.2 (place epoch) (λ inside. omega (arith, inside.0, inside.1, places epoch, ap place is_next, places_again next)) in
      let agrees : Agrees next 0 (with_sector d (place next) (header_sector kept next s)) c
      = λ k below used. ap (λ (image : Image). image k) written.3 in (
        new_header next s,
        new_header-counts lawful epoch next s d c is_next small is_state
            (λ g is. old from.0 from.1 g (ap (header_at (place epoch)) (sym same) ∙ is)) agrees,
        refl,
      )

  -- and settled
  pub with_snapshot-settled : IsLawful kept → (images : Image → Type 0) (epoch next : ℕ) (s : S) (c : Image)
      → next ≡ epoch + 1 → next < 2 ^ 64 → kept.IsState s → ((d : Image) → images d → NothingLater epoch d)
      → WithSnapshot kept images next s c → IsSettled kept next s 0 [] c
  with_snapshot-settled lawful images epoch next s c is_next small is_state nothing written =
      let from = written.1 in
      let same = subst (λ (e : ℕ). SameButParts e from.0 written.0) is_next from.2 in
      subst (IsSettled kept next s 0 []) (sym written.3)
      (snapshot-settled lawful epoch next s written.0 is_next small is_state
      (nothing_later-same epoch from.0 written.0 same (nothing from.0 from.1)) written.2)
