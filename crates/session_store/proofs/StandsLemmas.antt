-- What images stand for, step by step.
use Rattle.std.proofs.Common.{◌≡◌, ◌<◌, ◌≤◌, ◌+◌, ℕ, zero, suc, List, [], ◌∷◌, Option, Some, None, Result, Ok, Err, true, false, nat_lt, inl, inr, refl, sym, ap, ◌∙◌, arith}
use Rattle.std.proofs.lemmas.Bool.{ltb-true, ltb-false, lt-ltb, le-ltb, cases_Bool}
use Rattle.sector_disk.specs.Disk.{Image}
use Rattle.session_store.specs.Keeping.{Keeping, fold}
use Rattle.session_store.specs.Form.{entry_in, place}
use Rattle.session_store.specs.declared.disk_format.DiskFormat.{DiskFormat}
use Rattle.session_store.specs.declared.reading.Header.{Header}
use Rattle.session_store.specs.declared.reading.Entry.TheVariants.{Missing, Holds}
use Rattle.session_store.specs.declared.fault.StoreFault.{StoreFault}
use Rattle.session_store.specs.Stands.{newer, header_in, parts_from, after_step, after_entry, replay, after_state, after_parts, after_header, recovered}

-- neither header is of a greater epoch than the one that counts
pub newer_first : (a b : Option Header) (h g : Header) → newer a b ≡ Some h → a ≡ Some g → g.epoch ≤ h.epoch
unfolding newer
newer_first None b h g is first = absurd (cc)
newer_first (Some a) None h g is first =
    let same : g ≡ h = cc in let epochs : g.epoch ≡ h.epoch = ap (λ (x : Header). x.epoch) same in omega arith
newer_first (Some a) (Some b) h g is first =
    let same : a ≡ g = cc in
    let epochs : a.epoch ≡ g.epoch = ap (λ (x : Header). x.epoch) same in
    elim (cases_Bool (nat_lt a.epoch b.epoch)) [
      | inl less ↦
          let taken : Some b ≡ Some h = rw less at is in
          let is_b : b ≡ h = cc in
          let b_epoch : b.epoch ≡ h.epoch = ap (λ (x : Header). x.epoch) is_b in
          omega (arith, ltb-true a.epoch b.epoch less)
      | inr more ↦
          let taken : Some a ≡ Some h = rw more at is in
          let is_a : a ≡ h = cc in
          let a_epoch : a.epoch ≡ h.epoch = ap (λ (x : Header). x.epoch) is_a in
          omega arith
    ]

pub newer_second : (a b : Option Header) (h g : Header) → newer a b ≡ Some h → b ≡ Some g → g.epoch ≤ h.epoch
unfolding newer
newer_second None b h g is second =
    let same : g ≡ h = cc in let epochs : g.epoch ≡ h.epoch = ap (λ (x : Header). x.epoch) same in omega arith
newer_second (Some a) None h g is second = absurd (cc)
newer_second (Some a) (Some b) h g is second =
    let same : b ≡ g = cc in
    let epochs : b.epoch ≡ g.epoch = ap (λ (x : Header). x.epoch) same in
    elim (cases_Bool (nat_lt a.epoch b.epoch)) [
      | inl less ↦
          let taken : Some b ≡ Some h = rw less at is in
          let is_b : b ≡ h = cc in
          let b_epoch : b.epoch ≡ h.epoch = ap (λ (x : Header). x.epoch) is_b in
          omega arith
      | inr more ↦
          let taken : Some a ≡ Some h = rw more at is in
          let is_a : a ≡ h = cc in
          let a_epoch : a.epoch ≡ h.epoch = ap (λ (x : Header). x.epoch) is_a in
          omega (arith, ltb-false a.epoch b.epoch more)
    ]

-- a header above the other is the one that counts
pub newer_is_first : (a b : Option Header) (g : Header) → a ≡ Some g → ((h : Header) → b ≡ Some h → h.epoch < g.epoch)
    → newer a b ≡ Some g
unfolding newer
newer_is_first None b g first above = absurd (cc)
newer_is_first (Some a) None g first above = first
newer_is_first (Some a) (Some b) g first above =
    let same : a ≡ g = cc in
    let epochs : a.epoch ≡ g.epoch = ap (λ (x : Header). x.epoch) same in
    let more : nat_lt a.epoch b.epoch ≡ false = le-ltb a.epoch b.epoch (omega (arith, above b refl)) in
    rw more first

pub newer_is_second : (a b : Option Header) (g : Header) → b ≡ Some g → ((h : Header) → a ≡ Some h → h.epoch < g.epoch)
    → newer a b ≡ Some g
unfolding newer
newer_is_second None b g second above = second
newer_is_second (Some a) None g second above = absurd (cc)
newer_is_second (Some a) (Some b) g second above =
    let same : b ≡ g = cc in
    let epochs : b.epoch ≡ g.epoch = ap (λ (x : Header). x.epoch) same in
    let less : nat_lt a.epoch b.epoch ≡ true = lt-ltb a.epoch b.epoch (omega (arith, above a refl)) in
    rw less second

-- images with the same headers have the same header that counts
pub header_in-same : (a b : Image) → b 0 ≡ a 0 → b 512 ≡ a 512 → header_in b ≡ header_in a
unfolding header_in
header_in-same a b first second = rw (first, second) refl

-- images with the same parts give the same parts
pub parts_from-same : (format : DiskFormat) (a b : Image) (epoch i left : ℕ)
    → ((k : ℕ) → i ≤ k → k < i + left → b (place epoch + 1 + k) ≡ a (place epoch + 1 + k))
    → parts_from format b epoch i left ≡ parts_from format a epoch i left
unfolding parts_from
parts_from-same format a b epoch i zero same = refl
parts_from-same format a b epoch i (suc left) same =
    let here = same i (omega arith) (omega arith) in
    let rest = parts_from-same format a b epoch (i + 1) left (λ k above below. same k (omega arith) (omega arith)) in
    rw (here, rest) refl

module _ {S A R : Type 0} (kept : Keeping S A R) where
  -- images with the same journal give the same state
  pub replay-same : (format : DiskFormat) (a b : Image) → ((k : ℕ) → k < 1024 → b (1024 + k) ≡ a (1024 + k))
      → (left epoch k : ℕ) (s : S) → k + left ≤ 1024 → replay kept format left b epoch k s ≡ replay kept format left a epoch k s
  unfolding replay
  replay-same format a b same zero epoch k s within = refl
  replay-same format a b same (suc left) epoch k s within =
      let here = same k (omega arith) in
      rw here (ap (λ (next : S → Result S StoreFault). after_entry kept k s next (entry_in kept format epoch k (a (1024 + k))))
      (λ i t. replay-same format a b same left epoch (k + 1) t (omega arith) i))

  -- the records end at one that is missing, and go on over one whose action is accepted
  pub replay-missing : (format : DiskFormat) (image : Image) (left epoch k : ℕ) (s : S)
      → (0 < left → entry_in kept format epoch k (image (1024 + k)) ≡ Missing) → replay kept format left image epoch k s ≡ Ok s
  unfolding replay after_entry
  replay-missing format image zero epoch k s missing = refl
  replay-missing format image (suc left) epoch k s missing = rw (missing (omega arith)) refl

  pub replay-holds : (format : DiskFormat) (image : Image) (left epoch k : ℕ) (s t : S) (a : A)
      → entry_in kept format epoch k (image (1024 + k)) ≡ Holds a → kept.step s a ≡ Ok t
      → replay kept format (suc left) image epoch k s ≡ replay kept format left image epoch (k + 1) t
  unfolding replay after_entry after_step
  replay-holds format image left epoch k s t a holds accepted = rw (holds, accepted) refl

  -- the first of some accepted actions is accepted, and then the others
  fold_on : List A → Result S R → Option S
  fold_on actions (Ok t) = fold kept t actions
  fold_on actions (Err _) = None

  fold_on-some : (actions : List A) (r : Result S R) (s : S) → fold_on actions r ≡ Some s
      → (t : S) × (r ≡ Ok t) × (fold kept t actions ≡ Some s)
  unfolding fold_on
  fold_on-some actions (Ok t) s made = (t, refl, made)
  fold_on-some actions (Err e) s made = absurd (cc)

  fold-on : (s : S) (a : A) (actions : List A) → fold kept s (a ∷ actions) ≡ fold_on actions (kept.step s a)
  unfolding fold fold_on
  fold-on s a actions = on (kept.step s a)
    where
      on : (r : Result S R) → elim r [ Ok t ↦ fold kept t actions | Err _ ↦ None ] ≡ fold_on actions r
      on (Ok t) = refl
      on (Err _) = refl

  pub fold-cons : (s : S) (a : A) (actions : List A) (end : S) → fold kept s (a ∷ actions) ≡ Some end
      → (t : S) × (kept.step s a ≡ Ok t) × (fold kept t actions ≡ Some end)
  fold-cons s a actions end made = fold_on-some actions (kept.step s a) end (sym (fold-on s a actions) ∙ made)

  pub fold-step : (s t : S) (a : A) (actions : List A) → kept.step s a ≡ Ok t → fold kept s (a ∷ actions) ≡ fold kept t actions
  unfolding fold_on
  fold-step s t a actions accepted = fold-on s a actions ∙ rw accepted refl

  pub fold-refused : (s : S) (a : A) (actions : List A) (refusal : R) → kept.step s a ≡ Err refusal
      → fold kept s (a ∷ actions) ≡ None
  unfolding fold_on
  fold-refused s a actions refusal refused = fold-on s a actions ∙ rw refused refl

  pub fold-nil : (s : S) → fold kept s [] ≡ Some s
  unfolding fold
  fold-nil s = refl

  -- what an image with this header, these parts of this state, stands for
  pub recovered-is : (image : Image) (h : Header) (parts : List (List ℕ)) (s : S) → header_in image ≡ Some h
      → parts_from h.format image h.epoch 0 h.parts ≡ Ok parts → kept.state_of h.format parts ≡ Some s
      → recovered kept image ≡ replay kept h.format 1024 image h.epoch 0 s
  unfolding recovered after_header after_parts after_state
  recovered-is image h parts s has_header has_parts is_state = rw (has_header, has_parts, is_state) refl
