-- What each call does to a store.
use Rattle.std.proofs.Common.{◌≡◌, ◌≢◌, ◌<◌, ◌≤◌, ◌+◌, ◌-◌, ℕ, zero, suc, List, [], ◌∷◌, ◌++◌, length, take, drop, get_or, Option, Some, None, Result, Ok, Err, IsSome, MatchResult, true, false, refl, sym, ap, subst, ◌∙◌, arith, append-nil}
use Rattle.std.proofs.Math.Seq.{drop-cons, take-length}
use Rattle.std.proofs.lemmas.List.{drop_all}
use Rattle.sector_disk.specs.Disk.{Image, Disk}
use Rattle.sector_disk.proofs.ImageLaws.{image_is}
use Rattle.sector_disk.specs.Calls.{Called, Syncs}
use Rattle.sector_disk.specs.Runs.{EveryMoment, Remains}
use Rattle.sector_disk.proofs.RunLaws.{begins, now_has, syncs_on, remains, remains_on}
use Rattle.session_store.specs.Keeping.{Keeping, fold}
use Rattle.session_store.specs.Form.{entry_in}
use Rattle.session_store.specs.Stands.{recovered, IsInOrder}
use Rattle.session_store.specs.declared.disk_format.DiskFormat.TheVariants.{Two}
use Rattle.session_store.specs.declared.reading.Entry.TheVariants.{Holds}
use Rattle.session_store.specs.Base.{IsSettled, HoldsAll, StandsForPrefix}
use Rattle.session_store.specs.Sound.{StandsOnlyFor}
use Rattle.session_store.specs.Value.{StoreValue, IsStore}
use Rattle.session_store.specs.Store.{IsSoundStore, Ages, Continues}
use Rattle.session_store.proofs.CallLaws.{prefix-longer}
use Rattle.session_store.proofs.AgeLemmas.{settled-epoch, ages-on, sync-epochs}
use Rattle.session_store.specs.Answers.{after_fault, after_confirm}
use Rattle.session_store.proofs.StandsLemmas.{fold-nil, fold-step, fold-cons, fold-refused}
use Rattle.session_store.proofs.BaseLemmas.{settled-stands, settled-confirmed}

-- a list of no length is empty
pub empty_list : {X : Type 0} (xs : List X) → length xs ≡ 0 → xs ≡ []
empty_list [] none = refl
empty_list (x ∷ xs) none = absurd (omega (arith, none))

-- what is in equal options is equal
pub some_is : {X : Type 0} (a b : X) → Some a ≡ Some b → a ≡ b
some_is a b same = cc

module _ {S A R : Type 0} (kept : Keeping S A R) where
  -- one action more is taken of those that lead to a state
  pub caught_up : {T : Type 0} (all : Option S) (xs : List A) (i : ℕ) (base new : S) (a : A) (result : Result T R)
      → IsSome all → all ≡ fold kept base (drop i xs) → i < length xs → a ≡ get_or xs i a
      → MatchResult result (λ _. kept.step base a ≡ Ok new) (λ refusal. kept.step base a ≡ Err refusal)
      → all ≡ fold kept new (drop (i + 1) xs)
  caught_up all xs i base new a (Ok _) some so_far within item accepted =
      let next : suc i ≡ i + 1 = omega arith in
      let split : drop i xs ≡ a ∷ drop (i + 1) xs
      = drop-cons xs i a within ∙ ap (λ (x : A). x ∷ drop (suc i) xs) (sym item) ∙ ap (λ (n : ℕ). a ∷ drop n xs) next in
      so_far ∙ ap (fold kept base) split ∙ fold-step kept base new a (drop (i + 1) xs) accepted
  caught_up all xs i base new a (Err refusal) some so_far within item refused =
      let split : drop i xs ≡ a ∷ drop (suc i) xs
      = drop-cons xs i a within ∙ ap (λ (x : A). x ∷ drop (suc i) xs) (sym item) in
      let none : all ≡ None = so_far ∙ ap (fold kept base) split ∙ fold-refused kept base a (drop (suc i) xs) refusal refused in
      let never : false ≡ true = subst IsSome none some in cc

  -- and at their end it is that state
  pub caught_up-end : (all : Option S) (xs : List A) (i : ℕ) (base : S) → all ≡ fold kept base (drop i xs) → length xs ≤ i
      → all ≡ Some base
  caught_up-end all xs i base so_far past =
      so_far ∙ ap (fold kept base) (drop_all i xs past) ∙ fold-nil kept base

  pub of_nil : (base s : S) → fold kept base [] ≡ Some s → base ≡ s
  of_nil base s made = let same : Some base ≡ Some s = sym (fold-nil kept base) ∙ made in cc

  -- one accepted action more leads to the next state
  pub fold-more : (pending : List A) (base s t : S) (a : A) → fold kept base pending ≡ Some s → kept.step s a ≡ Ok t
      → fold kept base (pending ++ a ∷ []) ≡ Some t
  fold-more [] base s t a made accepted =
      let same : base ≡ s = of_nil base s made in
      fold-step kept base t a [] (subst (λ (x : S). kept.step x a ≡ Ok t) (sym same) accepted) ∙ fold-nil kept t
  fold-more (x ∷ pending) base s t a made accepted =
      let first = fold-cons kept base x pending s made in
      fold-step kept base first.0 x (pending ++ a ∷ []) first.1 ∙ fold-more pending first.0 s t a first.2 accepted

  -- what stands for the state after all of them does too
  pub prefix-all : (base s : S) (actions : List A) (c : Image) → fold kept base actions ≡ Some s → recovered kept c ≡ Ok s
      → IsInOrder c → StandsForPrefix kept base actions c
  prefix-all base s actions c made stands in_order = record {
    count = length actions;
    few = omega arith;
    state = s;
    made = ap (fold kept base) (take-length actions) ∙ made;
    stands = stands;
    in_order = in_order;
  }

  -- the journal holds one action more
  pub holds_all-more : (pending : List A) (epoch n number : ℕ) (a : A) (old new : Image) → number ≡ n + length pending
      → ((k : ℕ) → k ≢ 1024 + number → new k ≡ old k) → entry_in kept Two epoch number (new (1024 + number)) ≡ Holds a
      → HoldsAll kept epoch n pending old → HoldsAll kept epoch n (pending ++ a ∷ []) new
  unfolding HoldsAll
  holds_all-more [] epoch n number a old new is_number others holds before =
      let same : number ≡ n = omega (arith, is_number) in
      (subst (λ (k : ℕ). entry_in kept Two epoch k (new (1024 + k)) ≡ Holds a) same holds, tt)
  holds_all-more (x ∷ pending) epoch n number a old new is_number others holds before =
      let away : 1024 + n ≢ 1024 + number = omega (arith, is_number) in (
        rw (others (1024 + n) away) before.0,
        holds_all-more pending epoch (n + 1) number a old new (omega (arith, is_number)) others holds before.1,
      )

module _ {D S A R : Type 0} (kept : Keeping S A R) (disk : Disk D) where
  -- a call that confirms nothing
  pub continues_none : (old new : StoreValue D S A) (accepted : List A) → new.base ≡ old.base
      → new.pending ≡ old.pending ++ accepted → Remains disk old.disk new.disk
      → (IsSoundStore kept disk old → IsSoundStore kept disk new)
      → (IsSoundStore kept disk old → EveryMoment disk old.disk new.disk (StandsForPrefix kept old.base (old.pending ++ accepted)))
      → Ages kept disk old new → Continues kept disk old accepted new
  continues_none old new accepted same_base is_pending remain sound moments aged = record {
    remains = remain;
    confirmed = 0;
    few = omega arith;
    base = fold-nil kept old.base ∙ ap (λ (s : S). Some s) (sym same_base);
    pending = is_pending;
    sound = sound;
    any_moment = moments;
    ages = aged;
  }

  -- a call that confirms all
  pub continues_all : (old new : StoreValue D S A) (accepted : List A)
      → fold kept old.base (old.pending ++ accepted) ≡ Some new.base → new.pending ≡ []
      → Remains disk old.disk new.disk → (IsSoundStore kept disk old → IsSoundStore kept disk new)
      → (IsSoundStore kept disk old → EveryMoment disk old.disk new.disk (StandsForPrefix kept old.base (old.pending ++ accepted)))
      → Ages kept disk old new → Continues kept disk old accepted new
  continues_all old new accepted made none remain sound moments aged =
      let actions = old.pending ++ accepted in record {
        remains = remain;
        confirmed = length actions;
        few = omega arith;
        base = ap (fold kept old.base) (take-length actions) ∙ made;
        pending = none ∙ sym (drop_all (length actions) actions (omega arith));
        sound = sound;
        any_moment = moments;
        ages = aged;
      }

  -- a store whose disk failed is sound where the images still stand
  pub fault-sound : (v : StoreValue D S A) (new : D) → disk.honest new
      → ((c : Image) → disk.may_leave new c → StandsForPrefix kept v.base v.pending c)
      → IsSoundStore kept disk (after_fault v new)
  fault-sound v new honest images = record {
    honest = honest;
    images = images;
    working = λ works. let never : true ≡ false = works in cc;
  }

  -- a store with nothing pending is sound where the images are settled
  pub settled-sound : (v : StoreValue D S A) → v.pending ≡ [] → v.records ≤ 1024 → disk.honest v.disk
      → ((c : Image) → disk.may_leave v.disk c → IsSettled kept v.epoch v.base v.records [] c)
      → IsSoundStore kept disk v
  unfolding HoldsAll
  settled-sound v none few honest settled = record {
    honest = honest;
    images = λ c left. subst (λ (xs : List A). StandsForPrefix kept v.base xs c) (sym none)
        (settled-stands kept v.epoch v.records v.base v.base [] c (omega (arith, few)) (fold-nil kept v.base) (settled c left));
    working = λ works. record {
      settled = λ n is c left.
          let long : length v.pending ≡ 0 = ap length none in
          let same : n ≡ v.records = omega (arith, is, long) in
          subst (λ (xs : List A). IsSettled kept v.epoch v.base n xs c) (sym none)
          (subst (λ (k : ℕ). IsSettled kept v.epoch v.base k [] c) (sym same) (settled c left));
      written = λ n is. subst (λ (xs : List A). HoldsAll kept v.epoch n xs (disk.reads v.disk)) (sym none) tt;
      of_epoch = λ c left. settled-epoch kept v.epoch v.records v.base [] c (settled c left);
    };
  }

  -- a run over a sync
  pub sync-moments : {T E : Type 0} (v : StoreValue D S A) (new : D) (result : Result T E) (more : List A)
      → Called disk v.disk new result → (disk.honest v.disk → Syncs disk v.disk new result) → IsSoundStore kept disk v
      → EveryMoment disk v.disk new (StandsForPrefix kept v.base (v.pending ++ more))
  sync-moments v new result more called did sound =
      let P = StandsForPrefix kept v.base (v.pending ++ more) in
      syncs_on disk v.disk v.disk new P result
      (begins disk v.disk P sound.honest (λ c left. prefix-longer kept v.base v.pending more c (sound.images c left))) called (did sound.honest)

  -- a sync that fails leaves the store sound
  pub sync-fault : {T E : Type 0} (v : StoreValue D S A) (new : D) (result : Result T E)
      → Called disk v.disk new result → (disk.honest v.disk → Syncs disk v.disk new result) → IsSoundStore kept disk v
      → IsSoundStore kept disk (after_fault v new)
  sync-fault v new result called did sound =
      let run = sync-moments v new result [] called did sound in
      fault-sound v new run.honest
      (λ c left. subst (λ (xs : List A). StandsForPrefix kept v.base xs c) (append-nil v.pending)
      (now_has disk v.disk new (StandsForPrefix kept v.base (v.pending ++ [])) run c left))

  -- one that answers Ok confirms all that is pending
  pub sync-confirms : {T E : Type 0} (v : StoreValue D S A) (new : D) (x : T) → IsStore kept disk v → v.failed ≡ false
      → Called {T = T} {E = E} disk v.disk new (Ok x) → (disk.honest v.disk → Syncs {T = T} {E = E} disk v.disk new (Ok x))
      → IsSoundStore kept disk v → IsSoundStore kept disk (after_confirm v new)
  sync-confirms v new x store works called did sound =
      let n = v.records - length v.pending in
      let count : n + length v.pending ≡ v.records = omega (arith, store.recorded) in
      let working = sound.working works in
      let before = disk.reads v.disk in
      let settled = working.settled n count before (disk.reads_left v.disk sound.honest) in
      let confirmed = settled-confirmed kept v.epoch n v.records v.base v.state v.pending before (sym count) store.records
      (working.written n count) store.accepted settled in
      settled-sound (after_confirm v new) refl store.records (called.stays_honest sound.honest)
      (λ c left. subst (IsSettled kept v.epoch v.state v.records []) (sym (image_is c before ((did sound.honest).ok.images c left))) confirmed)

  -- what stands only for a state, where all that is pending was confirmed
  pub sound-stands : (v : StoreValue D S A) → v.pending ≡ [] → v.base ≡ v.state → IsSoundStore kept disk v
      → StandsOnlyFor kept disk v.state v.disk
  sound-stands v none same sound c left =
      let from = sound.images c left in
      let made : Some v.base ≡ Some from.state
      = none_taken v.base from.state from.count (subst (λ (xs : List A). fold kept v.base (take from.count xs) ≡ Some from.state) none from.made) in
      let is : v.state ≡ from.state = cc in
      from.stands ∙ ap (λ (s : S). Ok s) (sym is)
    where
      none_taken : (base s : S) (count : ℕ) → fold kept base (take count []) ≡ Some s → Some base ≡ Some s
      none_taken base s zero made = sym (fold-nil kept base) ∙ made
      none_taken base s (suc n) made = sym (fold-nil kept base) ∙ made

  -- with nothing pending the base is the state
  pub idle-same : (v : StoreValue D S A) → IsStore kept disk v → v.pending ≡ [] → v ≡ after_confirm v v.disk
  idle-same v store none =
      let made : fold kept v.base [] ≡ Some v.state = subst (λ (xs : List A). fold kept v.base xs ≡ Some v.state) none store.accepted in
      let same : v.base ≡ v.state = of_nil kept v.base v.state made in
      λ i. record v { base = same i; pending = none i }

  -- a store whose base caught up and whose pending list was cleared
  module _ (v : StoreValue D S A) (new : D) (base : S) (pending : List A) (caught_up : base ≡ v.state) (cleared : pending ≡ []) where
    pub confirmed-same : after_confirm v new ≡ record v { disk = new; base = base; pending = pending }
    confirmed-same = λ i. record v { disk = new; base = sym caught_up i; pending = sym cleared i }

    pub confirmed-store : {T E : Type 0} (result : Result T E) → Called disk v.disk new result → IsStore kept disk v
        → IsStore kept disk (record v { disk = new; base = base; pending = pending })
    confirmed-store result called store = subst (IsStore kept disk) confirmed-same (record {
      large = omega (arith, called.count, store.large);
      accepted = fold-nil kept v.state;
      few = omega arith;
      recorded = omega arith;
      records = store.records;
      some_epoch = store.some_epoch;
      epoch = store.epoch;
    })

    pub confirmed-continues : {T E : Type 0} (x : T) → IsStore kept disk v → v.failed ≡ false
        → Called {T = T} {E = E} disk v.disk new (Ok x) → (disk.honest v.disk → Syncs {T = T} {E = E} disk v.disk new (Ok x))
        → Continues kept disk v [] (record v { disk = new; base = base; pending = pending })
    confirmed-continues {T} {E} x store works called did =
        subst (Continues kept disk v []) confirmed-same
        (continues_all v (after_confirm v new) [] (ap (fold kept v.base) (append-nil v.pending) ∙ store.accepted) refl
        (remains_on disk v.disk v.disk new (Ok x) (remains disk v.disk) called)
        (λ sound. sync-confirms v new x store works called did sound)
        (λ sound. sync-moments v new (Ok x) [] called did sound)
        (ages-on kept disk v (after_confirm v new) works (omega arith) (sync-epochs kept disk v new (Ok x) called did)))

    pub confirmed-stands : {T E : Type 0} (x : T) → IsStore kept disk v → v.failed ≡ false
        → Called {T = T} {E = E} disk v.disk new (Ok x) → (disk.honest v.disk → Syncs {T = T} {E = E} disk v.disk new (Ok x))
        → IsSoundStore kept disk v → StandsOnlyFor kept disk v.state new
    confirmed-stands x store works called did sound =
        sound-stands (after_confirm v new) refl refl (sync-confirms v new x store works called did sound)
