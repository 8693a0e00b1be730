-- Over whole runs a power cut loses none of the confirmed actions.
use Rattle.std.proofs.Common.{◌≡◌, ◌≤◌, ◌+◌, ◌-◌, ℕ, List, [], ◌∷◌, ◌++◌, length, take, drop, Some, Ok, refl, sym, ap, subst, ◌∙◌, arith, length-append, append-nil}
use Rattle.std.proofs.lemmas.List.{drop-drop, drop-append-le, take-append-le, take-take, drop_all, length-drop, length-take-le}
use Rattle.sector_disk.specs.Disk.{Image, Disk}
use Rattle.sector_disk.proofs.ImageLaws.{image_is}
use Rattle.sector_disk.proofs.RunLaws.{now_has}
use Rattle.session_store.specs.Keeping.{Keeping, fold}
use Rattle.session_store.specs.Stands.{recovered, IsInOrder}
use Rattle.session_store.specs.Base.{StandsForPrefix}
use Rattle.session_store.specs.Sound.{IsSoundDisk}
use Rattle.session_store.specs.Opening.{IsStillSound, IsOpened}
use Rattle.session_store.specs.Value.{StoreValue}
use Rattle.session_store.specs.Store.{IsSoundStore, Continues}
use Rattle.session_store.specs.Run.{Place, AtRest, AtWork, Doing, Calls, Waits, Closes, Opens, Fails, Event, Done, Cut, RunStanding, accepts, StandsForAtLeast, IsLongest, Does, MayLeave, HoldsOnly, Happens, Runs, FormattedLaw, CrashLaw}
use Rattle.session_store.proofs.CallLaws.{fold-behind}
use Rattle.session_store.proofs.StandsLemmas.{fold-nil}
use Rattle.session_store.proofs.StoreLemmas.{of_nil}
use Rattle.session_store.proofs.OpeningLemmas.{reading-ok}
use Rattle.session_store.proofs.OpenLemmas.{store-sound}

module _ {D S A R : Type 0} (kept : Keeping S A R) (disk : Disk D) (start : S) where
  -- what stands for the base of the confirmed actions with a prefix of the others
  prefix_at_least : (actions : List A) (k : ℕ) (base : S) (c : Image) → k ≤ length actions
      → fold kept start (take k actions) ≡ Some base → StandsForPrefix kept base (drop k actions) c
      → StandsForAtLeast kept disk start actions k c
  prefix_at_least actions k base c within made from = record {
    count = k + from.count;
    enough = omega arith;
    few = let long = length-drop k actions in omega (arith, within, from.few, long);
    state = from.state;
    made = fold-behind kept start base from.state actions k from.count made from.made;
    stands = from.stands;
    in_order = from.in_order;
  }

  -- the longest prefix has them all
  longest_enough : (actions : List A) (k n : ℕ) (c : Image) → StandsForAtLeast kept disk start actions k c
      → IsLongest kept disk start actions c n → k ≤ n
  longest_enough actions k n c stands longest =
      let most = longest.longest stands.count stands.state stands.few stands.made stands.stands in
      omega (arith, stands.enough, most)

  -- and alone it is enough
  longest_at_least : (actions : List A) (k n : ℕ) (c : Image) → IsInOrder c → k ≤ n → IsLongest kept disk start actions c n
      → StandsForAtLeast kept disk start (take n actions) k c
  longest_at_least actions k n c in_order enough longest = record {
    count = n;
    enough = enough;
    few = let long = length-take-le n actions longest.few in omega (arith, long);
    state = longest.state;
    made = ap (fold kept start) (take-take n n actions (omega arith)) ∙ longest.made;
    stands = longest.stands;
    in_order = in_order;
  }

  -- a store with its accepted actions
  record IsGoodStore (v : StoreValue D S A) (accepted : List A) (confirmed : ℕ) : Type 0 where
    sound : IsSoundStore kept disk v
    large : 2048 ≤ disk.count v.disk
    few : confirmed ≤ length accepted
    base : fold kept start (take confirmed accepted) ≡ Some v.base
    pending : v.pending ≡ drop confirmed accepted

  -- a disk with them
  record IsGoodDisk (d : D) (accepted : List A) (confirmed : ℕ) : Type 0 where
    sound : IsSoundDisk kept disk d
    images : (c : Image) → disk.may_leave d c → StandsForAtLeast kept disk start accepted confirmed c

  IsGood : Place D S A → List A → ℕ → Type 0
  IsGood (AtWork v) accepted confirmed = IsGoodStore v accepted confirmed
  IsGood (AtRest d) accepted confirmed = IsGoodDisk d accepted confirmed

  -- every image of a store
  store_images : (v : StoreValue D S A) (accepted : List A) (confirmed : ℕ) → IsGoodStore v accepted confirmed
      → (c : Image) → disk.may_leave v.disk c → StandsForAtLeast kept disk start accepted confirmed c
  store_images v accepted confirmed good c left =
      prefix_at_least accepted confirmed v.base c good.few good.base
      (subst (λ (xs : List A). StandsForPrefix kept v.base xs c) good.pending (good.sound.images c left))

  -- what a call finds accepted
  module _ (v w : StoreValue D S A) (accepted more : List A) (confirmed : ℕ) (good : IsGoodStore v accepted confirmed)
      (call : Continues kept disk v more w) where
    behind : v.pending ++ more ≡ drop confirmed (accepted ++ more)
    behind = ap (λ (xs : List A). xs ++ more) good.pending ∙ sym (drop-append-le confirmed accepted more good.few)

    base_of : fold kept start (take confirmed (accepted ++ more)) ≡ Some v.base
    base_of = ap (fold kept start) (take-append-le confirmed accepted more good.few) ∙ good.base

    within : confirmed ≤ length (accepted ++ more)
    within = simp length-append (omega (arith, good.few))

    call_images : (c : Image) → disk.left_since w.disk (disk.moment v.disk) c
        → StandsForAtLeast kept disk start (accepted ++ more) confirmed c
    call_images c left =
        prefix_at_least (accepted ++ more) confirmed v.base c within base_of
        (subst (λ (xs : List A). StandsForPrefix kept v.base xs c) behind ((call.any_moment good.sound).each c left))

    call_good : (now : ℕ) → now + length w.pending ≡ length (accepted ++ more)
        → IsGoodStore w (accepted ++ more) now
    call_good now counted =
        let all = accepted ++ more in
        let n = call.confirmed in
        let is_pending : w.pending ≡ drop (confirmed + n) all
        = call.pending ∙ ap (drop n) behind ∙ drop-drop n confirmed all in
        let few : n ≤ length (drop confirmed all) = subst (λ (xs : List A). n ≤ length xs) behind call.few in
        let long = length-drop confirmed all in
        let left : length w.pending ≡ length all - (confirmed + n) = ap length is_pending ∙ length-drop (confirmed + n) all in
        let same : confirmed + n ≡ now = omega (arith, within, few, long, left, counted) in
        record {
          sound = call.sound good.sound;
          large = omega (arith, call.remains.count, good.large);
          few = omega (arith, counted);
          base = subst (λ (k : ℕ). fold kept start (take k all) ≡ Some w.base) same
              (fold-behind kept start v.base w.base all confirmed n base_of
              (subst (λ (xs : List A). fold kept v.base (take n xs) ≡ Some w.base) behind call.base));
          pending = is_pending ∙ ap (λ (k : ℕ). drop k all) same;
        }

  -- while a disk is opened
  still_images : (d : D) (accepted : List A) (confirmed : ℕ) → IsGoodDisk d accepted confirmed
      → (c : Image) → IsStillSound kept (disk.may_leave d) c → StandsForAtLeast kept disk start accepted confirmed c
  still_images d accepted confirmed good c still =
      let from = good.images still.start still.was_there in
      let both : Ok from.state ≡ Ok still.state = sym from.stands ∙ still.stood in
      let same : from.state ≡ still.state = cc in
      record {
        count = from.count;
        enough = from.enough;
        few = from.few;
        state = still.state;
        made = from.made ∙ ap (λ (s : S). Some s) same;
        stands = still.stands;
        in_order = still.in_order;
      }

  opened_good : (d : D) (v : StoreValue D S A) (accepted : List A) (confirmed now : ℕ) → IsGoodDisk d accepted confirmed
      → IsOpened kept disk d v → IsLongest kept disk start accepted (disk.reads d) now → IsGoodStore v (take now accepted) now
  opened_good d v accepted confirmed now good opened longest =
      let honest = good.sound.honest in
      let found = reading-ok kept (disk.reads d) v.state (opened.state honest) in
      let both : Ok longest.state ≡ Ok v.state = sym longest.stands ∙ found in
      let same : longest.state ≡ v.state = cc in
      let base : v.base ≡ v.state
      = of_nil kept v.base v.state (subst (λ (xs : List A). fold kept v.base xs ≡ Some v.state) opened.none_pending opened.accepted) in
      let long = length-take-le now accepted longest.few in
      record {
        sound = opened.sound good.sound;
        large = omega (arith, opened.remains.count, good.sound.large);
        few = omega (arith, long);
        base = ap (fold kept start) (take-take now now accepted (omega arith)) ∙ longest.made ∙ ap (λ (s : S). Some s) (same ∙ sym base);
        pending = opened.none_pending ∙ sym (drop_all now (take now accepted) (omega (arith, long)));
      }

  -- what a power cut may leave while something is done
  images : (place : Place D S A) (accepted : List A) (confirmed : ℕ) (x : Doing D S A) (t : RunStanding D S A)
      → IsGood place accepted confirmed → Does kept disk start place accepted confirmed x t
      → (c : Image) → MayLeave kept disk place x c → StandsForAtLeast kept disk start (accepted ++ accepts x) confirmed c
  unfolding IsGood
  images (AtWork v) accepted confirmed (Calls actions w) t good did c left = call_images v w accepted actions confirmed good did.0 c left
  images (AtWork v) accepted confirmed Waits t good did c left =
      subst (λ (xs : List A). StandsForAtLeast kept disk start xs confirmed c) (sym (append-nil accepted)) (store_images v accepted confirmed good c left)
  images (AtWork v) accepted confirmed Closes t good did c left =
      subst (λ (xs : List A). StandsForAtLeast kept disk start xs confirmed c) (sym (append-nil accepted)) (store_images v accepted confirmed good c left)
  images (AtWork v) accepted confirmed (Opens w) t good did c left = absurd did
  images (AtWork v) accepted confirmed (Fails e) t good did c left = absurd did
  images (AtRest d) accepted confirmed (Calls actions w) t good did c left = absurd did
  images (AtRest d) accepted confirmed Closes t good did c left = absurd did
  images (AtRest d) accepted confirmed Waits t good did c left =
      subst (λ (xs : List A). StandsForAtLeast kept disk start xs confirmed c) (sym (append-nil accepted)) (good.images c left)
  images (AtRest d) accepted confirmed (Opens w) t good did c left =
      subst (λ (xs : List A). StandsForAtLeast kept disk start xs confirmed c) (sym (append-nil accepted))
      (still_images d accepted confirmed good c ((did.0.any_moment good.sound).each c left))
  images (AtRest d) accepted confirmed (Fails e) t good did c left =
      subst (λ (xs : List A). StandsForAtLeast kept disk start xs confirmed c) (sym (append-nil accepted))
      (still_images d accepted confirmed good c ((did.0.any_moment good.sound).each c left))

  -- the place, the actions and their number are those of a standing
  at : (t : RunStanding D S A) (place : Place D S A) (accepted : List A) (confirmed : ℕ) → t.place ≡ place → t.accepted ≡ accepted
      → t.confirmed ≡ confirmed → IsGood place accepted confirmed → IsGood t.place t.accepted t.confirmed
  at t place accepted confirmed is_place is_accepted is_confirmed good =
      subst (λ (p : Place D S A). IsGood p t.accepted t.confirmed) (sym is_place)
      (subst (λ (xs : List A). IsGood place xs t.confirmed) (sym is_accepted)
      (subst (λ (k : ℕ). IsGood place accepted k) (sym is_confirmed) good))

  -- what is done leaves a good standing
  done : (place : Place D S A) (accepted : List A) (confirmed : ℕ) (x : Doing D S A) (t : RunStanding D S A)
      → IsGood place accepted confirmed → Does kept disk start place accepted confirmed x t → IsGood t.place t.accepted t.confirmed
  unfolding IsGood
  done (AtWork v) accepted confirmed (Calls actions w) t good did =
      at t (AtWork w) (accepted ++ actions) t.confirmed did.1 did.2 refl
      (call_good v w accepted actions confirmed good did.0 t.confirmed (did.3 ∙ ap length did.2))
  done (AtWork v) accepted confirmed Waits t good did = at t (AtWork v) accepted confirmed did.0 did.1 did.2 good
  done (AtWork v) accepted confirmed Closes t good did =
      at t (AtRest v.disk) accepted confirmed did.0 did.1 did.2 (record {
        sound = store-sound kept disk v good.large good.sound;
        images = store_images v accepted confirmed good;
      })
  done (AtWork v) accepted confirmed (Opens w) t good did = absurd did
  done (AtWork v) accepted confirmed (Fails e) t good did = absurd did
  done (AtRest d) accepted confirmed (Calls actions w) t good did = absurd did
  done (AtRest d) accepted confirmed Closes t good did = absurd did
  done (AtRest d) accepted confirmed Waits t good did = at t (AtRest d) accepted confirmed did.0 did.1 did.2 good
  done (AtRest d) accepted confirmed (Opens w) t good did =
      at t (AtWork w) (take t.confirmed accepted) t.confirmed did.2 did.3 refl
      (opened_good d w accepted confirmed t.confirmed good did.0 did.1)
  done (AtRest d) accepted confirmed (Fails e) t good did =
      at t (AtRest e) accepted confirmed did.1 did.2 did.3 (record {
        sound = did.0.stays_sound good.sound;
        images = λ c left. still_images d accepted confirmed good c
            (now_has disk d e (IsStillSound kept (disk.may_leave d)) (did.0.any_moment good.sound) c left);
      })

  -- a power cut too
  cut_good : (actions : List A) (k n : ℕ) (image : Image) (d : D) → StandsForAtLeast kept disk start actions k image
      → IsLongest kept disk start actions image n → HoldsOnly kept disk image d → IsGoodDisk d (take n actions) k
  cut_good actions k n image d stands longest holds =
      let enough = longest_enough actions k n image stands longest in
      let alone = longest_at_least actions k n image stands.in_order enough longest in
      record {
        sound = record {
          honest = holds.honest;
          large = holds.large;
          stands = λ c left. (longest.state, subst (λ (i : Image). recovered kept i ≡ Ok longest.state) (sym (image_is c image (holds.only c left))) longest.stands);
          in_order = λ c left. subst IsInOrder (sym (image_is c image (holds.only c left))) stands.in_order;
        };
        images = λ c left. subst (λ (i : Image). StandsForAtLeast kept disk start (take n actions) k i) (sym (image_is c image (holds.only c left))) alone;
      }

  happens : (s : RunStanding D S A) (e : Event D S A) (t : RunStanding D S A) → IsGood s.place s.accepted s.confirmed
      → Happens kept disk start s e t → IsGood t.place t.accepted t.confirmed
  unfolding IsGood
  happens s (Done x) t good did = done s.place s.accepted s.confirmed x t good did
  happens s (Cut x image d) t good did =
      let cut = did.1 in
      let stands = images s.place s.accepted s.confirmed x did.0.0 good did.0.1 image cut.1 in
      at t (AtRest d) (take cut.0.0 (s.accepted ++ accepts x)) s.confirmed cut.3 cut.0.2 cut.4
      (cut_good (s.accepted ++ accepts x) s.confirmed cut.0.0 image d stands cut.0.1 cut.2)

  runs : (events : List (Event D S A)) (s t : RunStanding D S A) → IsGood s.place s.accepted s.confirmed
      → Runs kept disk start s events t → IsGood t.place t.accepted t.confirmed
  unfolding Runs
  runs [] s t good same = subst (λ (m : RunStanding D S A). IsGood m.place m.accepted m.confirmed) same good
  runs (e ∷ events) s t good went = runs events went.0 t (happens s e went.0 good went.1) went.2

-- a formatted disk is a beginning
pub formatted : {D S A R : Type 0} (kept : Keeping S A R) (disk : Disk D) → FormattedLaw kept disk
formatted kept disk start d sound stands = record {
  honest = sound.honest;
  large = sound.large;
  images = λ image may. record {
    count = 0;
    enough = omega arith;
    few = omega arith;
    state = start;
    made = fold-nil kept start;
    stands = stands image may;
    in_order = sound.in_order image may;
  };
}

pub crash_law : {D S A R : Type 0} (kept : Keeping S A R) (disk : Disk D) → CrashLaw kept disk
unfolding IsGood
crash_law kept disk start accepted confirmed d beginning events s went x t did c left =
    let first : IsGoodDisk kept disk start d accepted confirmed = record {
      sound = record {
        honest = beginning.honest;
        large = beginning.large;
        stands = λ image may. ((beginning.images image may).state, (beginning.images image may).stands);
        in_order = λ image may. (beginning.images image may).in_order;
      };
      images = beginning.images;
    } in
    images kept disk start s.place s.accepted s.confirmed x t
    (runs kept disk start events (record { place = AtRest d; accepted = accepted; confirmed = confirmed }) s first went) did c left
