-- What a caller of a store carries from call to call: one `Continues`, which begins at `continues_begins` and goes on by
-- `continues_joins`.
use Rattle.std.specs.Prelude.{◌≡◌, ◌≤◌, ◌+◌, ℕ, List, [], ◌∷◌, ◌++◌, length, take, drop, Some, None, Result, Ok, Err}
use Rattle.std.proofs.Common.{refl, sym, ap, subst, ◌∙◌, arith, append_assoc, append-nil, length-append}
use Rattle.std.proofs.Math.Seq.{take-add}
use Rattle.std.proofs.lemmas.List.{drop-drop, drop-append-le, take-append-le, length-drop}
use Rattle.sector_disk.specs.Disk.{Image, Disk}
use Rattle.sector_disk.proofs.RunLaws.{begins, weakens, joins, remains, remains_joins}
use Rattle.session_store.specs.Keeping.{Keeping, fold}
use Rattle.session_store.specs.Base.{StandsForPrefix}
use Rattle.session_store.specs.Value.{StoreValue}
use Rattle.session_store.specs.Store.{Continues}
use Rattle.session_store.proofs.AgeLemmas.{ages-begin, ages-join}

module _ {S A R : Type 0} (kept : Keeping S A R) where
  -- the state after some actions and then others
  pub fold-append : (xs ys : List A) (s t : S) → fold kept s xs ≡ Some t → fold kept s (xs ++ ys) ≡ fold kept t ys
  unfolding fold
  fold-append [] ys s t made = let stated : Some s ≡ Some t = made in let same : s ≡ t = cc in ap (λ (x : S). fold kept x ys) same
  fold-append (a ∷ xs) ys s t made = on (kept.step s a) (λ u more. fold-append xs ys u t more) made
    where
      on : (r : Result S R) → ((u : S) → fold kept u xs ≡ Some t → fold kept u (xs ++ ys) ≡ fold kept t ys)
          → elim r [ Ok u ↦ fold kept u xs | Err _ ↦ None ] ≡ Some t
          → elim r [ Ok u ↦ fold kept u (xs ++ ys) | Err _ ↦ None ] ≡ fold kept t ys
      on (Ok u) next more = next u more
      on (Err _) next more = absurd (cc)

  -- and after the first k actions and n behind them
  pub fold-behind : (start base s : S) (actions : List A) (k n : ℕ) → fold kept start (take k actions) ≡ Some base
      → fold kept base (take n (drop k actions)) ≡ Some s → fold kept start (take (k + n) actions) ≡ Some s
  fold-behind start base s actions k n made more =
      ap (fold kept start) (take-add k n actions) ∙ fold-append (take k actions) (take n (drop k actions)) start base made ∙ more

  -- what stands for the base with a prefix of some actions does so with more of them
  pub prefix-longer : (base : S) (actions more : List A) (c : Image) → StandsForPrefix kept base actions c
      → StandsForPrefix kept base (actions ++ more) c
  prefix-longer base actions more c from = record {
    count = from.count;
    few = simp length-append (omega (arith, from.few));
    state = from.state;
    made = ap (fold kept base) (take-append-le from.count actions more from.few) ∙ from.made;
    stands = from.stands;
    in_order = from.in_order;
  }

  -- and with those that led to the base
  pub prefix-behind : (start base : S) (actions : List A) (k : ℕ) (c : Image) → k ≤ length actions
      → fold kept start (take k actions) ≡ Some base → StandsForPrefix kept base (drop k actions) c
      → StandsForPrefix kept start actions c
  prefix-behind start base actions k c within made from = record {
    count = k + from.count;
    few = let long = length-drop k actions in omega (arith, within, from.few, long);
    state = from.state;
    made = fold-behind start base from.state actions k from.count made from.made;
    stands = from.stands;
    in_order = from.in_order;
  }

module _ {D S A R : Type 0} (kept : Keeping S A R) (disk : Disk D) where
  -- no more are pending than were, and were accepted since
  pub few_pending : (old new : StoreValue D S A) (accepted : List A) → Continues kept disk old accepted new
      → length new.pending ≤ length old.pending + length accepted
  few_pending old new accepted call =
      let all : List A = old.pending ++ accepted in
      let long : length all ≡ length old.pending + length accepted = length-append old.pending accepted in
      let left : length new.pending ≡ length (drop call.confirmed all) = ap length call.pending in
      let rest = length-drop call.confirmed all in
      omega (arith, long, left, rest)

  -- before the first call
  pub continues_begins : (old : StoreValue D S A) → Continues kept disk old [] old
  unfolding fold
  continues_begins old = record {
    remains = remains disk old.disk;
    confirmed = 0;
    few = omega arith;
    base = refl;
    pending = sym (append-nil old.pending);
    sound = λ sound. sound;
    any_moment = λ sound.
        begins disk old.disk (StandsForPrefix kept old.base (old.pending ++ [])) sound.honest
        (λ c left. prefix-longer kept old.base old.pending [] c (sound.images c left));
    ages = ages-begin kept disk old;
  }

  -- calls, and then others
  pub continues_joins : (old mid new : StoreValue D S A) (first second : List A) → Continues kept disk old first mid
      → Continues kept disk mid second new → Continues kept disk old (first ++ second) new
  continues_joins old mid new first second a b =
      let all : List A = old.pending ++ (first ++ second) in
      let split : (old.pending ++ first) ++ second ≡ all = append_assoc old.pending first second in
      let within : a.confirmed ≤ length all
      = subst (λ (xs : List A). a.confirmed ≤ length xs) split (simp length-append (let few = a.few in let long = length-append old.pending first in omega (arith, few, long))) in
      let behind : mid.pending ++ second ≡ drop a.confirmed all
      = ap (λ (xs : List A). xs ++ second) a.pending ∙ sym (drop-append-le a.confirmed (old.pending ++ first) second a.few) ∙ ap (drop a.confirmed) split in
      let made : fold kept old.base (take a.confirmed all) ≡ Some mid.base
      = ap (fold kept old.base) (sym (ap (take a.confirmed) split) ∙ take-append-le a.confirmed (old.pending ++ first) second a.few) ∙ a.base in
      let few : b.confirmed ≤ length (drop a.confirmed all) = subst (λ (xs : List A). b.confirmed ≤ length xs) behind b.few in
      let rest = length-drop a.confirmed all in record {
        remains = remains_joins disk old.disk mid.disk new.disk a.remains b.remains;
        confirmed = a.confirmed + b.confirmed;
        few = omega (arith, within, few, rest);
        base = fold-behind kept old.base mid.base new.base all a.confirmed b.confirmed made
            (subst (λ (xs : List A). fold kept mid.base (take b.confirmed xs) ≡ Some new.base) behind b.base);
        pending = b.pending ∙ ap (drop b.confirmed) behind ∙ drop-drop b.confirmed a.confirmed all;
        sound = λ sound. b.sound (a.sound sound);
        any_moment = λ sound.
            let P = StandsForPrefix kept old.base all in
            joins disk old.disk mid.disk new.disk P
            (weakens disk old.disk mid.disk (StandsForPrefix kept old.base (old.pending ++ first)) (a.any_moment sound) P
            (λ c from. subst (λ (xs : List A). StandsForPrefix kept old.base xs c) split (prefix-longer kept old.base (old.pending ++ first) second c from)))
            (weakens disk mid.disk new.disk (StandsForPrefix kept mid.base (mid.pending ++ second)) (b.any_moment (a.sound sound)) P
            (λ c from. prefix-behind kept old.base mid.base all a.confirmed c within made
            (subst (λ (xs : List A). StandsForPrefix kept mid.base xs c) behind from)));
        ages = ages-join kept disk old mid new a.sound a.ages b.ages;
      }
