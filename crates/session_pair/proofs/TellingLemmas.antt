-- What settling leaves of a pair.
use Rattle.std.proofs.Common.{◌≡◌, Bool, [], Some, true, false, inl, inr, refl, sym, ap, subst, ◌∙◌}
use Rattle.std.proofs.lemmas.Bool.{cases_Bool}
use Rattle.sector_disk.specs.Disk.{Disk}
use Rattle.session_store.specs.Keeping.{Keeping}
use Rattle.session_store.specs.Value.{StoreValue}
use Rattle.session_store.specs.Store.{Continues}
use Rattle.session_store.specs.Pair.{IsServedPair, IsToldPair, ServedLaw, standing_of}
use Rattle.session_store.specs.Settling.{IsSettledPair, IsSettledAs}
use Rattle.session_store.specs.declared.standing.PairStanding.{PairStanding}
use Rattle.session_store.proofs.SettlingLemmas.{none-still, not_both}
use Rattle.session_pair.specs.Telling.{HasConfirmed, StaysShown, WereServed, of_side, shown_of}

-- where a pair stands somehow and one side has failed, the other works
second-works : (x y : Bool) (found : PairStanding) → x ≡ true → standing_of x y ≡ Some found → y ≡ false
second-works true false found lost is = refl
second-works true true found lost is = cc
second-works false y found lost is = cc

first-works : (x y : Bool) (found : PairStanding) → y ≡ true → standing_of x y ≡ Some found → x ≡ false
first-works false y found lost is = refl
first-works true true found lost is = cc
first-works true false found lost is = cc

-- what is confirmed stays so where nothing is accepted
pub confirmed-still : {D S A R : Type 0} (kept : Keeping S A R) (disk : Disk D) (v v' : StoreValue D S A) → Continues kept disk v [] v'
    → HasConfirmed v → HasConfirmed v'
confirmed-still {D} {S} {A} {R} kept disk v v' call confirmed works = elim (cases_Bool v.failed) [
  | inl lost ↦ not_both v' (ap (λ (x : StoreValue D S A). x.failed) (call.ages.rests lost) ∙ lost) works
  | inr worked ↦ none-still kept disk v v' call (confirmed worked)
]

module _ {D E S A R : Type 0} (kept : Keeping S A R) (first : Disk D) (second : Disk E) (v v' : StoreValue D S A) (w w' : StoreValue E S A) where
  module _ {X : Type 0} (found : PairStanding) (calls : Continues kept first v [] v') (calls' : Continues kept second w [] w') (rests : IsSettledPair v w → X × (v' ≡ v) × (w' ≡ w)) (settled : IsSettledAs v w v' w' found) where
    -- where both disks are kept
    level : v.failed ≡ false → w.failed ≡ false → StaysShown v w v' w'
    level works works' =
        let same = rests (inl (works, works')) in
        let failed = ap (λ (x : StoreValue D S A). x.failed) same.1 in
        record {
          works = inl (failed ∙ works);
          lost = failed;
          state = ap (λ (x : StoreValue D S A). shown_of x w') same.1 ∙ ap (λ (y : StoreValue E S A). shown_of v y) same.2;
        }

    -- where the first was lost
    first_lost : v.failed ≡ true → StaysShown v w v' w'
    first_lost lost =
        let failed = ap (λ (x : StoreValue D S A). x.failed) (calls.ages.rests lost) in
        let lost' = failed ∙ lost in
        let works = second-works v'.failed w'.failed found lost' settled.0 in
        record {
          works = inr works;
          lost = failed;
          state = ap (λ (b : Bool). of_side b v'.state w'.state) lost' ∙ settled.2 ∙ sym (ap (λ (b : Bool). of_side b v.state w.state) lost);
        }

    -- where the second was lost, and not the first
    second_lost : v.failed ≡ false → w.failed ≡ true → StaysShown v w v' w'
    second_lost works lost =
        let lost' = ap (λ (y : StoreValue E S A). y.failed) (calls'.ages.rests lost) ∙ lost in
        let works' = first-works v'.failed w'.failed found lost' settled.0 in
        record {
          works = inl works';
          lost = works' ∙ sym works;
          state = ap (λ (b : Bool). of_side b v'.state w'.state) works' ∙ settled.1 ∙ sym (ap (λ (b : Bool). of_side b v.state w.state) works);
        }

    pub stays : StaysShown v w v' w'
    stays = elim (cases_Bool v.failed) [
      | inl lost ↦ first_lost lost
      | inr works ↦ elim (cases_Bool w.failed) [
        | inl lost ↦ second_lost works lost
        | inr works' ↦ level works works'
      ]
    ]

  -- what is shown of a pair that was served and settled may be told
  pub tells : (u : StoreValue D S A) (x : StoreValue E S A) → ServedLaw kept first second → WereServed kept first second u x v w
      → (v.failed ≡ false → v.state ≡ shown_of v w) → (w.failed ≡ false → w.state ≡ shown_of v w)
      → ((s : S) → IsServedPair kept first second v w s → IsToldPair kept first second v' w' s)
      → shown_of v' w' ≡ shown_of v w → IsToldPair kept first second v' w' (shown_of v' w')
  tells u x law served state state' settles same =
      let both = law u v x w served.state (shown_of v w) served.accepted served.accepted_second served.told.served.in_step
      served.first_served served.second_served state state' in
      subst (λ (s : S). IsToldPair kept first second v' w' s) (sym same)
      (settles (shown_of v w) (both.1 served.first_confirmed served.second_confirmed))
