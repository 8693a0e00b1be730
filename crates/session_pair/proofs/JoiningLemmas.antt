-- Sessions on two disks.
use Rattle.std.proofs.Common.{◌≡◌, ◌↔◌, ◌⊎◌, ◌<◌, ◌≤◌, Bool, Result, Ok, Err, IfOk, true, false, inl, inr, sym, ap, subst, ◌∙◌}
use Rattle.std.proofs.lemmas.Bool.{cases_lt, cases_Bool}
use Rattle.sector_disk.specs.Disk.{Disk}
use Rattle.sector_disk.specs.Runs.{Quiet}
use Rattle.bridge_config.specs.ConfigValue.{ConfigValue}
use Rattle.bridge_session.specs.SessionKeeping.{session_keeping}
use Rattle.session_rules.specs.declared.action.Action.{Action}
use Rattle.session_rules.specs.State.{SessionValue, opening}
use Rattle.session_store.specs.Looking.{IsUnseen}
use Rattle.session_store.specs.PairOpening.{IsPairOpened}
use Rattle.session_store.specs.Stands.{header_in}
use Rattle.session_store.specs.Value.{StoreValue}
use Rattle.session_store.specs.declared.fault.PairFault.{PairFault}
use Rattle.session_store.specs.declared.fault.StoreFault.{StoreFault}
use Rattle.session_store.specs.declared.fault.StoreFault.TheVariants.{TooSmall}
use Rattle.session_pair.specs.Joining.{HasJoined, IsOne, OpensInOrder, SeesBoth}
use Rattle.session_pair.specs.Unjoined.{pair_fault, AreInOrder, IsNotOpened, IsUnopened, IsUnopenedInOrder, IsUnread}
use Rattle.session_pair.specs.declared.joining.Judged.{Judged}
use Rattle.session_pair.specs.declared.joining.JoinFault.{JoinFault}

-- sessions as two configurations begin them are the same where these are
pub one_configuration : (a b : ConfigValue) (s t : SessionValue) (same : Bool) → s ≡ opening a → t ≡ opening b
    → ((same ≡ true) ↔ (s ≡ t)) → (same ≡ true) ↔ (a ≡ b)
one_configuration a b s t same begun begun' decides = (
  λ is. ap (λ (x : SessionValue). x.configuration) (sym begun ∙ decides.0 is ∙ begun'),
  λ one. decides.1 (begun ∙ ap opening one ∙ sym begun'),
)

module _ {D : Type 0} (disk : Disk D) (d e d' e' : D) (judged found : Judged) (v w : StoreValue D SessionValue Action) (sees : SeesBoth disk d e d' e' judged) where
  -- a session was opened on both, the disk first
  pub disk_taken : judged.disk_first ≡ true → found ≡ judged → IsPairOpened session_keeping disk disk d' e' v w → IsOne v w
      → HasJoined disk d e found v w
  disk_taken first same opened works = record {
    read = d';
    other_read = e';
    sees = subst (λ (j : Judged). SeesBoth disk d e d' e' j) (sym same) sees;
    opened = subst (λ (b : Bool). OpensInOrder disk b d' e' v w) (sym (ap (λ (j : Judged). j.disk_first) same ∙ first)) opened;
    works = works;
  }

  -- or the copy
  pub copy_taken : judged.disk_first ≡ false → found ≡ judged → IsPairOpened session_keeping disk disk e' d' v w → IsOne v w
      → HasJoined disk d e found v w
  copy_taken first same opened works = record {
    read = d';
    other_read = e';
    sees = subst (λ (j : Judged). SeesBoth disk d e d' e' j) (sym same) sees;
    opened = subst (λ (b : Bool). OpensInOrder disk b d' e' v w) (sym (ap (λ (j : Judged). j.disk_first) same ∙ first)) opened;
    works = works;
  }

module _ {D : Type 0} (disk : Disk D) (d e d' e' : D) (fault : JoinFault) where
  -- they could not be opened, the disk first
  pub disk_unopened : (disk_first : Bool) → disk_first ≡ true → IsUnopened disk disk_first d e d' e' fault
      → IsUnopenedInOrder disk disk_first d e d' e' fault
  disk_unopened true first why = why
  disk_unopened false first why = cc

  -- or the copy
  pub copy_unopened : (disk_first : Bool) → disk_first ≡ false → IsUnopened disk disk_first e d d' e' fault
      → IsUnopenedInOrder disk disk_first d e d' e' fault
  copy_unopened false second why = why
  copy_unopened true second why = cc

-- what is not decided for does not hold
pub decided_not : (decided : Bool) (P : Type 0) → (P → decided ≡ true) → decided ≡ false → ¬ P
decided_not decided P decides none holds = never (sym (decides holds) ∙ none)
  where
    never : true ≡ false → ⊥
    never same = cc

-- of a pair that was opened, where not both stores work and have confirmed all, the second was lost
pub second_lost : {D : Type 0} (disk : Disk D) (d e : D) (v w : StoreValue D SessionValue Action)
    → IsPairOpened session_keeping disk disk d e v w → ¬ (IsOne v w) → w.failed ≡ true
second_lost disk d e v w opened none = of_copy (cases_Bool w.failed)
  where
    of_copy : (w.failed ≡ true) ⊎ (w.failed ≡ false) → w.failed ≡ true
    of_copy (inl lost) = lost
    of_copy (inr works) = absurd (none (opened.works, works, opened.none_pending.0, opened.none_pending.1))

-- a pair that was not opened, by what came back of it
pub unopened : {D : Type 0} (disk : Disk D) (first second a b d' e' : D) (disk_first : Bool) (cause : PairFault) (fault : JoinFault)
    → IsNotOpened disk first second a b cause → fault ≡ pair_fault disk_first cause → AreInOrder disk_first a b d' e'
    → IsUnopened disk disk_first first second d' e' fault
unopened disk first second a b d' e' true cause fault why is back =
    (cause, is, subst (λ x. IsNotOpened disk first second x e' cause) (sym back.0) (subst (λ y. IsNotOpened disk first second a y cause) (sym back.1) why))
unopened disk first second a b d' e' false cause fault why is back =
    (cause, is, subst (λ x. IsNotOpened disk first second x d' cause) (sym back.1) (subst (λ y. IsNotOpened disk first second a y cause) (sym back.0) why))

-- what three clauses say of an answer they say together
pub ok_with : {X E : Type 0} (P Q R T : X → Type 0) (r : Result X E) → ((x : X) → P x → Q x → R x → T x)
    → IfOk r P → IfOk r Q → IfOk r R → IfOk r T
ok_with P Q R T (Ok x) all p q t = all x p q t
ok_with P Q R T (Err e) all p q t = tt

-- why reading a disk gave no session
pub unread : {D X : Type 0} (disk : Disk D) (d left : D) (result : Result X StoreFault) (fault : StoreFault) → result ≡ Err fault
    → Quiet disk d left → (disk.count d < 2048 → (result ≡ Err TooSmall) × (left ≡ d))
    → (2048 ≤ disk.count d → IsUnseen session_keeping disk header_in d left fault) → IsUnread disk d left fault
unread {X = X} disk d left result fault is quiet small unseen = (quiet, at (cases_lt (disk.count d) 2048))
  where
    named : result ≡ Err TooSmall → fault ≡ TooSmall
    named too_small = ap (λ (r : Result X StoreFault). elim r [ Ok _ ↦ fault | Err e ↦ e ]) (sym is ∙ too_small)

    at : (disk.count d < 2048) ⊎ (2048 ≤ disk.count d)
        → ((disk.count d < 2048) × (fault ≡ TooSmall)) ⊎ IsUnseen session_keeping disk header_in d left fault
    at (inl few) = inl (few, named (small few).0)
    at (inr many) = inr (unseen many)
