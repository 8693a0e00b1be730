-- What a store asks of a session holds.
use Rattle.std.proofs.Common.{◌≡◌, Result, Ok, Err, refl, sym, subst, arith}
use Rattle.session_store.specs.Keeping.{IsLawful}
use Rattle.session_store.specs.declared.disk_format.DiskFormat.TheVariants.{Two}
use Rattle.session_rules.specs.declared.action.Action.{Action}
use Rattle.session_rules.specs.declared.refused.Refused.{Refused}
use Rattle.session_bytes.specs.ActionRange.{IsInRange}
use Rattle.session_bytes.specs.Parts.{parts_of}
use Rattle.session_bytes.specs.SessionKeeping.{step_by, session_keeping}
use Rattle.session_rules.specs.State.{SessionValue}
use Rattle.session_rules.specs.StateRange.{IsSession}
use Rattle.session_rules.specs.Step.{step_answer, changed}
use Rattle.session_bytes.proofs.ActionInRange.{read_in_range, action_fits}
use Rattle.session_bytes.proofs.ActionBack.{read_back}
use Rattle.session_bytes.proofs.PartLengths.{parts_fit, few_parts}
use Rattle.session_bytes.proofs.PartIndexes.{count_parts}
use Rattle.session_bytes.proofs.SessionBack.{two_has_rulings}
use Rattle.session_bytes.proofs.SessionOf.{session_of_is, has_parts}
use Rattle.session_bytes.proofs.SessionStays.{step_session}

-- an accepted action leads to a session
steps_by : (s : SessionValue) (a : Action) (t : SessionValue) (answer : Result (Unit {0}) Refused) → answer ≡ step_answer s a → IsSession s → IsInRange a
    → step_by s a answer ≡ Ok t → IsSession t
steps_by s a t (Ok done) given is ranges stepped =
    let same : changed s a ≡ t = let stated : Ok (changed s a) ≡ Ok t = stepped in cc in
    subst IsSession same (step_session a s ranges is (sym given))
steps_by s a t (Err refused) given is ranges stepped = let wrong : Err refused ≡ Ok t = stepped in absurd cc

pub session_is_lawful : IsLawful session_keeping
session_is_lawful = record {
  read_back = read_back;
  is_action = read_in_range;
  action_fits = action_fits;
  restored = λ s is. session_of_is Two s (parts_of Two s) is (two_has_rulings s) refl;
  is_state = λ format parts s found. (has_parts format parts s found).0;
  has_parts = λ parts s found. (has_parts Two parts s found).1;
  some_part = λ s is. omega (arith, count_parts Two s);
  few_parts = few_parts;
  parts_fit = parts_fit;
  steps_to_state = λ s a t is ranges stepped. steps_by s a t (step_answer s a) refl is ranges stepped;
}
