-- The session of parts.
use Rattle.std.proofs.Common.{◌≡◌, ◌≢◌, ℕ, List, None, Some, inl, inr, refl, sym, ap, subst, ◌∙◌}
use Rattle.session_rules.proofs.Decided.{Decided}
use Rattle.session_store.specs.declared.disk_format.DiskFormat.{DiskFormat}
use Rattle.session_bytes.specs.Parts.{HasRulings, parts_of}
use Rattle.session_bytes.specs.PartsRead.{state_read}
use Rattle.session_bytes.specs.SessionKeeping.{HasPartsOfFormat, decided_has_parts, with_parts, session_of}
use Rattle.session_rules.specs.State.{SessionValue}
use Rattle.session_rules.specs.StateRange.{IsSession}
use Rattle.session_bytes.proofs.SessionBack.{session_back, rulings_back}

with_own_parts : (format : DiskFormat) (s : SessionValue) (parts : List (List ℕ)) (known : Decided (HasPartsOfFormat format s parts)) → HasPartsOfFormat format s parts → with_parts format s parts known ≡ Some s
with_own_parts format s parts (inl has) is = refl
with_own_parts format s parts (inr has_not) is = absurd (has_not is)

with_other_parts : (format : DiskFormat) (s : SessionValue) (parts : List (List ℕ)) (known : Decided (HasPartsOfFormat format s parts)) → ¬ HasPartsOfFormat format s parts → with_parts format s parts known ≡ None
with_other_parts format s parts (inl has) is_not = absurd (is_not has)
with_other_parts format s parts (inr has_not) is_not = refl

found_parts : (format : DiskFormat) (s t : SessionValue) (parts : List (List ℕ)) (known : Decided (HasPartsOfFormat format s parts)) → with_parts format s parts known ≡ Some t → HasPartsOfFormat format t parts
found_parts format s t parts (inl has) found = let same : s ≡ t = let stated : Some s ≡ Some t = found in cc in subst (λ u. HasPartsOfFormat format u parts) same has
found_parts format s t parts (inr has_not) found = let none : None ≡ Some t = found in absurd cc

-- a session is that of its parts in a format that has its rulings
pub session_of_is : (format : DiskFormat) (s : SessionValue) (parts : List (List ℕ)) → IsSession s → HasRulings format s → parts_of format s ≡ parts → session_of format parts ≡ Some s
session_of_is format s parts is of_format same =
    let read : state_read parts ≡ s = ap state_read (sym same) ∙ session_back format s is of_format in
    let has : HasPartsOfFormat format (state_read parts) parts = subst (λ t. HasPartsOfFormat format t parts) (sym read) (is, same) in
    with_own_parts format (state_read parts) parts (decided_has_parts format (state_read parts) parts) has ∙ ap Some read

-- parts that no session has are those of none
pub no_session : (format : DiskFormat) (parts : List (List ℕ)) → ((s : SessionValue) → IsSession s → HasRulings format s → parts_of format s ≢ parts) → session_of format parts ≡ None
no_session format parts none =
    with_other_parts format (state_read parts) parts (decided_has_parts format (state_read parts) parts) (λ has. none (state_read parts) has.0 (rulings_back format (state_read parts) has.0 (ap state_read has.1)) has.1)

-- a session of parts has them
pub has_parts : (format : DiskFormat) (parts : List (List ℕ)) (s : SessionValue) → session_of format parts ≡ Some s → HasPartsOfFormat format s parts
has_parts format parts s found = found_parts format (state_read parts) s parts (decided_has_parts format (state_read parts) parts) found
