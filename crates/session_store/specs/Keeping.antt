-- What a state that a store keeps means: its parts, its actions, its step. What is written is of the second format; what is
-- read may be of either.
use Rattle.std.specs.Prelude.{◌≡◌, ◌≤◌, ℕ, List, [], ◌∷◌, length, Option, Some, None, Result, Ok, Err, All}
use Rattle.session_store.specs.Layout.{part_limit, payload_limit}
use Rattle.session_store.specs.declared.disk_format.DiskFormat.{DiskFormat}
use Rattle.session_store.specs.declared.disk_format.DiskFormat.TheVariants.{Two}

-- The meaning of states S, actions A and refusals R.
pub record Keeping (S A R : Type 0) : Type 1 where
  -- the states, and the actions, that code can hold
  pub IsState : S → Type 0
  pub IsAction : A → Type 0
  -- the parts of a state, each at most 480 bytes; and the state of such parts of a format
  pub parts : S → List (List ℕ)
  pub state_of : DiskFormat → List (List ℕ) → Option S
  -- parts of which some state may be made, so that memory is asked for
  pub MayBe : DiskFormat → List (List ℕ) → Type 0
  -- the bytes of an action, at most 480; and the action of such bytes of a format
  pub action_bytes : A → List ℕ
  pub action_of : DiskFormat → List ℕ → Option A
  -- the state after an action, or why it is refused
  pub step : S → A → Result S R

-- The laws of such a meaning.
pub record IsLawful {S A R : Type 0} (kept : Keeping S A R) : Type 0 where
  -- an action written is read back, and only actions are read
  pub read_back : (a : A) → kept.IsAction a → kept.action_of Two (kept.action_bytes a) ≡ Some a
  pub is_action : (format : DiskFormat) (bytes : List ℕ) (a : A) → kept.action_of format bytes ≡ Some a → kept.IsAction a
  pub action_fits : (a : A) → kept.IsAction a → length (kept.action_bytes a) ≤ payload_limit
  -- a state's parts give an equal state, and only the parts of a state give one
  pub restored : (s : S) → kept.IsState s → kept.state_of Two (kept.parts s) ≡ Some s
  pub is_state : (format : DiskFormat) (parts : List (List ℕ)) (s : S) → kept.state_of format parts ≡ Some s → kept.IsState s
  pub has_parts : (parts : List (List ℕ)) (s : S) → kept.state_of Two parts ≡ Some s → kept.parts s ≡ parts
  pub some_part : (s : S) → kept.IsState s → 1 ≤ length (kept.parts s)
  pub few_parts : (s : S) → kept.IsState s → length (kept.parts s) ≤ part_limit
  pub parts_fit : (s : S) → kept.IsState s → All (λ part. length part ≤ payload_limit) (kept.parts s)
  -- a step from a state leads to a state
  pub steps_to_state : (s : S) (a : A) (t : S) → kept.IsState s → kept.IsAction a → kept.step s a ≡ Ok t → kept.IsState t

module _ {S A R : Type 0} where
  -- the state after these actions, each accepted in turn
  unfoldable pub fold : Keeping S A R → S → List A → Option S
  fold kept s [] = Some s
  fold kept s (a ∷ actions) = elim (kept.step s a) [ Ok t ↦ fold kept t actions | Err _ ↦ None ]
