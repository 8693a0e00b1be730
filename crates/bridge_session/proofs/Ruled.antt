-- A session after a ruling.
use Rattle.std.proofs.Common.{◌≡◌, ℕ, Bool, true, false, cond, List, Option, Some, None, Err, refl, sym, ap, ◌∙◌, subst, inl, inr}
use Rattle.std.specs.Prelude.{All, map, nat_lt, slice_get, slice_set}
use Rattle.std.specs.Option.{option_map}
use Rattle.std.proofs.lemmas.List.{map-set}
use Rattle.std.proofs.lemmas.List.Elements.{All-set}
use Rattle.std.proofs.lemmas.Option.{slice_get-map, slice_get_cases}
use Rattle.session_rules.specs.declared.correction.Correction.{Correction}
use Rattle.bridge_cards.specs.declared.scoring.Scoring.{Scoring}
use Rattle.bridge_table.specs.declared.record.Record.{Record}
use Rattle.session_rules.specs.declared.refused.Refused.TheVariants.{NotYet}
use Rattle.session_rules.specs.Correction.{ruling_answer}
use Rattle.session_rules.specs.State.{changed_at, hands_on}
use Rattle.session_rules.specs.DirectorStep.{rule_answer}
use Rattle.bridge_table.specs.Kept.{plain_of, with_kept_ruling, kept_rule_answer, IsTiedIn}
use Rattle.bridge_table.proofs.Tied.{course_same}
use Rattle.session_rules.proofs.Lists.{changed_at-Some, changed_at-None}

-- the answer by what is kept of a play, and by what is seen of it
answer_seen : (scoring : Scoring) (deals : List (Option (List ℕ))) (kept : Record) (now round : ℕ) (made : Correction) → IsTiedIn deals kept → kept_rule_answer scoring now round made (Some kept) ≡ rule_answer scoring now round made (Some (plain_of kept))
answer_seen scoring deals kept now round made tied =
    ap (λ course. cond (nat_lt now round) (Err NotYet) (ruling_answer scoring kept.auction.calls course made (nat_lt round now)))
    (course_same (hands_on deals kept.board) kept tied.tied)

pub rule_seen : (scoring : Scoring) (deals : List (Option (List ℕ))) (table : List Record) (index now round : ℕ) (made : Correction) → All (IsTiedIn deals) table → kept_rule_answer scoring now round made (slice_get table index) ≡ rule_answer scoring now round made (slice_get (map plain_of table) index)
rule_seen scoring deals table index now round made tied =
    let seen = slice_get-map plain_of table index in
    elim (slice_get_cases table index).1 [
      | inl (kept, within, is, found) ↦
          ap (kept_rule_answer scoring now round made) is
          ∙ answer_seen scoring deals kept now round made (subst (IsTiedIn deals) found (tied index kept within))
          ∙ ap (rule_answer scoring now round made) (sym (seen ∙ ap (option_map plain_of) is))
      | inr (past, none) ↦
          ap (kept_rule_answer scoring now round made) none
          ∙ ap (rule_answer scoring now round made) (sym (seen ∙ ap (option_map plain_of) none))
    ]

-- a change that is seen as another
pub changed_at-map : {X Y : Type 0} (v : X → Y) (f : X → X) (g : Y → Y) (xs : List X) (i : ℕ) → ((x : X) → v (f x) ≡ g (v x)) → map v (changed_at f xs i) ≡ changed_at g (map v xs) i
changed_at-map v f g xs i same =
    let seen = slice_get-map v xs i in
    elim (slice_get_cases xs i).1 [
      | inl (x, within, is, found) ↦
          ap (map v) (changed_at-Some f xs i x is)
          ∙ map-set v xs i (f x)
          ∙ ap (slice_set (map v xs) i) (same x)
          ∙ sym (changed_at-Some g (map v xs) i (v x) (seen ∙ ap (option_map v) is))
      | inr (past, none) ↦
          ap (map v) (changed_at-None f xs i none) ∙ sym (changed_at-None g (map v xs) i (seen ∙ ap (option_map v) none))
    ]

pub All-changed_at : {X : Type 0} (P : X → Type 0) (f : X → X) (xs : List X) (i : ℕ) → ((x : X) → P x → P (f x)) → All P xs → All P (changed_at f xs i)
All-changed_at P f xs i stays all =
    elim (slice_get_cases xs i).1 [
      | inl (x, within, is, found) ↦
          subst (All P) (sym (changed_at-Some f xs i x is)) (All-set P xs i (f x) (stays x (subst P found (all i x within))) all)
      | inr (past, none) ↦ subst (All P) (sym (changed_at-None f xs i none)) all
    ]

-- the same where it stays of the element that is changed
pub All-changed_one : {X : Type 0} (P : X → Type 0) (f : X → X) (xs : List X) (i : ℕ) → ((x : X) → slice_get xs i ≡ Some x → P x → P (f x)) → All P xs → All P (changed_at f xs i)
All-changed_one P f xs i stays all =
    elim (slice_get_cases xs i).1 [
      | inl (x, within, is, found) ↦
          subst (All P) (sym (changed_at-Some f xs i x is)) (All-set P xs i (f x) (stays x is (subst P found (all i x within))) all)
      | inr (past, none) ↦ subst (All P) (sym (changed_at-None f xs i none)) all
    ]

-- a ruling leaves a record tied
pub ruling_tied : (deals : List (Option (List ℕ))) (made : Correction) (kept : Record) → IsTiedIn deals kept → IsTiedIn deals (with_kept_ruling made kept)
ruling_tied deals made kept tied =
    record { tied = record { dealer = tied.tied.dealer; play = tied.tied.play }; undealt = tied.undealt }

-- an answer that is there only where a test passes
pub some_if : (b : Bool) (n p : ℕ) → ◌≡◌ {A = Option ℕ} (cond b (Some n) None) (Some p) → (b ≡ true) × (n ≡ p)
some_if true n p e = (refl, cc)
some_if false n p e = absurd cc
