-- A session stays valid where a ruling is made.
use Rattle.std.proofs.Common.{◌≡◌, ◌+◌, ◌-◌, ◌*◌, ◌/◌, ◌≤◌, ℕ, Bool, true, false, not, ◌&&◌, cond, List, Option, Some, None, Result, Ok, Err, refl, sym, ap, ◌∙◌, subst, arith}
use Rattle.std.specs.Prelude.{slice_get, nat_lt}
use Rattle.std.proofs.lemmas.Bool.{ltb-false, lt-ltb, leb-true, and_parts}
use Rattle.std.proofs.lemmas.Nat.{div-mul-add}
use Rattle.bridge_auction.specs.declared.call.Call.{Call}
use Rattle.bridge_score.specs.declared.Scoring.{Scoring}
use Rattle.bridge_score.specs.declared.Scoring.TheVariants.{MatchPoints, Imps}
use Rattle.bridge_config.specs.ConfigValue.{ConfigValue}
use Rattle.bridge_config.specs.Limits.{IsConfiguration}
use Rattle.bridge_movement.specs.declared.row.Row.{Row}
use Rattle.session_rules.specs.declared.action.PlayId.{PlayId}
use Rattle.session_rules.specs.declared.correction.Correction.{Correction}
use Rattle.session_rules.specs.declared.correction.Correction.TheVariants as correction
use Rattle.session_rules.specs.declared.refused.Refused.{Refused}
use Rattle.session_rules.specs.declared.refused.Refused.TheVariants.{NotFinished, NotYet}
use Rattle.session_rules.specs.Correction.{tricks_answer, adjust_answer, ruling_answer}
use Rattle.session_rules.specs.Record.{PlainRecord, Course, course_in, is_run, is_done, is_open}
use Rattle.bridge_movement.specs.Shape.{index_of_row}
use Rattle.session_rules.specs.State.{SessionValue, row_at, is_row_within, record_of}
use Rattle.session_rules.specs.DirectorStep.{if_allowed, rule_answer, with_ruling, ruled}
use Rattle.session_rules.specs.Valid.{IsPlayId, IsValidRecord, IsValid}
use Rattle.session_rules.proofs.StaysValid.{round_due, valid_change}

-- an action that is accepted is allowed
pub allowed_ok : (a b : Result (Unit {0}) Refused) → if_allowed a b ≡ Ok tt → b ≡ Ok tt
allowed_ok (Ok done) b is = is
allowed_ok (Err refused) b is = absurd cc

-- a play whose tricks may be set is over
accepted_is : (b : Bool) (e : Refused) → ◌≡◌ {A = Result (Unit {0}) Refused} (cond b (Ok tt) (Err e)) (Ok tt) → b ≡ true
accepted_is true e is = refl
accepted_is false e is = absurd cc

pub over_done : (calls : List Call) (course : Option Course) → tricks_answer course ≡ Ok tt → is_done calls course ≡ true
over_done calls None is = absurd cc
over_done calls (Some course) is = accepted_is (is_run course) NotFinished is

-- a play of an earlier round whose ruling is taken back is finished
restored_done : (over done : Bool) → over ≡ true → ◌≡◌ {A = Result (Unit {0}) Refused} (cond (over && not done) (Err NotFinished) (Ok tt)) (Ok tt) → done ≡ true
restored_done true true e is = refl
restored_done true false e is = absurd cc
restored_done false done e is = absurd cc

closed_after : (scoring : Scoring) (made : Correction) (x : PlainRecord) (over : Bool) → over ≡ true → ruling_answer scoring x.calls (course_in x) made over ≡ Ok tt → is_open (with_ruling made x) ≡ false
closed_after scoring (correction.Tricks tricks) x over e ok = ap not (over_done x.calls (course_in x) ok)
closed_after scoring correction.Void x over e ok = refl
closed_after scoring (correction.Adjust ns ew) x over e ok = refl
closed_after scoring (correction.Assign contract tricks) x over e ok = refl
closed_after scoring correction.Restore x over e ok = ap not (restored_done over (is_done x.calls (course_in x)) e ok)

-- averages are of matchpoints
adjusted_matchpoints : (scoring : Scoring) → adjust_answer scoring ≡ Ok tt → scoring ≡ MatchPoints
adjusted_matchpoints MatchPoints ok = refl
adjusted_matchpoints Imps ok = absurd cc

-- the record with the ruling is valid
ruled_valid : (scoring : Scoring) (deals : List (Option (List ℕ))) (now round : ℕ) (made : Correction) (x : PlainRecord) → round ≤ now → ruling_answer scoring x.calls (course_in x) made (nat_lt round now) ≡ Ok tt → IsValidRecord scoring deals now round x → IsValidRecord scoring deals now round (with_ruling made x)
ruled_valid scoring deals now round (correction.Tricks tricks) x past ok valid = record {
  calls = valid.calls;
  dealt = valid.dealt;
  unplayed = λ none. let before = valid.unplayed none in record { cards = before.cards; claims = before.claims; claim = before.claim };
  play = valid.play;
  ruled = ok;
  later = λ less. absurd (omega arith);
  earlier = λ less. closed_after scoring (correction.Tricks tricks) x (nat_lt round now) (lt-ltb round now less) ok;
}
ruled_valid scoring deals now round correction.Void x past ok valid = record {
  calls = valid.calls;
  dealt = valid.dealt;
  unplayed = λ none. let before = valid.unplayed none in record { cards = before.cards; claims = before.claims; claim = before.claim };
  play = valid.play;
  ruled = tt;
  later = λ less. absurd (omega arith);
  earlier = λ less. refl;
}
ruled_valid scoring deals now round (correction.Adjust ns ew) x past ok valid = record {
  calls = valid.calls;
  dealt = valid.dealt;
  unplayed = λ none. let before = valid.unplayed none in record { cards = before.cards; claims = before.claims; claim = before.claim };
  play = valid.play;
  ruled = adjusted_matchpoints scoring ok;
  later = λ less. absurd (omega arith);
  earlier = λ less. refl;
}
ruled_valid scoring deals now round (correction.Assign contract tricks) x past ok valid = record {
  calls = valid.calls;
  dealt = valid.dealt;
  unplayed = λ none. let before = valid.unplayed none in record { cards = before.cards; claims = before.claims; claim = before.claim };
  play = valid.play;
  ruled = tt;
  later = λ less. absurd (omega arith);
  earlier = λ less. refl;
}
ruled_valid scoring deals now round correction.Restore x past ok valid = record {
  calls = valid.calls;
  dealt = valid.dealt;
  unplayed = λ none. let before = valid.unplayed none in record { cards = before.cards; claims = before.claims; claim = before.claim };
  play = valid.play;
  ruled = tt;
  later = λ less. absurd (omega arith);
  earlier = λ less. closed_after scoring correction.Restore x (nat_lt round now) (lt-ltb round now less) ok;
}

-- the play that is ruled on
pub record IsRuledOn (scoring : Scoring) (now round : ℕ) (made : Correction) (found : Option PlainRecord) : Type 0 where
  pub plain : PlainRecord
  pub is : found ≡ Some plain
  pub past : round ≤ now
  pub ok : ruling_answer scoring plain.calls (course_in plain) made (nat_lt round now) ≡ Ok tt

not_yet : (b : Bool) (rest : Result (Unit {0}) Refused) → cond b (Err NotYet) rest ≡ Ok tt → (b ≡ false) × (rest ≡ Ok tt)
not_yet true rest is = absurd cc
not_yet false rest is = (refl, is)

pub ruled_on : (scoring : Scoring) (now round : ℕ) (made : Correction) (found : Option PlainRecord) → rule_answer scoring now round made found ≡ Ok tt → IsRuledOn scoring now round made found
ruled_on scoring now round made None is = absurd cc
ruled_on scoring now round made (Some plain) is =
    let parts = not_yet (nat_lt now round) (ruling_answer scoring plain.calls (course_in plain) made (nat_lt round now)) is in
    record { plain = plain; is = refl; past = ltb-false now round parts.0; ok = parts.1 }

pub found_within : (b : Bool) (o : Option PlainRecord) (x : PlainRecord) → cond b o None ≡ Some x → (b ≡ true) × (o ≡ Some x)
found_within true o x is = (refl, is)
found_within false o x is = absurd cc

-- the row of a play is of its round
pub row_round : (configuration : ConfigValue) (round table : ℕ) (row : Row) → IsConfiguration configuration → 1 ≤ round → 1 ≤ table → table ≤ configuration.movement.shape.tables → slice_get configuration.movement.rows (index_of_row configuration.movement.shape round table) ≡ Some row → row.round ≡ round
row_round configuration round table row limits least first within is =
    let tables : ℕ = configuration.movement.shape.tables in
    let due = round_due configuration (index_of_row configuration.movement.shape round table) row limits is in
    let whole : ((round - 1) * tables + (table - 1)) / tables ≡ round - 1 = div-mul-add (round - 1) tables (table - 1) (omega arith) in
    omega (arith, due, whole)

pub rule_valid : (s : SessionValue) (play : PlayId) (made : Correction) → IsValid s → IsPlayId play → rule_answer s.configuration.scoring s.round play.round made (record_of s play) ≡ Ok tt → IsValid (ruled s play made)
rule_valid s play made valid ranges ok =
    let shape = s.configuration.movement.shape in
    let index = index_of_row shape play.round play.table in
    let scoring = s.configuration.scoring in
    let on = ruled_on scoring s.round play.round made (record_of s play) ok in
    let found = found_within (is_row_within shape play.round play.table) (slice_get (row_at s.records index) (play.index - 1)) on.plain on.is in
    let within = leb-true play.table shape.tables (and_parts _ _ found.0).1 in
    valid_change s index (with_ruling made) (λ records. play.index - 1) valid (λ x. refl)
    (λ row x is was good.
    let round : row.round ≡ play.round = row_round s.configuration play.round play.table row valid.configured ranges.0 ranges.1 within is in
    let same : on.plain ≡ x = let both : Some on.plain ≡ Some x = sym found.1 ∙ was in cc in
    let accepted : ruling_answer scoring x.calls (course_in x) made (nat_lt row.round s.round) ≡ Ok tt =
    subst (λ (r : ℕ). ruling_answer scoring x.calls (course_in x) made (nat_lt r s.round) ≡ Ok tt) (sym round)
    (subst (λ (p : PlainRecord). ruling_answer scoring p.calls (course_in p) made (nat_lt play.round s.round) ≡ Ok tt) same on.ok) in
    let past : row.round ≤ s.round = omega (arith, round, on.past) in
    ruled_valid s.configuration.scoring s.deals s.round row.round made x past accepted good)
