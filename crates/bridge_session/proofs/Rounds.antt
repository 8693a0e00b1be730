-- The tables of a round, as they are kept and as they are seen.
use Rattle.std.proofs.Common.{◌≡◌, ◌+◌, ◌==◌, ℕ, zero, suc, Bool, false, not, cond, ◌||◌, List, [], ◌∷◌, Option, Result, Ok, Err, refl, sym, ap, ◌∙◌, arith, take, drop, Vec, Global}
use Rattle.std.specs.Prelude.{All, map}
use Rattle.std.specs.List.{list_any}
use Rattle.std.proofs.lemmas.Bool.{eq-eqb}
use Rattle.std.proofs.lemmas.List.{take-map, drop-map}
use Rattle.bridge_table.specs.declared.record.Record.{Record}
use Rattle.session_rules.specs.Record.{PlainRecord, is_open}
use Rattle.bridge_config.specs.ConfigValue.{ConfigValue}
use Rattle.session_rules.specs.declared.refused.Refused.{Refused}
use Rattle.session_rules.specs.declared.refused.Refused.TheVariants.{Closed, Stale, RoundOpen}
use Rattle.session_rules.specs.State.{SessionValue, is_closed, hands_on}
use Rattle.session_rules.specs.DirectorStep.{records_of_round, next_answer}
use Rattle.session_rules.specs.StateRange.{IsSession}
use Rattle.bridge_table.specs.Kept.{plain_of, is_kept_open, IsTiedIn}
use Rattle.bridge_session.specs.KeptSession.{state_of, StateASession, IsKeptSession}
use Rattle.bridge_table.proofs.Tied.{open_same}
use Rattle.bridge_table.proofs.Tables.{lists_in}

pub list_any-map : {X Y : Type 0} (p : Y → Bool) (f : X → Y) (xs : List X) → list_any p (map f xs) ≡ list_any (λ x. p (f x)) xs
list_any-map p f [] = refl
list_any-map p f (x ∷ xs) = ap (λ b. p (f x) || b) (list_any-map p f xs)

-- a test of some elements by the tests of all
among : {X : Type 0} (p : X → Bool) (count start : ℕ) (xs : List X) → list_any p (take count (drop start xs)) ≡ list_any (λ b. b) (take count (drop start (map p xs)))
among p count start xs =
    sym (list_any-map (λ b. b) p (take count (drop start xs)))
    ∙ ap (list_any (λ b. b)) (sym (take-map p count (drop start xs)) ∙ ap (take count) (sym (drop-map p start xs)))

-- a table has an open play
open_among : (deals : List (Option (List ℕ))) (table : List Record) → All (IsTiedIn deals) table → list_any is_open (map plain_of table) ≡ list_any is_kept_open table
open_among deals [] tied = refl
open_among deals (kept ∷ table) tied =
    let first = tied zero kept (omega arith) in
    let rest = open_among deals table (λ k d within. tied (suc k) d (omega arith)) in
    ap (λ b. b || list_any is_open (map plain_of table)) (open_same (hands_on deals kept.board) kept first.tied)
    ∙ ap (λ b. is_kept_open kept || b) rest

-- of each table
open_tables : (deals : List (Option (List ℕ))) (vectors : List (Vec Record Global)) → All (All (IsTiedIn deals)) (lists_in vectors) → map (list_any is_open) (map (map plain_of) (lists_in vectors)) ≡ map (λ (table : Vec Record Global). list_any is_kept_open table.items) vectors
open_tables deals [] tied = refl
open_tables deals (table ∷ vectors) tied =
    let first = open_among deals table.items (tied zero table.items (omega arith)) in
    let rest = open_tables deals vectors (λ k d within. tied (suc k) d (omega arith)) in
    ap (λ b. b ∷ map (list_any is_open) (map (map plain_of) (lists_in vectors))) first
    ∙ ap (λ bs. list_any is_kept_open table.items ∷ bs) rest

pub open_of_round : (deals : List (Option (List ℕ))) (vectors : List (Vec Record Global)) (count start : ℕ) → All (All (IsTiedIn deals)) (lists_in vectors) → list_any (λ (table : Vec Record Global). list_any is_kept_open table.items) (take count (drop start vectors)) ≡ list_any (list_any is_open) (take count (drop start (map (map plain_of) (lists_in vectors))))
open_of_round deals vectors count start tied =
    among (λ (table : Vec Record Global). list_any is_kept_open table.items) count start vectors
    ∙ ap (λ bs. list_any (λ b. b) (take count (drop start bs))) (sym (open_tables deals vectors tied))
    ∙ sym (among (list_any is_open) count start (map (map plain_of) (lists_in vectors)))

-- a test of the records of all tables, as they are kept and as they are seen
test_of_table : (p : PlainRecord → Bool) (vectors : List (Vec Record Global)) → map (λ (table : Vec Record Global). list_any (λ kept. p (plain_of kept)) table.items) vectors ≡ map (list_any p) (map (map plain_of) (lists_in vectors))
test_of_table p [] = refl
test_of_table p (table ∷ vectors) =
    ap (λ b. b ∷ map (λ (t : Vec Record Global). list_any (λ kept. p (plain_of kept)) t.items) vectors) (sym (list_any-map p plain_of table.items))
    ∙ ap (λ bs. list_any p (map plain_of table.items) ∷ bs) (test_of_table p vectors)

pub tested_tables : (p : PlainRecord → Bool) (vectors : List (Vec Record Global)) → list_any (λ (table : Vec Record Global). list_any (λ kept. p (plain_of kept)) table.items) vectors ≡ list_any (list_any p) (map (map plain_of) (lists_in vectors))
tested_tables p vectors =
    sym (list_any-map (λ b. b) (λ (table : Vec Record Global). list_any (λ kept. p (plain_of kept)) table.items) vectors)
    ∙ ap (list_any (λ b. b)) (test_of_table p vectors)
    ∙ list_any-map (λ b. b) (list_any p) (map (map plain_of) (lists_in vectors))

-- the answer to the end of a round none of whose plays is open
pub next_accepted : (s : SessionValue) → is_closed s.configuration s.round ≡ false → list_any (list_any is_open) (records_of_round s) ≡ false → next_answer s s.round ≡ Ok tt
next_accepted s begun none =
    let third : Bool → Result (Unit {0}) Refused = λ b. cond b (Err RoundOpen) (Ok tt) in
    let second : Bool → Result (Unit {0}) Refused = λ b. cond (not b) (Err Stale) (third (list_any (list_any is_open) (records_of_round s))) in
    let first : Bool → Result (Unit {0}) Refused = λ b. cond b (Err Closed) (second (s.round == s.round)) in
    ap first begun ∙ ap second (eq-eqb s.round s.round refl) ∙ ap third none

-- the parts in the next round
pub kept_next : (configuration : ConfigValue) (round : ℕ) (deals : List (Option (List ℕ))) (tables : List (List Record)) → IsKeptSession configuration round deals tables → IsSession (state_of configuration (round + 1) deals tables) → IsKeptSession configuration (round + 1) deals tables
unfolding StateASession
kept_next configuration round deals tables kept session = record {
  session = session;
  begun = omega arith;
  boards = kept.boards;
  rows = kept.rows;
  tied = kept.tied;
  few = kept.few;
  boards_are = kept.boards_are;
}
