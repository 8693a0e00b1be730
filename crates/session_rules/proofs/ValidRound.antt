-- A session stays valid where a board is dealt, and where a round ends.
use Rattle.std.proofs.Common.{◌≡◌, ◌+◌, ◌-◌, ◌*◌, ◌/◌, ◌%◌, ◌==◌, ◌<◌, ◌≤◌, ℕ, zero, suc, Bool, true, false, not, ◌||◌, cond, List, [], ◌∷◌, take, drop, Option, Some, None, Result, Ok, Err, refl, sym, ap, ◌∙◌, subst, arith, inl, inr, length-set}
use Rattle.std.specs.Prelude.{slice_get, slice_set, nat_le, is_some, unwrap_or, IfSome}
use Rattle.std.specs.List.{list_any}
use Rattle.std.specs.Option.{option_map}
use Rattle.std.proofs.lemmas.Bool.{ltb-false, cases_lt, cases_eq}
use Rattle.std.proofs.Math.Nat.{div-add-mod, mul_comm}
use Rattle.std.proofs.lemmas.List.Elements.{All-set}
use Rattle.bridge_cards.specs.Board.{dealer_of}
use Rattle.bridge_cards.specs.Deal.{is_dealt_out}
use Rattle.bridge_auction.specs.Legal.{is_ended}
use Rattle.bridge_score.specs.declared.Scoring.{Scoring}
use Rattle.bridge_movement.specs.declared.row.Row.{Row}
use Rattle.bridge_play.specs.Play.{IsPlay}
use Rattle.session_rules.specs.declared.refused.Refused.TheVariants.{Closed, Stale, RoundOpen, NoSuchPlay, AlreadyDealt, BadDeal}
use Rattle.session_rules.specs.Record.{PlainRecord, playing_in, play_of, is_open}
use Rattle.session_rules.specs.State.{SessionValue, deal_on, is_closed, hands_on}
use Rattle.session_rules.specs.DirectorStep.{deal_answer, next_answer, records_of_round}
use Rattle.session_rules.specs.Valid.{IsValidRecord, IsDealOrNone, IsValid}
use Rattle.session_rules.proofs.Lists.{not_refused, not_false}
use Rattle.session_rules.proofs.PlainRecords.{no_contract, other_deal}
use Rattle.session_rules.proofs.StaysValid.{none_of, round_due, row_found}

-- what follows in an answer that is Ok
pub rest_ok : {E : Type 0} (b : Bool) (e : E) (rest : Result (Unit {0}) E) → cond b (Err e) rest ≡ Ok tt → rest ≡ Ok tt
rest_ok true e rest is = absurd cc
rest_ok false e rest is = is

-- The end of a round

-- where none passes a test, no element does
not_either : (a b : Bool) → (a || b) ≡ false → (a ≡ false) × (b ≡ false)
not_either true b is = absurd cc
not_either false b is = (refl, is)

pub none_passes : {A : Type 0} (p : A → Bool) (xs : List A) (i : ℕ) (x : A) → list_any p xs ≡ false → slice_get xs i ≡ Some x → p x ≡ false
none_passes p [] i x fails is = absurd (none_of i x is)
none_passes p (y ∷ ys) zero x fails is =
    let same : y ≡ x = cc in
    ap p (sym same) ∙ (not_either (p y) (list_any p ys) fails).0
none_passes p (y ∷ ys) (suc i) x fails is = none_passes p ys i x (not_either (p y) (list_any p ys) fails).1 is

-- elements that are taken and dropped
taken : {A : Type 0} (n i : ℕ) (xs : List A) (x : A) → i < n → slice_get xs i ≡ Some x → slice_get (take n xs) i ≡ Some x
taken n i [] x within is = absurd (none_of i x is)
taken zero i (y ∷ ys) x within is = absurd (omega arith)
taken (suc n) zero (y ∷ ys) x within is = is
taken (suc n) (suc i) (y ∷ ys) x within is = taken n i ys x (omega arith) is

dropped : {A : Type 0} (k i j : ℕ) (xs : List A) (x : A) → j ≡ k + i → slice_get xs j ≡ Some x → slice_get (drop k xs) i ≡ Some x
dropped zero i j xs x at is = let same : i ≡ j = omega arith in ap (slice_get xs) same ∙ is
dropped (suc k) i j [] x at is = absurd (none_of j x is)
dropped (suc k) i zero (y ∷ ys) x at is = absurd (omega arith)
dropped (suc k) i (suc j) (y ∷ ys) x at is = dropped k i j ys x (omega arith) is

mod_less : (n t : ℕ) → 0 < t → n % t < t
mod_less n t some = omega arith

div_mod_is : (n t d : ℕ) → 0 < t → n / t ≡ d → n ≡ d * t + n % t
div_mod_is n t d some is = sym (div-add-mod n t) ∙ ap (λ q. t * q + n % t) is ∙ ap (λ m. m + n % t) (mul_comm t d)

-- the records of a row of the round
of_round : (s : SessionValue) (row_index : ℕ) (row : Row) (records : List PlainRecord) → IsValid s → slice_get s.configuration.movement.rows row_index ≡ Some row → row.round ≡ s.round → slice_get s.records row_index ≡ Some records → slice_get (records_of_round s) (row_index % s.configuration.movement.shape.tables) ≡ Some records
of_round s row_index row records valid is round there =
    let tables : ℕ = s.configuration.movement.shape.tables in
    let due = round_due s.configuration row_index row valid.configured is in
    let some : 2 ≤ tables = valid.configured.shape.tables.0 in
    let before : row_index / tables ≡ s.round - 1 = omega (arith, due, round) in
    let index_is : row_index ≡ (s.round - 1) * tables + row_index % tables = div_mod_is row_index tables (s.round - 1) (omega arith) before in
    taken tables (row_index % tables) (drop ((s.round - 1) * tables) s.records) records (mod_less row_index tables (omega arith))
    (dropped ((s.round - 1) * tables) (row_index % tables) row_index s.records records index_is there)

pub next_valid : (s : SessionValue) (round : ℕ) → IsValid s → next_answer s round ≡ Ok tt → IsValid (record s { round = s.round + 1 })
next_valid s round valid ok =
    let opened : is_closed s.configuration s.round ≡ false = not_refused (is_closed s.configuration s.round) Closed _ ok in
    let same = rest_ok (is_closed s.configuration s.round) Closed _ ok in
    let none_open : list_any (list_any is_open) (records_of_round s) ≡ false =
    not_refused (list_any (list_any is_open) (records_of_round s)) RoundOpen _ (rest_ok (not (round == s.round)) Stale _ same) in
    let ends : s.round ≤ s.configuration.movement.shape.rounds = ltb-false s.configuration.movement.shape.rounds s.round opened in
    record {
      configured = valid.configured;
      begun = omega arith;
      ends = omega arith;
      boards = valid.boards;
      deals = valid.deals;
      of_boards = valid.of_boards;
      plays = λ row_index index row plain is found.
          let good = valid.plays row_index index row plain is found in
          record {
            calls = good.calls;
            dealt = good.dealt;
            unplayed = good.unplayed;
            play = good.play;
            ruled = good.ruled;
            later = λ less. good.later (omega arith);
            earlier = λ less.
                elim (cases_lt row.round s.round) [
                  | inl before ↦ good.earlier before
                  | inr from ↦
                      let now : row.round ≡ s.round = omega (arith, less, from) in
                      let own = row_found s.records row_index index plain found in
                      let table = of_round s row_index row own.0 valid is now own.1 in
                      none_passes is_open own.0 index plain (none_passes (list_any is_open) (records_of_round s) _ own.0 none_open table) (ap (λ rs. slice_get rs index) (sym own.2) ∙ found)
                ];
          };
    }

-- A board that is dealt

-- a record without calls has no play of any hands
pub no_play : (hands : List ℕ) (x : PlainRecord) → x.calls ≡ [] → play_of hands x ≡ None
no_play hands x none = ap (option_map (playing_in hands x)) (no_contract (dealer_of x.board) x.calls (ap is_ended none))

record_dealt : (scoring : Scoring) (deals : List (Option (List ℕ))) (now round board : ℕ) (hands : List ℕ) (x : PlainRecord) → deal_on deals board ≡ None → IsValidRecord scoring deals now round x → IsValidRecord scoring (slice_set deals (board - 1) (Some hands)) now round x
record_dealt scoring deals now round board hands x none valid =
    let after = slice_set deals (board - 1) (Some hands) in
    elim (cases_eq (x.board - 1) (board - 1)) [
      | inl same ↦
          let was : deal_on deals x.board ≡ None = ap (λ row_index. unwrap_or (slice_get deals row_index) None) same ∙ none in
          record {
            calls = valid.calls;
            dealt = λ still. valid.dealt was;
            unplayed = valid.unplayed;
            play = subst (λ o. IfSome o IsPlay) (sym (no_play (hands_on after x.board) x (valid.dealt was))) tt;
            ruled = valid.ruled;
            later = valid.later;
            earlier = valid.earlier;
          }
      | inr apart ↦
          let deal : deal_on after x.board ≡ deal_on deals x.board = other_deal deals board x.board (Some hands) apart in
          record {
            calls = valid.calls;
            dealt = λ still. valid.dealt (sym deal ∙ still);
            unplayed = valid.unplayed;
            play = subst (λ h. IfSome (play_of h x) IsPlay) (ap (λ d. unwrap_or d []) (sym deal)) valid.play;
            ruled = valid.ruled;
            later = valid.later;
            earlier = valid.earlier;
          }
    ]

is_none : (o : Option (List ℕ)) → is_some o ≡ false → o ≡ None
is_none None e = refl
is_none (Some hands) e = absurd cc

pub deal_valid : (s : SessionValue) (board : ℕ) (hands : List ℕ) → IsValid s → deal_answer s board hands ≡ Ok tt → IsValid (record s { deals = slice_set s.deals (board - 1) (Some hands) })
deal_valid s board hands valid ok =
    let second = rest_ok (is_closed s.configuration s.round) Closed _ ok in
    let third = rest_ok (not (nat_le board (s.configuration.movement.shape.sets * s.configuration.boards))) NoSuchPlay _ second in
    let none : deal_on s.deals board ≡ None = is_none (deal_on s.deals board) (not_refused (is_some (deal_on s.deals board)) AlreadyDealt _ third) in
    let fourth = rest_ok (is_some (deal_on s.deals board)) AlreadyDealt _ third in
    let dealt : is_dealt_out hands ≡ true = not_false (is_dealt_out hands) (not_refused (not (is_dealt_out hands)) BadDeal _ fourth) in
    record {
      configured = valid.configured;
      begun = valid.begun;
      ends = valid.ends;
      boards = length-set s.deals (board - 1) (Some hands) ∙ valid.boards;
      deals = All-set IsDealOrNone s.deals (board - 1) (Some hands) dealt valid.deals;
      of_boards = valid.of_boards;
      plays = λ row_index index row plain is found. record_dealt s.configuration.scoring s.deals s.round row.round board hands plain none (valid.plays row_index index row plain is found);
    }
