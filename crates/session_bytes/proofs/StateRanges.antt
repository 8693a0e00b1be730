-- What a session holds stays within its ranges.
use Rattle.std.proofs.Common.{◌≡◌, ◌-◌, ◌*◌, ◌||◌, ℕ, Bool, true, false, cond, List, length, get_or, Option, Some, None, Result, Ok, Err, All, refl, sym, subst, ◌∙◌, length-set}
use Rattle.std.specs.Prelude.{IfSome, is_some, nat_lt, slice_get, slice_set}
use Rattle.std.specs.Option.{option_map, option_map_or}
use Rattle.std.proofs.lemmas.List.Elements.{All-set, All-map, All-replicate}
use Rattle.std.proofs.lemmas.Option.{slice_get_within, get_or_from_slice_get}
use Rattle.bridge_cards.specs.declared.seat.Seat.{Seat}
use Rattle.bridge_cards.specs.Seat.{seat_number}
use Rattle.bridge_config.specs.ConfigValue.{ConfigValue}
use Rattle.bridge_play.specs.declared.claim.Claim.{Claim}
use Rattle.bridge_play.specs.Claims.{with_agreed}
use Rattle.session_rules.specs.declared.act.Act.{Act}
use Rattle.session_rules.specs.declared.act.Act.TheVariants as act
use Rattle.session_rules.specs.declared.action.Action.{Action}
use Rattle.session_rules.specs.declared.action.PlayId.{PlayId}
use Rattle.session_rules.specs.declared.correction.Correction.{Correction}
use Rattle.session_rules.specs.declared.correction.Correction.TheVariants as correction
use Rattle.session_rules.specs.declared.deed.Deed.{Deed}
use Rattle.session_rules.specs.declared.deed.Deed.TheVariants as deed
use Rattle.session_rules.specs.declared.refused.Refused.{Refused}
use Rattle.session_rules.specs.declared.seating.Seating.{Seating}
use Rattle.session_bytes.specs.ActionRange.{IsActInRange, IsInRange}
use Rattle.session_rules.specs.Act.{act_of}
use Rattle.bridge_auction.specs.Auction.{less_last}
use Rattle.bridge_play.specs.Play.{cards_left_by}
use Rattle.session_rules.specs.Back.{taken_back, less_latest_in}
use Rattle.session_rules.specs.Deed.{with_deed}
use Rattle.session_rules.specs.Record.{PlainRecord, empty_record}
use Rattle.bridge_movement.specs.Shape.{index_of_row}
use Rattle.session_rules.specs.State.{SessionValue, opening, opening_row, row_boards, seating_of, changed_at, current_index}
use Rattle.session_rules.specs.StateRange.{IsCorrectionInRange, AreHandsOrNone, IsOfFourSeats, IsRecordInRange, IsStateInRange}
use Rattle.session_rules.specs.PlayerStep.{acted_among, acted_at}
use Rattle.session_rules.specs.DirectorStep.{with_ruling, ruled}
use Rattle.session_rules.specs.Step.{changed_by, changed}

-- one element is changed
all_changed : {X : Type 0} (P : X → Type 0) (f : X → X) (xs : List X) (index : ℕ) → ((x : X) → P x → P (f x)) → All P xs → All P (changed_at f xs index)
all_changed {X} P f xs index stays all = of (slice_get xs index) refl
  where
    of : (found : Option X) → found ≡ slice_get xs index → All P (option_map_or (λ x. slice_set xs index (f x)) found xs)
    of None is = all
    of (Some x) is =
        let here : P x = subst P (get_or_from_slice_get xs index x x (sym is)) (all index x (slice_get_within xs index x (sym is))) in
        All-set P xs index (f x) (stays x here) all

-- what a player did
agreed_in_range : (seat : Seat) (claim : Option Claim) → IfSome claim IsOfFourSeats → IfSome (option_map (with_agreed seat) claim) IsOfFourSeats
agreed_in_range seat None four = tt
agreed_in_range seat (Some claim) four = length-set claim.agreed (seat_number seat) true ∙ four

deed_in_range : (seat : Seat) (deed : Deed) (plain : PlainRecord) → IsRecordInRange plain → IsRecordInRange (with_deed seat deed plain)
deed_in_range seat (deed.Call call) plain is = record { claim = is.claim; ruling = is.ruling }
deed_in_range seat (deed.Card card) plain is = record { claim = is.claim; ruling = is.ruling }
deed_in_range seat (deed.Claim tricks) plain is = record { claim = refl; ruling = is.ruling }
deed_in_range seat deed.Agree plain is = record { claim = agreed_in_range seat plain.claim is.claim; ruling = is.ruling }
deed_in_range seat deed.Refuse plain is = record { claim = tt; ruling = is.ruling }

pub acted_in_range : (s : SessionValue) (deed : Deed) (at : Result Seating Refused) → IsStateInRange s → IsStateInRange (acted_at s deed at)
acted_in_range s deed (Err refused) is = is
acted_in_range s deed (Ok seating) is = record {
  deals = is.deals;
  records = all_changed (All IsRecordInRange) (acted_among seating.seat deed) s.records seating.row
      (λ records all. all_changed IsRecordInRange (with_deed seating.seat deed) records (current_index records) (deed_in_range seating.seat deed) all)
      is.records;
}

-- a ruling
ruling_in_range : (made : Correction) (plain : PlainRecord) → IsCorrectionInRange made → IsRecordInRange plain → IsRecordInRange (with_ruling made plain)
ruling_in_range (correction.Tricks tricks) plain few is = record { claim = is.claim; ruling = few }
ruling_in_range correction.Void plain few is = record { claim = is.claim; ruling = tt }
ruling_in_range (correction.Adjust ns ew) plain few is = record { claim = is.claim; ruling = tt }
ruling_in_range (correction.Assign contract tricks) plain few is = record { claim = is.claim; ruling = few }
ruling_in_range correction.Restore plain few is = record { claim = is.claim; ruling = tt }

pub ruled_in_range : (s : SessionValue) (play : PlayId) (made : Correction) → IsCorrectionInRange made → IsStateInRange s → IsStateInRange (ruled s play made)
ruled_in_range s play made few is = record {
  deals = is.deals;
  records = all_changed (All IsRecordInRange) (λ records. changed_at (with_ruling made) records (play.index - 1)) s.records
      (index_of_row s.configuration.movement.shape play.round play.table)
      (λ records all. all_changed IsRecordInRange (with_ruling made) records (play.index - 1) (λ plain. ruling_in_range made plain few) all)
      is.records;
}

-- the latest thing that is taken back
left_in_range : (b : Bool) (plain : PlainRecord) → IsRecordInRange plain → IsRecordInRange (cond b (record plain { cards = cards_left_by plain.claim plain.cards; claim = None }) (record plain { calls = less_last plain.calls }))
left_in_range true plain is = record { claim = tt; ruling = is.ruling }
left_in_range false plain is = record { claim = is.claim; ruling = is.ruling }

back_in_range : (plain : PlainRecord) → IsRecordInRange plain → IsRecordInRange (taken_back plain)
back_in_range plain is = left_in_range (is_some plain.claim || nat_lt 0 (length plain.cards)) plain is

pub less_latest_in_range : (s : SessionValue) (play : PlayId) → IsStateInRange s → IsStateInRange (less_latest_in s play)
less_latest_in_range s play is = record {
  deals = is.deals;
  records = all_changed (All IsRecordInRange) (λ records. changed_at taken_back records (play.index - 1)) s.records
      (index_of_row s.configuration.movement.shape play.round play.table)
      (λ records all. all_changed IsRecordInRange taken_back records (play.index - 1) back_in_range all)
      is.records;
}

-- each act
act_in_range : (a : Act) (s : SessionValue) → IsActInRange a → IsStateInRange s → IsStateInRange (changed_by s a)
act_in_range (act.Player key board at deed) s ranges is = acted_in_range s deed (seating_of s.configuration s.round key.0) is
act_in_range (act.Deal key board hands) s ranges is = record {
  deals = All-set AreHandsOrNone s.deals (board - 1) (Some hands) (ranges.2, ranges.3) is.deals;
  records = is.records;
}
act_in_range (act.Undeal key board) s ranges is = record {
  deals = All-set AreHandsOrNone s.deals (board - 1) None tt is.deals;
  records = is.records;
}
act_in_range (act.Back key play) s ranges is = less_latest_in_range s play is
act_in_range (act.RoundEnd key round) s ranges is = record { deals = is.deals; records = is.records }
act_in_range (act.Ruling key play made) s ranges is = ruled_in_range s play made ranges.2 is

pub changed_in_range : (a : Action) (s : SessionValue) → IsInRange a → IsStateInRange s → IsStateInRange (changed s a)
changed_in_range a = act_in_range (act_of a)

-- the opening
pub opening_in_range : (configuration : ConfigValue) → IsStateInRange (opening configuration)
opening_in_range configuration = record {
  deals = All-replicate AreHandsOrNone (configuration.movement.shape.sets * configuration.boards) None tt;
  records = All-map (All IsRecordInRange) (opening_row configuration.boards) configuration.movement.rows
      (λ index row within. All-map IsRecordInRange empty_record (row_boards configuration.boards (get_or configuration.movement.rows index row)) (λ k board below. record { claim = tt; ruling = tt }));
}
