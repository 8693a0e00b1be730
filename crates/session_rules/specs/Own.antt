-- The record of a play as its own actions make it, whatever other tables do in between.
use Rattle.std.specs.Prelude.{◌≡◌, ℕ, ◌+◌, ◌==◌, Bool, true, false, ◌&&◌, if◌then◌else◌, is_some, List, [], ◌∷◌, ◌++◌, length, map, option_and_then, Option, Some, None, Result, Ok, Err}
use Rattle.std.specs.List.{cons_option, filter_map, list_any}
use Rattle.std.specs.Option.{option_map, option_or}
use Rattle.bridge_cards.specs.declared.seat.Seat.{Seat}
use Rattle.bridge_cards.specs.declared.seat.Seat.TheVariants.{North, East, South, West}
use Rattle.bridge_cards.specs.Seat.{same_seat}
use Rattle.bridge_auction.specs.declared.call.Call.{Call as CallType}
use Rattle.bridge_config.specs.ConfigValue.{ConfigValue}
use Rattle.bridge_config.specs.Limits.{IsConfiguration}
use Rattle.bridge_play.specs.declared.claim.Claim.{Claim as ClaimType}
use Rattle.session_rules.specs.declared.act.Act.{Act}
use Rattle.session_rules.specs.declared.act.Act.TheVariants as act
use Rattle.session_rules.specs.declared.action.Action.{Action}
use Rattle.session_rules.specs.declared.action.PlayId.{PlayId}
use Rattle.session_rules.specs.declared.correction.Correction.{Correction}
use Rattle.session_rules.specs.declared.deed.Deed.{Deed}
use Rattle.session_rules.specs.declared.deed.Deed.TheVariants as deed
use Rattle.session_rules.specs.declared.refused.Refused.{Refused}
use Rattle.session_rules.specs.declared.seating.Seating.{Seating}
use Rattle.session_rules.specs.Act.{act_of}
use Rattle.session_rules.specs.Correction.{ruling_by}
use Rattle.session_rules.specs.Record.{PlainRecord, empty_record}
use Rattle.bridge_movement.specs.Shape.{index_of_row}
use Rattle.session_rules.specs.State.{SessionValue, opening, record_of, seating_of}
use Rattle.session_rules.specs.Step.{step_answer, changed}
use Rattle.session_rules.specs.Valid.{IsAction, IsPlayId}

-- A list of accepted actions

-- the session after the actions
abbrev pub after_actions : SessionValue → List Action → SessionValue
after_actions s [] = s
after_actions s (action ∷ actions) = after_actions (changed s action) actions

-- each action is accepted in its turn
abbrev pub AreAccepted : SessionValue → List Action → Type 0
AreAccepted s [] = Unit {0}
AreAccepted s (action ∷ actions) = IsAction action × (step_answer s action ≡ Ok tt) × AreAccepted (changed s action) actions

-- The actions that concern a play

-- what is done in a play: by a player in a seat, or by the director, who rules or takes back the latest thing done
pub data OwnDeed : Type 0 where
  ByPlayer : (seat : Seat) (deed : Deed) → OwnDeed
  ByDirector : (made : Correction) → OwnDeed
  TakenBack : OwnDeed

-- by a player who sits at the table of the play in its round, and names its board
abbrev pub own_deed_by : ConfigValue → PlayId → ℕ → ℕ → Deed → Result Seating Refused → Option OwnDeed
own_deed_by configuration play board named deed (Err refused) = None
own_deed_by configuration play board named deed (Ok seating) =
    if (seating.row == index_of_row configuration.movement.shape play.round play.table) && (named == board) then Some (ByPlayer seating.seat deed) else None

-- the two name one play
abbrev pub same_play : PlayId → PlayId → Bool
same_play a b = (a.round == b.round) && ((a.table == b.table) && (a.index == b.index))

-- by the director, who names the play
abbrev pub ruled_in : PlayId → PlayId → Correction → Option OwnDeed
ruled_in play named made = if same_play named play then Some (ByDirector made) else None

-- by the director, who takes back the latest thing done in the play that he names
abbrev pub back_in : PlayId → PlayId → Option OwnDeed
back_in play named = if same_play named play then Some TakenBack else None

-- what an act in that round does in the play of the board, if it concerns it
abbrev pub own_deed_in : ConfigValue → PlayId → ℕ → ℕ → Act → Option OwnDeed
own_deed_in configuration play board round (act.Player key named at deed) = own_deed_by configuration play board named deed (seating_of configuration round key.0)
own_deed_in configuration play board round (act.Ruling key named made) = ruled_in play named made
own_deed_in configuration play board round (act.Back key named) = back_in play named
own_deed_in configuration play board round _ = None

-- the round after an act: one more after the end of a round
abbrev pub round_after : ℕ → Act → ℕ
round_after round (act.RoundEnd key of_round) = round + 1
round_after round _ = round

-- what the play's own actions do in it, the first of them in that round
abbrev pub own : ConfigValue → PlayId → ℕ → ℕ → List Action → List OwnDeed
own configuration play board round [] = []
own configuration play board round (action ∷ actions) =
    cons_option (own_deed_in configuration play board round (act_of action)) (own configuration play board (round_after round (act_of action)) actions)

-- What each thing is

-- the call that was made, if it was one
abbrev pub call_made : OwnDeed → Option CallType
call_made (ByPlayer seat (deed.Call call)) = Some call
call_made _ = None

-- the card that was played, if it was one
abbrev pub card_played : OwnDeed → Option ℕ
card_played (ByPlayer seat (deed.Card card)) = Some card
card_played _ = None

-- a claim as it is made, to which nobody has agreed
abbrev pub claim_made : OwnDeed → Option ClaimType
claim_made (ByPlayer seat (deed.Claim tricks)) =
    Some (record { claimer = seat; tricks = tricks; agreed = false ∷ false ∷ false ∷ false ∷ [] })
claim_made _ = None

-- a claim was refused, or taken back
abbrev pub is_refusal : OwnDeed → Bool
is_refusal (ByPlayer seat deed.Refuse) = true
is_refusal TakenBack = true
is_refusal _ = false

-- the seat agrees to the claim
abbrev pub agrees : Seat → OwnDeed → Bool
agrees one (ByPlayer seat deed.Agree) = same_seat seat one
agrees one _ = false

-- what the director did, if it was the director
abbrev pub correction_made : OwnDeed → Option Correction
correction_made (ByDirector made) = Some made
correction_made _ = None

-- the last claim, with what was done after it
abbrev pub last_claim : List OwnDeed → Option (ClaimType × List OwnDeed)
last_claim [] = None
last_claim (deed ∷ later) = option_or (last_claim later) (option_map (λ (claim : ClaimType). (claim, later)) (claim_made deed))

-- a claim, agreed by the seats that agree to it later, if no refusal follows it
abbrev pub claim_after : ClaimType × List OwnDeed → Option ClaimType
claim_after last =
    if list_any is_refusal last.1 then None
    else Some (record last.0 { agreed = map (λ seat. list_any (agrees seat) last.1) (North ∷ East ∷ South ∷ West ∷ []) })

-- the last thing that the director did
abbrev pub last_correction : List OwnDeed → Option Correction
last_correction [] = None
last_correction (deed ∷ later) = option_or (last_correction later) (correction_made deed)

-- the claim that stands, or was agreed
abbrev pub claim_left : List OwnDeed → Option ClaimType
claim_left deeds = option_and_then claim_after (last_claim deeds)

-- Less those taken back

-- a call
abbrev pub is_call : OwnDeed → Bool
is_call deed = is_some (call_made deed)

-- a card
abbrev pub is_card : OwnDeed → Bool
is_card deed = is_some (card_played deed)

-- a list without the last of its elements that pass the test
abbrev pub without_last : (OwnDeed → Bool) → List OwnDeed → List OwnDeed
without_last test [] = []
without_last test (deed ∷ later) =
    if list_any test later then deed ∷ without_last test later else if test deed then later else deed ∷ later

-- The things done less the latest: where a claim stands or was agreed, it is taken back as by a refusal, and still counts as made; or
-- else the last card goes; or else the last call.
abbrev pub less_latest : List OwnDeed → List OwnDeed
less_latest deeds =
    if is_some (claim_left deeds) then deeds ++ TakenBack ∷ []
    else if list_any is_card deeds then without_last is_card deeds
    else without_last is_call deeds

-- what is left of the things done before, and one more
abbrev pub left_with : OwnDeed → List OwnDeed → List OwnDeed
left_with TakenBack before = less_latest before
left_with deed before = before ++ deed ∷ []

-- what is left of them and of all that follow
abbrev pub left_of : List OwnDeed → List OwnDeed → List OwnDeed
left_of [] before = before
left_of (deed ∷ later) before = left_of later (left_with deed before)

-- The plain record

-- The record of a play of the board that these make, of which nothing is taken back any more: the calls and the cards, the number
-- of claims, the last claim if no refusal follows it, agreed by those who agree after it, and the ruling that the director left last.
abbrev pub record_made : ℕ → List OwnDeed → PlainRecord
record_made board deeds = record {
  board = board;
  calls = filter_map call_made deeds;
  cards = filter_map card_played deeds;
  claims = length (filter_map claim_made deeds);
  claim = claim_left deeds;
  ruling = option_and_then ruling_by (last_correction deeds);
}

-- The record of a play of the board that all things done in it make, less those taken back.
abbrev pub plain_record : ℕ → List OwnDeed → PlainRecord
plain_record board deeds = record_made board (left_of deeds [])

-- A play's record is of its own actions: where a play of the board is there at the opening, after any accepted actions its record is
-- the plain record of those of its own.
abbrev pub IsOfOwnActions : ConfigValue → List Action → PlayId → ℕ → Type 0
IsOfOwnActions configuration actions play board =
    IsConfiguration configuration → IsPlayId play → AreAccepted (opening configuration) actions →
    record_of (opening configuration) play ≡ Some (empty_record board) →
    record_of (after_actions (opening configuration) actions) play ≡ Some (plain_record board (own configuration play board 1 actions))
