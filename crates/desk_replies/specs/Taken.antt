-- What the desk takes, from whom, and what stands then.
use Rattle.std.specs.Prelude.{◌≡◌, ℕ, ◌==◌, Bool, if◌then◌else◌, List, Option, Some, None, Result, Ok, Err}
use Rattle.bridge_cards.specs.declared.seat.Seat.{Seat}
use Rattle.bridge_cards.specs.Seat.{same_seat}
use Rattle.session_rules.specs.declared.refused.Refused.{Refused}
use Rattle.session_rules.specs.declared.refused.Refused.TheVariants.{NoClaim, NotAsked}
use Rattle.session_rules.specs.declared.seating.Player.{Player}
use Rattle.session_rules.specs.declared.seating.Seating.{Seating}
use Rattle.session_rules.specs.Answer.{Answer}
use Rattle.session_rules.specs.State.{SessionValue, acting_player, director_answer, seating_of}
use Rattle.desk_replies.specs.declared.asked.Asked.{Asked}
use Rattle.desk_replies.specs.declared.asked.Order.{Order}
use Rattle.desk_replies.specs.declared.asked.Order.TheVariants.{Look, Notice, NoNotice, Clock, NoClock, Answered, Call, State, Refuse}
use Rattle.desk_replies.specs.declared.claims.SeenClaim.{SeenClaim}
use Rattle.desk_replies.specs.declared.desk.Desk.{Desk}
use Rattle.desk_replies.specs.declared.said.StandingClaim.{StandingClaim}
use Rattle.desk_replies.specs.declared.refused.DeskRefused.{DeskRefused}
use Rattle.desk_replies.specs.declared.refused.DeskRefused.TheVariants.{Session, TooSoon}
use Rattle.desk_replies.specs.Claims.{standing, claim_to, is_asked}
use Rattle.desk_replies.specs.Desk.{is_soon, with_notice, without_notice, with_clock, set_call, with_call, with_statement, with_refusal}

-- the desk, where something is taken; or why not
abbrev pub Taken : Type 0
Taken = Result Desk DeskRefused

-- the director alone may
abbrev pub by_director : Answer → Taken → Taken
by_director (Err refused) taken = Err (Session refused)
by_director (Ok x) taken = taken

-- a player may look
abbrev pub look_by : Desk → Result Player Refused → Taken
look_by desk (Err refused) = Err (Session refused)
look_by desk (Ok player) = Ok desk

-- everybody who has a key may look
abbrev pub look_taken : SessionValue → Desk → ℕ → Taken
look_taken s desk key =
    if key == s.configuration.director then Ok desk else look_by desk (acting_player s.configuration key)

-- a notice, of which one is taken in a second
abbrev pub notice_taken : Desk → ℕ → List ℕ → Taken
notice_taken desk at text = if is_soon at desk.noticed then Err TooSoon else Ok (with_notice desk at text)

-- a call by a player from where he sits
abbrev pub call_by : Desk → ℕ → List ℕ → Result Player Refused → Result Seating Refused → Taken
call_by desk at text (Err refused) seating = Err (Session refused)
call_by desk at text (Ok player) (Err refused) = Err (Session refused)
call_by desk at text (Ok player) (Ok seating) =
    Ok (with_call desk (record { table = seating.table; player = player; since = at; text = text }))

-- a statement with that claim of a seat, at a table, if it is that seat's
abbrev pub state_with : Desk → ℕ → Seat → List ℕ → Option StandingClaim → Taken
state_with desk table seat text None = Err (Session NoClaim)
state_with desk table seat text (Some claim) =
    if same_seat claim.claimer seat then Ok (with_statement desk table (record { claim = claim; text = text })) else Err (Session NoClaim)

-- a statement by a player with his own claim, which stands
abbrev pub state_by : Desk → List ℕ → Result SeenClaim Refused → Taken
state_by desk text (Err refused) = Err (Session refused)
state_by desk text (Ok seen) = state_with desk seen.table seen.seat text (standing seen)

-- a refusal from that seat at a table of the claim that stands, if it asks the seat
abbrev pub refusal_with : Desk → ℕ → Seat → Bool → Option StandingClaim → Taken
refusal_with desk table seat asked None = Err (Session NoClaim)
refusal_with desk table seat asked (Some claim) =
    if asked then Ok (with_refusal desk table (record { claim = claim; seat = seat })) else Err (Session NotAsked)

-- a refusal by a player of the claim that stands, if he is asked and has not agreed
abbrev pub refusal_by : Desk → Result SeenClaim Refused → Result Bool Refused → Taken
refusal_by desk (Err refused) asked = Err (Session refused)
refusal_by desk (Ok seen) (Err refused) = Err (Session refused)
refusal_by desk (Ok seen) (Ok asked) = refusal_with desk seen.table seen.seat asked (standing seen)

-- what the holder of a key asks for
abbrev pub order_taken : SessionValue → Desk → ℕ → ℕ → Order → Taken
order_taken s desk at key Look = look_taken s desk key
order_taken s desk at key (Notice text) = by_director (director_answer s.configuration key) (notice_taken desk at text)
order_taken s desk at key NoNotice = by_director (director_answer s.configuration key) (Ok (without_notice desk))
order_taken s desk at key (Clock minutes) =
    by_director (director_answer s.configuration key) (Ok (with_clock desk (Some (record { begun = at; minutes = minutes }))))
order_taken s desk at key NoClock = by_director (director_answer s.configuration key) (Ok (with_clock desk None))
order_taken s desk at key (Answered table) = by_director (director_answer s.configuration key) (Ok (set_call desk table None))
order_taken s desk at key (Call text) = call_by desk at text (acting_player s.configuration key) (seating_of s.configuration s.round key)
order_taken s desk at key (State text) = state_by desk text (claim_to s key)
order_taken s desk at key Refuse = refusal_by desk (claim_to s key) (is_asked s key)

-- what is asked for
abbrev pub taken : SessionValue → Desk → ℕ → Asked → Taken
taken s desk at asked = order_taken s desk at asked.key.0 asked.order

-- the desk takes it and stands so, or it refuses it and stands as before
abbrev pub Takes : Taken → Desk → Result (Unit {0}) DeskRefused → Desk → Type 0
Takes wanted old (Ok x) new = wanted ≡ Ok new
Takes wanted old (Err refused) new = (wanted ≡ Err refused) × (new ≡ old)

-- the desk after that: as it was where nothing is taken
abbrev pub left_by : Desk → Taken → Desk
left_by desk (Err refused) = desk
left_by desk (Ok new) = new
