-- What changes make of a session, and the replies to them.
use Rattle.std.specs.Prelude.{ℕ, zero, suc, List, [], ◌∷◌, Result, Ok, Err}
use Rattle.session_rules.specs.declared.action.Action.{Action}
use Rattle.session_rules.specs.declared.refused.Refused.{Refused as SessionRefused}
use Rattle.bridge_session.specs.SessionKeeping.{session_keeping}
use Rattle.session_rules.specs.State.{SessionValue}
use Rattle.session_store.specs.Answers.{room}
use Rattle.session_store.specs.Value.{StoreValue}
use Rattle.line_replies.specs.declared.short_reply.ShortReply.{ShortReply}
use Rattle.line_replies.specs.declared.short_reply.ShortReply.TheVariants.{Done, Refused, EpochsSpent}

-- a session, and how many actions can be taken before the epochs of its store are spent
pub record Standing : Type 0 where
  pub state : SessionValue
  pub room : ℕ

-- that of a store
abbrev pub standing_of : {D : Type 0} → StoreValue D SessionValue Action → Standing
standing_of v = record { state = v.state; room = room v }

-- the session's answer to an action: the session after it, or why it is refused
abbrev pub answer_in : Standing → Action → Result SessionValue SessionRefused
answer_in standing action = session_keeping.step standing.state action

-- the reply by the answer of the session
abbrev pub reply_by : Result SessionValue SessionRefused → ShortReply
reply_by (Ok state) = Done
reply_by (Err refused) = Refused refused

-- where so many actions can be taken
abbrev pub reply_within : ℕ → Result SessionValue SessionRefused → ShortReply
reply_within zero answer = EpochsSpent
reply_within (suc room) answer = reply_by answer

-- the reply to a change
abbrev pub change_reply : Standing → Action → ShortReply
change_reply standing action = reply_within standing.room (answer_in standing action)

-- where it stands after this answer, with room for so many actions if it is accepted
abbrev pub standing_by : Standing → ℕ → Result SessionValue SessionRefused → Standing
standing_by standing room (Ok state) = record { state = state; room = room }
standing_by standing room (Err refused) = standing

-- the same where so many actions can be taken; with none, nothing changes
abbrev pub standing_within : Standing → ℕ → Result SessionValue SessionRefused → Standing
standing_within standing zero answer = standing
standing_within standing (suc room) answer = standing_by standing room answer

-- the session after a change, one action fewer to be taken where it is accepted
abbrev pub after_change : Standing → Action → Standing
after_change standing action = standing_within standing standing.room (answer_in standing action)

-- the action, where this answer accepts it
abbrev pub accepted_by_answer : Action → Result SessionValue SessionRefused → List Action
accepted_by_answer action (Ok state) = action ∷ []
accepted_by_answer action (Err refused) = []

-- the same where so many actions can be taken; with none, it is not accepted
abbrev pub accepted_within : ℕ → Action → Result SessionValue SessionRefused → List Action
accepted_within zero action answer = []
accepted_within (suc room) action answer = accepted_by_answer action answer

-- the actions that a change adds to those accepted: its own or none
abbrev pub accepted_change : Standing → Action → List Action
accepted_change standing action = accepted_within standing.room action (answer_in standing action)
