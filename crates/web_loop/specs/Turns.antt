-- What connections carry, and what becomes of the service that answers them.
use Rattle.std.specs.Prelude.{◌≡◌, ◌≢◌, ◌⊎◌, ◌<◌, length, [], ℕ, List, ◌++◌, Bool, true, false, Option}
use Rattle.std.specs.Io.KnownBytes.{Appends, Consumes}
use Rattle.http.specs.declared.request.Request.{Request}
use Rattle.http_server.specs.declared.response.Response.{Response}
use Rattle.http_server.specs.Connection.{config_of, history}
use Rattle.http_server.specs.Exchange.{Call, Calls, Chain}
use Rattle.http_server.specs.History.{History, IsDone, IsQuiet, Rests}
use Rattle.http_server.specs.declared.state.Config.{Config}
use Rattle.http_server.specs.declared.connection.Connection.{Connection}
use Rattle.std.specs.declared.io.ErrorKind.{ErrorKind}
use Rattle.std.specs.declared.io.ErrorKind.TheVariants.{WouldBlock, Interrupted}
use Rattle.web_loop.specs.declared.client.Client.{Client}
use Rattle.web_loop.specs.declared.turn.Step.{Step}
use Rattle.web_loop.specs.declared.turn.Step.TheVariants.{Interrupted as InterruptedStep, Moved, Blocked, Held, Closed}
use Rattle.web_loop.specs.declared.turn.Turn.{Turn}
use Rattle.web_loop.specs.declared.turn.Turn.TheVariants.{Waits, Holds, Closes}

-- what the reader gave is what the connection received
abbrev pub Receives : History → History → Option (List ℕ) → Option (List ℕ) → Type 0
Receives old new reader left =
    (more : List ℕ) × Consumes reader left more × (new.received ≡ old.received ++ more)

-- what the connection sent is what the writer took
abbrev pub Sends : History → History → Option (List ℕ) → Option (List ℕ) → Type 0
Sends old new writer grown =
    (more : List ℕ) × Appends writer grown more × (new.sent ≡ old.sent ++ more)

-- some calls of a service lead, one after another, from one of its states to another
abbrev pub LeadsTo : {S : Type 0} → (S → Request (List ℕ) → Response → S → Type 0) → S → S → Type 0
LeadsTo answers old new = (calls : List Call) × Chain answers old calls new

-- What was received is answered first, as far as there is room, while nothing is received or sent.
pub record AnswersFirst {S : Type 0} (answers : S → Request (List ℕ) → Response → S → Type 0) (config : Config) (before after : S) (old new : History) : Type 0 where
  pub mid : Connection
  pub between : S
  pub limits : config_of mid ≡ config
  pub quiet : IsQuiet old (history mid)
  pub rests : Rests config (history mid)
  pub first : Calls answers before between old.calls (history mid).calls
  pub behind : Calls answers between after (history mid).calls new.calls

-- A request that waits was answered, and since then nothing is sent.
pub record HoldsBack {S : Type 0} (answers : S → Request (List ℕ) → Response → S → Type 0) (waits : S → ℕ) (config : Config) (before after : S) (new : History) : Type 0 where
  pub waited : waits after ≢ waits before
  pub mid : Connection
  pub between : S
  pub limits : config_of mid ≡ config
  pub unwaited : waits between ≡ waits before
  pub calls : Calls answers between after (history mid).calls new.calls
  pub unsent : new.sent ≡ (history mid).sent

-- Something was received or sent, or the end of what is received was found.
abbrev pub Grows : History → History → Type 0
Grows old new =
    (length old.received < length new.received) ⊎ ((length old.sent < length new.sent) ⊎ ((old.ended ≡ false) × (new.ended ≡ true)))

-- What a step did to its connection. Unless it moved it was quiet, and every whole request is answered as far as there is room. It
-- reads only where nothing is pending.
pub record StepEnds {S : Type 0} (answers : S → Request (List ℕ) → Response → S → Type 0) (waits : S → ℕ) (config : Config) (step : Step) (before after : S) (old new : History) : Type 0 where
  pub first : AnswersFirst answers config before after old new
  pub quiet : step ≢ Moved → IsQuiet old new × Rests config new
  pub done : IsDone new → (step ≡ Moved) ⊎ (step ≡ Closed)
  pub held : step ≡ Held → waits after ≢ waits before
  pub passed : step ≢ Held → (waits after ≡ waits before) ⊎ ((step ≡ Closed) × IsDone new)
  pub moved : step ≡ Moved → Grows old new
  pub ended : old.ended ≡ true → new.ended ≡ true
  pub reads : (new.received ≡ old.received) ⊎ (new.pending ≡ [])

-- What a turn did to its connection: it closes that where it is done, holds it where a request that waits was answered, and waits
-- with every whole request answered as far as there is room. One that did not move was quiet.
pub record TurnEnds {S : Type 0} (answers : S → Request (List ℕ) → Response → S → Type 0) (waits : S → ℕ) (config : Config) (turn : Turn) (before after : S) (old new : History) : Type 0 where
  pub first : AnswersFirst answers config before after old new
  pub done : IsDone new → turn ≡ Closes
  pub quiet : turn ≡ Waits false → IsQuiet old new
  pub moved : turn ≡ Waits true → Grows old new
  pub rests : (moved : Bool) → turn ≡ Waits moved → Rests config new
  pub closes : turn ≡ Closes → IsDone new ⊎ Rests config new
  pub held : turn ≡ Holds → HoldsBack answers waits config before after new
  pub passed : turn ≢ Holds → (waits after ≡ waits before) ⊎ ((turn ≡ Closes) × IsDone new)

-- whether a step read or wrote
abbrev pub is_moved : Step → Bool
is_moved Moved = true
is_moved _ = false

-- whether a client did something in its turn
abbrev pub has_moved : Turn → Bool
has_moved (Waits moved) = moved
has_moved _ = true

module _ {S T : Type 0} (answers : S → Request (List ℕ) → Response → S → Type 0) (remaining : T → Option (List ℕ)) where
  -- A client took a turn: the service was called as often as its connection was, which received what the client sent. It keeps
  -- its limits and its address.
  pub record TakesTurn (client after : Client T) (old new : S) : Type 0 where
    pub calls : Calls answers old new (history client.connection).calls (history after.connection).calls
    pub read : Receives (history client.connection) (history after.connection) (remaining client.reader) (remaining after.reader)
    pub config : config_of after.connection ≡ config_of client.connection
    pub address : after.address ≡ client.address

-- what a step did that failed so: it blocked, was interrupted, or closes
abbrev pub step_of : ErrorKind → Step
step_of WouldBlock = Blocked
step_of Interrupted = InterruptedStep
step_of _ = Closed
