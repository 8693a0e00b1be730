-- The course of serving: calls of the store and writes of replies, in their order.
use Rattle.std.specs.Prelude.{◌≡◌, ◌≤◌, ℕ, List, [], ◌∷◌, ◌++◌, length}
use Rattle.sector_disk.specs.Disk.{Disk, Image}
use Rattle.session_store.specs.Run.{StandsForAtLeast}
use Rattle.session_store.specs.Store.{Continues, IsSoundStore}
use Rattle.session_store.specs.Value.{StoreValue}
use Rattle.session_rules.specs.declared.action.Action.{Action}
use Rattle.bridge_session.specs.SessionKeeping.{session_keeping}
use Rattle.session_rules.specs.State.{SessionValue}
use Rattle.table_server.specs.declared.asked.Asked.{Asked}
use Rattle.table_server.specs.Answered.{AreReplies, after_all, accepted_all}
use Rattle.table_server.specs.Standing.{Standing, standing_of}

-- what is done: one call of the store, which accepts these actions, none or one, and leaves this store, whatever it answers; or
-- a write of the text of the replies to the next lines
pub data ServeEvent (D : Type 0) : Type 0 where
  Calls : List Action → StoreValue D SessionValue Action → ServeEvent D
  Replies : List Asked → List ℕ → ServeEvent D

-- where serving stands: the store, the actions accepted so far, the lines that are answered, and the text of their replies
pub record ServeStanding (D : Type 0) : Type 0 where
  pub store : StoreValue D SessionValue Action
  pub accepted : List Action
  pub answered : List Asked
  pub written : List ℕ

-- where it begins
abbrev pub at_beginning : {D : Type 0} → StoreValue D SessionValue Action → ServeStanding D
at_beginning start = record { store = start; accepted = []; answered = []; written = [] }

-- the actions that are accepted in what is done
abbrev pub accepts : {D : Type 0} → ServeEvent D → List Action
accepts (Calls actions _) = actions
accepts (Replies _ _) = []

-- the lines of which the reply is written before it, or some of it in it
abbrev pub answered_by : {D : Type 0} → ServeStanding D → ServeEvent D → List Asked
answered_by s (Calls _ _) = s.answered
answered_by s (Replies lines _) = s.answered ++ lines

module _ {D : Type 0} (disk : Disk D) (from : Standing) where
  -- What is done from a standing leads to another. Replies are written only where nothing is pending, and only to lines of
  -- which all was taken.
  abbrev pub Happens : ServeStanding D → ServeEvent D → ServeStanding D → Type 0
  Happens s (Calls actions store) t = (length actions ≤ 1) × Continues session_keeping disk s.store actions store
      × (t ≡ record s { store = store; accepted = s.accepted ++ actions })
  Happens s (Replies lines text) t = AreReplies (after_all from s.answered) lines text
      × (s.store.pending ≡ []) × (length (accepted_all from (s.answered ++ lines)) ≤ length s.accepted)
      × (t ≡ record s { answered = s.answered ++ lines; written = s.written ++ text })

  -- these events lead from one standing to another
  unfoldable pub Runs : ServeStanding D → List (ServeEvent D) → ServeStanding D → Type 0
  Runs s [] t = s ≡ t
  Runs s (e ∷ events) t = (m : ServeStanding D) × Happens s e m × Runs m events t

-- what a power cut at some moment of it might leave
abbrev pub MayLeave : {D : Type 0} → Disk D → ServeStanding D → ServeEvent D → Image → Type 0
MayLeave disk s (Calls actions store) c = disk.left_since store.disk (disk.moment s.store.disk) c
MayLeave disk s (Replies lines text) c = disk.may_leave s.store.disk c

module _ {D : Type 0} (disk : Disk D) where
  -- some events led from a store on to another, with these actions accepted, and these lines answered by this text
  pub record HasCourse (start : StoreValue D SessionValue Action) (answered : List Asked) (written : List ℕ) (accepted : List Action) (store : StoreValue D SessionValue Action) : Type 0 where
    pub events : List (ServeEvent D)
    pub runs : Runs disk (standing_of start) (at_beginning start) events
        (record { store = store; accepted = accepted; answered = answered; written = written })

  -- Where calls of a store, sound at first and with nothing pending, leave nothing pending, as what writes replies requires, a
  -- power cut leaves an image that stands for what all the actions accepted since make of the base.
  abbrev pub WriteLaw : Type 0
  WriteLaw = (start : StoreValue D SessionValue Action) → IsSoundStore session_keeping disk start → start.pending ≡ []
      → (accepted : List Action) (store : StoreValue D SessionValue Action) → Continues session_keeping disk start accepted store
      → store.pending ≡ []
      → (c : Image) → disk.may_leave store.disk c → StandsForAtLeast session_keeping disk start.base accepted (length accepted) c

  -- After any events from a sound store of which nothing is pending, at every moment of what is done next, a power cut leaves an
  -- image that stands for what some of the first actions accepted since make of the base, with all of the lines of which the
  -- reply is written, or some of it.
  abbrev pub CutLaw : Type 0
  CutLaw = (start : StoreValue D SessionValue Action) → IsSoundStore session_keeping disk start → start.pending ≡ []
      → (events : List (ServeEvent D)) (s : ServeStanding D) → Runs disk (standing_of start) (at_beginning start) events s
      → (e : ServeEvent D) (t : ServeStanding D) → Happens disk (standing_of start) s e t
      → (c : Image) → MayLeave disk s e c → StandsForAtLeast session_keeping disk start.base (s.accepted ++ accepts e)
      (length (accepted_all (standing_of start) (answered_by s e))) c
