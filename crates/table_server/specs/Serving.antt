-- What holds between two lines that are served.
use Rattle.std.specs.Prelude.{◌≡◌, ◌+◌, ◌<◌, ◌≤◌, ◌*◌, ◌⊎◌, ℕ, Bool, true, false, List, [], ◌∷◌, ◌++◌, length, Option, Some, None, Result, Ok, Err}
use Rattle.std.specs.List.{list_all}
use Rattle.sector_disk.specs.Disk.{Disk}
use Rattle.session_store.specs.Answers.{after_confirm, room}
use Rattle.session_store.specs.Store.{Continues}
use Rattle.session_store.specs.Value.{StoreValue}
use Rattle.session_rules.specs.declared.action.Action.{Action}
use Rattle.bridge_session.specs.SessionKeeping.{session_keeping}
use Rattle.session_rules.specs.State.{SessionValue}
use Rattle.line_text.specs.Streams.{Stream, Takes, Written}
use Rattle.table_server.specs.declared.asked.Asked.{Asked}
use Rattle.line_replies.specs.declared.fault.ServeFault.{ServeFault}
use Rattle.line_replies.specs.declared.fault.ServeFault.TheVariants.{Write}
use Rattle.table_server.specs.declared.held_replies.HeldReplies.{HeldReplies}
use Rattle.table_server.specs.declared.served.Served.{Served}
use Rattle.line_replies.specs.declared.short_reply.ShortReply.{ShortReply}
use Rattle.line_replies.specs.declared.short_reply.ShortReply.TheVariants.{Done, Refused, Illegal, BadLine, LongLine, Disk as DiskReply, EpochsSpent}
use Rattle.table_server.specs.Course.{HasCourse}
use Rattle.table_server.specs.Answered.{AreReplies, after_all, accepted_all, held_after, is_held, disk_errors}
use Rattle.table_server.specs.Served.{IsServed}
use Rattle.table_server.specs.Standing.{Standing, standing_of, change_reply, after_change, accepted_change}

-- no more actions were accepted than lines came
pub record IsCounted (served : Served) : Type 0 where
  pub few_lines : served.lines ≤ 65536
  pub few_accepted : served.accepted ≤ served.lines

-- fewer than 64 lines are held, with as little text
pub record Fits (held : HeldReplies) : Type 0 where
  pub few : held.count < 64
  pub short : length held.text.bytes ≤ 29 * held.count
  pub counted : IsCounted held.served

-- how many actions were accepted with this reply
abbrev pub accepted_count : ShortReply → ℕ
accepted_count Done = 1
accepted_count (Refused refused) = 0
accepted_count (Illegal refused) = 0
accepted_count BadLine = 0
accepted_count LongLine = 0
accepted_count DiskReply = 0
accepted_count EpochsSpent = 0

-- the text is the replies to the first of these lines, and `ERR 40 Disk` to each of the others
pub record AreAnswers (from : Standing) (asked : List Asked) (text : List ℕ) : Type 0 where
  pub answered : List Asked
  pub others : List Asked
  pub all : asked ≡ answered ++ others
  pub replies : List ℕ
  pub are_replies : AreReplies from answered replies
  pub says : text ≡ replies ++ disk_errors (length others)

-- lines that are answered together after these: held lines, where their group begins, or one line, which is a question
-- unless the store has failed
abbrev pub AreTogether : Bool → List Asked → List Asked → Type 0
AreTogether failed before group = ((held_after before ≡ 0) × (list_all is_held group ≡ true))
    ⊎ ((one : Asked) × (group ≡ one ∷ []) × (failed ≡ false → is_held one ≡ false))

module _ {D : Type 0} (disk : Disk D) where
  -- the reply to a change, and the store that it leaves
  pub record IsTaken (old : StoreValue D SessionValue Action) (action : Action) (new : StoreValue D SessionValue Action) (reply : ShortReply) : Type 0 where
    pub works : new.failed ≡ false
    pub reply_is : reply ≡ change_reply (standing_of old) action
    pub standing : standing_of new ≡ after_change (standing_of old) action
    pub continues : Continues session_keeping disk old (accepted_change (standing_of old) action) new

  -- the store that accepted an action and failed
  pub record FailsTaking (old : StoreValue D SessionValue Action) (action : Action) (new : StoreValue D SessionValue Action) : Type 0 where
    pub failed : new.failed ≡ true
    pub accepted : accepted_change (standing_of old) action ≡ action ∷ []
    pub state : new.state ≡ (after_change (standing_of old) action).state
    -- it leaves room for one fewer, or for as many where it failed as a checkpoint
    pub fewer : (room new ≤ room old) × (room old ≤ room new + 1)
    pub continues : Continues session_keeping disk old (accepted_change (standing_of old) action) new

  -- a reply, where the store did not fail
  abbrev pub GivesReply : StoreValue D SessionValue Action → Action → StoreValue D SessionValue Action → Option ShortReply → Type 0
  GivesReply old action new (Some reply) = IsTaken old action new reply
  GivesReply old action new None = FailsTaking old action new

  -- what was accepted is confirmed, and the replies are written; or the store has failed, and for each the error is
  abbrev pub SettlesBy : {E : Type 0} → Bool → StoreValue D SessionValue Action → StoreValue D SessionValue Action → List ℕ → ℕ → Stream → Result (Unit {0}) E → Type 0
  SettlesBy true old new text count writer result =
      (new.failed ≡ true) × (standing_of new ≡ standing_of old) × Written writer (disk_errors count) result
  SettlesBy false old new text count writer result = (new ≡ after_confirm old new.disk) × Written writer text result

  -- Lines were answered in whole groups, with what is written; and others are held, with this text of replies.
  pub record Holding (start : StoreValue D SessionValue Action) (asked : List Asked) (store : StoreValue D SessionValue Action) (text : List ℕ) (count : ℕ) (written : List ℕ) : Type 0 where
    pub answered : List Asked
    pub waiting : List Asked
    pub all : asked ≡ answered ++ waiting
    pub are_replies : AreReplies (standing_of start) answered written
    pub are_held : AreReplies (after_all (standing_of start) answered) waiting text
    pub begins : held_after answered ≡ 0
    pub group : list_all is_held waiting ≡ true
    pub count_is : length waiting ≡ count
    pub few : count ≤ 64
    pub works : store.failed ≡ false
    pub worked : start.failed ≡ false
    pub standing : standing_of store ≡ after_all (standing_of start) asked
    pub continues : Continues session_keeping disk start (accepted_all (standing_of start) asked) store
    pub pending : length store.pending ≤ length (accepted_all (after_all (standing_of start) answered) waiting)
    pub course : HasCourse disk start answered written (accepted_all (standing_of start) asked) store

  -- All lines were answered, and what was accepted of them is confirmed.
  pub record Settled (start : StoreValue D SessionValue Action) (asked : List Asked) (store : StoreValue D SessionValue Action) (written : List ℕ) : Type 0 where
    pub are_replies : AreReplies (standing_of start) asked written
    pub works : store.failed ≡ false
    pub worked : start.failed ≡ false
    pub standing : standing_of store ≡ after_all (standing_of start) asked
    pub continues : Continues session_keeping disk start (accepted_all (standing_of start) asked) store
    pub pending : store.pending ≡ []
    pub course : HasCourse disk start asked written (accepted_all (standing_of start) asked) store

  -- The store works, and so many actions were accepted.
  pub record Works (start : StoreValue D SessionValue Action) (asked : List Asked) (store : StoreValue D SessionValue Action) (held : HeldReplies) (written : List ℕ) : Type 0 where
    pub holding : Holding start asked store held.text.bytes held.count written
    pub counted : held.served.accepted ≡ length (accepted_all (standing_of start) asked)

  -- The store has failed.
  pub record Failed (start : StoreValue D SessionValue Action) (asked : List Asked) (store : StoreValue D SessionValue Action) (held : HeldReplies) (written : List ℕ) : Type 0 where
    pub failed : store.failed ≡ true
    pub none_held : held.count ≡ 0
    pub served : IsServed disk start asked store written held.served.accepted

  -- the store has failed, or it works
  abbrev pub ServingBy : Bool → StoreValue D SessionValue Action → List Asked → StoreValue D SessionValue Action → HeldReplies → List ℕ → Type 0
  ServingBy true start asked store held written = Failed start asked store held written
  ServingBy false start asked store held written = Works start asked store held written

  -- Lines that ask for these were taken, from a store on; so far this is written, and these replies are held.
  abbrev pub Serving : StoreValue D SessionValue Action → List Asked → StoreValue D SessionValue Action → HeldReplies → List ℕ → Type 0
  Serving start asked store held written = ServingBy held.served.failed start asked store held written

  -- A write failed. The first lines were served: the texts of some are written whole, and of the last text, that of at most
  -- 64 lines that are answered together, a part. No other line was taken.
  pub record IsStopped (start : StoreValue D SessionValue Action) (asked : List Asked) (store : StoreValue D SessionValue Action) (written : List ℕ) (writer : Stream) : Type 0 where
    pub whole : List Asked
    pub group : List Asked
    pub rest : List Asked
    pub all : asked ≡ (whole ++ group) ++ rest
    pub few : length group ≤ 64
    pub one_group : AreTogether store.failed whole group
    pub text : List ℕ
    pub answers : AreAnswers (standing_of start) whole (written ++ text)
    pub begun : List ℕ
    pub unwritten : List ℕ
    pub actions : ℕ
    pub served : IsServed disk start (whole ++ group) store ((written ++ text) ++ (begun ++ unwritten)) actions
    pub wrote : Takes writer (text ++ begun)

  -- what is written at Ok, and what at a fault
  abbrev pub Serves : StoreValue D SessionValue Action → List Asked → StoreValue D SessionValue Action → HeldReplies → List ℕ → Stream → Result (Unit {0}) ServeFault → Type 0
  Serves start asked store held written writer (Ok _) =
      (text : List ℕ) × Takes writer text × Serving start asked store held (written ++ text)
  Serves start asked store held written writer (Err fault) = (fault ≡ Write) × IsStopped start asked store written writer

  -- what was served at the end, with what is written then
  abbrev pub Ends : StoreValue D SessionValue Action → List Asked → StoreValue D SessionValue Action → List ℕ → Stream → Result Served ServeFault → Type 0
  Ends start asked store written writer (Ok result) = (text : List ℕ) × Takes writer text
      × IsServed disk start asked store (written ++ text) result.accepted × (result.failed ≡ store.failed)
  Ends start asked store written writer (Err fault) = (fault ≡ Write) × IsStopped start asked store written writer

  -- What a further line makes of lines that were taken, in a store that works,
  abbrev pub WorksOn : StoreValue D SessionValue Action → HeldReplies → Asked → StoreValue D SessionValue Action → HeldReplies → Stream → Result (Unit {0}) ServeFault → Type 0
  WorksOn old before one new held writer result = (start : StoreValue D SessionValue Action) (asked : List Asked) (written : List ℕ)
      → Works start asked old before written → Serves start (asked ++ one ∷ []) new held written writer result

  -- and in any
  abbrev pub ServesOn : StoreValue D SessionValue Action → HeldReplies → Asked → StoreValue D SessionValue Action → HeldReplies → Stream → Result (Unit {0}) ServeFault → Type 0
  ServesOn old before one new held writer result = (start : StoreValue D SessionValue Action) (asked : List Asked) (written : List ℕ)
      → Serving start asked old before written → Serves start (asked ++ one ∷ []) new held written writer result

  -- what becomes of lines that are held with so many replies, of this text, where so many actions were accepted
  abbrev pub HoldsOn : StoreValue D SessionValue Action → List ℕ → ℕ → ℕ → StoreValue D SessionValue Action → HeldReplies → Stream → Result (Unit {0}) ServeFault → Type 0
  HoldsOn old text count accepted new held writer result = (start : StoreValue D SessionValue Action) (asked : List Asked) (written : List ℕ)
      → Holding start asked old text count written → accepted ≡ length (accepted_all (standing_of start) asked)
      → Serves start asked new held written writer result

  -- and what the end makes of lines that were taken
  abbrev pub EndsOn : StoreValue D SessionValue Action → HeldReplies → StoreValue D SessionValue Action → Stream → Result Served ServeFault → Type 0
  EndsOn old before new writer result = (start : StoreValue D SessionValue Action) (asked : List Asked) (written : List ℕ)
      → Serving start asked old before written → Ends start asked new written writer result
