-- What a store and its replies are, once lines were served.
use Rattle.std.specs.Prelude.{◌≡◌, ◌≤◌, ◌+◌, ℕ, true, false, List, [], ◌++◌, length}
use Rattle.std.specs.List.{list_all}
use Rattle.sector_disk.specs.Disk.{Disk}
use Rattle.session_store.specs.Answers.{room}
use Rattle.session_store.specs.Store.{Continues}
use Rattle.session_store.specs.Value.{StoreValue}
use Rattle.session_rules.specs.declared.action.Action.{Action}
use Rattle.bridge_session.specs.SessionKeeping.{session_keeping}
use Rattle.session_rules.specs.State.{SessionValue}
use Rattle.table_server.specs.declared.asked.Asked.{Asked}
use Rattle.table_server.specs.Course.{HasCourse}
use Rattle.table_server.specs.Answered.{AreReplies, after_all, accepted_all, held_after, is_held, disk_errors}
use Rattle.table_server.specs.Standing.{standing_of}

module _ {D : Type 0} (disk : Disk D) where
  -- Lines that ask for these were served, from this store on, with this text, and so many actions were accepted.
  pub record IsServed (start : StoreValue D SessionValue Action) (asked : List Asked) (store : StoreValue D SessionValue Action) (text : List ℕ) (actions : ℕ) : Type 0 where
    -- those answered; those taken of the group in which the store failed; and those not taken
    pub answered : List Asked
    pub taken : List Asked
    pub later : List Asked
    pub all : asked ≡ answered ++ (taken ++ later)
    -- the replies to the first, and `ERR 40 Disk` to each of the others
    pub replies : List ℕ
    pub are_replies : AreReplies (standing_of start) answered replies
    pub says : text ≡ replies ++ disk_errors (length (taken ++ later))
    -- there is a course of single calls of the store and writes of the replies to those answered, each where nothing is pending
    pub course : HasCourse disk start answered replies (accepted_all (standing_of start) (answered ++ taken)) store
    -- the state and the actions accepted, and where the store works how many more can be taken
    pub state : store.state ≡ (after_all (standing_of start) (answered ++ taken)).state
    pub standing : store.failed ≡ false → standing_of store ≡ after_all (standing_of start) (answered ++ taken)
    pub continues : Continues session_keeping disk start (accepted_all (standing_of start) (answered ++ taken)) store
    pub counted : actions ≡ length (accepted_all (standing_of start) (answered ++ taken))
    -- each action accepted leaves room for one fewer, but for one that failed as a checkpoint
    pub fewer : (room start ≤ room store + actions) × (room store + actions ≤ room start + 1)
    -- what was accepted of the lines answered is confirmed
    pub confirmed : length (accepted_all (standing_of start) answered) ≤ continues.confirmed
    -- where the store works, all are answered, and nothing is pending
    pub works : store.failed ≡ false → (taken ++ later ≡ []) × (store.pending ≡ [])
    -- where it failed, it failed in a group of held lines that begins after those answered
    pub group : store.failed ≡ true → held_after answered ≡ 0
    pub held : list_all is_held taken ≡ true
    pub few : length taken ≤ 64
    -- where it had failed before, no line was taken
    pub failed_before : start.failed ≡ true → answered ++ taken ≡ []
