-- Lines that came in one request, answered over a store.
use Rattle.std.specs.Prelude.{◌≡◌, ℕ, Bool, true, false, List, [], ◌∷◌, Option, Some, None}
use Rattle.sector_disk.specs.Disk.{Disk}
use Rattle.session_store.specs.Value.{StoreValue}
use Rattle.session_rules.specs.declared.action.Action.{Action}
use Rattle.session_rules.specs.State.{SessionValue}
use Rattle.line_text.specs.Lines.{complete_lines}
use Rattle.line_text.specs.Streams.{Stream}
use Rattle.page_replies.specs.Place.{place_text}
use Rattle.page_replies.specs.Tables.{tables_text}
use Rattle.page_replies.specs.WrongKey.{is_wrong_key}
use Rattle.board_replies.specs.Asked.{has_wrong_key}
use Rattle.board_replies.specs.Told.{boards_text, opened_by}
use Rattle.desk_replies.specs.declared.desk.Desk.{Desk}
use Rattle.desk_replies.specs.declared.kept.KeptOn.{KeptOn}
use Rattle.desk_replies.specs.Desk.{with_kept}
use Rattle.desk_replies.specs.Asked.{has_wrong_key as asks_wrongly}
use Rattle.desk_replies.specs.Told.{desk_text, desk_after}
use Rattle.line_replies.specs.declared.short_reply.ShortReply.{ShortReply}
use Rattle.table_pages.specs.Waits.{wait_reply, IsToldStill}
use Rattle.table_server.specs.declared.asked.Asked.{Asked}
use Rattle.table_server.specs.declared.line_set.LineSet.{LineSet}
use Rattle.line_replies.specs.declared.fault.ServeFault.{ServeFault}
use Rattle.table_server.specs.Answered.{AskAll}
use Rattle.table_server.specs.Faulted.{FailsWithDisk}
use Rattle.table_server.specs.Served.{IsServed}
use Rattle.table_server.specs.ServedStreams.{StopsServing}
use Rattle.table_server.specs.WrongKeys.{wrong_keys}

-- nothing is pending, or the store has failed
abbrev pub is_settled : {A : Type 0} → Bool → List A → Bool
is_settled true pending = true
is_settled false [] = true
is_settled false (action ∷ pending) = false

-- a store has failed
abbrev pub has_failed : {D : Type 0} → StoreValue D SessionValue Action → Bool
has_failed store = store.failed

-- over the session of a store: what is told to the player whose key these bytes are, of his place
abbrev pub place_told : {D : Type 0} → StoreValue D SessionValue Action → List ℕ → List ℕ
place_told store key = place_text store.state key

-- over the session of a store: what is told of all tables to the director, whose key these bytes are
abbrev pub tables_told : {D : Type 0} → StoreValue D SessionValue Action → List ℕ → List ℕ
tables_told store key = tables_text store.state key

-- over the session of a store: what is told of boards where these bytes are posted, players being told of other tables or not
abbrev pub boards_told : {D : Type 0} → StoreValue D SessionValue Action → Bool → List ℕ → List ℕ
boards_told store is_open key = boards_text store.state is_open key

-- and whether they are told of them from then on
abbrev pub opens_told : {D : Type 0} → StoreValue D SessionValue Action → Bool → List ℕ → Bool
opens_told store is_open key = opened_by store.state is_open key

-- over the session of a store: so many of the complete lines of these bytes, of a set, have a key that is nobody's
abbrev pub CountsKeys : {D : Type 0} → LineSet → StoreValue D SessionValue Action → List ℕ → ℕ → Type 0
CountsKeys set store body count =
    (asked : List Asked) × AskAll set (complete_lines body) asked × (count ≡ wrong_keys store.state.configuration asked)

-- whether these bytes are one
abbrev pub wrong_key_told : {D : Type 0} → StoreValue D SessionValue Action → List ℕ → Bool
wrong_key_told store key = is_wrong_key store.state.configuration key

-- and whether boards are asked for by one
abbrev pub wrong_key_at_boards : {D : Type 0} → StoreValue D SessionValue Action → List ℕ → Bool
wrong_key_at_boards store bytes = has_wrong_key store.state.configuration bytes

-- and whether something is asked of the desk by one
abbrev pub wrong_key_at_desk : {D : Type 0} → StoreValue D SessionValue Action → List ℕ → Bool
wrong_key_at_desk store bytes = asks_wrongly store.state.configuration bytes

-- what is kept on the disk of a store
abbrev pub kept_on : {D : Type 0} → StoreValue D SessionValue Action → KeptOn
kept_on store = record { epoch = store.epoch; records = store.records }

-- what stands beside the session of a store
abbrev pub desk_beside : {D : Type 0} → StoreValue D SessionValue Action → Desk → Desk
desk_beside store desk = with_kept desk (record { first = Some (kept_on store); second = None })

-- over the session of a store: what is told of the desk where these bytes are posted at a second
abbrev pub desks_told : {D : Type 0} → StoreValue D SessionValue Action → Desk → ℕ → List ℕ → List ℕ
desks_told store desk at body = desk_text store.state (desk_beside store desk) at body

-- and what stands on it from then on
abbrev pub stands_told : {D : Type 0} → StoreValue D SessionValue Action → Desk → ℕ → List ℕ → Desk
stands_told store desk at body = desk_after store.state (desk_beside store desk) at body

-- over the session of a store: how a request to wait is answered
abbrev pub wait_told : {D : Type 0} → StoreValue D SessionValue Action → List ℕ → ShortReply
wait_told store body = wait_reply store.state.configuration body

-- and whether what such a body says was told is told still
abbrev pub IsStill : {D : Type 0} → StoreValue D SessionValue Action → Desk → List ℕ → Type 0
IsStill store desk body = IsToldStill store.state desk body

module _ {D : Type 0} (disk : Disk D) (set : LineSet) where
  -- All complete lines of a body, of a set, were served over a store, and the text is the replies to them.
  pub record IsAnswered (start : StoreValue D SessionValue Action) (body text : List ℕ) (store : StoreValue D SessionValue Action) : Type 0 where
    pub asked : List Asked
    pub asks : AskAll set (complete_lines body) asked
    pub actions : ℕ
    pub served : IsServed disk start asked store text actions

  -- Memory was refused for the text, at which serving stopped.
  pub record IsCutOff (start : StoreValue D SessionValue Action) (body : List ℕ) (store : StoreValue D SessionValue Action) : Type 0 where
    pub reader : Stream
    pub whole : reader.old ≡ Some body
    pub writer : Stream
    pub empty : writer.old ≡ Some []
    pub fault : ServeFault
    pub stops : StopsServing disk set start store reader writer fault

  -- a body was answered by a text, or memory was refused for it
  abbrev pub AnswersBody : StoreValue D SessionValue Action → List ℕ → Option (List ℕ) → StoreValue D SessionValue Action → Type 0
  AnswersBody start body (Some text) store = IsAnswered start body text store
  AnswersBody start body None store = IsCutOff start body store

  -- and the store failed exactly where a call of its disk did
  abbrev pub AnswersLines : StoreValue D SessionValue Action → List ℕ → Option (List ℕ) → StoreValue D SessionValue Action → Type 0
  AnswersLines start body text store = AnswersBody start body text store × FailsWithDisk disk start store
