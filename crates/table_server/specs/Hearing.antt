-- The lines of bytes that are served as they come.
use Rattle.std.specs.Prelude.{◌≡◌, ℕ, true, List, ◌++◌, length, Result, Ok, Err}
use Rattle.std.specs.List.{list_all}
use Rattle.sector_disk.specs.Disk.{Disk}
use Rattle.session_store.specs.Value.{StoreValue}
use Rattle.session_rules.specs.declared.action.Action.{Action}
use Rattle.session_rules.specs.State.{SessionValue}
use Rattle.line_text.specs.Lines.{complete_lines, is_within_line}
use Rattle.line_text.specs.Streams.{Stream, Takes}
use Rattle.table_server.specs.declared.asked.Asked.{Asked}
use Rattle.line_replies.specs.declared.fault.ServeFault.{ServeFault}
use Rattle.line_replies.specs.declared.fault.ServeFault.TheVariants.{Write}
use Rattle.table_server.specs.declared.line_service.LineService.{LineService}
use Rattle.table_server.specs.declared.line_set.LineSet.{LineSet}
use Rattle.table_server.specs.Answered.{AskAll}
use Rattle.line_replies.specs.LineFeed.{kept_lines}
use Rattle.table_server.specs.Serving.{Serving, IsStopped}
use Rattle.table_server.specs.WrongKeys.{wrong_keys}

-- The complete lines of these bytes, of a set, ask for these, and this line has begun.
pub record Hears (set : LineSet) (bytes : List ℕ) (asked : List Asked) (begun : List ℕ) : Type 0 where
  pub asks : AskAll set (kept_lines bytes) asked
  pub joins : (rest : List ℕ) → kept_lines (bytes ++ rest) ≡ kept_lines bytes ++ kept_lines (begun ++ rest)
  pub within : list_all is_within_line begun ≡ true

module _ {D : Type 0} (disk : Disk D) where
  -- The lines of these bytes were taken, from a store on; so far this is written.
  pub record Hearing (start : StoreValue D SessionValue Action) (bytes : List ℕ) (store : StoreValue D SessionValue Action) (service : LineService) (written : List ℕ) : Type 0 where
    pub asked : List Asked
    pub hears : Hears service.set bytes asked service.feed
    pub serving : Serving disk start asked store service.held written
    pub lines : service.held.served.lines ≡ length asked
    pub counted : service.wrong_keys ≡ wrong_keys start.state.configuration asked

  -- A write failed among the lines of these bytes.
  pub record IsCutShort (set : LineSet) (start : StoreValue D SessionValue Action) (bytes : List ℕ) (store : StoreValue D SessionValue Action) (written : List ℕ) (writer : Stream) : Type 0 where
    pub heard : List ℕ
    pub unheard : List ℕ
    pub all : bytes ≡ heard ++ unheard
    pub asked : List Asked
    pub asks : AskAll set (complete_lines heard) asked
    pub stopped : IsStopped disk start asked store written writer

  -- what is written at Ok, and what at a fault
  abbrev pub HearsOn : StoreValue D SessionValue Action → List ℕ → StoreValue D SessionValue Action → LineService → List ℕ → Stream → Result (Unit {0}) ServeFault → Type 0
  HearsOn start bytes store service written writer (Ok _) =
      (text : List ℕ) × Takes writer text × Hearing start bytes store service (written ++ text)
  HearsOn start bytes store service written writer (Err fault) = (fault ≡ Write) × IsCutShort service.set start bytes store written writer

  -- what further bytes make of those that were heard
  abbrev pub HearsMore : StoreValue D SessionValue Action → LineService → List ℕ → StoreValue D SessionValue Action → LineService → Stream → Result (Unit {0}) ServeFault → Type 0
  HearsMore old before more new service writer result = (start : StoreValue D SessionValue Action) (bytes : List ℕ) (written : List ℕ)
      → Hearing start bytes old before written → HearsOn start (bytes ++ more) new service written writer result
