-- What was served of a reader's bytes, and what was written for them.
use Rattle.std.specs.Prelude.{◌≡◌, ◌≤◌, ◌<◌, ◌+◌, ◌⊎◌, nat_le, ℕ, true, List, [], ◌++◌, length, take, Option, IfSome, Result, Ok, Err}
use Rattle.std.specs.Io.KnownBytes.{IsAtEnd}
use Rattle.sector_disk.specs.Disk.{Disk}
use Rattle.session_store.specs.Value.{StoreValue}
use Rattle.session_rules.specs.declared.action.Action.{Action}
use Rattle.session_rules.specs.State.{SessionValue}
use Rattle.line_text.specs.Lines.{complete_lines}
use Rattle.line_text.specs.Streams.{Stream, between, Gives, Takes}
use Rattle.table_server.specs.declared.asked.Asked.{Asked}
use Rattle.line_replies.specs.declared.fault.ServeFault.{ServeFault}
use Rattle.line_replies.specs.declared.fault.ServeFault.TheVariants.{Read, Write, Accept}
use Rattle.table_server.specs.declared.line_service.LineService.{LineService}
use Rattle.table_server.specs.declared.line_set.LineSet.{LineSet}
use Rattle.table_server.specs.declared.served.Served.{Served}
use Rattle.table_server.specs.declared.served.ServedKeys.{ServedKeys}
use Rattle.table_server.specs.declared.line_serving.Ended.{Ended}
use Rattle.table_server.specs.declared.line_serving.Ended.TheVariants.{AtEnd, AtLimit, AtFault}
use Rattle.table_server.specs.Answered.{AskAll}
use Rattle.table_server.specs.Hearing.{Hearing, IsCutShort}
use Rattle.line_replies.specs.Limit.{byte_limit, limit_notice}
use Rattle.table_server.specs.Served.{IsServed}
use Rattle.table_server.specs.WrongKeys.{wrong_keys}

-- how far below the limit of bytes, and at what of the reader, reading ended
abbrev pub IsEnd : Ended → ℕ → Option (List ℕ) → Type 0
IsEnd AtEnd left rest = (0 < left) × IsAtEnd rest
IsEnd AtLimit left rest = left ≡ 0
IsEnd AtFault left rest = 0 < left

module _ {D : Type 0} (disk : Disk D) where
  -- The reader gave some bytes, so many fewer than the limit, and their lines were taken.
  pub record HasRead (start store : StoreValue D SessionValue Action) (service : LineService) (reader writer : Stream) (left : ℕ) : Type 0 where
    pub bytes : List ℕ
    pub count : length bytes + left ≡ byte_limit
    pub given : Gives reader bytes
    pub text : List ℕ
    pub wrote : Takes writer text
    pub hearing : Hearing disk start bytes store service text

  -- of a set of lines
  module _ (set : LineSet) where
    -- All of the reader's bytes, up to the limit, were served: the replies to their complete lines are written, and at the
    -- limit a notice.
    pub record HasServed (start store : StoreValue D SessionValue Action) (reader writer : Stream) (result : Served) : Type 0 where
      pub bytes : List ℕ
      pub few : length bytes ≤ byte_limit
      pub given : Gives reader bytes
      pub whole : IfSome reader.old (λ input. bytes ≡ take byte_limit input)
      pub asked : List Asked
      pub asks : AskAll set (complete_lines bytes) asked
      pub text : List ℕ
      pub wrote : Takes writer (text ++ limit_notice (nat_le byte_limit (length bytes)))
      pub served : IsServed disk start asked store text result.accepted
      pub lines : result.lines ≡ length asked
      pub failed : result.failed ≡ store.failed

    -- The same, and so many of the lines had a key that is nobody's.
    pub record HasCounted (start store : StoreValue D SessionValue Action) (reader writer : Stream) (result : ServedKeys) : Type 0 where
      pub has : HasServed start store reader writer result.served
      pub counted : result.wrong_keys ≡ wrong_keys start.state.configuration has.asked

    -- A read failed: the replies to the complete lines before it are written.
    pub record StopsReading (start store : StoreValue D SessionValue Action) (reader writer : Stream) : Type 0 where
      pub bytes : List ℕ
      pub few : length bytes < byte_limit
      pub given : Gives reader bytes
      pub asked : List Asked
      pub asks : AskAll set (complete_lines bytes) asked
      pub text : List ℕ
      pub wrote : Takes writer text
      pub actions : ℕ
      pub served : IsServed disk start asked store text actions

    -- A write failed among the replies.
    pub record StopsReplying (start store : StoreValue D SessionValue Action) (reader writer : Stream) : Type 0 where
      pub bytes : List ℕ
      pub few : length bytes ≤ byte_limit
      pub given : Gives reader bytes
      pub cut : IsCutShort disk set start bytes store [] writer

    -- All replies are written, and of the notice at the limit a part, as a write failed.
    pub record StopsNoticing (start store : StoreValue D SessionValue Action) (reader writer : Stream) : Type 0 where
      pub bytes : List ℕ
      pub limit : length bytes ≡ byte_limit
      pub given : Gives reader bytes
      pub asked : List Asked
      pub asks : AskAll set (complete_lines bytes) asked
      pub text : List ℕ
      pub begun : List ℕ
      pub unwritten : List ℕ
      pub notice : limit_notice true ≡ begun ++ unwritten
      pub wrote : Takes writer (text ++ begun)
      pub actions : ℕ
      pub served : IsServed disk start asked store text actions

    -- what holds at a fault; no connection is accepted
    abbrev pub StopsServing : StoreValue D SessionValue Action → StoreValue D SessionValue Action → Stream → Stream → ServeFault → Type 0
    StopsServing start store reader writer Read = StopsReading start store reader writer
    StopsServing start store reader writer Write = StopsReplying start store reader writer ⊎ StopsNoticing start store reader writer
    StopsServing start store reader writer Accept = ⊥

    -- what holds at the end, with the keys counted
    abbrev pub EndsCounting : StoreValue D SessionValue Action → StoreValue D SessionValue Action → Stream → Stream → Result ServedKeys ServeFault → Type 0
    EndsCounting start store reader writer (Ok result) = HasCounted start store reader writer result
    EndsCounting start store reader writer (Err fault) = StopsServing start store reader writer fault

  -- how reading ended that began before the first byte,
  abbrev pub ReadsTo : StoreValue D SessionValue Action → LineService → StoreValue D SessionValue Action → LineService → Stream → Stream → Ended → Type 0
  ReadsTo old before new service reader writer ended = (start : StoreValue D SessionValue Action) → Hearing disk start [] old before []
      → (left : ℕ) × IsEnd ended left reader.new × HasRead start new service reader writer left

  -- where a write failed,
  abbrev pub StopsReads : StoreValue D SessionValue Action → LineService → StoreValue D SessionValue Action → Stream → Stream → ServeFault → Type 0
  StopsReads old before new reader writer fault = (start : StoreValue D SessionValue Action) → Hearing disk start [] old before []
      → (fault ≡ Write) × StopsReplying before.set start new reader writer

  -- and what is written once it has ended so, by a writer that had and has these bytes
  abbrev pub EndsReading : Ended → StoreValue D SessionValue Action → LineService → StoreValue D SessionValue Action → Option (List ℕ) → Option (List ℕ) → Result ServedKeys ServeFault → Type 0
  EndsReading ended old service new had has result =
      (start : StoreValue D SessionValue Action) (reader : Stream) (before : Option (List ℕ)) (left : ℕ) → IsEnd ended left reader.new
      → HasRead start old service reader (between before had) left → EndsCounting service.set start new reader (between before has) result
