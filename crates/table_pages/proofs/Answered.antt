-- Lines that came in one request, answered over a store.
use Rattle.std.proofs.Common.{◌≡◌, ℕ, ◌<◌, Bool, List, [], ◌++◌, length, take, IfSome, Option, Some, sym, ap, ◌∙◌, subst, subst₂, arith, append-nil}
use Rattle.std.proofs.lemmas.Bool.{lt-leb}
use Rattle.std.proofs.lemmas.List.{take_all}
use Rattle.std.specs.Prelude.{nat_le}
use Rattle.std.specs.Io.KnownBytes.{Appends}
use Rattle.sector_disk.specs.Disk.{Disk}
use Rattle.session_store.specs.Value.{StoreValue}
use Rattle.session_rules.specs.declared.action.Action.{Action}
use Rattle.session_rules.specs.State.{SessionValue}
use Rattle.line_text.specs.Lines.{complete_lines}
use Rattle.line_text.specs.Streams.{Stream}
use Rattle.table_server.specs.declared.line_set.LineSet.{LineSet}
use Rattle.table_server.specs.Answered.{AskAll}
use Rattle.table_server.specs.Served.{IsServed}
use Rattle.line_replies.specs.declared.fault.ServeFault.{ServeFault}
use Rattle.table_server.specs.declared.served.Served.{Served}
use Rattle.line_replies.specs.Limit.{limit_notice}
use Rattle.table_server.specs.declared.served.ServedKeys.{ServedKeys}
use Rattle.table_server.specs.ServedStreams.{HasCounted, HasServed, StopsServing}
use Rattle.table_pages.specs.Answered.{CountsKeys, IsAnswered, IsCutOff}

-- the replies to a whole body are all that is written
pub is_answered : {D : Type 0} (disk : Disk D) (set : LineSet) (start store : StoreValue D SessionValue Action) (body text : List ℕ) (reader writer : Stream) (served : Served)
    → length body < 65536 → HasServed disk set start store reader writer served
    → reader.old ≡ Some body → writer.old ≡ Some [] → writer.new ≡ Some text → IsAnswered disk set start body text store
is_answered disk set start store body text reader writer served few x whole empty full =
    let begun = subst (λ (r : Option (List ℕ)). IfSome r (λ input. x.bytes ≡ take 65536 input)) whole x.whole in
    let same : x.bytes ≡ body = begun ∙ take_all 65536 body (omega arith) in
    let short : length x.bytes < 65536 = subst (λ (b : List ℕ). length b < 65536) (sym same) few in
    let notice = limit_notice (nat_le 65536 (length x.bytes)) in
    let wrote = subst₂ (λ (old new : Option (List ℕ)). Appends old new (x.text ++ notice)) empty full x.wrote in
    let says : text ≡ x.text = wrote ∙ ap (λ (late : Bool). x.text ++ limit_notice late) (lt-leb 65536 (length x.bytes) short) ∙ append-nil x.text in
    record {
      asked = x.asked;
      asks = subst (λ (b : List ℕ). AskAll set (complete_lines b) x.asked) same x.asks;
      actions = served.accepted;
      served = subst (λ (t : List ℕ). IsServed disk start x.asked store t served.accepted) (sym says) x.served;
    }

-- and a text for which memory was refused was cut off
pub is_cut_off : {D : Type 0} (disk : Disk D) (set : LineSet) (start store : StoreValue D SessionValue Action) (body : List ℕ) (reader writer : Stream) (fault : ServeFault)
    → StopsServing disk set start store reader writer fault → reader.old ≡ Some body → writer.old ≡ Some [] → IsCutOff disk set start body store
is_cut_off disk set start store body reader writer fault stops whole empty =
    record { reader = reader; whole = whole; writer = writer; empty = empty; fault = fault; stops = stops }

-- the keys of the lines of a whole body were counted
pub counts_keys : {D : Type 0} (disk : Disk D) (set : LineSet) (start store : StoreValue D SessionValue Action) (body : List ℕ) (reader writer : Stream) (lines : ServedKeys)
    → length body < 65536 → HasCounted disk set start store reader writer lines → reader.old ≡ Some body → CountsKeys set start body lines.wrong_keys
counts_keys disk set start store body reader writer lines few x whole =
    let begun = subst (λ (r : Option (List ℕ)). IfSome r (λ input. x.has.bytes ≡ take 65536 input)) whole x.has.whole in
    let same : x.has.bytes ≡ body = begun ∙ take_all 65536 body (omega arith) in
    (x.has.asked, subst (λ (b : List ℕ). AskAll set (complete_lines b) x.has.asked) same x.has.asks, x.counted)
