-- What was served of a reader's bytes, piece by piece.
use Rattle.std.proofs.Common.{◌≡◌, ℕ, zero, suc, ◌+◌, ◌<◌, ◌≤◌, ◌∙◌, true, false, List, [], ◌++◌, length, take, Option, Some, None, Result, Ok, Err, inl, inr, refl, sym, ap, subst, arith, length-append, append-nil}
use Rattle.std.specs.Prelude.{nat_le, IfSome, IfOk, IfErr}
use Rattle.std.proofs.lemmas.Bool.{le-leb, lt-leb}
use Rattle.std.proofs.lemmas.List.{take_at, take_all}
use Rattle.std.specs.Io.KnownBytes.{Appends, Consumes, Keeps, IsAtEnd}
use Rattle.std.proofs.KnownBytes.{Appends-nil, Appends-trans, Consumes-nil, Consumes-trans, Consumes-kept}
use Rattle.sector_disk.specs.Disk.{Disk}
use Rattle.session_store.specs.Value.{StoreValue}
use Rattle.session_rules.specs.declared.action.Action.{Action}
use Rattle.session_rules.specs.State.{SessionValue}
use Rattle.line_text.specs.Streams.{Stream, between, TakesPrefix}
use Rattle.line_replies.specs.declared.fault.ServeFault.{ServeFault}
use Rattle.table_server.specs.declared.line_service.LineService.{LineService}
use Rattle.table_server.specs.declared.line_set.LineSet.{LineSet}
use Rattle.table_server.specs.declared.served.Served.{Served}
use Rattle.table_server.specs.Hearing.{Hearing, HearsOn}
use Rattle.line_replies.specs.Limit.{byte_limit, limit_notice}
use Rattle.table_server.specs.declared.served.ServedKeys.{ServedKeys}
use Rattle.line_replies.specs.declared.fault.ServeFault.TheVariants.{Read, Write, Accept}
use Rattle.table_server.specs.ServedStreams.{HasRead, HasCounted, StopsReading, StopsReplying, StopsNoticing, StopsServing, EndsCounting}
use Rattle.table_server.specs.Serving.{Ends}
use Rattle.table_server.proofs.HearingLemmas.{hears_after, hears_asks}
use Rattle.table_server.proofs.ServesLemmas.{stopped_after}

-- all that may be read was, at the limit or at the end
whole_read : (given rest : Option (List ℕ)) (bytes : List ℕ) (left : ℕ) → length bytes + left ≡ byte_limit → Consumes given rest bytes → (0 < left → IsAtEnd rest) → IfSome given (λ input. bytes ≡ take byte_limit input)
whole_read None rest bytes left count consumed end = tt
whole_read (Some input) None bytes left count consumed end = absurd consumed
whole_read (Some input) (Some more) bytes zero count consumed end =
    let whole : length bytes ≡ byte_limit = omega (arith, count) in
    sym (ap (take byte_limit) consumed ∙ take_at bytes more byte_limit whole)
whole_read (Some input) (Some more) bytes (suc left) count consumed end =
    let all : input ≡ bytes = consumed ∙ ap (λ xs. bytes ++ xs) (end (omega arith)) ∙ append-nil bytes in
    sym (ap (take byte_limit) all ∙ take_all byte_limit bytes (omega (arith, count)))

module _ {D : Type 0} (disk : Disk D) where
  -- nothing was read yet
  pub read_nothing : (start store : StoreValue D SessionValue Action) (service : LineService) (given before : Option (List ℕ))
      → Hearing disk start [] store service [] → HasRead disk start store service (between given given) (between before before) 65536
  read_nothing start store service given before h = record {
    bytes = [];
    count = refl;
    given = Consumes-nil given;
    text = [];
    wrote = Appends-nil before;
    hearing = h;
  }

  -- one piece more
  pub read_more : (start store new : StoreValue D SessionValue Action) (old service : LineService) (given rest rest' before written written' : Option (List ℕ)) (left left' : ℕ) (piece : List ℕ)
      → (r : HasRead disk start store old (between given rest) (between before written) left) → length piece + left' ≡ left → Consumes rest rest' piece
      → HearsOn disk start (r.bytes ++ piece) new service r.text (between written written') (Ok tt)
      → HasRead disk start new service (between given rest') (between before written') left'
  read_more start store new old service given rest rest' before written written' left left' piece r count consumed on = record {
    bytes = r.bytes ++ piece;
    count = omega (arith, count, r.count, length-append r.bytes piece);
    given = Consumes-trans given rest rest' r.bytes piece r.given consumed;
    text = r.text ++ on.0;
    wrote = Appends-trans before written written' r.text on.0 r.wrote on.1;
    hearing = on.2;
  }

  -- a write failed among the replies to one piece more
  pub stops_more : (start store new : StoreValue D SessionValue Action) (old service : LineService) (given rest rest' before written written' : Option (List ℕ)) (left : ℕ) (piece : List ℕ) (fault : ServeFault)
      → (r : HasRead disk start store old (between given rest) (between before written) left) → length piece ≤ left → Consumes rest rest' piece
      → HearsOn disk start (r.bytes ++ piece) new service r.text (between written written') (Err fault)
      → StopsReplying disk service.set start new (between given rest') (between before written')
  stops_more start store new old service given rest rest' before written written' left piece fault r few consumed on = record {
    bytes = r.bytes ++ piece;
    few = omega (arith, few, r.count, length-append r.bytes piece);
    given = Consumes-trans given rest rest' r.bytes piece r.given consumed;
    cut = (hears_after disk start new (r.bytes ++ piece) service [] r.text before written written' (Err fault) r.wrote on).1;
  }

  -- a read failed
  pub read_kept : (start store : StoreValue D SessionValue Action) (service : LineService) (given rest rest' : Option (List ℕ)) (writer : Stream) (left : ℕ)
      → HasRead disk start store service (between given rest) writer left → Keeps rest rest' → HasRead disk start store service (between given rest') writer left
  read_kept start store service given rest rest' writer left r kept = record {
    bytes = r.bytes;
    count = r.count;
    given = Consumes-kept given rest rest' r.bytes r.given kept;
    text = r.text;
    wrote = r.wrote;
    hearing = r.hearing;
  }

  -- a write failed as what was held was to be written
  pub ends_stopped : (start store new : StoreValue D SessionValue Action) (service : LineService) (reader : Stream) (before now after : Option (List ℕ)) (left : ℕ) (fault : ServeFault)
      → (r : HasRead disk start store service reader (between before now) left)
      → Ends disk start r.hearing.asked new r.text (between now after) (Err fault)
      → StopsServing disk service.set start new reader (between before after) fault
  ends_stopped start store new service reader before now after left fault r e = rw e.0 (inl (record {
    bytes = r.bytes;
    few = omega (arith, r.count);
    given = r.given;
    cut = record {
      heard = r.bytes;
      unheard = [];
      all = sym (append-nil r.bytes);
      asked = r.hearing.asked;
      asks = hears_asks service.set r.bytes service.feed r.hearing.asked r.hearing.hears;
      stopped = stopped_after disk start new r.hearing.asked [] r.text before now after r.wrote e.1;
    };
  }))

  -- the input was at its end
  pub ends_at_end : (start store new : StoreValue D SessionValue Action) (service : LineService) (reader : Stream) (before now after : Option (List ℕ)) (left : ℕ) (result : Served)
      → (r : HasRead disk start store service reader (between before now) left) → 0 < left → IsAtEnd reader.new
      → Ends disk start r.hearing.asked new r.text (between now after) (Ok result) → result.lines ≡ service.held.served.lines
      → HasCounted disk service.set start new reader (between before after) (record { served = result; wrong_keys = service.wrong_keys })
  ends_at_end start store new service reader before now after left result r some end e lines =
      let below : nat_le byte_limit (length r.bytes) ≡ false = lt-leb byte_limit (length r.bytes) (omega (arith, r.count, some)) in record {
        has = record {
          bytes = r.bytes;
          few = omega (arith, r.count);
          given = r.given;
          whole = whole_read reader.old reader.new r.bytes left r.count r.given (λ it. end);
          asked = r.hearing.asked;
          asks = hears_asks service.set r.bytes service.feed r.hearing.asked r.hearing.hears;
          text = r.text ++ e.0;
          wrote = rw (below, append-nil (r.text ++ e.0)) (Appends-trans before now after r.text e.0 r.wrote e.1);
          served = e.2;
          lines = lines ∙ r.hearing.lines;
          failed = e.3;
        };
        counted = r.hearing.counted;
      }

  -- the limit was reached, and the notice is written
  pub ends_at_limit : (start store new : StoreValue D SessionValue Action) (service : LineService) (reader : Stream) (before now mid after : Option (List ℕ)) (left : ℕ) (result : Served)
      → (r : HasRead disk start store service reader (between before now) left) → left ≡ 0
      → Ends disk start r.hearing.asked new r.text (between now mid) (Ok result) → result.lines ≡ service.held.served.lines
      → Appends mid after (limit_notice true) → HasCounted disk service.set start new reader (between before after) (record { served = result; wrong_keys = service.wrong_keys })
  ends_at_limit start store new service reader before now mid after left result r none e lines notice =
      let reached : nat_le byte_limit (length r.bytes) ≡ true = le-leb byte_limit (length r.bytes) (omega (arith, r.count, none)) in
      let wrote = Appends-trans before now mid r.text e.0 r.wrote e.1 in record {
        has = record {
          bytes = r.bytes;
          few = omega (arith, r.count);
          given = r.given;
          whole = whole_read reader.old reader.new r.bytes left r.count r.given (λ some. absurd (omega (arith, some, none)));
          asked = r.hearing.asked;
          asks = hears_asks service.set r.bytes service.feed r.hearing.asked r.hearing.hears;
          text = r.text ++ e.0;
          wrote = rw reached (Appends-trans before mid after (r.text ++ e.0) (limit_notice true) wrote notice);
          served = e.2;
          lines = lines ∙ r.hearing.lines;
          failed = e.3;
        };
        counted = r.hearing.counted;
      }

  -- a write failed in the notice
  pub ends_in_notice : (start store new : StoreValue D SessionValue Action) (service : LineService) (reader : Stream) (before now mid after : Option (List ℕ)) (left : ℕ) (result : Served)
      → (r : HasRead disk start store service reader (between before now) left) → left ≡ 0
      → Ends disk start r.hearing.asked new r.text (between now mid) (Ok result)
      → TakesPrefix (between mid after) (limit_notice true) → StopsNoticing disk service.set start new reader (between before after)
  ends_in_notice start store new service reader before now mid after left result r none e prefix =
      let wrote = Appends-trans before now mid r.text e.0 r.wrote e.1 in record {
        bytes = r.bytes;
        limit = omega (arith, r.count, none);
        given = r.given;
        asked = r.hearing.asked;
        asks = hears_asks service.set r.bytes service.feed r.hearing.asked r.hearing.hears;
        text = r.text ++ e.0;
        begun = prefix.0;
        unwritten = prefix.1;
        notice = prefix.2;
        wrote = Appends-trans before mid after (r.text ++ e.0) prefix.0 wrote prefix.3;
        actions = result.accepted;
        served = e.2;
      }

  -- a read failed, and what was held is written
  pub ends_at_fault : (start store new : StoreValue D SessionValue Action) (service : LineService) (reader : Stream) (before now after : Option (List ℕ)) (left : ℕ) (result : Served)
      → (r : HasRead disk start store service reader (between before now) left) → 0 < left
      → Ends disk start r.hearing.asked new r.text (between now after) (Ok result)
      → StopsReading disk service.set start new reader (between before after)
  ends_at_fault start store new service reader before now after left result r some e = record {
    bytes = r.bytes;
    few = omega (arith, r.count, some);
    given = r.given;
    asked = r.hearing.asked;
    asks = hears_asks service.set r.bytes service.feed r.hearing.asked r.hearing.hears;
    text = r.text ++ e.0;
    wrote = Appends-trans before now after r.text e.0 r.wrote e.1;
    actions = result.accepted;
    served = e.2;
  }

  -- nothing more was read
  pub read_none : (start store : StoreValue D SessionValue Action) (service : LineService) (given rest rest' : Option (List ℕ)) (writer : Stream) (left : ℕ)
      → HasRead disk start store service (between given rest) writer left → Consumes rest rest' [] → HasRead disk start store service (between given rest') writer left
  read_none start store service given rest rest' writer left r consumed = record {
    bytes = r.bytes;
    count = r.count;
    given = subst (λ xs. Consumes given rest' xs) (append-nil r.bytes) (Consumes-trans given rest rest' r.bytes [] r.given consumed);
    text = r.text;
    wrote = r.wrote;
    hearing = r.hearing;
  }

  -- nothing is pending once lines were served, where the store works
  pub counted_ready : (set : LineSet) (start store : StoreValue D SessionValue Action) (reader writer : Stream) (result : Result ServedKeys ServeFault)
      → EndsCounting disk set start store reader writer result → store.failed ≡ false → store.pending ≡ []
  counted_ready set start store reader writer (Ok result) s works = (s.has.served.works works).1
  counted_ready set start store reader writer (Err Read) s works = (s.served.works works).1
  counted_ready set start store reader writer (Err Write) (inl s) works = (s.cut.stopped.served.works works).1
  counted_ready set start store reader writer (Err Write) (inr s) works = (s.served.works works).1
  counted_ready set start store reader writer (Err Accept) s works = absurd s

  -- the same of the same set
  pub counting_as : (one set : LineSet) (start store : StoreValue D SessionValue Action) (reader writer : Stream) (result : Result ServedKeys ServeFault)
      → one ≡ set → EndsCounting disk one start store reader writer result → EndsCounting disk set start store reader writer result
  counting_as one set start store reader writer result same e = subst (λ (s : LineSet). EndsCounting disk s start store reader writer result) same e

  pub replying_as : (one set : LineSet) (start store : StoreValue D SessionValue Action) (reader writer : Stream)
      → one ≡ set → StopsReplying disk one start store reader writer → StopsReplying disk set start store reader writer
  replying_as one set start store reader writer same stops = subst (λ (s : LineSet). StopsReplying disk s start store reader writer) same stops

  -- what was served, where the end answers Ok
  pub ends_ok : (set : LineSet) (start store : StoreValue D SessionValue Action) (reader writer : Stream) (result : Result ServedKeys ServeFault) → EndsCounting disk set start store reader writer result
      → IfOk result (HasCounted disk set start store reader writer)
  ends_ok set start store reader writer (Ok it) e = e
  ends_ok set start store reader writer (Err fault) e = tt

  -- and where it does not
  pub ends_err : (set : LineSet) (start store : StoreValue D SessionValue Action) (reader writer : Stream) (result : Result ServedKeys ServeFault) → EndsCounting disk set start store reader writer result
      → IfErr result (StopsServing disk set start store reader writer)
  ends_err set start store reader writer (Ok it) e = tt
  ends_err set start store reader writer (Err fault) e = e
