-- Lines served over both stores of a pair.
use Rattle.std.proofs.Common.{◌≡◌, ℕ, Bool, List, Option, None, Some, IfSome, true, false, inl, inr, sym, ap}
use Rattle.sector_disk.specs.Disk.{Disk}
use Rattle.session_store.specs.Pair.{IsToldPair}
use Rattle.session_store.specs.Store.{Continues}
use Rattle.session_store.specs.Value.{StoreValue}
use Rattle.session_rules.specs.declared.action.Action.{Action}
use Rattle.session_rules.specs.State.{SessionValue}
use Rattle.bridge_session.specs.SessionKeeping.{session_keeping}
use Rattle.session_pair.specs.Telling.{HasConfirmed, WereServed, of_side}
use Rattle.line_text.specs.Streams.{Stream}
use Rattle.line_replies.specs.declared.fault.ServeFault.{ServeFault}
use Rattle.line_replies.specs.declared.fault.ServeFault.TheVariants.{Read, Write, Accept}
use Rattle.table_server.specs.declared.line_set.LineSet.{LineSet}
use Rattle.table_server.specs.ServedStreams.{StopsServing}
use Rattle.table_pages.specs.Answered.{AnswersBody}

module _ {D : Type 0} (disk : Disk D) where
  -- what was accepted of some lines
  abbrev pub Accepts : StoreValue D SessionValue Action → StoreValue D SessionValue Action → Type 0
  Accepts start store = (xs : List Action) × Continues session_keeping disk start xs store

  stopped : (set : LineSet) (start store : StoreValue D SessionValue Action) (reader writer : Stream) (fault : ServeFault)
      → StopsServing disk set start store reader writer fault → Accepts start store
  stopped set start store reader writer Read stops = (_, stops.served.continues)
  stopped set start store reader writer Write (inl stops) = (_, stops.cut.stopped.served.continues)
  stopped set start store reader writer Write (inr stops) = (_, stops.served.continues)
  stopped set start store reader writer Accept stops = absurd stops

  -- a body that was answered, or cut off, went on from the store
  pub accepts : (set : LineSet) (start store : StoreValue D SessionValue Action) (body : List ℕ) (text : Option (List ℕ))
      → AnswersBody disk set start body text store → Accepts start store
  accepts set start store body (Some text) answered = (_, answered.served.continues)
  accepts set start store body None cut = stopped set start store cut.reader cut.writer cut.fault cut.stops

-- both stores of a pair of which a state might be told were served
pub both_served : {D E : Type 0} (first : Disk D) (second : Disk E) (v v' : StoreValue D SessionValue Action)
    (w w' : StoreValue E SessionValue Action) (s : SessionValue) → IsToldPair session_keeping first second v w s
    → Accepts first v v' → Accepts second w w' → HasConfirmed v' → HasConfirmed w'
    → WereServed session_keeping first second v w v' w'
both_served first second v v' w w' s told ours theirs none none' = record {
  state = s;
  told = told;
  accepted = ours.0;
  first_served = ours.1;
  accepted_second = theirs.0;
  second_served = theirs.1;
  first_confirmed = none;
  second_confirmed = none';
}

-- the text of the side that works
pub text_second : {P : Type 0} (failed : Bool) (ours theirs : P) → failed ≡ true → theirs ≡ of_side failed ours theirs
text_second failed ours theirs lost = sym (ap (λ (b : Bool). of_side b ours theirs) lost)

pub text_first : {P : Type 0} (failed : Bool) (ours theirs : P) → failed ≡ false → ours ≡ of_side failed ours theirs
text_first failed ours theirs works = sym (ap (λ (b : Bool). of_side b ours theirs) works)

-- what holds of what there is
pub some_weaker : {X : Type 0} (P Q : X → Type 0) (x : Option X) → ((y : X) → P y → Q y) → IfSome x P → IfSome x Q
some_weaker P Q None weaker holds = tt
some_weaker P Q (Some y) weaker holds = weaker y holds
