-- What serving lines gives, by what was written.
use Rattle.std.proofs.Common.{◌≡◌, ℕ, ◌+◌, ◌≤◌, ◌∙◌, Bool, true, false, List, [], ◌∷◌, ◌++◌, length, Option, Result, Ok, Err, inl, inr, refl, sym, ap, subst, append_assoc, append-nil, arith}
use Rattle.std.specs.Prelude.{IfErr}
use Rattle.std.proofs.lemmas.Bool.{true≢false}
use Rattle.std.specs.Io.KnownBytes.{Appends}
use Rattle.std.proofs.KnownBytes.{Appends-nil, Appends-trans}
use Rattle.sector_disk.specs.Disk.{Disk}
use Rattle.session_store.specs.declared.fault.ConfirmFault.{ConfirmFault}
use Rattle.session_store.specs.declared.fault.ConfirmFault.TheVariants.{Failed as ConfirmFailed, Disk as ConfirmDisk}
use Rattle.session_store.specs.Answers.{Confirms}
use Rattle.session_store.specs.Store.{Continues}
use Rattle.session_store.specs.Value.{StoreValue}
use Rattle.session_rules.specs.declared.action.Action.{Action}
use Rattle.bridge_session.specs.SessionKeeping.{session_keeping}
use Rattle.session_rules.specs.State.{SessionValue}
use Rattle.line_text.specs.Streams.{Stream, between, TakesPrefix, Written}
use Rattle.table_server.specs.declared.asked.Asked.{Asked}
use Rattle.line_replies.specs.declared.fault.ServeFault.{ServeFault}
use Rattle.line_replies.specs.declared.fault.ServeFault.TheVariants.{Write}
use Rattle.table_server.specs.declared.held_replies.HeldReplies.{HeldReplies}
use Rattle.table_server.specs.Answered.{AreReplies, accepted_all, held_after, disk_errors}
use Rattle.table_server.specs.Served.{IsServed}
use Rattle.table_server.specs.Serving.{AreAnswers, AreTogether, Holding, Settled, Failed, ServingBy, IsStopped, Serves, SettlesBy, Ends}
use Rattle.table_server.specs.Standing.{Standing, standing_of}
use Rattle.table_server.proofs.ServingLemmas.{failed_standing, settled, holding, served}
use Rattle.table_server.proofs.FailureLemmas.{failed_settling, failed_more}

module _ {D : Type 0} (disk : Disk D) where
  -- replies are answers
  pub replied : (from : Standing) (asked : List Asked) (text : List ℕ) → AreReplies from asked text → AreAnswers from asked text
  replied from asked text replies = record {
    answered = asked;
    others = [];
    all = sym (append-nil asked);
    replies = text;
    are_replies = replies;
    says = sym (append-nil text);
  }

  -- and what was served has answers
  answers_served : (start store : StoreValue D SessionValue Action) (asked : List Asked) (text : List ℕ) (actions : ℕ)
      → IsServed disk start asked store text actions → AreAnswers (standing_of start) asked text
  answers_served start store asked text actions s = record {
    answered = s.answered;
    others = s.taken ++ s.later;
    all = s.all;
    replies = s.replies;
    are_replies = s.are_replies;
    says = s.says;
  }

  -- a write failed in the text of the last lines
  stopped_now : (start store : StoreValue D SessionValue Action) (asked whole group : List Asked) (written text : List ℕ) (writer : Stream) (actions : ℕ)
      → asked ≡ whole ++ group → length group ≤ 64 → AreTogether store.failed whole group → AreAnswers (standing_of start) whole written
      → IsServed disk start asked store (written ++ text) actions → TakesPrefix writer text
      → IsStopped disk start asked store written writer
  stopped_now start store asked whole group written text writer actions all few one_group answers s prefix =
      let none : written ++ [] ≡ written = append-nil written in
      let same : written ++ text ≡ (written ++ []) ++ (prefix.0 ++ prefix.1) = ap (λ xs. xs ++ text) (sym none) ∙ ap (λ xs. (written ++ []) ++ xs) prefix.2 in
      let lines : IsServed disk start (whole ++ group) store (written ++ text) actions
      = subst (λ xs. IsServed disk start xs store (written ++ text) actions) all s in record {
        whole = whole;
        group = group;
        rest = [];
        all = all ∙ sym (append-nil (whole ++ group));
        few = few;
        one_group = one_group;
        text = [];
        answers = rw none answers;
        begun = prefix.0;
        unwritten = prefix.1;
        actions = actions;
        served = subst (λ xs. IsServed disk start (whole ++ group) store xs actions) same lines;
        wrote = prefix.3;
      }

  -- the store works, and nothing is written
  pub serves_held : (start store : StoreValue D SessionValue Action) (asked : List Asked) (held : HeldReplies) (written : List ℕ) (before : Option (List ℕ))
      → Holding disk start asked store held.text.bytes held.count written → held.served.failed ≡ false
      → held.served.accepted ≡ length (accepted_all (standing_of start) asked)
      → Serves disk start asked store held written (between before before) (Ok tt)
  serves_held start store asked held written before h works counted = (
    [],
    Appends-nil before,
    rw (append-nil written, works) (record { holding = h; counted = counted }),
  )

  -- the store has failed
  pub serves_failing : (start store : StoreValue D SessionValue Action) (asked : List Asked) (held : HeldReplies) (written text : List ℕ) (writer : Stream) (result : Result (Unit {0}) ServeFault)
      → (whole group : List Asked) → asked ≡ whole ++ group → length group ≤ 64 → AreTogether store.failed whole group → AreAnswers (standing_of start) whole written
      → IsServed disk start asked store (written ++ text) held.served.accepted → store.failed ≡ true → held.count ≡ 0
      → held.served.failed ≡ true → Written writer text result → IfErr result (λ fault. fault ≡ Write)
      → Serves disk start asked store held written writer result
  serves_failing start store asked held written text writer (Ok u) whole group all few one_group answers s failed none fails wrote fault =
      (text, wrote, rw fails (record { failed = failed; none_held = none; served = s }))
  serves_failing start store asked held written text writer (Err it) whole group all few one_group answers s failed none fails wrote fault =
      (fault, stopped_now start store asked whole group written text writer held.served.accepted all few one_group answers s wrote)

  -- the store works, and all is confirmed
  pub serves_working : (start store : StoreValue D SessionValue Action) (asked : List Asked) (held : HeldReplies) (written text : List ℕ) (writer : Stream) (result : Result (Unit {0}) ServeFault)
      → (whole group : List Asked) → asked ≡ whole ++ group → length group ≤ 64 → AreTogether store.failed whole group → AreAnswers (standing_of start) whole written
      → Settled disk start asked store (written ++ text) → held_after asked ≡ 0 → held.text.bytes ≡ [] → held.count ≡ 0
      → held.served.failed ≡ false → held.served.accepted ≡ length (accepted_all (standing_of start) asked)
      → Written writer text result → IfErr result (λ fault. fault ≡ Write)
      → Serves disk start asked store held written writer result
  serves_working start store asked held written text writer (Ok u) whole group all few one_group answers s begins empty none works counted wrote fault =
      let h : Holding disk start asked store held.text.bytes held.count (written ++ text)
      = rw (empty, none) (holding disk start store asked (written ++ text) s begins) in
      (text, wrote, rw works (record { holding = h; counted = counted }))
  serves_working start store asked held written text writer (Err it) whole group all few one_group answers s begins empty none works counted wrote fault = (
    fault,
    stopped_now start store asked whole group written text writer (length (accepted_all (standing_of start) asked)) all few one_group answers
        (served disk start store asked (written ++ text) s) wrote,
  )

  -- a write failed after what was written whole
  pub stopped_after : (start store : StoreValue D SessionValue Action) (asked : List Asked) (written text : List ℕ) (a b c : Option (List ℕ))
      → Appends a b text → IsStopped disk start asked store (written ++ text) (between b c)
      → IsStopped disk start asked store written (between a c)
  stopped_after start store asked written text a b c wrote stopped =
      let same : (written ++ text) ++ stopped.text ≡ written ++ (text ++ stopped.text) = append_assoc written text stopped.text in record {
        whole = stopped.whole;
        group = stopped.group;
        rest = stopped.rest;
        all = stopped.all;
        few = stopped.few;
        one_group = stopped.one_group;
        text = text ++ stopped.text;
        answers = subst (λ xs. AreAnswers (standing_of start) stopped.whole xs) same stopped.answers;
        begun = stopped.begun;
        unwritten = stopped.unwritten;
        actions = stopped.actions;
        served = subst (λ xs. IsServed disk start (stopped.whole ++ stopped.group) store (xs ++ (stopped.begun ++ stopped.unwritten)) stopped.actions)
            same stopped.served;
        wrote = subst (λ xs. Appends a c xs) (sym (append_assoc text stopped.text stopped.begun))
            (Appends-trans a b c text (stopped.text ++ stopped.begun) wrote stopped.wrote);
      }

  -- after what was written whole
  pub serves_after : (start store : StoreValue D SessionValue Action) (asked : List Asked) (held : HeldReplies) (written text : List ℕ) (a b c : Option (List ℕ)) (result : Result (Unit {0}) ServeFault)
      → Appends a b text → Serves disk start asked store held (written ++ text) (between b c) result
      → Serves disk start asked store held written (between a c) result
  serves_after start store asked held written text a b c (Ok u) wrote it = (
    text ++ it.0,
    Appends-trans a b c text it.0 wrote it.1,
    subst (λ all. ServingBy disk held.served.failed start asked store held all) (append_assoc written text it.0) it.2,
  )
  serves_after start store asked held written text a b c (Err fault) wrote it =
      (it.0, stopped_after start store asked written text a b c wrote it.1)

  -- what was held was to be confirmed and written
  pub serves_settled : (start store new : StoreValue D SessionValue Action) (asked : List Asked) (text : List ℕ) (count : ℕ) (held : HeldReplies) (written : List ℕ) (writer : Stream) (result : Result (Unit {0}) ServeFault)
      → Holding disk start asked store text count written → held_after asked ≡ 0 → Continues session_keeping disk store [] new
      → (failed : Bool) → held.served.failed ≡ failed → SettlesBy disk failed store new text count writer result
      → IfErr result (λ fault. fault ≡ Write) → held.count ≡ 0 → (held.served.failed ≡ false → held.text.bytes ≡ [])
      → held.served.accepted ≡ length (accepted_all (standing_of start) asked)
      → Serves disk start asked new held written writer result
  serves_settled start store new asked text count held written writer result h begins call true is settles fault none empty counted =
      serves_failing start new asked held written (disk_errors count) writer result
      h.answered h.waiting h.all (omega (arith, h.count_is, h.few)) (inl (h.begins, h.group)) (replied (standing_of start) h.answered written h.are_replies)
      (rw counted (failed_settling disk start store new asked text count written h settles.0 settles.1 call)) settles.0 none is settles.2 fault
  serves_settled start store new asked text count held written writer result h begins call false is settles fault none empty counted =
      serves_working start new asked held written text writer result h.answered h.waiting h.all (omega (arith, h.count_is, h.few)) (inl (h.begins, h.group))
      (replied (standing_of start) h.answered written h.are_replies) (settled disk start store new asked text count written h settles.0 call)
      begins (empty is) none is counted settles.1 fault

  -- of lines to be answered the first were, as a write failed
  pub stopped_before : (start store : StoreValue D SessionValue Action) (asked more : List Asked) (written : List ℕ) (writer : Stream)
      → IsStopped disk start asked store written writer → IsStopped disk start (asked ++ more) store written writer
  stopped_before start store asked more written writer s = record {
    whole = s.whole;
    group = s.group;
    rest = s.rest ++ more;
    all = ap (λ (xs : List Asked). xs ++ more) s.all ∙ append_assoc (s.whole ++ s.group) s.rest more;
    few = s.few;
    one_group = s.one_group;
    text = s.text;
    answers = s.answers;
    begun = s.begun;
    unwritten = s.unwritten;
    actions = s.actions;
    served = s.served;
    wrote = s.wrote;
  }

  -- what was held was to be confirmed and written, and a write failed
  pub stopped_settling : (start store new : StoreValue D SessionValue Action) (asked : List Asked) (text : List ℕ) (count : ℕ) (written : List ℕ) (writer : Stream) (it : ServeFault)
      → Holding disk start asked store text count written → Continues session_keeping disk store [] new
      → (failed : Bool) → SettlesBy disk failed store new text count writer (Err it)
      → IsStopped disk start asked new written writer
  stopped_settling start store new asked text count written writer it h call true settles =
      stopped_now start new asked h.answered h.waiting written (disk_errors count) writer (length (accepted_all (standing_of start) asked))
      h.all (omega (arith, h.count_is, h.few)) (inl (h.begins, h.group)) (replied (standing_of start) h.answered written h.are_replies)
      (failed_settling disk start store new asked text count written h settles.0 settles.1 call) settles.2
  stopped_settling start store new asked text count written writer it h call false settles =
      stopped_now start new asked h.answered h.waiting written text writer (length (accepted_all (standing_of start) asked))
      h.all (omega (arith, h.count_is, h.few)) (inl (h.begins, h.group)) (replied (standing_of start) h.answered written h.are_replies)
      (served disk start new asked (written ++ text) (settled disk start store new asked text count written h settles.0 call)) settles.1

  -- a line that comes after the store failed
  pub serves_more : (start store : StoreValue D SessionValue Action) (asked : List Asked) (one : Asked) (old new : HeldReplies) (written : List ℕ) (writer : Stream) (result : Result (Unit {0}) ServeFault)
      → Failed disk start asked store old written → new.served.accepted ≡ old.served.accepted → new.count ≡ 0 → new.served.failed ≡ true
      → Written writer (disk_errors (old.count + 1)) result → IfErr result (λ fault. fault ≡ Write)
      → Serves disk start (asked ++ one ∷ []) store new written writer result
  serves_more start store asked one old new written writer result f same none fails wrote fault =
      let single : old.count + 1 ≡ 1 = omega (arith, f.none_held) in
      serves_failing start store (asked ++ one ∷ []) new written (disk_errors 1) writer result
      asked (one ∷ []) refl (omega arith) (inr (one, refl, λ works. absurd (true≢false (sym f.failed ∙ works)))) (answers_served start store asked written old.served.accepted f.served)
      (rw same (failed_more disk start store asked one written old.served.accepted f.served f.failed)) f.failed none fails
      (subst (λ n. Written writer (disk_errors n) result) single wrote) fault

  -- all was confirmed and written at the end, or the store failed there
  pub ends_settled : (start store new : StoreValue D SessionValue Action) (asked : List Asked) (text : List ℕ) (count : ℕ) (held : HeldReplies) (written : List ℕ) (writer : Stream)
      → Holding disk start asked store text count written → Continues session_keeping disk store [] new
      → (failed : Bool) → held.served.failed ≡ failed → SettlesBy disk {E = ServeFault} failed store new text count writer (Ok tt)
      → held.served.accepted ≡ length (accepted_all (standing_of start) asked)
      → Ends disk start asked new written writer (Ok held.served)
  ends_settled start store new asked text count held written writer h call true is settles counted = (
    disk_errors count,
    settles.2,
    rw counted (failed_settling disk start store new asked text count written h settles.0 settles.1 call),
    is ∙ sym settles.0,
  )
  ends_settled start store new asked text count held written writer h call false is settles counted =
      let all : Settled disk start asked new (written ++ text) = settled disk start store new asked text count written h settles.0 call in (
        text,
        settles.1,
        rw counted (served disk start new asked (written ++ text) all),
        is ∙ sym all.works,
      )

  -- where `confirm` fails the store has failed, and its session and its room stay
  pub confirm_stands : (old new : StoreValue D SessionValue Action) (fault : ConfirmFault) → Confirms session_keeping disk old new (Err fault)
      → (new.failed ≡ true) × (standing_of new ≡ standing_of old)
  confirm_stands old new ConfirmFailed answer = (ap (λ (v : StoreValue D SessionValue Action). v.failed) answer.1 ∙ answer.0, ap standing_of answer.1)
  confirm_stands old new ConfirmDisk answer =
      (ap (λ (v : StoreValue D SessionValue Action). v.failed) answer.2, ap standing_of answer.2 ∙ failed_standing old new.disk)

  -- with nothing pending it fails only where the store had failed
  pub had_failed : (old new : StoreValue D SessionValue Action) (fault : ConfirmFault) → Confirms session_keeping disk old new (Err fault)
      → (old.failed ≡ false → old.pending ≡ []) → (old.failed ≡ true) × (new ≡ old)
  had_failed old new ConfirmFailed answer none = answer
  had_failed old new ConfirmDisk answer none = absurd (answer.1 (none answer.0))
