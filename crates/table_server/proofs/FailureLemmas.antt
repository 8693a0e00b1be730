-- What holds of lines once the store has failed.
use Rattle.std.proofs.Common.{◌≡◌, ℕ, ◌+◌, ◌<◌, ◌∙◌, true, false, List, [], ◌∷◌, ◌++◌, length, Ok, refl, sym, ap, arith, append_assoc, append-nil, length-append}
use Rattle.std.proofs.lemmas.Bool.{true≢false}
use Rattle.sector_disk.specs.Disk.{Disk}
use Rattle.session_store.specs.Answers.{room, Confirms}
use Rattle.session_store.proofs.CallLaws.{few_pending, continues_begins}
use Rattle.session_store.specs.Store.{Continues}
use Rattle.session_store.specs.Value.{StoreValue}
use Rattle.session_rules.specs.declared.action.Action.{Action}
use Rattle.bridge_session.specs.SessionKeeping.{session_keeping}
use Rattle.session_rules.specs.State.{SessionValue}
use Rattle.table_server.specs.declared.asked.Asked.{Asked}
use Rattle.table_server.specs.declared.asked.Asked.TheVariants.{Change}
use Rattle.table_server.specs.Answered.{after_asked, accepted, after_all, accepted_all, disk_errors}
use Rattle.table_server.specs.Served.{IsServed}
use Rattle.table_server.specs.Serving.{FailsTaking, Holding}
use Rattle.table_server.specs.Standing.{Standing, standing_of, after_change, accepted_change}
use Rattle.table_server.proofs.CountLemmas.{few_of_one}
use Rattle.table_server.proofs.CourseLemmas.{course_begins, course_calls}
use Rattle.table_server.proofs.Folds.{after_append, accepted_append, accepted_one, room_left, all_held_one, errors_append}
use Rattle.table_server.proofs.ServingLemmas.{confirmed_enough, joined}

module _ {D : Type 0} (disk : Disk D) where
  -- the store failed as the lines that were held were to be confirmed
  pub failed_settling : (start store new : StoreValue D SessionValue Action) (asked : List Asked) (text : List ℕ) (count : ℕ) (written : List ℕ)
      → Holding disk start asked store text count written → new.failed ≡ true → standing_of new ≡ standing_of store
      → Continues session_keeping disk store [] new
      → IsServed disk start asked new (written ++ disk_errors count) (length (accepted_all (standing_of start) asked))
  failed_settling start store new asked text count written h failed same call =
      let from = standing_of start in
      let before = after_all from h.answered in
      let lines : List Asked = h.answered ++ h.waiting in
      let none : h.waiting ++ [] ≡ h.waiting = append-nil h.waiting in
      let few = few_pending session_keeping disk store new [] call in
      let accepts : accepted_all from lines ≡ accepted_all from asked ++ []
      = ap (accepted_all from) (sym h.all) ∙ sym (append-nil (accepted_all from asked)) in
      let calls : Continues session_keeping disk start (accepted_all from lines) new
      = joined disk start store new from asked [] (accepted_all from lines) h.continues call accepts in
      let split = ap length (accepted_append from h.answered h.waiting) ∙ length-append (accepted_all from h.answered) (accepted_all before h.waiting) in record {
        answered = h.answered;
        taken = h.waiting;
        later = [];
        all = h.all ∙ ap (λ (xs : List Asked). h.answered ++ xs) (sym none);
        replies = written;
        are_replies = h.are_replies;
        says = ap (λ n. written ++ disk_errors n) (sym h.count_is ∙ ap length (sym none));
        course = course_calls disk start h.answered written (accepted_all from asked) store h.course new [] (accepted_all from lines) (omega arith) call accepts;
        state = ap (λ (t : Standing). t.state) (same ∙ h.standing) ∙ ap (λ (xs : List Asked). (after_all from xs).state) h.all;
        standing = λ works. absurd (true≢false (sym failed ∙ works));
        continues = calls;
        counted = ap (λ (xs : List Asked). length (accepted_all from xs)) h.all;
        fewer = let left = room_left from asked in let here = ap (λ (t : Standing). t.room) (same ∙ h.standing) in (omega (arith, left, here), omega (arith, left, here));
        confirmed = confirmed_enough disk start new (accepted_all from lines) (length (accepted_all from h.answered))
            (length (accepted_all before h.waiting)) calls (omega (arith, few, h.pending)) split;
        works = λ works. absurd (true≢false (sym failed ∙ works));
        group = λ it. h.begins;
        held = h.group;
        few = omega (arith, h.few, h.count_is);
        failed_before = λ was. absurd (true≢false (sym was ∙ h.worked));
      }

  -- the store failed as it took a change
  pub failed_taking : (start store new : StoreValue D SessionValue Action) (asked : List Asked) (action : Action) (text : List ℕ) (count : ℕ) (written : List ℕ)
      → Holding disk start asked store text count written → count < 64 → FailsTaking disk store action new
      → IsServed disk start (asked ++ Change action ∷ []) new (written ++ disk_errors (count + 1))
      (length (accepted_all (standing_of start) asked) + 1)
  failed_taking start store new asked action text count written h room f =
      let from = standing_of start in
      let one : Asked = Change action in
      let before = after_all from h.answered in
      let group : List Asked = h.waiting ++ one ∷ [] in
      let lines : List Asked = h.answered ++ group in
      let none : group ++ [] ≡ group = append-nil group in
      let all : asked ++ one ∷ [] ≡ lines
      = ap (λ (xs : List Asked). xs ++ one ∷ []) h.all ∙ append_assoc h.answered h.waiting (one ∷ []) in
      let here : standing_of store ≡ after_all before h.waiting
      = h.standing ∙ ap (after_all from) h.all ∙ after_append from h.answered h.waiting in
      let more : List Action = accepted_change (standing_of store) action in
      let waits : accepted_all before group ≡ accepted_all before h.waiting ++ more
      = accepted_one before h.waiting one ∙ ap (λ (t : Standing). accepted_all before h.waiting ++ accepted t one) (sym here) in
      let count_waits = ap length waits ∙ length-append (accepted_all before h.waiting) more in
      let few = few_pending session_keeping disk store new more f.continues in
      let accepts : accepted_all from lines ≡ accepted_all from asked ++ more
      = ap (accepted_all from) (sym all) ∙ accepted_one from asked one
      ∙ ap (λ (t : Standing). accepted_all from asked ++ accepted t one) (sym h.standing) in
      let calls : Continues session_keeping disk start (accepted_all from lines) new
      = joined disk start store new from asked more (accepted_all from lines) h.continues f.continues accepts in
      let split = ap length (accepted_append from h.answered group) ∙ length-append (accepted_all from h.answered) (accepted_all before group) in
      let count_is = length-append h.waiting (one ∷ []) in
      let lines_more : accepted_all from lines ≡ accepted_all from asked ++ action ∷ []
      = accepts ∙ ap (λ (xs : List Action). accepted_all from asked ++ xs) f.accepted in
      let counted : length (accepted_all from asked) + 1 ≡ length (accepted_all from lines)
      = sym (ap length lines_more ∙ length-append (accepted_all from asked) (action ∷ [])) in
      let after_is : after_change (standing_of store) action ≡ after_all from lines
      = ap (λ (t : Standing). after_asked t one) h.standing ∙ sym (after_append from asked (one ∷ [])) ∙ ap (after_all from) all in record {
        answered = h.answered;
        taken = group;
        later = [];
        all = all ∙ ap (λ (xs : List Asked). h.answered ++ xs) (sym none);
        replies = written;
        are_replies = h.are_replies;
        says = ap (λ n. written ++ disk_errors n) (ap (λ n. n + 1) (sym h.count_is) ∙ sym count_is ∙ ap length (sym none));
        course = course_calls disk start h.answered written (accepted_all from asked) store h.course new more (accepted_all from lines)
            (few_of_one (standing_of store) one) f.continues accepts;
        state = f.state ∙ ap (λ (t : Standing). t.state) after_is;
        standing = λ works. absurd (true≢false (sym f.failed ∙ works));
        continues = calls;
        counted = counted;
        fewer = let left = room_left from asked in let here = ap (λ (t : Standing). t.room) h.standing in (omega (arith, left, here, f.fewer.0, f.fewer.1), omega (arith, left, here, f.fewer.0, f.fewer.1));
        confirmed = confirmed_enough disk start new (accepted_all from lines) (length (accepted_all from h.answered))
            (length (accepted_all before group)) calls (omega (arith, few, h.pending, count_waits)) split;
        works = λ works. absurd (true≢false (sym f.failed ∙ works));
        group = λ it. h.begins;
        held = all_held_one h.waiting one h.group refl;
        few = omega (arith, room, h.count_is, count_is);
        failed_before = λ was. absurd (true≢false (sym was ∙ h.worked));
      }

  -- a line that comes after the store failed
  pub failed_more : (start store : StoreValue D SessionValue Action) (asked : List Asked) (one : Asked) (written : List ℕ) (actions : ℕ)
      → IsServed disk start asked store written actions → store.failed ≡ true
      → IsServed disk start (asked ++ one ∷ []) store (written ++ disk_errors 1) actions
  failed_more start store asked one written actions s failed =
      let rest : List Asked = s.taken ++ s.later in
      let same : s.taken ++ (s.later ++ one ∷ []) ≡ rest ++ one ∷ [] = sym (append_assoc s.taken s.later (one ∷ [])) in
      let count : length (s.taken ++ (s.later ++ one ∷ [])) ≡ length rest + 1 = ap length same ∙ length-append rest (one ∷ []) in
      let errors : disk_errors (length rest) ++ disk_errors 1 ≡ disk_errors (length (s.taken ++ (s.later ++ one ∷ [])))
      = sym (errors_append (length rest) 1) ∙ ap disk_errors (sym count) in record {
        answered = s.answered;
        taken = s.taken;
        later = s.later ++ one ∷ [];
        all = ap (λ (xs : List Asked). xs ++ one ∷ []) s.all ∙ append_assoc s.answered rest (one ∷ [])
            ∙ ap (λ (xs : List Asked). s.answered ++ xs) (sym same);
        replies = s.replies;
        are_replies = s.are_replies;
        says = ap (λ (xs : List ℕ). xs ++ disk_errors 1) s.says ∙ append_assoc s.replies (disk_errors (length rest)) (disk_errors 1)
            ∙ ap (λ (xs : List ℕ). s.replies ++ xs) errors;
        course = s.course;
        state = s.state;
        standing = s.standing;
        continues = s.continues;
        counted = s.counted;
        fewer = s.fewer;
        confirmed = s.confirmed;
        works = λ works. absurd (true≢false (sym failed ∙ works));
        group = s.group;
        held = s.held;
        few = s.few;
        failed_before = s.failed_before;
      }

  -- and where the store had failed
  pub begins_failed : (store : StoreValue D SessionValue Action) → store.failed ≡ true → IsServed disk store [] store [] 0
  begins_failed store failed = record {
    answered = [];
    taken = [];
    later = [];
    all = refl;
    replies = [];
    are_replies = refl;
    says = refl;
    course = course_begins disk store;
    state = refl;
    standing = λ works. refl;
    continues = continues_begins session_keeping disk store;
    counted = refl;
    fewer = (omega arith, omega arith);
    confirmed = omega arith;
    works = λ works. absurd (true≢false (sym failed ∙ works));
    group = λ it. refl;
    held = refl;
    few = omega arith;
    failed_before = λ it. refl;
  }

  -- before the first line, where the store works
  pub begins_working : (old new : StoreValue D SessionValue Action) → Confirms session_keeping disk old new (Ok tt)
      → Continues session_keeping disk old [] new → (old.failed ≡ false → old.pending ≡ []) → Holding disk old [] new [] 0 []
  begins_working old new answer call none =
      let same : new ≡ old = answer.2 (none answer.0) in
      let empty : length new.pending ≡ 0 = ap (λ (v : StoreValue D SessionValue Action). length v.pending) same ∙ ap length (none answer.0) in record {
        answered = [];
        waiting = [];
        all = refl;
        are_replies = refl;
        are_held = refl;
        begins = refl;
        group = refl;
        count_is = refl;
        few = omega arith;
        works = ap (λ (v : StoreValue D SessionValue Action). v.failed) same ∙ answer.0;
        worked = answer.0;
        standing = ap standing_of same;
        continues = call;
        pending = omega (arith, empty);
        course = course_calls disk old [] [] [] old (course_begins disk old) new [] [] (omega arith) call refl;
      }
