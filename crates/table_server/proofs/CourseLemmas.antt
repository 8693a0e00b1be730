-- The course of serving, event by event, and what a power cut in it leaves.
use Rattle.std.proofs.Common.{◌≡◌, ℕ, ◌+◌, ◌≤◌, ◌∙◌, List, [], ◌∷◌, ◌++◌, length, take, drop, Some, refl, sym, ap, subst, arith, append-nil, length-append}
use Rattle.std.proofs.lemmas.List.{drop-append-le, take-append-le, length-drop}
use Rattle.sector_disk.specs.Disk.{Disk, Image}
use Rattle.session_store.specs.Base.{StandsForPrefix}
use Rattle.session_store.specs.Keeping.{fold}
use Rattle.session_store.specs.Run.{StandsForAtLeast}
use Rattle.session_store.specs.Store.{Continues}
use Rattle.session_store.specs.Value.{StoreValue}
use Rattle.session_store.proofs.CallLaws.{few_pending, continues_begins, continues_joins, fold-behind, prefix-longer}
use Rattle.session_rules.specs.declared.action.Action.{Action}
use Rattle.bridge_session.specs.SessionKeeping.{session_keeping}
use Rattle.session_rules.specs.State.{SessionValue}
use Rattle.table_server.specs.declared.asked.Asked.{Asked}
use Rattle.table_server.specs.Answered.{AreReplies, after_all, accepted_all}
use Rattle.table_server.specs.Course.{ServeEvent, Calls, Replies, ServeStanding, at_beginning, accepts, answered_by, Happens, Runs, MayLeave, HasCourse, WriteLaw, CutLaw}
use Rattle.table_server.specs.Standing.{Standing, standing_of}

module _ {D : Type 0} (disk : Disk D) where
  -- one event more
  runs_more : (from : Standing) (events : List (ServeEvent D)) (s m t : ServeStanding D) (e : ServeEvent D) → Runs disk from s events m
      → Happens disk from m e t → Runs disk from s (events ++ e ∷ []) t
  unfolding Runs
  runs_more from [] s m t e same did = (t, subst (λ (x : ServeStanding D). Happens disk from x e t) (sym same) did, refl)
  runs_more from (x ∷ events) s m t e went did = (went.0, went.1, runs_more from events went.0 m t e went.2 did)

  -- before the first
  pub course_begins : (start : StoreValue D SessionValue Action) → HasCourse disk start [] [] [] start
  unfolding Runs
  course_begins start = record { events = []; runs = refl }

  module _ (start : StoreValue D SessionValue Action) (answered : List Asked) (written : List ℕ) (accepted : List Action) (store : StoreValue D SessionValue Action)
      (course : HasCourse disk start answered written accepted store) where
    -- one call of the store more
    pub course_calls : (new : StoreValue D SessionValue Action) (more all : List Action) → length more ≤ 1
        → Continues session_keeping disk store more new → all ≡ accepted ++ more → HasCourse disk start answered written all new
    course_calls new more all one call is = rw is (record {
      events = course.events ++ Calls more new ∷ [];
      runs = runs_more (standing_of start) course.events (at_beginning start)
          (record { store = store; accepted = accepted; answered = answered; written = written })
          (record { store = new; accepted = accepted ++ more; answered = answered; written = written })
          (Calls more new) course.runs (one, call, refl);
    })

    -- replies to some lines more, where nothing is pending
    pub course_replies : (lines : List Asked) (text : List ℕ) → AreReplies (after_all (standing_of start) answered) lines text
        → store.pending ≡ [] → length (accepted_all (standing_of start) (answered ++ lines)) ≤ length accepted
        → HasCourse disk start (answered ++ lines) (written ++ text) accepted store
    course_replies lines text replies none taken = record {
      events = course.events ++ Replies lines text ∷ [];
      runs = runs_more (standing_of start) course.events (at_beginning start)
          (record { store = store; accepted = accepted; answered = answered; written = written })
          (record { store = store; accepted = accepted; answered = answered ++ lines; written = written ++ text })
          (Replies lines text) course.runs (replies, none, taken, refl);
    }

  -- what a course has brought about: calls of the store, and of what was accepted of the lines answered nothing is pending
  record HasCome (start : StoreValue D SessionValue Action) (s : ServeStanding D) : Type 0 where
    so_far : Continues session_keeping disk start s.accepted s.store
    settled : length (accepted_all (standing_of start) s.answered) + length s.store.pending ≤ length start.pending + length s.accepted

  has_come : (start : StoreValue D SessionValue Action) (s t : ServeStanding D) (e : ServeEvent D) → HasCome start s
      → Happens disk (standing_of start) s e t → HasCome start t
  has_come start s t (Calls actions store) h did =
      let few = few_pending session_keeping disk s.store store actions did.1 in
      let long = length-append s.accepted actions in
      let now : HasCome start (record s { store = store; accepted = s.accepted ++ actions }) = record {
        so_far = continues_joins session_keeping disk start s.store store s.accepted actions h.so_far did.1;
        settled = omega (arith, few, long, h.settled);
      } in
      subst (λ (x : ServeStanding D). HasCome start x) (sym did.2) now
  has_come start s t (Replies lines text) h did =
      let none : length s.store.pending ≡ 0 = ap length did.1 in
      let now : HasCome start (record s { answered = s.answered ++ lines; written = s.written ++ text }) = record {
        so_far = h.so_far;
        settled = omega (arith, none, did.2);
      } in
      subst (λ (x : ServeStanding D). HasCome start x) (sym did.3) now

  all_come : (start : StoreValue D SessionValue Action) (events : List (ServeEvent D)) (s t : ServeStanding D) → HasCome start s
      → Runs disk (standing_of start) s events t → HasCome start t
  unfolding Runs
  all_come start [] s t h same = subst (λ (x : ServeStanding D). HasCome start x) same h
  all_come start (e ∷ events) s t h went = all_come start events went.0 t (has_come start s went.0 e h went.1) went.2

  -- what stands for the base of a store with some of its next actions stands for the first base with those confirmed too
  at_least : (start store : StoreValue D SessionValue Action) (accepted more : List Action) (n : ℕ) → start.pending ≡ []
      → (call : Continues session_keeping disk start accepted store) → n + length store.pending ≤ length accepted
      → (c : Image) → StandsForPrefix session_keeping store.base (store.pending ++ more) c
      → StandsForAtLeast session_keeping disk start.base (accepted ++ more) n c
  at_least start store accepted more n none call settled c from =
      let k = call.confirmed in
      let all : List Action = accepted ++ more in
      let only : start.pending ++ accepted ≡ accepted = ap (λ (xs : List Action). xs ++ accepted) none in
      let few : k ≤ length accepted = subst (λ (xs : List Action). k ≤ length xs) only call.few in
      let pending : store.pending ≡ drop k accepted = call.pending ∙ ap (drop k) only in
      let base : fold session_keeping start.base (take k accepted) ≡ Some store.base
      = subst (λ (xs : List Action). fold session_keeping start.base (take k xs) ≡ Some store.base) only call.base in
      let behind : store.pending ++ more ≡ drop k all
      = ap (λ (xs : List Action). xs ++ more) pending ∙ sym (drop-append-le k accepted more few) in
      let made : fold session_keeping start.base (take k all) ≡ Some store.base
      = ap (fold session_keeping start.base) (take-append-le k accepted more few) ∙ base in
      let long = length-append accepted more in
      let left : length store.pending ≡ length (drop k accepted) = ap length pending in
      let rest = length-drop k accepted in
      let here : StandsForPrefix session_keeping store.base (drop k all) c
      = subst (λ (xs : List Action). StandsForPrefix session_keeping store.base xs c) behind from in
      let rest_all = length-drop k all in record {
        count = k + here.count;
        enough = omega (arith, few, left, rest, settled);
        few = omega (arith, few, long, rest_all, here.few);
        state = here.state;
        made = fold-behind session_keeping start.base store.base here.state all k here.count made here.made;
        stands = here.stands;
        in_order = here.in_order;
      }

  -- the law of a power cut while lines are served
  pub cut_law : CutLaw disk
  cut_law start sound none events s went e t did c left =
      let begins : HasCome start (at_beginning start) = record {
        so_far = continues_begins session_keeping disk start;
        settled = omega arith;
      } in
      on e (all_come start events (at_beginning start) s begins went) did left
    where
      on : (e : ServeEvent D) → HasCome start s → Happens disk (standing_of start) s e t → MayLeave disk s e c
          → StandsForAtLeast session_keeping disk start.base (s.accepted ++ accepts e) (length (accepted_all (standing_of start) (answered_by s e))) c
      on (Calls actions store) h did left =
          let empty : length start.pending ≡ 0 = ap length none in
          at_least start s.store s.accepted actions (length (accepted_all (standing_of start) s.answered)) none h.so_far
          (omega (arith, h.settled, empty)) c ((did.1.any_moment (h.so_far.sound sound)).each c left)
      on (Replies lines text) h did left =
          let settled : length s.store.pending ≡ 0 = ap length did.1 in
          at_least start s.store s.accepted [] (length (accepted_all (standing_of start) (s.answered ++ lines))) none h.so_far
          (omega (arith, settled, did.2)) c
          (prefix-longer session_keeping s.store.base s.store.pending [] c ((h.so_far.sound sound).images c left))

  -- the law of a power cut where nothing is pending
  pub write_law : WriteLaw disk
  write_law start sound none accepted store calls settled c left =
      let empty : length store.pending ≡ 0 = ap length settled in
      subst (λ (xs : List Action). StandsForAtLeast session_keeping disk start.base xs (length accepted) c) (append-nil accepted)
      (at_least start store accepted [] (length accepted) none calls (omega (arith, empty)) c
      (prefix-longer session_keeping store.base store.pending [] c ((calls.sound sound).images c left)))
