-- What holds between two lines, from line to line.
use Rattle.std.proofs.Common.{◌≡◌, ℕ, ◌+◌, ◌<◌, ◌≤◌, ◌∙◌, true, false, List, [], ◌∷◌, ◌++◌, length, drop, refl, sym, ap, subst, arith, append_assoc, append-nil, length-append}
use Rattle.std.proofs.lemmas.Bool.{true≢false}
use Rattle.std.proofs.lemmas.List.{length-drop}
use Rattle.sector_disk.specs.Disk.{Disk}
use Rattle.session_store.specs.Answers.{after_confirm, after_fault, room}
use Rattle.session_store.proofs.CallLaws.{few_pending, continues_joins}
use Rattle.session_store.specs.Store.{Continues}
use Rattle.session_store.specs.Value.{StoreValue}
use Rattle.session_rules.specs.declared.action.Action.{Action}
use Rattle.bridge_session.specs.SessionKeeping.{session_keeping}
use Rattle.session_rules.specs.State.{SessionValue}
use Rattle.table_server.specs.declared.asked.Asked.{Asked}
use Rattle.table_server.specs.declared.asked.Asked.TheVariants.{Told}
use Rattle.table_server.specs.declared.asked.Question.{Question}
use Rattle.table_server.specs.Answered.{IsReply, after_asked, accepted, after_all, accepted_all, is_held, held_after}
use Rattle.table_server.specs.Served.{IsServed}
use Rattle.table_server.specs.Serving.{Holding, Settled}
use Rattle.table_server.specs.Standing.{Standing, standing_of}
use Rattle.table_server.specs.Told.{Tells}
use Rattle.table_server.specs.Course.{HasCourse}
use Rattle.table_server.proofs.CountLemmas.{few_of_one}
use Rattle.table_server.proofs.CourseLemmas.{course_calls, course_replies}
use Rattle.table_server.proofs.Folds.{after_append, accepted_one, room_left, replies_append, replies_one, all_held_one}

module _ {D : Type 0} where
  -- confirming changes neither the session nor how many actions can be taken
  confirmed_standing : (v : StoreValue D SessionValue Action) (d : D) → standing_of (after_confirm v d) ≡ standing_of v
  unfolding room
  confirmed_standing v d = refl

  -- nor does a failed call
  pub failed_standing : (v : StoreValue D SessionValue Action) (d : D) → standing_of (after_fault v d) ≡ standing_of v
  unfolding room
  failed_standing v d = refl

  module _ (disk : Disk D) where
    -- actions accepted that are no longer pending are confirmed
    pub confirmed_enough : (old new : StoreValue D SessionValue Action) (all : List Action) (answered waiting : ℕ)
        → (call : Continues session_keeping disk old all new) → length new.pending ≤ waiting
        → length all ≡ answered + waiting → answered ≤ call.confirmed
    confirmed_enough old new all answered waiting call few count =
        let long = length-append old.pending all in
        let left : length new.pending ≡ length (drop call.confirmed (old.pending ++ all)) = ap length call.pending in
        let rest = length-drop call.confirmed (old.pending ++ all) in
        omega (arith, long, left, rest, few, count)

    -- one call more
    pub joined : (start store new : StoreValue D SessionValue Action) (s : Standing) (asked : List Asked) (more : List Action) (all : List Action)
        → Continues session_keeping disk start (accepted_all s asked) store → Continues session_keeping disk store more new
        → all ≡ accepted_all s asked ++ more → Continues session_keeping disk start all new
    joined start store new s asked more all first second is =
        rw is (continues_joins session_keeping disk start store new (accepted_all s asked) more first second)

    -- what was held is confirmed
    pub settled : (start store new : StoreValue D SessionValue Action) (asked : List Asked) (text : List ℕ) (count : ℕ) (written : List ℕ)
        → Holding disk start asked store text count written → new ≡ after_confirm store new.disk
        → Continues session_keeping disk store [] new → Settled disk start asked new (written ++ text)
    settled start store new asked text count written h is call =
        let from = standing_of start in
        let all : List Action = accepted_all from asked in
        let called = course_calls disk start h.answered written all store h.course new [] all (omega arith) call (sym (append-nil all)) in
        let lines : length all ≡ length (accepted_all from (h.answered ++ h.waiting)) = ap (λ (xs : List Asked). length (accepted_all from xs)) h.all in
        let none : new.pending ≡ [] = ap (λ (v : StoreValue D SessionValue Action). v.pending) is in record {
          are_replies = rw h.all (replies_append (standing_of start) h.answered h.waiting written text h.are_replies h.are_held);
          works = ap (λ (v : StoreValue D SessionValue Action). v.failed) is ∙ h.works;
          worked = h.worked;
          standing = ap standing_of is ∙ confirmed_standing store new.disk ∙ h.standing;
          continues =
              joined start store new (standing_of start) asked [] (accepted_all (standing_of start) asked) h.continues call
              (sym (append-nil (accepted_all (standing_of start) asked)));
          pending = none;
          course = subst (λ (xs : List Asked). HasCourse disk start xs (written ++ text) all new) (sym h.all)
              (course_replies disk start h.answered written all new called h.waiting text h.are_held none (omega (arith, lines)));
        }

    -- and then another group may begin
    pub holding : (start store : StoreValue D SessionValue Action) (asked : List Asked) (written : List ℕ)
        → Settled disk start asked store written → held_after asked ≡ 0 → Holding disk start asked store [] 0 written
    holding start store asked written s begins = record {
      answered = asked;
      waiting = [];
      all = sym (append-nil asked);
      are_replies = s.are_replies;
      are_held = refl;
      begins = begins;
      group = refl;
      count_is = refl;
      few = omega arith;
      works = s.works;
      worked = s.worked;
      standing = s.standing;
      continues = s.continues;
      pending = rw s.pending (omega arith);
      course = s.course;
    }

    -- or all was served
    pub served : (start store : StoreValue D SessionValue Action) (asked : List Asked) (written : List ℕ)
        → (s : Settled disk start asked store written)
        → IsServed disk start asked store written (length (accepted_all (standing_of start) asked))
    served start store asked written s =
        let from = standing_of start in
        let same : asked ++ [] ≡ asked = append-nil asked in
        let all : accepted_all from (asked ++ []) ≡ accepted_all from asked = ap (accepted_all from) same in
        let calls : Continues session_keeping disk start (accepted_all from (asked ++ [])) store = rw all s.continues in record {
          answered = asked;
          taken = [];
          later = [];
          all = sym same;
          replies = written;
          are_replies = s.are_replies;
          says = sym (append-nil written);
          course = rw all s.course;
          state = ap (λ (t : Standing). t.state) s.standing ∙ ap (λ (xs : List Asked). (after_all from xs).state) (sym same);
          standing = λ works. s.standing ∙ ap (after_all from) (sym same);
          continues = calls;
          counted = ap length (sym all);
          fewer = let left = room_left from asked in let here = ap (λ (t : Standing). t.room) s.standing in (omega (arith, left, here), omega (arith, left, here));
          confirmed = confirmed_enough start store (accepted_all from (asked ++ [])) (length (accepted_all from asked)) 0 calls
              (rw s.pending (omega arith)) (ap length all ∙ omega arith);
          works = λ works. (refl, s.pending);
          group = λ failed. absurd (true≢false (sym failed ∙ s.works));
          held = refl;
          few = omega arith;
          failed_before = λ failed. absurd (true≢false (sym failed ∙ s.worked));
        }

    -- a question was answered
    pub told : (start store : StoreValue D SessionValue Action) (asked : List Asked) (question : Question) (written text : List ℕ)
        → Settled disk start asked store written → Tells store.state question text
        → Settled disk start (asked ++ Told question ∷ []) store (written ++ text)
    told start store asked question written text s tells =
        let from = standing_of start in
        let there : Tells (after_all from asked).state question text
        = subst (λ (t : SessionValue). Tells t question text) (ap (λ (t : Standing). t.state) s.standing) tells in
        let same : accepted_all from (asked ++ Told question ∷ []) ≡ accepted_all from asked
        = accepted_one from asked (Told question) ∙ append-nil (accepted_all from asked) in
        let count : length (accepted_all from (asked ++ Told question ∷ [])) ≡ length (accepted_all from asked) = ap length same in record {
          are_replies = replies_one from asked (Told question) written text s.are_replies there;
          works = s.works;
          worked = s.worked;
          standing = s.standing ∙ sym (after_append from asked (Told question ∷ []));
          continues = rw (accepted_one from asked (Told question), append-nil (accepted_all from asked)) s.continues;
          pending = s.pending;
          course = subst (λ (xs : List Action). HasCourse disk start (asked ++ Told question ∷ []) (written ++ text) xs store) (sym same)
              (course_replies disk start asked written (accepted_all from asked) store s.course (Told question ∷ []) text
              (text, [], there, refl, sym (append-nil text)) s.pending (omega (arith, count)));
        }

    -- one line more is held
    pub held_more : (start store new : StoreValue D SessionValue Action) (asked : List Asked) (one : Asked) (text reply : List ℕ) (count : ℕ) (written : List ℕ)
        → Holding disk start asked store text count written → count < 64 → is_held one ≡ true
        → IsReply (standing_of store) one reply → new.failed ≡ false → standing_of new ≡ after_asked (standing_of store) one
        → Continues session_keeping disk store (accepted (standing_of store) one) new
        → Holding disk start (asked ++ one ∷ []) new (text ++ reply) (count + 1) written
    held_more start store new asked one text reply count written h room held is_reply works standing call =
        let from = standing_of start in
        let before = after_all from h.answered in
        let all : asked ++ one ∷ [] ≡ h.answered ++ (h.waiting ++ one ∷ [])
        = ap (λ (xs : List Asked). xs ++ one ∷ []) h.all ∙ append_assoc h.answered h.waiting (one ∷ []) in
        let here : standing_of store ≡ after_all before h.waiting
        = h.standing ∙ ap (after_all from) h.all ∙ after_append from h.answered h.waiting in
        let more : List Action = accepted (standing_of store) one in
        let waits : accepted_all before (h.waiting ++ one ∷ []) ≡ accepted_all before h.waiting ++ more
        = accepted_one before h.waiting one ∙ ap (λ (t : Standing). accepted_all before h.waiting ++ accepted t one) (sym here) in
        let count_waits = ap length waits ∙ length-append (accepted_all before h.waiting) more in
        let accepts : accepted_all from (asked ++ one ∷ []) ≡ accepted_all from asked ++ more
        = accepted_one from asked one ∙ ap (λ (t : Standing). accepted_all from asked ++ accepted t one) (sym h.standing) in
        let few = few_pending session_keeping disk store new more call in record {
          answered = h.answered;
          waiting = h.waiting ++ one ∷ [];
          all = all;
          are_replies = h.are_replies;
          are_held = replies_one before h.waiting one text reply h.are_held (subst (λ (t : Standing). IsReply t one reply) here is_reply);
          begins = h.begins;
          group = all_held_one h.waiting one h.group held;
          count_is = length-append h.waiting (one ∷ []) ∙ ap (λ n. n + 1) h.count_is;
          few = omega (arith, room);
          works = works;
          worked = h.worked;
          standing = standing ∙ ap (λ (t : Standing). after_asked t one) h.standing ∙ sym (after_append from asked (one ∷ []));
          continues =
              joined start store new from asked more (accepted_all from (asked ++ one ∷ [])) h.continues call accepts;
          pending = omega (arith, count_waits, few, h.pending);
          course = course_calls disk start h.answered written (accepted_all from asked) store h.course new more (accepted_all from (asked ++ one ∷ [])) (few_of_one (standing_of store) one) call accepts;
        }
