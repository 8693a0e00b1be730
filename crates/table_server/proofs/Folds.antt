-- Lines one after another: what they make of a session, their replies, and the groups in which they are answered.
use Rattle.std.proofs.Common.{◌≡◌, ℕ, zero, suc, ◌+◌, ◌≤◌, ◌∙◌, Bool, true, false, ◌&&◌, List, [], ◌∷◌, ◌++◌, length, Result, Ok, Err, refl, sym, ap, arith, append_assoc, append-nil, length-append}
use Rattle.std.specs.Prelude.{nat_eq, ◌≢◌, if◌then◌else◌}
use Rattle.std.specs.List.{list_all}
use Rattle.std.proofs.lemmas.Bool.{eqb-true, eqb-false}
use Rattle.std.proofs.lemmas.List.{nil_from_length}
use Rattle.std.proofs.lemmas.List.Folds.{list_all-append}
use Rattle.session_rules.specs.declared.action.Action.{Action}
use Rattle.session_rules.specs.declared.refused.Refused.{Refused as SessionRefused}
use Rattle.session_rules.specs.State.{SessionValue}
use Rattle.table_server.specs.declared.asked.Asked.{Asked}
use Rattle.table_server.specs.declared.asked.Asked.TheVariants.{Change, Told, BadLine, LongLine}
use Rattle.table_server.specs.declared.asked.Question.{Question}
use Rattle.line_replies.specs.declared.short_reply.ShortReply.TheVariants as short
use Rattle.table_server.specs.Answered.{IsReply, after_asked, accepted, after_all, accepted_all, AreReplies, is_held, held_with, held_from, held_after, disk_errors}
use Rattle.line_replies.specs.ReplyTexts.{short_text}
use Rattle.table_server.specs.Standing.{Standing, answer_in, standing_within, accepted_within}

-- the session after some lines and others
pub after_append : (s : Standing) (xs ys : List Asked) → after_all s (xs ++ ys) ≡ after_all (after_all s xs) ys
after_append s [] ys = refl
after_append s (x ∷ xs) ys = after_append (after_asked s x) xs ys

-- the actions accepted of some lines and others
pub accepted_append : (s : Standing) (xs ys : List Asked) → accepted_all s (xs ++ ys) ≡ accepted_all s xs ++ accepted_all (after_all s xs) ys
accepted_append s [] ys = refl
accepted_append s (x ∷ xs) ys =
    ap (λ more. accepted s x ++ more) (accepted_append (after_asked s x) xs ys)
    ∙ sym (append_assoc (accepted s x) (accepted_all (after_asked s x) xs) (accepted_all (after_all (after_asked s x) xs) ys))

-- the actions accepted of one line more
pub accepted_one : (s : Standing) (xs : List Asked) (x : Asked) → accepted_all s (xs ++ x ∷ []) ≡ accepted_all s xs ++ accepted (after_all s xs) x
accepted_one s xs x = accepted_append s xs (x ∷ []) ∙ ap (λ more. accepted_all s xs ++ more) (append-nil (accepted (after_all s xs) x))

-- each action that is accepted leaves room for one fewer
room_within : (s : Standing) (n : ℕ) (action : Action) (answer : Result SessionValue SessionRefused) → s.room ≡ n → (standing_within s n answer).room + length (accepted_within n action answer) ≡ s.room
room_within s zero action answer is = omega arith
room_within s (suc n) action (Ok state) is = omega (arith, is)
room_within s (suc n) action (Err refused) is = omega arith

room_one : (s : Standing) (x : Asked) → (after_asked s x).room + length (accepted s x) ≡ s.room
room_one s (Change action) = room_within s s.room action (answer_in s action) refl
room_one s (Told question) = omega arith
room_one s BadLine = omega arith
room_one s LongLine = omega arith

pub room_left : (s : Standing) (xs : List Asked) → (after_all s xs).room + length (accepted_all s xs) ≡ s.room
room_left s [] = omega arith
room_left s (x ∷ xs) =
    let both = length-append (accepted s x) (accepted_all (after_asked s x) xs) in
    omega (arith, both, room_one s x, room_left (after_asked s x) xs)

-- the replies to some lines and others
pub replies_append : (s : Standing) (xs ys : List Asked) (text more : List ℕ) → AreReplies s xs text → AreReplies (after_all s xs) ys more → AreReplies s (xs ++ ys) (text ++ more)
replies_append s [] ys text more first second = rw first second
replies_append s (x ∷ xs) ys text more first second = (
  first.0,
  first.1 ++ more,
  first.2,
  replies_append (after_asked s x) xs ys first.1 more first.3 second,
  rw first.4 (append_assoc first.0 first.1 more),
)

-- and to one line more
pub replies_one : (s : Standing) (xs : List Asked) (x : Asked) (text more : List ℕ) → AreReplies s xs text → IsReply (after_all s xs) x more → AreReplies s (xs ++ x ∷ []) (text ++ more)
replies_one s xs x text more first reply =
    replies_append s xs (x ∷ []) text more first (more, [], reply, refl, sym (append-nil more))

-- how many lines are held after some lines and others
pub held_append : (n : ℕ) (xs ys : List Asked) → held_from n (xs ++ ys) ≡ held_from (held_from n xs) ys
held_append n [] ys = refl
held_append n (x ∷ xs) ys = held_append (held_with n x) xs ys

-- a question lets all go
pub held_told : (xs : List Asked) (question : Question) → held_after (xs ++ Told question ∷ []) ≡ 0
held_told xs question = held_append 0 xs (Told question ∷ [])

-- both of two
both : (a b : Bool) → (a && b) ≡ true → (a ≡ true) × (b ≡ true)
both true b is = (refl, is)
both false b is = absurd (cc)

-- one line more of a group
group_step : (m n : ℕ) (xs : List Asked) (last : Bool) → nat_eq n 63 ≡ last → m ≡ (if last then 0 else n + 1) → ((k : ℕ) → k ≤ 63 → k + length xs ≡ 64 → held_from k xs ≡ 0) → n ≤ 63 → n + suc (length xs) ≡ 64 → held_from m xs ≡ 0
group_step m n xs true last is more few whole =
    let n_is : n ≡ 63 = eqb-true n 63 last in
    let none : xs ≡ [] = nil_from_length xs (omega (arith, whole, n_is)) in
    rw (none, is) refl
group_step m n xs false last is more few whole =
    let other : n ≢ 63 = eqb-false n 63 last in
    rw is (more (n + 1) (omega (arith, few, other)) (omega (arith, whole)))

-- a whole group of lines that are held lets all go
pub held_whole : (n : ℕ) (xs : List Asked) → list_all is_held xs ≡ true → n ≤ 63 → n + length xs ≡ 64 → held_from n xs ≡ 0
held_whole n [] all few whole = absurd (omega (arith, few, whole))
held_whole n (x ∷ xs) all few whole =
    let parts = both (is_held x) (list_all is_held xs) all in
    let held : held_with n x ≡ (if nat_eq n 63 then 0 else n + 1)
    = ap (λ (b : Bool). if b then (if nat_eq n 63 then 0 else n + 1) else 0) parts.0 in
    group_step (held_with n x) n xs (nat_eq n 63) refl held (λ k. held_whole k xs parts.1) few whole

-- a group that begins after some lines, and is whole
pub group_whole : (xs ys : List Asked) → held_after xs ≡ 0 → list_all is_held ys ≡ true → length ys ≡ 64 → held_after (xs ++ ys) ≡ 0
group_whole xs ys begins held whole =
    held_append 0 xs ys ∙ ap (λ n. held_from n ys) begins ∙ held_whole 0 ys held (omega arith) (omega (arith, whole))

-- one line more that is held
pub all_held_one : (xs : List Asked) (x : Asked) → list_all is_held xs ≡ true → is_held x ≡ true → list_all is_held (xs ++ x ∷ []) ≡ true
all_held_one xs x all one = rw (list_all-append is_held xs (x ∷ []), all, one) refl

-- `ERR 40 Disk` for some lines and one more
pub errors_append : (m n : ℕ) → disk_errors (m + n) ≡ disk_errors m ++ disk_errors n
errors_append zero n =
    let same : 0 + n ≡ n = omega arith in
    ap disk_errors same
errors_append (suc m) n =
    let same : suc m + n ≡ suc (m + n) = omega arith in
    ap disk_errors same ∙ ap (λ more. short_text short.Disk ++ more) (errors_append m n)
    ∙ sym (append_assoc (short_text short.Disk) (disk_errors m) (disk_errors n))
