-- How many actions were accepted.
use Rattle.std.proofs.Common.{◌≡◌, ℕ, zero, suc, ◌+◌, ◌≤◌, ◌∙◌, List, [], ◌∷◌, ◌++◌, length, Result, Ok, Err, refl, sym, ap, arith, length-append, append-nil}
use Rattle.session_rules.specs.declared.action.Action.{Action}
use Rattle.session_rules.specs.declared.refused.Refused.{Refused as SessionRefused}
use Rattle.session_rules.specs.State.{SessionValue}
use Rattle.table_server.specs.declared.asked.Asked.{Asked}
use Rattle.table_server.specs.declared.asked.Asked.TheVariants.{Change, Told, BadLine, LongLine}
use Rattle.table_server.specs.Answered.{after_asked, accepted, after_all, accepted_all}
use Rattle.table_server.specs.Serving.{accepted_count}
use Rattle.table_server.specs.Standing.{Standing, answer_in, change_reply, reply_within, accepted_change, accepted_within}
use Rattle.table_server.proofs.Folds.{accepted_one}

count_within : (n : ℕ) (action : Action) (answer : Result SessionValue SessionRefused) → length (accepted_within n action answer) ≡ accepted_count (reply_within n answer)
count_within zero action answer = refl
count_within (suc n) action (Ok state) = refl
count_within (suc n) action (Err refused) = refl

few_within : (n : ℕ) (action : Action) (answer : Result SessionValue SessionRefused) → length (accepted_within n action answer) ≤ 1
few_within zero action answer = omega arith
few_within (suc n) action (Ok state) = omega arith
few_within (suc n) action (Err refused) = omega arith

-- a line adds one action at most
pub few_of_one : (s : Standing) (x : Asked) → length (accepted s x) ≤ 1
few_of_one s (Change action) = few_within s.room action (answer_in s action)
few_of_one s (Told question) = omega arith
few_of_one s BadLine = omega arith
few_of_one s LongLine = omega arith

-- no more actions are accepted than lines come
pub accepted_few : (s : Standing) (xs : List Asked) → length (accepted_all s xs) ≤ length xs
accepted_few s [] = omega arith
accepted_few s (x ∷ xs) =
    let count = length-append (accepted s x) (accepted_all (after_asked s x) xs) in
    let one = few_of_one s x in
    let rest = accepted_few (after_asked s x) xs in
    omega (arith, count, one, rest)

-- a change adds as many as its reply says
pub counted_change : (from here : Standing) (xs : List Asked) (action : Action) → here ≡ after_all from xs → length (accepted_all from (xs ++ Change action ∷ [])) ≡ length (accepted_all from xs) + accepted_count (change_reply here action)
counted_change from here xs action is =
    ap length (accepted_one from xs (Change action)) ∙ length-append (accepted_all from xs) (accepted_change (after_all from xs) action)
    ∙ ap (λ (s : Standing). length (accepted_all from xs) + length (accepted_change s action)) (sym is)
    ∙ ap (λ n. length (accepted_all from xs) + n) (count_within here.room action (answer_in here action))

-- and any other line none
pub counted_none : (from : Standing) (xs : List Asked) (x : Asked) → accepted (after_all from xs) x ≡ [] → length (accepted_all from (xs ++ x ∷ [])) ≡ length (accepted_all from xs)
counted_none from xs x none =
    ap length (accepted_one from xs x ∙ ap (λ more. accepted_all from xs ++ more) none ∙ append-nil (accepted_all from xs))
