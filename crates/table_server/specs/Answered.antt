-- What lines make of a session together, the replies to them, and which are answered together.
use Rattle.std.specs.Prelude.{◌≡◌, ◌+◌, ◌==◌, ℕ, zero, suc, Bool, true, false, if◌then◌else◌, List, [], ◌∷◌, ◌++◌}
use Rattle.session_rules.specs.declared.action.Action.{Action}
use Rattle.table_server.specs.declared.asked.Asked.{Asked}
use Rattle.table_server.specs.declared.asked.Asked.TheVariants.{Change, Told, BadLine, LongLine}
use Rattle.line_replies.specs.declared.short_reply.ShortReply.TheVariants as short
use Rattle.line_replies.specs.ReplyTexts.{short_text}
use Rattle.table_server.specs.declared.line_set.LineSet.{LineSet}
use Rattle.table_server.specs.Asked.{AsksIn}
use Rattle.table_server.specs.Standing.{Standing, change_reply, after_change, accepted_change}
use Rattle.table_server.specs.Told.{Tells}

-- the text is the reply to a line that asks for this
abbrev pub IsReply : Standing → Asked → List ℕ → Type 0
IsReply standing (Change action) text = text ≡ short_text (change_reply standing action)
IsReply standing (Told question) text = Tells standing.state question text
IsReply standing BadLine text = text ≡ short_text short.BadLine
IsReply standing LongLine text = text ≡ short_text short.LongLine

-- the session after it
abbrev pub after_asked : Standing → Asked → Standing
after_asked standing (Change action) = after_change standing action
after_asked standing (Told question) = standing
after_asked standing BadLine = standing
after_asked standing LongLine = standing

-- the actions that it adds to those accepted
abbrev pub accepted : Standing → Asked → List Action
accepted standing (Change action) = accepted_change standing action
accepted standing (Told question) = []
accepted standing BadLine = []
accepted standing LongLine = []

-- the session after lines that ask for these
abbrev pub after_all : Standing → List Asked → Standing
after_all standing [] = standing
after_all standing (asked ∷ more) = after_all (after_asked standing asked) more

-- the actions accepted of them
abbrev pub accepted_all : Standing → List Asked → List Action
accepted_all standing [] = []
accepted_all standing (asked ∷ more) = accepted standing asked ++ accepted_all (after_asked standing asked) more

-- the text is their replies, one after another
abbrev pub AreReplies : Standing → List Asked → List ℕ → Type 0
AreReplies standing [] text = text ≡ []
AreReplies standing (asked ∷ more) text = (reply : List ℕ) × (rest : List ℕ)
    × IsReply standing asked reply × AreReplies (after_asked standing asked) more rest × (text ≡ reply ++ rest)

-- these lines of a set ask for these
abbrev pub AskAll : LineSet → List (List ℕ) → List Asked → Type 0
AskAll set [] [] = Unit {0}
AskAll set [] (asked ∷ more) = ⊥
AskAll set (line ∷ lines) [] = ⊥
AskAll set (line ∷ lines) (asked ∷ more) = AsksIn set line asked × AskAll set lines more

-- changes and bad lines are held, 64 at most, and questions are not
abbrev pub is_held : Asked → Bool
is_held (Change action) = true
is_held (Told question) = false
is_held BadLine = true
is_held LongLine = true

-- how many lines are held after one more, of which the 64th and a question let all go
abbrev pub held_with : ℕ → Asked → ℕ
held_with held asked = if is_held asked then (if held == 63 then 0 else held + 1) else 0

-- how many lines are held after these, where so many were held before
abbrev pub held_from : ℕ → List Asked → ℕ
held_from held [] = held
held_from held (asked ∷ more) = held_from (held_with held asked) more

-- how many lines are held after these: with none, a group of lines that are answered together begins
abbrev pub held_after : List Asked → ℕ
held_after asked = held_from 0 asked

-- `ERR 40 Disk` for each of so many lines
abbrev pub disk_errors : ℕ → List ℕ
disk_errors zero = []
disk_errors (suc lines) = short_text short.Disk ++ disk_errors lines
