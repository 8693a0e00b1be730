-- What is written for an auction that is read line by line.
use Rattle.std.specs.Prelude.{ℕ, nat_le, if◌then◌else◌, List, [], ◌∷◌, ◌++◌, length, take, codes, Option, Some, None, Result, Ok, Err}
use Rattle.std.specs.Str.Lines.{strip_carriage_return}
use Rattle.bridge_cards.specs.declared.seat.Seat.{Seat}
use Rattle.bridge_auction.specs.declared.call.Call.{Call}
use Rattle.bridge_auction.specs.declared.contract.Contract.{Contract}
use Rattle.bridge_auction.specs.declared.refused.CallRefused.{CallRefused}
use Rattle.bridge_auction.specs.Legal.{is_ended}
use Rattle.bridge_auction.specs.Answer.{answer_to}
use Rattle.bridge_auction.specs.Contract.{contract_of}
use Rattle.line_replies.specs.declared.short_reply.ShortReply.{ShortReply}
use Rattle.line_replies.specs.declared.short_reply.ShortReply.TheVariants.{Done, Illegal, BadLine, LongLine}
use Rattle.line_replies.specs.ReplyTexts.{short_text}
use Rattle.bridge_auction.specs.Spelling.{contract_text, call_of}
use Rattle.line_text.specs.Lines.{complete_lines, is_long}
use Rattle.line_replies.specs.Limit.{byte_limit, limit_notice}

-- the call that a line spells, without one carriage return (byte 13) at its end
abbrev pub line_call : List ℕ → Option Call
line_call line = if is_long line then None else call_of (strip_carriage_return line)

-- the reply by the answer of the rules
abbrev pub answer_reply : Result (Unit {0}) CallRefused → ShortReply
answer_reply (Ok _) = Done
answer_reply (Err refused) = Illegal refused

-- the reply to a line that spells this call, or none
abbrev pub call_reply : List Call → Option Call → ShortReply
call_reply calls None = BadLine
call_reply calls (Some call) = answer_reply (answer_to calls call)

-- the reply to a line after those calls
abbrev pub line_reply : List Call → List ℕ → ShortReply
line_reply calls line = if is_long line then LongLine else call_reply calls (line_call line)

-- the calls after a call that got this answer
abbrev pub calls_by : Result (Unit {0}) CallRefused → List Call → Call → List Call
calls_by (Ok _) calls call = calls ++ call ∷ []
calls_by (Err refused) calls call = calls

-- the calls after a line that spells this call, or none
abbrev pub calls_with : List Call → Option Call → List Call
calls_with calls None = calls
calls_with calls (Some call) = calls_by (answer_to calls call) calls call

-- the calls after those lines, each line that spells a legal call adding it
abbrev pub calls_after : List Call → List (List ℕ) → List Call
calls_after calls [] = calls
calls_after calls (line ∷ lines) = calls_after (calls_with calls (line_call line)) lines

-- the replies to those lines, one after another
abbrev pub replies_to : List Call → List (List ℕ) → List ℕ
replies_to calls [] = []
replies_to calls (line ∷ lines) = short_text (line_reply calls line) ++ replies_to (calls_with calls (line_call line)) lines

-- the contract that the auction made, or that all passed
abbrev pub contract_line : Option Contract → List ℕ
contract_line None = codes "PASSED OUT\n"
contract_line (Some contract) = (codes "CONTRACT " ++ contract_text contract) ++ codes "\n"

-- the last line of all
abbrev pub ending : Seat → List Call → List ℕ
ending dealer calls = if is_ended calls then contract_line (contract_of dealer calls) else codes "UNFINISHED\n"

-- all that is written for bytes of which no more are read than the limit
abbrev pub output_for : Seat → List ℕ → List ℕ
output_for dealer bytes =
    replies_to [] (complete_lines bytes)
    ++ (limit_notice (nat_le byte_limit (length bytes)) ++ ending dealer (calls_after [] (complete_lines bytes)))

-- all that is written for an auction of that dealer
abbrev pub auction_output : Seat → List ℕ → List ℕ
auction_output dealer bytes = output_for dealer (take byte_limit bytes)
