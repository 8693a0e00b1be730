-- What was heard of an auction's bytes, and what was written for them.
use Rattle.std.specs.Prelude.{◌≡◌, ℕ, ◌+◌, ◌<◌, ◌≤◌, true, List, [], ◌++◌, length, take, Option, IfSome}
use Rattle.std.specs.List.{list_all}
use Rattle.std.specs.Io.KnownBytes.{Appends, Consumes}
use Rattle.bridge_cards.specs.declared.seat.Seat.{Seat}
use Rattle.line_replies.specs.declared.fault.ServeFault.{ServeFault}
use Rattle.line_replies.specs.declared.fault.ServeFault.TheVariants.{Read, Write, Accept}
use Rattle.line_text.specs.Lines.{complete_lines, is_within_line}
use Rattle.line_replies.specs.Limit.{byte_limit}
use Rattle.auction_command.specs.Replies.{replies_to, calls_after, output_for, auction_output}
use Rattle.auction_command.specs.AuctionLines.{AuctionLinesValue, replies_from, calls_from}
use Rattle.line_text.specs.Streams.{Stream, Gives, Takes, TakesPrefix}

-- The auction has heard some bytes, which the reader gave, and the replies to their complete lines are written.
pub record Heard (dealer : Seat) (given rest written_before written : Option (List ℕ)) (auction_lines : AuctionLinesValue) (left : ℕ) : Type 0 where
  pub bytes : List ℕ
  pub count : length bytes + left ≡ byte_limit
  pub consumed : Consumes given rest bytes
  pub appended : Appends written_before written (replies_to [] (complete_lines bytes))
  pub replies : (more : List ℕ) → replies_to [] (complete_lines (bytes ++ more)) ≡ replies_to [] (complete_lines bytes) ++ replies_from auction_lines more
  pub calls : (more : List ℕ) → calls_after [] (complete_lines (bytes ++ more)) ≡ calls_from auction_lines more
  pub dealt : auction_lines.dealer ≡ dealer
  pub within : list_all is_within_line auction_lines.line ≡ true

-- All of the output for the reader's bytes is written, of which no more are read than the limit.
abbrev pub AnswersAll : Seat → Stream → Stream → Type 0
AnswersAll dealer input output =
    IfSome input.old (λ given. Takes output (auction_output dealer given) × Gives input (take byte_limit given))

-- What was read and written at a fault, of the reader and the writer:
-- at a read fault the replies to the complete lines; at a write fault a prefix of the output for the bytes read,
-- which, where all the bytes given are known, is a prefix of the whole output too. No connection is accepted.
abbrev pub StopsAt : Seat → Stream → Stream → ServeFault → Type 0
StopsAt dealer input output Read =
    (bytes : List ℕ) × (length bytes < byte_limit) × Gives input bytes × Takes output (replies_to [] (complete_lines bytes))
StopsAt dealer input output Write =
    (bytes : List ℕ) × (length bytes ≤ byte_limit) × Gives input bytes × TakesPrefix output (output_for dealer bytes)
    × IfSome input.old (λ given. TakesPrefix output (auction_output dealer given))
StopsAt dealer input output Accept = ⊥
