-- An auction's bytes, heard piece by piece.
use Rattle.std.proofs.Common.{◌≡◌, ℕ, zero, suc, ◌+◌, ◌-◌, ◌<◌, ◌≤◌, ◌∙◌, true, List, [], ◌++◌, length, take, Option, Some, None, refl, sym, ap, arith, length-append, append_assoc, append-nil}
use Rattle.std.specs.List.{list_all}
use Rattle.std.specs.Prelude.{nat_le, nat_eq, IfSome, Result, Ok, Err, OnOk, IfErr}
use Rattle.std.proofs.lemmas.Bool.{le-leb, lt-leb, ne_eqb}
use Rattle.std.proofs.lemmas.List.{take_at, take_all}
use Rattle.std.proofs.Math.Seq.{take-append-add}
use Rattle.std.specs.Io.KnownBytes.{Appends, Consumes, IsAtEnd}
use Rattle.bridge_cards.specs.declared.seat.Seat.{Seat}
use Rattle.line_text.specs.Lines.{complete_lines, is_within_line}
use Rattle.line_replies.specs.Limit.{limit_notice, byte_limit}
use Rattle.auction_command.specs.Replies.{replies_to, calls_after, ending, output_for, auction_output}
use Rattle.line_replies.specs.declared.fault.ServeFault.{ServeFault}
use Rattle.line_replies.specs.declared.fault.ServeFault.TheVariants.{Write}
use Rattle.auction_command.specs.AuctionLines.{AuctionLinesValue, replies_from, calls_from, Answers}
use Rattle.line_text.specs.Streams.{between, TakesPrefix, Written}
use Rattle.auction_command.specs.Heard.{Heard, StopsAt}
use Rattle.line_text.proofs.CompleteLines.{lines_none}
use Rattle.std.proofs.KnownBytes.{Appends-trans, Consumes-trans}
use Rattle.line_text.proofs.Streams.{takes_prefix, prefix_longer}

-- nothing is written for a line that has begun
pub begun_replies : (auction_lines : AuctionLinesValue) → list_all is_within_line auction_lines.line ≡ true → replies_from auction_lines [] ≡ []
begun_replies auction_lines within = rw (append-nil auction_lines.line, lines_none auction_lines.line within) refl

-- and it adds no call
pub begun_calls : (auction_lines : AuctionLinesValue) → list_all is_within_line auction_lines.line ≡ true → calls_from auction_lines [] ≡ auction_lines.calls
begun_calls auction_lines within = rw (append-nil auction_lines.line, lines_none auction_lines.line within) refl

-- the replies to one piece more
pub piece_replies : (dealer : Seat) (given rest before written : Option (List ℕ)) (old new : AuctionLinesValue) (left : ℕ) (h : Heard dealer given rest before written old left) (piece text : List ℕ) → Answers old new piece text → replies_to [] (complete_lines (h.bytes ++ piece)) ≡ replies_to [] (complete_lines h.bytes) ++ text
piece_replies dealer given rest before written old new left h piece text answers =
    let whole : replies_from old piece ≡ text =
    ap (replies_from old) (sym (append-nil piece)) ∙ answers.replies [] ∙ ap (λ more. text ++ more) (begun_replies new answers.within)
    ∙ append-nil text in
    h.replies piece ∙ ap (λ more. replies_to [] (complete_lines h.bytes) ++ more) whole

-- the replies to the bytes after one piece more
pub more_replies : (dealer : Seat) (given rest before written : Option (List ℕ)) (old new : AuctionLinesValue) (left : ℕ) (h : Heard dealer given rest before written old left) (piece text : List ℕ) → Answers old new piece text → (more : List ℕ) → replies_to [] (complete_lines ((h.bytes ++ piece) ++ more)) ≡ replies_to [] (complete_lines (h.bytes ++ piece)) ++ replies_from new more
more_replies dealer given rest before written old new left h piece text answers more =
    let replied = piece_replies dealer given rest before written old new left h piece text answers in
    rw (append_assoc h.bytes piece more, replied, h.replies (piece ++ more), answers.replies more)
    (sym (append_assoc (replies_to [] (complete_lines h.bytes)) text (replies_from new more)))

-- one piece more was heard
pub heard_piece : (dealer : Seat) (given rest rest' before written written' : Option (List ℕ)) (old new : AuctionLinesValue) (left left' : ℕ) (h : Heard dealer given rest before written old left) (piece text : List ℕ) → length piece + left' ≡ left → Consumes rest rest' piece → Answers old new piece text → Appends written written' text → Heard dealer given rest' before written' new left'
heard_piece dealer given rest rest' before written written' old new left left' h piece text count consumed answers appended =
    let replied = piece_replies dealer given rest before written old new left h piece text answers in
    record {
      bytes = h.bytes ++ piece;
      count = omega (arith, h.count, count, length-append h.bytes piece);
      consumed = Consumes-trans given rest rest' h.bytes piece h.consumed consumed;
      appended = rw replied (Appends-trans before written written' (replies_to [] (complete_lines h.bytes)) text h.appended appended);
      replies = more_replies dealer given rest before written old new left h piece text answers;
      calls = λ more. rw (append_assoc h.bytes piece more) (h.calls (piece ++ more) ∙ answers.calls more);
      dealt = answers.dealer ∙ h.dealt;
      within = answers.within;
    }

-- a prefix of the replies to the bytes read is a prefix of the whole output, where the bytes given are known
prefix_of_whole : (dealer : Seat) (given rest before written : Option (List ℕ)) (auction_lines : AuctionLinesValue) (bytes : List ℕ) → length bytes ≤ byte_limit → Consumes given rest bytes → ((more : List ℕ) → replies_to [] (complete_lines (bytes ++ more)) ≡ replies_to [] (complete_lines bytes) ++ replies_from auction_lines more) → TakesPrefix (between before written) (replies_to [] (complete_lines bytes)) → IfSome given (λ input. TakesPrefix (between before written) (auction_output dealer input))
prefix_of_whole dealer None rest before written auction_lines bytes room consumed replies prefix = tt
prefix_of_whole dealer (Some input) None before written auction_lines bytes room consumed replies prefix = absurd consumed
prefix_of_whole dealer (Some input) (Some rest) before written auction_lines bytes room consumed replies prefix =
    let more : List ℕ = take (byte_limit - length bytes) rest in
    let all : List ℕ = bytes ++ more in
    let last : List ℕ = limit_notice (nat_le byte_limit (length all)) ++ ending dealer (calls_after [] (complete_lines all)) in
    let count : byte_limit ≡ length bytes + (byte_limit - length bytes) = omega (arith, room) in
    let taken : take byte_limit input ≡ all =
    ap (take byte_limit) consumed ∙ ap (λ most. take most (bytes ++ rest)) count ∙ take-append-add bytes rest (byte_limit - length bytes) in
    let replied = prefix_longer before written (replies_to [] (complete_lines bytes)) (replies_from auction_lines more) prefix in
    rw (taken, replies more) (prefix_longer before written (replies_to [] (complete_lines bytes) ++ replies_from auction_lines more) last replied)

-- a write fault at the replies to one piece more
pub stops_at_piece : (dealer : Seat) (given rest rest' before written written' : Option (List ℕ)) (old new : AuctionLinesValue) (left : ℕ) → Heard dealer given rest before written old left → (piece text : List ℕ) → length piece ≤ left → Consumes rest rest' piece → Answers old new piece text → TakesPrefix (between written written') text → StopsAt dealer (between given rest') (between before written') Write
stops_at_piece dealer given rest rest' before written written' old new left h piece text room consumed answers prefix =
    let bytes : List ℕ = h.bytes ++ piece in
    let last : List ℕ = limit_notice (nat_le byte_limit (length bytes)) ++ ending dealer (calls_after [] (complete_lines bytes)) in
    let few : length bytes ≤ byte_limit = omega (arith, h.count, room, length-append h.bytes piece) in
    let all_consumed = Consumes-trans given rest rest' h.bytes piece h.consumed consumed in
    let replied : TakesPrefix (between before written') (replies_to [] (complete_lines bytes)) =
    rw (piece_replies dealer given rest before written old new left h piece text answers)
    (takes_prefix before written written' (replies_to [] (complete_lines h.bytes)) text h.appended prefix) in (
      bytes,
      few,
      all_consumed,
      prefix_longer before written' (replies_to [] (complete_lines bytes)) last replied,
      prefix_of_whole dealer given rest' before written' new bytes few all_consumed
          (more_replies dealer given rest before written old new left h piece text answers) replied,
    )

-- what the limit says of the bytes heard
at_limit : (count left : ℕ) → count + left ≡ 65536 → nat_le byte_limit count ≡ nat_eq left 0
at_limit count zero sum = le-leb 65536 count (omega arith)
at_limit count (suc left) sum = lt-leb 65536 count (omega arith) ∙ sym (ne_eqb (suc left) 0 (λ none. omega arith))

-- the output for what was heard
output_heard : (dealer : Seat) (given rest before written : Option (List ℕ)) (auction_lines : AuctionLinesValue) (left : ℕ) (h : Heard dealer given rest before written auction_lines left) → output_for dealer h.bytes ≡ replies_to [] (complete_lines h.bytes) ++ (limit_notice (nat_eq left 0) ++ ending auction_lines.dealer auction_lines.calls)
output_heard dealer given rest before written auction_lines left h =
    let called : calls_after [] (complete_lines h.bytes) ≡ auction_lines.calls =
    ap (λ bytes. calls_after [] (complete_lines bytes)) (sym (append-nil h.bytes)) ∙ h.calls [] ∙ begun_calls auction_lines h.within in
    rw (called, at_limit (length h.bytes) left h.count, h.dealt) refl

-- all that is read of the input was heard, where the limit was reached or the input is at its end
heard_all : (dealer : Seat) (input : List ℕ) (rest before written : Option (List ℕ)) (auction_lines : AuctionLinesValue) (left : ℕ) (h : Heard dealer (Some input) rest before written auction_lines left) → (0 < left → IsAtEnd rest) → take byte_limit input ≡ h.bytes
heard_all dealer input None before written auction_lines left h end = absurd h.consumed
heard_all dealer input (Some bytes) before written auction_lines zero h end =
    let whole : length h.bytes ≡ byte_limit = omega (arith, h.count) in
    ap (take byte_limit) h.consumed ∙ take_at h.bytes bytes byte_limit whole
heard_all dealer input (Some bytes) before written auction_lines (suc left) h end =
    let all : input ≡ h.bytes = h.consumed ∙ ap (λ more. h.bytes ++ more) (end (omega arith)) ∙ append-nil h.bytes in
    ap (take byte_limit) all ∙ take_all byte_limit h.bytes (omega (arith, h.count))

-- a prefix of the output for what was heard is a prefix of the whole output, where all that is read was heard
prefix_at_end : (dealer : Seat) (given rest before written written' : Option (List ℕ)) (auction_lines : AuctionLinesValue) (left : ℕ) (h : Heard dealer given rest before written auction_lines left) → (0 < left → IsAtEnd rest) → TakesPrefix (between before written') (output_for dealer h.bytes) → IfSome given (λ input. TakesPrefix (between before written') (auction_output dealer input))
prefix_at_end dealer None rest before written written' auction_lines left h end prefix = tt
prefix_at_end dealer (Some input) rest before written written' auction_lines left h end prefix =
    rw (heard_all dealer input rest before written auction_lines left h end) prefix

-- a write fault at the last line
pub stops_at_end : (dealer : Seat) (given rest before written written' : Option (List ℕ)) (auction_lines : AuctionLinesValue) (left : ℕ) → Heard dealer given rest before written auction_lines left → (0 < left → IsAtEnd rest) → TakesPrefix (between written written') (limit_notice (nat_eq left 0) ++ ending auction_lines.dealer auction_lines.calls) → StopsAt dealer (between given rest) (between before written') Write
stops_at_end dealer given rest before written written' auction_lines left h end prefix =
    let written_prefix : TakesPrefix (between before written') (output_for dealer h.bytes) =
    rw (output_heard dealer given rest before written auction_lines left h)
    (takes_prefix before written written' (replies_to [] (complete_lines h.bytes)) (limit_notice (nat_eq left 0) ++ ending auction_lines.dealer auction_lines.calls) h.appended prefix) in (
      h.bytes,
      omega (arith, h.count),
      h.consumed,
      written_prefix,
      prefix_at_end dealer given rest before written written' auction_lines left h end written_prefix,
    )

-- the whole output was written
pub ends_well : (dealer : Seat) (given rest before written written' : Option (List ℕ)) (auction_lines : AuctionLinesValue) (left : ℕ) → Heard dealer given rest before written auction_lines left → (0 < left → IsAtEnd rest) → Appends written written' (limit_notice (nat_eq left 0) ++ ending auction_lines.dealer auction_lines.calls) → IfSome given (λ input. Appends before written' (auction_output dealer input) × Consumes given rest (take byte_limit input))
ends_well dealer None rest before written written' auction_lines left h end appended = tt
ends_well dealer (Some input) rest before written written' auction_lines left h end appended =
    let heard = heard_all dealer input rest before written auction_lines left h end in (
      rw (heard, output_heard dealer (Some input) rest before written auction_lines left h)
          (Appends-trans before written written' (replies_to [] (complete_lines h.bytes)) (limit_notice (nat_eq left 0) ++ ending auction_lines.dealer auction_lines.calls) h.appended appended),
      rw heard h.consumed,
    )

-- what holds once the last line was written, or a prefix of it
pub ended : (dealer : Seat) (given rest before written written' : Option (List ℕ)) (auction_lines : AuctionLinesValue) (left : ℕ) (result : Result (Unit {0}) ServeFault) → Heard dealer given rest before written auction_lines left → (0 < left → IsAtEnd rest) → Written (between written written') (limit_notice (nat_eq left 0) ++ ending auction_lines.dealer auction_lines.calls) result → IfErr result (λ fault. fault ≡ Write) → OnOk result (IfSome given (λ input. Appends before written' (auction_output dealer input) × Consumes given rest (take byte_limit input))) × IfErr result (StopsAt dealer (between given rest) (between before written'))
ended dealer given rest before written written' auction_lines left (Ok u) h end appended named =
    (ends_well dealer given rest before written written' auction_lines left h end appended, tt)
ended dealer given rest before written written' auction_lines left (Err fault) h end prefix named =
    (tt, rw named (stops_at_end dealer given rest before written written' auction_lines left h end prefix))
