-- The replies to the lines of bytes, of which no more is kept than tells that a line is too long.
use Rattle.std.proofs.Common.{◌≡◌, ℕ, ◌∙◌, ◌≤◌, ◌<◌, ◌⊎◌, inl, inr, true, false, List, [], ◌∷◌, ◌++◌, length, leb, take, map, refl, sym, ap, arith, append_assoc}
use Rattle.std.proofs.lemmas.Bool.{le-leb}
use Rattle.std.proofs.lemmas.Bool.Decides.{leb_tells}
use Rattle.std.proofs.lemmas.List.{take_all, length-take}
use Rattle.bridge_auction.specs.declared.call.Call.{Call}
use Rattle.line_text.specs.Lines.{complete_lines, is_long}
use Rattle.line_replies.specs.declared.short_reply.ShortReply.{ShortReply}
use Rattle.line_replies.specs.LineFeed.{kept_lines}
use Rattle.auction_command.specs.Replies.{line_call, line_reply, calls_with, calls_after, replies_to}
use Rattle.line_replies.specs.ReplyTexts.{short_text}

-- whether a line is longer than what is kept of a line that is not too long
abbrev IsCut : List ℕ → Type 0
IsCut line = ((leb 129 (length line) ≡ true) × (129 ≤ length line)) ⊎ ((leb 129 (length line) ≡ false) × (length line < 129))

-- what is kept of a long line is long
long_kept : (line : List ℕ) → 129 ≤ length line → is_long (take 129 line) ≡ true
long_kept line long = le-leb 129 (length (take 129 line)) (omega (arith, length-take 129 line))

-- so what is kept of a line gets the same reply
kept_reply : (calls : List Call) (line : List ℕ) → IsCut line
    → line_reply calls (take 129 line) ≡ line_reply calls line
kept_reply calls line (inl long) = rw (long_kept line long.1, long.0) refl
kept_reply calls line (inr short) = ap (line_reply calls) (take_all 129 line (omega (arith, short.1)))

-- and makes the same call
kept_call : (line : List ℕ) → IsCut line → line_call (take 129 line) ≡ line_call line
kept_call line (inl long) = rw (long_kept line long.1, long.0) refl
kept_call line (inr short) = ap line_call (take_all 129 line (omega (arith, short.1)))

-- lines of which no more is kept get the same replies
replies_kept : (calls : List Call) (lines : List (List ℕ)) → replies_to calls (map (take 129) lines) ≡ replies_to calls lines
replies_kept calls [] = refl
replies_kept calls (line ∷ lines) =
    rw (kept_reply calls line (leb_tells 129 (length line)), kept_call line (leb_tells 129 (length line)))
    (ap (λ text. short_text (line_reply calls line) ++ text) (replies_kept (calls_with calls (line_call line)) lines))

-- and make the same calls
calls_kept : (calls : List Call) (lines : List (List ℕ)) → calls_after calls (map (take 129) lines) ≡ calls_after calls lines
calls_kept calls [] = refl
calls_kept calls (line ∷ lines) =
    ap (λ call. calls_after (calls_with calls call) (map (take 129) lines)) (kept_call line (leb_tells 129 (length line)))
    ∙ calls_kept (calls_with calls (line_call line)) lines

-- bytes that complete the same lines get the same replies
pub replies_same : (calls : List Call) (bytes same : List ℕ) → kept_lines bytes ≡ kept_lines same
    → replies_to calls (complete_lines bytes) ≡ replies_to calls (complete_lines same)
replies_same calls bytes same is =
    sym (replies_kept calls (complete_lines bytes)) ∙ (ap (replies_to calls) is ∙ replies_kept calls (complete_lines same))

-- and make the same calls
pub calls_same : (calls : List Call) (bytes same : List ℕ) → kept_lines bytes ≡ kept_lines same
    → calls_after calls (complete_lines bytes) ≡ calls_after calls (complete_lines same)
calls_same calls bytes same is =
    sym (calls_kept calls (complete_lines bytes)) ∙ (ap (calls_after calls) is ∙ calls_kept calls (complete_lines same))

-- a line is complete: the reply to it is written, and the rest stays to be written
pub replies_fed : (calls calls' : List Call) (bytes rest line slice out out' : List ℕ) (reply : ShortReply) → kept_lines bytes ≡ line ∷ kept_lines rest
    → slice ≡ line → reply ≡ line_reply calls slice → calls' ≡ calls_with calls (line_call slice) → out' ≡ out ++ short_text reply
    → out ++ replies_to calls (complete_lines bytes) ≡ out' ++ replies_to calls' (complete_lines rest)
replies_fed calls calls' bytes rest line slice out out' reply completes same replied called written =
    let whole : replies_to calls (complete_lines bytes) ≡ short_text (line_reply calls line) ++ replies_to (calls_with calls (line_call line)) (complete_lines rest)
    = sym (replies_kept calls (complete_lines bytes)) ∙ (ap (replies_to calls) completes
    ∙ ap (λ text. short_text (line_reply calls line) ++ text) (replies_kept (calls_with calls (line_call line)) (complete_lines rest))) in
    rw (written, called, replied, same, whole)
    (sym (append_assoc out (short_text (line_reply calls line)) (replies_to (calls_with calls (line_call line)) (complete_lines rest))))

-- and its call is made
pub calls_fed : (calls calls' : List Call) (bytes rest line slice : List ℕ) → kept_lines bytes ≡ line ∷ kept_lines rest → slice ≡ line
    → calls' ≡ calls_with calls (line_call slice) → calls_after calls (complete_lines bytes) ≡ calls_after calls' (complete_lines rest)
calls_fed calls calls' bytes rest line slice completes same called =
    rw (called, same)
    (sym (calls_kept calls (complete_lines bytes)) ∙ (ap (calls_after calls) completes
    ∙ calls_kept (calls_with calls (line_call line)) (complete_lines rest)))
