-- What is kept of lines, as bytes are added to a line that has begun.
use Rattle.std.proofs.Common.{◌≡◌, ℕ, ◌≤◌, true, false, List, [], ◌∷◌, ◌++◌, length, take, map, refl, sym, ap, append_assoc}
use Rattle.std.specs.Prelude.{nat_eq}
use Rattle.std.specs.List.{list_all}
use Rattle.line_text.specs.Lines.{onto_first_line, complete_lines, is_within_line}
use Rattle.line_text.proofs.CompleteLines.{joined_first, lines_begun, lines_seam}
use Rattle.line_replies.specs.LineFeed.{kept_lines}
use Rattle.std.proofs.lemmas.List.{take-append-le, take_all}

-- a line feed completes the line that has begun
pub kept_seam : (line rest : List ℕ) → list_all is_within_line line ≡ true → length line ≤ 129 → kept_lines (line ++ 10 ∷ rest) ≡ line ∷ kept_lines rest
kept_seam line rest within short = rw (lines_seam line rest within, take_all 129 line short) refl

-- what is full stays the same with a further byte
full_first : (begun : List ℕ) (byte : ℕ) (lines : List (List ℕ)) → 129 ≤ length begun → map (take 129) (joined_first begun (onto_first_line byte lines)) ≡ map (take 129) (joined_first begun lines)
full_first begun byte [] full = refl
full_first begun byte (line ∷ lines) full =
    rw (take-append-le 129 begun (byte ∷ line) full, take-append-le 129 begun line full) refl

-- a further byte of a line of which all is kept that is
pub kept_full : (begun rest : List ℕ) (byte : ℕ) → list_all is_within_line begun ≡ true → 129 ≤ length begun → nat_eq byte 10 ≡ false → kept_lines (begun ++ byte ∷ rest) ≡ kept_lines (begun ++ rest)
kept_full begun rest byte within full other =
    rw (lines_begun begun (byte ∷ rest) within, lines_begun begun rest within, other) (full_first begun byte (complete_lines rest) full)

-- a line feed: the line is given, and nothing has begun
pub kept_fed : (line cleared taken rest : List ℕ) (byte : ℕ) → list_all is_within_line line ≡ true → length line ≤ 129 → byte ≡ 10 → taken ≡ line → cleared ≡ [] → kept_lines (line ++ byte ∷ rest) ≡ taken ∷ kept_lines (cleared ++ rest)
kept_fed line cleared taken rest byte within short feed same empty = rw (feed, same, empty) (kept_seam line rest within short)

-- another byte goes onto the line
pub kept_pushed : (line longer rest : List ℕ) (byte : ℕ) → longer ≡ line ++ byte ∷ [] → kept_lines (line ++ byte ∷ rest) ≡ kept_lines (longer ++ rest)
kept_pushed line longer rest byte is = rw is (ap kept_lines (sym (append_assoc line (byte ∷ []) rest)))
