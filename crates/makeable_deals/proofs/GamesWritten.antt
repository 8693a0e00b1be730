-- The games of a text, line after line.
use Rattle.std.proofs.Common.{◌≡◌, ℕ, List, [], ◌∷◌, ◌++◌, Option, Result, Ok, IsErr, sym, subst}
use Rattle.std.proofs.KnownBytes.{Appends-nil}
use Rattle.line_text.specs.Streams.{between, Takes, TakesPrefix, Written}
use Rattle.page_layout.proofs.Walk.{then_written, failed_before}
use Rattle.makeable_deals.specs.declared.board_deal.BoardDeal.{BoardDeal}
use Rattle.makeable_deals.specs.declared.write.WriteFault.{WriteFault}
use Rattle.makeable_deals.specs.Games.{whole_line, tags_after, deals_after, games_text}

-- what is written of the lines that are left, after what was taken, is what is written of all
abbrev pub LeadsOn : Option (List ℕ) → Option (List ℕ) → List (List ℕ) → List BoardDeal → List (List ℕ) → List BoardDeal → Type 0
LeadsOn first now left due all deals =
    (last : Option (List ℕ)) (result : Result (Unit {0}) WriteFault) → Written (between now last) (games_text left due) result
    → Written (between first last) (games_text all deals) result

-- a line more, and what stands after it
pub line_written : (first now next : Option (List ℕ)) (line : List ℕ) (left texts all : List (List ℕ)) (due deals : List BoardDeal)
    → left ≡ line ∷ texts → Takes (between now next) (whole_line line ++ tags_after line due)
    → LeadsOn first now left due all deals → LeadsOn first next texts (deals_after line due) all deals
unfolding games_text
line_written first now next line left texts all due deals whole taken leads last result rest =
    leads last result (subst (λ (ls : List (List ℕ)). Written (between now last) (games_text ls due) result) (sym whole)
    (then_written now next last (whole_line line ++ tags_after line due) (games_text texts (deals_after line due)) result taken rest))

-- a line that failed
pub line_failed : (first now next : Option (List ℕ)) (line : List ℕ) (left texts all : List (List ℕ)) (due deals : List BoardDeal)
    (result : Result (Unit {0}) WriteFault) → IsErr result
    → left ≡ line ∷ texts → TakesPrefix (between now next) (whole_line line ++ tags_after line due)
    → LeadsOn first now left due all deals → Written (between first next) (games_text all deals) result
unfolding games_text
line_failed first now next line left texts all due deals result is whole taken leads =
    leads next result (subst (λ (ls : List (List ℕ)). Written (between now next) (games_text ls due) result) (sym whole)
    (failed_before now next (whole_line line ++ tags_after line due) (games_text texts (deals_after line due)) result is taken))

-- no line is left
pub all_written : (first now : Option (List ℕ)) (left all : List (List ℕ)) (due deals : List BoardDeal) → left ≡ []
    → LeadsOn first now left due all deals → Takes (between first now) (games_text all deals)
unfolding games_text
all_written first now left all due deals none leads =
    leads now (Ok tt) (subst (λ (ls : List (List ℕ)). Takes (between now now) (games_text ls due)) (sym none) (Appends-nil now))
