-- The line that tells how far a work has come.
use Rattle.std.specs.Prelude.{ℕ, List, ◌++◌, codes}
use Rattle.std.specs.Fmt.{decimal}
use Rattle.makeable_deals.specs.declared.progress.Part.{Part}
use Rattle.makeable_deals.specs.declared.progress.Part.TheVariants.{Board, Play}

-- what stands before the number, behind a carriage return
abbrev pub part_text : Part → List ℕ
part_text Board = codes "\rboard "
part_text Play = codes "\rplay "

-- what is worked on, and how many there are, as `board 7 of 27`
abbrev pub progress_text : Part → ℕ → ℕ → List ℕ
progress_text part number count = ((part_text part ++ decimal number) ++ codes " of ") ++ decimal count
