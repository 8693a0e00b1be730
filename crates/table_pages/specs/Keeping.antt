-- What is kept of the wish of a request.
use Rattle.std.specs.Prelude.{◌≡◌, ℕ, List, Option}
use Rattle.table_pages.specs.declared.pages.wishes.Wishes.{Wishes}
use Rattle.table_pages.specs.Waits.{waits_after}

-- the wish is that of the last request, and it is counted where there is one
abbrev pub Keeps : Option (List ℕ) → Wishes → Wishes → Type 0
Keeps wish old new = (new.wish ≡ wish) × (new.waits ≡ waits_after wish old.waits)
