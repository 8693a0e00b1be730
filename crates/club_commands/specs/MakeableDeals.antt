-- How the command `makeable` ends.
use Rattle.std.specs.Prelude.{◌≡◌, Bool, if◌then◌else◌, Ok, Err}
use Rattle.makeable_deals.specs.declared.file.MakeableForm.{MakeableForm}
use Rattle.makeable_deals.specs.declared.file.MakeableForm.TheVariants.{Lines, Games}
use Rattle.makeable_deals.specs.Making.{Made, Makes, OfFile}
use Rattle.club_commands.specs.Basis.{Stream}
use Rattle.club_commands.specs.Ended.{Ended}
use Rattle.club_commands.specs.declared.fault.RunFault.TheVariants.{Makeable}

-- a run ended as that did, of which the fault is the run's
abbrev pub EndsAs : Made → Ended → Type 0
EndsAs (Ok _) ended = ended ≡ Ok tt
EndsAs (Err fault) ended = ended ≡ Err (Makeable fault)

-- what is written: with `--pbn` the games of the file
abbrev pub form_of : Bool → MakeableForm
form_of pbn = if pbn then Games else Lines

-- what the deals in a file could make is written
abbrev pub HasMade : Bool → Stream → Ended → Type 0
HasMade pbn output ended = (made : Made) × OfFile (Makes output made (form_of pbn)) × EndsAs made ended
