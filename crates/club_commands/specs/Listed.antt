-- Commands with a list of names in place of the configuration's, or without.
use Rattle.std.specs.Prelude.{◌≡◌, ℕ, List, Option, None, Some, Result, Ok, Err}
use Rattle.bridge_results.specs.ShownPairs.{Names}
use Rattle.club_commands.specs.Basis.{Bor, Stream, IsUntouched}
use Rattle.club_commands.specs.Ended.{Ended}
use Rattle.club_commands.specs.Evenings.{EndsAs}
use Rattle.evening_commands.specs.Evenings.{ListOf}
use Rattle.evening_commands.specs.Fault.{Made, WritesAndStops, fault_words}
use Rattle.evening_commands.specs.TextFile.{OfFile}
use Rattle.evening_commands.specs.declared.fault.EveningFault.{EveningFault}
use Rattle.evening_draft.specs.declared.wishes.PairNames.{PairNames}

-- what is wrong with a list is written, and that is the fault
abbrev pub RefusesList : EveningFault → Stream → Ended → Type 0
RefusesList fault output ended = (made : Made) × WritesAndStops output (fault_words fault) fault made × EndsAs made ended

-- over what is done with names, from what is read to what is written and how it ended
module _ (Does : Names → Stream → Stream → Ended → Type 0) where
  -- it is done with the names of a list; or what is wrong with the list is the fault
  abbrev pub OverList : Result (List PairNames) EveningFault → Stream → Stream → Ended → Type 0
  OverList (Ok names) input output ended = (shown : Bor (List PairNames)) × (shown.now ≡ names) × Does (Some shown) input output ended
  OverList (Err fault) input output ended = RefusesList fault output ended × IsUntouched input

  -- it is done with the names of a list where one was read, and without any otherwise
  abbrev pub WhereFound : Result (List PairNames) EveningFault → Stream → Stream → Ended → Type 0
  WhereFound (Ok names) input output ended = (shown : Bor (List PairNames)) × (shown.now ≡ names) × Does (Some shown) input output ended
  WhereFound (Err fault) input output ended = Does None input output ended

  -- the same of the list in a file
  abbrev pub WhereListed : Stream → Stream → Ended → Type 0
  WhereListed input output ended =
      (found : Result (List PairNames) EveningFault) × OfFile (ListOf found) × WhereFound found input output ended

  -- with the names of the list in a file, or without any where no file is named
  abbrev pub WithList : Option (Bor (List ℕ)) → Stream → Stream → Ended → Type 0
  WithList None input output ended = Does None input output ended
  WithList (Some file) input output ended =
      (found : Result (List PairNames) EveningFault) × OfFile (ListOf found) × OverList found input output ended
