-- The line on standard error that names a fault.
use Rattle.std.specs.Prelude.{ℕ, List, ◌++◌, codes}
use Rattle.std.specs.Fmt.{decimal}
use Rattle.makeable_deals.specs.declared.file.MakeableFault.{MakeableFault}
use Rattle.makeable_deals.specs.declared.file.MakeableFault.TheVariants.{Read, Write, LongText, Deals}
use Rattle.makeable_deals.specs.declared.refused.DealsFault.{DealsFault}
use Rattle.makeable_deals.specs.declared.refused.DealsFault.TheVariants.{Line, Memory}
use Rattle.makeable_deals.specs.declared.refused.DealsRefused.{DealsRefused}
use Rattle.makeable_deals.specs.declared.refused.DealsRefused.TheVariants.{Board, Dealer, Vulnerable, Deal, NoBoard, TooManyLines}

-- the name of what is wrong with a line
abbrev pub refused_name : DealsRefused → List ℕ
refused_name Board = codes "Board"
refused_name Dealer = codes "Dealer"
refused_name Vulnerable = codes "Vulnerable"
refused_name Deal = codes "Deal"
refused_name NoBoard = codes "NoBoard"
refused_name TooManyLines = codes "TooManyLines"

-- of a line of the text its number and what is wrong with it, as `deals line 7: Deal`
abbrev pub deals_line : DealsFault → List ℕ
deals_line Memory = codes "no memory\n"
deals_line (Line number cause) = (((codes "deals line " ++ decimal number) ++ codes ": ") ++ refused_name cause) ++ codes "\n"

-- the line of a fault
abbrev pub makeable_line : MakeableFault → List ℕ
makeable_line Read = codes "cannot read input\n"
makeable_line Write = codes "cannot write output\n"
makeable_line LongText = codes "deals: LongText\n"
makeable_line (Deals fault) = deals_line fault
