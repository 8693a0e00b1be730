use Rattle.std.proofs.Common.{◌∙◌, Ok, sym}
use Rattle.std.specs.Str.Parse.{ParsesUnsigned}
use Rattle.std.specs.declared.num.ParseIntError.{ParseIntError}
use Rattle.clap.proofs.WalkLemmas.{one_text-rows}
use Rattle.clap.specs.Words.{found_of, one_text}
use Rattle.command_line.proofs.Found.{text_read}
use Rattle.command_line.proofs.evening_read.small_of.Goals as goal

pub returns : goal.returns
returns c =
    let get = c.in_ok-number.ensures in
    let entries = found_of c.args.found.now in
    let read =
    text_read (λ text. ParsesUnsigned {E = ParseIntError} 8 10 text (Ok c.in_ok-number.number))
    (one_text entries c.args.name.now) c.in_ok-number.number get.none (λ text is. (get.value text is).0) in
    (read.0, sym (one_text-rows entries c.args.name.now) ∙ read.1, read.2)
