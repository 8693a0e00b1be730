-- A program that was declared.
use Rattle.std.proofs.Common.{◌≡◌, Result, Ok, Err, IfOk}
use Rattle.clap.specs.Words.{App, app_of}
use Rattle.clap.specs.declared.builder.command.Command.{Command}
use Rattle.command_line.specs.Words.{IsApp}

-- what a program is, without what is said of its arguments
pub app_alone : {E : Type 0} (result : Result Command E) (app : App) → IfOk result (IsApp app) → IfOk result (λ command. app_of command ≡ app)
app_alone (Ok command) app is = is.0
app_alone (Err _) app is = tt
