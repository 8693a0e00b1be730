-- What clap says of the words.
use Rattle.std.proofs.Common.{◌≡◌, ◌∙◌, List, [], true, refl, sym, ap, subst, inl, inr}
use Rattle.clap.specs.Faults.{is_simple_and_free}
use Rattle.clap.specs.Kinds.{IsAmong, HasKind}
use Rattle.clap.specs.Simple.{is_simple, HasMatchesOf}
use Rattle.clap.specs.Values.{kind_of}
use Rattle.clap.specs.Words.{App, Text, fault_of, subcommand_of, subcommand_rows_of}
use Rattle.clap.specs.declared.error.Error.{Error}
use Rattle.clap.specs.declared.error.kind.ErrorKind.TheVariants.{OutOfMemory}
use Rattle.clap.specs.declared.parser.matches.ArgMatches.{ArgMatches}
use Rattle.command_line.specs.declared.command.Command.{Command}
use Rattle.command_line.specs.declared.command.WordsFault.{WordsFault}
use Rattle.command_line.specs.declared.command.WordsFault.TheVariants.{Usage, Memory}
use Rattle.command_line.specs.Words.{club_app, IsCommand, AsksCommand, HasConflict, IsUnasked, IsRefusedBy}

-- the program's command line is one whose matches and faults are known
simple : (app : App) → app ≡ club_app → is_simple app ≡ true
simple app is = subst (λ (a : App). is_simple a ≡ true) (sym is) refl

simple_and_free : (app : App) → app ≡ club_app → is_simple_and_free app ≡ true
simple_and_free app is = subst (λ (a : App). is_simple_and_free a ≡ true) (sym is) refl

-- a command that was matched is asked for
pub asks : (app : App) (texts : List Text) (matches : ArgMatches) (command : Command) → app ≡ club_app
    → (is_simple_and_free app ≡ true → fault_of app texts ≡ []) → HasMatchesOf app texts matches
    → IsCommand (subcommand_rows_of matches) command → AsksCommand texts command
asks app texts matches command is faultless matched named = (
  subst (λ (a : App). fault_of a texts ≡ []) is (faultless (simple_and_free app is)),
  subst (λ found. IsCommand found command)
      ((matched (simple app is)).1 ∙ ap (λ (a : App). subcommand_of a texts) is) named,
)

-- and words that it refuses, but for memory, have a fault
pub refuses : (app : App) (texts : List Text) (error : Error) → app ≡ club_app
    → (is_simple_and_free app ≡ true → HasKind (fault_of app texts) error) → (kind_of error ≡ OutOfMemory → ⊥)
    → fault_of club_app texts ≡ [] → ⊥
refuses app texts error is fails other none =
    elim (fails (simple_and_free app is)) [
      | inl memory ↦ other memory
      | inr among ↦ subst (IsAmong (kind_of error)) (ap (λ (a : App). fault_of a texts) is ∙ none) among
    ]

-- matches that name no command have flags that exclude each other, or memory was refused
pub unasked : (app : App) (texts : List Text) (matches : ArgMatches) (fault : WordsFault) → app ≡ club_app → HasMatchesOf app texts matches
    → IsUnasked (subcommand_rows_of matches) fault → IsRefusedBy texts fault
unasked app texts matches (Usage error) is matched conflict =
    inr (subst (λ found. HasConflict found) ((matched (simple app is)).1 ∙ ap (λ (a : App). subcommand_of a texts) is) conflict)
unasked app texts matches Memory is matched none = tt
