-- The command line, in the words of clap.
use Rattle.std.specs.Prelude.{◌≡◌, ◌≢◌, ◌<◌, ◌⊎◌, map, length, ◌||◌, if◌then◌else◌, ℕ, Bool, List, [], ◌∷◌, Option, None, Some, Ok, IfOk, pos, true, false, codes, option_map}
use Rattle.std.specs.Borrow.{Bor}
use Rattle.std.specs.Str.Parse.{ParsesUnsigned}
use Rattle.std.specs.declared.num.ParseIntError.{ParseIntError}
use Rattle.arrayvec.specs.ArrayVec.{ArrayVec}
use Rattle.clap.specs.Words.{App, Row, Rule, Text, app_of, rule_of, new_app, new_rule, with_rule, with_subcommand, subcommand_of, one_of, first_of, all_of, fault_of}
use Rattle.clap.specs.declared.builder.arg.Arg.{Arg}
use Rattle.clap.specs.declared.builder.command.Command.{Command as clap_command}
use Rattle.clap.specs.declared.builder.command.Command.TheViews.{out-Command as fields_of}
use Rattle.clap.specs.declared.builder.action.ArgAction.TheVariants.{SetTrue}
use Rattle.clap.specs.declared.builder.value_parser.ValueParser.TheVariants as parser
use Rattle.command_line.specs.declared.declared.Declared.{Declared}
use Rattle.command_line.specs.declared.command.Command.{Command}
use Rattle.command_line.specs.declared.command.Command.TheVariants.{Auction, Format, Script, Correct, Serve, Web, Rank, Pbn, Results, Check, Plan, Draft, Slips, Evening, Makeable, Export, Event, Copy, Version}
use Rattle.command_line.specs.declared.command.EventAsked.{EventAsked}
use Rattle.command_line.specs.declared.command.EventAsked.TheVariants.{Page, Export as ForPrograms}
use Rattle.command_line.specs.declared.command.PageAsked.{PageAsked}
use Rattle.command_line.specs.declared.command.WebHost.{WebHost}
use Rattle.command_line.specs.declared.command.WebWords.{WebWords}
use Rattle.command_line.specs.declared.command.DraftWords.{DraftWords}
use Rattle.command_line.specs.declared.command.SlipWords.{SlipWords}
use Rattle.command_line.specs.declared.command.EveningWords.{EveningWords}
use Rattle.command_line.specs.declared.command.ExportAsked.{ExportAsked}
use Rattle.command_line.specs.declared.command.ExportAsked.TheVariants.{Plays, Rankings, Object, Games}
use Rattle.command_line.specs.declared.export_read.ExportFlags.{ExportFlags}
use Rattle.command_line.specs.declared.command.WordsFault.{WordsFault}
use Rattle.command_line.specs.declared.command.WordsFault.TheVariants.{Usage, Memory}

-- the names of the files of disks
abbrev pub DiskNames : Type 0
DiskNames = ArrayVec (Bor Text)

-- an argument of that name, which is required
abbrev pub required_rule : Text → Rule
required_rule name = record (new_rule name) { required = true }

-- an argument of that name, which is required: a number from 1 to that
abbrev pub number_rule : Text → ℕ → Rule
number_rule name last = record (required_rule name) { parser = Some (parser.Signed (pos 1) (pos last)) }

-- an option of that name, with a text that is not empty
abbrev pub option_rule : Text → Rule
option_rule name = record (new_rule name) { long = Some name; value_names = 1; parser = Some parser.NonEmptyString }

-- an option of that name, with that text where none is given
abbrev pub default_rule : Text → Text → Rule
default_rule name text = record (option_rule name) { defaults = text ∷ [] }

-- a flag of that name
abbrev pub flag_rule : Text → Rule
flag_rule name = record (new_rule name) { long = Some name; action = Some SetTrue }

-- a command with these arguments, one after another
abbrev pub with_rules : App → List Rule → App
with_rules app [] = app
with_rules app (rule ∷ more) = with_rules (with_rule app rule) more

-- an argument that is declared so, for its command alone
abbrev pub IsRuled : Rule → Arg → Type 0
IsRuled rule argument = (rule_of argument ≡ rule) × (argument.global ≡ false)

-- a command that is so, with no argument that others have too
abbrev pub IsApp : App → clap_command → Type 0
IsApp app command = (app_of command ≡ app) × ((fields_of command).has_globals ≡ false)

-- a command that is declared so, unless memory was refused
abbrev pub IsDeclared : App → Declared → Type 0
IsDeclared app declared = IfOk declared.command (IsApp app)

-- the argument BOARD, which is required: a number from 1 to 36
abbrev pub board_rule : Rule
board_rule = number_rule (codes "BOARD") 36

-- the command `auction BOARD`
abbrev pub auction_app : App
auction_app = with_rule (new_app (codes "auction")) board_rule

-- the argument DISK, which is required
abbrev pub disk_rule : Rule
disk_rule = required_rule (codes "DISK")

-- the argument DISK, which is required: one of them or up to 40
abbrev pub disks_rule : Rule
disks_rule = record disk_rule { range = Some (record { start_inclusive = 1; end_inclusive = 40 }) }

-- the argument CONFIG, which is required
abbrev pub config_rule : Rule
config_rule = required_rule (codes "CONFIG")

-- the command `format DISK CONFIG`
abbrev pub format_app : App
format_app = with_rule (with_rule (new_app (codes "format")) disk_rule) config_rule

-- a command with the argument DISK alone
abbrev pub disk_app : Text → App
disk_app name = with_rule (new_app name) disk_rule

-- the command `script DISK`
abbrev pub script_app : App
script_app = disk_app (codes "script")

-- the command `correct DISK`
abbrev pub correct_app : App
correct_app = disk_app (codes "correct")

-- the argument PORT, which is required: a number from 1 to 65535
abbrev pub port_rule : Rule
port_rule = number_rule (codes "PORT") 65535

-- the argument COUNT, which is required: a number from 1 to 1000
abbrev pub count_rule : Rule
count_rule = number_rule (codes "COUNT") 1000

-- the command `serve DISK PORT COUNT`
abbrev pub serve_app : App
serve_app = with_rule (with_rule (disk_app (codes "serve")) port_rule) count_rule

-- the argument MINUTES, which is required: a number from 1 to 1440
abbrev pub minutes_rule : Rule
minutes_rule = number_rule (codes "MINUTES") 1440

-- the option `--address IP`
abbrev pub address_rule : Rule
address_rule = option_rule (codes "address")

-- the option `--name HOST`
abbrev pub name_rule : Rule
name_rule = option_rule (codes "name")

-- the flag `--open-boards`
abbrev pub open_boards_rule : Rule
open_boards_rule = flag_rule (codes "open-boards")

-- the option `--names NAMES`
abbrev pub names_option_rule : Rule
names_option_rule = option_rule (codes "names")

-- the option `--copy DISK2`
abbrev pub copy_rule : Rule
copy_rule = option_rule (codes "copy")

-- the command `web DISK PORT MINUTES`, with the other options and that flag or without
abbrev pub web_app : App
web_app = with_rules (disk_app (codes "web"))
    (port_rule ∷ minutes_rule ∷ address_rule ∷ name_rule ∷ open_boards_rule ∷ names_option_rule ∷ copy_rule ∷ [])

-- the command `rank DISK`
abbrev pub rank_app : App
rank_app = disk_app (codes "rank")

-- the command `pbn DISK`
abbrev pub pbn_app : App
pbn_app = disk_app (codes "pbn")

-- the flag `--html`
abbrev pub html_rule : Rule
html_rule = flag_rule (codes "html")

-- the flag `--no-analysis`
abbrev pub no_analysis_rule : Rule
no_analysis_rule = flag_rule (codes "no-analysis")

-- a command with the argument DISK, once or several times
abbrev pub disks_app : Text → App
disks_app name = with_rule (new_app name) disks_rule

-- the command `results DISK..`, with those flags and that option or without
abbrev pub results_app : App
results_app = with_rule (with_rule (with_rule (disks_app (codes "results")) html_rule) no_analysis_rule) names_option_rule

-- the argument DISK2, which may be left out
abbrev pub other_disk_rule : Rule
other_disk_rule = new_rule (codes "DISK2")

-- the command `check DISK`, with a second disk or none
abbrev pub check_app : App
check_app = with_rule (disk_app (codes "check")) other_disk_rule

-- the command `plan CONFIG`, with that option or without
abbrev pub plan_app : App
plan_app = with_rule (with_rule (new_app (codes "plan")) config_rule) names_option_rule

-- the argument NAMES, which is required
abbrev pub names_rule : Rule
names_rule = required_rule (codes "NAMES")

-- the option `--movement NAME`
abbrev pub movement_rule : Rule
movement_rule = option_rule (codes "movement")

-- the option `--boards N`: a number from 1 to 36, and 24 where none is given
abbrev pub boards_rule : Rule
boards_rule = record (default_rule (codes "boards") (codes "24")) { parser = Some (parser.Signed (pos 1) (pos 36)) }

-- the option `--scoring NAME`, with `mp` where none is given
abbrev pub scoring_rule : Rule
scoring_rule = default_rule (codes "scoring") (codes "mp")

-- the option `--event TEXT`, with `Evening` where none is given
abbrev pub event_rule : Rule
event_rule = default_rule (codes "event") (codes "Evening")

-- the option `--site TEXT`, with `Club` where none is given
abbrev pub site_rule : Rule
site_rule = default_rule (codes "site") (codes "Club")

-- the option `--date DATE`
abbrev pub date_rule : Rule
date_rule = option_rule (codes "date")

-- the option `--seed HEX`
abbrev pub seed_rule : Rule
seed_rule = option_rule (codes "seed")

-- the options of `draft`
abbrev pub draft_rules : List Rule
draft_rules = movement_rule ∷ boards_rule ∷ scoring_rule ∷ event_rule ∷ site_rule ∷ date_rule ∷ seed_rule ∷ []

-- the command `draft NAMES`, with those options or without
abbrev pub draft_app : App
draft_app = with_rules (with_rule (new_app (codes "draft")) names_rule) draft_rules

-- the option `--address URL`
abbrev pub url_rule : Rule
url_rule = option_rule (codes "address")

-- the flag `--text`
abbrev pub text_rule : Rule
text_rule = flag_rule (codes "text")

-- the command `slips CONFIG`, with those options and that flag or without
abbrev pub slips_app : App
slips_app =
    with_rule (with_rule (with_rule (with_rule (new_app (codes "slips")) config_rule) names_option_rule) url_rule) text_rule

-- the command `evening NAMES DISK PORT MINUTES`, with the options of `draft` and those of `web` or without
abbrev pub evening_app : App
evening_app = with_rules (with_rules (with_rules (new_app (codes "evening"))
    (names_rule ∷ disk_rule ∷ port_rule ∷ minutes_rule ∷ [])) draft_rules) (address_rule ∷ name_rule ∷ open_boards_rule ∷ [])

-- the argument FILE, which is required
abbrev pub file_rule : Rule
file_rule = required_rule (codes "FILE")

-- the flag `--pbn`
abbrev pub pbn_rule : Rule
pbn_rule = flag_rule (codes "pbn")

-- the command `makeable FILE`, with that flag or without
abbrev pub makeable_app : App
makeable_app = with_rule (with_rule (new_app (codes "makeable")) file_rule) pbn_rule

-- the flag `--rankings`
abbrev pub rankings_rule : Rule
rankings_rule = flag_rule (codes "rankings")

-- the flag `--json`
abbrev pub json_rule : Rule
json_rule = flag_rule (codes "json")

-- the flag `--csv`
abbrev pub csv_rule : Rule
csv_rule = flag_rule (codes "csv")

-- the command `export DISK..`, with those flags, `--pbn` and `--no-analysis` or without
abbrev pub export_app : App
export_app =
    with_rules (disks_app (codes "export")) (csv_rule ∷ rankings_rule ∷ json_rule ∷ pbn_rule ∷ no_analysis_rule ∷ [])

-- the argument DISK2
abbrev pub second_disk_rule : Rule
second_disk_rule = required_rule (codes "DISK2")

-- the command `copy DISK DISK2`
abbrev pub copy_app : App
copy_app = with_rule (disk_app (codes "copy")) second_disk_rule

-- the command `version`
abbrev pub version_app : App
version_app = new_app (codes "version")

-- the program's name alone
abbrev pub named_app : App
named_app = new_app (codes "bridge_club")

-- its words come without its own name, and one of its commands is among them
abbrev pub bare_app : App
bare_app = record named_app { top = record named_app.top { no_binary_name = true; subcommand_required = true } }

-- the commands, in order
abbrev pub command_apps : List App
command_apps =
    auction_app ∷ format_app ∷ script_app ∷ serve_app ∷ web_app ∷ rank_app ∷ pbn_app ∷ results_app ∷ check_app ∷ plan_app
    ∷ correct_app ∷ draft_app ∷ slips_app ∷ evening_app ∷ makeable_app ∷ export_app ∷ copy_app ∷ version_app ∷ []

-- a program with these commands, one after another
abbrev pub with_commands : App → List App → App
with_commands app [] = app
with_commands app (command ∷ more) = with_commands (with_subcommand app command.top) more

-- the program: words without its own name, and one of its commands
abbrev pub club_app : App
club_app = with_commands bare_app command_apps

-- the argument of that name is this number of so many bits, in decimal digits
abbrev pub HasNumber : ℕ → List Row → Text → ℕ → Type 0
HasNumber bits rows id number =
    (text : Text) × (one_of id rows ≡ Some text) × ParsesUnsigned {E = ParseIntError} bits 10 text (Ok number)

-- the argument of that name is this text
abbrev pub HasText : List Row → Text → Text → Type 0
HasText rows id text = first_of id rows ≡ Some text

-- the argument DISK is these texts, in their order
abbrev pub HasDisks : List Row → List Text → Type 0
HasDisks rows disks = all_of (codes "DISK") rows ≡ Some disks

-- it is given several times
abbrev pub HasSeveral : List Row → DiskNames → Type 0
HasSeveral rows disks = HasDisks rows (map (λ disk. disk.now) disks.items) × (1 < length disks.items)

-- the flag of that name is given, or it is not
abbrev pub HasFlag : List Row → Text → Bool → Type 0
HasFlag rows id flag = (one_of id rows ≡ Some (codes "true") → flag ≡ true)
    × (one_of id rows ≡ Some (codes "false") → flag ≡ false) × (one_of id rows ≡ None → flag ≡ false)

-- the option of that name has this text, or is not given
abbrev pub HasOption : List Row → Text → Option (Bor Text) → Type 0
HasOption rows id text = first_of id rows ≡ option_map (λ t. t.now) text

-- the port, the options that are given, and the flag
abbrev pub HasHost : List Row → WebHost → Type 0
HasHost rows host = HasNumber 16 rows (codes "PORT") host.port
    × HasOption rows (codes "address") host.address × HasOption rows (codes "name") host.name
    × HasFlag rows (codes "open-boards") host.open_boards

-- the options of `draft`
abbrev pub HasWishes : List Row → DraftWords → Type 0
HasWishes rows wishes = HasOption rows (codes "movement") wishes.movement
    × HasNumber 8 rows (codes "boards") wishes.boards × HasText rows (codes "scoring") wishes.scoring.now
    × HasText rows (codes "event") wishes.event.now × HasText rows (codes "site") wishes.site.now
    × HasOption rows (codes "date") wishes.date × HasOption rows (codes "seed") wishes.seed

-- the options of `slips`
abbrev pub HasSlips : List Row → SlipWords → Type 0
HasSlips rows slips = HasOption rows (codes "names") slips.names
    × HasOption rows (codes "address") slips.address × HasFlag rows (codes "text") slips.text

-- the port, the minutes and the options of `web`
abbrev pub HasPages : List Row → WebWords → Type 0
HasPages rows pages = HasHost rows pages.host × HasNumber 16 rows (codes "MINUTES") pages.minutes × HasOption rows (codes "names") pages.names
    × HasOption rows (codes "copy") pages.copy

-- the list, the disk, the options of `draft`, and the arguments of `web`
abbrev pub HasEvening : List Row → EveningWords → Type 0
HasEvening rows words = HasText rows (codes "NAMES") words.names.now × HasText rows (codes "DISK") words.disk.now
    × HasWishes rows words.wishes × HasHost rows words.host × HasNumber 16 rows (codes "MINUTES") words.minutes

-- the flags of `export` that are given
abbrev pub HasFlags : List Row → ExportFlags → Type 0
HasFlags rows flags = HasFlag rows (codes "csv") flags.csv × HasFlag rows (codes "json") flags.json × HasFlag rows (codes "pbn") flags.pbn
    × HasFlag rows (codes "rankings") flags.rankings × HasFlag rows (codes "no-analysis") flags.no_analysis

-- rankings or plays
abbrev pub values_asked : Bool → ExportAsked
values_asked rankings = if rankings then Rankings else Plays

-- what they ask for, by `--json` and `--pbn`: each of these excludes the other, `--csv` and `--rankings`
abbrev pub form_asked : Bool → Bool → ExportFlags → Option ExportAsked
form_asked false false flags = Some (values_asked flags.rankings)
form_asked true false flags = if flags.csv || flags.rankings then None else Some Object
form_asked false true flags = if flags.csv || flags.rankings then None else Some (Games flags.no_analysis)
form_asked true true flags = None

-- what they ask for, if they do not exclude each other
abbrev pub export_asked : ExportFlags → Option ExportAsked
export_asked flags = form_asked flags.json flags.pbn flags

-- the flags that are given ask for this
abbrev pub HasExport : List Row → ExportAsked → Type 0
HasExport rows asked = (flags : ExportFlags) × HasFlags rows flags × (export_asked flags ≡ Some asked)

-- the flags that are given exclude each other
abbrev pub IsExcluded : List Row → Type 0
IsExcluded rows = (flags : ExportFlags) × HasFlags rows flags × (export_asked flags ≡ None)

-- the flags of `results` that are given
abbrev pub HasPage : List Row → PageAsked → Type 0
HasPage rows page = HasFlag rows (codes "html") page.html × HasFlag rows (codes "no-analysis") page.no_analysis

-- a list of names is given, and several disks
abbrev pub IsListOfSeveral : List Row → Type 0
IsListOfSeveral rows = (disks : DiskNames) × (names : Bor Text) × HasSeveral rows disks × HasOption rows (codes "names") (Some names)

-- what is asked for of several disks: a page, without a list of names; or what the flags of `export` ask for
abbrev pub HasEvent : List Row → EventAsked → Type 0
HasEvent rows (Page page) = HasPage rows page × HasOption rows (codes "names") None
HasEvent rows (ForPrograms asked) = HasExport rows asked

-- the arguments are those of a command
abbrev pub HasWords : List Row → Command → Type 0
HasWords rows (Auction board) = HasNumber 8 rows (codes "BOARD") board
HasWords rows (Format disk config) = HasText rows (codes "DISK") disk.now × HasText rows (codes "CONFIG") config.now
HasWords rows (Script disk) = HasText rows (codes "DISK") disk.now
HasWords rows (Correct disk) = HasText rows (codes "DISK") disk.now
HasWords rows (Serve disk port count) = HasText rows (codes "DISK") disk.now
    × HasNumber 16 rows (codes "PORT") port × HasNumber 16 rows (codes "COUNT") count
HasWords rows (Web disk pages) = HasText rows (codes "DISK") disk.now × HasPages rows pages
HasWords rows (Rank disk) = HasText rows (codes "DISK") disk.now
HasWords rows (Pbn disk) = HasText rows (codes "DISK") disk.now
HasWords rows (Results disk page names) = HasDisks rows (disk.now ∷ []) × HasPage rows page × HasOption rows (codes "names") names
HasWords rows (Check disk copy) = HasText rows (codes "DISK") disk.now × HasOption rows (codes "DISK2") copy
HasWords rows (Plan config names) = HasText rows (codes "CONFIG") config.now × HasOption rows (codes "names") names
HasWords rows (Draft names wishes) = HasText rows (codes "NAMES") names.now × HasWishes rows wishes
HasWords rows (Slips config slips) = HasText rows (codes "CONFIG") config.now × HasSlips rows slips
HasWords rows (Evening words) = HasEvening rows words
HasWords rows (Makeable file pbn) = HasText rows (codes "FILE") file.now × HasFlag rows (codes "pbn") pbn
HasWords rows (Export disk asked) = HasDisks rows (disk.now ∷ []) × HasExport rows asked
HasWords rows (Event disks asked) = HasSeveral rows disks × HasEvent rows asked
HasWords rows (Copy disk copy) = HasText rows (codes "DISK") disk.now × HasText rows (codes "DISK2") copy.now
HasWords rows Version = Unit {0}

-- the command by whose name it is asked for
abbrev pub event_name : EventAsked → Text
event_name (Page page) = codes "results"
event_name (ForPrograms asked) = codes "export"

-- the name of a command
abbrev pub name_of : Command → Text
name_of (Auction board) = codes "auction"
name_of (Format disk config) = codes "format"
name_of (Script disk) = codes "script"
name_of (Correct disk) = codes "correct"
name_of (Serve disk port count) = codes "serve"
name_of (Web disk pages) = codes "web"
name_of (Rank disk) = codes "rank"
name_of (Pbn disk) = codes "pbn"
name_of (Results disk page names) = codes "results"
name_of (Check disk copy) = codes "check"
name_of (Plan config names) = codes "plan"
name_of (Draft names wishes) = codes "draft"
name_of (Slips config slips) = codes "slips"
name_of (Evening words) = codes "evening"
name_of (Makeable file pbn) = codes "makeable"
name_of (Export disk asked) = codes "export"
name_of (Event disks asked) = event_name asked
name_of (Copy disk copy) = codes "copy"
name_of Version = codes "version"

-- the command of that name, with these arguments
abbrev pub IsNamed : Text → List Row → Command → Type 0
IsNamed name rows command = (name ≡ name_of command) × HasWords rows command

-- a subcommand's name and its arguments are those of a command
abbrev pub IsCommand : Option (Text × List Row) → Command → Type 0
IsCommand None command = ⊥
IsCommand (Some named) command = IsNamed named.0 named.1 command

-- clap finds no fault in the texts, and they are the words of the command
abbrev pub AsksCommand : List Text → Command → Type 0
AsksCommand texts words = (fault_of club_app texts ≡ []) × IsCommand (subcommand_of club_app texts) words

-- the command is `export`, and its flags exclude each other; or `results`, of several disks with a list of names
abbrev pub HasConflict : Option (Text × List Row) → Type 0
HasConflict None = ⊥
HasConflict (Some named) = ((named.0 ≡ codes "export") × IsExcluded named.1) ⊎ ((named.0 ≡ codes "results") × IsListOfSeveral named.1)

-- why a subcommand and its arguments are no command: they exclude each other, or memory was refused
abbrev pub IsUnasked : Option (Text × List Row) → WordsFault → Type 0
IsUnasked named (Usage error) = HasConflict named
IsUnasked named Memory = Unit {0}

-- clap finds a fault in the texts, or words of `export` or `results` exclude each other
abbrev pub AreRefused : List Text → Type 0
AreRefused texts = (fault_of club_app texts ≢ []) ⊎ HasConflict (subcommand_of club_app texts)

-- the texts are refused, or memory was
abbrev pub IsRefusedBy : List Text → WordsFault → Type 0
IsRefusedBy texts (Usage error) = AreRefused texts
IsRefusedBy texts Memory = Unit {0}
