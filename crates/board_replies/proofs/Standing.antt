-- A ruling that a play shows stands on its record.
use Rattle.std.proofs.Common.{◌≡◌, ℕ, ◌==◌, Bool, true, false, cond, List, Option, Some, None, refl, sym, ap, ◌∙◌}
use Rattle.std.specs.Option.{option_map}
use Rattle.std.proofs.lemmas.Bool.{eq-eqb}
use Rattle.bridge_cards.specs.Seat.{side_of}
use Rattle.bridge_auction.specs.declared.contract.Contract.{Contract}
use Rattle.bridge_auction.specs.Legal.{is_ended}
use Rattle.bridge_play.specs.Play.{tricks_of}
use Rattle.session_rules.specs.declared.outcome.Outcome.TheVariants.{Unfinished, PassedOut, Played}
use Rattle.session_rules.specs.declared.ruling.Ruling.{Ruling}
use Rattle.session_rules.specs.declared.ruling.Ruling.TheVariants as ruling
use Rattle.session_rules.specs.Outcome.{outcome_by, outcome_of}
use Rattle.session_rules.specs.Record.{PlainRecord, contract_in, course_by, is_run, play_of, playing_in}
use Rattle.board_replies.specs.Rulings.{ruling_shown}

-- a play that was passed out, or is not finished, shows none
passed_shows : (ended : Bool) (made : Ruling) → ruling_shown (cond ended PassedOut Unfinished) None ≡ Some made → ◌≡◌ {A = Option Ruling} None (Some made)
passed_shows true made shown = shown
passed_shows false made shown = shown

-- nor does one that has the tricks that were made
made_shows : (hands : List ℕ) (plain : PlainRecord) (contract : Contract) (run : Bool) (made : Ruling)
    → ruling_shown (cond run (Played contract (tricks_of (playing_in hands plain contract) (side_of contract.declarer))) Unfinished) (Some (playing_in hands plain contract)) ≡ Some made
    → ◌≡◌ {A = Option Ruling} None (Some made)
made_shows hands plain contract false made shown = shown
made_shows hands plain contract true made shown =
    let tricks = tricks_of (playing_in hands plain contract) (side_of contract.declarer) in
    sym (ap (λ b. cond b None (Some (ruling.Tricks tricks))) (eq-eqb tricks tricks refl)) ∙ shown

-- a ruling of tricks shows itself, or nothing
tricks_show : (same : Bool) (tricks : ℕ) (made : Ruling) → cond same None (Some (ruling.Tricks tricks)) ≡ Some made → Some (ruling.Tricks tricks) ≡ Some made
tricks_show true tricks made shown = absurd cc
tricks_show false tricks made shown = shown

by_ruling : (hands : List ℕ) (plain : PlainRecord) (contract : Option Contract) (stands : Option Ruling) (made : Ruling)
    → ruling_shown (outcome_by plain.calls (option_map (course_by plain) contract) stands) (option_map (playing_in hands plain) contract) ≡ Some made → stands ≡ Some made
by_ruling hands plain None None made shown = passed_shows (is_ended plain.calls) made shown
by_ruling hands plain (Some contract) None made shown = made_shows hands plain contract (is_run (course_by plain contract)) made shown
by_ruling hands plain None (Some (ruling.Tricks tricks)) made shown = absurd cc
by_ruling hands plain (Some contract) (Some (ruling.Tricks tricks)) made shown =
    tricks_show (tricks == tricks_of (playing_in hands plain contract) (side_of contract.declarer)) tricks made shown
by_ruling hands plain contract (Some ruling.Void) made shown = shown
by_ruling hands plain contract (Some (ruling.Adjusted ns ew)) made shown = shown
by_ruling hands plain contract (Some (ruling.Assigned assigned tricks)) made shown = shown

pub shown_stands : (hands : List ℕ) (plain : PlainRecord) (made : Ruling) → ruling_shown (outcome_of plain) (play_of hands plain) ≡ Some made → plain.ruling ≡ Some made
shown_stands hands plain made shown = by_ruling hands plain (contract_in plain) plain.ruling made shown
