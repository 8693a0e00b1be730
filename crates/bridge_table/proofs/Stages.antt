-- How far the current play is, by what each test found.
use Rattle.std.proofs.Common.{◌≡◌, ℕ, List, Option, Some, None, Result, Ok, refl}
use Rattle.bridge_cards.specs.declared.seat.Seat.{Seat}
use Rattle.bridge_auction.specs.declared.contract.Contract.{Contract}
use Rattle.session_rules.specs.declared.refused.Refused.{Refused}
use Rattle.session_rules.specs.declared.stage.Stage.{Stage}
use Rattle.bridge_config.specs.Then.{◌>>=◌}
use Rattle.session_rules.specs.Record.{PlainRecord, contract_in, play_of}
use Rattle.session_rules.specs.See.{shown_of}
use Rattle.session_rules.specs.Stage.{stage_of}
use Rattle.session_rules.specs.State.{Deals}
use Rattle.session_rules.proofs.Shown.{shown_current, shown_dealt}
use Rattle.bridge_table.specs.Stage.{stage_kept}

-- the stage of the record that was found, if one was
abbrev pub stage_current : Deals → Seat → ℕ → Option PlainRecord → Result Stage Refused
stage_current deals seat index found = shown_current deals seat index found >>= (λ shown. Ok (stage_of seat shown))

-- the stage in the deal that was found, if one was
abbrev pub stage_dealt : Seat → ℕ → PlainRecord → Option (List ℕ) → Result Stage Refused
stage_dealt seat index plain deal = shown_dealt seat index plain deal >>= (λ shown. Ok (stage_of seat shown))

-- the stage of what is shown is that of the play of the hands
stage_by_contract : (index : ℕ) (seat : Seat) (hands : List ℕ) (plain : PlainRecord) (contract : Option Contract) → contract_in plain ≡ contract → stage_of seat (shown_of index seat hands plain) ≡ stage_kept seat (play_of hands plain)
stage_by_contract index seat hands plain None is = rw is refl
stage_by_contract index seat hands plain (Some contract) is = rw is refl

pub stage_is : (index : ℕ) (seat : Seat) (hands : List ℕ) (plain : PlainRecord) → stage_of seat (shown_of index seat hands plain) ≡ stage_kept seat (play_of hands plain)
stage_is index seat hands plain = stage_by_contract index seat hands plain (contract_in plain) refl
