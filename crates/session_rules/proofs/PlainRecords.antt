-- Plain records and deals, before and after a change.
use Rattle.std.proofs.Common.{◌≡◌, ℕ, cond, List, Option, None, refl, sym, ap, ◌∙◌, false, ◌≢◌, ◌-◌, get_or-set_other}
use Rattle.std.specs.Prelude.{slice_set, option_and_then}
use Rattle.std.proofs.lemmas.Option.{unwrap_or-slice_get}
use Rattle.bridge_cards.specs.declared.seat.Seat.{Seat}
use Rattle.session_rules.specs.declared.deed.Deed.{Deed}
use Rattle.session_rules.specs.declared.deed.Deed.TheVariants as deed
use Rattle.session_rules.specs.Deed.{with_deed}
use Rattle.session_rules.specs.Record.{PlainRecord}
use Rattle.session_rules.specs.State.{deal_on}
use Rattle.bridge_auction.specs.declared.call.Call.{Call}
use Rattle.bridge_auction.specs.Call.{is_bid}
use Rattle.bridge_auction.specs.Contract.{contract_of, contract_at}
use Rattle.bridge_auction.specs.Legal.{is_ended, last_index}

-- there is no contract while the auction is open
pub no_contract : (dealer : Seat) (calls : List Call) → is_ended calls ≡ false → contract_of dealer calls ≡ None
no_contract dealer calls open_auction =
    ap (λ ended. cond ended (option_and_then (contract_at dealer calls) (last_index is_bid calls)) None) open_auction

-- the deals of other boards stay
pub other_deal : (deals : List (Option (List ℕ))) (board other : ℕ) (deal : Option (List ℕ)) → other - 1 ≢ board - 1 → deal_on (slice_set deals (board - 1) deal) other ≡ deal_on deals other
other_deal deals board other deal apart =
    unwrap_or-slice_get (slice_set deals (board - 1) deal) (other - 1) None
    ∙ get_or-set_other deals (board - 1) (other - 1) deal None apart
    ∙ sym (unwrap_or-slice_get deals (other - 1) None)

-- what a player does is on the same board
pub deed_board : (seat : Seat) (deed : Deed) (plain : PlainRecord) → (with_deed seat deed plain).board ≡ plain.board
deed_board seat (deed.Call call) plain = refl
deed_board seat (deed.Card card) plain = refl
deed_board seat (deed.Claim tricks) plain = refl
deed_board seat deed.Agree plain = refl
deed_board seat deed.Refuse plain = refl
