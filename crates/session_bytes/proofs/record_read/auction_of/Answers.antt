use Rattle.std.proofs.Common.{◌≡◌, ◌∙◌, map, ap, sym, subst}
use Rattle.bridge_auction.specs.Auction.{AuctionValue}
use Rattle.bridge_auction.specs.Call.{call_number}
use Rattle.bridge_auction.specs.Legal.{IsLegal}
use Rattle.session_bytes.proofs.ReadRecords.{numbers_are, calls_once, no_calls, if_none, if_some_then, none_if}
use Rattle.session_bytes.proofs.record_read.auction_of.Goals as goal

pub returns-in_err-calls-clause-none : goal.returns-in_err-calls-clause-none
returns-in_err-calls-clause-none c =
    if_none c.from_residual.result _ (λ calls legal undealt. no_calls c.args.numbers.now c.in_err-calls.ensures.none calls legal)

pub returns-clause-calls : goal.returns-clause-calls
returns-clause-calls c =
    if_some_then _ (λ (auction : AuctionValue). map call_number auction.calls ≡ c.args.numbers.now) c.from_calls.result c.from_calls.ensures.auction
    (λ auction is. ap (λ (a : AuctionValue). map call_number a.calls) is ∙ ap (map call_number) c.as_slice.ensures.value
    ∙ numbers_are c.in_ok-calls.calls.items c.args.numbers.now c.in_ok-calls.ensures.calls)

pub returns-clause-none : goal.returns-clause-none
returns-clause-none c =
    none_if c.from_calls.result (IsLegal c.as_slice.result.now) _ c.from_calls.ensures.legal.1
    (λ refused calls legal undealt is.
    refused (subst IsLegal (sym (c.as_slice.ensures.value ∙ calls_once c.in_ok-calls.calls.items calls c.args.numbers.now c.in_ok-calls.ensures.calls legal is)) legal))
