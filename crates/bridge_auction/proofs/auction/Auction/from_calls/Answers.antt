use Rattle.std.proofs.Common.{◌≡◌, ◌∷◌, ◌++◌, [], List, Option, Some, None, IsSome, Result, Ok, Err, IsOk, OnOk, take, ◌+◌, add-one, false, refl, sym, ap, subst, ◌∙◌}
use Rattle.std.specs.Prelude.{is_some, is_ok}
use Rattle.std.proofs.Math.Seq.{take-suc}
use Rattle.std.proofs.lemmas.List.{take_all}
use Rattle.bridge_cards.proofs.FollowLaws.{each_may_follow-next}
use Rattle.bridge_auction.specs.declared.call.Call.{Call}
use Rattle.bridge_auction.specs.Auction.{AuctionValue, bidding, with_call}
use Rattle.bridge_auction.specs.Legal.{IsLegal, MayFollow}
use Rattle.bridge_auction.proofs.auction.Auction.from_calls.Goals as goal

-- what holds of an Ok holds where there is one
ok_gives : {T E : Type 0} (r : Result T E) (P : Type 0) → OnOk r P → IsOk r → P
ok_gives (Ok v) P gives ok = gives
ok_gives (Err e) P gives ok = cc

-- what is no Ok is not Ok, and None is not Some
not_ok : {T E : Type 0} (r : Result T E) → is_ok r ≡ false → IsOk r → ⊥
not_ok (Ok v) not ok = cc
not_ok (Err e) not ok = cc

not_some : {T : Type 0} (o : Option T) → o ≡ None → IsSome o → ⊥
not_some (Some v) none some = cc
not_some None none some = cc

pub loop-call-preserved : goal.loop-call-preserved
loop-call-preserved c =
    let ok : IsOk c.try_call.result = sym c.ok.ensures.variant ∙ ap is_some c.in_ok-ok.was in
    let taken = ok_gives c.try_call.result (c.try_call.new.self ≡ with_call c.loop-call.auction c.call-item.result) c.try_call.ensures.taken ok in
    let next = take-suc c.args.calls.now c.loop-call.call-index c.call-item.result c.loop-call-test.true in
    let longer : take (c.loop-call.call-index + 1) c.args.calls.now ≡ take c.loop-call.call-index c.args.calls.now ++ c.call-item.result ∷ []
    = ap (λ n. take n c.args.calls.now) (add-one c.loop-call.call-index) ∙ next
    ∙ ap (λ call. take c.loop-call.call-index c.args.calls.now ++ call ∷ []) (sym c.call-item.is) in
    record {
      so_far = taken ∙ ap (λ (auction : AuctionValue). with_call auction c.call-item.result) c.loop-call.invariant.so_far
          ∙ ap (bidding c.args.dealer) (sym longer);
      legal = subst (λ (auction : AuctionValue). IsLegal auction.calls) (sym taken)
          (c.try_call.ensures.legal.0 ok);
    }

pub returns-in_err-ok-clause-legal : goal.returns-in_err-ok-clause-legal
returns-in_err-ok-clause-legal c = (
  λ some. absurd (not_some c.from_residual.result c.from_residual.ensures some),
  λ legal.
      let longer = each_may_follow-next MayFollow c.args.calls.now c.loop-call.call-index c.call-item.result legal c.loop-call-test.true c.call-item.is in
      let so_far = ap (λ (auction : AuctionValue). auction.calls) c.loop-call.invariant.so_far in
      let ok = c.try_call.ensures.legal.1 (subst (λ (calls : List Call). IsLegal (calls ++ c.call-item.result ∷ [])) (sym so_far) longer) in
      let none : is_ok c.try_call.result ≡ false = sym c.ok.ensures.variant ∙ ap is_some c.in_err-ok.was in
      absurd (not_ok c.try_call.result none ok),
)

pub returns-clause-legal : goal.returns-clause-legal
returns-clause-legal c =
    let so_far = ap (λ (auction : AuctionValue). auction.calls) c.loop-call.invariant.so_far in
    let whole = take_all c.loop-call.call-index c.args.calls.now c.loop-call-test.false in
    (λ some. subst IsLegal (so_far ∙ whole) c.loop-call.invariant.legal, λ legal. refl)
