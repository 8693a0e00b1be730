use Rattle.std.proofs.Common.{◌≡◌, true, false, rules, sym}
use Rattle.std.proofs.lemmas.Bool.Decides.{Decides-like}
use Rattle.bridge_table.specs.Kept.{plain_of}
use Rattle.bridge_session.specs.HasAll.{BeginsWith, HasPlay}
use Rattle.bridge_session.proofs.SameCalls.{cards_decided, calls_decided}
use Rattle.bridge_session.proofs.HasAllLaws.{begins_decided, begins_at, failed}
use Rattle.bridge_session.proofs.containing.has_play.Goals as goal

pub returns-then-not-starts_with : goal.returns-then-not-starts_with
returns-then-not-starts_with c =
    let refused : c.starts_with.result ≡ false = search rules in
    failed c.starts_with.result (begins_decided calls_decided c.calls.result.now c.calls-2.result.now c.starts_with.result c.starts_with.ensures.value) refused
    (λ (has : HasPlay (plain_of c.args.ours.now) (plain_of c.args.theirs.now)).
    begins_at _ _ _ _ (sym c.calls.ensures.calls) (sym c.calls-2.ensures.calls) has.calls)

pub returns : goal.returns
returns c =
    let board : c.args.ours.now.board ≡ c.args.theirs.now.board = search rules in
    let begun : c.starts_with.result ≡ true = search rules in
    let calls : BeginsWith c.args.ours.now.auction.calls c.args.theirs.now.auction.calls =
    begins_at _ _ _ _ c.calls.ensures.calls c.calls-2.ensures.calls
    ((begins_decided calls_decided c.calls.result.now c.calls-2.result.now c.starts_with.result c.starts_with.ensures.value).0 begun) in
    Decides-like c.starts_with-2.result
    (λ cards. record { board = board; calls = calls; cards = begins_at _ _ _ _ c.cards_of.ensures c.cards_of-2.ensures cards })
    (λ (has : HasPlay (plain_of c.args.ours.now) (plain_of c.args.theirs.now)). begins_at _ _ _ _ (sym c.cards_of.ensures) (sym c.cards_of-2.ensures) has.cards)
    (begins_decided cards_decided c.cards_of.result.now c.cards_of-2.result.now c.starts_with-2.result c.starts_with-2.ensures.value)
