-- The first section that has a board dealt.
use Rattle.std.proofs.Common.{◌≡◌, ◌+◌, ◌<◌, ℕ, suc, List, length, get_or, drop, ap, ◌∙◌, arith}
use Rattle.std.specs.Option.{option_or}
use Rattle.std.proofs.Math.Seq.{drop-cons}
use Rattle.session_rules.specs.State.{SessionValue, deal_on}
use Rattle.event_ranking.specs.Dealt.{first_deal}

-- the section at an index, and then those after it
pub deal_next : (sections : List SessionValue) (board i : ℕ) (d : SessionValue) → i < length sections → first_deal (drop i sections) board ≡ option_or (deal_on (get_or sections i d).deals board) (first_deal (drop (i + 1) sections) board)
deal_next sections board i d within =
    let next : suc i ≡ i + 1 = omega arith in
    ap (λ (ss : List SessionValue). first_deal ss board) (drop-cons sections i d within)
    ∙ ap (λ k. option_or (deal_on (get_or sections i d).deals board) (first_deal (drop k sections) board)) next
