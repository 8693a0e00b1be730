use Rattle.std.proofs.Common.{◌≡◌, ◌==◌, ℕ, rules, List, refl, ap, ◌∙◌}
use Rattle.std.specs.Bool.{Decides}
use Rattle.std.proofs.lemmas.Bool.Decides.{Decides-and, Decides-eqb, Decides-like}
use Rattle.std.proofs.lemmas.Slice.Eq.{slice_eq-Decides}
use Rattle.bridge_auction.specs.declared.bid.Denomination.{Denomination}
use Rattle.bridge_auction.specs.declared.bid.Denomination.TheVariants.{Clubs, Diamonds, Hearts, Spades, NoTrump}
use Rattle.bridge_auction.specs.declared.call.Call.{Call}
use Rattle.bridge_auction.specs.declared.call.Call.TheVariants.{Pass, Bid, Double, Redouble}
use Rattle.bridge_auction.specs.declared.bid.Bid.{Bid as BidType}
use Rattle.bridge_auction.specs.contracts.call.CallPartialEq.TheImpl as call_eq
use Rattle.bridge_auction.specs.contracts.bid.BidPartialEq.TheImpl as bid_eq
use Rattle.bridge_auction.specs.contracts.bid.DenominationPartialEq.TheImpl as denomination_eq
use Rattle.bridge_cards.specs.contracts.card.CardPartialEq.TheImpl as card_eq
use Rattle.bridge_cards.specs.contracts.deal.DealPartialEq.TheImpl as deal_eq

pub cards_decided : (a b : ℕ) → Decides (card_eq.eq-value.it a b) (a ≡ b)
cards_decided a b = Decides-eqb a b

pub deals_decided : (a b : List ℕ) → Decides (deal_eq.eq-value.it a b) (a ≡ b)
deals_decided a b = slice_eq-Decides Decides-eqb a b (deal_eq.eq-value.it a b) refl

denominations_decided : (a b : Denomination) → Decides (denomination_eq.eq-value.it a b) (a ≡ b)
denominations_decided Clubs Clubs = (λ e. refl, λ e. refl)
denominations_decided Clubs Diamonds = (λ e. absurd cc, λ e. absurd cc)
denominations_decided Clubs Hearts = (λ e. absurd cc, λ e. absurd cc)
denominations_decided Clubs Spades = (λ e. absurd cc, λ e. absurd cc)
denominations_decided Clubs NoTrump = (λ e. absurd cc, λ e. absurd cc)
denominations_decided Diamonds Clubs = (λ e. absurd cc, λ e. absurd cc)
denominations_decided Diamonds Diamonds = (λ e. refl, λ e. refl)
denominations_decided Diamonds Hearts = (λ e. absurd cc, λ e. absurd cc)
denominations_decided Diamonds Spades = (λ e. absurd cc, λ e. absurd cc)
denominations_decided Diamonds NoTrump = (λ e. absurd cc, λ e. absurd cc)
denominations_decided Hearts Clubs = (λ e. absurd cc, λ e. absurd cc)
denominations_decided Hearts Diamonds = (λ e. absurd cc, λ e. absurd cc)
denominations_decided Hearts Hearts = (λ e. refl, λ e. refl)
denominations_decided Hearts Spades = (λ e. absurd cc, λ e. absurd cc)
denominations_decided Hearts NoTrump = (λ e. absurd cc, λ e. absurd cc)
denominations_decided Spades Clubs = (λ e. absurd cc, λ e. absurd cc)
denominations_decided Spades Diamonds = (λ e. absurd cc, λ e. absurd cc)
denominations_decided Spades Hearts = (λ e. absurd cc, λ e. absurd cc)
denominations_decided Spades Spades = (λ e. refl, λ e. refl)
denominations_decided Spades NoTrump = (λ e. absurd cc, λ e. absurd cc)
denominations_decided NoTrump Clubs = (λ e. absurd cc, λ e. absurd cc)
denominations_decided NoTrump Diamonds = (λ e. absurd cc, λ e. absurd cc)
denominations_decided NoTrump Hearts = (λ e. absurd cc, λ e. absurd cc)
denominations_decided NoTrump Spades = (λ e. absurd cc, λ e. absurd cc)
denominations_decided NoTrump NoTrump = (λ e. refl, λ e. refl)

same_bid : (a b : BidType) → (a.level ≡ b.level) × (a.denomination ≡ b.denomination) → a ≡ b
same_bid a b e = ap (λ level. record { level = level; denomination = a.denomination }) e.0 ∙ ap (λ denomination. record { level = b.level; denomination = denomination }) e.1

pub bids_decided : (a b : BidType) → Decides (bid_eq.eq-value.it a b) (a ≡ b)
bids_decided a b = Decides-like (bid_eq.eq-value.it a b) (same_bid a b) (λ e. (ap (λ (bid : BidType). bid.level) e, ap (λ (bid : BidType). bid.denomination) e))
    (Decides-and (a.level == b.level) (denomination_eq.eq-value.it a.denomination b.denomination) (Decides-eqb a.level b.level) (denominations_decided a.denomination b.denomination))

elim_bid : BidType → Call → BidType
elim_bid other (Bid bid) = bid
elim_bid other call = other

pub calls_decided : (a b : Call) → Decides (call_eq.eq-value.it a b) (a ≡ b)
unfolding elim_bid
calls_decided Pass Pass = search rules
calls_decided Pass (Bid b) = search rules
calls_decided Pass Double = search rules
calls_decided Pass Redouble = search rules
calls_decided (Bid a) Pass = search rules
calls_decided (Bid a) (Bid b) = Decides-like (bid_eq.eq-value.it a b) (ap Bid) (λ e. ap (elim_bid a) e) (bids_decided a b)
calls_decided (Bid a) Double = search rules
calls_decided (Bid a) Redouble = search rules
calls_decided Double Pass = search rules
calls_decided Double (Bid b) = search rules
calls_decided Double Double = search rules
calls_decided Double Redouble = search rules
calls_decided Redouble Pass = search rules
calls_decided Redouble (Bid b) = search rules
calls_decided Redouble Double = search rules
calls_decided Redouble Redouble = search rules
