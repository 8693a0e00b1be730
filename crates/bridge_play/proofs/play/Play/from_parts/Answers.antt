use Rattle.std.proofs.Common.{◌≡◌, ℕ, true, refl, sym, ap, subst, ◌∙◌}
use Rattle.std.specs.Prelude.{Option, Some, None, IfSome}
use Rattle.bridge_play.specs.declared.claim.Claim.{Claim}
use Rattle.bridge_play.specs.CardPlay.{CardPlayValue}
use Rattle.bridge_play.specs.Legal.{IsLegal}
use Rattle.bridge_play.specs.Play.{PlayValue, IsPlay, IsClaimIn, with_claims, playing, is_claim_in}
use Rattle.bridge_play.proofs.RegularClaim.{regular_claim, claim_regular}
use Rattle.bridge_play.proofs.play.Play.from_parts.Goals as goal
use Rattle.bridge_play.proofs.play.Play.from_parts.Goals.{in-Some+else-not-is_claim_in, in_default}

-- the claim of a play, where there is one, holds what a claim must
claimed_by : (play : PlayValue) (claim : Option Claim) (made : Claim) → claim ≡ Some made → is_claim_in play made ≡ true → IfSome claim (IsClaimIn play)
claimed_by play claim made is test = subst (λ (o : Option Claim). IfSome o (IsClaimIn play)) (sym is) (regular_claim play made test)

unclaimed : (play : PlayValue) (claim : Option Claim) → claim ≡ None → IfSome claim (IsClaimIn play)
unclaimed play claim is = subst (λ (o : Option Claim). IfSome o (IsClaimIn play)) (sym is) tt

-- what a play has of its claim
claim_of : (play : PlayValue) (made : Claim) → IsPlay play → play.claim ≡ Some made → is_claim_in play made ≡ true
claim_of play made is same = claim_regular play made (subst (λ (o : Option Claim). IfSome o (IsClaimIn play)) same is.claimed)

-- a claim that stands or was agreed, by its test
tested : (play : CardPlayValue) (claims : ℕ) (claim : Option Claim) (made : Claim) → claim ≡ Some made
    → is_claim_in (with_claims play claims (Some made)) made ≡ is_claim_in (with_claims play claims claim) made
tested play claims claim made is = ap (λ (o : Option Claim). is_claim_in (with_claims play claims o) made) (sym is)

pub returns-then-not-is_claim_in-clause-accepted : goal.returns-then-not-is_claim_in-clause-accepted
returns-then-not-is_claim_in-clause-accepted c = (
  λ some. cc,
  λ is.
      let play = playing c.args.deal.now c.args.contract c.args.cards.now c.args.claims c.args.claim in
      let cards = c.in_ok-card_play.ensures.cards in
      let regular = claim_of play c.in-Some.made is c.in-Some.is in
      sym c.if-not-is_claim_in.true ∙ c.is_claim_in.ensures
      ∙ tested c.in_ok-card_play.card_play c.args.claims c.args.claim c.in-Some.made c.in-Some.is
      ∙ ap (λ (kept : CardPlayValue). is_claim_in (with_claims kept c.args.claims c.args.claim) c.in-Some.made) cards
      ∙ regular,
)

is_play : (c : goal.Joined-claim) → IsPlay (with_claims c.in_ok-card_play.card_play c.args.claims c.args.claim)
is_play c =
    let play = with_claims c.in_ok-card_play.card_play c.args.claims c.args.claim in
    let cards = c.in_ok-card_play.ensures.cards in
    record {
      legal = subst (λ (kept : CardPlayValue). IsLegal kept.hands kept.contract kept.cards) (sym cards) (c.in_ok-card_play.ensures.legal.0 refl);
      few = c.if-claims-gt-MOST_CLAIMS.false;
      claimed = elim c.match-claim.branch [
        | in-Some+else-not-is_claim_in w ↦
            let test = sym (tested c.in_ok-card_play.card_play c.args.claims c.args.claim w.in-Some.made w.in-Some.is)
            ∙ sym w.is_claim_in.ensures ∙ w.if-not-is_claim_in.false in
            claimed_by play c.args.claim w.in-Some.made w.in-Some.is test
        | in_default w ↦ unclaimed play c.args.claim w.in_default.is
      ];
    }

pub invariant_of-result : goal.invariant_of-result
invariant_of-result c = is_play c

pub returns-clause-accepted : goal.returns-clause-accepted
returns-clause-accepted c = (
  λ some.
      subst IsPlay (ap (λ (cards : CardPlayValue). with_claims cards c.args.claims c.args.claim) c.in_ok-card_play.ensures.cards) (is_play c),
  λ is. refl,
)
