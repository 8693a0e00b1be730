use Rattle.std.proofs.Common.{◌≡◌, ◌∙◌, sym, refl, Bool, true, false}
use Rattle.std.proofs.Math.Bool.{beq}
use Rattle.session_bytes.specs.Reading.{fields_in}
use Rattle.session_bytes.proofs.ReadRecords.{AreRead, valid_is, valid_played, read_valid, read_in_range, read_is_said, valid_taken, valid_agreed, too_many, if_none}
use Rattle.session_bytes.proofs.record_read.record_of.Goals as goal
use Rattle.session_bytes.proofs.record_read.record_of.Goals.{else-is_agreed-fields-via-then-is_agreed-fields+else-is_in_place, else-is_agreed-fields-via-else-is_agreed-fields}

-- two answers that differ are not one
differ : (a b : Bool) → beq a b ≡ false → a ≡ b → ⊥
differ true true other same = absurd cc
differ true false other same = absurd cc
differ false true other same = absurd cc
differ false false other same = absurd cc

-- two answers that are the same
agree : (a b : Bool) → beq a b ≡ true → a ≡ b
agree true true same = refl
agree true false same = absurd cc
agree false true same = absurd cc
agree false false same = refl

pub returns-in_err-claims-clause-none : goal.returns-in_err-claims-clause-none
returns-in_err-claims-clause-none c =
    if_none c.from_residual-in_err-claims.result _ (λ plain board_is valid in_range is.
    too_many c.args.scoring c.args.deals.now c.args.now c.args.round plain (fields_in c.args.fields.now)
    (λ few. let some = c.in_err-claims.ensures.valid.1 few in absurd cc) valid is)

pub returns-in_err-play-clause-none : goal.returns-in_err-play-clause-none
returns-in_err-play-clause-none c =
    let deals = c.args.deals.now in
    let board = c.args.board in
    let auction = c.in_ok-auction.auction in
    let fields = fields_in c.args.fields.now in
    let read = c.in_ok-auction.ensures in
    if_none c.from_residual-in_err-play.result _ (λ plain board_is valid in_range is.
    c.in_err-play.ensures.none
    (valid_played c.args.scoring deals c.args.now c.args.round c.copied-deal.result board auction fields (c.copied-deal.ensures ∙ c.deal_on.ensures)
    (valid_is c.args.scoring deals c.args.now c.args.round c.copied-deal.result board auction fields plain read.legal read.calls board_is valid is)))

pub returns-then-is_in_place-clause-valid : goal.returns-then-is_in_place-clause-valid
returns-then-is_in_place-clause-valid c =
    let deals = c.args.deals.now in
    let fields = fields_in c.args.fields.now in
    let read_is : AreRead c.copied-deal.result c.args.board c.in_ok-auction.auction fields c.in_ok-claims.claims c.in_ok-play.play = record {
      dealer = c.in_ok-auction.ensures.dealer;
      legal = c.in_ok-auction.ensures.legal;
      undealt = λ none. c.in_ok-auction.ensures.dealt (c.is_some.ensures ∙ none);
      counted = c.in_ok-claims.ensures.value;
      play_is = c.in_ok-play.ensures.play;
      played = c.in_ok-play.ensures.played;
    } in
    read_valid c.args.scoring deals c.args.now c.args.round c.copied-deal.result c.args.board c.in_ok-auction.auction fields c.in_ok-claims.claims c.in_ok-play.play
    (c.copied-deal.ensures ∙ c.deal_on.ensures) read_is (sym c.is_in_place.ensures ∙ c.if-is_in_place.true)

pub returns-then-is_in_place-clause-fields : goal.returns-then-is_in_place-clause-fields
returns-then-is_in_place-clause-fields c =
    let fields = fields_in c.args.fields.now in
    let read_is : AreRead c.copied-deal.result c.args.board c.in_ok-auction.auction fields c.in_ok-claims.claims c.in_ok-play.play = record {
      dealer = c.in_ok-auction.ensures.dealer;
      legal = c.in_ok-auction.ensures.legal;
      undealt = λ none. c.in_ok-auction.ensures.dealt (c.is_some.ensures ∙ none);
      counted = c.in_ok-claims.ensures.value;
      play_is = c.in_ok-play.ensures.play;
      played = c.in_ok-play.ensures.played;
    } in
    read_is_said c.args.scoring c.args.deals.now c.args.now c.args.round c.copied-deal.result c.args.board c.in_ok-auction.auction fields c.in_ok-claims.claims c.in_ok-play.play read_is
    c.in_ok-auction.ensures.calls (sym c.is_agreed.ensures ∙ agree c.is_agreed.result fields.agreed c.if-is_agreed-fields.true)

pub returns-then-is_in_place-clause-in_range : goal.returns-then-is_in_place-clause-in_range
returns-then-is_in_place-clause-in_range c =
    let deals = c.args.deals.now in
    let fields = fields_in c.args.fields.now in
    let read_is : AreRead c.copied-deal.result c.args.board c.in_ok-auction.auction fields c.in_ok-claims.claims c.in_ok-play.play = record {
      dealer = c.in_ok-auction.ensures.dealer;
      legal = c.in_ok-auction.ensures.legal;
      undealt = λ none. c.in_ok-auction.ensures.dealt (c.is_some.ensures ∙ none);
      counted = c.in_ok-claims.ensures.value;
      play_is = c.in_ok-play.ensures.play;
      played = c.in_ok-play.ensures.played;
    } in
    read_in_range c.args.scoring deals c.args.now c.args.round c.copied-deal.result c.args.board c.in_ok-auction.auction fields c.in_ok-claims.claims c.in_ok-play.play read_is
    c.requires.answers c.requires.ruled

pub returns-else-is_agreed-fields-clause-none : goal.returns-else-is_agreed-fields-clause-none
returns-else-is_agreed-fields-clause-none c =
    let deals = c.args.deals.now in
    let board = c.args.board in
    let auction = c.in_ok-auction.auction in
    let fields = fields_in c.args.fields.now in
    let read = c.in_ok-auction.ensures in
    let read_is : AreRead c.copied-deal.result c.args.board c.in_ok-auction.auction fields c.in_ok-claims.claims c.in_ok-play.play = record {
      dealer = c.in_ok-auction.ensures.dealer;
      legal = c.in_ok-auction.ensures.legal;
      undealt = λ none. c.in_ok-auction.ensures.dealt (c.is_some.ensures ∙ none);
      counted = c.in_ok-claims.ensures.value;
      play_is = c.in_ok-play.ensures.play;
      played = c.in_ok-play.ensures.played;
    } in
    λ plain board_is valid in_range is.
    let good = valid_is c.args.scoring deals c.args.now c.args.round c.copied-deal.result board auction fields plain read.legal read.calls board_is valid is in
    let agreed = valid_agreed c.args.scoring deals c.args.now c.args.round c.copied-deal.result board auction fields c.in_ok-claims.claims c.in_ok-play.play plain read_is read.calls board_is valid.calls is in
    let placed = valid_taken c.args.scoring deals c.args.now c.args.round c.copied-deal.result board auction fields c.in_ok-claims.claims c.in_ok-play.play read_is good in
    elim c.else-is_agreed-fields.branch [
      | else-is_agreed-fields-via-then-is_agreed-fields+else-is_in_place w ↦ let other = w.if-is_in_place.false in let same = w.is_in_place.ensures in absurd cc
      | else-is_agreed-fields-via-else-is_agreed-fields w ↦ differ c.is_agreed.result fields.agreed w.if-is_agreed-fields.false (c.is_agreed.ensures ∙ agreed)
    ]
