use Rattle.std.proofs.Common.{subst, ◌≡◌, ◌<◌, ◌⊎◌, inl, inr, ◌-◌, ◌*◌, ◌++◌, ◌∷◌, not, [], length, IfSome, refl, sym, ap, ◌∙◌, arith}
use Rattle.std.proofs.lemmas.Bool.{cases_eq}
use Rattle.bridge_cards.proofs.CardCounts.{card_count_le}
use Rattle.bridge_endings.specs.Worth.{after_playing}
use Rattle.bridge_endings.specs.Left.{left_to}
use Rattle.bridge_endings.specs.Agree.{IsDealtOut}
use Rattle.bridge_endings.specs.SearchValue.{IsAnswer}
use Rattle.bridge_endings.proofs.TwoAnswers.{other_answer, same_answer}
use Rattle.bridge_endings.proofs.GoingOn.{goes_on_again, told_before, if_told}
use Rattle.bridge_endings.proofs.Answered.{answered_step, fewer}
use Rattle.bridge_endings.proofs.Reached.{foregone, foregone_first, none_legal, found, none_found, after_part, after_whole, closed_dealt, closed_answer, not_there, fewer_gone}
use Rattle.bridge_endings.proofs.search.Search.+search.Goals as goal

pub reaches-returns-then-is_settled-clause-answer : goal.reaches-returns-then-is_settled-clause-answer
reaches-returns-then-is_settled-clause-answer t c =
    foregone c.args.self.now.trump c.args.tricks c.args.need c.without_cards.result (left_to c.args.hands.now c.args.left) c.args.trick.now.leader c.args.trick.now.cards
    c.if-is_settled.ensures.cases c.without_cards.ensures.yes c.without_cards.ensures.counts

pub reaches-returns-then-is_empty-clause-answer : goal.reaches-returns-then-is_empty-clause-answer
reaches-returns-then-is_empty-clause-answer t c =
    none_legal c.args.self.now.trump c.args.tricks c.args.need (left_to c.args.hands.now c.args.left) c.requires.given.2
    c.args.trick.now.leader c.args.trick.now.cards c.requires.part.0 c.legal_cards-legal.result c.if-is_settled.ensures.cases c.legal_cards-legal.ensures.legal
    c.without_cards-then-is_empty.result (c.if-is_empty.ensures.zero.0 refl) c.without_cards-then-is_empty.ensures.yes c.without_cards-then-is_empty.ensures.counts

pub reaches-returns-then-answer-sought-clause-answer : goal.reaches-returns-then-answer-sought-clause-answer
reaches-returns-then-answer-sought-clause-answer t c =
    let told = told_before c.args.self.now c.loop-card.self
    (λ trump. IsAnswer trump (4 * c.args.tricks - length c.args.trick.now.cards - 1) c.args.need c.in_ok-answer.answer (after_playing c.in-Some.card (left_to c.args.hands.now c.args.left)) c.args.trick.now.leader (c.args.trick.now.cards ++ c.in-Some.card ∷ []))
    c.loop-card.invariant.later c.in_ok-answer.ensures.answer in
    rw c.by.ensures (found c.args.self.now.trump c.args.tricks c.args.need (left_to c.args.hands.now c.args.left) c.requires.given.2
    c.args.trick.now.leader c.args.trick.now.cards c.requires.part.0 c.legal_cards-legal.result c.if-is_settled.ensures.cases c.legal_cards-legal.ensures.legal
    c.in-Some.card c.is_sought-sought.result c.in_ok-answer.answer c.in-Some.card (c.loop-card.invariant.answered.among c.in-Some.card c.in-Some.ensures.card.1) (rw (← c.turn.ensures) c.is_sought-sought.ensures) told
    (same_answer c.in_ok-answer.answer.yes c.is_sought-sought.result c.if-answer-sought.true))

pub reaches-loop-card-smaller : goal.reaches-loop-card-smaller
reaches-loop-card-smaller t c =
    fewer c.loop-card.rest c.still_to_try-rest.result c.in-Some.card c.in-Some.ensures.card.0 c.in-Some.ensures.card.1 c.still_to_try-rest.ensures.among

pub reaches-loop-card-preserved : goal.reaches-loop-card-preserved
reaches-loop-card-preserved t c =
    let told = told_before c.args.self.now c.loop-card.self
    (λ trump. IsAnswer trump (4 * c.args.tricks - length c.args.trick.now.cards - 1) c.args.need c.in_ok-answer.answer (after_playing c.in-Some.card (left_to c.args.hands.now c.args.left)) c.args.trick.now.leader (c.args.trick.now.cards ++ c.in-Some.card ∷ []))
    c.loop-card.invariant.later c.in_ok-answer.ensures.answer in
    record {
      answered = answered_step c.args.self.now.trump (4 * c.args.tricks - length c.args.trick.now.cards - 1) c.args.need (left_to c.args.hands.now c.args.left) c.args.trick.now.leader c.args.trick.now.cards
          c.legal_cards-legal.result (not c.is_sought-sought.result) c.requires.given.2 c.requires.part.0 c.legal_cards-legal.ensures.legal
          c.loop-card.rest c.still_to_try-rest.result c.loop-card.counts c.in_ok-answer.answer.counts c.union-counts.result c.in-Some.card c.loop-card.invariant.answered c.in-Some.ensures.card.1
          c.still_to_try-rest.ensures.among c.still_to_try-rest.ensures.gone c.union-counts.ensures.cards told.upward
          (rw (← other_answer c.in_ok-answer.answer.yes c.is_sought-sought.result c.if-answer-sought.false) told.settled);
      later = goes_on_again c.args.self.now c.loop-card.self c.reaches_with.new.self c.loop-card.invariant.later c.in_ok-answer.ensures.later;
      table = c.in_ok-answer.ensures.table;
    }

pub reaches-returns-clause-answer : goal.reaches-returns-clause-answer
reaches-returns-clause-answer t c =
    rw c.all_tried.ensures (none_found c.args.self.now.trump c.args.tricks c.args.need (left_to c.args.hands.now c.args.left) c.requires.given.2
    c.args.trick.now.leader c.args.trick.now.cards c.requires.part.0 c.legal_cards-legal.result c.if-is_settled.ensures.cases c.legal_cards-legal.ensures.legal
    (not c.is_sought-sought.result) c.loop-card.rest c.loop-card.counts _ c.if-is_empty.ensures.cards c.loop-card.invariant.answered (c.in_default.ensures.none.0 refl))

pub reaches_from-returns-then-is_settled-clause-answer : goal.reaches_from-returns-then-is_settled-clause-answer
reaches_from-returns-then-is_settled-clause-answer t c =
    foregone_first c.args.self.now.trump c.args.tricks c.args.need c.without_cards.result (left_to c.args.hands.now c.args.left) c.args.leader
    c.if-is_settled.ensures.cases.1 c.without_cards.ensures.yes c.without_cards.ensures.counts

pub reaches_with-returns-then-len-lt4-clause-answer : goal.reaches_with-returns-then-len-lt4-clause-answer
reaches_with-returns-then-len-lt4-clause-answer t c =
    let held = left_to c.args.hands.now c.without-left.result in
    let then = after_playing c.args.card (left_to c.args.hands.now c.args.left) in
    let longer = c.args.trick.now.cards ++ c.args.card ∷ [] in
    let cards = 4 * c.args.tricks - length c.args.trick.now.cards - 1 in
    told_before c.args.self.now c.count_card.new.self
    (λ trump. IfSome c.reaches.result (λ answer. IsAnswer trump cards c.args.need answer then c.args.trick.now.leader longer))
    c.count_card.ensures.later
    (if_told
    (λ answer. IsAnswer c.count_card.new.self.trump (4 * c.args.tricks - length c.with-trick.result.cards) c.args.need answer held c.with-trick.result.leader c.with-trick.result.cards)
    (λ answer. IsAnswer c.count_card.new.self.trump cards c.args.need answer then c.args.trick.now.leader longer)
    (λ answer. after_part c.count_card.new.self.trump c.args.hands.now c.args.left c.without-left.result c.args.trick.now.leader c.args.trick.now.cards c.args.card c.args.tricks c.args.need c.without-left.ensures
    c.with-trick.result.leader c.with-trick.result.cards answer c.with-trick.ensures.cards c.with-trick.ensures.leader)
    c.reaches.result c.reaches.ensures.answer)

pub reaches_with-returns-clause-answer : goal.reaches_with-returns-clause-answer
reaches_with-returns-clause-answer t c =
    let trump_is : c.with-trick.result.trump ≡ c.count_card.new.self.trump = c.with-trick.ensures.trump ∙ c.requires.trump ∙ sym c.count_card.ensures.later.trump in
    told_before c.args.self.now c.count_card.new.self
    (λ trump. IsAnswer trump (4 * c.args.tricks - length c.args.trick.now.cards - 1) c.args.need (record { yes = c.in_ok-answer.answer.yes; counts = c.union.result; best = c.args.card }) (after_playing c.args.card (left_to c.args.hands.now c.args.left)) c.args.trick.now.leader (c.args.trick.now.cards ++ c.args.card ∷ []))
    c.count_card.ensures.later
    (after_whole c.count_card.new.self.trump c.args.hands.now c.args.left c.without-left.result c.args.trick.now.leader c.args.trick.now.cards c.args.card c.args.tricks c.args.need c.without-left.ensures
    c.with-trick.result.leader c.winner-winner.result c.with-trick.result.cards c.need_after-need.result c.in_ok-answer.answer c.rank_that_counts.result c.union.result c.args.card c.with-trick.ensures.cards c.with-trick.ensures.leader (omega arith) (omega arith)
    (rw (← trump_is) c.winner-winner.ensures) c.need_after-need.ensures c.in_ok-answer.ensures.answer (rw (← trump_is) c.rank_that_counts.ensures.rank) c.rank_that_counts.ensures.upward c.union.ensures.cards)

pub reaches_from-reaches_closed-requires : goal.reaches_from-reaches_closed-requires
reaches_from-reaches_closed-requires t c = (
  omega (arith, card_count_le c.gaps-gone.result),
  (
    c.requires.table,
    (
      subst IsDealtOut (sym c.cards_left-cards.ensures) c.requires.dealt,
      (
        (c.new-trick.ensures.cards, c.new-trick.ensures.trump),
        at (cases_eq c.args.need 0),
      ),
    ),
  ),
)
  where
    at : (c.args.need ≡ 0) ⊎ (c.args.need ≡ 0 → ⊥) → 0 < c.args.need
    at (inl none) = let never = sym c.if-is_settled.false ∙ c.is_settled.ensures.needless (ap length c.new-trick.ensures.cards) none in cc
    at (inr some) = omega (arith, some)

pub reaches_closed-reaches_closed-requires : goal.reaches_closed-reaches_closed-requires
reaches_closed-reaches_closed-requires t c = (
  omega (arith, fewer_gone c.args.gone c.all_cards-all.result c.difference-gaps.result c.without.result c.in-Some.gap c.difference-gaps.ensures c.in-Some.ensures.card.0 c.in-Some.ensures.card.1 c.without.ensures),
  (
    c.requires.table,
    (
      closed_dealt c.args.hands.now c.closed_hands-hands.result c.in-Some.gap c.in-Some.ensures.card.0 c.requires.dealt
          (not_there c.args.hands.now c.args.gone c.all_cards-all.result c.difference-gaps.result c.in-Some.gap c.difference-gaps.ensures (c.all_cards-all.ensures.held c.in-Some.gap) c.in-Some.ensures.card.1) c.closed_hands-hands.ensures,
      (c.requires.first, c.requires.some),
    ),
  ),
)

pub reaches_closed-returns-clause-answer : goal.reaches_closed-returns-clause-answer
reaches_closed-returns-clause-answer t c =
    closed_answer c.args.hands.now c.closed_hands-hands.result c.in-Some.gap c.in-Some.ensures.card.0 c.requires.dealt
    (not_there c.args.hands.now c.args.gone c.all_cards-all.result c.difference-gaps.result c.in-Some.gap c.difference-gaps.ensures (c.all_cards-all.ensures.held c.in-Some.gap) c.in-Some.ensures.card.1) c.closed_hands-hands.ensures
    c.args.self.now.trump c.args.tricks c.args.need c.opened.result _ c.args.trick.now.leader c.in_ok-answer.answer c.opened.ensures c.in_ok-answer.ensures.answer
