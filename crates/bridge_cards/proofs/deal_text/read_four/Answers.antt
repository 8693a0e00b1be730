use Rattle.bridge_cards.specs.DealText.{space, SpellsHand}
use Rattle.bridge_cards.proofs.HandText.{at_space, SpellsTwo, SpellsThree}
use Rattle.bridge_cards.proofs.Joining.{not_joined}
use Rattle.bridge_cards.proofs.deal_text.read_four.Goals as goal

pub returns-in_err-one-clause-none : goal.returns-in_err-one-clause-none
returns-in_err-one-clause-none c =
    rw c.from_residual.ensures
    (λ h1 h2 h3 h4 spelled.
    not_joined space (SpellsHand h1) (SpellsThree h2 h3 h4) _ c.in_err-one.ensures.none spelled)

pub returns-in_err-two-clause-none : goal.returns-in_err-two-clause-none
returns-in_err-two-clause-none c =
    rw c.from_residual-in_err-two.ensures
    (λ h1 h2 h3 h4 spelled.
    let one = at_space h1 (SpellsThree h2 h3 h4) _ _ _ c.in_ok-one.ensures.parts c.in_ok-one.ensures.first spelled in
    not_joined space (SpellsHand h2) (SpellsTwo h3 h4) _ c.in_err-two.ensures.none one.1)

pub returns-in_err-three-clause-none : goal.returns-in_err-three-clause-none
returns-in_err-three-clause-none c =
    rw c.from_residual-in_err-three.ensures
    (λ h1 h2 h3 h4 spelled.
    let one = at_space h1 (SpellsThree h2 h3 h4) _ _ _ c.in_ok-one.ensures.parts c.in_ok-one.ensures.first spelled in
    let two = at_space h2 (SpellsTwo h3 h4) _ _ _ c.in_ok-two.ensures.parts c.in_ok-two.ensures.first one.1 in
    not_joined space (SpellsHand h3) (SpellsHand h4) _ c.in_err-three.ensures.none two.1)

pub returns-in_err-read_hand-clause-none : goal.returns-in_err-read_hand-clause-none
returns-in_err-read_hand-clause-none c =
    rw c.from_residual-in_err-read_hand.ensures
    (λ h1 h2 h3 h4 spelled.
    let one = at_space h1 (SpellsThree h2 h3 h4) _ _ _ c.in_ok-one.ensures.parts c.in_ok-one.ensures.first spelled in
    c.in_err-read_hand.ensures.none h1 one.0)

pub returns-in_err-read_hand-2-clause-none : goal.returns-in_err-read_hand-2-clause-none
returns-in_err-read_hand-2-clause-none c =
    rw c.from_residual-in_err-read_hand-2.ensures
    (λ h1 h2 h3 h4 spelled.
    let one = at_space h1 (SpellsThree h2 h3 h4) _ _ _ c.in_ok-one.ensures.parts c.in_ok-one.ensures.first spelled in
    let two = at_space h2 (SpellsTwo h3 h4) _ _ _ c.in_ok-two.ensures.parts c.in_ok-two.ensures.first one.1 in
    c.in_err-read_hand-2.ensures.none h2 two.0)

pub returns-in_err-read_hand-3-clause-none : goal.returns-in_err-read_hand-3-clause-none
returns-in_err-read_hand-3-clause-none c =
    rw c.from_residual-in_err-read_hand-3.ensures
    (λ h1 h2 h3 h4 spelled.
    let one = at_space h1 (SpellsThree h2 h3 h4) _ _ _ c.in_ok-one.ensures.parts c.in_ok-one.ensures.first spelled in
    let two = at_space h2 (SpellsTwo h3 h4) _ _ _ c.in_ok-two.ensures.parts c.in_ok-two.ensures.first one.1 in
    let three = at_space h3 (SpellsHand h4) _ _ _ c.in_ok-three.ensures.parts c.in_ok-three.ensures.first two.1 in
    c.in_err-read_hand-3.ensures.none h3 three.0)

pub returns-in_err-read_hand-4-clause-none : goal.returns-in_err-read_hand-4-clause-none
returns-in_err-read_hand-4-clause-none c =
    rw c.from_residual-in_err-read_hand-4.ensures
    (λ h1 h2 h3 h4 spelled.
    let one = at_space h1 (SpellsThree h2 h3 h4) _ _ _ c.in_ok-one.ensures.parts c.in_ok-one.ensures.first spelled in
    let two = at_space h2 (SpellsTwo h3 h4) _ _ _ c.in_ok-two.ensures.parts c.in_ok-two.ensures.first one.1 in
    let three = at_space h3 (SpellsHand h4) _ _ _ c.in_ok-three.ensures.parts c.in_ok-three.ensures.first two.1 in
    c.in_err-read_hand-4.ensures.none h4 three.1)
