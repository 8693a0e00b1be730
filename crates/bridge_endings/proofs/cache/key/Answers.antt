use Rattle.std.proofs.Common.{◌≡◌, ◌∙◌, ◌+◌, ◌++◌, ◌∷◌, [], ℕ, List, sym, ap, ap₂, arith}
use Rattle.std.proofs.lemmas.Grind.{elements}
use Rattle.bridge_endings.specs.CacheValue.{trump_number, key_of}
use Rattle.bridge_endings.specs.EndingValue.{EndingValue}
use Rattle.bridge_cards.specs.Seat.{seat_number}
use Rattle.bridge_endings.proofs.cache.key.Goals as goal
use Rattle.bridge_endings.proofs.cache.key.Goals.{in-None, in-Some}

trump_is : (c : goal.After-bits-4) → c.match-trump.trump ≡ trump_number c.args.ending.now.trump
trump_is c = elim c.match-trump.branch [
  | in-None w ↦ w.trump-is ∙ ap trump_number (sym w.in-None.is ∙ c.trump.ensures)
  | in-Some w ↦ w.trump-is ∙ ap (λ n. n + 1) (w.from.ensures ∙ w.number.ensures.number) ∙ ap trump_number (sym w.in-Some.is ∙ c.trump.ensures)
]

key_from : (ending : EndingValue) (n e s w trump leader : ℕ) → n ∷ e ∷ s ∷ w ∷ [] ≡ ending.hands → trump ≡ trump_number ending.trump
    → leader ≡ seat_number ending.leader → n ∷ e ∷ s ∷ w ∷ trump ∷ leader ∷ [] ≡ key_of ending
key_from ending n e s w trump leader hands same_trump same_leader =
    ap₂ (λ (xs ys : List ℕ). xs ++ ys) hands (ap₂ (λ (a b : ℕ). a ∷ b ∷ []) same_trump same_leader)

pub returns-clause-key : goal.returns-clause-key
returns-clause-key c =
    let hands : c.bits.result ∷ c.bits-2.result ∷ c.bits-3.result ∷ c.bits-4.result ∷ [] ≡ c.args.ending.now.hands = grind (arith, elements) in
    let leader : c.from-leader.result ≡ seat_number c.args.ending.now.leader = c.from-leader.ensures ∙ c.number-2.ensures.number ∙ ap seat_number c.leader.ensures in
    key_from c.args.ending.now c.bits.result c.bits-2.result c.bits-3.result c.bits-4.result _ _ hands (trump_is c) leader
