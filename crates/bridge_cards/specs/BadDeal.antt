-- Four hands, or a text of them, as a deal or as what is first wrong with them. The cases exclude one another: hands with a
-- card twice are neither uneven nor a deal, uneven hands are no deal, and a text states four hands in one way at most.
use Rattle.std.specs.Prelude.{ℕ, ◌≡◌, List, Result, Ok, Err}
use Rattle.bridge_cards.specs.declared.deal.BadDeal.{BadDeal}
use Rattle.bridge_cards.specs.declared.deal.BadDeal.TheVariants.{Form, Twice, NotThirteen}
use Rattle.bridge_cards.specs.Deal.{SomeTwice, IsUneven, IsDeal}
use Rattle.bridge_cards.specs.DealText.{SpellsDeal, States, StatesNone}

-- the hands are a deal, or a card is in two of them, or else one has another number of cards than 13
abbrev pub JudgesHands : List ℕ → Result (List ℕ) BadDeal → Type 0
JudgesHands hands (Ok deal) = (deal ≡ hands) × IsDeal deal
JudgesHands hands (Err Form) = ⊥
JudgesHands hands (Err Twice) = SomeTwice hands
JudgesHands hands (Err NotThirteen) = IsUneven hands

-- the text states no four hands, or hands of which the same is said
abbrev pub JudgesDealText : List ℕ → Result (List ℕ) BadDeal → Type 0
JudgesDealText text (Ok deal) = SpellsDeal deal text × IsDeal deal
JudgesDealText text (Err Form) = StatesNone text
JudgesDealText text (Err Twice) = States SomeTwice text
JudgesDealText text (Err NotThirteen) = States IsUneven text
