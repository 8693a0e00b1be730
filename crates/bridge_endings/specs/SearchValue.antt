-- What the answers of a search say, and what its table says.
use Rattle.std.specs.Prelude.{◌≡◌, ℕ, ◌-◌, ◌*◌, ◌<◌, ◌≤◌, Bool, List, [], ◌∷◌, ◌++◌, length, All, Option}
use Rattle.bridge_cards.specs.declared.suit.Suit.{Suit}
use Rattle.bridge_cards.specs.declared.seat.Seat.{Seat}
use Rattle.bridge_cards.specs.CardSet.{has_card}
use Rattle.bridge_endings.specs.declared.answer.Answer.{Answer}
use Rattle.bridge_endings.specs.declared.asked.Asked.{Asked}
use Rattle.bridge_endings.specs.declared.found.Found.{Found}
use Rattle.bridge_endings.specs.declared.found.Told.{Told}
use Rattle.bridge_endings.specs.declared.found.Told.TheVariants.{Answer as TheAnswer, Open, Other}
use Rattle.bridge_endings.specs.declared.entry.Entry.{Entry}
use Rattle.bridge_endings.specs.declared.search.Search.{Search}
use Rattle.bridge_endings.specs.TrickValue.{TrickValue}
use Rattle.bridge_endings.specs.Worth.{after_playing, dealt, worth_with}
use Rattle.bridge_endings.specs.Agree.{IsDealtOut, IsUpward, Agree, Settles}
use Rattle.bridge_endings.specs.Left.{all_lengths}
use Rattle.bridge_endings.specs.Between.{IsBounded}

-- a search after some cards were tried: of the same trump suit, with the same limit, and no fewer were tried
pub record GoesOn (old new : Search) : Type 0 where
  pub trump : new.trump ≡ old.trump
  pub tried : old.tried ≤ new.tried
  pub limit : new.limit ≡ old.limit

-- the answer is right at each position that agrees with this one in the cards that counted, and with a card those above it count
pub record IsAnswer (trump : Option Suit) (cards need : ℕ) (answer : Answer) (held : Seat → ℕ → Bool) (leader : Seat) (trick : List ℕ) : Type 0 where
  pub upward : IsUpward (has_card answer.counts)
  pub settled : Settles trump cards need (has_card answer.counts) answer.yes held leader trick

-- the answer in a trick, the first of so many that are left, with these cards in the hands
abbrev pub IsAnswerAt : Option Suit → ℕ → ℕ → (Seat → ℕ → Bool) → TrickValue → Answer → Type 0
IsAnswerAt trump tricks need held trick answer =
    IsAnswer trump (4 * tricks - length trick.cards) need answer held trick.leader trick.cards

-- the answer once a card was played to it
abbrev pub IsAnswerWith : Option Suit → ℕ → ℕ → (Seat → ℕ → Bool) → TrickValue → ℕ → Answer → Type 0
IsAnswerWith trump tricks need held trick card answer =
    IsAnswer trump (4 * tricks - length trick.cards - 1) need answer (after_playing card held) trick.leader (trick.cards ++ card ∷ [])

-- the answer to what is asked of hands at the start of a trick
abbrev pub IsAnswerTo : Asked → Answer → Type 0
IsAnswerTo asked answer = IsAnswer asked.trump (4 * asked.tricks) asked.need answer (dealt asked.hands) asked.leader []

-- what was found is true of each position that agrees with this one in the cards that counted: its bounds are
abbrev pub IsTrueAt : Found → Option Suit → ℕ → (Seat → ℕ → Bool) → Seat → Type 0
IsTrueAt found trump cards held leader =
    (other : Seat → ℕ → Bool) → IsDealtOut other → Agree (has_card found.counts) held other
    → IsBounded (worth_with trump cards other leader []) found.bounds

-- the lengths are those of the hands, and what was found is true of them
pub record IsFound (found : Found) : Type 0 where
  pub upward : IsUpward (has_card found.counts)
  pub lengths : found.lengths ≡ all_lengths found.hands
  pub bounded : IsTrueAt found found.trump (4 * found.tricks) (dealt found.hands) found.leader

-- if an answer is told, it is right
abbrev pub Tells : Option Suit → ℕ → ℕ → (Seat → ℕ → Bool) → Seat → Told → Type 0
Tells trump cards need held leader (TheAnswer answer) = IsAnswer trump cards need answer held leader []
Tells trump cards need held leader Open = Unit {0}
Tells trump cards need held leader Other = Unit {0}

-- what was found is true, each part of the entry
abbrev pub IsEntry : Entry → Type 0
IsEntry entry = All IsFound entry.found

-- a table has some entry, and what was found is true in each
pub record IsTable (table : List Entry) : Type 0 where
  pub some : 0 < length table
  pub found : All IsEntry table

-- of no tricks none is won
pub record IsNothing (found : Found) : Type 0 where
  pub tricks : found.tricks ≡ 0
  pub lengths : found.lengths ≡ all_lengths found.hands
  pub counts : found.counts ≡ 0
  pub least : found.bounds.least ≡ 0
  pub most : found.bounds.most ≡ 0
