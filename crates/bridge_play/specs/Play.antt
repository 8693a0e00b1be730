-- What a contract sees of a play; the answers to a card, a claim and a player who is asked; and the tricks of each side.
use Rattle.std.specs.Prelude.{◌≡◌, ◌≢◌, ℕ, ◌+◌, ◌-◌, ◌%◌, ◌<◌, ◌≤◌, nat_lt, nat_le, Bool, true, false, not, ◌&&◌, ◌||◌, ◌==◌, if◌then◌else◌, List, [], ◌∷◌, ◌++◌, length, Option, Some, None, IsNone, IfSome, is_some, Result, Ok, Err}
use Rattle.std.specs.Option.{option_map, option_map_or}
use Rattle.std.specs.Result.{is_ok}
use Rattle.bridge_cards.specs.declared.seat.Seat.{Seat}
use Rattle.bridge_cards.specs.declared.seat.Side.{Side}
use Rattle.bridge_cards.specs.Seat.{same_seat}
use Rattle.bridge_auction.specs.declared.contract.Contract.{Contract}
use Rattle.bridge_auction.specs.Auction.{less_last}
use Rattle.bridge_play.specs.declared.claim.Claim.{Claim}
use Rattle.bridge_play.specs.declared.refused.CardRefused.{CardRefused}
use Rattle.bridge_play.specs.declared.refused.CardRefused.TheVariants.{Over, ClaimStands, NotYourTurn, NotHeld, MustFollow}
use Rattle.bridge_play.specs.declared.refused.ClaimRefused.{ClaimRefused}
use Rattle.bridge_play.specs.declared.refused.ClaimRefused.TheVariants as claim_refused
use Rattle.bridge_play.specs.declared.refused.ConsentRefused.{ConsentRefused}
use Rattle.bridge_play.specs.declared.refused.ConsentRefused.TheVariants as consent_refused
use Rattle.bridge_cards.specs.Seat.{plays_for}
use Rattle.bridge_play.specs.Trick.{whole_tricks, turn_of, tricks_won}
use Rattle.bridge_play.specs.Legal.{holds, follows, IsLegal}
use Rattle.bridge_play.specs.CardPlay.{CardPlayValue, played}
use Rattle.bridge_play.specs.Dummy.{dummy_of, actor_of}
use Rattle.bridge_play.specs.Claims.{is_asked, has_agreed, all_agreed, consent_to, only_asked_agree, with_agreed}

-- in a play at most 99 claims are made
abbrev pub IsClaimCount : ℕ → Type 0
IsClaimCount claims = claims ≤ 99

-- the dealt hands, the contract, the cards so far, how many claims were made, and the claim that stands or was agreed
pub record PlayValue : Type 0 where
  pub hands : List ℕ
  pub contract : Contract
  pub cards : List ℕ
  pub claims : ℕ
  pub claim : Option Claim

-- the cards of a play, and its claims
abbrev pub with_claims : CardPlayValue → ℕ → Option Claim → PlayValue
with_claims played claims claim = record {
  hands = played.hands;
  contract = played.contract;
  cards = played.cards;
  claims = claims;
  claim = claim;
}

-- the play of that deal in the contract, with those cards, so many claims, and the claim that stands or was agreed
abbrev pub playing : List ℕ → Contract → List ℕ → ℕ → Option Claim → PlayValue
playing hands contract cards claims claim = with_claims (played hands contract cards) claims claim

-- the same play with one card more
abbrev pub with_card : PlayValue → ℕ → PlayValue
with_card play card = record play { cards = play.cards ++ card ∷ [] }

-- there is a claim, and all who were asked have agreed to it
abbrev pub is_agreed_by : Contract → Option Claim → Bool
is_agreed_by contract claim = option_map_or (all_agreed contract) claim false

-- the claim of the play is agreed
abbrev pub is_agreed : PlayValue → Bool
is_agreed play = is_agreed_by play.contract play.claim

-- a play of these cards to the contract is over: all 52 cards were played, or the claim is agreed
abbrev pub is_over_by : Contract → List ℕ → Option Claim → Bool
is_over_by contract cards claim = length cards == 52 || is_agreed_by contract claim

-- the play is over
abbrev pub is_over : PlayValue → Bool
is_over play = is_over_by play.contract play.cards play.claim

-- the answer to a card by a player, the refusals in order
abbrev pub card_answer : PlayValue → Seat → ℕ → Result (Unit {0}) CardRefused
card_answer play seat card =
    let hand = turn_of play.contract play.cards in
    if is_over play then Err Over
    else if is_some play.claim then Err ClaimStands
    else if not (same_seat seat (actor_of play.contract hand)) then Err NotYourTurn
    else if not (holds play.hands play.cards hand card) then Err NotHeld
    else if not (follows play.hands play.cards hand card) then Err MustFollow
    else Ok tt

-- The card may be played by that player: the play is not over, no claim stands, the player is the one who acts for the
-- hand in turn, and the list of cards with that card is legal (Laws 44 and 45).
pub record MayBePlayed (play : PlayValue) (seat : Seat) (card : ℕ) : Type 0 where
  pub going_on : is_over play ≡ false
  pub unclaimed : IsNone play.claim
  pub acting : seat ≡ actor_of play.contract (turn_of play.contract play.cards)
  pub legal : IsLegal play.hands play.contract (play.cards ++ card ∷ [])

-- the answer to a claim of so many tricks by a player, the refusals in order
abbrev pub claim_answer : PlayValue → Seat → ℕ → Result (Unit {0}) ClaimRefused
claim_answer play seat tricks =
    if is_over play then Err claim_refused.Over
    else if is_some play.claim then Err claim_refused.ClaimStands
    else if same_seat seat (dummy_of play.contract) then Err claim_refused.NotYourTurn
    else if not (length play.cards % 4 == 0) then Err claim_refused.MidTrick
    else if nat_lt 13 (whole_tricks play.cards + tricks) then Err claim_refused.TooManyTricks
    else if nat_le 99 play.claims then Err claim_refused.ClaimsSpent
    else Ok tt

-- The player may claim that many of the tricks left: the play is not over, no claim stands, dummy claims nothing, it is
-- between tricks, as many tricks are left, and fewer than 99 claims were made (Law 68).
pub record MayBeClaimed (play : PlayValue) (seat : Seat) (tricks : ℕ) : Type 0 where
  pub going_on : is_over play ≡ false
  pub unclaimed : IsNone play.claim
  pub not_dummy : seat ≢ dummy_of play.contract
  pub between : length play.cards % 4 ≡ 0
  pub within : whole_tricks play.cards + tricks ≤ 13
  pub few : play.claims < 99

-- the same play with one claim more, which stands, and to which nobody has agreed
abbrev pub with_claim : PlayValue → Seat → ℕ → PlayValue
with_claim play seat tricks = record play {
  claims = play.claims + 1;
  claim = Some (record { claimer = seat; tricks = tricks; agreed = false ∷ false ∷ false ∷ false ∷ [] });
}

-- the answer to a player who agrees to the claim that stands, or refuses it
abbrev pub consent_if : Contract → Option Claim → Seat → Result (Unit {0}) ConsentRefused
consent_if contract None seat = Err consent_refused.NoClaim
consent_if contract (Some claim) seat = consent_to contract claim seat

-- the answer to a player who agrees to the claim of that number, or refuses it
abbrev pub consent_answer : PlayValue → Seat → ℕ → Result (Unit {0}) ConsentRefused
consent_answer play seat number =
    if not (number == play.claims) then Err consent_refused.Stale else consent_if play.contract play.claim seat

-- whether the player's answer to the claim is due: it stands, and the player is asked and has not agreed to it (Law 68)
abbrev pub is_awaited : Contract → Option Claim → Seat → Bool
is_awaited contract claim seat = is_ok (consent_if contract claim seat)

-- The player may answer the claim of that number: it is the last that was made, it was not refused, and the player is
-- asked and has not agreed to it (Law 68).
pub record MayAnswer (play : PlayValue) (seat : Seat) (number : ℕ) : Type 0 where
  pub current : number ≡ play.claims
  pub claim : Claim
  pub stands : play.claim ≡ Some claim
  pub asked : is_asked play.contract claim.claimer seat ≡ true
  pub unanswered : has_agreed claim seat ≡ false

-- the same play, where the seat has agreed to the claim
abbrev pub with_agreement : PlayValue → Seat → PlayValue
with_agreement play seat = record play { claim = option_map (with_agreed seat) play.claim }

-- of these cards those that are left once the latest thing is taken back: all where that is a claim, or else all but the last
abbrev pub cards_left_by : Option Claim → List ℕ → List ℕ
cards_left_by (Some claim) cards = cards
cards_left_by None cards = less_last cards

-- the same play less the latest thing done in it: the claim that stands or was agreed, or else the last card
abbrev pub without_latest : PlayValue → PlayValue
without_latest play = record play { cards = cards_left_by play.claim play.cards; claim = None }

-- the same play, where no claim stands
abbrev pub without_claim : PlayValue → PlayValue
without_claim play = record play { claim = None }

-- A claim that stands or was agreed: one was made, between tricks, before the last was played, not by dummy, for no more
-- tricks than are left, and nobody has agreed to it who is not asked (Law 68).
pub record IsClaimIn (play : PlayValue) (claim : Claim) : Type 0 where
  pub counted : 1 ≤ play.claims
  pub between : length play.cards % 4 ≡ 0
  pub some_left : length play.cards < 52
  pub claimer : claim.claimer ≢ dummy_of play.contract
  pub within : whole_tricks play.cards + claim.tricks ≤ 13
  pub asked : (seat : Seat) → has_agreed claim seat ≡ true → is_asked play.contract claim.claimer seat ≡ true

-- whether the claim is one that stands or was agreed
abbrev pub is_claim_in : PlayValue → Claim → Bool
is_claim_in play claim =
    nat_le 1 play.claims && (length play.cards % 4 == 0 && (nat_lt (length play.cards) 52
    && (not (same_seat claim.claimer (dummy_of play.contract)) && (nat_le (whole_tricks play.cards + claim.tricks) 13
    && only_asked_agree play.contract claim))))

-- what each play is: a legal list of cards, at most 99 claims, and a claim that was made by the rules, if there is one
pub record IsPlay (play : PlayValue) : Type 0 where
  pub legal : IsLegal play.hands play.contract play.cards
  pub few : IsClaimCount play.claims
  pub claimed : IfSome play.claim (IsClaimIn play)

-- of the tricks left, those that a claim gives the side once it is agreed: what is not claimed goes to the other side
abbrev pub claimed_tricks : Contract → List ℕ → Side → Option Claim → ℕ
claimed_tricks contract cards side None = 0
claimed_tricks contract cards side (Some claim) =
    if all_agreed contract claim then (if plays_for side claim.claimer then claim.tricks else 13 - whole_tricks cards - claim.tricks) else 0

-- the tricks of a side by these cards and this claim: the whole tricks that its seats won, and those of an agreed claim (Law 68)
abbrev pub tricks_by : Contract → List ℕ → Option Claim → Side → ℕ
tricks_by contract cards claim side =
    tricks_won contract cards side (whole_tricks cards) + claimed_tricks contract cards side claim

-- the tricks of a side
abbrev pub tricks_of : PlayValue → Side → ℕ
tricks_of play side = tricks_by play.contract play.cards play.claim side

-- how many tricks have a winner: all 13 once the play is over, and before that the whole tricks
abbrev pub settled_tricks : PlayValue → ℕ
settled_tricks play = if is_over play then 13 else whole_tricks play.cards
