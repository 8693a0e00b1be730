-- The view of a player as text.
use Rattle.std.specs.Prelude.{ℕ, Bool, true, false, List, [], ◌∷◌, codes, map, Option, Some, None}
use Rattle.std.specs.Fmt.{decimal}
use Rattle.bridge_cards.specs.declared.seat.Seat.{Seat}
use Rattle.bridge_cards.specs.Seat.{seat_letter}
use Rattle.bridge_cards.specs.Card.{card_text}
use Rattle.bridge_cards.specs.DealText.{hand_text}
use Rattle.bridge_auction.specs.Spelling.{call_text}
use Rattle.bridge_cards.specs.Vulnerability.{vulnerability_text}
use Rattle.session_rules.specs.declared.view.Trick.{Trick}
use Rattle.session_rules.specs.declared.view.View.{View}
use Rattle.line_replies.specs.ReplyTexts.{spaced_line, listed_text}

-- a seat's letter as a word
abbrev pub seat_word : Seat → List ℕ
seat_word seat = seat_letter seat ∷ []

-- whether the cards are played, or still the auction
abbrev pub phase_text : Bool → List ℕ
phase_text true = codes "PLAY"
phase_text false = codes "AUCTION"

-- a hand, or `-` where none is shown
abbrev pub hand_or_dash : Option ℕ → List ℕ
hand_or_dash None = codes "-"
hand_or_dash (Some hand) = hand_text hand

-- the leader, and the cards in the order in which they were played
abbrev pub trick_words : Option Trick → List (List ℕ)
trick_words None = codes "-" ∷ []
trick_words (Some trick) = seat_word trick.leader ∷ map card_text trick.cards.items

-- who claims, and how many tricks
abbrev pub claim_words : Option (Seat × ℕ) → List (List ℕ)
claim_words None = codes "-" ∷ []
claim_words (Some claim) = seat_word claim.0 ∷ decimal claim.1 ∷ []

-- the round, the table, the index, and the board
abbrev pub play_line : View → List ℕ
play_line view = spaced_line (codes "PLAY") (decimal view.play.round ∷ decimal view.play.table ∷ decimal view.play.index ∷ decimal view.board ∷ [])

-- the dealer, and who is vulnerable
abbrev pub dealer_line : View → List ℕ
dealer_line view = spaced_line (codes "DEALER") (seat_word view.dealer ∷ codes "VUL" ∷ vulnerability_text view.vulnerability ∷ [])

-- how many calls, cards and claims were made
abbrev pub at_line : View → List ℕ
at_line view = spaced_line (codes "AT") (decimal view.calls_made ∷ decimal view.cards_made ∷ decimal view.claims_made ∷ [])

-- the lines of a view, in order
abbrev pub view_lines : View → List (List ℕ)
view_lines view =
    play_line view
    ∷ spaced_line (codes "SEAT") (seat_word view.seat ∷ [])
    ∷ dealer_line view
    ∷ spaced_line (codes "PHASE") (phase_text view.in_play ∷ [])
    ∷ spaced_line (codes "TURN") (seat_word view.turn ∷ [])
    ∷ at_line view
    ∷ spaced_line (codes "HAND") (hand_text view.hand ∷ [])
    ∷ spaced_line (codes "DUMMY") (hand_or_dash view.dummy ∷ [])
    ∷ spaced_line (codes "CALLS") (map call_text view.calls.now)
    ∷ spaced_line (codes "TRICK") (trick_words view.trick)
    ∷ spaced_line (codes "LAST") (trick_words view.last)
    ∷ spaced_line (codes "TRICKS") (decimal view.tricks_ns ∷ decimal view.tricks_ew ∷ [])
    ∷ spaced_line (codes "CLAIM") (claim_words view.claim)
    ∷ []

-- the reply to a player's question for the view
abbrev pub view_text : View → List ℕ
view_text view = listed_text (view_lines view)
