-- A record whose latest thing is taken back, as it is kept and as it is seen.
use Rattle.std.proofs.Common.{◌≡◌, ◌||◌, ℕ, Bool, true, false, cond, List, [], length, Option, Some, None, refl, sym, ap, ◌∙◌, subst}
use Rattle.std.specs.Prelude.{is_some, map, nat_lt, slice_get}
use Rattle.std.specs.Option.{option_map}
use Rattle.std.proofs.lemmas.Option.{slice_get-map}
use Rattle.bridge_cards.specs.Board.{dealer_of}
use Rattle.bridge_auction.specs.declared.call.Call.{Call}
use Rattle.bridge_auction.specs.Auction.{AuctionValue, less_last, without_last_call}
use Rattle.bridge_auction.specs.Legal.{IsLegal}
use Rattle.bridge_play.specs.Play.{PlayValue, without_latest}
use Rattle.bridge_table.specs.declared.record.Record.{Record}
use Rattle.session_rules.specs.declared.ruling.Ruling.{Ruling}
use Rattle.session_rules.specs.Back.{taken_back, back_answer}
use Rattle.session_rules.specs.Record.{PlainRecord, contract_in, playing_in}
use Rattle.session_rules.specs.State.{Deals, deal_on, hands_on}
use Rattle.session_rules.proofs.PlainRecords.{no_contract}
use Rattle.session_rules.proofs.ValidBack.{open_before, no_claim, no_more, no_cards}
use Rattle.bridge_table.specs.Kept.{plain_of, less_latest_kept, kept_back_answer, IsTied, IsTiedIn}
use Rattle.bridge_table.proofs.Tied.{kept_of, after_play}

-- the answer by what is kept of a play, and by what is seen of it
pub back_seen : (table : List Record) (index now round : ℕ) → kept_back_answer now round (slice_get table index) ≡ back_answer now round (slice_get (map plain_of table) index)
back_seen table index now round = ap (back_answer now round) (sym (slice_get-map plain_of table index))

abbrev in_auction : ℕ → AuctionValue → ℕ → Option Ruling → Record
in_auction board auction claims ruling = kept_of board (without_last_call auction) claims None ruling

abbrev chosen : ℕ → AuctionValue → ℕ → PlayValue → Option Ruling → Bool → Record
chosen board auction claims play ruling b = cond b (kept_of board auction claims (Some (without_latest play)) ruling) (in_auction board auction play.claims ruling)

abbrev something : PlayValue → Bool
something play = is_some play.claim || nat_lt 0 (length play.cards)

-- what is seen
seen_by : (board : ℕ) (auction : AuctionValue) (claims : ℕ) (play : Option PlayValue) (ruling : Option Ruling) → plain_of (less_latest_kept (kept_of board auction claims play ruling)) ≡ taken_back (plain_of (kept_of board auction claims play ruling))
seen_by board auction claims None ruling = refl
seen_by board auction claims (Some play) ruling = by (something play) refl
  where
    x : PlainRecord
    x = plain_of (kept_of board auction claims (Some play) ruling)

    left : Bool → PlainRecord
    left b = cond b (plain_of (kept_of board auction claims (Some (without_latest play)) ruling)) (record x { calls = less_last auction.calls })

    by : (b : Bool) → something play ≡ b → plain_of (chosen board auction claims play ruling (something play)) ≡ taken_back x
    by true some =
        ap (λ b. plain_of (chosen board auction claims play ruling b)) some ∙ ap left (sym some)
    by false none =
        let cards = no_cards play.cards (no_more (is_some play.claim) (nat_lt 0 (length play.cards)) none) in
        let claim = no_claim (nat_lt 0 (length play.cards)) play.claim none in
        ap (λ b. plain_of (chosen board auction claims play ruling b)) none
        ∙ ap (λ cs. record x { calls = less_last auction.calls; cards = cs; claim = None }) (sym cards)
        ∙ ap (λ c. record x { calls = less_last auction.calls; claim = c }) (sym claim)
        ∙ ap left (sym none)

pub less_seen : (kept : Record) → plain_of (less_latest_kept kept) ≡ taken_back (plain_of kept)
less_seen kept = seen_by kept.board kept.auction kept.claims kept.play kept.ruling

board_by : (board : ℕ) (auction : AuctionValue) (claims : ℕ) (play : Option PlayValue) (ruling : Option Ruling) → (less_latest_kept (kept_of board auction claims play ruling)).board ≡ board
board_by board auction claims None ruling = refl
board_by board auction claims (Some play) ruling = by (something play)
  where
    by : (b : Bool) → (chosen board auction claims play ruling b).board ≡ board
    by true = refl
    by false = refl

pub less_board : (kept : Record) → (less_latest_kept kept).board ≡ kept.board
less_board kept = board_by kept.board kept.auction kept.claims kept.play kept.ruling

-- it is tied still
auction_tied : (hands : List ℕ) (board : ℕ) (auction : AuctionValue) (claims : ℕ) (ruling : Option Ruling) → auction.dealer ≡ dealer_of board → IsLegal auction.calls → IsTied hands (in_auction board auction claims ruling)
auction_tied hands board auction claims ruling dealer legal =
    let after = in_auction board auction claims ruling in
    let no : contract_in (plain_of after) ≡ None = no_contract (dealer_of board) (less_last auction.calls) (open_before auction.calls legal) in
    record { dealer = dealer; play = sym (ap (option_map (playing_in hands (plain_of after))) no) }

tied_by : (hands : List ℕ) (board : ℕ) (auction : AuctionValue) (claims : ℕ) (play : Option PlayValue) (ruling : Option Ruling) → IsLegal auction.calls → IsTied hands (kept_of board auction claims play ruling) → IsTied hands (less_latest_kept (kept_of board auction claims play ruling))
tied_by hands board auction claims None ruling legal tied = auction_tied hands board auction claims ruling tied.dealer legal
tied_by hands board auction claims (Some play) ruling legal tied = by (something play)
  where
    by : (b : Bool) → IsTied hands (chosen board auction claims play ruling b)
    by true = after_play board auction claims play ruling hands without_latest tied (λ contract. refl)
    by false = auction_tied hands board auction play.claims ruling tied.dealer legal

calls_by : (board : ℕ) (auction : AuctionValue) (claims : ℕ) (play : Option PlayValue) (ruling : Option Ruling) → auction.calls ≡ [] → (less_latest_kept (kept_of board auction claims play ruling)).auction.calls ≡ []
calls_by board auction claims None ruling none = ap (λ (calls : List Call). less_last calls) none
calls_by board auction claims (Some play) ruling none = by (something play)
  where
    by : (b : Bool) → (chosen board auction claims play ruling b).auction.calls ≡ []
    by true = none
    by false = ap (λ (calls : List Call). less_last calls) none

pub less_tied : (deals : Deals) (kept : Record) → IsLegal kept.auction.calls → IsTiedIn deals kept → IsTiedIn deals (less_latest_kept kept)
less_tied deals kept legal tied =
    let board = less_board kept in
    record {
      tied = subst (λ b. IsTied (hands_on deals b) (less_latest_kept kept)) (sym board)
          (tied_by (hands_on deals kept.board) kept.board kept.auction kept.claims kept.play kept.ruling legal tied.tied);
      undealt = λ none. calls_by kept.board kept.auction kept.claims kept.play kept.ruling (tied.undealt (ap (deal_on deals) (sym board) ∙ none));
    }
