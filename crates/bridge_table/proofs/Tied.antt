-- A record that is tied to the hands of its board, before and after what a player does.
use Rattle.std.proofs.Common.{◌≡◌, ℕ, false, not, ◌&&◌, List, [], ◌∷◌, ◌++◌, Option, Some, None, Ok, refl, sym, ap, ◌∙◌}
use Rattle.std.specs.Option.{option_map}
use Rattle.bridge_cards.specs.declared.seat.Seat.{Seat}
use Rattle.bridge_cards.specs.Board.{dealer_of}
use Rattle.bridge_auction.specs.declared.call.Call.{Call}
use Rattle.bridge_auction.specs.declared.contract.Contract.{Contract}
use Rattle.bridge_auction.specs.Auction.{AuctionValue}
use Rattle.bridge_auction.specs.Contract.{contract_of}
use Rattle.bridge_auction.specs.Legal.{is_ended}
use Rattle.bridge_play.specs.Play.{PlayValue, with_card, with_claim, with_agreement, without_claim}
use Rattle.session_rules.specs.declared.deed.Deed.{Deed}
use Rattle.session_rules.specs.declared.deed.Deed.TheVariants as deed
use Rattle.bridge_table.specs.declared.record.Record.{Record}
use Rattle.session_rules.specs.declared.refused.Refused.TheVariants.{WrongPhase}
use Rattle.session_rules.specs.declared.ruling.Ruling.{Ruling}
use Rattle.session_rules.specs.Record.{PlainRecord, course_of, course_by, course_in, play_of, playing_in, contract_in, is_done, is_ruled_out, is_open}
use Rattle.session_rules.specs.Deed.{deed_answer, with_deed}
use Rattle.bridge_table.specs.Kept.{plain_of, begun_with, after_deed, course_kept, is_kept_open, IsTied}
use Rattle.session_rules.proofs.Lists.{option_map-twice, not_refused}
use Rattle.session_rules.proofs.PlainRecords.{no_contract}

-- the course of a play does not depend on its hands
course_of_hands : (hands : List ℕ) (plain : PlainRecord) (contract : Option Contract) → option_map course_of (option_map (playing_in hands plain) contract) ≡ option_map (course_by plain) contract
course_of_hands hands plain None = refl
course_of_hands hands plain (Some contract) = refl

pub course_same : (hands : List ℕ) (kept : Record) → IsTied hands kept → course_kept kept ≡ course_in (plain_of kept)
course_same hands kept tied = ap (option_map course_of) tied.play ∙ course_of_hands hands (plain_of kept) (contract_in (plain_of kept))

pub open_same : (hands : List ℕ) (kept : Record) → IsTied hands kept → is_open (plain_of kept) ≡ is_kept_open kept
open_same hands kept tied =
    ap (λ course. not (is_ruled_out kept.ruling) && not (is_done kept.auction.calls course)) (sym (course_same hands kept tied))

-- a record of these parts
abbrev pub kept_of : ℕ → AuctionValue → ℕ → Option PlayValue → Option Ruling → Record
kept_of board auction claims play ruling = record { board = board; auction = auction; claims = claims; play = play; ruling = ruling }

-- a play that is begun has no cards, and the claims made before
plain_begun : (board : ℕ) (auction : AuctionValue) (claims : ℕ) (ruling : Option Ruling) (hands : List ℕ) (contract : Option Contract) → plain_of (kept_of board auction claims (option_map (begun_with hands claims) contract) ruling) ≡ plain_of (kept_of board auction claims None ruling)
plain_begun board auction claims ruling hands None = refl
plain_begun board auction claims ruling hands (Some contract) = refl

-- what a player did, and left
pub record IsAfter (hands : List ℕ) (seat : Seat) (deed : Deed) (kept : Record) : Type 0 where
  pub board : (after_deed hands seat deed kept).board ≡ kept.board
  pub plain : plain_of (after_deed hands seat deed kept) ≡ with_deed seat deed (plain_of kept)
  pub tied : IsTied hands (after_deed hands seat deed kept)

after_call : (board : ℕ) (auction : AuctionValue) (claims : ℕ) (play : Option PlayValue) (ruling : Option Ruling) (hands : List ℕ) (seat : Seat) (call : Call) → IsTied hands (kept_of board auction claims play ruling) → is_ended auction.calls ≡ false → IsAfter hands seat (deed.Call call) (kept_of board auction claims play ruling)
after_call board auction claims None ruling hands seat call tied open_auction =
    let calls : List Call = auction.calls ++ call ∷ [] in
    let longer : AuctionValue = record { dealer = auction.dealer; calls = calls } in
    let begun = plain_begun board longer claims ruling hands (contract_of auction.dealer calls) in
    record {
      board = refl;
      plain = begun;
      tied = record {
        dealer = tied.dealer;
        play = ap (λ dealer. option_map (begun_with hands claims) (contract_of dealer calls)) tied.dealer ∙ ap (play_of hands) (sym begun);
      };
    }
after_call board auction claims (Some play) ruling hands seat call tied open_auction =
    let kept = kept_of board auction claims (Some play) ruling in
    let none : contract_in (plain_of kept) ≡ None = no_contract (dealer_of board) auction.calls open_auction in
    let no_play : Some play ≡ None = tied.play ∙ ap (option_map (playing_in hands (plain_of kept))) none in
    absurd cc

-- a change of the play alone
pub after_play : (board : ℕ) (auction : AuctionValue) (claims : ℕ) (play : PlayValue) (ruling : Option Ruling) (hands : List ℕ) (f : PlayValue → PlayValue) → IsTied hands (kept_of board auction claims (Some play) ruling) → ((contract : Contract) → f (playing_in hands (plain_of (kept_of board auction claims (Some play) ruling)) contract) ≡ playing_in hands (plain_of (kept_of board auction claims (Some (f play)) ruling)) contract) → IsTied hands (kept_of board auction claims (Some (f play)) ruling)
after_play board auction claims play ruling hands f tied same =
    let before = plain_of (kept_of board auction claims (Some play) ruling) in
    let after = plain_of (kept_of board auction claims (Some (f play)) ruling) in
    let contract = contract_of (dealer_of board) auction.calls in
    record {
      dealer = tied.dealer;
      play =
          ap (option_map f) tied.play
          ∙ option_map-twice f (playing_in hands before) contract
          ∙ ap (λ (g : Contract → PlayValue). option_map g contract) (λ i k. same k i);
    }

pub after_is : (board : ℕ) (auction : AuctionValue) (claims : ℕ) (play : Option PlayValue) (ruling : Option Ruling) (hands : List ℕ) (seat : Seat) (at : ℕ) (deed : Deed) → IsTied hands (kept_of board auction claims play ruling) → deed_answer auction play seat at deed ≡ Ok tt → IsAfter hands seat deed (kept_of board auction claims play ruling)
after_is board auction claims play ruling hands seat at (deed.Call call) tied ok =
    after_call board auction claims play ruling hands seat call tied (not_refused (is_ended auction.calls) WrongPhase _ ok)
after_is board auction claims None ruling hands seat at (deed.Card card) tied ok = absurd cc
after_is board auction claims (Some play) ruling hands seat at (deed.Card card) tied ok =
    record { board = refl; plain = refl; tied = after_play board auction claims play ruling hands (λ p. with_card p card) tied (λ contract. refl) }
after_is board auction claims None ruling hands seat at (deed.Claim tricks) tied ok = absurd cc
after_is board auction claims (Some play) ruling hands seat at (deed.Claim tricks) tied ok =
    record { board = refl; plain = refl; tied = after_play board auction claims play ruling hands (λ p. with_claim p seat tricks) tied (λ contract. refl) }
after_is board auction claims None ruling hands seat at deed.Agree tied ok = absurd cc
after_is board auction claims (Some play) ruling hands seat at deed.Agree tied ok =
    record { board = refl; plain = refl; tied = after_play board auction claims play ruling hands (λ p. with_agreement p seat) tied (λ contract. refl) }
after_is board auction claims None ruling hands seat at deed.Refuse tied ok = absurd cc
after_is board auction claims (Some play) ruling hands seat at deed.Refuse tied ok =
    record { board = refl; plain = refl; tied = after_play board auction claims play ruling hands without_claim tied (λ contract. refl) }
