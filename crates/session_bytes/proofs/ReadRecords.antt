-- Which record the fields of a part are those of.
use Rattle.std.proofs.Common.{◌≡◌, ◌≢◌, ◌-◌, ◌<◌, ◌≤◌, ◌==◌, nat_le, ℕ, suc, Bool, true, false, not, ◌&&◌, ◌||◌, List, [], ◌∷◌, length, map, take, cond, Option, Some, None, Ok, Err, refl, sym, ap, ◌∙◌, subst, arith}
use Rattle.std.specs.Prelude.{Any, All, IfSome, IfNone, IsSome, is_some, unwrap_or, slice_get}
use Rattle.std.specs.Option.{option_map, option_map_or}
use Rattle.std.proofs.lemmas.Bool.{and_parts, leb-false, lt-leb, eqb-true}
use Rattle.std.proofs.lemmas.Option.{slice_get_read}
use Rattle.std.proofs.lemmas.List.{nil_from_length}
use Rattle.std.proofs.lemmas.List.Elements.{All-get_or}
use Rattle.bridge_cards.specs.declared.seat.Seat.{Seat}
use Rattle.bridge_cards.specs.declared.seat.Seat.TheVariants.{North, East, South, West}
use Rattle.bridge_cards.specs.Board.{dealer_of}
use Rattle.bridge_cards.specs.CardSet.{IsCardSet, has_card}
use Rattle.bridge_cards.specs.Deal.{hand_at}
use Rattle.bridge_cards.specs.Seat.{seat_number}
use Rattle.bridge_cards.proofs.CardSetLaws.{has_card-beyond}
use Rattle.bridge_auction.specs.declared.call.Call.{Call}
use Rattle.bridge_auction.specs.declared.contract.Contract.{Contract}
use Rattle.bridge_auction.specs.Auction.{AuctionValue}
use Rattle.bridge_auction.specs.Call.{IsCall, call_number, call_at}
use Rattle.bridge_auction.specs.Legal.{IsLegal, is_ended}
use Rattle.bridge_auction.proofs.CallNumbers.{call_at-call_number, call_at-is}
use Rattle.bridge_auction.proofs.LegalLength.{legal_length}
use Rattle.bridge_play.specs.declared.claim.Claim.{Claim}
use Rattle.bridge_play.specs.Legal as cards
use Rattle.bridge_play.specs.Play.{PlayValue, IsClaimCount, IsPlay, is_over}
use Rattle.bridge_play.specs.Trick.{turn_of}
use Rattle.bridge_cards.specs.declared.scoring.Scoring.{Scoring}
use Rattle.bridge_cards.specs.declared.scoring.Scoring.TheVariants.{MatchPoints, Imps}
use Rattle.bridge_table.specs.declared.record.Record.{Record}
use Rattle.session_rules.specs.declared.refused.Refused.TheVariants.{NotFinished}
use Rattle.session_rules.specs.declared.ruling.Ruling.{Ruling}
use Rattle.session_rules.specs.declared.ruling.Ruling.TheVariants as ruling
use Rattle.session_rules.specs.Correction.{tricks_answer}
use Rattle.session_rules.specs.Record.{PlainRecord, course_by, course_in, empty_record, contract_in, playing_in, play_of, is_open}
use Rattle.bridge_table.specs.Kept.{plain_of, is_kept_open, IsTied}
use Rattle.session_rules.specs.State.{deal_on}
use Rattle.session_bytes.specs.Parts.{HasRecord, is_agreed_in, record_part}
use Rattle.session_rules.specs.StateRange.{AreHands, AreHandsOrNone, IsOfFourSeats, IsRulingInRange, IsRecordInRange}
use Rattle.session_rules.specs.Valid.{MayStand, IsUnplayed, IsValidRecord}
use Rattle.session_bytes.specs.Reading.{some_call, Fields, fields_at, fields_of, plain_from, IsPlayed, is_by_matchpoints, may_stand, is_untouched, is_in_place}
use Rattle.session_store.specs.declared.disk_format.DiskFormat.{DiskFormat}
use Rattle.session_rules.proofs.Lists.{all_at, not_true}
use Rattle.session_bytes.proofs.FieldLaws.{fields_again}
use Rattle.session_bytes.proofs.Options.{some_is, not_some}
use Rattle.session_rules.proofs.StaysValid.{mapped_from}
use Rattle.session_rules.proofs.PlainRecords.{no_contract}
use Rattle.bridge_table.proofs.Tied.{open_same}
use Rattle.session_rules.proofs.ValidBack.{claims_few}
use Rattle.session_rules.proofs.ValidRuling.{over_done}

-- Calls by their numbers

numbered : (calls : List Call) → ((i : ℕ) (call : Call) → slice_get calls i ≡ Some call → IsCall call)
    → map call_at (map call_number calls) ≡ map some_call calls
numbered [] each = refl
numbered (call ∷ calls) each =
    ap (λ o. o ∷ map call_at (map call_number calls)) (call_at-call_number call (each 0 call refl))
    ∙ ap (λ os. Some call ∷ os) (numbered calls (λ i x is. each (suc i) x is))

same_somes : (a b : List Call) → map some_call a ≡ map some_call b → a ≡ b
same_somes [] [] is = refl
same_somes [] (y ∷ ys) is = absurd cc
same_somes (x ∷ xs) [] is = absurd cc
same_somes (x ∷ xs) (y ∷ ys) is =
    let first : Some x ≡ Some y = cc in
    let rest : map some_call xs ≡ map some_call ys = cc in
    ap (λ z. z ∷ xs) (some_is x y first) ∙ ap (λ zs. y ∷ zs) (same_somes xs ys rest)

-- the calls of numbers have these numbers
pub numbers_are : (calls : List Call) (numbers : List ℕ) → map some_call calls ≡ map call_at numbers → map call_number calls ≡ numbers
numbers_are [] [] is = refl
numbers_are [] (n ∷ ns) is = absurd cc
numbers_are (x ∷ xs) [] is = absurd cc
numbers_are (x ∷ xs) (n ∷ ns) is =
    let first : Some x ≡ call_at n = cc in
    let rest : map some_call xs ≡ map call_at ns = cc in
    ap (λ k. k ∷ map call_number xs) (call_at-is n x (sym first)).1 ∙ ap (λ ks. n ∷ ks) (numbers_are xs ns rest)

-- legal lists of the same numbers are one
pub same_calls : (a b : List Call) → IsLegal a → IsLegal b → map call_number a ≡ map call_number b → a ≡ b
same_calls a b one two is =
    same_somes a b (sym (numbered a (λ i call at. (one i call at).known)) ∙ ap (map call_at) is ∙ numbered b (λ i call at. (two i call at).known))

pub calls_once : (a b : List Call) (numbers : List ℕ) → map some_call a ≡ map call_at numbers → IsLegal b → map call_number b ≡ numbers → a ≡ b
calls_once a b numbers read legal is =
    same_somes a b (read ∙ ap (map call_at) (sym is) ∙ numbered b (λ i call at. (legal i call at).known))

pub no_calls : (numbers : List ℕ) → Any (λ number. call_at number ≡ None) numbers → (calls : List Call) → IsLegal calls → map call_number calls ≢ numbers
no_calls numbers any calls legal is =
    let there : slice_get numbers any.0 ≡ Some any.1 = slice_get_read numbers (length numbers) any.0 any.1 refl any.2 (sym any.3) in
    let from = mapped_from call_number calls any.0 any.1 (ap (λ ns. slice_get ns any.0) is ∙ there) in
    not_some from.0 (sym any.4 ∙ ap call_at (sym from.2) ∙ call_at-call_number from.0 (legal any.0 from.0 from.1).known)

-- Cards

seat_few : (seat : Seat) → seat_number seat < 4
seat_few North = omega arith
seat_few East = omega arith
seat_few South = omega arith
seat_few West = omega arith

-- no hand that is dealt has a card beyond the deck
pub no_card : (hands : List ℕ) (contract : Contract) (played : List ℕ) → AreHands hands → cards.IsLegal hands contract played → Any (λ card. 52 ≤ card) played → ⊥
no_card hands contract played deal legal any =
    let card : ℕ = any.1 in
    let may = legal any.0 card (slice_get_read played (length played) any.0 card refl any.2 (sym any.3)) in
    let earlier = take any.0 played in
    let hand = turn_of contract earlier in
    let held = (and_parts (has_card (hand_at hands hand) card) (not (cards.was_played earlier card)) may.held).0 in
    let set : IsCardSet (hand_at hands hand) = All-get_or IsCardSet hands (seat_number hand) 0 (omega (arith, seat_few hand, deal.0)) deal.1 in
    let not_held = has_card-beyond (hand_at hands hand) card set any.4 in
    absurd cc

-- the deal of a board is one
found_or_none : (found : Option (Option (List ℕ))) → IfSome found AreHandsOrNone → AreHandsOrNone (unwrap_or found None)
found_or_none None is = tt
found_or_none (Some deal) is = is

pub dealt_on : (deals : List (Option (List ℕ))) (board : ℕ) → All AreHandsOrNone deals → AreHandsOrNone (deal_on deals board)
dealt_on deals board all = found_or_none (slice_get deals (board - 1)) (all_at AreHandsOrNone deals (board - 1) all)

-- The record of the fields

-- the part of a valid record says its fields
pub valid_fields : (format : DiskFormat) (scoring : Scoring) (deals : List (Option (List ℕ))) (now round : ℕ) (plain : PlainRecord) → IsValidRecord scoring deals now round plain
    → IsRecordInRange plain → HasRecord format plain → fields_at format (record_part format plain) ≡ Some (fields_of plain)
valid_fields format scoring deals now round plain valid in_range has = fields_again format plain (legal_length plain.calls valid.calls) in_range has

pub plain_is : (plain : PlainRecord) (board : ℕ) (calls : List Call) (fields : Fields) → plain.board ≡ board → IsLegal plain.calls → IsLegal calls
    → map call_number calls ≡ fields.calls → fields_of plain ≡ fields → plain ≡ plain_from board calls fields
plain_is plain board calls fields board_is one two numbers is =
    let same : plain.calls ≡ calls = same_calls plain.calls calls one two (ap (λ (f : Fields). f.calls) is ∙ sym numbers) in
    subst (λ (f : Fields). plain ≡ plain_from board calls f) is
    (ap (λ b. plain_from b plain.calls (fields_of plain)) board_is ∙ ap (λ cs. plain_from board cs (fields_of plain)) same)

-- a play that is refused is none of those by the rules
pub not_played : (hands : List ℕ) (plain : PlainRecord) (contract : Contract) → contract_in plain ≡ Some contract
    → (IsPlay (playing_in hands plain contract) → ⊥) → IsPlayed hands plain → ⊥
not_played hands plain contract is refused played =
    refused (subst (λ o. IfSome (option_map (playing_in hands plain) o) IsPlay) is played.play)

pub is_unplayed : (hands : List ℕ) (plain : PlainRecord) → contract_in plain ≡ None → IsUnplayed plain → IsPlayed hands plain
is_unplayed hands plain none unplayed = record {
  unplayed = λ _. unplayed;
  play = subst (λ o. IfSome (option_map (playing_in hands plain) o) IsPlay) (sym none) tt;
}

-- what the code keeps of a play, as contracts see it
kept_from : (hands : List ℕ) (board : ℕ) (auction : AuctionValue) (fields : Fields) (contract : Option Contract)
    → (contract ≡ None → IsUnplayed (plain_from board auction.calls fields))
    → plain_of (record { board = board; auction = auction; claims = fields.claims; play = option_map (playing_in hands (plain_from board auction.calls fields)) contract; ruling = fields.ruling })
    ≡ plain_from board auction.calls fields
kept_from hands board auction fields None unplayed =
    let before = unplayed refl in
    ap (λ cs. record { board = board; calls = auction.calls; cards = cs; claims = fields.claims; claim = None; ruling = fields.ruling }) (sym before.cards)
    ∙ ap (λ c. record { board = board; calls = auction.calls; cards = fields.cards; claims = fields.claims; claim = c; ruling = fields.ruling }) (sym before.claim)
kept_from hands board auction fields (Some contract) unplayed = refl

abbrev kept_of : ℕ → AuctionValue → Fields → ℕ → Option PlayValue → Record
kept_of board auction fields claims play = record { board = board; auction = auction; claims = claims; play = play; ruling = fields.ruling }

pub kept_is : (hands : List ℕ) (board : ℕ) (auction : AuctionValue) (fields : Fields) (claims : ℕ) (play : Option PlayValue) → claims ≡ fields.claims
    → play ≡ play_of hands (plain_from board auction.calls fields) → IsPlayed hands (plain_from board auction.calls fields)
    → plain_of (kept_of board auction fields claims play) ≡ plain_from board auction.calls fields
kept_is hands board auction fields claims play counted is played =
    let plain = plain_from board auction.calls fields in
    ap (λ n. plain_of (kept_of board auction fields n play)) counted
    ∙ ap (λ p. plain_of (kept_of board auction fields fields.claims p)) is
    ∙ kept_from hands board auction fields (contract_in plain) played.unplayed

pub kept_tied : (hands : List ℕ) (board : ℕ) (auction : AuctionValue) (fields : Fields) (claims : ℕ) (play : Option PlayValue) → auction.dealer ≡ dealer_of board
    → claims ≡ fields.claims → play ≡ play_of hands (plain_from board auction.calls fields) → IsPlayed hands (plain_from board auction.calls fields)
    → IsTied hands (kept_of board auction fields claims play)
kept_tied hands board auction fields claims play dealer counted is played = record {
  dealer = dealer;
  play = is ∙ ap (play_of hands) (sym (kept_is hands board auction fields claims play counted is played));
}

-- Where the record may stand

over_stands : (hands : List ℕ) (plain : PlainRecord) (contract : Option Contract) → option_map_or is_over (option_map (playing_in hands plain) contract) false ≡ true
    → tricks_answer (option_map (course_by plain) contract) ≡ Ok tt
over_stands hands plain None over = absurd cc
over_stands hands plain (Some contract) over = ap (λ b. cond b (Ok tt) (Err NotFinished)) over

stands_over : (hands : List ℕ) (plain : PlainRecord) (contract : Option Contract) → tricks_answer (option_map (course_by plain) contract) ≡ Ok tt
    → option_map_or is_over (option_map (playing_in hands plain) contract) false ≡ true
stands_over hands plain None ok = absurd cc
stands_over hands plain (Some contract) ok = over_done [] (Some (course_by plain contract)) ok

is_matchpoints : (scoring : Scoring) → is_by_matchpoints scoring ≡ true → scoring ≡ MatchPoints
is_matchpoints MatchPoints is = refl
is_matchpoints Imps is = absurd cc

ruling_stands : (scoring : Scoring) (hands : List ℕ) (plain : PlainRecord) (play : Option PlayValue) (made : Option Ruling) → play ≡ play_of hands plain
    → may_stand scoring play made ≡ true → IfSome made (MayStand scoring (course_in plain))
ruling_stands scoring hands plain play None is stands = tt
ruling_stands scoring hands plain play (Some (ruling.Tricks tricks)) is stands =
    over_stands hands plain (contract_in plain) (ap (λ p. option_map_or is_over p false) (sym is) ∙ stands)
ruling_stands scoring hands plain play (Some ruling.Void) is stands = tt
ruling_stands scoring hands plain play (Some (ruling.Assigned contract tricks)) is stands = tt
ruling_stands scoring hands plain play (Some (ruling.Adjusted ns ew)) is stands = is_matchpoints scoring stands

stands_ruling : (scoring : Scoring) (hands : List ℕ) (plain : PlainRecord) (play : Option PlayValue) (made : Option Ruling) → play ≡ play_of hands plain
    → IfSome made (MayStand scoring (course_in plain)) → may_stand scoring play made ≡ true
stands_ruling scoring hands plain play None is ruled = refl
stands_ruling scoring hands plain play (Some (ruling.Tricks tricks)) is ruled =
    ap (λ p. option_map_or is_over p false) is ∙ stands_over hands plain (contract_in plain) ruled
stands_ruling scoring hands plain play (Some ruling.Void) is ruled = refl
stands_ruling scoring hands plain play (Some (ruling.Assigned contract tricks)) is ruled = refl
stands_ruling scoring hands plain play (Some (ruling.Adjusted ns ew)) is ruled = ap is_by_matchpoints ruled

or_right : (a b : Bool) → (a || b) ≡ true → a ≡ false → b ≡ true
or_right true b is first = absurd cc
or_right false b is first = is

or_either : (a b : Bool) → (a ≡ false → b ≡ true) → (a || b) ≡ true
or_either true b then = refl
or_either false b then = then refl

no_ruling : (made : Option Ruling) → is_some made ≡ false → made ≡ None
no_ruling None is = refl
no_ruling (Some r) is = absurd cc

-- a record without calls and claims in which nothing was played is empty
empty_is : (plain : PlainRecord) → plain.calls ≡ [] → IsUnplayed plain → plain.claims ≡ 0 → plain.ruling ≡ None → plain ≡ empty_record plain.board
empty_is plain calls unplayed claims ruled =
    let made : List Call → List ℕ → ℕ → Option Claim → Option Ruling → PlainRecord
    = λ cs ds n c r. record { board = plain.board; calls = cs; cards = ds; claims = n; claim = c; ruling = r } in
    ap (λ cs. made cs plain.cards plain.claims plain.claim plain.ruling) calls
    ∙ ap (λ ds. made [] ds plain.claims plain.claim plain.ruling) unplayed.cards
    ∙ ap (λ n. made [] [] n plain.claim plain.ruling) claims
    ∙ ap (λ c. made [] [] 0 c plain.ruling) unplayed.claim
    ∙ ap (λ r. made [] [] 0 None r) ruled

-- without a call the claims are those that are kept
claims_kept : (hands : List ℕ) (kept : Record) → IsTied hands kept → kept.auction.calls ≡ [] → (plain_of kept).claims ≡ kept.claims
claims_kept hands kept tied none =
    let plain = plain_of kept in
    let no = no_contract (dealer_of plain.board) plain.calls (ap is_ended none) in
    ap (λ (play : Option PlayValue). option_map_or (λ (p : PlayValue). p.claims) play kept.claims)
    (tied.play ∙ ap (option_map (playing_in hands plain)) no)

-- what the test of a record's index says
pub record IsInPlace (scoring : Scoring) (now round : ℕ) (plain : PlainRecord) : Type 0 where
  pub ruled : IfSome plain.ruling (MayStand scoring (course_in plain))
  pub later : now < round → plain ≡ empty_record plain.board
  pub earlier : round < now → is_open plain ≡ false

pub in_place : (scoring : Scoring) (hands : List ℕ) (now round : ℕ) (kept : Record) → IsTied hands kept → (contract_in (plain_of kept) ≡ None → IsUnplayed (plain_of kept))
    → is_in_place scoring now round kept ≡ true → IsInPlace scoring now round (plain_of kept)
in_place scoring hands now round kept tied unplayed is =
    let plain = plain_of kept in
    let untouched : Bool = is_untouched kept in
    let first = and_parts (may_stand scoring kept.play kept.ruling) ((nat_le round now || untouched) && (nat_le now round || not (is_kept_open kept))) is in
    let second = and_parts (nat_le round now || untouched) (nat_le now round || not (is_kept_open kept)) first.1 in
    record {
      ruled = ruling_stands scoring hands plain kept.play kept.ruling tied.play first.0;
      later = λ less.
          let all = and_parts (length kept.auction.calls == 0) (kept.claims == 0 && not (is_some kept.ruling)) (or_right (nat_le round now) untouched second.0 (lt-leb round now less)) in
          let rest = and_parts (kept.claims == 0) (not (is_some kept.ruling)) all.1 in
          let none : kept.auction.calls ≡ [] = nil_from_length kept.auction.calls (eqb-true (length kept.auction.calls) 0 all.0) in
          let claims : plain.claims ≡ 0 = claims_kept hands kept tied none ∙ eqb-true kept.claims 0 rest.0 in
          empty_is plain none (unplayed (no_contract (dealer_of plain.board) plain.calls (ap is_ended none))) claims
          (no_ruling kept.ruling (not_true (is_some kept.ruling) rest.1));
      earlier = λ less.
          open_same hands kept tied
          ∙ not_true (is_kept_open kept) (or_right (nat_le now round) (not (is_kept_open kept)) second.1 (lt-leb now round less));
    }

pub placed_in : (scoring : Scoring) (hands : List ℕ) (now round : ℕ) (kept : Record) → IsTied hands kept → IsInPlace scoring now round (plain_of kept) → is_in_place scoring now round kept ≡ true
placed_in scoring hands now round kept tied placed =
    let plain = plain_of kept in
    let first = stands_ruling scoring hands plain kept.play kept.ruling tied.play placed.ruled in
    let second = or_either (nat_le round now) (is_untouched kept) (λ after.
    let empty = placed.later (leb-false round now after) in
    let calls : kept.auction.calls ≡ [] = ap (λ (x : PlainRecord). x.calls) empty in
    let made : kept.ruling ≡ None = ap (λ (x : PlainRecord). x.ruling) empty in
    let claims : kept.claims ≡ 0 = sym (claims_kept hands kept tied calls) ∙ ap (λ (x : PlainRecord). x.claims) empty in
    rw (calls, claims, made) refl) in
    let third = or_either (nat_le now round) (not (is_kept_open kept)) (λ before. ap not (sym (open_same hands kept tied) ∙ placed.earlier (leb-false now round before))) in
    rw (first, second, third) refl

-- The record that is read, and the records that it is not

-- a board without a deal
is_undealt : (deal : Option (List ℕ)) → deal ≡ None → is_some deal ≡ false
is_undealt None is = refl
is_undealt (Some hands) is = absurd cc

-- what is known where the auction and the play were read
pub record AreRead (deal : Option (List ℕ)) (board : ℕ) (auction : AuctionValue) (fields : Fields) (claims : ℕ) (play : Option PlayValue) : Type 0 where
  pub dealer : auction.dealer ≡ dealer_of board
  pub legal : IsLegal auction.calls
  pub undealt : is_some deal ≡ false → auction.calls ≡ []
  pub counted : claims ≡ fields.claims
  pub play_is : play ≡ play_of (unwrap_or deal []) (plain_from board auction.calls fields)
  pub played : IsPlayed (unwrap_or deal []) (plain_from board auction.calls fields)

module _ (scoring : Scoring) (deals : List (Option (List ℕ))) (now round : ℕ) (deal : Option (List ℕ)) (board : ℕ) (auction : AuctionValue) (fields : Fields) where
  -- a valid record of the fields is what they say
  pub valid_is : (plain : PlainRecord) → IsLegal auction.calls → map call_number auction.calls ≡ fields.calls → plain.board ≡ board
      → IsValidRecord scoring deals now round plain → fields_of plain ≡ fields → IsValidRecord scoring deals now round (plain_from board auction.calls fields)
  valid_is plain legal numbers board_is valid is =
      subst (IsValidRecord scoring deals now round) (plain_is plain board auction.calls fields board_is valid.calls legal numbers is) valid

  pub valid_played : deal ≡ deal_on deals board → IsValidRecord scoring deals now round (plain_from board auction.calls fields)
      → IsPlayed (unwrap_or deal []) (plain_from board auction.calls fields)
  valid_played deal_is valid = record {
    unplayed = valid.unplayed;
    play = subst (λ d. IfSome (play_of (unwrap_or d []) (plain_from board auction.calls fields)) IsPlay) (sym deal_is) valid.play;
  }

  pub read_valid : (claims : ℕ) (play : Option PlayValue) → deal ≡ deal_on deals board → AreRead deal board auction fields claims play
      → is_in_place scoring now round (kept_of board auction fields claims play) ≡ true
      → IsValidRecord scoring deals now round (plain_of (kept_of board auction fields claims play))
  read_valid claims play deal_is read is =
      let hands : List ℕ = unwrap_or deal [] in
      let kept = kept_of board auction fields claims play in
      let plain = plain_from board auction.calls fields in
      let same : plain_of kept ≡ plain = kept_is hands board auction fields claims play read.counted read.play_is read.played in
      let tied = kept_tied hands board auction fields claims play read.dealer read.counted read.play_is read.played in
      let unplayed : contract_in (plain_of kept) ≡ None → IsUnplayed (plain_of kept)
      = subst (λ (x : PlainRecord). contract_in x ≡ None → IsUnplayed x) (sym same) read.played.unplayed in
      let placed = subst (IsInPlace scoring now round) same (in_place scoring hands now round kept tied unplayed is) in
      subst (IsValidRecord scoring deals now round) (sym same) (record {
        calls = read.legal;
        dealt = λ none. read.undealt (is_undealt deal (deal_is ∙ none));
        unplayed = read.played.unplayed;
        play = subst (λ d. IfSome (play_of (unwrap_or d []) plain) IsPlay) deal_is read.played.play;
        ruled = placed.ruled;
        later = placed.later;
        earlier = placed.earlier;
      })

  -- what is kept is within the ranges of the fields
  pub read_in_range : (claims : ℕ) (play : Option PlayValue) → AreRead deal board auction fields claims play → IfSome fields.claim IsOfFourSeats → IfSome fields.ruling IsRulingInRange
      → IsRecordInRange (plain_of (kept_of board auction fields claims play))
  read_in_range claims play read claim made =
      subst IsRecordInRange (sym (kept_is (unwrap_or deal []) board auction fields claims play read.counted read.play_is read.played)) (record { claim = claim; ruling = made })

  -- what is kept says what the fields do
  pub read_is_said : (claims : ℕ) (play : Option PlayValue) → AreRead deal board auction fields claims play → map call_number auction.calls ≡ fields.calls
      → is_agreed_in (plain_of (kept_of board auction fields claims play)) ≡ fields.agreed → fields_of (plain_of (kept_of board auction fields claims play)) ≡ fields
  read_is_said claims play read numbers agreed =
      let kept = kept_of board auction fields claims play in
      let said : List ℕ → Bool → PlainRecord → Fields
      = λ calls marked x. record { calls = calls; cards = x.cards; claims = x.claims; claim = x.claim; agreed = marked; ruling = x.ruling } in
      ap (said (map call_number auction.calls) (is_agreed_in (plain_of kept))) (kept_is (unwrap_or deal []) board auction fields claims play read.counted read.play_is read.played)
      ∙ ap (λ calls. said calls (is_agreed_in (plain_of kept)) (plain_from board auction.calls fields)) numbers
      ∙ ap (λ marked. said fields.calls marked (plain_from board auction.calls fields)) agreed

  -- where the record of the fields is valid it is taken
  pub valid_taken : (claims : ℕ) (play : Option PlayValue) → AreRead deal board auction fields claims play → IsValidRecord scoring deals now round (plain_from board auction.calls fields)
      → is_in_place scoring now round (kept_of board auction fields claims play) ≡ true
  valid_taken claims play read valid =
      let hands : List ℕ = unwrap_or deal [] in
      let kept = kept_of board auction fields claims play in
      let plain = plain_from board auction.calls fields in
      let same : plain_of kept ≡ plain = kept_is hands board auction fields claims play read.counted read.play_is read.played in
      placed_in scoring hands now round kept (kept_tied hands board auction fields claims play read.dealer read.counted read.play_is read.played)
      (subst (IsInPlace scoring now round) (sym same) (record { ruled = valid.ruled; later = valid.later; earlier = valid.earlier }))

  pub valid_agreed : (claims : ℕ) (play : Option PlayValue) (plain : PlainRecord) → AreRead deal board auction fields claims play → map call_number auction.calls ≡ fields.calls
      → plain.board ≡ board → IsLegal plain.calls → fields_of plain ≡ fields
      → is_agreed_in (plain_of (kept_of board auction fields claims play)) ≡ fields.agreed
  valid_agreed claims play plain read numbers board_is legal is =
      ap is_agreed_in (kept_is (unwrap_or deal []) board auction fields claims play read.counted read.play_is read.played
      ∙ sym (plain_is plain board auction.calls fields board_is legal read.legal numbers is))
      ∙ ap (λ (f : Fields). f.agreed) is

-- fields of more than 99 claims are of no valid record
pub too_many : (scoring : Scoring) (deals : List (Option (List ℕ))) (now round : ℕ) (plain : PlainRecord) (fields : Fields) → (IsClaimCount fields.claims → ⊥)
    → IsValidRecord scoring deals now round plain → fields_of plain ≢ fields
too_many scoring deals now round plain fields many valid is =
    many (subst IsClaimCount (ap (λ (f : Fields). f.claims) is) (claims_few scoring deals now round plain valid))

-- Results

pub if_none : {A : Type 0} (o : Option A) (G : Type 0) → G → IfNone o G
if_none None G holds = holds
if_none (Some x) G holds = tt

pub if_none_then : {A : Type 0} (P Q : Type 0) (o : Option A) → IfNone o P → (P → Q) → IfNone o Q
if_none_then P Q None holds then = then holds
if_none_then P Q (Some x) holds then = tt

pub if_some_then : {A : Type 0} (P Q : A → Type 0) (o : Option A) → IfSome o P → ((x : A) → P x → Q x) → IfSome o Q
if_some_then P Q None holds then = tt
if_some_then P Q (Some x) holds then = then x holds

pub none_if : {A : Type 0} (o : Option A) (L G : Type 0) → (L → IsSome o) → ((L → ⊥) → G) → IfNone o G
none_if None L G some then = then (λ l. let found = some l in absurd cc)
none_if (Some x) L G some then = tt
