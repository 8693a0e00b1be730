-- What is done in a play, one thing after the other, makes the record, where nothing but claims is taken back.
use Rattle.std.proofs.Common.{◌≡◌, ◌+◌, ℕ, Bool, true, false, ◌||◌, cond, List, [], ◌∷◌, ◌++◌, length, map, Option, Some, None, refl, sym, ap, ◌∙◌, subst, arith, append_assoc}
use Rattle.std.specs.Prelude.{option_and_then, IfSome}
use Rattle.std.specs.List.{cons_option, filter_map, list_any}
use Rattle.std.specs.Option.{option_map, option_or}
use Rattle.std.proofs.lemmas.List.{append-nil}
use Rattle.bridge_cards.specs.declared.seat.Seat.{Seat}
use Rattle.bridge_cards.specs.declared.seat.Seat.TheVariants.{North, East, South, West}
use Rattle.bridge_auction.specs.declared.call.Call.{Call}
use Rattle.bridge_play.specs.declared.claim.Claim.{Claim}
use Rattle.bridge_play.specs.Claims.{has_agreed, with_agreed}
use Rattle.session_rules.specs.declared.correction.Correction.{Correction}
use Rattle.session_rules.specs.declared.deed.Deed.TheVariants as deed
use Rattle.session_rules.specs.declared.ruling.Ruling.{Ruling}
use Rattle.session_rules.specs.Correction.{ruling_by}
use Rattle.session_rules.specs.Deed.{with_deed}
use Rattle.session_rules.specs.Record.{PlainRecord, empty_record}
use Rattle.session_rules.specs.DirectorStep.{with_ruling}
use Rattle.session_rules.specs.Own.{OwnDeed, ByPlayer, ByDirector, TakenBack, call_made, card_played, claim_made, is_refusal, agrees, correction_made, last_claim, claim_after, last_correction, record_made}

abbrev pub done_to : OwnDeed → PlainRecord → PlainRecord
done_to (ByPlayer seat deed) x = with_deed seat deed x
done_to (ByDirector made) x = with_ruling made x
done_to TakenBack x = record x { claim = None }

abbrev pub all_done : List OwnDeed → PlainRecord → PlainRecord
all_done [] x = x
all_done (deed ∷ later) x = all_done later (done_to deed x)

-- The board, the calls, the cards and the number of claims

pub board_step : (deed : OwnDeed) (x : PlainRecord) → (done_to deed x).board ≡ x.board
board_step (ByPlayer seat (deed.Call call)) x = refl
board_step (ByPlayer seat (deed.Card card)) x = refl
board_step (ByPlayer seat (deed.Claim tricks)) x = refl
board_step (ByPlayer seat deed.Agree) x = refl
board_step (ByPlayer seat deed.Refuse) x = refl
board_step (ByDirector made) x = refl
board_step TakenBack x = refl

board_is : (deeds : List OwnDeed) (x : PlainRecord) → (all_done deeds x).board ≡ x.board
board_is [] x = refl
board_is (deed ∷ later) x = board_is later (done_to deed x) ∙ board_step deed x

calls_step : (deed : OwnDeed) (x : PlainRecord) (rest : List Call) → (done_to deed x).calls ++ rest ≡ x.calls ++ cons_option (call_made deed) rest
calls_step (ByPlayer seat (deed.Call call)) x rest = append_assoc x.calls (call ∷ []) rest
calls_step (ByPlayer seat (deed.Card card)) x rest = refl
calls_step (ByPlayer seat (deed.Claim tricks)) x rest = refl
calls_step (ByPlayer seat deed.Agree) x rest = refl
calls_step (ByPlayer seat deed.Refuse) x rest = refl
calls_step (ByDirector made) x rest = refl
calls_step TakenBack x rest = refl

pub calls_are : (deeds : List OwnDeed) (x : PlainRecord) → (all_done deeds x).calls ≡ x.calls ++ filter_map call_made deeds
calls_are [] x = sym (append-nil x.calls)
calls_are (deed ∷ later) x = calls_are later (done_to deed x) ∙ calls_step deed x (filter_map call_made later)

cards_step : (deed : OwnDeed) (x : PlainRecord) (rest : List ℕ) → (done_to deed x).cards ++ rest ≡ x.cards ++ cons_option (card_played deed) rest
cards_step (ByPlayer seat (deed.Call call)) x rest = refl
cards_step (ByPlayer seat (deed.Card card)) x rest = append_assoc x.cards (card ∷ []) rest
cards_step (ByPlayer seat (deed.Claim tricks)) x rest = refl
cards_step (ByPlayer seat deed.Agree) x rest = refl
cards_step (ByPlayer seat deed.Refuse) x rest = refl
cards_step (ByDirector made) x rest = refl
cards_step TakenBack x rest = refl

pub cards_are : (deeds : List OwnDeed) (x : PlainRecord) → (all_done deeds x).cards ≡ x.cards ++ filter_map card_played deeds
cards_are [] x = sym (append-nil x.cards)
cards_are (deed ∷ later) x = cards_are later (done_to deed x) ∙ cards_step deed x (filter_map card_played later)

claims_step : (deed : OwnDeed) (x : PlainRecord) (rest : List Claim) → (done_to deed x).claims + length rest ≡ x.claims + length (cons_option (claim_made deed) rest)
claims_step (ByPlayer seat (deed.Call call)) x rest = refl
claims_step (ByPlayer seat (deed.Card card)) x rest = refl
claims_step (ByPlayer seat (deed.Claim tricks)) x rest = omega arith
claims_step (ByPlayer seat deed.Agree) x rest = refl
claims_step (ByPlayer seat deed.Refuse) x rest = refl
claims_step (ByDirector made) x rest = refl
claims_step TakenBack x rest = refl

claims_are : (deeds : List OwnDeed) (x : PlainRecord) → (all_done deeds x).claims ≡ x.claims + length (filter_map claim_made deeds)
claims_are [] x = omega arith
claims_are (deed ∷ later) x = claims_are later (done_to deed x) ∙ claims_step deed x (filter_map claim_made later)

-- The ruling

abbrev ruling_with : Option Ruling → Option Correction → Option Ruling
ruling_with before None = before
ruling_with before (Some made) = ruling_by made

ruling_step : (deed : OwnDeed) (x : PlainRecord) (last : Option Correction) → ruling_with (done_to deed x).ruling last ≡ ruling_with x.ruling (option_or last (correction_made deed))
ruling_step deed x (Some made) = refl
ruling_step (ByPlayer seat (deed.Call call)) x None = refl
ruling_step (ByPlayer seat (deed.Card card)) x None = refl
ruling_step (ByPlayer seat (deed.Claim tricks)) x None = refl
ruling_step (ByPlayer seat deed.Agree) x None = refl
ruling_step (ByPlayer seat deed.Refuse) x None = refl
ruling_step (ByDirector made) x None = refl
ruling_step TakenBack x None = refl

ruling_is : (deeds : List OwnDeed) (x : PlainRecord) → (all_done deeds x).ruling ≡ ruling_with x.ruling (last_correction deeds)
ruling_is [] x = refl
ruling_is (deed ∷ later) x = ruling_is later (done_to deed x) ∙ ruling_step deed x (last_correction later)

ruling_from_none : (last : Option Correction) → ruling_with None last ≡ option_and_then ruling_by last
ruling_from_none None = refl
ruling_from_none (Some made) = refl

-- The claim

-- a claim, agreed too by the seats that agree later
abbrev also : List OwnDeed → Claim → Claim
also later claim =
    record claim { agreed = map (λ seat. has_agreed claim seat || list_any (agrees seat) later) (North ∷ East ∷ South ∷ West ∷ []) }

abbrev claim_with : List OwnDeed → Option Claim → Option (Claim × List OwnDeed) → Option Claim
claim_with later before None = cond (list_any is_refusal later) None (option_map (also later) before)
claim_with later before (Some last) = claim_after last

-- a claim with its four answers
abbrev claim_of : Seat → ℕ → Bool → Bool → Bool → Bool → Claim
claim_of claimer tricks a b c e = record { claimer = claimer; tricks = tricks; agreed = a ∷ b ∷ c ∷ e ∷ [] }

pub record HasFour (claim : Claim) : Type 0 where
  pub a : Bool
  pub b : Bool
  pub c : Bool
  pub e : Bool
  pub is : claim ≡ claim_of claim.claimer claim.tricks a b c e

or_true : (b : Bool) → (b || true) ≡ true
or_true true = refl
or_true false = refl

or_false : (b : Bool) → (b || false) ≡ b
or_false true = refl
or_false false = refl

-- nothing later
also_none : (claim : Claim) → HasFour claim → also [] claim ≡ claim
also_none claim four =
    ap (also []) four.is
    ∙ ap (λ a. claim_of claim.claimer claim.tricks a (four.b || false) (four.c || false) (four.e || false)) (or_false four.a)
    ∙ ap (λ b. claim_of claim.claimer claim.tricks four.a b (four.c || false) (four.e || false)) (or_false four.b)
    ∙ ap (λ c. claim_of claim.claimer claim.tricks four.a four.b c (four.e || false)) (or_false four.c)
    ∙ ap (λ e. claim_of claim.claimer claim.tricks four.a four.b four.c e) (or_false four.e)
    ∙ sym four.is

-- one agreement more
also_by : (seat claimer : Seat) (tricks : ℕ) (a b c e : Bool) (later : List OwnDeed) → also later (with_agreed seat (claim_of claimer tricks a b c e)) ≡ also (ByPlayer seat deed.Agree ∷ later) (claim_of claimer tricks a b c e)
also_by North claimer tricks a b c e later =
    ap (λ first. claim_of claimer tricks first (b || list_any (agrees East) later) (c || list_any (agrees South) later) (e || list_any (agrees West) later)) (sym (or_true a))
also_by East claimer tricks a b c e later =
    ap (λ second. claim_of claimer tricks (a || list_any (agrees North) later) second (c || list_any (agrees South) later) (e || list_any (agrees West) later)) (sym (or_true b))
also_by South claimer tricks a b c e later =
    ap (λ third. claim_of claimer tricks (a || list_any (agrees North) later) (b || list_any (agrees East) later) third (e || list_any (agrees West) later)) (sym (or_true c))
also_by West claimer tricks a b c e later =
    ap (λ fourth. claim_of claimer tricks (a || list_any (agrees North) later) (b || list_any (agrees East) later) (c || list_any (agrees South) later) fourth) (sym (or_true e))

also_more : (seat : Seat) (claim : Claim) (later : List OwnDeed) → HasFour claim → also later (with_agreed seat claim) ≡ also (ByPlayer seat deed.Agree ∷ later) claim
also_more seat claim later four =
    ap (λ k. also later (with_agreed seat k)) four.is
    ∙ also_by seat claim.claimer claim.tricks four.a four.b four.c four.e later
    ∙ ap (also (ByPlayer seat deed.Agree ∷ later)) (sym four.is)

agree_step : (seat : Seat) (before : Option Claim) (later : List OwnDeed) → IfSome before HasFour → option_map (also later) (option_map (with_agreed seat) before) ≡ option_map (also (ByPlayer seat deed.Agree ∷ later)) before
agree_step seat None later four = refl
agree_step seat (Some claim) later four = ap Some (also_more seat claim later four)

none_either : (b : Bool) → ◌≡◌ {A = Option Claim} (cond b None None) None
none_either true = refl
none_either false = refl

claim_step : (deed : OwnDeed) (x : PlainRecord) (later : List OwnDeed) (last : Option (Claim × List OwnDeed)) → IfSome x.claim HasFour → claim_with later (done_to deed x).claim last ≡ claim_with (deed ∷ later) x.claim (option_or last (option_map (λ (claim : Claim). (claim, later)) (claim_made deed)))
claim_step deed x later (Some last) four = refl
claim_step (ByPlayer seat (deed.Call call)) x later None four = refl
claim_step (ByPlayer seat (deed.Card card)) x later None four = refl
claim_step (ByPlayer seat (deed.Claim tricks)) x later None four = refl
claim_step (ByPlayer seat deed.Agree) x later None four = ap (λ o. cond (list_any is_refusal later) None o) (agree_step seat x.claim later four)
claim_step (ByPlayer seat deed.Refuse) x later None four = none_either (list_any is_refusal later)
claim_step (ByDirector made) x later None four = refl
claim_step TakenBack x later None four = none_either (list_any is_refusal later)

-- four answers stay
four_agreed : (seat claimer : Seat) (tricks : ℕ) (a b c e : Bool) → HasFour (with_agreed seat (claim_of claimer tricks a b c e))
four_agreed North claimer tricks a b c e = record { a = true; b = b; c = c; e = e; is = refl }
four_agreed East claimer tricks a b c e = record { a = a; b = true; c = c; e = e; is = refl }
four_agreed South claimer tricks a b c e = record { a = a; b = b; c = true; e = e; is = refl }
four_agreed West claimer tricks a b c e = record { a = a; b = b; c = c; e = true; is = refl }

four_by : (seat : Seat) (before : Option Claim) → IfSome before HasFour → IfSome (option_map (with_agreed seat) before) HasFour
four_by seat None four = tt
four_by seat (Some claim) four =
    subst (λ k. HasFour (with_agreed seat k)) (sym four.is) (four_agreed seat claim.claimer claim.tricks four.a four.b four.c four.e)

four_step : (deed : OwnDeed) (x : PlainRecord) → IfSome x.claim HasFour → IfSome (done_to deed x).claim HasFour
four_step (ByPlayer seat (deed.Call call)) x four = four
four_step (ByPlayer seat (deed.Card card)) x four = four
four_step (ByPlayer seat (deed.Claim tricks)) x four = record { a = false; b = false; c = false; e = false; is = refl }
four_step (ByPlayer seat deed.Agree) x four = four_by seat x.claim four
four_step (ByPlayer seat deed.Refuse) x four = tt
four_step (ByDirector made) x four = four
four_step TakenBack x four = tt

unclaimed : (before : Option Claim) → IfSome before HasFour → before ≡ option_map (also []) before
unclaimed None four = refl
unclaimed (Some claim) four = ap Some (sym (also_none claim four))

claim_is : (deeds : List OwnDeed) (x : PlainRecord) → IfSome x.claim HasFour → (all_done deeds x).claim ≡ claim_with deeds x.claim (last_claim deeds)
claim_is [] x four = unclaimed x.claim four
claim_is (deed ∷ later) x four = claim_is later (done_to deed x) (four_step deed x four) ∙ claim_step deed x later (last_claim later) four

claim_from_none : (deeds : List OwnDeed) (last : Option (Claim × List OwnDeed)) → claim_with deeds None last ≡ option_and_then claim_after last
claim_from_none deeds None = none_either (list_any is_refusal deeds)
claim_from_none deeds (Some last) = refl

-- from nothing
pub all_is : (board : ℕ) (deeds : List OwnDeed) → all_done deeds (empty_record board) ≡ record_made board deeds
all_is board deeds =
    let x = empty_record board in
    let y = all_done deeds x in
    let made : ℕ → List Call → List ℕ → ℕ → Option Claim → Option Ruling → PlainRecord =
    λ b calls cards claims claim ruling. record { board = b; calls = calls; cards = cards; claims = claims; claim = claim; ruling = ruling } in
    let claims : y.claims ≡ length (filter_map claim_made deeds) = omega (arith, claims_are deeds x) in
    ap (λ b. made b y.calls y.cards y.claims y.claim y.ruling) (board_is deeds x)
    ∙ ap (λ calls. made board calls y.cards y.claims y.claim y.ruling) (calls_are deeds x)
    ∙ ap (λ cards. made board (filter_map call_made deeds) cards y.claims y.claim y.ruling) (cards_are deeds x)
    ∙ ap (λ n. made board (filter_map call_made deeds) (filter_map card_played deeds) n y.claim y.ruling) claims
    ∙ ap (λ claim. made board (filter_map call_made deeds) (filter_map card_played deeds) (length (filter_map claim_made deeds)) claim y.ruling)
    (claim_is deeds x tt ∙ claim_from_none deeds (last_claim deeds))
    ∙ ap (made board (filter_map call_made deeds) (filter_map card_played deeds) (length (filter_map claim_made deeds)) (option_and_then claim_after (last_claim deeds)))
    (ruling_is deeds x ∙ ruling_from_none (last_correction deeds))
