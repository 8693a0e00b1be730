-- The current play among the records of a table.
use Rattle.std.proofs.Common.{◌≡◌, ◌<◌, ◌==◌, ℕ, true, false, List, [], length, Option, Some, None, Ok, Err, refl, sym, ap, ◌∙◌, subst}
use Rattle.std.specs.Prelude.{All, map, position, slice_get, slice_set, slice_index_or, unwrap_or}
use Rattle.std.specs.List.{position_or_len}
use Rattle.std.specs.Option.{option_map}
use Rattle.std.proofs.lemmas.List.{map-set}
use Rattle.std.proofs.lemmas.List.Quantifiers.{position-Some}
use Rattle.std.proofs.lemmas.Option.{slice_get-map, slice_get_read}
use Rattle.bridge_cards.specs.declared.seat.Seat.{Seat}
use Rattle.session_rules.specs.declared.deed.Deed.{Deed}
use Rattle.bridge_table.specs.declared.record.Record.{Record}
use Rattle.session_rules.specs.declared.refused.Refused.TheVariants.{NotCurrent, NotDealt}
use Rattle.session_rules.specs.Record.{PlainRecord, is_open, play_of}
use Rattle.session_rules.specs.Answer.{◌>>◌, require}
use Rattle.session_rules.specs.Deed.{deed_answer, with_deed}
use Rattle.session_rules.specs.State.{Deals, deal_on, current_index, hands_on}
use Rattle.session_rules.proofs.PlayerAnswer.{answer_current, answer_dealt}
use Rattle.session_rules.specs.PlayerStep.{acted_among}
use Rattle.bridge_table.specs.Kept.{plain_of, is_kept_open, after_deed, IsTied, IsTiedIn}
use Rattle.session_rules.proofs.Lists.{position_or_len-map, position_is, position_none, changed_at-Some}
use Rattle.bridge_table.proofs.Tied.{open_same, after_is, IsAfter}

-- the current play is found by what is kept
index_same : (deals : Deals) (table : List Record) → All (IsTiedIn deals) table → current_index (map plain_of table) ≡ position_or_len is_kept_open table
index_same deals table tied =
    position_or_len-map is_open is_kept_open plain_of table
    (λ k d within. let kept = slice_index_or table k d in open_same (hands_on deals kept.board) kept (tied k d within).tied)

pub none_current : (deals : Deals) (table : List Record) → All (IsTiedIn deals) table → position is_kept_open table ≡ None → slice_get (map plain_of table) (current_index (map plain_of table)) ≡ None
none_current deals table tied none =
    ap (slice_get (map plain_of table)) (index_same deals table tied)
    ∙ slice_get-map plain_of table (position_or_len is_kept_open table)
    ∙ ap (option_map plain_of) (position_none is_kept_open table none)

pub is_current : (deals : Deals) (table : List Record) (index : ℕ) → All (IsTiedIn deals) table → position is_kept_open table ≡ Some index → index ≡ current_index (map plain_of table)
is_current deals table index tied found = position_is is_kept_open table index found ∙ sym (index_same deals table tied)

pub current_is : (deals : Deals) (table : List Record) (index : ℕ) (kept : Record) → All (IsTiedIn deals) table → position is_kept_open table ≡ Some index → kept ≡ slice_index_or table index kept → slice_get (map plain_of table) (current_index (map plain_of table)) ≡ Some (plain_of kept)
current_is deals table index kept tied found is =
    let within : index < length table = (position-Some is_kept_open table index kept found).0 in
    ap (slice_get (map plain_of table)) (sym (is_current deals table index tied found))
    ∙ slice_get-map plain_of table index
    ∙ ap (option_map plain_of) (slice_get_read table (length table) index kept refl within is)

-- the record that is found is tied
pub tied_there : (deals : Deals) (table : List Record) (index : ℕ) (kept : Record) → All (IsTiedIn deals) table → position is_kept_open table ≡ Some index → kept ≡ slice_index_or table index kept → IsTiedIn deals kept
tied_there deals table index kept tied found is =
    let within : index < length table = (position-Some is_kept_open table index kept found).0 in
    subst (IsTiedIn deals) (sym is) (tied index kept within)

-- the answer where another board is played
pub other_board : (deal : Option (List ℕ)) (kept : Record) (board : ℕ) (seat : Seat) (at : ℕ) (deed : Deed) → (kept.board == board) ≡ false → answer_current deal board seat at deed (Some (plain_of kept)) ≡ Err NotCurrent
other_board deal kept board seat at deed other = ap (λ b. require b NotCurrent >> answer_dealt (plain_of kept) seat at deed deal) other

-- the answer where the board is not dealt
pub not_dealt : (deal : Option (List ℕ)) (kept : Record) (board : ℕ) (seat : Seat) (at : ℕ) (deed : Deed) → (kept.board == board) ≡ true → deal ≡ None → answer_current deal board seat at deed (Some (plain_of kept)) ≡ Err NotDealt
not_dealt deal kept board seat at deed same none =
    ap (λ b. require b NotCurrent >> answer_dealt (plain_of kept) seat at deed deal) same ∙ ap (answer_dealt (plain_of kept) seat at deed) none

-- the answer in the play that is found
pub answer_there : (deals : Deals) (kept : Record) (hands : List ℕ) (board : ℕ) (seat : Seat) (at : ℕ) (deed : Deed) → IsTiedIn deals kept → (kept.board == board) ≡ true → kept.board ≡ board → deal_on deals board ≡ Some hands → answer_current (deal_on deals board) board seat at deed (Some (plain_of kept)) ≡ deed_answer kept.auction kept.play seat at deed
answer_there deals kept hands board seat at deed tied test same dealt =
    let there : hands_on deals kept.board ≡ hands = ap (λ b. unwrap_or (deal_on deals b) []) same ∙ ap (λ o. unwrap_or o []) dealt in
    ap (λ b. require b NotCurrent >> answer_dealt (plain_of kept) seat at deed (deal_on deals board)) test
    ∙ ap (answer_dealt (plain_of kept) seat at deed) dealt
    ∙ ap (λ dealer. deed_answer (record { dealer = dealer; calls = kept.auction.calls }) (play_of hands (plain_of kept)) seat at deed) (sym tied.tied.dealer)
    ∙ ap (λ h. deed_answer kept.auction (play_of h (plain_of kept)) seat at deed) (sym there)
    ∙ ap (λ play. deed_answer kept.auction play seat at deed) (sym tied.tied.play)

-- what is left there
pub after_there : (deals : Deals) (kept : Record) (hands : List ℕ) (board : ℕ) (seat : Seat) (at : ℕ) (deed : Deed) → IsTiedIn deals kept → kept.board ≡ board → deal_on deals board ≡ Some hands → deed_answer kept.auction kept.play seat at deed ≡ Ok tt → IsAfter hands seat deed kept
after_there deals kept hands board seat at deed tied same dealt ok =
    let there : hands_on deals kept.board ≡ hands = ap (λ b. unwrap_or (deal_on deals b) []) same ∙ ap (λ o. unwrap_or o []) dealt in
    after_is kept.board kept.auction kept.claims kept.play kept.ruling hands seat at deed (subst (λ h. IsTied h kept) there tied.tied) ok

pub tied_after : (deals : Deals) (kept : Record) (hands : List ℕ) (board : ℕ) (seat : Seat) (deed : Deed) → kept.board ≡ board → deal_on deals board ≡ Some hands → IsAfter hands seat deed kept → IsTiedIn deals (after_deed hands seat deed kept)
tied_after deals kept hands board seat deed same dealt after =
    let now = after_deed hands seat deed kept in
    let there : hands_on deals now.board ≡ hands =
    ap (λ b. unwrap_or (deal_on deals b) []) (after.board ∙ same) ∙ ap (λ o. unwrap_or o []) dealt in
    let is_dealt : deal_on deals now.board ≡ Some hands = ap (deal_on deals) (after.board ∙ same) ∙ dealt in
    record {
      tied = subst (λ h. IsTied h now) (sym there) after.tied;
      undealt = λ none. absurd (cc (is_dealt, none));
    }

-- two records that are seen as one are of one board
pub one_board : (a b : Record) → Some (plain_of a) ≡ Some (plain_of b) → a.board ≡ b.board
one_board a b same =
    let seen : plain_of a ≡ plain_of b = cc in
    ap (λ (plain : PlainRecord). plain.board) seen

-- the records of a table, of which the current one was changed
pub acted_is : (deals : Deals) (table : List Record) (index : ℕ) (kept after : Record) (seat : Seat) (deed : Deed) → All (IsTiedIn deals) table → position is_kept_open table ≡ Some index → kept ≡ slice_index_or table index kept → plain_of after ≡ with_deed seat deed (plain_of kept) → map plain_of (slice_set table index after) ≡ acted_among seat deed (map plain_of table)
acted_is deals table index kept after seat deed tied found is left =
    let records = map plain_of table in
    map-set plain_of table index after
    ∙ ap (slice_set records index) left
    ∙ ap (λ at. slice_set records at (with_deed seat deed (plain_of kept))) (is_current deals table index tied found)
    ∙ sym (changed_at-Some (with_deed seat deed) records (current_index records) (plain_of kept) (current_is deals table index kept tied found is))
