-- A session after a board is dealt.
use Rattle.std.proofs.Common.{◌≡◌, ◌-◌, ◌*◌, ◌<◌, ◌≤◌, ℕ, Bool, true, false, not, cond, List, [], length, Option, Some, None, Result, Ok, Err, refl, sym, ap, ◌∙◌, subst, inl, inr, length-set}
use Rattle.std.specs.Prelude.{is_some, nat_le, slice_get, slice_set, slice_index_or, unwrap_or}
use Rattle.std.specs.Option.{option_map}
use Rattle.std.proofs.lemmas.Bool.{cases_eq, le-leb}
use Rattle.std.proofs.lemmas.List.{get_or_default}
use Rattle.std.proofs.lemmas.Option.{unwrap_or-slice_get}
use Rattle.bridge_cards.specs.Board.{dealer_of}
use Rattle.bridge_cards.specs.Deal.{is_dealt_out}
use Rattle.bridge_auction.specs.Legal.{is_ended}
use Rattle.bridge_config.specs.ConfigValue.{ConfigValue}
use Rattle.bridge_table.specs.declared.record.Record.{Record}
use Rattle.session_rules.specs.Record.{playing_in, contract_in}
use Rattle.session_rules.specs.declared.refused.Refused.{Refused}
use Rattle.session_rules.specs.declared.refused.Refused.TheVariants.{Closed, NoSuchPlay, AlreadyDealt, BadDeal}
use Rattle.session_rules.specs.State.{SessionValue, deal_on, hands_on, is_closed}
use Rattle.session_rules.specs.DirectorStep.{deal_answer}
use Rattle.session_rules.specs.StateRange.{IsSession}
use Rattle.bridge_table.specs.Kept.{plain_of, IsTied, IsTiedIn}
use Rattle.bridge_session.specs.KeptSession.{state_of, StateASession, IsKeptSession}
use Rattle.session_rules.proofs.PlainRecords.{no_contract, other_deal}

-- a record without calls has no play, and is tied to any hands
pub without_calls : (hands others : List ℕ) (kept : Record) → IsTied hands kept → kept.auction.calls ≡ [] → IsTied others kept
without_calls hands others kept tied none =
    let dealer = dealer_of kept.board in
    let no : contract_in (plain_of kept) ≡ None = no_contract dealer kept.auction.calls (ap is_ended none) in
    let play = λ (h : List ℕ). ap (option_map (playing_in h (plain_of kept))) no in
    record { dealer = tied.dealer; play = tied.play ∙ play hands ∙ sym (play others) }

-- a record is tied still when a board is dealt that was not
tied_dealt : (deals : List (Option (List ℕ))) (board : ℕ) (hands : List ℕ) (kept : Record) → deal_on deals board ≡ None → IsTiedIn deals kept → IsTiedIn (slice_set deals (board - 1) (Some hands)) kept
tied_dealt deals board hands kept none tied =
    let after = slice_set deals (board - 1) (Some hands) in
    elim (cases_eq (kept.board - 1) (board - 1)) [
      | inl same ↦
          let was : deal_on deals kept.board ≡ None = ap (λ index. unwrap_or (slice_get deals index) None) same ∙ none in
          let calls = tied.undealt was in
          record { tied = without_calls (hands_on deals kept.board) (hands_on after kept.board) kept tied.tied calls; undealt = λ still. calls }
      | inr apart ↦
          let deal : deal_on after kept.board ≡ deal_on deals kept.board = other_deal deals board kept.board (Some hands) apart in
          record {
            tied = subst (λ h. IsTied h kept) (ap (λ d. unwrap_or d []) (sym deal)) tied.tied;
            undealt = λ still. tied.undealt (sym deal ∙ still);
          }
    ]

pub kept_dealt : (configuration : ConfigValue) (round : ℕ) (deals : List (Option (List ℕ))) (tables : List (List Record)) (board : ℕ) (hands : List ℕ) → deal_on deals board ≡ None → IsSession (state_of configuration round (slice_set deals (board - 1) (Some hands)) tables) → IsKeptSession configuration round deals tables → IsKeptSession configuration round (slice_set deals (board - 1) (Some hands)) tables
unfolding StateASession
kept_dealt configuration round deals tables board hands none session kept = record {
  session = session;
  begun = kept.begun;
  boards = length-set deals (board - 1) (Some hands) ∙ kept.boards;
  rows = kept.rows;
  few = kept.few;
  boards_are = kept.boards_are;
  tied = λ k d within i e inside. tied_dealt deals board hands _ none (kept.tied k d within i e inside);
}

not_some : (deal : Option (List ℕ)) → is_some deal ≡ false → deal ≡ None
not_some None e = refl
not_some (Some hands) e = absurd cc

-- an index without a deal
pub was_none : (deals : List (Option (List ℕ))) (index board : ℕ) (deal : Option (List ℕ)) → index ≡ board - 1 → index < length deals → deal ≡ slice_index_or deals index deal → is_some deal ≡ false → deal_on deals board ≡ None
was_none deals index board deal is within found none =
    ap (λ p. unwrap_or (slice_get deals p) None) (sym is)
    ∙ unwrap_or-slice_get deals index None
    ∙ get_or_default deals index None deal within
    ∙ sym found
    ∙ not_some deal none

-- the answer to a deal that is accepted
pub deal_accepted : (s : SessionValue) (board : ℕ) (hands : List ℕ) → is_closed s.configuration s.round ≡ false → board ≤ s.configuration.movement.shape.sets * s.configuration.boards → deal_on s.deals board ≡ None → is_dealt_out hands ≡ true → deal_answer s board hands ≡ Ok tt
deal_accepted s board hands open_session within none dealt =
    let known : nat_le board (s.configuration.movement.shape.sets * s.configuration.boards) ≡ true = le-leb _ _ within in
    let last : Bool → Result (Unit {0}) Refused = λ b. cond (not b) (Err BadDeal) (Ok tt) in
    let third : Option (List ℕ) → Result (Unit {0}) Refused = λ o. cond (is_some o) (Err AlreadyDealt) (last (is_dealt_out hands)) in
    let second : Bool → Result (Unit {0}) Refused = λ b. cond (not b) (Err NoSuchPlay) (third (deal_on s.deals board)) in
    let first : Bool → Result (Unit {0}) Refused = λ b. cond b (Err Closed) (second (nat_le board (s.configuration.movement.shape.sets * s.configuration.boards))) in
    ap first open_session ∙ ap second known ∙ ap third none ∙ ap last dealt
