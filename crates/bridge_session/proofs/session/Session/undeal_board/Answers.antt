use Rattle.std.proofs.Common.{◌≡◌, ◌-◌, ◌≤◌, ◌*◌, false, not, None, Ok, sym, ap, ◌∙◌, subst, arith}
use Rattle.std.specs.Prelude.{is_none, slice_set}
use Rattle.std.specs.List.{list_any}
use Rattle.std.proofs.lemmas.List.Elements.{All-set}
use Rattle.session_rules.specs.State.{SessionValue, deal_on, director_answer}
use Rattle.session_rules.specs.DirectorStep.{if_allowed, is_begun_on, is_ruled_on, undeal_answer}
use Rattle.session_rules.specs.StateRange.{AreHandsOrNone, IsSession}
use Rattle.session_rules.proofs.ValidUndeal.{undeal_valid}
use Rattle.bridge_session.specs.KeptSession.{state_of, IsKeptSession}
use Rattle.bridge_session.proofs.Acted.{kept_session}
use Rattle.bridge_table.proofs.Tables.{lists_in}
use Rattle.bridge_session.proofs.Undealt.{was_dealt, kept_undealt, undeal_accepted}
use Rattle.bridge_session.proofs.session.Session.undeal_board.Goals as goal
use Rattle.bridge_session.proofs.session.Session.undeal_board.Goals.{After-self-1}

-- the index of the board
index_is : (c : After-self-1) → c.from-index.result ≡ c.args.board - 1
index_is c = c.from-index.ensures ∙ ap (λ n. n - 1) c.number.ensures.number

-- the session before
abbrev before : After-self-1 → SessionValue
before c = state_of c.self.inside.config c.self.inside.round c.self.inside.deals.items (lists_in c.self.inside.tables.items)

-- it is one
session_before : (c : After-self-1) → IsSession (before c)
session_before c = kept_session c.self.inside.config c.self.inside.round c.self.inside.deals.items (lists_in c.self.inside.tables.items) c.self.invariant

-- the board was dealt
dealt_there : (c : After-self-1) → is_none (deal_on c.self.inside.deals.items c.args.board) ≡ false
dealt_there c =
    was_dealt c.self.inside.deals.items c.from-index.result c.args.board c.index.result.now (index_is c) (omega arith) c.index.ensures (ap not (c.is_none.ensures ∙ ap not c.if-is_none.false))

-- no call was made on it
unbegun : (c : After-self-1) → list_any (list_any (is_begun_on c.args.board)) (before c).records ≡ false
unbegun c = ap (λ (t : SessionValue). list_any (list_any (is_begun_on c.args.board)) t.records) c.self.view_is ∙ sym c.is_begun.ensures ∙ c.if-is_begun.false

-- and no ruling stands
unruled : (c : After-self-1) → list_any (list_any (is_ruled_on c.args.board)) (before c).records ≡ false
unruled c = ap (λ (t : SessionValue). list_any (list_any (is_ruled_on c.args.board)) t.records) c.self.view_is ∙ sym c.is_ruled.ensures ∙ c.if-is_ruled.false

accepted : (c : After-self-1) → undeal_answer (before c) c.args.board ≡ Ok tt
accepted c =
    let s = c.self.inside in
    let within : c.args.board ≤ s.config.movement.shape.sets * s.config.boards = omega (arith, index_is c, c.self.invariant.boards) in
    undeal_accepted (before c) c.args.board (sym c.if-is_closed.ensures) within (dealt_there c) (unbegun c) (unruled c)

pub invariant_of-self : goal.invariant_of-self
invariant_of-self c =
    let s = c.self.inside in
    let lists = lists_in s.tables.items in
    let least : 1 ≤ c.args.board = omega (arith, c.number.ensures.number, c.number.ensures.range.0) in
    let session : IsSession (state_of s.config s.round (slice_set s.deals.items (c.args.board - 1) None) lists) = record {
      valid = undeal_valid (before c) c.args.board least (session_before c).valid (accepted c);
      ranges = record {
        deals = All-set AreHandsOrNone s.deals.items (c.args.board - 1) None tt (session_before c).ranges.deals;
        records = (session_before c).ranges.records;
      };
    } in
    subst (λ index. IsKeptSession s.config s.round (slice_set s.deals.items index None) lists) (sym (index_is c))
    (kept_undealt s.config s.round s.deals.items lists c.args.board least (unbegun c) session c.self.invariant)

pub returns-clause-answer : goal.returns-clause-answer
returns-clause-answer c =
    sym (accepted c)
    ∙ ap (λ allowed. if_allowed allowed (undeal_answer (before c) c.args.board)) c.in_ok-check_director.ensures
    ∙ ap (λ (t : SessionValue). if_allowed (director_answer t.configuration c.args.key.0) (undeal_answer t c.args.board)) c.self.view_is
