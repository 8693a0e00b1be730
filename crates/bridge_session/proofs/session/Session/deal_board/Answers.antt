use Rattle.std.proofs.Common.{◌≡◌, ◌-◌, ◌<◌, ◌≤◌, ◌*◌, length, Some, None, Ok, sym, ap, ◌∙◌, subst, arith}
use Rattle.std.specs.Prelude.{slice_set}
use Rattle.session_rules.specs.State.{SessionValue, deal_on, director_answer}
use Rattle.session_rules.specs.DirectorStep.{if_allowed, deal_answer}
use Rattle.session_rules.specs.StateRange.{AreHands, AreHandsOrNone, IsSession}
use Rattle.bridge_session.specs.KeptSession.{state_of, IsKeptSession}
use Rattle.bridge_session.proofs.Acted.{kept_session}
use Rattle.bridge_table.proofs.Tables.{lists_in}
use Rattle.std.proofs.lemmas.List.Elements.{All-set}
use Rattle.session_rules.proofs.ValidRound.{deal_valid}
use Rattle.bridge_session.proofs.Dealt.{was_none, kept_dealt, deal_accepted}
use Rattle.bridge_session.proofs.session.Session.deal_board.Goals as goal
use Rattle.bridge_session.proofs.session.Session.deal_board.Goals.{After-self-1}

-- the index of the board
index_is : (c : After-self-1) → c.from-index.result ≡ c.args.board - 1
index_is c = c.from-index.ensures ∙ ap (λ n. n - 1) c.number.ensures.number

-- the board was not dealt
none_there : (c : After-self-1) → deal_on c.self.inside.deals.items c.args.board ≡ None
none_there c =
    let deals = c.self.inside.deals.items in
    let within : c.from-index.result < length deals = omega arith in
    was_none deals c.from-index.result c.args.board c.index.result.now (index_is c) within c.index.ensures (sym c.is_some.ensures ∙ c.if-is_some.false)

-- the session before
abbrev before : After-self-1 → SessionValue
before c = state_of c.self.inside.config c.self.inside.round c.self.inside.deals.items (lists_in c.self.inside.tables.items)

-- it is one
session_before : (c : After-self-1) → IsSession (before c)
session_before c = kept_session c.self.inside.config c.self.inside.round c.self.inside.deals.items (lists_in c.self.inside.tables.items) c.self.invariant

accepted : (c : After-self-1) → deal_answer (before c) c.args.board c.args.hands ≡ Ok tt
accepted c =
    let s = c.self.inside in
    let within : c.args.board ≤ s.config.movement.shape.sets * s.config.boards = omega (arith, index_is c, c.self.invariant.boards) in
    deal_accepted (before c) c.args.board c.args.hands (sym c.if-is_closed.ensures) within (none_there c) (sym c.in-Ok.ensures.test)

pub invariant_of-self : goal.invariant_of-self
invariant_of-self c =
    let s = c.self.inside in
    let lists = lists_in s.tables.items in
    let dealt : AreHands c.in-Ok.deal = (c.in-Ok.ensures.judged.1.four, λ index d within. (c.in-Ok.ensures.judged.1.each index d within).set) in
    let hands = subst AreHands c.in-Ok.ensures.judged.0 dealt in
    let is : IsSession (state_of s.config s.round (slice_set s.deals.items (c.args.board - 1) (Some c.args.hands)) lists) = record {
      valid = deal_valid (before c) c.args.board c.args.hands (session_before c).valid (accepted c);
      ranges = record {
        deals = All-set AreHandsOrNone s.deals.items (c.args.board - 1) (Some c.args.hands) hands (session_before c).ranges.deals;
        records = (session_before c).ranges.records;
      };
    } in
    let session = subst (λ hands. IsSession (state_of s.config s.round (slice_set s.deals.items (c.args.board - 1) (Some hands)) lists)) (sym c.in-Ok.ensures.judged.0) is in
    subst (λ index. IsKeptSession s.config s.round (slice_set s.deals.items index (Some c.in-Ok.deal)) lists) (sym (index_is c))
    (kept_dealt s.config s.round s.deals.items lists c.args.board c.in-Ok.deal (none_there c) session c.self.invariant)

pub returns-clause-answer : goal.returns-clause-answer
returns-clause-answer c =
    sym (accepted c)
    ∙ ap (λ allowed. if_allowed allowed (deal_answer (before c) c.args.board c.args.hands)) c.in_ok-check_director.ensures
    ∙ ap (λ (t : SessionValue). if_allowed (director_answer t.configuration c.args.key.0) (deal_answer t c.args.board c.args.hands)) c.self.view_is
