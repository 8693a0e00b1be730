use Rattle.std.proofs.Common.{option_map, false, inl, inr, refl, sym, ◌∙◌}
use Rattle.pair_pages.specs.Pair.{CountsInPair, pair_of}
use Rattle.table_pages.specs.Answered.{CountsKeys}
use Rattle.table_pages.specs.declared.line_server.Replies.{Replies}
use Rattle.pair_pages.proofs.PairLemmas.{accepts, both_served, text_second, text_first, some_weaker}
use Rattle.pair_pages.proofs.answering.serve_twice.Goals as goal

pub returns-then-has_failed-clause-served : goal.returns-then-has_failed-clause-served
returns-then-has_failed-clause-served g c = record {
  first_text = option_map (λ (replies : Replies). replies.text.items) c.answer_lines-ours.result;
  first_served = c.answer_lines-ours.new.store;
  first_answers = (c.answer_lines-ours.ensures.answered, c.answer_lines-ours.ensures.faults);
  first_settled = c.settle_served.ensures.settled.0;
  second_text = option_map (λ (replies : Replies). replies.text.items) c.answer_lines-theirs.result;
  second_served = c.answer_lines-theirs.new.store;
  second_answers = (c.answer_lines-theirs.ensures.answered, c.answer_lines-theirs.ensures.faults);
  second_settled = c.settle_served.ensures.settled.1;
  may_tell = λ works. (c.settle_served.ensures.shown c.if-settle_served.true).works;
  told = λ works s told.
      c.settle_served.ensures.told c.args.first.now c.args.second.now
      (both_served g.A.SectorDisk.disk g.B.SectorDisk.disk c.args.first.now c.answer_lines-ours.new.store c.args.second.now
      c.answer_lines-theirs.new.store s told
      (accepts g.A.SectorDisk.disk c.args.set c.args.first.now c.answer_lines-ours.new.store c.args.body.now _ c.answer_lines-ours.ensures.answered)
      (accepts g.B.SectorDisk.disk c.args.set c.args.second.now c.answer_lines-theirs.new.store c.args.body.now _ c.answer_lines-theirs.ensures.answered)
      c.answer_lines-ours.ensures.settled c.answer_lines-theirs.ensures.settled) c.if-settle_served.true;
  text_is = λ works. text_second _ _ _ (sym c.has_failed.ensures ∙ c.if-has_failed.true);
  untold = λ stopped. cc;
  stops = λ stopped. cc;
}

pub returns-then-has_failed-clause-counted : goal.returns-then-has_failed-clause-counted
returns-then-has_failed-clause-counted g c =
    some_weaker (λ (replies : Replies). CountsKeys c.args.set c.args.second.now c.args.body.now replies.wrong_keys)
    (λ (replies : Replies). CountsInPair c.args.set (pair_of c.args.first.now c.args.second.now false) c.args.body.now replies.wrong_keys)
    c.answer_lines-theirs.result (λ replies counts. inr counts) c.answer_lines-theirs.ensures.counted

pub returns-then-has_failed-clause-confirmed : goal.returns-then-has_failed-clause-confirmed
returns-then-has_failed-clause-confirmed g c = (
  c.settle_served.ensures.confirmed.0 c.answer_lines-ours.ensures.settled,
  c.settle_served.ensures.confirmed.1 c.answer_lines-theirs.ensures.settled,
)

pub returns-then-settle_served-clause-served : goal.returns-then-settle_served-clause-served
returns-then-settle_served-clause-served g c = record {
  first_text = option_map (λ (replies : Replies). replies.text.items) c.answer_lines-ours.result;
  first_served = c.answer_lines-ours.new.store;
  first_answers = (c.answer_lines-ours.ensures.answered, c.answer_lines-ours.ensures.faults);
  first_settled = c.settle_served.ensures.settled.0;
  second_text = option_map (λ (replies : Replies). replies.text.items) c.answer_lines-theirs.result;
  second_served = c.answer_lines-theirs.new.store;
  second_answers = (c.answer_lines-theirs.ensures.answered, c.answer_lines-theirs.ensures.faults);
  second_settled = c.settle_served.ensures.settled.1;
  may_tell = λ works. (c.settle_served.ensures.shown c.if-settle_served.true).works;
  told = λ works s told.
      c.settle_served.ensures.told c.args.first.now c.args.second.now
      (both_served g.A.SectorDisk.disk g.B.SectorDisk.disk c.args.first.now c.answer_lines-ours.new.store c.args.second.now
      c.answer_lines-theirs.new.store s told
      (accepts g.A.SectorDisk.disk c.args.set c.args.first.now c.answer_lines-ours.new.store c.args.body.now _ c.answer_lines-ours.ensures.answered)
      (accepts g.B.SectorDisk.disk c.args.set c.args.second.now c.answer_lines-theirs.new.store c.args.body.now _ c.answer_lines-theirs.ensures.answered)
      c.answer_lines-ours.ensures.settled c.answer_lines-theirs.ensures.settled) c.if-settle_served.true;
  text_is = λ works. text_first _ _ _ (sym c.has_failed.ensures ∙ c.if-has_failed.false);
  untold = λ stopped. cc;
  stops = λ stopped. cc;
}

pub returns-then-settle_served-clause-counted : goal.returns-then-settle_served-clause-counted
returns-then-settle_served-clause-counted g c =
    some_weaker (λ (replies : Replies). CountsKeys c.args.set c.args.first.now c.args.body.now replies.wrong_keys)
    (λ (replies : Replies). CountsInPair c.args.set (pair_of c.args.first.now c.args.second.now false) c.args.body.now replies.wrong_keys)
    c.answer_lines-ours.result (λ replies counts. inl counts) c.answer_lines-ours.ensures.counted

pub returns-then-settle_served-clause-confirmed : goal.returns-then-settle_served-clause-confirmed
returns-then-settle_served-clause-confirmed g c = (
  c.settle_served.ensures.confirmed.0 c.answer_lines-ours.ensures.settled,
  c.settle_served.ensures.confirmed.1 c.answer_lines-theirs.ensures.settled,
)

pub returns-clause-served : goal.returns-clause-served
returns-clause-served g c = record {
  first_text = option_map (λ (replies : Replies). replies.text.items) c.answer_lines-ours.result;
  first_served = c.answer_lines-ours.new.store;
  first_answers = (c.answer_lines-ours.ensures.answered, c.answer_lines-ours.ensures.faults);
  first_settled = c.settle_served.ensures.settled.0;
  second_text = option_map (λ (replies : Replies). replies.text.items) c.answer_lines-theirs.result;
  second_served = c.answer_lines-theirs.new.store;
  second_answers = (c.answer_lines-theirs.ensures.answered, c.answer_lines-theirs.ensures.faults);
  second_settled = c.settle_served.ensures.settled.1;
  may_tell = λ works. cc;
  told = λ works. cc;
  text_is = λ works. cc;
  untold = λ stopped. refl;
  stops = λ stopped. c.settle_served.ensures.untold c.if-settle_served.false;
}

pub returns-clause-confirmed : goal.returns-clause-confirmed
returns-clause-confirmed g c = (
  c.settle_served.ensures.confirmed.0 c.answer_lines-ours.ensures.settled,
  c.settle_served.ensures.confirmed.1 c.answer_lines-theirs.ensures.settled,
)
