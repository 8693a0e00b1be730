use Rattle.std.proofs.Common.{◌∷◌, ◌++◌, [], ◌∙◌, map, take, sym, ap, subst, arith}
use Rattle.std.proofs.lemmas.List.{map-append}
use Rattle.std.proofs.lemmas.List.Elements.{All-push}
use Rattle.session_bytes.specs.Parts.{deal_part}
use Rattle.session_bytes.specs.Reading.{items_of, AreDeals}
use Rattle.session_rules.specs.StateRange.{AreHandsOrNone}
use Rattle.session_rules.specs.Valid.{IsDealOrNone}
use Rattle.session_bytes.proofs.PartLemmas.{next_taken, set_taken}
use Rattle.session_bytes.proofs.ReadLists.{all_there, mapped_at}
use Rattle.session_bytes.proofs.tables_read.read_deals.Goals as goal

pub returns-in_err-deals-clause-other : goal.returns-in_err-deals-clause-other
returns-in_err-deals-clause-other c = rw c.from_residual.ensures λ deals are is.
    let index = c.loop-index.index in
    let found = mapped_at deal_part items_of deals c.args.parts.now index c.index-parts-index.result is c.loop-index-test.true c.index-parts-index.is in
    c.in_err-deals.ensures.other found.0 (all_there IsDealOrNone deals index found.0 are.dealt found.1)
    (all_there AreHandsOrNone deals index found.0 are.hands found.1) (found.2 ∙ sym c.as_slice.ensures.value)

pub loop-index-preserved : goal.loop-index-preserved
loop-index-preserved c =
    let index = c.loop-index.index in
    let deals = c.loop-index.deals in
    let parts = c.args.parts.now in
    let deal = c.in_ok-deals.field-0 in
    let longer = set_taken deals index deal (omega (arith, c.requires, c.loop-index-test.true)) in
    let next = next_taken parts index c.index-parts-index.result c.loop-index-test.true c.index-parts-index.is in
    record {
      so_far = ap (map deal_part) longer ∙ map-append deal_part (take index deals) (deal ∷ [])
          ∙ ap (λ xs. xs ++ deal_part deal ∷ []) c.loop-index.invariant.so_far
          ∙ ap (λ x. map items_of (take index parts) ++ x ∷ []) (c.in_ok-deals.ensures.written ∙ c.as_slice.ensures.value)
          ∙ sym (ap (map items_of) next ∙ map-append items_of (take index parts) (c.index-parts-index.result ∷ []));
      deals = subst AreDeals (sym longer) (record {
        dealt = All-push IsDealOrNone (take index deals) deal c.loop-index.invariant.deals.dealt c.in_ok-deals.ensures.deal;
        hands = All-push AreHandsOrNone (take index deals) deal c.loop-index.invariant.deals.hands c.in_ok-deals.ensures.hands;
      });
    }
