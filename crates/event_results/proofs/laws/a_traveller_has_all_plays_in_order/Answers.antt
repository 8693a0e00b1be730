use Rattle.event_results.specs.EventTraveller.{event_rows}
use Rattle.event_results.proofs.Order.{all_in_order, in_order_permutes}
use Rattle.event_results.proofs.laws.a_traveller_has_all_plays_in_order.Goals as goal

pub returns : goal.returns
returns c = record {
  same = λ sections board. in_order_permutes (event_rows sections board);
  order = λ sections board. all_in_order (event_rows sections board);
}
