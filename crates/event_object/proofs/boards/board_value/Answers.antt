use Rattle.event_object.specs.EventObject.{board_data}
use Rattle.event_object.proofs.boards.board_value.Goals as goal

pub returns : goal.returns
unfolding board_data
returns c =
    let with_board = c.with.ensures _ _ c.new.ensures (rw c.number.ensures.number at c.count_value.ensures) in
    let with_deal = c.with-2.ensures _ _ with_board (rw c.sections.ensures.sections at c.deal_value.ensures) in
    let with_dealer = c.with-3.ensures _ _ with_deal c.dealer_value.ensures in
    let with_plays = c.with-4.ensures _ _ with_dealer c.traveller_value.ensures in
    let with_vulnerable = c.with-5.ensures _ _ with_plays c.vulnerable_value.ensures in
    c.build.ensures _ with_vulnerable
