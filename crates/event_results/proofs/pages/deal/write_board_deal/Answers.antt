use Rattle.event_results.proofs.pages.deal.write_board_deal.Goals as goal

pub returns : goal.returns
returns g c = rw (c.first_deal.ensures, c.makeable_on-known.ensures) at c.write_deal.ensures
