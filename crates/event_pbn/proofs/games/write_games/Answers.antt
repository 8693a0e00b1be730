use Rattle.event_pbn.proofs.games.write_games.Goals as goal

pub returns-in-Some : goal.returns-in-Some
returns-in-Some g c =
    let there = rw c.sections.ensures.sections at c.in-Some.ensures.value in
    rw (← there) (rw (c.config.ensures, c.first_board.ensures) at c.write_all.ensures)
