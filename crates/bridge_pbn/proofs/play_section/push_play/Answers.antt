use Rattle.std.proofs.Common.{◌/◌, [], ◌∷◌, ◌++◌, length, map}
use Rattle.std.specs.Prelude.{codes}
use Rattle.std.specs.List.{range_with_len}
use Rattle.bridge_cards.specs.Seat.{seat_letter}
use Rattle.bridge_play.specs.Trick.{leader_of}
use Rattle.bridge_pbn.specs.Tags.{tag}
use Rattle.bridge_pbn.specs.Sections.{trick_line, star_lines}
use Rattle.bridge_pbn.proofs.Pushed.{line_then, lines_then}
use Rattle.bridge_pbn.proofs.play_section.push_play.Goals as goal

pub returns-clause-lines : goal.returns-clause-lines
returns-clause-lines c =
    let tricks = length c.args.play.now.cards / 4 in
    let lines = map (trick_line c.args.play.now.contract c.args.play.now.cards) (range_with_len 0 tricks) in
    line_then _ _ _ (tag (codes "Play") (seat_letter (leader_of c.args.play.now.contract c.args.play.now.cards 0) ∷ [])) (lines ++ star_lines tricks)
    (rw (c.seat_text.ensures.text, c.leader.ensures) at c.push_tag.ensures.line)
    (lines_then _ _ _ lines (star_lines tricks) (rw c.cards.ensures.cards at c.push_tricks.ensures.lines) (rw c.cards.ensures.cards at c.push_star.ensures.lines))
