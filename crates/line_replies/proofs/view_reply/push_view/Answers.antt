use Rattle.std.proofs.Common.{[], ◌∷◌, map}
use Rattle.std.specs.Prelude.{codes}
use Rattle.std.specs.Fmt.{decimal}
use Rattle.bridge_cards.specs.DealText.{hand_text}
use Rattle.bridge_auction.specs.Spelling.{call_text}
use Rattle.line_replies.proofs.Added.{line_then, line_last}
use Rattle.line_replies.specs.ReplyTexts.{spaced_line}
use Rattle.line_replies.specs.ViewText.{seat_word, phase_text, hand_or_dash, trick_words, claim_words, play_line, dealer_line, at_line, view_lines}
use Rattle.line_replies.proofs.Pairs.{listed_is}
use Rattle.line_replies.proofs.view_reply.push_view.Goals as goal

pub returns : goal.returns
returns c =
    let view = c.args.view.now in
    let claim = spaced_line (codes "CLAIM") (claim_words view.claim) ∷ [] in
    let tricks = spaced_line (codes "TRICKS") (decimal view.tricks_ns ∷ decimal view.tricks_ew ∷ []) ∷ claim in
    let last = spaced_line (codes "LAST") (trick_words view.last) ∷ tricks in
    let trick = spaced_line (codes "TRICK") (trick_words view.trick) ∷ last in
    let calls = spaced_line (codes "CALLS") (map call_text view.calls.now) ∷ trick in
    let dummy = spaced_line (codes "DUMMY") (hand_or_dash view.dummy ∷ []) ∷ calls in
    let hand = spaced_line (codes "HAND") (hand_text view.hand ∷ []) ∷ dummy in
    let at = at_line view ∷ hand in
    let turn = spaced_line (codes "TURN") (seat_word view.turn ∷ []) ∷ at in
    let phase = spaced_line (codes "PHASE") (phase_text view.in_play ∷ []) ∷ turn in
    let dealer = dealer_line view ∷ phase in
    let seat = spaced_line (codes "SEAT") (seat_word view.seat ∷ []) ∷ dealer in
    listed_is (view_lines view) _ _ _ _ c.requires.empty c.push_str.ensures.bytes
    (line_then _ _ _ (play_line view) seat c.push_play_line.ensures.line
    (line_then _ _ _ (spaced_line (codes "SEAT") (seat_word view.seat ∷ [])) dealer c.push_seat_line.ensures.line
    (line_then _ _ _ (dealer_line view) phase c.push_dealer_line.ensures.line
    (line_then _ _ _ (spaced_line (codes "PHASE") (phase_text view.in_play ∷ [])) turn c.push_phase_line.ensures.line
    (line_then _ _ _ (spaced_line (codes "TURN") (seat_word view.turn ∷ [])) at c.push_seat_line-2.ensures.line
    (line_then _ _ _ (at_line view) hand c.push_at_line.ensures.line
    (line_then _ _ _ (spaced_line (codes "HAND") (hand_text view.hand ∷ [])) dummy c.push_hand_line.ensures.line
    (line_then _ _ _ (spaced_line (codes "DUMMY") (hand_or_dash view.dummy ∷ [])) calls c.push_dummy_line.ensures.line
    (line_then _ _ _ (spaced_line (codes "CALLS") (map call_text view.calls.now)) trick c.push_calls_line.ensures.line
    (line_then _ _ _ (spaced_line (codes "TRICK") (trick_words view.trick)) last c.push_trick_line.ensures.line
    (line_then _ _ _ (spaced_line (codes "LAST") (trick_words view.last)) tricks c.push_trick_line-2.ensures.line
    (line_then _ _ _ (spaced_line (codes "TRICKS") (decimal view.tricks_ns ∷ decimal view.tricks_ew ∷ [])) claim c.push_tricks_line.ensures.line
    (line_last _ _ (spaced_line (codes "CLAIM") (claim_words view.claim)) c.push_claim_line.ensures.line)))))))))))))
    c.push_str-2.ensures.bytes
