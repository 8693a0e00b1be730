use Rattle.std.proofs.Common.{Some, [], ◌∷◌, List, ℕ, refl, sym, ap, ◌∙◌}
use Rattle.std.specs.Option.{option_map, option_copied}
use Rattle.session_rules.specs.State.{record_of}
use Rattle.line_text.specs.Lines.{lines_text}
use Rattle.bridge_pbn.specs.Written.{games_after}
use Rattle.bridge_pbn.proofs.Found.{game_found}
use Rattle.bridge_pbn.proofs.game.game_text.Goals as goal

pub returns-in-Some : goal.returns-in-Some
returns-in-Some c =
    let placed = rw c.config.ensures at c.in_ok-play.ensures in
    let game = game_found c.args.session.now c.args.board c.args.row c.in_ok-deal.deal.now c.in_ok-play.play (record_of c.args.session.now c.in_ok-play.play) c.in-Some.found.auction.now (option_copied c.in-Some.found.play) c.in-Some.found.outcome
    c.in_ok-deal.ensures placed refl c.in-Some.ensures.auction c.in-Some.ensures.play c.in-Some.ensures.outcome (sym c.is_listed.ensures ∙ c.if-is_listed.true) in
    ap Some (rw c.config-in-Some.ensures at c.new_game.ensures)
    ∙ sym (ap (option_map (λ (g : List (List ℕ)). lines_text (games_after c.args.begun (g ∷ [])))) game)
