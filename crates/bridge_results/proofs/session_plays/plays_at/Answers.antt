use Rattle.std.proofs.Common.{Option, sym, subst}
use Rattle.std.specs.Prelude.{All, IfSome}
use Rattle.std.proofs.lemmas.List.Elements.{All-append, All-nil}
use Rattle.bridge_results.specs.declared.play.TablePlay.{TablePlay}
use Rattle.bridge_results.specs.Plays.{HasTricksWithin}
use Rattle.bridge_results.proofs.Plays.{all_perhaps}
use Rattle.bridge_results.proofs.session_plays.plays_at.Goals as goal

pub returns-clause-tricks : goal.returns-clause-tricks
returns-clause-tricks c =
    let if_some = λ (o : Option TablePlay). IfSome o HasTricksWithin in
    let all = All HasTricksWithin in
    let none : All HasTricksWithin c.new-plays.result.items = subst all (sym c.new-plays.ensures) (All-nil HasTricksWithin) in
    let one : All HasTricksWithin c.push_play.new.plays.items =
    subst all (sym c.push_play.ensures.plays)
    (All-append HasTricksWithin c.new-plays.result.items _ none (all_perhaps HasTricksWithin _ (subst if_some (sym c.as_ref.ensures.value) c.table_play_at.ensures.tricks))) in
    let two : All HasTricksWithin c.push_play-2.new.plays.items =
    subst all (sym c.push_play-2.ensures.plays)
    (All-append HasTricksWithin c.push_play.new.plays.items _ one (all_perhaps HasTricksWithin _ (subst if_some (sym c.as_ref-2.ensures.value) c.table_play_at-2.ensures.tricks))) in
    subst all (sym c.push_play-3.ensures.plays)
    (All-append HasTricksWithin c.push_play-2.new.plays.items _ two (all_perhaps HasTricksWithin _ (subst if_some (sym c.as_ref-3.ensures.value) c.table_play_at-3.ensures.tricks)))
