use Rattle.std.proofs.Common.{◌≡◌, ◌<◌, ◌++◌, length, Some, sym, ap, ◌∙◌, subst, arith}
use Rattle.std.specs.Prelude.{All, flat_map, zip, slice_get}
use Rattle.std.proofs.lemmas.List.{length-map, take_all}
use Rattle.std.proofs.lemmas.List.Elements.{All-append}
use Rattle.std.proofs.lemmas.Option.{get_or_from_slice_get}
use Rattle.std.proofs.lemmas.Slice.Zip.{length-zip}
use Rattle.bridge_movement.specs.declared.row.Row.{Row}
use Rattle.bridge_ranking.specs.KeptGames.{IsGame, kept_games_in}
use Rattle.bridge_table.proofs.Tables.{lists_in, list_there}
use Rattle.bridge_ranking.proofs.Games.{grown_games}
use Rattle.bridge_ranking.proofs.game.games_of.Goals as goal

-- the value that a read past the end would give
abbrev none : Row
none = record { round = 0; table = 0; ns = 0; ew = 0; set = 0 }

pub loop-index-preserved : goal.loop-index-preserved
loop-index-preserved c =
    let rows = c.args.rows.now in
    let lists = lists_in c.args.tables.now in
    let index = c.loop-index.index in
    let games = c.loop-index.games.items in
    let table = c.as_slice.result.now in
    let inside : index < length lists = omega (arith, length-map c.args.tables.now (λ t. t.items), c.requires.count, c.loop-index-test.true) in
    let there : slice_get lists index ≡ Some table = list_there c.args.tables.now index c.index-tables-index.result inside c.index-tables-index.is ∙ ap Some (sym c.as_slice.ensures.value) in
    let played = c.deref.ensures.0 ∙ c.games_in-played.ensures.games in
    let grown : c.try_extend_from_slice.new.self.items ≡ games ++ c.deref.result.now = rw c.unwrap.ensures at c.try_extend_from_slice.ensures.ok in
    let len = rw c.unwrap.ensures at c.try_extend_from_slice.ensures.len in
    record {
      games = grown_games rows lists index none table games c.try_extend_from_slice.new.self.items c.loop-index-test.true inside (get_or_from_slice_get lists index table table there) c.loop-index.invariant.games
          (grown ∙ ap (λ gs. games ++ gs) played);
      each = subst (All IsGame) (sym grown)
          (All-append IsGame games c.deref.result.now c.loop-index.invariant.each (subst (All IsGame) (sym c.deref.ensures.0) c.games_in-played.ensures.each));
      few = omega (arith, len, c.deref.ensures.1, c.loop-index.invariant.few);
    }

pub returns-clause-games : goal.returns-clause-games
returns-clause-games c =
    let rows = c.args.rows.now in
    let lists = lists_in c.args.tables.now in
    c.loop-index.invariant.games
    ∙ ap (flat_map kept_games_in) (take_all c.loop-index.index (zip rows lists) (omega (arith, length-zip rows lists, c.loop-index-test.false)))
