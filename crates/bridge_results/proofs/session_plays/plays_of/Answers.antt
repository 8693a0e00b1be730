use Rattle.std.proofs.Common.{◌≡◌, ◌+◌, ◌++◌, ◌∷◌, [], List, length, get_or, take, sym, ap, ◌∙◌, subst, arith, append-nil}
use Rattle.std.specs.Prelude.{All, flat_map}
use Rattle.std.proofs.lemmas.List.{take_all, take_more}
use Rattle.std.proofs.lemmas.List.Concat.{flat_map-append}
use Rattle.std.proofs.lemmas.List.Elements.{All-append}
use Rattle.bridge_movement.specs.declared.row.Row.{Row}
use Rattle.bridge_config.specs.ConfigValue.{ConfigValue}
use Rattle.bridge_results.specs.declared.play.TablePlay.{TablePlay}
use Rattle.bridge_results.specs.Plays.{plays_at, HasTricksWithin}
use Rattle.bridge_results.proofs.Plays.{plays_are}
use Rattle.bridge_results.proofs.session_plays.plays_of.Goals as goal

-- the value that a read past the end would give
abbrev none : Row
none = record { round = 0; table = 0; ns = 0; ew = 0; set = 0 }

pub loop-row-preserved : goal.loop-row-preserved
loop-row-preserved c =
    let f = plays_at c.args.session.now in
    let rows = c.rows-rows.result.now in
    let i = c.loop-row.row-index in
    let plays = c.loop-row.plays.items in
    let grown : c.try_extend_from_slice.new.self.items ≡ plays ++ c.deref.result.now = rw c.unwrap.ensures at c.try_extend_from_slice.ensures.ok in
    let len = rw c.unwrap.ensures at c.try_extend_from_slice.ensures.len in
    let played : c.deref.result.now ≡ f (get_or rows i none) = c.deref.ensures.0 ∙ c.plays_at-played.ensures.plays in
    let more : flat_map f (take (i + 1) rows) ≡ flat_map f (take i rows) ++ f (get_or rows i none) =
    ap (flat_map f) (take_more rows i none c.loop-row-test.true)
    ∙ flat_map-append f (take i rows) (get_or rows i none ∷ [])
    ∙ ap (λ (last : List TablePlay). flat_map f (take i rows) ++ last) (append-nil (f (get_or rows i none))) in
    record {
      plays =
          grown
          ∙ ap (λ (before : List TablePlay). before ++ c.deref.result.now) c.loop-row.invariant.plays
          ∙ ap (λ (last : List TablePlay). flat_map f (take i rows) ++ last) played
          ∙ sym more;
      tricks = subst (All HasTricksWithin) (sym grown)
          (All-append HasTricksWithin plays c.deref.result.now c.loop-row.invariant.tricks (subst (All HasTricksWithin) (sym c.deref.ensures.0) c.plays_at-played.ensures.tricks));
      few = omega (arith, len, ap length c.deref.ensures.0, c.plays_at-played.ensures.few, c.loop-row.invariant.few);
    }

pub returns-clause-plays : goal.returns-clause-plays
returns-clause-plays c =
    let s = c.args.session.now in
    let rows = c.rows-rows.result.now in
    let stated : rows ≡ s.configuration.movement.rows = c.rows-rows.ensures.rows ∙ ap (λ (k : ConfigValue). k.movement.rows) (c.fields.ensures.fields ∙ c.config.ensures) in
    c.loop-row.invariant.plays
    ∙ ap (flat_map (plays_at s)) (take_all c.loop-row.row-index rows c.loop-row-test.false ∙ stated)
    ∙ plays_are s c.requires
