use Rattle.std.proofs.Common.{◌≡◌, ◌∙◌, [], Some, None, refl, sym, ap, arith}
use Rattle.std.proofs.lemmas.List.{ext_get_or}
use Rattle.session_store.specs.declared.disk_format.DiskFormat.TheVariants.{Two}
use Rattle.session_store.proofs.looking.is_same_state.Goals as goal

pub returns : goal.returns
returns g c =
    let kept = g.K.Kept.kept in
    let restored = g.met.K.Kept.lawful.restored in
    let left = c.args.left.now in
    let right = c.args.right.now in
    let same : kept.parts left ≡ kept.parts right
    = ext_get_or [] (kept.parts left) (kept.parts right) (omega (arith, c.parts-count.ensures.count, c.parts.ensures.count, c.if-parts-count.false))
    (λ i below. c.loop-i.invariant i (omega (arith, below, c.parts-count.ensures.count, c.loop-i-test.false))) in
    (λ equal. ap (λ o. elim o [ Some s ↦ s | None ↦ left ]) (sym (restored left c.parts-count.ensures.state) ∙ ap (kept.state_of Two) same ∙ restored right c.parts.ensures.state), λ equal. refl)
