use Rattle.std.proofs.Common.{[], ◌∷◌}
use Rattle.std.specs.Prelude.{codes}
use Rattle.bridge_pbn.specs.Tags.{tag}
use Rattle.bridge_pbn.proofs.Pushed.{line_then, line_last}
use Rattle.bridge_pbn.proofs.tags.push_unplayed.Goals as goal

pub returns-clause-lines : goal.returns-clause-lines
returns-clause-lines c =
    let last = tag (codes "Result") [] in
    let second = tag (codes "Contract") c.args.contract.now in
    line_then _ _ _ (tag (codes "Declarer") []) (second ∷ last ∷ []) c.push_tag.ensures.line
    (line_then _ _ _ second (last ∷ []) c.push_tag-2.ensures.line (line_last _ _ last c.push_tag-3.ensures.line))
