use Rattle.std.proofs.Common.{◌-◌, ◌++◌, ◌∷◌, [], ℤ, List, map, set, get_or, sym, ap, ◌∙◌, arith}
use Rattle.std.proofs.lemmas.Int.{to_z-of_z}
use Rattle.std.proofs.lemmas.List.{map-set, get_or-map}
use mir.Syntax.{w32}
use mir.Val.{to_z, of_z}
use Rattle.arrayvec.specs.ArrayVec.{ArrayVec}
use Rattle.bridge_ranking.proofs.scored.add_score.Goals as goal

abbrev items : ArrayVec ℤ → List ℤ
items scores = scores.items

pub returns : goal.returns
returns c =
    let lists = c.args.lists.now in
    let index = c.args.board - 1 in
    let score : ℤ = c.args.score in
    let given : ℤ = to_z w32 (of_z w32 score) in
    let there = c.from.ensures in
    let had = sym (get_or-map items lists c.from.result c.index-lists-from.result [] (omega (arith, there, c.requires.count, c.requires.board.0, c.requires.board.1)))
    ∙ ap (λ i. get_or (map items lists) i []) there in
    let added = c.push.ensures.items
    ∙ ap (λ scores. scores ++ given ∷ []) had
    ∙ ap (λ (z : ℤ). get_or (map items lists) index [] ++ z ∷ []) (to_z-of_z w32 score c.ranges.score) in
    record {
      lists =
          map-set items lists c.from.result c.push.new.self
          ∙ ap (λ i. set (map items lists) i c.push.new.self.items) there
          ∙ ap (λ scores. set (map items lists) index scores) added;
    }
