use Rattle.std.proofs.lemmas.Bool.Decides.{Decides-eqb, not_from_Decides}
use Rattle.std.proofs.lemmas.Slice.Eq.{slice_eq-Decides}
use Rattle.table_pages.proofs.ToldNow.{other_behind}
use Rattle.table_pages.proofs.waiting.is_both.Goals as goal

pub returns-in-Some-clause-other : goal.returns-in-Some-clause-other
returns-in-Some-clause-other c =
    λ fails. other_behind c.args.text.now c.args.one.now c.in-Some.rest.now c.args.other.now c.in-Some.ensures
    (not_from_Decides _ (slice_eq-Decides Decides-eqb c.in-Some.rest.now c.args.other.now _ c.eq.ensures) fails)
