use Rattle.std.proofs.Common.{◌≡◌, ◌∙◌, Option, None, IsSome, subst, arith}
use Rattle.bridge_endings.proofs.Root.{worth_of_le}
use Rattle.bridge_endings.proofs.solver.solve_with.Goals as goal

pub returns-in-Some-clause-few : goal.returns-in-Some-clause-few
returns-in-Some-clause-few c =
    omega (arith, c.in-Some.ensures.worth, c.worth.ensures.ending.short, worth_of_le c.args.ending.now)

pub returns-in-Some-clause-cache : goal.returns-in-Some-clause-cache
returns-in-Some-clause-cache c = record {
  keeping = c.keep.ensures.keeping;
  tried = omega (arith, c.keep.ensures.tried, c.tried-tried.ensures);
  known = λ kept is. c.keep.ensures.tried ∙ c.tried-tried.ensures;
}

-- no ending is kept of which the cache does not tell the worth
untold : {A : Type 0} (P : Type 0) (told : Option A) → told ≡ None → IsSome told → P
untold {A} P told none some = let never : IsSome {T = A} None = subst (λ (o : Option A). IsSome o) none some in cc

pub returns-clause-cache : goal.returns-clause-cache
returns-clause-cache c = record {
  keeping = c.keep-2.ensures.keeping;
  tried = omega (arith, c.keep-2.ensures.tried, c.worth_by-worth.ensures.tried, c.tried-tried.ensures);
  known = λ kept is. untold _ _ c.in_default.is (c.worth.ensures.known kept is);
}

pub keep-requires-2 : goal.keep-requires-2
keep-requires-2 c = c.worth_by-worth.ensures.worth
