use Rattle.std.proofs.Common.{◌∙◌, ℕ, List, Bor, map, inl}
use Rattle.command_line.proofs.Asked.{asks, refuses, unasked}
use Rattle.command_line.proofs.read.read_words.Goals as goal

pub returns-in-Some-clause-ok : goal.returns-in-Some-clause-ok
returns-in-Some-clause-ok c =
    asks _ (map (λ (word : Bor (List ℕ)). word.now) c.args.words.now) c.in-Ok-try_get_matches_from.matches c.in-Some.command c.in-Ok.ensures
    c.in-Ok-try_get_matches_from.ensures.kinds c.in-Ok-try_get_matches_from.ensures.matches c.in-Some.ensures

pub returns : goal.returns
returns c = record {
  ok = tt;
  fault = inl (refuses _ (map (λ (word : Bor (List ℕ)). word.now) c.args.words.now) c.in-Err-try_get_matches_from.error c.in-Ok.ensures
      c.in-Err-try_get_matches_from.ensures.kinds (λ memory. c.in_default.not-OutOfMemory (c.kind.ensures ∙ memory)));
}

pub returns-in-Ok-try_get_matches_from-clause-fault : goal.returns-in-Ok-try_get_matches_from-clause-fault
returns-in-Ok-try_get_matches_from-clause-fault c =
    unasked _ (map (λ (word : Bor (List ℕ)). word.now) c.args.words.now) c.in-Ok-try_get_matches_from.matches c.unasked.result c.in-Ok.ensures
    c.in-Ok-try_get_matches_from.ensures.matches c.unasked.ensures
