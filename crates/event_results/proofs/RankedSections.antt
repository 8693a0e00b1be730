-- The rankings of the sections that a loop has passed, and of one more.
use Rattle.std.proofs.Common.{◌≡◌, ◌+◌, ℕ, List, [], ◌∷◌, ◌++◌, length, get_or, inl, inr, sym, ap, ◌∙◌, subst, arith, length-append}
use Rattle.std.proofs.lemmas.Bool.{cases_lt}
use Rattle.std.proofs.Math.ListN.{get_or-append}
use Rattle.std.proofs.Math.Seq.{get_or-append_seam}
use Rattle.bridge_ranking.specs.declared.field.Field.{Field}
use Rattle.session_rules.specs.State.{SessionValue}
use Rattle.event_ranking.specs.declared.ranking.SectionRanked.{SectionRanked}
use Rattle.event_ranking.specs.EventRanking.{IsSectionRanking}
use Rattle.event_results.specs.Kept.{AreRankingsOf}

pub ranking_more : (sections : List SessionValue) (field : Field) (count : ℕ) (before : List (List SectionRanked)) (new : List SectionRanked) → AreRankingsOf sections field count before → IsSectionRanking sections count field new →
    AreRankingsOf sections field (count + 1) (before ++ new ∷ [])
ranking_more sections field count before new are is = record {
  count_is = omega (arith, are.count_is, length-append before (new ∷ []));
  each = λ i d within. elim (cases_lt i count) [
    | inl earlier ↦
        subst (IsSectionRanking sections i field) (sym (get_or-append before (new ∷ []) d i (omega (arith, earlier, are.count_is)))) (are.each i d earlier)
    | inr last ↦
        let same : length before ≡ i = omega (arith, last, within, are.count_is) in
        let number : count ≡ i = omega (arith, last, within) in
        let there : new ≡ get_or (before ++ new ∷ []) i d = sym (get_or-append_seam before new [] d) ∙ ap (λ k. get_or (before ++ new ∷ []) k d) same in
        subst (IsSectionRanking sections i field) there (subst (λ k. IsSectionRanking sections k field new) number is)
  ];
}
