use Rattle.std.proofs.Common.{◌≡◌, ◌+◌, ◌∷◌, ◌++◌, [], map, sym, ap, ◌∙◌, add-one, subst}
use Rattle.std.specs.Prelude.{IfSome}
use Rattle.std.specs.List.{range_with_len}
use Rattle.std.proofs.lemmas.List.{map-append}
use Rattle.bridge_table.specs.declared.record.Record.{Record}
use Rattle.bridge_table.specs.Kept.{new_record}
use Rattle.session_rules.proofs.Lists.{range-push}
use Rattle.bridge_session.proofs.opening.new_records.Goals as goal

pub loop-index-preserved : goal.loop-index-preserved
loop-index-preserved c =
    let first = c.args.first in
    let index = c.loop-index.index in
    let earlier = range_with_len first index in
    let number : c.unwrap.result ≡ first + index = subst (λ o. IfSome o (λ b. b ≡ first + index)) c.unwrap.ensures c.new.ensures.value in
    let more : range_with_len first (index + 1) ≡ earlier ++ (first + index) ∷ [] = ap (range_with_len first) (add-one index) ∙ range-push first index in
    c.in_ok-push.ensures.items
    ∙ ap (λ items. items ++ c.new-in-loop-index.result ∷ []) c.loop-index.invariant
    ∙ ap (λ (kept : Record). map new_record earlier ++ kept ∷ []) (c.new-in-loop-index.ensures ∙ ap new_record number)
    ∙ sym (ap (map new_record) more ∙ map-append new_record earlier ((first + index) ∷ []))
