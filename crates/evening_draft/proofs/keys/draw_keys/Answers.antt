use Rattle.std.proofs.Common.{◌≡◌, true, sym, subst, arith}
use Rattle.std.specs.Prelude.{All}
use Rattle.std.proofs.lemmas.Grind.{common_steps}
use Rattle.bridge_config.specs.Limits.{are_distinct}
use Rattle.evening_draft.specs.Keys.{HasNineDigits, drawn, evening_keys, key_count}
use Rattle.evening_draft.proofs.DrawnKeys.{drawn_distinct, drawn_nine, distinct_take}
use Rattle.std.proofs.lemmas.List.Elements.{All-take}
use Rattle.evening_draft.proofs.keys.draw_keys.Goals as goal

-- the keys are those of the evening
keys_are : (c : goal.After-unwrap) → c.try_extend_from_slice.new.self.items ≡ evening_keys c.args.seed.now c.args.pairs
keys_are c = grind (arith, common_steps)

pub returns-clause-distinct : goal.returns-clause-distinct
returns-clause-distinct c =
    subst (λ keys. are_distinct keys ≡ true) (sym (keys_are c))
    (distinct_take (key_count c.args.pairs) (drawn c.args.seed.now 200) (drawn_distinct c.args.seed.now 200))

pub returns-clause-nine_digits : goal.returns-clause-nine_digits
returns-clause-nine_digits c =
    subst (All HasNineDigits) (sym (keys_are c))
    (All-take HasNineDigits (key_count c.args.pairs) (drawn c.args.seed.now 200) (drawn_nine c.args.seed.now 200))
