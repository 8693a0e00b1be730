use Rattle.std.proofs.Common.{◌∙◌, true, false}
use Rattle.evening_slips.proofs.Keys.{first_key, second_key, key_found, no_key}
use Rattle.evening_slips.proofs.player.player_key.Goals as goal

pub returns-in-Some : goal.returns-in-Some
returns-in-Some c =
    let at = c.from.ensures ∙ c.saturating_sub.ensures in
    let lookup = c.in-Some.ensures.lookup in
    rw c.if-first.true
    (first_key c.in-Some.found.now.keys
    ∙ key_found c.args.pairs.now c.args.pair c.from.result true c.in-Some.found.now at lookup.0 lookup.1)

pub returns-in-Some-2 : goal.returns-in-Some-2
returns-in-Some-2 c =
    let at = c.from.ensures ∙ c.saturating_sub.ensures in
    let lookup = c.in-Some.ensures.lookup in
    rw c.if-first.false
    (second_key c.in-Some.found.now.keys
    ∙ key_found c.args.pairs.now c.args.pair c.from.result false c.in-Some.found.now at lookup.0 lookup.1)

pub returns-in-None : goal.returns-in-None
returns-in-None c =
    no_key c.args.pairs.now c.args.pair c.from.result c.args.first (c.from.ensures ∙ c.saturating_sub.ensures) c.in-None.ensures.lookup.0
