use Rattle.std.proofs.Common.{sym, ◌∙◌, arith}
use Rattle.session_store.proofs.ReadLemmas.{header_as-unequal, header_as-equal, header_as-out_of_range, no_epoch, no_parts, many_parts}
use Rattle.session_store.proofs.reading.read_header_as.Goals as goal

pub returns-then-epoch-eq0 : goal.returns-then-epoch-eq0
returns-then-epoch-eq0 c =
    sym (header_as-out_of_range c.args.format c.args.bytes.now _ _ c.read_epoch-epoch.ensures.epoch c.read_number-parts.ensures.number
    (no_epoch c.args.format c.args.bytes.now _ _ c.if-epoch-eq0.true))

pub returns-then-parts-eq0 : goal.returns-then-parts-eq0
returns-then-parts-eq0 c =
    sym (header_as-out_of_range c.args.format c.args.bytes.now _ _ c.read_epoch-epoch.ensures.epoch c.read_number-parts.ensures.number
    (no_parts c.args.format c.args.bytes.now _ _ c.if-parts-eq0.true))

pub returns-then-parts-gt-MOST_PARTS : goal.returns-then-parts-gt-MOST_PARTS
returns-then-parts-gt-MOST_PARTS c =
    sym (header_as-out_of_range c.args.format c.args.bytes.now _ _ c.read_epoch-epoch.ensures.epoch c.read_number-parts.ensures.number
    (many_parts c.args.format c.args.bytes.now _ _ c.if-parts-gt-MOST_PARTS.true))

pub returns-then-ne : goal.returns-then-ne
returns-then-ne c =
    let unequal = rw (c.make_sector.ensures, c.header_mark.ensures) at (sym c.ne.ensures ∙ c.if-ne.true) in
    sym (header_as-unequal c.args.format c.args.bytes.now _ _ c.read_epoch-epoch.ensures.epoch c.read_number-parts.ensures.number unequal)

pub returns : goal.returns
returns c =
    let equal = rw (c.make_sector.ensures, c.header_mark.ensures) at (sym c.ne.ensures ∙ c.if-ne.false) in
    sym (header_as-equal c.args.format c.args.bytes.now _ _ c.read_epoch-epoch.ensures.epoch c.read_number-parts.ensures.number
    (omega (arith, c.if-epoch-eq0.false)) (omega (arith, c.if-parts-eq0.false)) (omega (arith, c.if-parts-gt-MOST_PARTS.false)) equal)
