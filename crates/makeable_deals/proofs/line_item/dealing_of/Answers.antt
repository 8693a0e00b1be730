use Rattle.std.proofs.Common.{refl}
use Rattle.std.proofs.lemmas.List.Splits.{join_with_byte-slice_split}
use Rattle.makeable_deals.proofs.line_item.dealing_of.Goals as goal

pub returns-in-Some : goal.returns-in-Some
returns-in-Some c = rw (c.in_ok-rest.ensures, c.in-Some.ensures, join_with_byte-slice_split 32 c.in-Some.hands.now) refl
