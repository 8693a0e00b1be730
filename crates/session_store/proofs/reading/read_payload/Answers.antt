use Rattle.std.proofs.Common.{◌≡◌, ◌≤◌, ◌+◌, ◌-◌, ℕ, List, [], ◌∷◌, length, take, drop, get_or, refl, ap, sym, ◌∙◌, arith}
use Rattle.std.specs.Int.{w16, from_be_bytes}
use Rattle.std.proofs.lemmas.List.{length-take}
use Rattle.session_store.specs.Form.{payload_field}
use Rattle.session_store.proofs.ReadLemmas.{field_at, payload_in-long, payload_in-unequal, payload_in-equal}
use Rattle.session_store.proofs.reading.read_payload.Goals as goal

stated : (bytes : List ℕ) (len : ℕ) → len ≡ from_be_bytes w16 (get_or bytes 16 0 ∷ get_or bytes 17 0 ∷ [])
    → len ≡ from_be_bytes w16 (take 2 (drop 16 bytes))
stated bytes len is = let at = field_at 2 16 bytes in is ∙ rw (at 0 refl, at 1 refl) refl

part_is : (bytes : List ℕ) (len : ℕ) → len ≡ from_be_bytes w16 (get_or bytes 16 0 ∷ get_or bytes 17 0 ∷ [])
    → take (18 + len - 18) (drop 18 bytes) ≡ payload_field bytes
unfolding payload_field
part_is bytes len is =
    let count : 18 + len - 18 ≡ len = omega arith in
    ap (λ (n : ℕ). take n (drop 18 bytes)) (count ∙ stated bytes len is)

pub returns-then-len-gt-PAYLOAD_BYTES-clause-payload : goal.returns-then-len-gt-PAYLOAD_BYTES-clause-payload
returns-then-len-gt-PAYLOAD_BYTES-clause-payload c =
    sym (payload_in-long _ _ _ c.args.bytes.now _ (stated c.args.bytes.now _ c.from_be_bytes-len.ensures)
    (omega (arith, c.fits-bytes)) (omega (arith, c.if-len-gt-PAYLOAD_BYTES.true)))

pub returns-then-ne-clause-payload : goal.returns-then-ne-clause-payload
returns-then-ne-clause-payload c =
    let unequal = rw c.make_sector.ensures at (sym c.ne.ensures ∙ c.if-ne.true) in
    sym (payload_in-unequal _ _ _ c.args.bytes.now _ (part_is c.args.bytes.now _ c.from_be_bytes-len.ensures) unequal)

pub returns-clause-payload : goal.returns-clause-payload
returns-clause-payload c =
    let equal = rw c.make_sector.ensures at (sym c.ne.ensures ∙ c.if-ne.false) in
    let len = c.from_be_bytes-len.result in
    let fits : length (take (18 + len - 18) (drop 18 c.args.bytes.now)) ≤ 480 = simp length-take (omega (arith, c.if-len-gt-PAYLOAD_BYTES.false)) in
    sym (payload_in-equal _ _ _ c.args.bytes.now _ (part_is c.args.bytes.now _ c.from_be_bytes-len.ensures) fits equal)
