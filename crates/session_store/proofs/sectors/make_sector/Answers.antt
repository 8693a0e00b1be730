use Rattle.std.proofs.Common.{◌≡◌, ◌-◌, ◌++◌, ℕ, List, [], length, refl, arith, length-append}
use Rattle.std.specs.Int.{w16, w32, w64, to_be_bytes}
use Rattle.session_store.specs.Form.{sector, label}
use Rattle.session_store.proofs.PutLemmas.{put_next}
use Rattle.session_store.proofs.sectors.make_sector.Goals as goal

pub returns : goal.returns
unfolding sector label
returns c =
    let mark = c.args.mark.now in
    let payload = c.args.payload.now in
    let four : length mark ≡ 4 = omega (arith, c.fits-mark) in
    let epoch : List ℕ = mark ++ to_be_bytes w64 c.args.epoch in
    let epoch_long : length epoch ≡ 12 = simp length-append (omega (arith, four)) in
    let number : List ℕ = to_be_bytes w64 c.args.epoch ++ to_be_bytes w32 c.args.number in
    let labelled : List ℕ = epoch ++ to_be_bytes w32 c.args.number in
    let label_long : length labelled ≡ 16 = simp length-append (omega (arith, epoch_long)) in
    let sized : List ℕ = labelled ++ to_be_bytes w16 (length payload) in
    let sized_long : length sized ≡ 18 = simp length-append (omega (arith, label_long)) in
    let first = put_next _ _ [] mark _ 0 512 508 c.put.ensures refl refl refl (omega (arith, four)) refl in
    let second = put_next _ _ mark (to_be_bytes w64 c.args.epoch) _ 4 508 500 c.put-2.ensures four c.to_be_bytes.ensures refl refl first in
    let third = put_next _ _ epoch (to_be_bytes w32 c.args.number) _ 12 500 496 c.put-3.ensures epoch_long c.to_be_bytes-2.ensures refl refl second in
    let fourth = put_next _ _ labelled (to_be_bytes w16 (length payload)) _ 16 496 494 c.put-4.ensures label_long c.to_be_bytes-3.ensures refl refl third in
    put_next _ _ sized payload _ 18 494 (494 - length payload) c.put-5.ensures sized_long refl refl (omega arith) fourth
