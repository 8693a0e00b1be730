-- Images: one sector written, and two with the same bytes.
use Rattle.std.proofs.Common.{◌≡◌, ◌≢◌, ℕ, List, arith, subst, sym}
use Rattle.std.proofs.lemmas.Bool.Decides.{nat_tests}
use Rattle.sector_disk.specs.Disk.{Image, IsSame, with_sector}

pub with_sector-same : (image : Image) (i : ℕ) (bytes : List ℕ) → with_sector image i bytes i ≡ bytes
unfolding with_sector
with_sector-same image i bytes = grind (arith, nat_tests)

pub with_sector-other : (image : Image) (i : ℕ) (bytes : List ℕ) (k : ℕ) → k ≢ i → with_sector image i bytes k ≡ image k
unfolding with_sector
with_sector-other image i bytes k other = grind (arith, nat_tests)

-- images with the same bytes are one
pub image_is : (a b : Image) → IsSame a b → a ≡ b
image_is a b same = λ i k. same k i

-- what one of them has, the other has
pub same_has : (P : Image → Type 0) (a b : Image) → IsSame a b → P b → P a
same_has P a b same has = subst P (sym (image_is a b same)) has
