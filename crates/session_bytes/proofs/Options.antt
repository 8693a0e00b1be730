-- An option that is some value.
use Rattle.std.proofs.Common.{◌≡◌, Option, Some, None}

pub some_is : {A : Type 0} (x y : A) → Some x ≡ Some y → x ≡ y
some_is x y is = cc

pub not_some : {A : Type 0} (x : A) → ◌≡◌ {A = Option A} None (Some x) → ⊥
not_some x is = cc
