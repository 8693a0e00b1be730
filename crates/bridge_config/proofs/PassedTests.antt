-- Tests and steps that did not fail.
use Rattle.std.proofs.Common.{◌≡◌, Bool, true, false, cond, Result, Ok, Err, refl}
use Rattle.bridge_config.specs.declared.refused.ConfigFault.{ConfigFault}

-- a test whose failure is a fault, in place of a value
pub ok_if : {A : Type 0} (b : Bool) (d : ConfigFault) (x y : A) → cond b (Ok x) (Err d) ≡ Ok y → (b ≡ true) × (x ≡ y)
ok_if true d x y e = (refl, cc)
ok_if false d x y e = absurd cc

-- a test before further reading
pub after_test : {A : Type 0} (b : Bool) (d : ConfigFault) (r : Result A ConfigFault) (y : A) → cond b r (Err d) ≡ Ok y → (b ≡ true) × (r ≡ Ok y)
after_test true d r y e = (refl, e)
after_test false d r y e = absurd cc

-- a test that is not to hold
pub unless : {A : Type 0} (b : Bool) (d : ConfigFault) (r : Result A ConfigFault) (y : A) → cond b (Err d) r ≡ Ok y → (b ≡ false) × (r ≡ Ok y)
unless true d r y e = absurd cc
unless false d r y e = (refl, e)
