-- An answer, and how one is found test by test.
use Rattle.std.specs.Prelude.{Bool, true, false, Result, Ok, Err}
use Rattle.session_rules.specs.declared.refused.Refused.{Refused}

-- an action is accepted, or why it is not
abbrev pub Answer : Type 0
Answer = Result (Unit {0}) Refused

infixl 10 ◌>>◌
-- the test passes and the next one follows, or its error is the answer
abbrev pub ◌>>◌ : {B E : Type 0} → Result (Unit {0}) E → Result B E → Result B E
(Ok passed) >> next = next
(Err error) >> next = Err error

-- the test holds, or that is the error
abbrev pub require : {E : Type 0} → Bool → E → Result (Unit {0}) E
require true error = Ok tt
require false error = Err error
