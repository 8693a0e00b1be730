-- Headers that are added one after another.
use Rattle.std.proofs.Common.{◌≡◌, List, [], ◌∷◌, ◌++◌, Result, Ok, Err, ap, ◌∙◌, append_assoc}
use Rattle.std.specs.Prelude.{OnOk}
use Rattle.http1.specs.Fields.{Header}

-- one more after those that were added
pub then_one : (start old new added : List Header) (one : Header) → old ≡ start ++ added → new ≡ old ++ one ∷ [] → new ≡ start ++ (added ++ one ∷ [])
then_one start old new added one before is =
    is ∙ ap (λ (t : List Header). t ++ one ∷ []) before ∙ append_assoc start added (one ∷ [])

-- and one more where there is memory for it
pub then_last : {T E : Type 0} (result : Result T E) (start old new added : List Header) (one : Header) → old ≡ start ++ added → OnOk result (new ≡ old ++ one ∷ []) → OnOk result (new ≡ start ++ (added ++ one ∷ []))
then_last (Ok _) start old new added one before is = then_one start old new added one before is
then_last (Err _) start old new added one before is = tt
