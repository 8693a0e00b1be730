-- What a look-up found.
use Rattle.std.proofs.Common.{◌≡◌, ◌∙◌, List, Option, Some, None, IfSome, Bor, map, refl, sym, ap}
use Rattle.std.specs.Option.{option_map}
use Rattle.arrayvec.specs.ArrayVec.{ArrayVec}
use Rattle.clap.proofs.WalkLemmas.{first_value-rows, raw_values-rows}
use Rattle.clap.specs.Matches.{matched_of}
use Rattle.clap.specs.Words.{Text, all_of, first_of, first_value, raw_values, rows_of}
use Rattle.clap.specs.declared.parser.matches.Found.{Found}

-- a text that was read is there, and was read so
pub text_read : {X Y : Type 0} (P : X → Type 0) (found : Option X) (y : Y) → (found ≡ None → Some y ≡ None) → ((x : X) → found ≡ Some x → P x) → (x : X) × (found ≡ Some x) × P x
text_read P None y none some = cc (none refl)
text_read P (Some x) y none some = (x, refl, some x refl)

-- an argument's first text is the one that was given
pub text_given : {X : Type 0} (now : X → Text) (given : Option X) (x : X) (found : Found) (id : Text) → option_map now given ≡ first_value found id → given ≡ Some x → first_of id (rows_of found) ≡ Some (now x)
text_given now given x found id is some = sym (first_value-rows found id) ∙ sym is ∙ ap (option_map now) some

-- an argument's texts are those that were given
pub texts_given : {X : Type 0} (now : X → List Text) (given : Option X) (x : X) (found : Found) (id : Text) → option_map now given ≡ option_map raw_values (matched_of found id) → given ≡ Some x → all_of id (rows_of found) ≡ Some (now x)
texts_given now given x found id is some = sym (raw_values-rows found id) ∙ sym is ∙ ap (option_map now) some

-- so are those of a list that holds the same
pub list_given : (all : Option (List Text)) (names : List (Bor Text)) (list : Option (ArrayVec (Bor Text))) → all ≡ Some (map (λ name. name.now) names) → IfSome list (λ l. l.items ≡ names) → IfSome list (λ l. all ≡ Some (map (λ name. name.now) l.items))
list_given all names None are same = tt
list_given all names (Some l) are same = are ∙ ap (λ (items : List (Bor Text)). Some (map (λ name. name.now) items)) (sym same)
