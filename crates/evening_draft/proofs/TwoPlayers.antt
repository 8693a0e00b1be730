-- The words of a pair of two players.
use Rattle.std.proofs.Common.{◌≡◌, List, [], ◌∷◌, length, get_or, map, refl}
use Rattle.std.specs.Fmt.{decimal}
use Rattle.arrayvec.specs.declared.array_string.ArrayString.{ArrayString}
use Rattle.bridge_config.specs.declared.fields.Key.{Key}
use Rattle.bridge_config.specs.ConfigValue.{key_number}
use Rattle.bridge_config.specs.Spelling.{player_words}

-- each name and key, in turn
pub two_words : (names : List (ArrayString 24)) (keys : List Key) (a b : ArrayString 24) (d : Key) →
    length (map (λ (name : ArrayString 24). name.bytes) names) ≡ 2 → length (map key_number keys) ≡ 2 →
    player_words (map (λ (name : ArrayString 24). name.bytes) names) (map key_number keys)
    ≡ (get_or names 0 a).bytes ∷ decimal (get_or keys 0 d).0 ∷ (get_or names 1 b).bytes ∷ decimal (get_or keys 1 d).0 ∷ []
two_words (x ∷ y ∷ []) (k ∷ l ∷ []) a b d two two' = refl
two_words [] keys a b d two two' = absurd cc
two_words (x ∷ []) keys a b d two two' = absurd cc
two_words (x ∷ y ∷ z ∷ names) keys a b d two two' = absurd cc
two_words (x ∷ y ∷ []) [] a b d two two' = absurd cc
two_words (x ∷ y ∷ []) (k ∷ []) a b d two two' = absurd cc
two_words (x ∷ y ∷ []) (k ∷ l ∷ m ∷ keys) a b d two two' = absurd cc
