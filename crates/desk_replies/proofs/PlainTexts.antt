-- The room that texts take.
use Rattle.std.proofs.Common.{◌≡◌, ℕ, ◌*◌, ◌≤◌, Bool, true, false, cond, ◌&&◌, List, [], ◌∷◌, Some, None, length, refl, subst, arith, length-append}
use Rattle.std.specs.Prelude.{IsUtf8}
use Rattle.std.specs.Str.{chars, is_utf8}
use Rattle.std.proofs.Math.Utf8.{encode, encodes}
use Rattle.std.proofs.lemmas.Str.{encodes-chars, length-encode, len_utf8_bounds, is_utf8-from_IsUtf8, IsUtf8-from_is_utf8}
use Rattle.desk_replies.specs.PlainText.{has_plain, plain_text_of}

-- each character takes at most 4 bytes
room_for : (cs : List ℕ) → length (encodes cs) ≤ 4 * length cs
room_for [] = omega arith
room_for (c ∷ cs) = omega (arith, room_for cs, length-append (encode c) (encodes cs), length-encode c, (len_utf8_bounds c).1)

-- so a text has at most four times as many bytes as characters
pub bytes_of_characters : (bytes : List ℕ) → IsUtf8 bytes → length bytes ≤ 4 * length (chars bytes)
bytes_of_characters bytes u = subst (λ (b : List ℕ). length b ≤ 4 * length (chars bytes)) (encodes-chars bytes u) (room_for (chars bytes))

-- a text in UTF-8 is plain where its characters are
pub plain_where : (low high : ℕ) (bytes : List ℕ) (is : Bool) → IsUtf8 bytes → has_plain low high bytes ≡ is
    → plain_text_of low high bytes ≡ cond is (Some bytes) None
plain_where low high bytes is u has = rw (is_utf8-from_IsUtf8 bytes u, has) refl

-- and no other is
pub plain_nowhere : (low high : ℕ) (bytes : List ℕ) → ¬ (IsUtf8 bytes) → plain_text_of low high bytes ≡ None
plain_nowhere low high bytes none = by (is_utf8 bytes) refl
  where
    by : (is : Bool) → is_utf8 bytes ≡ is → cond (is && has_plain low high bytes) (Some bytes) None ≡ None
    by false e = refl
    by true e = absurd (none (IsUtf8-from_is_utf8 bytes e))
