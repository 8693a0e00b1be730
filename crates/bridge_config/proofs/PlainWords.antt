-- Names and dates have no space.
use Rattle.std.proofs.Common.{◌≡◌, ℕ, true, List, refl}
use Rattle.std.specs.List.{list_all}
use Rattle.std.specs.Char.{is_ascii_digit}
use Rattle.bridge_config.specs.Limits.{is_name_byte, is_name, is_date_form}
use Rattle.bridge_config.proofs.Bytes.{name_passes, date_passes}
use Rattle.line_text.proofs.WordLaws.{is_not_space}
use Rattle.line_text.proofs.PlainWords.{not_space}

pub name_is_plain : (name : List ℕ) → is_name name ≡ true → list_all is_not_space name ≡ true
name_is_plain = name_passes is_not_space (not_space is_name_byte refl)

pub date_is_plain : (date : List ℕ) → is_date_form date ≡ true → list_all is_not_space date ≡ true
date_is_plain = date_passes is_not_space (not_space is_ascii_digit refl) refl
