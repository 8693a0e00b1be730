-- Texts in HTML.
use Rattle.std.specs.Prelude.{ℕ, ◌==◌, if◌then◌else◌, List, [], ◌∷◌, codes, flat_map}
use Rattle.page_layout.specs.declared.format.Content.{Content}
use Rattle.page_layout.specs.declared.format.Content.TheVariants.{Words, Cards}

-- a byte that is no mark of HTML: & < > " and ' are written as their names
abbrev pub escaped_byte : ℕ → List ℕ
escaped_byte byte =
    if byte == 38 then codes "&amp;" else
    if byte == 60 then codes "&lt;" else
    if byte == 62 then codes "&gt;" else
    if byte == 34 then codes "&quot;" else
    if byte == 39 then codes "&#39;" else byte ∷ []

-- the letters S, H, D and C as the symbols of the suits, each of a class that gives it a colour
abbrev pub suited_byte : ℕ → List ℕ
suited_byte byte =
    if byte == 83 then codes "<span class=\"s\">&spades;</span>" else
    if byte == 72 then codes "<span class=\"h\">&hearts;</span>" else
    if byte == 68 then codes "<span class=\"d\">&diams;</span>" else
    if byte == 67 then codes "<span class=\"c\">&clubs;</span>" else escaped_byte byte

-- in cards and bids letters stand for suits, in words they do not
abbrev pub html_byte : Content → ℕ → List ℕ
html_byte Words byte = escaped_byte byte
html_byte Cards byte = suited_byte byte

-- a text, byte by byte
abbrev pub html_text : Content → List ℕ → List ℕ
html_text content text = flat_map (html_byte content) text
