-- What the holder of a key is told now, and what he is not.
use Rattle.std.proofs.Common.{◌≡◌, ◌≢◌, ℕ, List, ◌++◌, Option, Some, refl, sym, ap, ◌∙◌}
use Rattle.std.specs.Option.{option_map_or}
use Rattle.std.proofs.lemmas.List.{append_cancel_left}
use Rattle.bridge_config.specs.declared.fields.Key.{Key}
use Rattle.session_rules.specs.State.{SessionValue, director_answer}
use Rattle.line_replies.specs.declared.short_reply.ShortReply.TheVariants.{BadLine}
use Rattle.line_replies.specs.KeyWord.{key_of_word}
use Rattle.line_replies.specs.ReplyTexts.{short_text}
use Rattle.page_replies.specs.Place.{place_to, place_text}
use Rattle.page_replies.specs.Tables.{tables_by, tables_text}
use Rattle.desk_replies.specs.declared.desk.Desk.{Desk}
use Rattle.table_server.specs.declared.asked.Question.TheVariants.{See}
use Rattle.table_server.specs.Told.{Tells}
use Rattle.table_pages.specs.Waits.{desk_lines, TellsPlayer, director_text}

-- what stands behind a beginning is another text
pub other_behind : (text one rest other : List ℕ) → text ≡ one ++ rest → rest ≢ other → text ≢ one ++ other
other_behind text one rest other is differ same = differ (append_cancel_left one rest other (sym is ∙ same))

-- the place of the player whose key a word is
pub place_of_word : (s : SessionValue) (word : List ℕ) (key : Key) → key_of_word word ≡ Some key → place_text s word ≡ place_to s key.0
place_of_word s word key is = ap (λ (found : Option Key). option_map_or (λ (k : Key). place_to s k.0) found (short_text BadLine)) is

-- the tables told to the holder of the key that a word is
pub tables_of_word : (s : SessionValue) (word : List ℕ) (key : Key) → key_of_word word ≡ Some key → tables_text s word ≡ tables_by s (director_answer s.configuration key.0)
tables_of_word s word key is =
    ap (λ (found : Option Key). option_map_or (λ (k : Key). tables_by s (director_answer s.configuration k.0)) found (short_text BadLine)) is

-- three parts, by what they are
same_parts : (place place_is seen seen_is lines lines_are : List ℕ) → place ≡ place_is → seen ≡ seen_is → lines ≡ lines_are
    → place ++ (seen ++ lines) ≡ place_is ++ (seen_is ++ lines_are)
same_parts place place_is seen seen_is lines lines_are p v l = rw (p, v, l) refl

-- a player is told these three parts
pub told_player : (s : SessionValue) (desk : Desk) (key : Key) (text place seen shown lines : List ℕ) → Tells s (See key) shown
    → place ≡ place_to s key.0 → seen ≡ shown → lines ≡ desk_lines s desk key → text ≡ place ++ (seen ++ lines) → TellsPlayer s desk key text
told_player s desk key text place seen shown lines tells p v l is =
    (shown, tells, is ∙ same_parts place (place_to s key.0) seen shown lines (desk_lines s desk key) p v l)

-- and no others
pub untold_player : (s : SessionValue) (desk : Desk) (key : Key) (text place seen shown lines : List ℕ)
    → ((one other : List ℕ) → Tells s (See key) one → Tells s (See key) other → one ≡ other) → Tells s (See key) shown
    → place ≡ place_to s key.0 → seen ≡ shown → lines ≡ desk_lines s desk key → text ≢ place ++ (seen ++ lines) → ¬ TellsPlayer s desk key text
untold_player s desk key text place seen shown lines one tells p v l differ told =
    differ (told.2
    ∙ ap (λ (t : List ℕ). place_to s key.0 ++ (t ++ desk_lines s desk key)) (one told.0 shown told.1 tells)
    ∙ sym (same_parts place (place_to s key.0) seen shown lines (desk_lines s desk key) p v l))

-- the director is told these two parts
pub told_director : (s : SessionValue) (desk : Desk) (key : Key) (tables lines : List ℕ) → tables ≡ tables_by s (director_answer s.configuration key.0)
    → lines ≡ desk_lines s desk key → tables ++ lines ≡ director_text s desk key
told_director s desk key tables lines t l = rw (t, l) refl
