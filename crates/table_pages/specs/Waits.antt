-- Requests that wait: their bodies are a key, a line feed, and what was told last.
use Rattle.std.specs.Prelude.{◌≡◌, ◌≢◌, ℕ, Bool, true, false, ◌==◌, nat_le, if◌then◌else◌, length, List, ◌++◌, Option, None, Some, IsSomeAnd}
use Rattle.std.specs.Option.{option_map_or}
use Rattle.bridge_config.specs.ConfigValue.{ConfigValue}
use Rattle.bridge_config.specs.declared.fields.Key.{Key}
use Rattle.line_text.specs.Lines.{lines_text}
use Rattle.session_rules.specs.declared.refused.Refused.TheVariants.{NoKey}
use Rattle.session_rules.specs.Sight.{LookAlikeTo}
use Rattle.session_rules.specs.State.{SessionValue, director_answer, is_nobodys}
use Rattle.line_replies.specs.declared.short_reply.ShortReply.{ShortReply}
use Rattle.line_replies.specs.declared.short_reply.ShortReply.TheVariants.{Done, Refused, BadLine}
use Rattle.line_replies.specs.KeyWord.{key_of_word}
use Rattle.page_replies.specs.Place.{place_to}
use Rattle.page_replies.specs.Tables.{tables_by}
use Rattle.desk_replies.specs.declared.desk.Desk.{Desk}
use Rattle.desk_replies.specs.Laws.{StandAlikeTo}
use Rattle.desk_replies.specs.Told.{standing_lines}
use Rattle.table_server.specs.declared.asked.Question.TheVariants.{See}
use Rattle.table_server.specs.Told.{Tells}
use Rattle.web_requests.specs.declared.route.Route.{Route}
use Rattle.web_requests.specs.declared.route.Route.TheVariants.{Wait}
use Rattle.table_pages.specs.FirstLine.{first_line, behind_line}
use Rattle.table_pages.specs.WrongKeys.{with_more}

-- how the holder of a key is answered, where there is one
abbrev pub reply_to : ConfigValue → Key → ShortReply
reply_to configuration key = if is_nobodys configuration key.0 then Refused NoKey else Done

-- how a request to wait is answered
abbrev pub wait_reply : ConfigValue → List ℕ → ShortReply
wait_reply configuration body = option_map_or (reply_to configuration) (key_of_word (first_line body)) BadLine

-- the standing lines of the desk as a text
abbrev pub desk_lines : SessionValue → Desk → Key → List ℕ
desk_lines s desk key = lines_text (standing_lines s desk key.0)

-- what a player is told: his place, the reply to `SEE`, and the standing lines of the desk
abbrev pub TellsPlayer : SessionValue → Desk → Key → List ℕ → Type 0
TellsPlayer s desk key text = (seen : List ℕ) × Tells s (See key) seen × (text ≡ place_to s key.0 ++ (seen ++ desk_lines s desk key))

-- what the director is told: all tables, and the standing lines of the desk
abbrev pub director_text : SessionValue → Desk → Key → List ℕ
director_text s desk key = tables_by s (director_answer s.configuration key.0) ++ desk_lines s desk key

-- by whether the key is the director's
abbrev pub TellsEither : Bool → SessionValue → Desk → Key → List ℕ → Type 0
TellsEither true s desk key text = text ≡ director_text s desk key
TellsEither false s desk key text = TellsPlayer s desk key text

-- this text is what the holder of a key is told now
abbrev pub TellsNow : SessionValue → Desk → Key → List ℕ → Type 0
TellsNow s desk key text = TellsEither (key.0 == s.configuration.director) s desk key text

-- what was told last, as such a body says, is told still
abbrev pub IsToldStill : SessionValue → Desk → List ℕ → Type 0
IsToldStill s desk body = IsSomeAnd (key_of_word (first_line body)) (λ key. TellsNow s desk key (behind_line body))

-- Two sessions look alike to a player, and two desks are alike at his table.
pub record SeesSame (key : Key) (s t : SessionValue) (d e : Desk) : Type 0 where
  pub player : key.0 ≢ s.configuration.director
  pub sessions : LookAlikeTo key.0 s t
  pub desks : StandAlikeTo s key.0 d e

-- what a body of at most 8,192 bytes that is answered so wishes for: only one that is taken does
abbrev pub wish_by : ShortReply → List ℕ → Option (List ℕ)
wish_by Done body = if nat_le (length body) 8192 then Some body else None
wish_by _ body = None

-- over a server of lines: how a request to wait is answered
module _ {T : Type 0} (wait_reply : T → List ℕ → ShortReply) where
  -- what a request on this route with this body wishes for: no other than one to wait does
  abbrev pub wish_of : Route → T → List ℕ → Option (List ℕ)
  wish_of Wait server body = wish_by (wait_reply server body) body
  wish_of _ server body = None

-- how many requests with a wish were answered
abbrev pub waits_after : Option (List ℕ) → ℕ → ℕ
waits_after None count = count
waits_after (Some wish) count = with_more count 1
