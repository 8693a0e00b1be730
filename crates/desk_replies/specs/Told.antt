-- What is told of the desk: to a player what concerns his table, to the director all calls.
use Rattle.std.specs.Prelude.{ℕ, ◌+◌, ◌*◌, ◌==◌, nat_lt, min, if◌then◌else◌, List, [], ◌∷◌, ◌++◌, codes, flat_map, slice_get, Option, Some, None, Result, Ok, Err}
use Rattle.std.specs.Fmt.{decimal}
use Rattle.line_text.specs.Refusal.{refusal_line}
use Rattle.bridge_cards.specs.declared.seat.Seat.{Seat}
use Rattle.bridge_cards.specs.declared.seat.Seat.TheVariants.{North, East, South, West}
use Rattle.bridge_cards.specs.Seat.{seat_letter}
use Rattle.bridge_config.specs.ConfigValue.{ConfigValue, Pair, player_name}
use Rattle.bridge_config.specs.Spelling.{scoring_word}
use Rattle.bridge_movement.specs.declared.row.Row.{Row}
use Rattle.bridge_play.specs.declared.claim.Claim.{Claim}
use Rattle.bridge_play.specs.Claims.{has_agreed}
use Rattle.session_rules.specs.declared.refused.Refused.{Refused as SessionRefused}
use Rattle.session_rules.specs.declared.seating.Seating.{Seating}
use Rattle.session_rules.specs.State.{SessionValue, seating_of}
use Rattle.line_replies.specs.declared.short_reply.ShortReply.TheVariants.{Refused, BadLine}
use Rattle.line_replies.specs.ReplyTexts.{short_text, spaced_line, listed_text}
use Rattle.line_replies.specs.TableWords.{names_at}
use Rattle.desk_replies.specs.declared.asked.Asked.{Asked}
use Rattle.desk_replies.specs.declared.claims.SeenClaim.{SeenClaim}
use Rattle.desk_replies.specs.declared.desk.Desk.{Desk}
use Rattle.desk_replies.specs.declared.desk.RoundClock.{RoundClock}
use Rattle.desk_replies.specs.declared.kept.KeptOn.{KeptOn}
use Rattle.desk_replies.specs.declared.said.StandingClaim.{StandingClaim}
use Rattle.desk_replies.specs.declared.said.Statement.{Statement}
use Rattle.desk_replies.specs.declared.desk.TableCall.{TableCall}
use Rattle.desk_replies.specs.declared.said.ClaimRefusal.{ClaimRefusal}
use Rattle.desk_replies.specs.declared.refused.DeskRefused.{DeskRefused}
use Rattle.desk_replies.specs.declared.refused.DeskRefused.TheVariants.{Session, TooSoon}
use Rattle.desk_replies.specs.Asked.{asked_of}
use Rattle.desk_replies.specs.Claims.{standing, is_of_last, claim_to}
use Rattle.desk_replies.specs.Desk.{call_at, statement_at, refusal_at, is_said_with}
use Rattle.desk_replies.specs.Taken.{Taken, taken, left_by}

-- the director's notice, if there is one
abbrev pub notice_lines : Option (List ℕ) → List (List ℕ)
notice_lines None = []
notice_lines (Some text) = spaced_line (codes "NOTICE") (text ∷ []) ∷ []

-- the second of the server at which a clock ends, as far as 32 bits count
abbrev pub end_of_clock : RoundClock → ℕ
end_of_clock clock = min (clock.begun + 60 * clock.minutes) 4294967295

-- when the round's clock ends, if there is one
abbrev pub clock_lines : Option RoundClock → List (List ℕ)
clock_lines None = []
clock_lines (Some clock) = spaced_line (codes "CLOCK") (decimal (end_of_clock clock) ∷ []) ∷ []

-- the table, the second since which it calls, the pair and the name of the player who called, and what he said
abbrev pub call_line : List Pair → TableCall → List ℕ
call_line pairs call =
    spaced_line (codes "CALL")
    (decimal call.table ∷ decimal call.since ∷ decimal call.player.pair ∷ player_name pairs call.player.pair call.player.first ∷ call.text ∷ [])

-- a call, if there is one
abbrev pub call_lines : List Pair → Option TableCall → List (List ℕ)
call_lines pairs None = []
call_lines pairs (Some call) = call_line pairs call ∷ []

-- what was said
abbrev pub said_line : Statement → List ℕ
said_line statement = spaced_line (codes "STATEMENT") (statement.text ∷ [])

-- what was said with the claim that stands, if something was
abbrev pub said_lines : Option StandingClaim → Option Statement → List (List ℕ)
said_lines None statement = []
said_lines (Some claim) None = []
said_lines (Some claim) (Some statement) = if is_said_with claim (Some statement) then said_line statement ∷ [] else []

-- the call of the table where a player sits
abbrev pub own_call_lines : List Pair → Desk → Result Seating SessionRefused → List (List ℕ)
own_call_lines pairs desk (Err refused) = []
own_call_lines pairs desk (Ok seating) = call_lines pairs (call_at desk seating.table)

-- what was said with the claim that he is shown there
abbrev pub own_said_lines : Desk → Result SeenClaim SessionRefused → List (List ℕ)
own_said_lines desk (Err refused) = []
own_said_lines desk (Ok seen) = said_lines (standing seen) (statement_at desk seen.table)

-- that a seat has agreed to the claim that stands, if it has
abbrev pub agreed_by : Claim → Seat → List (List ℕ)
agreed_by claim seat = if has_agreed claim seat then spaced_line (codes "AGREED") ((seat_letter seat ∷ []) ∷ []) ∷ [] else []

-- who has agreed to the claim that stands
abbrev pub agreed_lines : Option Claim → List (List ℕ)
agreed_lines None = []
agreed_lines (Some claim) = agreed_by claim North ++ (agreed_by claim East ++ (agreed_by claim South ++ agreed_by claim West))

-- who refused the last claim that was made in the play, if somebody said so
abbrev pub refused_lines : SeenClaim → Option ClaimRefusal → List (List ℕ)
refused_lines seen None = []
refused_lines seen (Some refusal) =
    if is_of_last seen refusal then spaced_line (codes "REFUSED") ((seat_letter refusal.seat ∷ []) ∷ []) ∷ [] else []

-- what was answered to the claims that he is shown there
abbrev pub own_answer_lines : Desk → Result SeenClaim SessionRefused → List (List ℕ)
own_answer_lines desk (Err refused) = []
own_answer_lines desk (Ok seen) = agreed_lines seen.claim ++ refused_lines seen (refusal_at desk seen.table)

-- the pairs at the table of a row, North and South's first, and the names, if there is such a row
abbrev pub row_lines : List Pair → Option Row → List (List ℕ)
row_lines pairs None = []
row_lines pairs (Some row) = spaced_line (codes "MEETS") (decimal row.ns ∷ decimal row.ew ∷ names_at pairs row) ∷ []

-- the pairs and names where a player sits
abbrev pub meeting_lines : ConfigValue → Result Seating SessionRefused → List (List ℕ)
meeting_lines configuration (Err refused) = []
meeting_lines configuration (Ok seating) = row_lines configuration.pairs (slice_get configuration.movement.rows seating.row)

-- those where he sits in the next round, where there is one
abbrev pub next_lines : ConfigValue → ℕ → ℕ → List (List ℕ)
next_lines configuration round key =
    if nat_lt round configuration.movement.shape.rounds then meeting_lines configuration (seating_of configuration (round + 1) key) else []

-- what is told to the player of the key of his own table, and of his next one
abbrev pub own_lines : SessionValue → Desk → ℕ → List (List ℕ)
own_lines s desk key =
    own_call_lines s.configuration.pairs desk (seating_of s.configuration s.round key)
    ++ (own_said_lines desk (claim_to s key) ++ (own_answer_lines desk (claim_to s key) ++ next_lines s.configuration s.round key))

-- what the director is told: the calls of all tables, by table
abbrev pub all_call_lines : SessionValue → Desk → List (List ℕ)
all_call_lines s desk = flat_map (call_lines s.configuration.pairs) desk.calls

-- what concerns the holder of a key
abbrev pub concerns : SessionValue → Desk → ℕ → List (List ℕ)
concerns s desk key = if key == s.configuration.director then all_call_lines s desk else own_lines s desk key

-- The standing lines, told to the holder of a key: the notice and the clock, as to everybody, and what concerns him. They are
-- the same at every second.
abbrev pub standing_lines : SessionValue → Desk → ℕ → List (List ℕ)
standing_lines s desk key = notice_lines desk.notice ++ (clock_lines desk.clock ++ concerns s desk key)

-- the second of the server, and the one at which the pages are shown no longer
abbrev pub now_line : ℕ → ℕ → List ℕ
now_line at ends = spaced_line (codes "NOW") (decimal at ∷ decimal ends ∷ [])

-- the name of the disk, where it can be shown
abbrev pub named_lines : Option (List ℕ) → List (List ℕ)
named_lines None = []
named_lines (Some name) = spaced_line (codes "DISK") (name ∷ []) ∷ []

-- the epoch of a disk and the number of its records, where they are known
abbrev pub kept_lines : Option KeptOn → List (List ℕ)
kept_lines None = []
kept_lines (Some kept) = spaced_line (codes "KEPT") (decimal kept.epoch ∷ decimal kept.records ∷ []) ∷ []

-- the name of the disks, and what is kept on each
abbrev pub all_disk_lines : Desk → List (List ℕ)
all_disk_lines desk = named_lines desk.disk ++ (kept_lines desk.kept.first ++ kept_lines desk.kept.second)

-- which the director alone is told
abbrev pub disk_lines : SessionValue → Desk → ℕ → List (List ℕ)
disk_lines s desk key = if key == s.configuration.director then all_disk_lines desk else []

-- the second, the disks, and the standing lines
abbrev pub standing_text : SessionValue → Desk → ℕ → ℕ → List ℕ
standing_text s desk at key = listed_text (now_line at desk.ends ∷ (disk_lines s desk key ++ standing_lines s desk key))

-- the line of a refusal
abbrev pub refused_text : DeskRefused → List ℕ
refused_text (Session refused) = short_text (Refused refused)
refused_text TooSoon = refusal_line 32 (codes "TooSoon")

-- what is answered: what stands then, or why nothing is taken
abbrev pub taken_text : SessionValue → ℕ → ℕ → Taken → List ℕ
taken_text s at key (Err refused) = refused_text refused
taken_text s at key (Ok desk) = standing_text s desk at key

-- how many tables, rounds and boards of a set there are, and how scores are compared
abbrev pub plan_words : ConfigValue → List (List ℕ)
plan_words configuration =
    decimal configuration.movement.shape.tables
    ∷ decimal configuration.movement.shape.rounds
    ∷ decimal configuration.boards
    ∷ scoring_word configuration.scoring
    ∷ []

-- the event, the site, the date, and the plan
abbrev pub event_lines : ConfigValue → List (List ℕ)
event_lines configuration =
    spaced_line (codes "EVENT") (configuration.event ∷ [])
    ∷ spaced_line (codes "SITE") (configuration.site ∷ [])
    ∷ spaced_line (codes "DATE") (configuration.date ∷ [])
    ∷ spaced_line (codes "PLAN") (plan_words configuration)
    ∷ []

-- what is answered to bytes that ask by no key: where there are none, of which event the session is
abbrev pub keyless_text : ConfigValue → List ℕ → List ℕ
keyless_text configuration [] = listed_text (event_lines configuration)
keyless_text configuration (byte ∷ bytes) = short_text BadLine

-- what is answered to what is asked by these bytes
abbrev pub asked_text : SessionValue → Desk → ℕ → List ℕ → Option Asked → List ℕ
asked_text s desk at bytes None = keyless_text s.configuration bytes
asked_text s desk at bytes (Some asked) = taken_text s at asked.key.0 (taken s desk at asked)

-- what is answered to these bytes at a second
abbrev pub desk_text : SessionValue → Desk → ℕ → List ℕ → List ℕ
desk_text s desk at bytes = asked_text s desk at bytes (asked_of bytes)

-- what stands once that is answered
abbrev pub desk_after_asked : SessionValue → Desk → ℕ → Option Asked → Desk
desk_after_asked s desk at None = desk
desk_after_asked s desk at (Some asked) = left_by desk (taken s desk at asked)

-- what stands once these bytes are answered at a second
abbrev pub desk_after : SessionValue → Desk → ℕ → List ℕ → Desk
desk_after s desk at bytes = desk_after_asked s desk at (asked_of bytes)
