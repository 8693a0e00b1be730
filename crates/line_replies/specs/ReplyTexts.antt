-- The replies of the protocol as text. Each line ends with a line feed.
use Rattle.std.specs.Prelude.{ℕ, List, [], ◌∷◌, ◌++◌, codes, map, flat_map, unsigned_abs}
use Rattle.std.specs.Fmt.{decimal, signed_decimal}
use Rattle.line_text.specs.Decimals.{tenths_text, percent_text}
use Rattle.line_text.specs.Refusal.{refusal_line}
use Rattle.bridge_auction.specs.Refused.{refusal_number as call_refusal_number, refusal_name as call_refusal_name}
use Rattle.bridge_score.specs.declared.ranking.Ranked.{Ranked}
use Rattle.bridge_cards.specs.declared.scoring.Scoring.{Scoring}
use Rattle.bridge_cards.specs.declared.scoring.Scoring.TheVariants.{MatchPoints, Imps}
use Rattle.bridge_score.specs.Percent.{share_percent}
use Rattle.line_text.specs.Lines.{lines_text}
use Rattle.session_rules.specs.Refused.{refusal_number, refusal_name}
use Rattle.line_replies.specs.declared.short_reply.ShortReply.{ShortReply}
use Rattle.line_replies.specs.declared.short_reply.ShortReply.TheVariants.{Done, Refused, Illegal, BadLine, LongLine, Disk, EpochsSpent}

-- `OK`, or `ERR`, the refusal's number and its name
abbrev pub short_text : ShortReply → List ℕ
short_text Done = codes "OK\n"
short_text (Refused refused) = refusal_line (refusal_number refused) (refusal_name refused)
short_text (Illegal refused) = refusal_line (call_refusal_number refused) (call_refusal_name refused)
short_text BadLine = refusal_line 30 (codes "BadLine")
short_text LongLine = refusal_line 31 (codes "LongLine")
short_text Disk = refusal_line 40 (codes "Disk")
short_text EpochsSpent = refusal_line 41 (codes "EpochsSpent")

-- the words, each after a space
abbrev pub each_spaced : List (List ℕ) → List ℕ
each_spaced words = flat_map (λ word. 32 ∷ word) words

-- a first word and others, with single spaces between
abbrev pub spaced_line : List ℕ → List (List ℕ) → List ℕ
spaced_line first words = first ++ each_spaced words

-- `OK`, lines, and a full stop on a line of its own
abbrev pub listed_text : List (List ℕ) → List ℕ
listed_text lines = lines_text (codes "OK" ∷ (lines ++ codes "." ∷ []))

-- the tricks of both sides
abbrev pub solved_text : ℕ → ℕ → List ℕ
solved_text ns ew = lines_text (spaced_line (codes "OK") (decimal ns ∷ decimal ew ∷ []) ∷ [])

-- what a pair gained in matchpoints, which are never below 0, of what was available to it
abbrev pub share_text : Ranked → List ℕ
share_text ranked = (tenths_text (unsigned_abs ranked.value) ++ codes "/") ++ tenths_text ranked.available

-- under matchpoints the share, and the same as a percentage; under IMPs the sum
abbrev pub gain_words : Scoring → Ranked → List (List ℕ)
gain_words MatchPoints ranked = share_text ranked ∷ percent_text (share_percent ranked) ∷ []
gain_words Imps ranked = signed_decimal ranked.value ∷ []

-- the place, the pair, and what it gained
abbrev pub ranked_line : Scoring → Ranked → List ℕ
ranked_line scoring ranked = spaced_line (decimal ranked.place) (decimal ranked.pair ∷ gain_words scoring ranked)

-- a ranking: a line for each pair, in order
abbrev pub ranking_text : Scoring → List Ranked → List ℕ
ranking_text scoring ranking = listed_text (map (ranked_line scoring) ranking)
