-- What the replies to questions tell.
use Rattle.std.specs.Prelude.{◌≡◌, ◌⊎◌, ◌-◌, ℕ, List, Ok, Err}
use Rattle.bridge_endings.specs.Ending.{tricks_in, IsEnding}
use Rattle.bridge_endings.specs.EndingValue.{EndingValue}
use Rattle.bridge_endings.specs.Worth.{worth_of}
use Rattle.bridge_score.specs.declared.ranking.Ranked.{Ranked}
use Rattle.session_rules.specs.declared.action.PlayId.{PlayId}
use Rattle.bridge_ranking.specs.declared.field.Field.{Field}
use Rattle.session_rules.specs.declared.refused.Refused.{Refused as SessionRefused}
use Rattle.session_rules.specs.declared.view.View.{View}
use Rattle.bridge_session.specs.Ending.{plain_ending, ending_answer}
use Rattle.bridge_ranking.specs.Ranking.{ranking_answer, IsRankingTo}
use Rattle.session_rules.specs.See.{shown_to}
use Rattle.session_rules.specs.State.{SessionValue, director_answer}
use Rattle.session_rules.specs.Views.{IsViewTo}
use Rattle.table_server.specs.declared.asked.Question.{Question}
use Rattle.table_server.specs.declared.asked.Question.TheVariants.{Sync, See, Rank, Solve, Pbn}
use Rattle.line_replies.specs.declared.short_reply.ShortReply.TheVariants.{Done, Refused}
use Rattle.table_server.specs.PbnReply.{pbn_reply}
use Rattle.line_replies.specs.ReplyTexts.{short_text, solved_text, ranking_text}
use Rattle.line_replies.specs.ViewText.{view_text}

-- the refusal that was answered
abbrev pub TellsRefusal : (SessionRefused → Type 0) → List ℕ → Type 0
TellsRefusal IsAnswer text = (refused : SessionRefused) × IsAnswer refused × (text ≡ short_text (Refused refused))

-- a view that shows the player of the key what it may be shown
abbrev pub TellsView : SessionValue → ℕ → List ℕ → Type 0
TellsView s key text = (view : View) × IsViewTo s key view × (text ≡ view_text view)

-- the ranking of a field
abbrev pub TellsRanking : SessionValue → ℕ → Field → List ℕ → Type 0
TellsRanking s key field text =
    (ranking : List Ranked) × IsRankingTo s key field ranking × (text ≡ ranking_text s.configuration.scoring ranking)

-- the worth of what is left of a play after so many cards: the tricks of North and South, and the others
abbrev pub TellsWorth : SessionValue → ℕ → PlayId → ℕ → List ℕ → Type 0
TellsWorth s key play cards text =
    (ending : EndingValue) × IsEnding ending.hands × (ending_answer s key play cards ≡ Ok (plain_ending ending))
    × (text ≡ solved_text (worth_of ending) (tricks_in ending.hands - worth_of ending))

-- the text is the reply to a question in this session
abbrev pub Tells : SessionValue → Question → List ℕ → Type 0
Tells s Sync text = text ≡ short_text Done
Tells s (See key) text = TellsView s key.0 text ⊎ TellsRefusal (λ refused. shown_to s key.0 ≡ Err refused) text
Tells s (Rank key field) text =
    TellsRanking s key.0 field text ⊎ TellsRefusal (λ refused. ranking_answer s key.0 field ≡ Err refused) text
Tells s (Solve key play cards) text =
    TellsWorth s key.0 play cards text ⊎ TellsRefusal (λ refused. ending_answer s key.0 play cards ≡ Err refused) text
Tells s (Pbn key) text = ((director_answer s.configuration key.0 ≡ Ok tt) × (text ≡ pbn_reply s))
    ⊎ TellsRefusal (λ refused. director_answer s.configuration key.0 ≡ Err refused) text
