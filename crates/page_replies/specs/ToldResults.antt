-- The results of a session, told to who may see its rankings.
use Rattle.std.specs.Prelude.{◌≡◌, ℕ, List, Option, Some, None, Ok, Err}
use Rattle.bridge_config.specs.declared.fields.Key.{Key}
use Rattle.bridge_results.specs.ResultsText.{IsPageText}
use Rattle.page_layout.specs.declared.format.Format.TheVariants.{Plain}
use Rattle.session_rules.specs.Answer.{Answer}
use Rattle.session_rules.specs.State.{SessionValue, ranking_asker}
use Rattle.session_store.specs.Value.{StoreValue}
use Rattle.session_rules.specs.declared.action.Action.{Action}
use Rattle.line_replies.specs.declared.short_reply.ShortReply.TheVariants.{Refused, BadLine}
use Rattle.line_replies.specs.KeyWord.{key_of_word}
use Rattle.line_replies.specs.ReplyTexts.{short_text}

-- the results for one who may see the rankings, or the refusal
abbrev pub ResultsBy : SessionValue → Answer → List ℕ → Type 0
ResultsBy s (Ok _) text = IsPageText Plain s text
ResultsBy s (Err refused) text = text ≡ short_text (Refused refused)

-- what is told to the holder of the key, if it is one
abbrev pub ResultsTo : SessionValue → Option Key → List ℕ → Type 0
ResultsTo s None text = text ≡ short_text BadLine
ResultsTo s (Some key) text = ResultsBy s (ranking_asker s.configuration s.round key.0) text

-- over the session of a store: the text is what is told to the holder of the key that these bytes are
abbrev pub results_told : {D : Type 0} → StoreValue D SessionValue Action → List ℕ → List ℕ → Type 0
results_told store key text = ResultsTo store.state (key_of_word key) text
