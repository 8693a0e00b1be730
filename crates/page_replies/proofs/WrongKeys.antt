-- A key that is nobody's is refused as that.
use Rattle.std.proofs.Common.{◌≡◌, ℕ, ◌==◌, Bool, true, false, cond, List, Option, Some, None, Ok, Err, refl, sym, ap, ◌∙◌}
use Rattle.std.specs.Prelude.{is_some, is_none, ok_or}
use Rattle.std.specs.Option.{option_map_or}
use Rattle.std.proofs.lemmas.Bool.{true≢false}
use Rattle.bridge_config.specs.declared.fields.Key.{Key}
use Rattle.session_rules.specs.declared.refused.Refused.TheVariants.{NotAllowed, NoKey}
use Rattle.session_rules.specs.declared.seating.Player.{Player}
use Rattle.session_rules.specs.Answer.{Answer}
use Rattle.session_rules.specs.State.{SessionValue, director_answer, ranking_asker, is_closed, is_nobodys, player_of}
use Rattle.session_rules.specs.Stage.{stage_to}
use Rattle.line_replies.specs.declared.short_reply.ShortReply.TheVariants.{Refused, BadLine}
use Rattle.line_replies.specs.KeyWord.{key_of_word}
use Rattle.line_replies.specs.ReplyTexts.{short_text}
use Rattle.page_replies.specs.Place.{place_by, place_to, place_text}
use Rattle.page_replies.specs.Tables.{tables_by, tables_text}
use Rattle.page_replies.specs.ToldResults.{ResultsBy, ResultsTo}

-- by whether the key is the director's, and by whose it is else
by_player : (his : Bool) (player : Option Player) → cond his false (is_none player) ≡ true → cond his (Err NotAllowed) (ok_or player NoKey) ≡ Err NoKey
by_player true player is = absurd (true≢false (sym is))
by_player false (Some one) is = absurd (true≢false (sym is))
by_player false None is = refl

by_director : (his : Bool) (player : Option Player) → cond his false (is_none player) ≡ true → ◌≡◌ {A = Answer} (cond his (Ok tt) (Err (cond (is_some player) NotAllowed NoKey))) (Err NoKey)
by_director true player is = absurd (true≢false (sym is))
by_director false (Some one) is = absurd (true≢false (sym is))
by_director false None is = refl

by_asker : (his closed : Bool) (player : Option Player) → cond his false (is_none player) ≡ true
    → ◌≡◌ {A = Answer} (cond his (Ok tt) (cond (is_some player) (cond closed (Ok tt) (Err NotAllowed)) (Err NoKey))) (Err NoKey)
by_asker true closed player is = absurd (true≢false (sym is))
by_asker false closed (Some one) is = absurd (true≢false (sym is))
by_asker false closed None is = refl

module _ (s : SessionValue) where
  -- of a key
  key_place : (key : ℕ) → is_nobodys s.configuration key ≡ true → place_to s key ≡ short_text (Refused NoKey)
  key_place key is =
      ap (place_by s.configuration s.round (stage_to s key) key) (by_player (key == s.configuration.director) (player_of s.configuration key) is)

  key_tables : (key : ℕ) → is_nobodys s.configuration key ≡ true → tables_by s (director_answer s.configuration key) ≡ short_text (Refused NoKey)
  key_tables key is = ap (tables_by s) (by_director (key == s.configuration.director) (player_of s.configuration key) is)

  key_asks : (key : ℕ) → is_nobodys s.configuration key ≡ true → ranking_asker s.configuration s.round key ≡ Err NoKey
  key_asks key is = by_asker (key == s.configuration.director) (is_closed s.configuration s.round) (player_of s.configuration key) is

  -- of bytes
  word_place : (word : Option Key) → option_map_or (λ (key : Key). is_nobodys s.configuration key.0) word false ≡ true
      → option_map_or (λ key. place_to s key.0) word (short_text BadLine) ≡ short_text (Refused NoKey)
  word_place None is = absurd (true≢false (sym is))
  word_place (Some key) is = key_place key.0 is

  word_tables : (word : Option Key) → option_map_or (λ (key : Key). is_nobodys s.configuration key.0) word false ≡ true
      → option_map_or (λ key. tables_by s (director_answer s.configuration key.0)) word (short_text BadLine) ≡ short_text (Refused NoKey)
  word_tables None is = absurd (true≢false (sym is))
  word_tables (Some key) is = key_tables key.0 is

  by_answer : (answer : Answer) (text : List ℕ) → answer ≡ Err NoKey → ResultsBy s answer text → text ≡ short_text (Refused NoKey)
  by_answer (Ok done) text is told = absurd cc
  by_answer (Err refused) text is told = told ∙ ap (λ (answer : Answer). text_of answer) is
    where
      text_of : Answer → List ℕ
      text_of (Ok done) = short_text BadLine
      text_of (Err why) = short_text (Refused why)

  word_results : (word : Option Key) (text : List ℕ) → option_map_or (λ (key : Key). is_nobodys s.configuration key.0) word false ≡ true
      → ResultsTo s word text → text ≡ short_text (Refused NoKey)
  word_results None text is told = absurd (true≢false (sym is))
  word_results (Some key) text is told = by_answer (ranking_asker s.configuration s.round key.0) text (key_asks key.0 is) told

  pub place_told : (bytes : List ℕ) → option_map_or (λ (key : Key). is_nobodys s.configuration key.0) (key_of_word bytes) false ≡ true → place_text s bytes ≡ short_text (Refused NoKey)
  place_told bytes is = word_place (key_of_word bytes) is

  pub tables_told : (bytes : List ℕ) → option_map_or (λ (key : Key). is_nobodys s.configuration key.0) (key_of_word bytes) false ≡ true → tables_text s bytes ≡ short_text (Refused NoKey)
  tables_told bytes is = word_tables (key_of_word bytes) is

  pub results_told : (bytes text : List ℕ) → option_map_or (λ (key : Key). is_nobodys s.configuration key.0) (key_of_word bytes) false ≡ true
      → ResultsTo s (key_of_word bytes) text → text ≡ short_text (Refused NoKey)
  results_told bytes text is told = word_results (key_of_word bytes) text is told
