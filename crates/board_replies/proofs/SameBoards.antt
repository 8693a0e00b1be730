-- Where two sessions have the same finished plays of a player's pair, he is told the same boards.
use Rattle.std.proofs.Common.{◌≡◌, ◌≢◌, ℕ, ◌==◌, Bool, true, false, cond, List, [], ◌∷◌, ◌++◌, Some, Result, Ok, Err, refl, sym, ap, ◌∙◌}
use Rattle.std.specs.Prelude.{is_some, flat_map, All}
use Rattle.std.proofs.lemmas.List.Elements.{All-head, All-tail}
use Rattle.std.proofs.lemmas.Bool.{ne_eqb}
use Rattle.bridge_config.specs.ConfigValue.{ConfigValue}
use Rattle.session_rules.specs.declared.refused.Refused.TheVariants.{NotAllowed, NoKey}
use Rattle.board_replies.specs.declared.asked.Asked.{Asked}
use Rattle.board_replies.specs.declared.asked.Asked.TheVariants.{Whole, OnePlay, Switch}
use Rattle.board_replies.specs.Asked.{key_in}
use Rattle.board_replies.specs.Director.{one_by}
use Rattle.session_rules.specs.declared.refused.Refused.{Refused as SessionRefused}
use Rattle.session_rules.specs.declared.seating.Player.{Player}
use Rattle.session_rules.specs.State.{SessionValue, acting_player, player_of, director_answer}
use Rattle.line_replies.specs.ReplyTexts.{listed_text}
use Rattle.board_replies.specs.OwnPlays.{OwnPlay, own_plays}
use Rattle.board_replies.specs.Told.{others_line, own_lines, told_lines, boards_by, boards_to, rulings_text, whole_to, switched_by, asked_text}
use Rattle.board_replies.specs.PlayLines.{play_lines}
use Rattle.board_replies.specs.Beside.{board_beside}
use Rattle.bridge_results.specs.declared.traveller.BoardLine.{BoardLine}
use Rattle.bridge_results.specs.Traveller.{traveller}
use Rattle.session_rules.specs.Answer.{Answer}
use Rattle.board_replies.specs.Finished.{FinishedAlike}

module _ (s t : SessionValue) (is_open : Bool) (same : s.configuration ≡ t.configuration) where
  -- the lines of one play, and of other tables on its board
  lines_same : (to_open : Bool) (own : OwnPlay) → (to_open ≡ true → traveller s own.known.board ≡ traveller t own.known.board) → own_lines s to_open own ≡ own_lines t to_open own
  lines_same false own others = ap (λ k. play_lines k own.row own.index (Some own.side) own.known ++ []) same
  lines_same true own others =
      ap (λ k. play_lines k own.row own.index (Some own.side) own.known ++ board_beside k.scoring own.side own.row (traveller s own.known.board)) same
      ∙ ap (λ (lines : List BoardLine). play_lines t.configuration own.row own.index (Some own.side) own.known ++ board_beside t.configuration.scoring own.side own.row lines)
      (others refl)

  -- of the same plays
  all_same : (plays : List OwnPlay) → (is_open ≡ true → All (λ (own : OwnPlay). traveller s own.known.board ≡ traveller t own.known.board) plays)
      → flat_map (own_lines s is_open) plays ≡ flat_map (own_lines t is_open) plays
  all_same [] others = refl
  all_same (own ∷ plays) others =
      let alike = λ (one : OwnPlay). traveller s one.known.board ≡ traveller t one.known.board in
      ap (λ lines. lines ++ flat_map (own_lines s is_open) plays) (lines_same is_open own (λ told. All-head alike own plays (others told)))
      ∙ ap (λ rest. own_lines t is_open own ++ rest) (all_same plays (λ told. All-tail alike own plays (others told)))

  -- to the same player
  same_by : (player : Result Player SessionRefused) → ((one : Player) → player ≡ Ok one → own_plays s one.pair ≡ own_plays t one.pair)
      → ((one : Player) → player ≡ Ok one → is_open ≡ true → All (λ (own : OwnPlay). traveller s own.known.board ≡ traveller t own.known.board) (own_plays s one.pair))
      → boards_by s is_open player ≡ boards_by t is_open player
  same_by (Err refused) plays others = refl
  same_by (Ok one) plays others =
      ap (λ lines. listed_text (others_line is_open ∷ lines)) (all_same (own_plays s one.pair) (others one refl))
      ∙ ap (λ (own : List OwnPlay). listed_text (told_lines t is_open own)) (plays one refl)

pub boards_same : (is_open : Bool) (key : ℕ) (s t : SessionValue) → FinishedAlike is_open key s t → boards_to s is_open key ≡ boards_to t is_open key
boards_same is_open key s t alike =
    same_by s t is_open alike.configuration (acting_player s.configuration key) alike.plays alike.others
    ∙ ap (λ configuration. boards_by t is_open (acting_player configuration key)) alike.configuration

-- whatever is asked by a key that is not the director's
module _ (s t : SessionValue) (is_open : Bool) where
  whole_same : (key : ℕ) → key ≢ s.configuration.director → FinishedAlike is_open key s t → whole_to s is_open key ≡ whole_to t is_open key
  whole_same key other alike =
      let not_his : (key == s.configuration.director) ≡ false = ne_eqb key s.configuration.director other in
      let not_there : (key == t.configuration.director) ≡ false = ap (λ (k : ConfigValue). key == k.director) (sym alike.configuration) ∙ not_his in
      ap (λ b. cond b (rulings_text s is_open) (boards_to s is_open key)) not_his
      ∙ boards_same is_open key s t alike
      ∙ sym (ap (λ b. cond b (rulings_text t is_open) (boards_to t is_open key)) not_there)

  -- the director alone is answered
  refused_same : (key : ℕ) (f g : Answer → List ℕ) → ((refused : SessionRefused) → f (Err refused) ≡ g (Err refused)) → key ≢ s.configuration.director → s.configuration ≡ t.configuration
      → f (director_answer s.configuration key) ≡ g (director_answer t.configuration key)
  refused_same key f g refuse other same =
      let why = cond (is_some (player_of s.configuration key)) NotAllowed NoKey in
      let not_his : (key == s.configuration.director) ≡ false = ne_eqb key s.configuration.director other in
      let refused : director_answer s.configuration key ≡ Err why = ap (λ b. cond b (Ok tt) (Err why)) not_his in
      let also : director_answer t.configuration key ≡ Err why = ap (λ (k : ConfigValue). director_answer k key) (sym same) ∙ refused in
      ap f refused ∙ refuse why ∙ sym (ap g also)

  pub asked_same : (asked : Asked) → key_in asked ≢ s.configuration.director → FinishedAlike is_open (key_in asked) s t → asked_text s is_open (Some asked) ≡ asked_text t is_open (Some asked)
  asked_same (Whole key) other alike = whole_same key.0 other alike
  asked_same (OnePlay key play) other alike = refused_same key.0 (one_by s play) (one_by t play) (λ refused. refl) other alike.configuration
  asked_same (Switch key to_open) other alike = refused_same key.0 (switched_by to_open) (switched_by to_open) (λ refused. refl) other alike.configuration
