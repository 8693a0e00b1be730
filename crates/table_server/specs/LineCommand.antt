-- Which line states which command, and what each command asks for.
use Rattle.std.specs.Prelude.{◌≡◌, ℕ, Bool, true, false, if◌then◌else◌, List, [], ◌∷◌, codes, Option, Some, None}
use Rattle.std.specs.Str.{bytes_eq}
use Rattle.line_text.specs.Words.{spaced, spaced_words, only_word}
use Rattle.bridge_cards.specs.Deal.{IsDeal}
use Rattle.bridge_cards.specs.DealText.{SpellsDeal, StatesOnly, StatesNone}
use Rattle.bridge_cards.specs.Shuffle.{shuffled_deck, IsDealtFrom}
use Rattle.bridge_auction.specs.Spelling.{call_of}
use Rattle.bridge_config.specs.declared.fields.Key.{Key}
use Rattle.session_rules.specs.declared.action.PlayId.{PlayId}
use Rattle.session_rules.specs.declared.action.Action.TheVariants as action
use Rattle.session_rules.specs.declared.average.Average.{Average}
use Rattle.table_server.specs.declared.asked.Asked.{Asked}
use Rattle.table_server.specs.declared.asked.Asked.TheVariants.{Change, Told}
use Rattle.table_server.specs.declared.asked.Question.TheVariants as question
use Rattle.table_server.specs.declared.command.Command.{Command}
use Rattle.table_server.specs.declared.command.Command.TheVariants.{Deal, Shuffle, Call, Card, Claim, Agree, Refuse, Next, Tricks, Void, Adjust, Restore, Sync, See, Rank, Solve, Pbn}
use Rattle.table_server.specs.declared.player_lines.Turn.{Turn}
use Rattle.line_replies.specs.KeyWord.{key_of_word}
use Rattle.table_server.specs.LineWords.{◌>>=◌, first_of, board_of_word, made_of_word, tricks_of_word, average_of_word, round_of_word, table_of_word, index_of_word, cards_of_word, field_of_word, card_of_word, seed_of}

-- Each line by the words after its first.

-- a key, a board and 64 hexadecimal digits
unfoldable pub shuffle_line : List (List ℕ) → Option Command
shuffle_line words = do
  key ← first_of key_of_word words
  board ← first_of board_of_word key.1
  word ← only_word board.1
  seed ← seed_of word
  Some (Shuffle key.0 board.0 seed)

-- a key, a board, and how many calls, cards or claims were made, or which claim is answered
unfoldable pub turn_words : List (List ℕ) → Option Turn
turn_words words = do
  key ← first_of key_of_word words
  board ← first_of board_of_word key.1
  word ← only_word board.1
  at ← made_of_word word
  Some (record { key = key.0; board = board.0; at = at })

-- the same, and the words after them
unfoldable pub turn_and_words : List (List ℕ) → Option (Turn × List (List ℕ))
turn_and_words words = do
  key ← first_of key_of_word words
  board ← first_of board_of_word key.1
  at ← first_of made_of_word board.1
  Some (record { key = key.0; board = board.0; at = at.0 }, at.1)

-- a turn, and a call
unfoldable pub call_line : List (List ℕ) → Option Command
call_line words = do
  turn ← turn_and_words words
  word ← only_word turn.1
  call ← call_of word
  Some (Call turn.0.key turn.0.board turn.0.at call)

-- a turn, and a card
unfoldable pub card_line : List (List ℕ) → Option Command
card_line words = do
  turn ← turn_and_words words
  word ← only_word turn.1
  card ← card_of_word word
  Some (Card turn.0.key turn.0.board turn.0.at card)

-- a turn, and tricks
unfoldable pub claim_line : List (List ℕ) → Option Command
claim_line words = do
  turn ← turn_and_words words
  word ← only_word turn.1
  tricks ← tricks_of_word word
  Some (Claim turn.0.key turn.0.board turn.0.at tricks)

-- a turn alone
unfoldable pub agree_line : List (List ℕ) → Option Command
agree_line words = do
  turn ← turn_words words
  Some (Agree turn.key turn.board turn.at)

-- the same, where the claim is refused
unfoldable pub refuse_line : List (List ℕ) → Option Command
refuse_line words = do
  turn ← turn_words words
  Some (Refuse turn.key turn.board turn.at)

-- a key, and the round that ends
unfoldable pub next_line : List (List ℕ) → Option Command
next_line words = do
  key ← first_of key_of_word words
  word ← only_word key.1
  round ← round_of_word word
  Some (Next key.0 round)

-- a round, a table and the index of a board in its set
unfoldable pub play_words : List (List ℕ) → Option PlayId
play_words words = do
  round ← first_of round_of_word words
  table ← first_of table_of_word round.1
  word ← only_word table.1
  index ← index_of_word word
  Some (record { round = round.0; table = table.0; index = index })

-- a key and a play
unfoldable pub void_line : List (List ℕ) → Option Command
void_line words = do
  key ← first_of key_of_word words
  play ← play_words key.1
  Some (Void key.0 play)

-- the same, where the play is brought back
unfoldable pub restore_line : List (List ℕ) → Option Command
restore_line words = do
  key ← first_of key_of_word words
  play ← play_words key.1
  Some (Restore key.0 play)

-- a round, a table and an index, and the words after them
unfoldable pub play_and_words : List (List ℕ) → Option (PlayId × List (List ℕ))
play_and_words words = do
  round ← first_of round_of_word words
  table ← first_of table_of_word round.1
  index ← first_of index_of_word table.1
  Some (record { round = round.0; table = table.0; index = index.0 }, index.1)

-- the averages of both sides
unfoldable pub average_words : List (List ℕ) → Option (Average × Average)
average_words words = do
  ns ← first_of average_of_word words
  word ← only_word ns.1
  ew ← average_of_word word
  Some (ns.0, ew)

-- a key, a play, and the averages of both sides
unfoldable pub adjust_line : List (List ℕ) → Option Command
adjust_line words = do
  key ← first_of key_of_word words
  play ← play_and_words key.1
  averages ← average_words play.1
  Some (Adjust key.0 play.0 averages.0 averages.1)

-- a key, a play, and the tricks of declarer
unfoldable pub tricks_line : List (List ℕ) → Option Command
tricks_line words = do
  key ← first_of key_of_word words
  play ← play_and_words key.1
  word ← only_word play.1
  tricks ← tricks_of_word word
  Some (Tricks key.0 play.0 tricks)

-- a key, a play, and how many cards were played before the ending
unfoldable pub solve_line : List (List ℕ) → Option Command
solve_line words = do
  key ← first_of key_of_word words
  play ← play_and_words key.1
  word ← only_word play.1
  cards ← cards_of_word word
  Some (Solve key.0 play.0 cards)

-- a key alone
unfoldable pub see_line : List (List ℕ) → Option Command
see_line words = do
  word ← only_word words
  key ← key_of_word word
  Some (See key)

-- a key and a field
unfoldable pub rank_line : List (List ℕ) → Option Command
rank_line words = do
  key ← first_of key_of_word words
  word ← only_word key.1
  field ← field_of_word word
  Some (Rank key.0 field)

-- a key alone
unfoldable pub pbn_line : List (List ℕ) → Option Command
pbn_line words = do
  word ← only_word words
  key ← key_of_word word
  Some (Pbn key)

-- The lines by their first word, all but those of `DEAL`.

-- the questions,
abbrev pub reading_line : List ℕ → List (List ℕ) → Option Command
reading_line keyword words =
    if bytes_eq keyword (codes "SEE") then see_line words
    else if bytes_eq keyword (codes "RANK") then rank_line words
    else if bytes_eq keyword (codes "SOLVE") then solve_line words
    else if bytes_eq keyword (codes "PBN") then pbn_line words
    else None

-- what the director does, or else a question,
abbrev pub director_line : List ℕ → List (List ℕ) → Option Command
director_line keyword words =
    if bytes_eq keyword (codes "SHUFFLE") then shuffle_line words
    else if bytes_eq keyword (codes "NEXT") then next_line words
    else if bytes_eq keyword (codes "TRICKS") then tricks_line words
    else if bytes_eq keyword (codes "VOID") then void_line words
    else if bytes_eq keyword (codes "ADJUST") then adjust_line words
    else if bytes_eq keyword (codes "RESTORE") then restore_line words
    else reading_line keyword words

-- and what players do, or else one of those
abbrev pub plain_line : List ℕ → List (List ℕ) → Option Command
plain_line keyword words =
    if bytes_eq keyword (codes "CALL") then call_line words
    else if bytes_eq keyword (codes "CARD") then card_line words
    else if bytes_eq keyword (codes "CLAIM") then claim_line words
    else if bytes_eq keyword (codes "AGREE") then agree_line words
    else if bytes_eq keyword (codes "REFUSE") then refuse_line words
    else director_line keyword words

-- what a line that deals names: the key, the board, and the text of the hands, the rest of the line
pub record Dealing : Type 0 where
  pub key : Key
  pub board : ℕ
  pub text : List ℕ

-- the key, the board, and the words behind them, with single spaces between
unfoldable pub deal_words : List (List ℕ) → Option Dealing
deal_words words = do
  key ← first_of key_of_word words
  board ← first_of board_of_word key.1
  Some (record { key = key.0; board = board.0; text = spaced board.1 })

-- the hands that the text states, and no others
pub record DealsHands (dealing : Dealing) (command : Command) : Type 0 where
  pub hands : List ℕ
  pub states : SpellsDeal hands dealing.text
  pub only : StatesOnly dealing.text hands
  pub deals : command ≡ Deal dealing.key dealing.board hands

-- a line that deals is read as the hands that its text states, if it states four
abbrev pub ReadsDeal : Option Dealing → Option Command → Type 0
ReadsDeal None found = found ≡ None
ReadsDeal (Some dealing) None = StatesNone dealing.text
ReadsDeal (Some dealing) (Some command) = DealsHands dealing command

-- by whether the keyword is `DEAL`
abbrev pub ReadsAfter : Bool → List ℕ → List (List ℕ) → Option Command → Type 0
ReadsAfter true keyword words found = ReadsDeal (deal_words words) found
ReadsAfter false keyword words found = found ≡ plain_line keyword words

-- by the words: `SYNC` stands alone, and no other keyword does
abbrev pub ReadsWords : List (List ℕ) → Option Command → Type 0
ReadsWords [] found = found ≡ None
ReadsWords (keyword ∷ []) found = found ≡ (if bytes_eq keyword (codes "SYNC") then Some Sync else None)
ReadsWords (keyword ∷ word ∷ words) found = ReadsAfter (bytes_eq keyword (codes "DEAL")) keyword (word ∷ words) found

-- the command that the line states, if it states one
abbrev pub ReadsLine : List ℕ → Option Command → Type 0
ReadsLine line found = ReadsWords (spaced_words line) found

-- the deal of a board by the shuffle of a seed is asked for
pub record AsksForDeal (key : Key) (board : ℕ) (seed : List ℕ) (asked : Asked) : Type 0 where
  pub hands : List ℕ
  pub dealt : IsDealtFrom (shuffled_deck seed board) hands
  pub deal : IsDeal hands
  pub asks : asked ≡ Change (action.Deal key board hands)

-- what a command asks for
abbrev pub AsksFor : Command → Asked → Type 0
AsksFor (Deal key board hands) asked = asked ≡ Change (action.Deal key board hands)
AsksFor (Shuffle key board seed) asked = AsksForDeal key board seed asked
AsksFor (Call key board at call) asked = asked ≡ Change (action.Call key board at call)
AsksFor (Card key board at card) asked = asked ≡ Change (action.Card key board at card)
AsksFor (Claim key board at tricks) asked = asked ≡ Change (action.Claim key board at tricks)
AsksFor (Agree key board at) asked = asked ≡ Change (action.Agree key board at)
AsksFor (Refuse key board at) asked = asked ≡ Change (action.Refuse key board at)
AsksFor (Next key round) asked = asked ≡ Change (action.NextRound key round)
AsksFor (Tricks key play tricks) asked = asked ≡ Change (action.Tricks key play tricks)
AsksFor (Void key play) asked = asked ≡ Change (action.Void key play)
AsksFor (Adjust key play ns ew) asked = asked ≡ Change (action.Adjust key play ns ew)
AsksFor (Restore key play) asked = asked ≡ Change (action.Restore key play)
AsksFor Sync asked = asked ≡ Told question.Sync
AsksFor (See key) asked = asked ≡ Told (question.See key)
AsksFor (Rank key field) asked = asked ≡ Told (question.Rank key field)
AsksFor (Solve key play cards) asked = asked ≡ Told (question.Solve key play cards)
AsksFor (Pbn key) asked = asked ≡ Told (question.Pbn key)
