-- A line states one command at most.
use Rattle.std.proofs.Common.{◌≡◌, ℕ, Bool, true, false, List, [], ◌∷◌, Option, Some, None, refl, sym, ap, subst, ◌∙◌}
use Rattle.std.proofs.lemmas.List.Splits.{join_with_byte-slice_split}
use Rattle.line_text.proofs.Splits.{some_part}
use Rattle.bridge_config.specs.declared.fields.Key.{Key}
use Rattle.line_replies.specs.KeyWord.{key_of_word}
use Rattle.table_server.specs.LineWords.{first_of, board_of_word}
use Rattle.std.specs.Prelude.{codes}
use Rattle.std.specs.Str.{bytes_eq}
use Rattle.line_text.specs.Words.{spaced_words}
use Rattle.table_server.specs.declared.command.Command.{Command}
use Rattle.table_server.specs.declared.command.Command.TheVariants.{Deal}
use Rattle.table_server.specs.LineCommand.{Dealing, ReadsDeal, deal_words, ReadsAfter, ReadsWords, ReadsLine, plain_line}

-- what equals the same command twice
both_are : (c d : Command) (found : Option Command) → Some c ≡ found → Some d ≡ found → d ≡ c
both_are c d found p q = cc

-- what is none is no command
none_is_not : (c : Command) (found : Option Command) → None ≡ found → Some c ≡ found → ⊥
none_is_not c found p q = cc

deals_one : (dealing : Option Dealing) (c d : Command) → ReadsDeal dealing (Some c) → ReadsDeal dealing (Some d) → d ≡ c
deals_one None c d p q = both_are c d None p q
deals_one (Some dealing) c d p q =
    q.deals ∙ ap (λ (hands : List ℕ). Deal dealing.key dealing.board hands) (p.only q.hands q.states) ∙ sym p.deals

deals_none : (dealing : Option Dealing) (c : Command) → ReadsDeal dealing None → ReadsDeal dealing (Some c) → ⊥
deals_none None c p q = none_is_not c None p q
deals_none (Some dealing) c p q = p q.hands q.states

after_one : (deals : Bool) (keyword : List ℕ) (words : List (List ℕ)) (c d : Command) → ReadsAfter deals keyword words (Some c) → ReadsAfter deals keyword words (Some d) → d ≡ c
after_one true keyword words c d p q = deals_one (deal_words words) c d p q
after_one false keyword words c d p q = both_are c d (plain_line keyword words) p q

after_none : (deals : Bool) (keyword : List ℕ) (words : List (List ℕ)) (c : Command) → ReadsAfter deals keyword words None → ReadsAfter deals keyword words (Some c) → ⊥
after_none true keyword words c p q = deals_none (deal_words words) c p q
after_none false keyword words c p q = none_is_not c (plain_line keyword words) p q

words_one : (words : List (List ℕ)) (c d : Command) → ReadsWords words (Some c) → ReadsWords words (Some d) → d ≡ c
words_one [] c d p q = both_are c d None p q
words_one (keyword ∷ []) c d p q = both_are c d _ p q
words_one (keyword ∷ word ∷ words) c d p q = after_one (bytes_eq keyword (codes "DEAL")) keyword (word ∷ words) c d p q

words_none : (words : List (List ℕ)) (c : Command) → ReadsWords words None → ReadsWords words (Some c) → ⊥
words_none [] c p q = none_is_not c None p q
words_none (keyword ∷ []) c p q = none_is_not c _ p q
words_none (keyword ∷ word ∷ words) c p q = after_none (bytes_eq keyword (codes "DEAL")) keyword (word ∷ words) c p q

-- two commands that a line states are one
pub reads_one : (line : List ℕ) (c d : Command) → ReadsLine line (Some c) → ReadsLine line (Some d) → d ≡ c
reads_one line c d p q = words_one (spaced_words line) c d p q

-- a line that states none states no command
pub reads_none : (line : List ℕ) (c : Command) → ReadsLine line None → ReadsLine line (Some c) → ⊥
reads_none line c p q = words_none (spaced_words line) c p q

-- what a line that deals names, by its words
pub dealing_is : (words rest : List (List ℕ)) (key : Key) (board : ℕ) (text : List ℕ) → first_of key_of_word words ≡ Some (key, rest) → first_of board_of_word rest ≡ Some (board, spaced_words text) → deal_words words ≡ Some (record { key = key; board = board; text = text })
unfolding deal_words
dealing_is words rest key board text first second = rw (first, second, join_with_byte-slice_split 32 text) refl

-- what is read of it is what the line states
pub deals_by : (dealing : Dealing) (words : List (List ℕ)) (found : Option Command) → deal_words words ≡ Some dealing → ReadsDeal (Some dealing) found → ReadsDeal (deal_words words) found
deals_by dealing words found is deals = subst (λ (d : Option Dealing). ReadsDeal d found) (sym is) deals

-- no board, or no key before it
pub no_board : (words rest : List (List ℕ)) (key : Key) → first_of key_of_word words ≡ Some (key, rest) → first_of board_of_word rest ≡ None → ReadsDeal (deal_words words) None
unfolding deal_words
no_board words rest key first second = rw (first, second) refl

pub no_key : (words : List (List ℕ)) → first_of key_of_word words ≡ None → ReadsDeal (deal_words words) None
unfolding deal_words
no_key words first = rw first refl

-- a first word and others, read by the first word
pub read_after : (line keyword rest : List ℕ) (found : Option Command) → spaced_words line ≡ keyword ∷ spaced_words rest → ReadsAfter (bytes_eq keyword (codes "DEAL")) keyword (spaced_words rest) found → ReadsLine line found
read_after line keyword rest found words read =
    let parts = some_part 32 rest in
    subst (λ (ws : List (List ℕ)). ReadsWords ws found) (sym (words ∙ ap (λ (ws : List (List ℕ)). keyword ∷ ws) parts.2))
    (subst (λ (ws : List (List ℕ)). ReadsAfter (bytes_eq keyword (codes "DEAL")) keyword ws found) parts.2 read)
