use Rattle.std.proofs.Common.{◌≡◌, ℕ, List, ◌∷◌, refl, sym, ap, ◌∙◌}
use Rattle.std.specs.Prelude.{option_and_then}
use Rattle.bridge_config.specs.declared.fields.Key.{Key}
use Rattle.line_text.specs.Words.{spaced_words}
use Rattle.line_text.proofs.Splits.{some_part}
use Rattle.line_replies.specs.KeyWord.{key_of_word}
use Rattle.board_replies.specs.Asked.{asked_after, asked_of_words}
use Rattle.board_replies.proofs.asked.read_asked.Goals as goal

-- a key and other words ask for what these say
more_asked : (key : List ℕ) (words : List (List ℕ)) (word : List ℕ) (others : List (List ℕ)) → words ≡ word ∷ others
    → asked_of_words (key ∷ words) ≡ option_and_then (λ (k : Key). asked_after k words) (key_of_word key)
more_asked key words word others are = rw are refl

pub returns-in-Some : goal.returns-in-Some
returns-in-Some c =
    let key = c.in-Some.key.now in
    let rest = c.in-Some.rest.now in
    let some = some_part 32 rest in
    let split : spaced_words c.args.bytes.now ≡ key ∷ spaced_words rest = (let e = c.in-Some.ensures in let k = c.in-Some.key-is in let r = c.in-Some.rest-is in cc) in
    c.read_more.ensures ∙ sym (ap asked_of_words split ∙ more_asked key (spaced_words rest) some.0 some.1 some.2)
