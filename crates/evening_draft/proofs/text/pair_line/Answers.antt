use Rattle.std.proofs.Common.{◌∙◌, ◌∷◌, codes, ap, sym}
use Rattle.std.specs.Fmt.{decimal}
use Rattle.line_text.specs.Words.{spaced}
use Rattle.evening_draft.specs.ConfigText.{ended}
use Rattle.evening_draft.proofs.TwoPlayers.{two_words}
use Rattle.evening_draft.proofs.text.pair_line.Goals as goal

pub returns : goal.returns
returns c =
    let index = c.as_bytes.ensures.value ∙ c.as_str.ensures.value ∙ c.number_text-index.ensures.text in
    let one = c.as_bytes-2.ensures.value ∙ c.as_str-2.ensures.value in
    let first = c.as_bytes-3.ensures.value ∙ c.as_str-3.ensures.value ∙ c.number_text-first.ensures.text in
    let other = c.as_bytes-4.ensures.value ∙ c.as_str-4.ensures.value in
    let second = c.as_bytes-5.ensures.value ∙ c.as_str-5.ensures.value ∙ c.number_text-second.ensures.text in
    let words =
    two_words c.args.pair.now.names c.args.pair.now.keys c.index-pair-0.result c.index-pair-1.result (record { 0 = 0 })
    c.requires.two_names c.requires.two_keys in
    c.line_of_six.ensures
    ∙ rw (index, one, first, other, second) (ap (λ rest. ended (spaced (codes "PAIR" ∷ decimal c.args.index ∷ rest))) (sym words))
