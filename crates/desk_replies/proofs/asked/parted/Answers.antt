use Rattle.std.proofs.Common.{ap, sym, ◌∙◌, ◌≡◌, ◌≢◌, List, ℕ, ◌∷◌, ◌++◌, Option, Some, None, Bor}
use Rattle.std.specs.Prelude.{All, IfSome, IfNone}
use Rattle.std.specs.Option.{option_map}
use Rattle.desk_replies.specs.Asked.{parted}
use Rattle.desk_replies.proofs.Parts.{parted_there, parted_nowhere}
use Rattle.desk_replies.proofs.asked.parted.Goals as goal

-- what was split off, or nothing
by : (text : List ℕ) (parts : Option (Bor (List ℕ) × Bor (List ℕ)))
    → IfSome parts (λ p. text ≡ p.0.now ++ 32 ∷ p.1.now)
    → IfSome parts (λ p. All (λ byte. byte ≢ 32) p.0.now)
    → IfNone parts (All (λ byte. byte ≢ 32) text)
    → option_map (λ (p : Bor (List ℕ) × Bor (List ℕ)). (p.0.now, p.1.now)) parts ≡ parted text
by text None whole before none = sym (parted_nowhere text none)
by text (Some p) whole before none = sym (ap parted whole ∙ parted_there p.0.now p.1.now before)

pub returns : goal.returns
returns c = by c.args.text.now c.split_once.result c.split_once.ensures.parts c.split_once.ensures.first c.split_once.ensures.none
