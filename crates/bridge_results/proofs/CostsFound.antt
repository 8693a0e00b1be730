-- What is found of the costs of a play.
use Rattle.std.proofs.Common.{◌≡◌, ℕ, ◌+◌, ◌<◌, true, List, ◌∷◌, length, get_or, drop, sym, ap, ◌∙◌, refl}
use Rattle.std.proofs.lemmas.List.{drop_more}
use Rattle.bridge_results.specs.declared.analysis.PlayCosts.{PlayCosts}
use Rattle.bridge_results.specs.declared.play.TablePlay.{TablePlay}
use Rattle.bridge_results.specs.Costs.{is_of, costs_at}

-- the next are of the play
pub costs_found : (plays : List PlayCosts) (play : TablePlay) (i : ℕ) (known : PlayCosts) → i < length plays → known ≡ get_or plays i known → is_of known play ≡ true → known.cards.items ≡ costs_at (drop i plays) play
costs_found plays play i known within is of =
    let here : drop i plays ≡ known ∷ drop (i + 1) plays = drop_more plays i known within ∙ ap (λ (k : PlayCosts). k ∷ drop (i + 1) plays) (sym is) in
    rw (here, of) refl
