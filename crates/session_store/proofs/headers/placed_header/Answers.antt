use Rattle.std.proofs.Common.{◌≡◌, ◌≢◌, ℕ, Some, None, sym, ap, ◌∙◌}
use Rattle.std.proofs.lemmas.Bool.{cond-true, cond-false, eq-eqb, ne_eqb}
use Rattle.session_store.specs.Form.{place}
use Rattle.session_store.specs.Stands.{placed}
use Rattle.session_store.specs.declared.reading.Header.{Header}
use Rattle.session_store.proofs.headers.placed_header.Goals as goal

elsewhere : (at : ℕ) (h : Header) → place h.epoch ≢ at → None ≡ placed at (Some h)
unfolding placed
elsewhere at h other = sym (cond-false _ _ _ (ne_eqb (place h.epoch) at other))

there : (at : ℕ) (h : Header) → place h.epoch ≡ at → Some h ≡ placed at (Some h)
unfolding placed
there at h here = sym (cond-true _ _ _ (eq-eqb (place h.epoch) at here))

pub returns-then-place_of-at : goal.returns-then-place_of-at
returns-then-place_of-at c =
    there c.args.at c.in_ok-header.header (sym c.place_of.ensures.place ∙ c.if-place_of-at.true) ∙ ap (placed c.args.at) c.in_ok-header.ensures

pub returns-else-place_of-at : goal.returns-else-place_of-at
returns-else-place_of-at c =
    elsewhere c.args.at c.in_ok-header.header (λ here. c.if-place_of-at.false (c.place_of.ensures.place ∙ here)) ∙ ap (placed c.args.at) c.in_ok-header.ensures
