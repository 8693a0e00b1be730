-- Room made step by step.
use Rattle.std.proofs.Common.{ap, ◌∙◌, inl, inr}
use Rattle.web_loop.specs.declared.clients.Clients.{Clients}
use Rattle.web_loop.specs.Connected.{OnlyCloses}

pub OnlyCloses-then : {T : Type 0} (a b c : Clients T) → OnlyCloses a b → OnlyCloses b c → OnlyCloses a c
OnlyCloses-then {T} a b c x y = record {
  rest = y.rest ∙ ap (λ (z : Clients T). record z { connected = c.connected }) x.rest;
  others = λ key.
      elim (y.others key) [
        | inl none ↦ inl none
        | inr same ↦ elim (x.others key) [
          | inl none ↦ inl (same ∙ none)
          | inr kept ↦ inr (same ∙ kept)
        ]
      ];
}
