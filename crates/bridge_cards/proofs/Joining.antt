-- Texts of two parts with a separator between.
use Rattle.std.proofs.Common.{◌≡◌, ◌≢◌, ℕ, List, [], ◌∷◌, ◌++◌, refl, sym, ◌∙◌, subst, arith, All, Contains}
use Rattle.std.proofs.lemmas.List.Elements.{All-head, All-tail, All-append, All-cons, All-contains, Contains-append_right}
use Rattle.bridge_cards.specs.DealText.{Joined}

-- no byte of the text is the separator
abbrev pub Lacks : ℕ → List ℕ → Type 0
Lacks separator text = All (λ byte. byte ≢ separator) text

-- a text is parted at its first separator in one way
parted_once : (separator : ℕ) (a b c d : List ℕ) → Lacks separator a → Lacks separator c → a ++ separator ∷ b ≡ c ++ separator ∷ d → (a ≡ c) × (b ≡ d)
parted_once separator [] b [] d p q e = (refl, cc)
parted_once separator [] b (x ∷ c) d p q e = absurd (All-head (λ byte. byte ≢ separator) x c q (cc))
parted_once separator (x ∷ a) b [] d p q e = absurd (All-head (λ byte. byte ≢ separator) x a p (cc))
parted_once separator (x ∷ a) b (y ∷ c) d p q e =
    let rest = parted_once separator a b c d (All-tail (λ byte. byte ≢ separator) x a p) (All-tail (λ byte. byte ≢ separator) y c q) (cc) in
    (cc, rest.1)

-- so one text, read in two ways, has the same parts
pub record BothJoined (P Q P' Q' : List ℕ → Type 0) : Type 0 where
  pub before : List ℕ
  pub after : List ℕ
  pub first : P before
  pub first' : P' before
  pub rest : Q after
  pub rest' : Q' after

pub joined_once : (separator : ℕ) (P Q P' Q' : List ℕ → Type 0) (text : List ℕ) → ((x : List ℕ) → P x → Lacks separator x) → ((x : List ℕ) → P' x → Lacks separator x) → Joined separator P Q text → Joined separator P' Q' text → BothJoined P Q P' Q'
joined_once separator P Q P' Q' text lacks lacks' j k =
    let same = parted_once separator j.before j.after k.before k.after (lacks j.before j.first) (lacks' k.before k.first) (sym j.whole ∙ k.whole) in
    record {
      before = j.before;
      after = j.after;
      first = j.first;
      first' = subst P' (sym same.0) k.first;
      rest = j.rest;
      rest' = subst Q' (sym same.1) k.rest;
    }

-- what a split of the text at its first separator gives
pub joined_at : (separator : ℕ) (P Q : List ℕ → Type 0) (text before after : List ℕ) → ((x : List ℕ) → P x → Lacks separator x) → text ≡ before ++ separator ∷ after → Lacks separator before → Joined separator P Q text → P before × Q after
joined_at separator P Q text before after lacks whole first j =
    let same = parted_once separator j.before j.after before after (lacks j.before j.first) first (sym j.whole ∙ whole) in
    (subst P same.0 j.first, subst Q same.1 j.rest)

-- a text without a separator is not joined
pub not_joined : (separator : ℕ) (P Q : List ℕ → Type 0) (text : List ℕ) → Lacks separator text → Joined separator P Q text → ⊥
not_joined separator P Q text lacks j =
    All-contains (λ byte. byte ≢ separator) text separator lacks
    (subst (λ t. Contains t separator) (sym j.whole) (Contains-append_right j.before (separator ∷ j.after) separator (0, omega arith, refl))) refl

-- a part that lacks another byte
pub joined_lacks : (separator other : ℕ) (P Q : List ℕ → Type 0) (text : List ℕ) → separator ≢ other → ((x : List ℕ) → P x → Lacks other x) → ((x : List ℕ) → Q x → Lacks other x) → Joined separator P Q text → Lacks other text
joined_lacks separator other P Q text differ p q j =
    subst (Lacks other) (sym j.whole)
    (All-append (λ byte. byte ≢ other) j.before (separator ∷ j.after) (p j.before j.first) (All-cons (λ byte. byte ≢ other) separator j.after differ (q j.after j.rest)))
