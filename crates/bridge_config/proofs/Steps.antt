-- Steps of reading that did not fail, and lines of no more than 128 bytes.
use Rattle.std.proofs.Common.{◌≡◌, ℕ, ◌≤◌, List, [], ◌∷◌, ◌++◌, length, Result, Ok, Err, refl, sym, ap, ◌∙◌, subst, inl, inr}
use Rattle.std.specs.Prelude.{codes, All}
use Rattle.std.proofs.lemmas.Bool.{cases_lt, lt-ltb, cond-true}
use Rattle.std.proofs.lemmas.List.Elements.{All-nil, All-cons, All-take, All-drop}
use Rattle.std.proofs.Math.Seq.{take-append_seam, drop-append_seam}
use Rattle.bridge_cards.specs.declared.scoring.Scoring.{Scoring}
use Rattle.bridge_movement.specs.declared.row.Row.{Row}
use Rattle.bridge_movement.specs.declared.shape.Shape.{Shape}
use Rattle.bridge_config.specs.declared.refused.ConfigFault.{ConfigFault}
use Rattle.bridge_config.specs.ConfigValue.{Pair}
use Rattle.bridge_config.specs.Then.{◌>>=◌}
use Rattle.bridge_config.specs.LineReading.{form_at, name_in, name_line, date_in, date_line, scoring_in, scoring_line, number_in, number_line, shape_in, shape_line, row_in, row_line, pair_in, pair_line}
use Rattle.line_text.specs.Words.{words_of, word_after, five_after}
use Rattle.bridge_config.specs.Reading.{due_line}

-- the value of a step that did not fail
pub bind_ok : {A B : Type 0} (r : Result A ConfigFault) (f : A → Result B ConfigFault) (y : B) → (r >>= f) ≡ Ok y →
    (x : A) × (r ≡ Ok x) × (f x ≡ Ok y)
bind_ok (Ok x) f y e = (x, refl, e)
bind_ok (Err fault) f y e = absurd cc

-- a step that gave this value
abbrev pub done : {A : Type 0} → A → Result A ConfigFault
done x = Ok x

-- a step gives one value
pub ok_is : {A : Type 0} (x y : A) → done x ≡ done y → x ≡ y
ok_is x y e = cc

-- a fault is no value
pub not_ok : {A : Type 0} (P : Type 0) (fault : ConfigFault) (x : A) → Err fault ≡ done x → P
not_ok P fault x e = absurd cc

-- the next line, what it states, and what is made of that and of the lines after it
abbrev pub line_then : {A B : Type 0} → ℕ → List (List ℕ) → (List ℕ → Result A ConfigFault) →
    (A → List (List ℕ) → Result B ConfigFault) → Result B ConfigFault
line_then n texts read then_read = due_line n texts >>= λ due. read due.0 >>= λ a. then_read a due.1

-- the line, what it stated and the lines after it, of a step that did not fail
pub line_takes : {A B : Type 0} (n : ℕ) (texts : List (List ℕ)) (read : List ℕ → Result A ConfigFault) (then_read : A → List (List ℕ) → Result B ConfigFault) (y : B) →
    line_then n texts read then_read ≡ Ok y →
    (line : List ℕ) × (rest : List (List ℕ)) × (a : A) × (texts ≡ line ∷ rest) × (read line ≡ Ok a)
    × (then_read a rest ≡ Ok y)
line_takes n [] read then_read y e = absurd cc
line_takes n (line ∷ rest) read then_read y e =
    let b = bind_ok (read line) (λ a. then_read a rest) y e in (line, rest, b.0, refl, b.1, b.2)

-- what holds of each element of two lists joined holds of each of either
pub All-append_parts : {X : Type 0} (P : X → Type 0) (xs ys : List X) → All P (xs ++ ys) → All P xs × All P ys
All-append_parts P xs ys holds = (
  subst (All P) (take-append_seam xs ys) (All-take P (length xs) (xs ++ ys) holds),
  subst (All P) (drop-append_seam xs ys) (All-drop P (length xs) (xs ++ ys) holds),
)

-- no more than 128 bytes
abbrev pub IsShort : List ℕ → Type 0
IsShort line = length line ≤ 128

-- the lines in front, of which none is long, and those that are left
pub record TakesLines (texts front rest : List (List ℕ)) : Type 0 where
  pub parts : texts ≡ front ++ rest
  pub short : All IsShort front

-- no line was taken
pub takes_none : (texts : List (List ℕ)) → TakesLines texts [] texts
takes_none texts = record { parts = refl; short = All-nil IsShort }

-- one line more was taken in front of others
pub takes_line : (texts : List (List ℕ)) (line spelled : List ℕ) (rest front left : List (List ℕ)) →
    texts ≡ line ∷ rest → line ≡ spelled → length line ≤ 128 → TakesLines rest front left →
    TakesLines texts (spelled ∷ front) left
takes_line texts line spelled rest front left is same short others = record {
  parts = is ∙ ap (λ (t : List ℕ). t ∷ rest) same ∙ ap (λ (ts : List (List ℕ)). spelled ∷ ts) others.parts;
  short = All-cons IsShort spelled front (subst IsShort same short) others.short;
}

-- a line of which the words were read has no more than 128 bytes
short_from : {A : Type 0} (read : List (List ℕ) → Result A ConfigFault) (line : List ℕ) (fault : ConfigFault) (x : A) →
    read [] ≡ Err fault → read (words_of line) ≡ Ok x → length line ≤ 128
short_from read line fault x none e =
    elim (cases_lt 128 (length line)) [
      | inl long ↦ absurd (
          let words : words_of line ≡ [] = cond-true _ _ _ (lt-ltb 128 (length line) long) in
          not_ok ⊥ fault x (sym none ∙ ap read (sym words) ∙ e))
      | inr short ↦ short
    ]

-- a line that was read as a name is not too long; likewise below for each kind of line
pub name_short : (n : ℕ) (keyword line name : List ℕ) → name_line n keyword line ≡ Ok name → length line ≤ 128
name_short n keyword line name e =
    short_from (λ words. name_in n (word_after keyword words)) line (form_at n) name refl e

pub date_short : (n : ℕ) (line date : List ℕ) → date_line n line ≡ Ok date → length line ≤ 128
date_short n line date e =
    short_from (λ words. date_in n (word_after (codes "DATE") words)) line (form_at n) date refl e

pub scoring_short : (n : ℕ) (line : List ℕ) (scoring : Scoring) → scoring_line n line ≡ Ok scoring → length line ≤ 128
scoring_short n line scoring e =
    short_from (λ words. scoring_in n (word_after (codes "SCORING") words)) line (form_at n) scoring refl e

pub number_short : (n low high : ℕ) (keyword line : List ℕ) (value : ℕ) → number_line n keyword low high line ≡ Ok value →
    length line ≤ 128
number_short n low high keyword line value e =
    short_from (λ words. number_in n low high (word_after keyword words)) line (form_at n) value refl e

pub shape_short : (n : ℕ) (line : List ℕ) (shape : Shape) → shape_line n line ≡ Ok shape → length line ≤ 128
shape_short n line shape e =
    short_from (λ words. shape_in n (five_after (codes "MOVEMENT") words)) line (form_at n) shape refl e

pub row_short : (n : ℕ) (line : List ℕ) (row : Row) → row_line n line ≡ Ok row → length line ≤ 128
row_short n line row e =
    short_from (λ words. row_in n (five_after (codes "ROW") words)) line (form_at n) row refl e

pub pair_short : (n index : ℕ) (earlier line : List ℕ) (pair : Pair) → pair_line n index earlier line ≡ Ok pair →
    length line ≤ 128
pair_short n index earlier line pair e =
    short_from (λ words. pair_in n index earlier (five_after (codes "PAIR") words)) line (form_at n) pair refl e
