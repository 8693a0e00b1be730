-- What is found in a list of things done, the last of which goes.
use Rattle.std.proofs.Common.{◌≡◌, ◌-◌, ◌<◌, suc, Bool, true, false, ◌||◌, cond, List, [], ◌∷◌, length, take, Option, Some, None, refl, sym, ap, ◌∙◌, subst, arith}
use Rattle.std.specs.Prelude.{is_some}
use Rattle.std.specs.List.{cons_option, filter_map, list_any}
use Rattle.bridge_auction.specs.Auction.{less_last}
use Rattle.session_rules.specs.Own.{OwnDeed, without_last}

-- what is found in a list that has something of it is more than nothing
module _ {X : Type 0} (find : OwnDeed → Option X) where
  abbrev pub finds : OwnDeed → Bool
  finds deed = is_some (find deed)

  pub found_none : (deeds : List OwnDeed) → list_any finds deeds ≡ false → filter_map find deeds ≡ []
  found_none [] none = refl
  found_none (deed ∷ later) none = by (found_none later) (find deed) refl
    where
      by : (list_any finds later ≡ false → filter_map find later ≡ []) → (here : Option X) → find deed ≡ here → cons_option (find deed) (filter_map find later) ≡ []
      by rest None is =
          ap (λ o. cons_option o (filter_map find later)) is
          ∙ rest (sym (ap (λ o. is_some o || list_any finds later) is) ∙ none)
      by rest (Some x) is = let wrong : true ≡ false = sym (ap (λ o. is_some o || list_any finds later) is) ∙ none in absurd cc

  pub found_some : (deeds : List OwnDeed) → list_any finds deeds ≡ true → 0 < length (filter_map find deeds)
  found_some [] some = absurd cc
  found_some (deed ∷ later) some = by (found_some later) (find deed) refl
    where
      by : (list_any finds later ≡ true → 0 < length (filter_map find later)) → (here : Option X) → find deed ≡ here → 0 < length (cons_option (find deed) (filter_map find later))
      by rest None is =
          subst (λ o. 0 < length (cons_option o (filter_map find later))) (sym is)
          (rest (sym (ap (λ o. is_some o || list_any finds later) is) ∙ some))
      by rest (Some x) is = subst (λ o. 0 < length (cons_option o (filter_map find later))) (sym is) (omega arith)

  -- all but the last of a list that goes on
  shorter : (here : Option X) (rest : List X) → 0 < length rest → cons_option here (less_last rest) ≡ less_last (cons_option here rest)
  shorter None rest some = refl
  shorter (Some x) [] some = absurd (omega arith)
  shorter (Some x) (y ∷ rest) some =
      let one : length (y ∷ rest) - 1 ≡ length rest = omega arith in
      let two : length (x ∷ y ∷ rest) - 1 ≡ suc (length rest) = omega arith in
      ap (λ n. x ∷ take n (y ∷ rest)) one ∙ sym (ap (λ n. take n (x ∷ y ∷ rest)) two)

  abbrev pub chosen : OwnDeed → List OwnDeed → Bool → Bool → List OwnDeed
  chosen deed later more here = cond more (deed ∷ without_last finds later) (cond here later (deed ∷ later))

  pub last_gone : (deeds : List OwnDeed) → filter_map find (without_last finds deeds) ≡ less_last (filter_map find deeds)
  last_gone [] = refl
  last_gone (deed ∷ later) = by (last_gone later) (list_any finds later) (find deed) refl refl
    where
      by : filter_map find (without_last finds later) ≡ less_last (filter_map find later) → (more : Bool) (here : Option X) → list_any finds later ≡ more → find deed ≡ here → filter_map find (without_last finds (deed ∷ later)) ≡ less_last (filter_map find (deed ∷ later))
      by rest true here some is =
          ap (λ b. filter_map find (chosen deed later b (finds deed))) some
          ∙ ap (cons_option (find deed)) rest
          ∙ shorter (find deed) (filter_map find later) (found_some later some)
      by rest false None none is =
          let nothing = found_none later none in
          ap (λ b. filter_map find (chosen deed later b (finds deed))) none
          ∙ ap (λ o. filter_map find (cond (is_some o) later (deed ∷ later))) is
          ∙ ap (λ o. cons_option o (filter_map find later)) is
          ∙ nothing
          ∙ sym (ap (λ xs. less_last xs) (ap (λ o. cons_option o (filter_map find later)) is ∙ nothing))
      by rest false (Some x) none is =
          let nothing = found_none later none in
          ap (λ b. filter_map find (chosen deed later b (finds deed))) none
          ∙ ap (λ o. filter_map find (cond (is_some o) later (deed ∷ later))) is
          ∙ nothing
          ∙ sym (ap (λ xs. less_last xs) (ap (λ o. cons_option o (filter_map find later)) is ∙ ap (λ xs. x ∷ xs) nothing))
