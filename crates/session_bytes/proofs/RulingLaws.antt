-- A ruling is read back from its bytes in either format, and only from these.
use Rattle.std.proofs.Common.{◌≡◌, ◌==◌, ◌≤◌, nat_le, ℕ, List, [], ◌∷◌, Option, Some, None, IfSome, option_map, refl, sym, ap, ◌∙◌, subst, inl, inr}
use Rattle.std.specs.Prelude.{◌&&◌}
use Rattle.std.proofs.lemmas.Bool.{and_parts, leb-true, le-leb, eqb-true}
use Rattle.session_rules.specs.declared.ruling.Ruling.{Ruling}
use Rattle.session_rules.specs.declared.ruling.Ruling.TheVariants as ruling
use Rattle.session_rules.specs.declared.average.Average.{Average}
use Rattle.session_rules.specs.Average.{percent_of, average_of}
use Rattle.session_rules.specs.StateRange.{IsRulingInRange}
use Rattle.bridge_auction.specs.declared.contract.Contract.{Contract}
use Rattle.bridge_auction.specs.Bid.{bid_number, IsBid}
use Rattle.session_bytes.specs.AssignedBytes.{assigned_byte, assigned_contract, assigned_tricks}
use Rattle.session_bytes.proofs.AssignedLaws.{assigned_back, assigned_is}
use Rattle.session_store.specs.declared.disk_format.DiskFormat.{DiskFormat}
use Rattle.session_store.specs.declared.disk_format.DiskFormat.TheVariants.{One, Two}
use Rattle.session_bytes.specs.Parts.{HasRuling, ruling_bytes}
use Rattle.session_bytes.specs.Reading.{tricks_ruling, adjusted_by, assigned_by, short_ruling_at, if_zeros, long_ruling_by, long_ruling_at, ruling_at}
use Rattle.session_bytes.proofs.ReadSteps.{map_is, then_is, if_is}
use Rattle.session_bytes.proofs.ActionBack.{average_back}
use Rattle.session_bytes.proofs.ActionLaws.{average_is}
use Rattle.session_bytes.proofs.Options.{some_is, not_some}

-- the ruling has these bytes, is of 0 to 13 tricks where it is one of tricks, and is one that the format has
abbrev pub IsOfBytes : DiskFormat → List ℕ → Option Ruling → Type 0
IsOfBytes format bytes made = (ruling_bytes format made ≡ bytes) × IfSome made IsRulingInRange × IfSome made (HasRuling format)

tricks_take : (tricks : ℕ) (r : Option Ruling) → tricks_ruling tricks ≡ Some r → IsOfBytes One (1 ∷ tricks ∷ []) r × IsOfBytes Two (1 ∷ tricks ∷ 0 ∷ []) r
tricks_take tricks r is =
    elim (if_is (nat_le tricks 13) _ _ (Some r) is) [
      | inl here ↦
          let few = leb-true tricks 13 here.0 in
          subst (λ (y : Option Ruling). IsOfBytes One (1 ∷ tricks ∷ []) y × IsOfBytes Two (1 ∷ tricks ∷ 0 ∷ []) y)
          (some_is (Some (ruling.Tricks tricks)) r here.1) ((refl, few, tt), (refl, few, tt))
      | inr other ↦ absurd (not_some r other.1)
    ]

short_take : (bytes : List ℕ) (r : Option Ruling) → short_ruling_at bytes ≡ Some r → IsOfBytes One bytes r
short_take [] r is = absurd (not_some r is)
short_take (kind ∷ []) r is =
    elim (if_is (kind == 0) _ _ (Some r) is) [
      | inl here ↦
          let same : None ≡ r = some_is None r here.1 in
          subst (IsOfBytes One (kind ∷ [])) same
          (ap (λ n. n ∷ []) (sym (eqb-true kind 0 here.0)), tt, tt)
      | inr other ↦ elim (if_is (kind == 2) _ _ (Some r) other.1) [
        | inl here ↦
            subst (IsOfBytes One (kind ∷ [])) (some_is (Some ruling.Void) r here.1)
            (ap (λ n. n ∷ []) (sym (eqb-true kind 2 here.0)), tt, tt)
        | inr other ↦ absurd (not_some r other.1)
      ]
    ]
short_take (kind ∷ tricks ∷ []) r is =
    elim (if_is (kind == 1) _ _ (Some r) is) [
      | inl here ↦
          let taken = (tricks_take tricks r here.1).0 in
          (taken.0 ∙ ap (λ n. n ∷ tricks ∷ []) (sym (eqb-true kind 1 here.0)), taken.1, taken.2)
      | inr other ↦ absurd (not_some r other.1)
    ]
short_take (kind ∷ tricks ∷ more ∷ rest) r is = absurd (not_some r is)

-- a ruling that has no use for the two numbers behind its kind
zeros_take : (kind first second : ℕ) (made r : Option Ruling) → ruling_bytes Two made ≡ kind ∷ 0 ∷ 0 ∷ [] → IfSome made IsRulingInRange → IfSome made (HasRuling Two)
    → if_zeros first second made ≡ Some r → IsOfBytes Two (kind ∷ first ∷ second ∷ []) r
zeros_take kind first second made r bytes few has is =
    elim (if_is (first == 0 && second == 0) _ _ (Some r) is) [
      | inl here ↦
          let both = and_parts (first == 0) (second == 0) here.0 in
          subst (IsOfBytes Two (kind ∷ first ∷ second ∷ [])) (some_is made r here.1) (
            bytes ∙ ap (λ n. kind ∷ n ∷ 0 ∷ []) (sym (eqb-true first 0 both.0)) ∙ ap (λ n. kind ∷ first ∷ n ∷ []) (sym (eqb-true second 0 both.1)),
            few,
            has,
          )
      | inr other ↦ absurd (not_some r other.1)
    ]

adjusted_take : (ns ew : ℕ) (r : Option Ruling) → adjusted_by ns ew ≡ Some r → IsOfBytes Two (3 ∷ ns ∷ ew ∷ []) r
adjusted_take ns ew r is =
    let first = then_is (λ n. option_map (λ e. Some (ruling.Adjusted n e)) (average_of ew)) (average_of ns) r is in
    let second = map_is (λ e. Some (ruling.Adjusted first.0 e)) (average_of ew) r first.2 in
    subst (IsOfBytes Two (3 ∷ ns ∷ ew ∷ [])) second.2 (
      ap (λ n. 3 ∷ n ∷ percent_of second.0 ∷ []) (average_is ns first.0 first.1) ∙ ap (λ n. 3 ∷ ns ∷ n ∷ []) (average_is ew second.0 second.1),
      tt,
      tt,
    )

assigned_take : (first second : ℕ) (r : Option Ruling) → assigned_by first second ≡ Some r → IsOfBytes Two (4 ∷ first ∷ second ∷ []) r
assigned_take first second r is =
    let found = map_is (λ contract. Some (ruling.Assigned contract (assigned_tricks second))) (assigned_contract first second) r is in
    let known = assigned_is first second found.0 found.1 in
    subst (IsOfBytes Two (4 ∷ first ∷ second ∷ [])) found.2 (ap (λ bytes. 4 ∷ bytes) known.1, (known.0, known.2), tt)

by_take : (kind first second : ℕ) (r : Option Ruling) → long_ruling_by kind first second ≡ Some r → IsOfBytes Two (kind ∷ first ∷ second ∷ []) r
by_take kind first second r is =
    elim (if_is (kind == 0) _ _ (Some r) is) [
      | inl here ↦ zeros_take kind first second None r (ap (λ n. n ∷ 0 ∷ 0 ∷ []) (sym (eqb-true kind 0 here.0))) tt tt here.1
      | inr other ↦ elim (if_is (kind == 1) _ _ (Some r) other.1) [
        | inl here ↦ elim (if_is (second == 0) _ _ (Some r) here.1) [
          | inl last ↦
              let taken = (tricks_take first r last.1).1 in (
                taken.0 ∙ ap (λ n. n ∷ first ∷ 0 ∷ []) (sym (eqb-true kind 1 here.0)) ∙ ap (λ n. kind ∷ first ∷ n ∷ []) (sym (eqb-true second 0 last.0)),
                taken.1,
                taken.2,
              )
          | inr other ↦ absurd (not_some r other.1)
        ]
        | inr other ↦ elim (if_is (kind == 2) _ _ (Some r) other.1) [
          | inl here ↦ zeros_take kind first second (Some ruling.Void) r (ap (λ n. n ∷ 0 ∷ 0 ∷ []) (sym (eqb-true kind 2 here.0))) tt tt here.1
          | inr other ↦ elim (if_is (kind == 3) _ _ (Some r) other.1) [
            | inl here ↦
                let taken = adjusted_take first second r here.1 in
                (taken.0 ∙ ap (λ n. n ∷ first ∷ second ∷ []) (sym (eqb-true kind 3 here.0)), taken.1, taken.2)
            | inr other ↦ elim (if_is (kind == 4) _ _ (Some r) other.1) [
              | inl here ↦
                  let taken = assigned_take first second r here.1 in
                  (taken.0 ∙ ap (λ n. n ∷ first ∷ second ∷ []) (sym (eqb-true kind 4 here.0)), taken.1, taken.2)
              | inr other ↦ absurd (not_some r other.1)
            ]
          ]
        ]
      ]
    ]

long_take : (bytes : List ℕ) (r : Option Ruling) → long_ruling_at bytes ≡ Some r → IsOfBytes Two bytes r
long_take [] r is = absurd (not_some r is)
long_take (kind ∷ []) r is = absurd (not_some r is)
long_take (kind ∷ first ∷ []) r is = absurd (not_some r is)
long_take (kind ∷ first ∷ second ∷ []) r is = by_take kind first second r is
long_take (kind ∷ first ∷ second ∷ more ∷ rest) r is = absurd (not_some r is)

pub ruling_take : (format : DiskFormat) (bytes : List ℕ) (r : Option Ruling) → ruling_at format bytes ≡ Some r → IsOfBytes format bytes r
ruling_take One bytes r is = short_take bytes r is
ruling_take Two bytes r is = long_take bytes r is

adjusted_again : (ns ew : Average) → adjusted_by (percent_of ns) (percent_of ew) ≡ Some (Some (ruling.Adjusted ns ew))
adjusted_again ns ew = rw (average_back ns, average_back ew) refl

assigned_again : (contract : Contract) (tricks : ℕ) → IsBid contract.bid × (tricks ≤ 13) → assigned_by (bid_number contract.bid) (assigned_byte contract tricks) ≡ Some (Some (ruling.Assigned contract tricks))
assigned_again contract tricks is =
    let back = assigned_back contract tricks is.0 is.1 in
    ap (option_map (λ c. Some (ruling.Assigned c (assigned_tricks (assigned_byte contract tricks))))) back.0
    ∙ ap (λ n. Some (Some (ruling.Assigned contract n))) back.1

pub ruling_again : (format : DiskFormat) (r : Option Ruling) → IfSome r IsRulingInRange → IfSome r (HasRuling format) → ruling_at format (ruling_bytes format r) ≡ Some r
ruling_again One None few has = refl
ruling_again One (Some (ruling.Tricks tricks)) few has = rw (le-leb tricks 13 few) refl
ruling_again One (Some ruling.Void) few has = refl
ruling_again One (Some (ruling.Adjusted ns ew)) few has = absurd has
ruling_again Two None few has = refl
ruling_again Two (Some (ruling.Tricks tricks)) few has = rw (le-leb tricks 13 few) refl
ruling_again Two (Some ruling.Void) few has = refl
ruling_again Two (Some (ruling.Adjusted ns ew)) few has = adjusted_again ns ew
ruling_again One (Some (ruling.Assigned contract tricks)) few has = absurd has
ruling_again Two (Some (ruling.Assigned contract tricks)) few has = assigned_again contract tricks few
