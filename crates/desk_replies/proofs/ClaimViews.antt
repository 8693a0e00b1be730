-- The claims that a view tells of.
use Rattle.std.proofs.Common.{◌≡◌, ℕ, Result, Ok, Err, refl, sym, ap, ◌∙◌}
use Rattle.bridge_config.specs.Then.{◌>>=◌}
use Rattle.session_rules.specs.declared.action.PlayId.{PlayId}
use Rattle.session_rules.specs.declared.refused.Refused.{Refused}
use Rattle.session_rules.specs.declared.seating.Seating.{Seating}
use Rattle.session_rules.specs.declared.view.View.{View}
use Rattle.session_rules.specs.See.{Shown, shown_to, shown_among}
use Rattle.session_rules.specs.State.{SessionValue, seating_of, row_at}
use Rattle.session_rules.specs.Views.{IsViewTo}
use Rattle.desk_replies.specs.declared.claims.SeenClaim.{SeenClaim}
use Rattle.desk_replies.specs.Claims.{claim_at, seen_claim, seen_of_view, claim_to}

none_of : Refused → Result SeenClaim Refused
none_of other = Err other

-- no view, no claim
pub none_seen : (s : SessionValue) (key : ℕ) (refused : Refused) → shown_to s key ≡ Err refused → claim_to s key ≡ Err refused
none_seen s key refused none = by (seating_of s.configuration s.round key) refl
  where
    by : (r : Result Seating Refused) → seating_of s.configuration s.round key ≡ r
        → (r >>= (λ seating. shown_to s key >>= (λ shown. Ok (seen_claim s seating shown)))) ≡ Err refused
    by (Ok seating) e = ap (λ r. r >>= (λ shown. Ok (seen_claim s seating shown))) none
    by (Err other) e =
        let same = sym (ap (λ r. r >>= (λ (seating : Seating). shown_among s.deals seating.seat (row_at s.records seating.row))) e) ∙ none in
        ap (λ (r : Result Shown Refused). r >>= (λ (shown : Shown). none_of other)) same

-- a play by its parts
by_parts : (play : PlayId) (round table index : ℕ) → play.round ≡ round → play.table ≡ table → play.index ≡ index
    → play ≡ record { round = round; table = table; index = index }
by_parts play round table index same_round same_table same_index =
    let made : ℕ → ℕ → ℕ → PlayId = λ round table index. record { round = round; table = table; index = index } in
    ap (λ n. made n play.table play.index) same_round ∙ ap (λ n. made round n play.index) same_table ∙ ap (made round table) same_index

-- a view tells of the claims
pub is_seen : (s : SessionValue) (key : ℕ) (view : View) (x : IsViewTo s key view) → claim_to s key ≡ Ok (seen_of_view s view)
is_seen s key view x =
    let play = by_parts view.play s.round x.seating.table x.shown.index x.fields.round_is x.fields.table_is x.fields.index in
    let claim = ap (claim_at s) play in
    ap (λ r. r >>= (λ (seating : Seating). shown_to s key >>= (λ (shown : Shown). Ok (seen_claim s seating shown)))) x.sits
    ∙ ap (λ r. r >>= (λ (shown : Shown). Ok (seen_claim s x.seating shown))) x.allowed
    ∙ rw (claim, x.fields.table_is, x.fields.seat_is, x.fields.round_is, x.fields.index, x.fields.claims_made) refl
