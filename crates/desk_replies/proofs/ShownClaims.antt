-- The claim of the play that a player is shown.
use Rattle.std.proofs.Common.{◌≡◌, ℕ, ◌+◌, ◌-◌, Bool, true, false, cond, List, Option, Some, None, Result, Ok, Err, arith, refl, sym, ap, ◌∙◌}
use Rattle.std.specs.Prelude.{[], slice_get, ok_or, unwrap_or, option_and_then}
use Rattle.std.specs.Option.{option_map, option_map_or}
use Rattle.bridge_cards.specs.declared.seat.Seat.{Seat}
use Rattle.bridge_config.specs.ConfigValue.{ConfigValue}
use Rattle.bridge_movement.specs.declared.place.Place.{Place}
use Rattle.bridge_movement.specs.Seating.{place_of}
use Rattle.bridge_movement.specs.Shape.{index_of_row}
use Rattle.bridge_play.specs.declared.claim.Claim.{Claim}
use Rattle.bridge_play.specs.Play.{PlayValue}
use Rattle.session_rules.specs.declared.refused.Refused.{Refused}
use Rattle.session_rules.specs.declared.refused.Refused.TheVariants.{Closed, SitsOut}
use Rattle.session_rules.specs.declared.seating.Player.{Player}
use Rattle.session_rules.specs.declared.seating.Seating.{Seating}
use Rattle.session_rules.specs.Record.{PlainRecord, play_of}
use Rattle.session_rules.specs.See.{Shown, shown_of, shown_to}
use Rattle.session_rules.specs.State.{SessionValue, Deals, acting_player, current_index, deal_on, hands_on, is_closed, is_row_within, row_at, seated, seating_at, seating_of}
use Rattle.session_rules.proofs.Shown.{shown_dealt, shown_current, shown_seated}
use Rattle.desk_replies.specs.Claims.{claim_at}

-- the row of a player's table
placed_row : (k : ConfigValue) (round : ℕ) (first : Bool) (place : Option Place) (seating : Seating) → ok_or (option_map (seating_at k round first) place) SitsOut ≡ Ok seating
    → index_of_row k.movement.shape round seating.table ≡ seating.row
placed_row k round first None seating sits = absurd cc
placed_row k round first (Some place) seating sits =
    let own : seating_at k round first place ≡ seating = cc in
    ap (λ (s : Seating). index_of_row k.movement.shape round s.table) (sym own) ∙ ap (λ (s : Seating). s.row) own

open_row : (k : ConfigValue) (round : ℕ) (first closed : Bool) (place : Option Place) (seating : Seating)
    → cond closed (Err Closed) (ok_or (option_map (seating_at k round first) place) SitsOut) ≡ Ok seating → index_of_row k.movement.shape round seating.table ≡ seating.row
open_row k round first true place seating sits = absurd cc
open_row k round first false place seating sits = placed_row k round first place seating sits

seated_row : (k : ConfigValue) (round : ℕ) (player : Result Player Refused) (seating : Seating) → seated k round player ≡ Ok seating
    → index_of_row k.movement.shape round seating.table ≡ seating.row
seated_row k round (Err refused) seating sits = absurd cc
seated_row k round (Ok player) seating sits =
    open_row k round player.first (is_closed k round) (place_of k.movement.rows round player.pair) seating sits

-- the claim in a record
abbrev claim_of : Deals → Option PlainRecord → Option Claim
claim_of deals found =
    option_and_then (λ (p : PlayValue). p.claim) (option_and_then (λ (plain : PlainRecord). play_of (hands_on deals plain.board) plain) found)

less_one : (n : ℕ) → n + 1 - 1 ≡ n
less_one n = omega arith

-- of what is shown of a play, if it is dealt
play_claim : (p : Option PlayValue) → option_and_then (λ (p : PlayValue). p.claim) p ≡ option_map_or (λ (p : PlayValue). p.claim) p None
play_claim None = refl
play_claim (Some p) = refl

dealt_claim : (deals : Deals) (seat : Seat) (at : ℕ) (plain : PlainRecord) (deal : Option (List ℕ)) (shown : Shown) → deal_on deals plain.board ≡ deal → shown_dealt seat at plain deal ≡ Ok shown
    → (shown.index ≡ at + 1) × (claim_of deals (Some plain) ≡ shown.claim)
dealt_claim deals seat at plain None shown is shows = absurd cc
dealt_claim deals seat at plain (Some hands) shown is shows =
    let own : shown_of at seat hands plain ≡ shown = cc in
    let claim = λ (hands : List ℕ). option_and_then (λ (p : PlayValue). p.claim) (play_of hands plain) in (
      ap (λ (s : Shown). s.index) (sym own),
      ap (λ (deal : Option (List ℕ)). claim (unwrap_or deal [])) is ∙ play_claim (play_of hands plain) ∙ ap (λ (s : Shown). s.claim) own,
    )

current_claim : (deals : Deals) (seat : Seat) (at : ℕ) (found : Option PlainRecord) (shown : Shown) → shown_current deals seat at found ≡ Ok shown
    → (shown.index ≡ at + 1) × (claim_of deals found ≡ shown.claim)
current_claim deals seat at None shown shows = absurd cc
current_claim deals seat at (Some plain) shown shows = dealt_claim deals seat at plain (deal_on deals plain.board) shown refl shows

-- and of a play that may not be there
claim_if : (b : Bool) (deals : Deals) (found : Option PlainRecord) (claim : Option Claim) → claim_of deals found ≡ claim → claim_of deals (cond b found None) ≡ cond b claim None
claim_if true deals found claim is = is
claim_if false deals found claim is = refl

-- the claim of the play that a player is shown is the one that he is shown, or there is no such play
pub claim_shown : (s : SessionValue) (key : ℕ) (seating : Seating) (shown : Shown) → seating_of s.configuration s.round key ≡ Ok seating → shown_to s key ≡ Ok shown
    → claim_at s (record { round = s.round; table = seating.table; index = shown.index })
    ≡ cond (is_row_within s.configuration.movement.shape s.round seating.table) shown.claim None
claim_shown s key seating shown sits shows =
    let shape = s.configuration.movement.shape in
    let records = row_at s.records seating.row in
    let among = sym (ap (shown_seated s) sits) ∙ shows in
    let found = current_claim s.deals seating.seat (current_index records) (slice_get records (current_index records)) shown among in
    let row = seated_row s.configuration s.round (acting_player s.configuration key) seating sits in
    let before : shown.index - 1 ≡ current_index records = ap (λ i. i - 1) found.0 ∙ less_one (current_index records) in
    claim_if (is_row_within shape s.round seating.table) s.deals (slice_get (row_at s.records (index_of_row shape s.round seating.table)) (shown.index - 1)) shown.claim
    (ap (λ r. claim_of s.deals (slice_get (row_at s.records r) (shown.index - 1))) row
    ∙ ap (λ i. claim_of s.deals (slice_get records i)) before
    ∙ found.1)
