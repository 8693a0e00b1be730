-- The claims that a player is shown at his table.
use Rattle.std.specs.Prelude.{ℕ, ◌==◌, ◌&&◌, Bool, Option, option_and_then, Result, Ok}
use Rattle.std.specs.Option.{option_map}
use Rattle.bridge_config.specs.Then.{◌>>=◌}
use Rattle.bridge_play.specs.declared.claim.Claim.{Claim}
use Rattle.bridge_play.specs.Play.{PlayValue}
use Rattle.session_rules.specs.declared.action.PlayId.{PlayId}
use Rattle.session_rules.specs.declared.refused.Refused.{Refused}
use Rattle.session_rules.specs.declared.seating.Seating.{Seating}
use Rattle.session_rules.specs.declared.view.View.{View}
use Rattle.session_rules.specs.Record.{PlainRecord, play_of}
use Rattle.session_rules.specs.See.{Shown, shown_to}
use Rattle.session_rules.specs.Stage.{stage_to}
use Rattle.session_rules.specs.State.{SessionValue, hands_on, record_of, seating_of}
use Rattle.desk_replies.specs.declared.claims.SeenClaim.{SeenClaim}
use Rattle.desk_replies.specs.declared.said.ClaimRefusal.{ClaimRefusal}
use Rattle.desk_replies.specs.declared.said.StandingClaim.{StandingClaim}

-- the claim in a play, if there is such a play and one stands in it or was agreed
abbrev pub claim_at : SessionValue → PlayId → Option Claim
claim_at s play =
    option_and_then (λ (p : PlayValue). p.claim)
    (option_and_then (λ (plain : PlainRecord). play_of (hands_on s.deals plain.board) plain) (record_of s play))

-- where the viewer sits, and the claims of the play that a view shows
abbrev pub seen_of_view : SessionValue → View → SeenClaim
seen_of_view s view = record {
  table = view.play.table;
  seat = view.seat;
  round = view.play.round;
  index = view.play.index;
  number = view.claims_made;
  claim = claim_at s view.play;
}

-- where a player sits, and the claims of the play that he is shown there
abbrev pub seen_claim : SessionValue → Seating → Shown → SeenClaim
seen_claim s seating shown = record {
  table = seating.table;
  seat = seating.seat;
  round = s.round;
  index = shown.index;
  number = shown.claims_made;
  claim = claim_at s (record { round = s.round; table = seating.table; index = shown.index });
}

-- the same for the player of the key, where he is shown a play
abbrev pub claim_to : SessionValue → ℕ → Result SeenClaim Refused
claim_to s key = do
  seating ← seating_of s.configuration s.round key
  shown ← shown_to s key
  Ok (seen_claim s seating shown)

-- the claim that stands, if one does
abbrev pub standing : SeenClaim → Option StandingClaim
standing seen =
    option_map (λ (claim : Claim). record { round = seen.round; index = seen.index; number = seen.number; claimer = claim.claimer }) seen.claim

-- a refusal is of the last claim that was made in the play
abbrev pub is_of_last : SeenClaim → ClaimRefusal → Bool
is_of_last seen refusal =
    refusal.claim.round == seen.round && (refusal.claim.index == seen.index && refusal.claim.number == seen.number)

-- whether the player of the key is asked by the claim that stands, and has not agreed
abbrev pub is_asked : SessionValue → ℕ → Result Bool Refused
is_asked s key = do
  stage ← stage_to s key
  Ok stage.answer_due
