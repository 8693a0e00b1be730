-- What is told of the desk, where two desks or two sessions are alike.
use Rattle.std.proofs.Common.{◌≡◌, ◌≢◌, ℕ, ◌==◌, cond, List, ◌++◌, Option, None, Result, Ok, Err, refl, sym, ap, ◌∙◌}
use Rattle.std.specs.Prelude.{flat_map}
use Rattle.std.proofs.lemmas.Bool.{ne_eqb}
use Rattle.bridge_config.specs.ConfigValue.{ConfigValue, Pair}
use Rattle.bridge_config.specs.Then.{◌>>=◌}
use Rattle.bridge_play.specs.declared.claim.Claim.{Claim}
use Rattle.session_rules.specs.declared.refused.Refused.{Refused}
use Rattle.session_rules.specs.declared.seating.Seating.{Seating}
use Rattle.session_rules.specs.See.{Shown, shown_to}
use Rattle.session_rules.specs.Sight.{LookAlikeTo}
use Rattle.session_rules.specs.State.{SessionValue, is_row_within, seating_of}
use Rattle.session_rules.proofs.SameView.{shown_same}
use Rattle.desk_replies.specs.declared.claims.SeenClaim.{SeenClaim}
use Rattle.desk_replies.specs.declared.desk.Desk.{Desk}
use Rattle.desk_replies.specs.declared.desk.RoundClock.{RoundClock}
use Rattle.desk_replies.specs.Claims.{claim_at, seen_claim, standing, claim_to}
use Rattle.desk_replies.specs.Desk.{call_at, statement_at, refusal_at}
use Rattle.desk_replies.specs.Laws.{StandAlikeTo}
use Rattle.desk_replies.specs.Told.{notice_lines, clock_lines, call_lines, said_lines, agreed_lines, refused_lines, own_call_lines, own_said_lines, own_answer_lines, next_lines, own_lines, all_call_lines, standing_lines}
use Rattle.desk_replies.proofs.ShownClaims.{claim_shown}

-- the claims that a player is shown, by where he sits and what he is shown
abbrev claim_by : SessionValue → Result Seating Refused → Result Shown Refused → Result SeenClaim Refused
claim_by s sits shows = sits >>= (λ seating. shows >>= (λ shown. Ok (seen_claim s seating shown)))

-- the player sits at the same place
sits_same : (key : ℕ) (s t : SessionValue) → LookAlikeTo key s t → seating_of s.configuration s.round key ≡ seating_of t.configuration t.round key
sits_same key s t alike =
    ap (λ (k : ConfigValue). seating_of k s.round key) alike.configuration ∙ ap (λ r. seating_of t.configuration r key) alike.round

-- what is told of a player's own table
abbrev own_by : ConfigValue → ℕ → Result SeenClaim Refused → Desk → ℕ → List (List ℕ)
own_by k round claim d key = own_call_lines k.pairs d (seating_of k round key) ++ (own_said_lines d claim ++ (own_answer_lines d claim ++ next_lines k round key))

-- what is told, by what it is made of
abbrev told_by : ConfigValue → ℕ → Result SeenClaim Refused → Desk → ℕ → List (List ℕ)
told_by k round claim d key =
    notice_lines d.notice ++ (clock_lines d.clock ++ cond (key == k.director) (flat_map (call_lines k.pairs) d.calls) (own_by k round claim d key))

-- the claims where a player sits and is shown a play
seen_same : (key : ℕ) (s t : SessionValue) (seating : Seating) (shown : Shown) → LookAlikeTo key s t → seating_of s.configuration s.round key ≡ Ok seating → shown_to s key ≡ Ok shown
    → seen_claim s seating shown ≡ seen_claim t seating shown
seen_same key s t seating shown alike sits shows =
    let sits_there = sym (sits_same key s t alike) ∙ sits in
    let shows_there = sym (shown_same key s t alike) ∙ shows in
    let within : ConfigValue → ℕ → Option Claim = λ k round. cond (is_row_within k.movement.shape round seating.table) shown.claim None in
    let claim = claim_shown s key seating shown sits shows
    ∙ ap (λ (k : ConfigValue). within k s.round) alike.configuration
    ∙ ap (within t.configuration) alike.round
    ∙ sym (claim_shown t key seating shown sits_there shows_there) in
    let made : ℕ → Option Claim → SeenClaim = λ round claim. record {
      table = seating.table;
      seat = seating.seat;
      round = round;
      index = shown.index;
      number = shown.claims_made;
      claim = claim;
    } in
    ap (λ round. made round (claim_at s (record { round = s.round; table = seating.table; index = shown.index }))) alike.round
    ∙ ap (made t.round) claim

both_same : (key : ℕ) (s t : SessionValue) (sits : Result Seating Refused) (shows : Result Shown Refused) → LookAlikeTo key s t
    → seating_of s.configuration s.round key ≡ sits → shown_to s key ≡ shows → claim_by s sits shows ≡ claim_by t sits shows
both_same key s t (Err refused) shows alike sits_is shows_is = refl
both_same key s t (Ok seating) (Err refused) alike sits_is shows_is = refl
both_same key s t (Ok seating) (Ok shown) alike sits_is shows_is = ap Ok (seen_same key s t seating shown alike sits_is shows_is)

claim_same : (key : ℕ) (s t : SessionValue) → LookAlikeTo key s t → claim_to s key ≡ claim_to t key
claim_same key s t alike =
    both_same key s t (seating_of s.configuration s.round key) (shown_to s key) alike refl refl
    ∙ ap (λ sits. claim_by t sits (shown_to s key)) (sits_same key s t alike)
    ∙ ap (claim_by t (seating_of t.configuration t.round key)) (shown_same key s t alike)

-- two sessions that look alike to a player
pub told_same : (key : ℕ) (s t : SessionValue) (d : Desk) → LookAlikeTo key s t → standing_lines s d key ≡ standing_lines t d key
told_same key s t d alike =
    ap (λ k. told_by k s.round (claim_to s key) d key) alike.configuration
    ∙ ap (λ round. told_by t.configuration round (claim_to s key) d key) alike.round
    ∙ ap (λ claim. told_by t.configuration t.round claim d key) (claim_same key s t alike)

-- the call of the table where a player sits
calls_alike : (pairs : List Pair) (d e : Desk) (sits : Result Seating Refused) → ((seating : Seating) → sits ≡ Ok seating → call_at d seating.table ≡ call_at e seating.table)
    → own_call_lines pairs d sits ≡ own_call_lines pairs e sits
calls_alike pairs d e (Err refused) same = refl
calls_alike pairs d e (Ok seating) same = ap (call_lines pairs) (same seating refl)

-- what was said there
said_alike : (s : SessionValue) (d e : Desk) (sits : Result Seating Refused) (shows : Result Shown Refused)
    → ((seating : Seating) → sits ≡ Ok seating → statement_at d seating.table ≡ statement_at e seating.table)
    → own_said_lines d (claim_by s sits shows) ≡ own_said_lines e (claim_by s sits shows)
said_alike s d e (Err refused) shows same = refl
said_alike s d e (Ok seating) (Err refused) same = refl
said_alike s d e (Ok seating) (Ok shown) same = ap (said_lines (standing (seen_claim s seating shown))) (same seating refl)

-- and what was answered
answered_alike : (s : SessionValue) (d e : Desk) (sits : Result Seating Refused) (shows : Result Shown Refused)
    → ((seating : Seating) → sits ≡ Ok seating → refusal_at d seating.table ≡ refusal_at e seating.table)
    → own_answer_lines d (claim_by s sits shows) ≡ own_answer_lines e (claim_by s sits shows)
answered_alike s d e (Err refused) shows same = refl
answered_alike s d e (Ok seating) (Err refused) same = refl
answered_alike s d e (Ok seating) (Ok shown) same =
    let seen = seen_claim s seating shown in
    ap (λ refusal. agreed_lines seen.claim ++ refused_lines seen refusal) (same seating refl)

-- what a player is told, by its parts
abbrev all_by : List (List ℕ) → Option (List ℕ) → Option RoundClock → List (List ℕ) → List (List ℕ) → List (List ℕ) → List (List ℕ)
all_by next notice clock calls said answered = notice_lines notice ++ (clock_lines clock ++ (calls ++ (said ++ (answered ++ next))))

-- what is told to a key that is not the director's
as_player : (key : ℕ) (s : SessionValue) (d : Desk) → key ≢ s.configuration.director
    → standing_lines s d key
    ≡ all_by (next_lines s.configuration s.round key) d.notice d.clock (own_call_lines s.configuration.pairs d (seating_of s.configuration s.round key)) (own_said_lines d (claim_to s key)) (own_answer_lines d (claim_to s key))
as_player key s d player =
    ap (λ is. notice_lines d.notice ++ (clock_lines d.clock ++ cond is (all_call_lines s d) (own_lines s d key)))
    (ne_eqb key s.configuration.director player)

-- two desks that are alike to a player
pub told_alike : (key : ℕ) (s : SessionValue) (d e : Desk) → key ≢ s.configuration.director → StandAlikeTo s key d e → standing_lines s d key ≡ standing_lines s e key
told_alike key s d e player alike =
    let pairs = s.configuration.pairs in
    let sits = seating_of s.configuration s.round key in
    let seen = claim_to s key in
    let next = next_lines s.configuration s.round key in
    let calls = calls_alike pairs d e sits alike.calls in
    let said = said_alike s d e sits (shown_to s key) alike.statements in
    let answered = answered_alike s d e sits (shown_to s key) alike.refusals in
    as_player key s d player
    ∙ (ap (λ n. all_by next n d.clock (own_call_lines pairs d sits) (own_said_lines d seen) (own_answer_lines d seen)) alike.notice
    ∙ ap (λ k. all_by next e.notice k (own_call_lines pairs d sits) (own_said_lines d seen) (own_answer_lines d seen)) alike.clock
    ∙ ap (λ c. all_by next e.notice e.clock c (own_said_lines d seen) (own_answer_lines d seen)) calls
    ∙ ap (λ x. all_by next e.notice e.clock (own_call_lines pairs e sits) x (own_answer_lines d seen)) said
    ∙ ap (λ x. all_by next e.notice e.clock (own_call_lines pairs e sits) (own_said_lines e seen) x) answered)
    ∙ sym (as_player key s e player)
