-- Two sessions that look alike to a player show the same.
use Rattle.std.proofs.Common.{◌≡◌, ◌≢◌, ◌+◌, ◌==◌, ℕ, Bool, true, false, cond, List, length, Option, Some, None, Result, Ok, Err, refl, sym, ap, ◌∙◌}
use Rattle.std.specs.Prelude.{slice_get}
use Rattle.std.proofs.lemmas.Bool.{eqb-false}
use Rattle.std.specs.Option.{option_map, option_map_or}
use Rattle.bridge_cards.specs.declared.seat.Seat.{Seat}
use Rattle.bridge_cards.specs.declared.seat.Side.TheVariants.{NorthSouth, EastWest}
use Rattle.bridge_auction.specs.declared.call.Call.{Call}
use Rattle.bridge_config.specs.ConfigValue.{ConfigValue}
use Rattle.bridge_play.specs.declared.claim.Claim.{Claim}
use Rattle.bridge_play.specs.Dummy.{dummy_of}
use Rattle.bridge_play.specs.Play.{PlayValue}
use Rattle.session_rules.specs.declared.refused.Refused.{Refused}
use Rattle.session_rules.specs.declared.seating.Seating.{Seating}
use Rattle.session_rules.specs.declared.stage.Stage.{Stage}
use Rattle.session_rules.specs.declared.view.View.{View}
use Rattle.bridge_config.specs.Then.{◌>>=◌}
use Rattle.session_rules.specs.Stage.{stage_of, stage_among, stage_to}
use Rattle.session_rules.specs.Record.{PlainRecord, play_of}
use Rattle.session_rules.specs.State.{SessionValue, deal_on, row_at, current_index, seating_of}
use Rattle.session_rules.specs.See.{PlainTrick, Shown, ShownPlay, cards_left, shown_dummy, shown_play, shown_of, shown_among, shown_to}
use Rattle.session_rules.proofs.Shown.{shown_dealt, shown_current, shown_seated}
use Rattle.session_rules.specs.Views.{IsViewTo}
use Rattle.session_rules.specs.Sight.{cards_in, PlaysLookAlike, CardsLookAlike, RecordsLookAlike, DealtLookAlike, CurrentLookAlike, TablesLookAlike, LookAlikeTo}

-- dummy's cards, which are looked at only once a card was played
dummy_by : (none : Bool) (n : ℕ) (x y : List ℕ) → (n == 0) ≡ none → (n ≢ 0 → x ≡ y) → ◌≡◌ {A = Option (List ℕ)} (cond none None (Some x)) (cond none None (Some y))
dummy_by true n x y is same = refl
dummy_by false n x y is same = ap Some (same (eqb-false n 0 is))

dummy_if : (n : ℕ) (x y : List ℕ) → (n ≢ 0 → x ≡ y) → ◌≡◌ {A = Option (List ℕ)} (cond (n == 0) None (Some x)) (cond (n == 0) None (Some y))
dummy_if n x y same = dummy_by (n == 0) n x y refl same

dummy_same : (p q : PlayValue) → PlaysLookAlike p q → shown_dummy p ≡ shown_dummy q
dummy_same p q alike =
    dummy_if (length p.cards) (cards_left p.hands p.cards (dummy_of p.contract)) (cards_left q.hands q.cards (dummy_of q.contract)) alike.dummy
    ∙ ap (λ n. cond (n == 0) None (Some (cards_left q.hands q.cards (dummy_of q.contract)))) alike.cards_made

play_same : (p q : PlayValue) → PlaysLookAlike p q → shown_play p ≡ shown_play q
play_same p q alike =
    let dummy = dummy_same p q alike in
    let ns = alike.tricks NorthSouth in
    let ew = alike.tricks EastWest in
    let made : PlainTrick → Option PlainTrick → ℕ → ℕ → Option (List ℕ) → ShownPlay =
    λ t l n e d. record { trick = t; last = l; tricks_ns = n; tricks_ew = e; dummy = d } in
    let trick = alike.trick in
    let last = alike.last in
    cc

-- what is shown, by its parts
abbrev shown_by : ℕ → ℕ → List Call → List ℕ → Option PlayValue → Shown
shown_by index board calls hand play = record {
  index = index;
  board = board;
  calls = calls;
  cards_made = length (cards_in play);
  claims_made = option_map_or (λ (p : PlayValue). p.claims) play 0;
  claim = option_map_or (λ (p : PlayValue). p.claim) play None;
  hand = hand;
  play = option_map shown_play play;
}

by_same : (index board : ℕ) (calls : List Call) (hand : List ℕ) (p q : Option PlayValue) → CardsLookAlike p q → shown_by index board calls hand p ≡ shown_by index board calls hand q
by_same index board calls hand None None alike = refl
by_same index board calls hand None (Some q) alike = absurd alike
by_same index board calls hand (Some p) None alike = absurd alike
by_same index board calls hand (Some p) (Some q) alike =
    let made : ℕ → ℕ → Option Claim → ShownPlay → Shown =
    λ cards claims claim play. record {
      index = index;
      board = board;
      calls = calls;
      cards_made = cards;
      claims_made = claims;
      claim = claim;
      hand = hand;
      play = Some play;
    } in
    ap (λ n. made n p.claims p.claim (shown_play p)) alike.cards_made
    ∙ ap (λ n. made (length q.cards) n p.claim (shown_play p)) alike.claims_made
    ∙ ap (λ c. made (length q.cards) q.claims c (shown_play p)) alike.claim
    ∙ ap (made (length q.cards) q.claims q.claim) (play_same p q alike)

of_same : (row_index : ℕ) (seat : Seat) (hands others : List ℕ) (a b : PlainRecord) → RecordsLookAlike seat hands a others b → shown_of row_index seat hands a ≡ shown_of row_index seat others b
of_same row_index seat hands others a b alike =
    let p = play_of hands a in
    let q = play_of others b in
    ap (λ hand. shown_by (row_index + 1) a.board a.calls hand p) alike.hand
    ∙ by_same (row_index + 1) a.board a.calls (cards_left others (cards_in q) seat) p q alike.play
    ∙ ap (λ board. shown_by (row_index + 1) board a.calls (cards_left others (cards_in q) seat) q) alike.board
    ∙ ap (λ calls. shown_by (row_index + 1) b.board calls (cards_left others (cards_in q) seat) q) alike.calls

dealt_same : (seat : Seat) (row_index : ℕ) (a b : PlainRecord) (hands others : Option (List ℕ)) → DealtLookAlike seat a hands b others → shown_dealt seat row_index a hands ≡ shown_dealt seat row_index b others
dealt_same seat row_index a b None None alike = refl
dealt_same seat row_index a b None (Some others) alike = absurd alike
dealt_same seat row_index a b (Some hands) None alike = absurd alike
dealt_same seat row_index a b (Some hands) (Some others) alike = ap Ok (of_same row_index seat hands others a b alike)

current_same : (deals others : List (Option (List ℕ))) (seat : Seat) (row_index : ℕ) (a b : Option PlainRecord) → CurrentLookAlike seat deals a others b → shown_current deals seat row_index a ≡ shown_current others seat row_index b
current_same deals others seat row_index None None alike = refl
current_same deals others seat row_index None (Some b) alike = absurd alike
current_same deals others seat row_index (Some a) None alike = absurd alike
current_same deals others seat row_index (Some a) (Some b) alike = dealt_same seat row_index a b (deal_on deals a.board) (deal_on others b.board) alike

among_same : (deals others : List (Option (List ℕ))) (seat : Seat) (records plays : List PlainRecord) → TablesLookAlike seat deals records others plays → shown_among deals seat records ≡ shown_among others seat plays
among_same deals others seat records plays alike =
    current_same deals others seat (current_index records) (slice_get records (current_index records)) (slice_get plays (current_index plays)) alike.current
    ∙ ap (λ row_index. shown_current others seat row_index (slice_get plays (current_index plays))) alike.index

seated_same : (key : ℕ) (s t : SessionValue) (sits : Result Seating Refused) → LookAlikeTo key s t → seating_of s.configuration s.round key ≡ sits → shown_seated s sits ≡ shown_seated t sits
seated_same key s t (Err refused) alike is = refl
seated_same key s t (Ok seating) alike is =
    among_same s.deals t.deals seating.seat (row_at s.records seating.row) (row_at t.records seating.row) (alike.table seating is)

-- the player sits in the same index
sits_same : (key : ℕ) (s t : SessionValue) → LookAlikeTo key s t → seating_of s.configuration s.round key ≡ seating_of t.configuration t.round key
sits_same key s t alike =
    ap (λ (k : ConfigValue). seating_of k s.round key) alike.configuration ∙ ap (λ r. seating_of t.configuration r key) alike.round

pub shown_same : (key : ℕ) (s t : SessionValue) → LookAlikeTo key s t → shown_to s key ≡ shown_to t key
shown_same key s t alike =
    seated_same key s t (seating_of s.configuration s.round key) alike refl ∙ ap (shown_seated t) (sits_same key s t alike)

-- the stage, by where the player sits
abbrev pub stage_seated : SessionValue → Result Seating Refused → Result Stage Refused
stage_seated s sits = do
  seating ← sits
  stage_among s.deals seating.seat (row_at s.records seating.row)

stage_at_table : (key : ℕ) (s t : SessionValue) (sits : Result Seating Refused) → LookAlikeTo key s t → seating_of s.configuration s.round key ≡ sits → stage_seated s sits ≡ stage_seated t sits
stage_at_table key s t (Err refused) alike is = refl
stage_at_table key s t (Ok seating) alike is =
    ap (λ (shows : Result Shown Refused). shows >>= (λ shown. Ok (stage_of seating.seat shown)))
    (among_same s.deals t.deals seating.seat (row_at s.records seating.row) (row_at t.records seating.row) (alike.table seating is))

pub stage_same : (key : ℕ) (s t : SessionValue) → LookAlikeTo key s t → stage_to s key ≡ stage_to t key
stage_same key s t alike =
    stage_at_table key s t (seating_of s.configuration s.round key) alike refl ∙ ap (stage_seated t) (sits_same key s t alike)

pub view_same : (key : ℕ) (s t : SessionValue) (view : View) → LookAlikeTo key s t → IsViewTo s key view → IsViewTo t key view
view_same key s t view alike seen = record {
  seating = seen.seating;
  sits = sym (sits_same key s t alike) ∙ seen.sits;
  shown = seen.shown;
  allowed = sym (shown_same key s t alike) ∙ seen.allowed;
  fields = let round = alike.round in rw (← round) seen.fields;
}
