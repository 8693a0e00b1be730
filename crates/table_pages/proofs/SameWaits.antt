-- What a player is told, over sessions that look alike to him and beside desks that are alike at his table.
use Rattle.std.proofs.Common.{◌≢◌, inl, inr, ℕ, ◌==◌, Bool, List, ◌++◌, sym, ap, ◌∙◌, subst}
use Rattle.std.proofs.lemmas.Bool.{ne_eqb}
use Rattle.bridge_config.specs.declared.fields.Key.{Key}
use Rattle.line_text.specs.Lines.{lines_text}
use Rattle.session_rules.specs.Sight.{LookAlikeTo}
use Rattle.session_rules.specs.State.{SessionValue}
use Rattle.session_rules.proofs.SameView.{shown_same, view_same}
use Rattle.desk_replies.specs.declared.desk.Desk.{Desk}
use Rattle.desk_replies.specs.Laws.{StandAlikeTo}
use Rattle.desk_replies.proofs.SameDesk.{told_same, told_alike}
use Rattle.page_replies.specs.Place.{place_to}
use Rattle.page_replies.proofs.SamePlace.{place_same}
use Rattle.table_server.specs.Told.{Tells}
use Rattle.table_server.specs.declared.asked.Question.TheVariants.{See}
use Rattle.table_pages.specs.Waits.{desk_lines, SeesSame, TellsPlayer, TellsEither, TellsNow}

-- the reply to `SEE`
seen_same : (key : Key) (s t : SessionValue) (text : List ℕ) → LookAlikeTo key.0 s t → Tells s (See key) text → Tells t (See key) text
seen_same key s t text alike (inl tells) = inl (tells.0, view_same key.0 s t tells.0 alike tells.1, tells.2)
seen_same key s t text alike (inr refusal) = inr (refusal.0, sym (shown_same key.0 s t alike) ∙ refusal.1, refusal.2)

player_same : (key : Key) (s t : SessionValue) (d e : Desk) (text : List ℕ) → key.0 ≢ s.configuration.director → LookAlikeTo key.0 s t → StandAlikeTo s key.0 d e
    → TellsPlayer s d key text → TellsPlayer t e key text
player_same key s t d e text player alike desks tells =
    let lines = told_alike key.0 s d e player desks ∙ told_same key.0 s t e alike in (
      tells.0,
      seen_same key s t tells.0 alike tells.1,
      tells.2
          ∙ ap (λ (place : List ℕ). place ++ (tells.0 ++ desk_lines s d key)) (place_same key.0 s t alike)
          ∙ ap (λ (own : List (List ℕ)). place_to t key.0 ++ (tells.0 ++ lines_text own)) lines,
    )

pub waits_same : (key : Key) (s t : SessionValue) (d e : Desk) (text : List ℕ) → SeesSame key s t d e → TellsNow s d key text → TellsNow t e key text
waits_same key s t d e text same tells =
    let here = ne_eqb key.0 s.configuration.director same.player in
    let director = ap (λ configuration. configuration.director) same.sessions.configuration in
    let there = ap (λ (k : ℕ). key.0 == k) (sym director) ∙ here in
    subst (λ (is : Bool). TellsEither is t e key text) (sym there)
    (player_same key s t d e text same.player same.sessions same.desks (subst (λ (is : Bool). TellsEither is s d key text) here tells))
