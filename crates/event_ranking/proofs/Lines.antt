-- The lines of the pairs of sections.
use Rattle.std.proofs.Common.{◌≡◌, ◌+◌, ◌<◌, ◌≤◌, ℕ, List, [], ◌∷◌, ◌++◌, length, get_or, map, take, Option, Some, sym, ap, ◌∙◌, subst, arith, append-nil}
use Rattle.std.specs.Prelude.{flat_map, slice_get}
use Rattle.std.specs.List.{enumerate_from, range_with_len}
use Rattle.std.specs.Option.{option_map_or}
use Rattle.std.proofs.lemmas.Option.{slice_get-get_or}
use Rattle.std.proofs.lemmas.List.{length-map, get_or-map, get_or_default, take_more}
use Rattle.std.proofs.lemmas.List.Concat.{flat_map-append}
use Rattle.std.proofs.lemmas.List.FromFn.{length-range_with_len, length-enumerate_from, get_or-enumerate_from}
use Rattle.bridge_cards.specs.declared.scoring.Scoring.{Scoring}
use Rattle.bridge_ranking.specs.declared.field.Field.{Field}
use Rattle.bridge_ranking.specs.declared.game.Game.{Game}
use Rattle.bridge_ranking.specs.Ranking.{games_of, pairs_of_field}
use Rattle.session_rules.specs.State.{SessionValue}
use Rattle.event_ranking.specs.declared.ranking.SectionLine.{SectionLine}
use Rattle.event_ranking.specs.Joint.{joint, joint_line, made_lines, of_section}
use Rattle.event_ranking.specs.declared.ranking.SectionRanked.{SectionRanked}
use Rattle.event_ranking.specs.EventRanking.{scoring_of, section_lines, lines_at, IsWideRanking}

-- the lines that are made of pairs of a section are those of the section at the index
lines_made : (sections : List SessionValue) (wide : List (List Game)) (index : ℕ) (session : SessionValue) (field : Field) (scoring : Scoring) (pairs : List ℕ) → wide ≡ map games_of sections → index < length sections →
    session ≡ get_or sections index session → scoring ≡ scoring_of sections → pairs ≡ pairs_of_field session.configuration.movement.shape field → made_lines scoring wide index pairs ≡ lines_at sections index field
lines_made sections wide index session field scoring pairs are within at by of =
    let games = map games_of sections in
    let own : get_or games index [] ≡ games_of session = get_or-map games_of sections index session [] within ∙ ap games_of (sym at) in
    let there : slice_get sections index ≡ Some session = slice_get-get_or sections index session within ∙ ap (λ (s : SessionValue). Some s) (sym at) in
    ap (λ (w : List (List Game)). made_lines scoring w index pairs) are
    ∙ ap (λ (k : Scoring). made_lines k games index pairs) by
    ∙ ap (λ (gs : List Game). map (λ pair. of_section (index + 1) (joint_line (scoring_of sections) (joint games) gs pair)) pairs) own
    ∙ ap (λ (ps : List ℕ). map (λ pair. of_section (index + 1) (joint_line (scoring_of sections) (joint games) (games_of session) pair)) ps) of
    ∙ sym (ap (λ (o : Option SessionValue). option_map_or (λ (s : SessionValue). section_lines (scoring_of sections) (joint games) field (index + 1, s)) o []) there)

pub lines_at_made : (sections : List SessionValue) (wide : List (List Game)) (index : ℕ) (field : Field) (scoring : Scoring) (pairs : List ℕ) → wide ≡ map games_of sections → index < length sections →
    scoring ≡ scoring_of sections → ((d : SessionValue) → pairs ≡ pairs_of_field (get_or sections index d).configuration.movement.shape field) → made_lines scoring wide index pairs ≡ lines_at sections index field
lines_at_made [] wide index field scoring pairs are within by of = absurd (omega (arith, within))
lines_at_made (s ∷ sections) wide index field scoring pairs are within by of =
    lines_made (s ∷ sections) wide index (get_or (s ∷ sections) index s) field scoring pairs are within
    (get_or_default (s ∷ sections) index s (get_or (s ∷ sections) index s) within) by (of s)

-- one section's lines more
fields_more_by : (sections : List SessionValue) (field : Field) (index : ℕ) (d : SessionValue) (before after : List SectionLine) → index < length sections →
    before ≡ flat_map (section_lines (scoring_of sections) (joint (map games_of sections)) field) (take index (enumerate_from 1 sections)) → after ≡ before ++ lines_at sections index field →
    after ≡ flat_map (section_lines (scoring_of sections) (joint (map games_of sections)) field) (take (index + 1) (enumerate_from 1 sections))
fields_more_by sections field index d before after within so_far left =
    let f : ℕ × SessionValue → List SectionLine = section_lines (scoring_of sections) (joint (map games_of sections)) field in
    let numbered = enumerate_from 1 sections in
    let s : SessionValue = get_or sections index d in
    let at : get_or numbered index (0, d) ≡ (1 + index, s) = get_or-enumerate_from 1 sections index (0, d) within in
    let number : 1 + index ≡ index + 1 = omega arith in
    let here : lines_at sections index field ≡ f (get_or numbered index (0, d))
    = ap (λ (o : Option SessionValue). option_map_or (λ (t : SessionValue). f (index + 1, t)) o []) (slice_get-get_or sections index d within)
    ∙ ap (λ n. f (n, s)) (sym number) ∙ ap f (sym at) in
    left
    ∙ ap (λ lines. lines ++ lines_at sections index field) so_far
    ∙ ap (λ lines. flat_map f (take index numbered) ++ lines) (here ∙ sym (append-nil (f (get_or numbered index (0, d)))))
    ∙ sym (flat_map-append f (take index numbered) (get_or numbered index (0, d) ∷ []))
    ∙ ap (flat_map f) (sym (take_more numbered index (0, d) (omega (arith, within, length-enumerate_from 1 sections))))

pub fields_more : (sections : List SessionValue) (field : Field) (index : ℕ) (before after : List SectionLine) → index < length sections →
    before ≡ flat_map (section_lines (scoring_of sections) (joint (map games_of sections)) field) (take index (enumerate_from 1 sections)) → after ≡ before ++ lines_at sections index field →
    after ≡ flat_map (section_lines (scoring_of sections) (joint (map games_of sections)) field) (take (index + 1) (enumerate_from 1 sections))
fields_more [] field index before after within so_far left = absurd (omega (arith, within))
fields_more (s ∷ sections) field index before after within so_far left = fields_more_by (s ∷ sections) field index s before after within so_far left

-- there are at most 24
pub few_made : (scoring : Scoring) (wide : List (List Game)) (index first count : ℕ) → 1 ≤ first → first + count ≤ 25 → length (made_lines scoring wide index (range_with_len first count)) ≤ 24
few_made scoring wide index first count least most =
    omega (
      arith,
      length-map (range_with_len first count) (λ pair. of_section (index + 1) (joint_line scoring (joint wide) (get_or wide index []) pair)),
      length-range_with_len first count,
    )

-- a ranking of the same lines by the same scoring
pub ranked_alike : (scoring by : Scoring) (lines of : List SectionLine) (ranking : List SectionRanked) → scoring ≡ by → lines ≡ of → IsWideRanking scoring lines ranking → IsWideRanking by of ranking
ranked_alike scoring by lines of ranking same alike is =
    subst (λ (k : Scoring). IsWideRanking k of ranking) same (subst (λ (ls : List SectionLine). IsWideRanking scoring ls ranking) alike is)
