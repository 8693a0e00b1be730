-- A session is read back from its parts, but for the averages where the format has none.
use Rattle.std.proofs.Common.{◌≡◌, ◌+◌, ◌*◌, ℕ, List, [], ◌∷◌, ◌++◌, length, get_or, map, take, drop, Option, None, Some, All, refl, sym, ap, subst, ◌∙◌, arith, append_assoc}
use Rattle.std.specs.Prelude.{slice_index, IfSome}
use Rattle.std.proofs.lemmas.Bool.{eqb-true, and_parts}
use Rattle.std.proofs.lemmas.List.{length-map, length-append, get_or_append_left, get_or-append-add}
use Rattle.std.proofs.lemmas.List.Elements.{All-nil, All-cons, All-head, All-tail}
use Rattle.bridge_config.specs.ConfigValue.{ConfigValue, Pair, keys_in}
use Rattle.bridge_config.specs.Limits.{IsKeyNumber, IsConfiguration}
use Rattle.bridge_movement.specs.declared.shape.Shape.{Shape}
use Rattle.bridge_cards.specs.declared.scoring.Scoring.{Scoring}
use Rattle.bridge_cards.specs.declared.scoring.Scoring.TheVariants.{MatchPoints, Imps}
use Rattle.session_bytes.specs.Parts.{text_bytes, four_bytes, scoring_number, size_bytes, configuration_part, movement_part, pair_part, deal_part, HasRuling, HasRecord, HasRulings, play_parts, board_parts, pair_parts, parts_of}
use Rattle.session_bytes.specs.PartsRead.{text_in, after_text, scoring_at, numbers_in, shape_of_numbers, rows_of_part, key_in, pair_of_part, configuration_in, deal_of, tables_in, state_with, state_read}
use Rattle.session_rules.specs.declared.ruling.Ruling.{Ruling}
use Rattle.session_rules.specs.Record.{PlainRecord}
use Rattle.session_rules.specs.State.{SessionValue}
use Rattle.session_rules.specs.StateRange.{IsSession}
use Rattle.session_store.specs.declared.disk_format.DiskFormat.{DiskFormat}
use Rattle.session_store.specs.declared.disk_format.DiskFormat.TheVariants.{Two}
use Rattle.session_bytes.proofs.BytesBack.{take_front, drop_front, all_back, text_back, after_back, key_back}
use Rattle.session_bytes.proofs.PairBack.{pair_back, rows_back, deal_back}
use Rattle.session_bytes.proofs.RecordBack.{kept_record, had_record, has_record}
use Rattle.session_bytes.proofs.SessionRecords.{written}
use Rattle.session_bytes.proofs.TablesBack.{tables_back}

-- the numbers after the date
abbrev pub numbers_of : ConfigValue → ℕ → List ℕ
numbers_of c round = scoring_number c.scoring ∷ (size_bytes c.boards c.movement.shape ++ (four_bytes c.director ++ round ∷ []))

joined : (event site date scoring size director round : List ℕ)
    → event ++ site ++ date ++ scoring ++ size ++ director ++ round ≡ event ++ (site ++ (date ++ (scoring ++ (size ++ (director ++ round)))))
joined event site date scoring size director round = simp append_assoc

heading_is : (c : ConfigValue) (round : ℕ) → configuration_part c round ≡ text_bytes c.event ++ (text_bytes c.site ++ (c.date ++ numbers_of c round))
heading_is c round =
    joined (text_bytes c.event) (text_bytes c.site) c.date (scoring_number c.scoring ∷ []) (size_bytes c.boards c.movement.shape)
    (four_bytes c.director) (round ∷ [])

scoring_back : (scoring : Scoring) → scoring_at (scoring_number scoring) ≡ scoring
scoring_back MatchPoints = refl
scoring_back Imps = refl

-- the keys of each pair are among all keys
all_front : (xs ys : List ℕ) → All IsKeyNumber (xs ++ ys) → All IsKeyNumber xs
all_front xs ys all index d within =
    subst IsKeyNumber (get_or_append_left xs ys d index within) (all index d (omega (arith, within, length-append xs ys)))

all_back_half : (xs ys : List ℕ) → All IsKeyNumber (xs ++ ys) → All IsKeyNumber ys
all_back_half xs ys all index d within =
    subst IsKeyNumber (get_or-append-add xs ys index d) (all (length xs + index) d (omega (arith, within, length-append xs ys)))

keys_of_each : (pairs : List Pair) → All IsKeyNumber (keys_in pairs) → All (λ (pair : Pair). All IsKeyNumber pair.keys) pairs
keys_of_each [] all = All-nil (λ (pair : Pair). All IsKeyNumber pair.keys)
keys_of_each (pair ∷ pairs) all =
    All-cons (λ (other : Pair). All IsKeyNumber other.keys) pair pairs (all_front pair.keys (keys_in pairs) all)
    (keys_of_each pairs (all_back_half pair.keys (keys_in pairs) all))

module _ (c : ConfigValue) (round : ℕ) (is : IsConfiguration c) (boards : List (List ℕ)) where
  director : IsKeyNumber c.director
  director = All-head IsKeyNumber c.director (keys_in c.pairs) is.keys.numbers

  keys : All IsKeyNumber (keys_in c.pairs)
  keys = All-tail IsKeyNumber c.director (keys_in c.pairs) is.keys.numbers

  behind_event : after_text (configuration_part c round) ≡ text_bytes c.site ++ (c.date ++ numbers_of c round)
  behind_event = ap after_text (heading_is c round) ∙ after_back c.event (text_bytes c.site ++ (c.date ++ numbers_of c round))

  pub behind_site : after_text (after_text (configuration_part c round)) ≡ c.date ++ numbers_of c round
  behind_site = ap after_text behind_event ∙ after_back c.site (c.date ++ numbers_of c round)

  pub date_long : length c.date ≡ 10
  date_long = eqb-true (length c.date) 10 (and_parts _ _ (and_parts _ _ (and_parts _ _ (and_parts _ _ (and_parts _ _ is.date_form).0).0).0).0).0

  pub numbers_back : numbers_in (configuration_part c round) ≡ numbers_of c round
  numbers_back = ap (drop 10) behind_site ∙ drop_front 10 c.date (numbers_of c round) date_long

  pub configuration_back : configuration_in (configuration_part c round) (movement_part c.movement.rows) (map pair_part c.pairs ++ boards) ≡ c
  configuration_back =
      let heading : List ℕ = configuration_part c round in
      let movement : List ℕ = movement_part c.movement.rows in
      let rest : List (List ℕ) = map pair_part c.pairs ++ boards in
      let event : text_in heading ≡ c.event = ap text_in (heading_is c round) ∙ text_back c.event (text_bytes c.site ++ (c.date ++ numbers_of c round)) in
      let site : text_in (after_text heading) ≡ c.site = ap text_in behind_event ∙ text_back c.site (c.date ++ numbers_of c round) in
      let date : take 10 (after_text (after_text heading)) ≡ c.date = ap (take 10) behind_site ∙ take_front 10 c.date (numbers_of c round) date_long in
      let scoring : scoring_at (slice_index (numbers_in heading) 0) ≡ c.scoring
      = ap (λ ns. scoring_at (slice_index ns 0)) numbers_back ∙ scoring_back c.scoring in
      let of_set : slice_index (numbers_in heading) 1 ≡ c.boards = ap (λ ns. slice_index ns 1) numbers_back in
      let shape : shape_of_numbers (numbers_in heading) ≡ c.movement.shape = ap shape_of_numbers numbers_back in
      let rows : rows_of_part (shape_of_numbers (numbers_in heading)) movement ≡ c.movement.rows
      = ap (λ (sh : Shape). rows_of_part sh movement) shape ∙ rows_back c.movement.shape c.movement.rows is.movement.complete in
      let key : key_in (drop 7 (numbers_in heading)) ≡ c.director
      = ap (λ ns. key_in (drop 7 ns)) numbers_back ∙ key_back c.director (round ∷ []) (omega (arith, director)) in
      let count : slice_index (numbers_in heading) 5 ≡ c.movement.shape.pairs = ap (λ ns. slice_index ns 5) numbers_back in
      let long : length (map pair_part c.pairs) ≡ c.movement.shape.pairs = length-map c.pairs pair_part ∙ is.count in
      let each : All (λ (pair : Pair). pair_of_part (pair_part pair) ≡ pair) c.pairs
      = λ k d within. pair_back (get_or c.pairs k d) (is.pairs k d within) (keys_of_each c.pairs keys k d within) in
      let pairs : map pair_of_part (take (slice_index (numbers_in heading) 5) rest) ≡ c.pairs
      = ap (λ n. map pair_of_part (take n rest)) count ∙ ap (map pair_of_part) (take_front c.movement.shape.pairs (map pair_part c.pairs) boards long)
      ∙ all_back pair_part pair_of_part c.pairs each in
      λ i. record {
        event = event i;
        site = site i;
        date = date i;
        scoring = scoring i;
        boards = of_set i;
        movement = record { shape = shape i; rows = rows i };
        director = key i;
        pairs = pairs i;
      }

-- the session with the rulings that the format keeps
abbrev pub kept_session : DiskFormat → SessionValue → SessionValue
kept_session format s = record s { records = map (map (kept_record format)) s.records }

-- the boards and the plays
rest_back : (format : DiskFormat) (s : SessionValue) → IsSession s → state_with s.configuration s.round (board_parts format s) ≡ kept_session format s
rest_back format s is =
    let c : ConfigValue = s.configuration in
    let boards : ℕ = c.movement.shape.sets * c.boards in
    let long : length (map deal_part s.deals) ≡ boards = length-map s.deals deal_part ∙ is.valid.boards in
    let deals : map deal_of (take boards (board_parts format s)) ≡ s.deals
    = ap (map deal_of) (take_front boards (map deal_part s.deals) (play_parts format s) long)
    ∙ all_back deal_part deal_of s.deals (λ k d within. deal_back (get_or s.deals k d) (is.ranges.deals k d within)) in
    let records : tables_in c.boards c.movement.rows (drop boards (board_parts format s)) ≡ map (map (kept_record format)) s.records
    = ap (tables_in c.boards c.movement.rows) (drop_front boards (map deal_part s.deals) (play_parts format s) long)
    ∙ tables_back format c.boards c.movement.rows s.records is.valid.of_boards (written s is) in
    λ i. record { configuration = c; round = s.round; deals = deals i; records = records i }

whole_back : (format : DiskFormat) (s : SessionValue) → IsSession s → state_read (parts_of format s) ≡ kept_session format s
whole_back format s is =
    let c : ConfigValue = s.configuration in
    let limits : IsConfiguration c = is.valid.configured in
    let heading : List ℕ = configuration_part c s.round in
    let numbers = numbers_back c s.round limits (board_parts format s) in
    let configuration : configuration_in heading (movement_part c.movement.rows) (pair_parts format s) ≡ c
    = configuration_back c s.round limits (board_parts format s) in
    let round : slice_index (numbers_in heading) 11 ≡ s.round = ap (λ ns. slice_index ns 11) numbers in
    let count : slice_index (numbers_in heading) 5 ≡ c.movement.shape.pairs = ap (λ ns. slice_index ns 5) numbers in
    let long : length (map pair_part c.pairs) ≡ c.movement.shape.pairs = length-map c.pairs pair_part ∙ limits.count in
    let rest : drop (slice_index (numbers_in heading) 5) (pair_parts format s) ≡ board_parts format s
    = ap (λ n. drop n (pair_parts format s)) count ∙ drop_front c.movement.shape.pairs (map pair_part c.pairs) (board_parts format s) long in
    ap (λ (d : ConfigValue). state_with d (slice_index (numbers_in heading) 11) (drop (slice_index (numbers_in heading) 5) (pair_parts format s))) configuration
    ∙ ap (λ n. state_with c n (drop (slice_index (numbers_in heading) 5) (pair_parts format s))) round
    ∙ ap (state_with c s.round) rest ∙ rest_back format s is

module _ {X : Type 0} (f : X → X) (P : X → Type 0) where
  all_kept : ((x : X) → P x → f x ≡ x) → (xs : List X) → All P xs → map f xs ≡ xs
  all_kept keeps [] all = refl
  all_kept keeps (x ∷ xs) all =
      ap (λ y. y ∷ map f xs) (keeps x (All-head P x xs all)) ∙ ap (λ ys. x ∷ ys) (all_kept keeps xs (All-tail P x xs all))

  kept_all : ((x : X) → f x ≡ x → P x) → (xs : List X) → map f xs ≡ xs → All P xs
  kept_all holds [] same = All-nil P
  kept_all holds (x ∷ xs) same =
      let first : f x ≡ x = cc in
      let rest : map f xs ≡ xs = cc in
      All-cons P x xs (holds x first) (kept_all holds xs rest)

-- A session is read back where the format has its rulings.
pub session_back : (format : DiskFormat) (s : SessionValue) → IsSession s → HasRulings format s → state_read (parts_of format s) ≡ s
session_back format s is has =
    whole_back format s is
    ∙ ap (λ (records : List (List PlainRecord)). record s { records = records })
    (all_kept (map (kept_record format)) (All (HasRecord format)) (all_kept (kept_record format) (HasRecord format) (had_record format)) s.records has)

-- And only there is it read back.
pub rulings_back : (format : DiskFormat) (s : SessionValue) → IsSession s → state_read (parts_of format s) ≡ s → HasRulings format s
rulings_back format s is same =
    let kept : map (map (kept_record format)) s.records ≡ s.records = ap (λ (t : SessionValue). t.records) (sym (whole_back format s is) ∙ same) in
    kept_all (map (kept_record format)) (All (HasRecord format)) (kept_all (kept_record format) (HasRecord format) (has_record format)) s.records kept

any_ruling : (made : Option Ruling) → IfSome made (HasRuling Two)
any_ruling None = tt
any_ruling (Some made) = tt

-- The second format has each ruling.
pub two_has_rulings : (s : SessionValue) → HasRulings Two s
two_has_rulings s row_index d within index e inside = any_ruling (get_or (get_or s.records row_index d) index e).ruling
