use Rattle.std.proofs.Common.{Vec, Global, ◌≡◌, ◌*◌, ◌∙◌, ◌++◌, List, length, map, take, drop, sym, ap, subst, All, arith}
use Rattle.std.specs.Prelude.{flat_map}
use Rattle.std.specs.List.{take-map, drop-map}
use Rattle.std.specs.Vec.{with_items}
use Rattle.std.proofs.lemmas.List.{take-append-drop, with_items_is}
use Rattle.std.proofs.lemmas.Simd.{map-map}
use Rattle.bridge_movement.specs.declared.row.Row.{Row}
use Rattle.bridge_config.specs.ConfigValue.{ConfigValue, configuration_of}
use Rattle.bridge_cards.specs.declared.scoring.Scoring.{Scoring}
use Rattle.bridge_table.specs.declared.record.Record.{Record}
use Rattle.session_rules.specs.State.{Deals, row_boards}
use Rattle.session_rules.specs.StateRange.{AreHandsOrNone, IsSession}
use Rattle.bridge_table.specs.Kept.{board_kept, IsTiedIn}
use Rattle.bridge_table.proofs.Tables.{lists_in}
use Rattle.session_bytes.specs.Parts.{HasRulings, row_parts, board_parts}
use Rattle.session_bytes.specs.Reading.{items_of, plains_of, AreRows}
use Rattle.bridge_session.specs.KeptSession.{state_of, IsKeptSession}
use Rattle.bridge_session.proofs.NewSession.{rows_boards}
use Rattle.bridge_session.proofs.Restored.{AreMade, made_state, made_kept, made_is, made_session, made_rulings, session_deals, same_deals, board_half, play_half, rows_of}
use Rattle.bridge_session.proofs.session.restored.read_boards.Goals as goal
use Rattle.bridge_session.proofs.session.restored.read_boards.Goals.{In_ok-read_tables}

pub returns-in_err-read_deals-clause-other : goal.returns-in_err-read_deals-clause-other
returns-in_err-read_deals-clause-other c = rw c.from_residual.ensures λ s is has same round of.
    let config = c.args.head.config in
    let parts = c.args.parts.now in
    let count : c.len.result ≡ config.movement.shape.sets * config.boards = omega (arith, c.len.ensures, c.requires.deals) in
    let front : map items_of c.split_at.result.0.now ≡ take (config.movement.shape.sets * config.boards) (map items_of parts)
    = ap (map items_of) c.split_at.ensures.front ∙ sym (take-map items_of c.len.result parts) ∙ ap (λ n. take n (map items_of parts)) count in
    c.in_err-read_deals.ensures.other s.deals (session_deals s is) (board_half c.args.format s is config same (map items_of parts) of ∙ sym front)

pub read_tables-requires-clause-boards : goal.read_tables-requires-clause-boards
read_tables-requires-clause-boards c =
    let config = c.args.head.config in
    let known : configuration_of c.fields-fields.result.now ≡ config = c.fields-fields.ensures.fields in
    let of_set : c.fields-fields.result.now.boards ≡ config.boards = ap (λ (k : ConfigValue). k.boards) known in
    let rows : c.rows.result.now ≡ config.movement.rows = c.rows.ensures.rows ∙ ap (λ (k : ConfigValue). k.movement.rows) known in
    ap (map (λ (t : Vec Record Global). map board_kept t.items)) c.as_mut_slice-2.ensures.value
    ∙ sym (map-map (map board_kept) (λ (t : Vec Record Global). t.items) c.args.room.tables.items)
    ∙ ap (map (map board_kept)) c.requires.tables
    ∙ rows_boards config.boards config.movement.rows
    ∙ ap (λ n. map (row_boards n) config.movement.rows) (sym of_set)
    ∙ ap (map (row_boards c.fields-fields.result.now.boards)) (sym rows)

pub read_tables-requires-clause-deals : goal.read_tables-requires-clause-deals
read_tables-requires-clause-deals c =
    let deals : Deals = c.read_deals.new.deals in
    let kept : (with_items c.args.room.deals deals).items ≡ deals
    = with_items_is c.args.room.deals deals (omega (arith, c.read_deals.auto.deals, c.as_mut_slice.ensures.len)) in
    subst (All AreHandsOrNone) (sym (c.as_slice.ensures.value ∙ kept)) c.in_ok-read_deals.ensures.deals.hands

pub returns-in_err-read_tables-clause-other : goal.returns-in_err-read_tables-clause-other
returns-in_err-read_tables-clause-other c = rw c.from_residual-in_err-read_tables.ensures λ s is has same round of.
    let config = c.args.head.config in
    let parts = c.args.parts.now in
    let format = c.args.format in
    let known : configuration_of c.fields-fields.result.now ≡ config = c.fields-fields.ensures.fields in
    let count : c.len.result ≡ config.movement.shape.sets * config.boards = omega (arith, c.len.ensures, c.requires.deals) in
    let of_set : c.fields-fields.result.now.boards ≡ config.boards = ap (λ (k : ConfigValue). k.boards) known in
    let scored : c.fields-fields.result.now.scoring ≡ config.scoring = ap (λ (k : ConfigValue). k.scoring) known in
    let rows : c.rows.result.now ≡ config.movement.rows = c.rows.ensures.rows ∙ ap (λ (k : ConfigValue). k.movement.rows) known in
    let deals : Deals = c.read_deals.new.deals in
    let kept : (with_items c.args.room.deals deals).items ≡ deals
    = with_items_is c.args.room.deals deals (omega (arith, c.read_deals.auto.deals, c.as_mut_slice.ensures.len)) in
    let listed : c.as_slice.result.now ≡ deals = c.as_slice.ensures.value ∙ kept in
    let front : map items_of c.split_at.result.0.now ≡ take (config.movement.shape.sets * config.boards) (map items_of parts)
    = ap (map items_of) c.split_at.ensures.front ∙ sym (take-map items_of c.len.result parts) ∙ ap (λ n. take n (map items_of parts)) count in
    let back : map items_of c.split_at.result.1.now ≡ drop (config.movement.shape.sets * config.boards) (map items_of parts)
    = ap (map items_of) c.split_at.ensures.back ∙ sym (drop-map items_of c.len.result parts) ∙ ap (λ n. drop n (map items_of parts)) count in
    let deals_are : s.deals ≡ deals
    = same_deals s.deals deals (session_deals s is) c.in_ok-read_deals.ensures.deals
    (board_half format s is config same (map items_of parts) of ∙ sym front ∙ sym c.in_ok-read_deals.ensures.written) in
    let own = rows_of format s is config same (map items_of parts) of has c.args.head.round round in
    let here : AreRows format c.fields-fields.result.now.scoring c.as_slice.result.now c.args.head.round c.fields-fields.result.now.boards c.rows.result.now s.records
    = subst (λ (rs : List Row). AreRows format c.fields-fields.result.now.scoring c.as_slice.result.now c.args.head.round c.fields-fields.result.now.boards rs s.records) (sym rows)
    (subst (λ n. AreRows format c.fields-fields.result.now.scoring c.as_slice.result.now c.args.head.round n config.movement.rows s.records) (sym of_set)
    (subst (λ ds. AreRows format c.fields-fields.result.now.scoring ds c.args.head.round config.boards config.movement.rows s.records) (deals_are ∙ sym listed)
    (subst (λ (k : Scoring). AreRows format k s.deals c.args.head.round config.boards config.movement.rows s.records) (sym scored) own))) in
    c.in_err-read_tables.ensures.other s.records here
    (ap (λ n. flat_map (row_parts format n) s.records) of_set ∙ play_half format s is config same (map items_of parts) of ∙ sym back)

-- the room with what was read
deals_kept : (c : In_ok-read_tables) → (with_items c.args.room.deals c.read_deals.new.deals).items ≡ c.read_deals.new.deals
deals_kept c = with_items_is c.args.room.deals c.read_deals.new.deals (omega (arith, c.read_deals.auto.deals, c.as_mut_slice.ensures.len))

tables_kept : (c : In_ok-read_tables) → (with_items c.args.room.tables c.read_tables.new.tables).items ≡ c.read_tables.new.tables
tables_kept c = with_items_is c.args.room.tables c.read_tables.new.tables (omega (arith, c.read_tables.auto.tables, c.as_mut_slice-2.ensures.len))

made : (c : In_ok-read_tables) → AreMade c.args.format c.args.head.config c.args.head.round c.read_deals.new.deals c.read_tables.new.tables
made c =
    let config = c.args.head.config in
    let round = c.args.head.round in
    let format = c.args.format in
    let known : configuration_of c.fields-fields.result.now ≡ config = c.fields-fields.ensures.fields in
    let of_set : c.fields-fields.result.now.boards ≡ config.boards = ap (λ (k : ConfigValue). k.boards) known in
    let scored : c.fields-fields.result.now.scoring ≡ config.scoring = ap (λ (k : ConfigValue). k.scoring) known in
    let rows : c.rows.result.now ≡ config.movement.rows = c.rows.ensures.rows ∙ ap (λ (k : ConfigValue). k.movement.rows) known in
    let deals : Deals = c.read_deals.new.deals in
    let tables : List (Vec Record Global) = c.read_tables.new.tables in
    let listed : c.as_slice.result.now ≡ deals = c.as_slice.ensures.value ∙ deals_kept c in
    record {
      limits = c.fields-fields.ensures.limits;
      in_round = c.requires.round;
      boards = omega (arith, c.read_deals.auto.deals, ap length c.as_mut_slice.ensures.value, c.requires.deals);
      dealt = c.in_ok-read_deals.ensures.deals;
      rows = subst (λ (rs : List Row). AreRows format config.scoring deals round config.boards rs (map plains_of tables)) rows
          (subst (λ n. AreRows format config.scoring deals round n c.rows.result.now (map plains_of tables)) of_set
          (subst (λ ds. AreRows format config.scoring ds round c.fields-fields.result.now.boards c.rows.result.now (map plains_of tables)) listed
          (subst (λ (k : Scoring). AreRows format k c.as_slice.result.now round c.fields-fields.result.now.boards c.rows.result.now (map plains_of tables)) scored
          c.in_ok-read_tables.ensures.rows.0)));
      tied = subst (λ ds. All (λ (t : Vec Record Global). All (IsTiedIn ds) t.items) tables) listed c.in_ok-read_tables.ensures.rows.1;
    }

-- what is seen of it
state_is : (c : In_ok-read_tables) →
    state_of c.args.head.config c.args.head.round (with_items c.args.room.deals c.read_deals.new.deals).items (lists_in (with_items c.args.room.tables c.read_tables.new.tables).items)
    ≡ made_state c.args.format c.args.head.config c.args.head.round c.read_deals.new.deals c.read_tables.new.tables (made c)
state_is c =
    let config = c.args.head.config in
    let round = c.args.head.round in
    ap (λ ds. state_of config round ds (lists_in (with_items c.args.room.tables c.read_tables.new.tables).items)) (deals_kept c)
    ∙ ap (λ (ts : List (Vec Record Global)). state_of config round c.read_deals.new.deals (lists_in ts)) (tables_kept c)
    ∙ made_is c.args.format config round c.read_deals.new.deals c.read_tables.new.tables (made c)

pub invariant_of-result : goal.invariant_of-result
invariant_of-result c =
    let config = c.args.head.config in
    let round = c.args.head.round in
    subst (λ ds. IsKeptSession config round ds (lists_in (with_items c.args.room.tables c.read_tables.new.tables).items)) (sym (deals_kept c))
    (subst (λ (ts : List (Vec Record Global)). IsKeptSession config round c.read_deals.new.deals (lists_in ts)) (sym (tables_kept c))
    (made_kept c.args.format config round c.read_deals.new.deals c.read_tables.new.tables (made c)))

pub returns-clause-parts : goal.returns-clause-parts
returns-clause-parts c =
    let config = c.args.head.config in
    let parts = c.args.parts.now in
    let format = c.args.format in
    let tables : List (Vec Record Global) = c.read_tables.new.tables in
    let of_set : c.fields-fields.result.now.boards ≡ config.boards = ap (λ (k : ConfigValue). k.boards) c.fields-fields.ensures.fields in
    let count : c.len.result ≡ config.movement.shape.sets * config.boards = omega (arith, c.len.ensures, c.requires.deals) in
    let front : map items_of c.split_at.result.0.now ≡ take (config.movement.shape.sets * config.boards) (map items_of parts)
    = ap (map items_of) c.split_at.ensures.front ∙ sym (take-map items_of c.len.result parts) ∙ ap (λ n. take n (map items_of parts)) count in
    let back : map items_of c.split_at.result.1.now ≡ drop (config.movement.shape.sets * config.boards) (map items_of parts)
    = ap (map items_of) c.split_at.ensures.back ∙ sym (drop-map items_of c.len.result parts) ∙ ap (λ n. drop n (map items_of parts)) count in
    ap (board_parts format) (state_is c)
    ∙ ap (λ xs. xs ++ flat_map (row_parts format config.boards) (map plains_of tables)) (c.in_ok-read_deals.ensures.written ∙ front)
    ∙ ap (λ n. take (config.movement.shape.sets * config.boards) (map items_of parts) ++ flat_map (row_parts format n) (map plains_of tables)) (sym of_set)
    ∙ ap (λ xs. take (config.movement.shape.sets * config.boards) (map items_of parts) ++ xs) (c.in_ok-read_tables.ensures.written ∙ back)
    ∙ take-append-drop (config.movement.shape.sets * config.boards) (map items_of parts)

pub returns-clause-session : goal.returns-clause-session
returns-clause-session c =
    subst IsSession (sym (state_is c)) (made_session c.args.format c.args.head.config c.args.head.round c.read_deals.new.deals c.read_tables.new.tables (made c))

pub returns-clause-rulings : goal.returns-clause-rulings
returns-clause-rulings c =
    subst (HasRulings c.args.format) (sym (state_is c)) (made_rulings c.args.format c.args.head.config c.args.head.round c.read_deals.new.deals c.read_tables.new.tables (made c))
