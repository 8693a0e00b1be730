-- The session of the parts that were read.
use Rattle.session_store.specs.declared.disk_format.DiskFormat.{DiskFormat}
use Rattle.std.proofs.Common.{◌≡◌, ◌+◌, ◌-◌, ◌*◌, ◌≤◌, ℕ, suc, Bool, true, false, cond, List, [], ◌∷◌, ◌++◌, length, get_or, map, take, drop, All, Option, Some, refl, sym, ap, ◌∙◌, subst, arith}
use Rattle.std.specs.Prelude.{nat_le, slice_get, slice_index, slice_index_or, flat_map, unwrap_or}
use Rattle.std.specs.Option.{option_map}
use Rattle.std.specs.List.{range_with_len}
use Rattle.std.specs.Global.{Vec}
use Rattle.std.proofs.lemmas.Bool.{leb-true, and_parts}
use Rattle.std.proofs.lemmas.List.{length-map, append_cancel_left}
use Rattle.std.proofs.lemmas.List.Elements.{All-map}
use Rattle.std.proofs.lemmas.Option.{slice_get-map, slice_get-get_or, slice_get_within}
use Rattle.std.proofs.lemmas.List.FromFn.{length-range_with_len}
use Rattle.std.proofs.lemmas.Simd.{map-map}
use Rattle.bridge_movement.specs.declared.row.Row.{Row}
use Rattle.bridge_movement.specs.Row.{is_live}
use Rattle.bridge_config.specs.ConfigValue.{ConfigValue}
use Rattle.bridge_config.specs.Limits.{IsConfiguration}
use Rattle.bridge_table.specs.declared.record.Record.{Record}
use Rattle.session_rules.specs.Record.{PlainRecord}
use Rattle.session_rules.specs.State.{SessionValue, row_boards}
use Rattle.bridge_table.specs.Kept.{plain_of, board_kept, IsTiedIn}
use Rattle.bridge_session.specs.KeptSession.{state_of, StateASession, IsKeptSession}
use Rattle.session_bytes.specs.Head.{head_parts, IsRound}
use Rattle.session_bytes.specs.Parts.{HasRecord, HasRulings, deal_part, row_parts, play_parts, board_parts}
use Rattle.session_bytes.specs.PartsRead.{numbers_in, configuration_in, deal_of}
use Rattle.session_rules.specs.StateRange.{IsRecordInRange, IsStateInRange, IsSession}
use Rattle.session_rules.specs.Valid.{board_of, IsValidRecord, IsValid}
use Rattle.session_bytes.specs.Reading.{plains_of, AreDeals, AreRows}
use Rattle.bridge_table.proofs.Tables.{lists_in}
use Rattle.session_bytes.proofs.PartIndexes.{count_boards}
use Rattle.session_bytes.proofs.ReadLists.{all_there, some_there}
use Rattle.session_bytes.proofs.SessionBack.{numbers_back, configuration_back}
use Rattle.session_bytes.proofs.PairBack.{deal_back}
use Rattle.session_bytes.proofs.BytesBack.{all_back, take_front, drop_front}
use Rattle.session_rules.proofs.StaysValid.{mapped_from, row_found}

-- Lists, by their indexes

pub all_from : {X : Type 0} (P : X → Type 0) (xs : List X) → ((i : ℕ) (x : X) → slice_get xs i ≡ Some x → P x) → All P xs
all_from P xs each i d within = each i (get_or xs i d) (slice_get-get_or xs i d within)

pub same_maps : {X Y Z : Type 0} (f : X → Z) (g : Y → Z) (xs : List X) (ys : List Y) → length xs ≡ length ys
    → ((i : ℕ) (x : X) (y : Y) → slice_get xs i ≡ Some x → slice_get ys i ≡ Some y → f x ≡ g y) → map f xs ≡ map g ys
same_maps f g [] [] long each = refl
same_maps f g [] (y ∷ ys) long each = absurd (omega (arith, long))
same_maps f g (x ∷ xs) [] long each = absurd (omega (arith, long))
same_maps f g (x ∷ xs) (y ∷ ys) long each =
    ap (λ z. z ∷ map f xs) (each 0 x y refl refl)
    ∙ ap (λ zs. g y ∷ zs) (same_maps f g xs ys (omega (arith, long)) (λ i a b one two. each (suc i) a b one two))

-- The configuration and the round

abbrev configuration_at : List (List ℕ) → ConfigValue
configuration_at parts = configuration_in (slice_index_or parts 0 []) (slice_index_or parts 1 []) (drop 2 parts)

abbrev round_at : List (List ℕ) → ℕ
round_at parts = slice_index (numbers_in (slice_index_or parts 0 [])) 11

pub record SameHead (c d : ConfigValue) (n m : ℕ) (rest later : List (List ℕ)) : Type 0 where
  pub configuration : c ≡ d
  pub round : n ≡ m
  pub behind : rest ≡ later

-- the parts before those of the boards state one configuration and one round
pub same_head : (c d : ConfigValue) (n m : ℕ) (rest later : List (List ℕ)) → IsConfiguration c → IsConfiguration d
    → head_parts c n ++ rest ≡ head_parts d m ++ later → SameHead c d n m rest later
same_head c d n m rest later one two is =
    let configuration : c ≡ d = sym (configuration_back c n one rest) ∙ ap configuration_at is ∙ configuration_back d m two later in
    let round : n ≡ m
    = sym (ap (λ ns. slice_index ns 11) (numbers_back c n one rest)) ∙ ap round_at is ∙ ap (λ ns. slice_index ns 11) (numbers_back d m two later) in
    let head : head_parts c n ≡ head_parts d m = ap (λ (x : ConfigValue). head_parts x n) configuration ∙ ap (head_parts d) round in
    record {
      configuration = configuration;
      round = round;
      behind = append_cancel_left (head_parts c n) rest later (is ∙ ap (λ ps. ps ++ later) (sym head));
    }

-- What is known of a session's boards and plays

pub session_deals : (s : SessionValue) → IsSession s → AreDeals s.deals
session_deals s is = record { dealt = is.valid.deals; hands = is.ranges.deals }

pub session_count : (s : SessionValue) → IsSession s → length s.records ≡ length s.configuration.movement.rows
session_count s is =
    sym (length-map s.records (map board_of)) ∙ ap length is.valid.of_boards ∙ length-map s.configuration.movement.rows (row_boards s.configuration.boards)

pub session_rows : (format : DiskFormat) (s : SessionValue) → IsSession s → HasRulings format s
    → AreRows format s.configuration.scoring s.deals s.round s.configuration.boards s.configuration.movement.rows s.records
session_rows format s is has = record {
  count = session_count s is;
  each = λ row_index row own found there.
      let boards : ℕ = s.configuration.boards in
      let rows : List Row = s.configuration.movement.rows in
      let same : Some (map board_of own) ≡ Some (row_boards boards row)
      = sym (slice_get-map (map board_of) s.records row_index ∙ ap (option_map (map board_of)) there)
      ∙ ap (λ bs. slice_get bs row_index) is.valid.of_boards
      ∙ (slice_get-map (row_boards boards) rows row_index ∙ ap (option_map (row_boards boards)) found) in
      record {
        boards_are = cc;
        valid = all_from (IsValidRecord s.configuration.scoring s.deals s.round row.round) own (λ i x at.
            is.valid.plays row_index i row x found (ap (λ o. slice_get (unwrap_or o []) i) there ∙ at));
        in_range = all_there (All IsRecordInRange) s.records row_index own is.ranges.records there;
        of_format = all_there (All (HasRecord format)) s.records row_index own has there;
      };
}

pub same_deals : (deals others : List (Option (List ℕ))) → AreDeals deals → AreDeals others → map deal_part deals ≡ map deal_part others → deals ≡ others
same_deals deals others one two is =
    sym (all_back deal_part deal_of deals (λ k d within. deal_back (get_or deals k d) (one.hands k d within)))
    ∙ ap (map deal_of) is
    ∙ all_back deal_part deal_of others (λ k d within. deal_back (get_or others k d) (two.hands k d within))

-- The session that is made

-- a row has the boards of its set at most
few_boards : (live : Bool) (boards : List ℕ) → length (cond live boards []) ≤ length boards
few_boards true boards = omega arith
few_boards false boards = omega arith

row_boards_few : (boards : ℕ) (row : Row) → length (row_boards boards row) ≤ boards
row_boards_few boards row =
    let few = few_boards (is_live row) (range_with_len ((row.set - 1) * boards + 1) boards) in
    omega (arith, few, length-range_with_len ((row.set - 1) * boards + 1) boards)

-- what was read of the boards and the plays
pub record AreMade (format : DiskFormat) (configuration : ConfigValue) (round : ℕ) (deals : List (Option (List ℕ))) (tables : List (Vec Record)) : Type 0 where
  pub limits : IsConfiguration configuration
  pub in_round : IsRound configuration round
  pub boards : length deals ≡ configuration.movement.shape.sets * configuration.boards
  pub dealt : AreDeals deals
  pub rows : AreRows format configuration.scoring deals round configuration.boards configuration.movement.rows (map plains_of tables)
  pub tied : All (λ (table : Vec Record). All (IsTiedIn deals) table.items) tables

-- the records of all tables, as contracts see them
pub plains_are : (tables : List (Vec Record)) → map (map plain_of) (lists_in tables) ≡ map plains_of tables
plains_are tables = map-map (map plain_of) (λ (table : Vec Record). table.items) tables

kept_boards : (tables : List (Vec Record)) → map (map board_kept) (lists_in tables) ≡ map (map board_of) (map plains_of tables)
kept_boards [] = refl
kept_boards (table ∷ tables) =
    ap (λ bs. bs ∷ map (map board_kept) (lists_in tables)) (sym (map-map board_of plain_of table.items))
    ∙ ap (λ bss. map board_of (plains_of table) ∷ bss) (kept_boards tables)

module _ (format : DiskFormat) (configuration : ConfigValue) (round : ℕ) (deals : List (Option (List ℕ))) (tables : List (Vec Record)) (made : AreMade format configuration round deals tables) where
  abbrev pub made_state : SessionValue
  made_state = record { configuration = configuration; round = round; deals = deals; records = map plains_of tables }

  of_boards : map (map board_of) (map plains_of tables) ≡ map (row_boards configuration.boards) configuration.movement.rows
  of_boards =
      same_maps (map board_of) (row_boards configuration.boards) (map plains_of tables) configuration.movement.rows made.rows.count
      (λ i own row there found. (made.rows.each i row own found there).boards_are)

  made_valid : IsValid made_state
  made_valid = record {
    configured = made.limits;
    begun = made.in_round.0;
    ends = made.in_round.1;
    boards = made.boards;
    deals = made.dealt.dealt;
    of_boards = of_boards;
    plays = λ row_index index row plain found at.
        let own = row_found (map plains_of tables) row_index index plain at in
        all_there (IsValidRecord configuration.scoring deals round row.round) own.0 index plain (made.rows.each row_index row own.0 found own.1).valid
        (ap (λ rs. slice_get rs index) (sym own.2) ∙ at);
  }

  made_ranges : IsStateInRange made_state
  made_ranges = record {
    deals = made.dealt.hands;
    records = all_from (All IsRecordInRange) (map plains_of tables) (λ row_index own there.
        let within = slice_get_within (map plains_of tables) row_index own there in
        let row = some_there configuration.movement.rows row_index (omega (arith, within, made.rows.count)) in
        (made.rows.each row_index row.0 own row.1 there).in_range);
  }

  pub made_rulings : HasRulings format made_state
  made_rulings =
      all_from (All (HasRecord format)) (map plains_of tables) (λ row_index own there.
      let within = slice_get_within (map plains_of tables) row_index own there in
      let row = some_there configuration.movement.rows row_index (omega (arith, within, made.rows.count)) in
      (made.rows.each row_index row.0 own row.1 there).of_format)

  pub made_session : IsSession made_state
  made_session = record { valid = made_valid; ranges = made_ranges }

  pub made_is : state_of configuration round deals (lists_in tables) ≡ made_state
  made_is = ap (λ (rs : List (List PlainRecord)). record { configuration = configuration; round = round; deals = deals; records = rs }) (plains_are tables)

  boards_few : configuration.boards ≤ 3
  boards_few = leb-true configuration.boards 3 (and_parts (nat_le 1 configuration.boards) (nat_le configuration.boards 3) made.limits.boards).1

  boards_kept : map (map board_kept) (lists_in tables) ≡ map (row_boards configuration.boards) configuration.movement.rows
  boards_kept = kept_boards tables ∙ of_boards

  table_few : (row_index : ℕ) (table : List Record) → slice_get (lists_in tables) row_index ≡ Some table → length table ≤ 3
  table_few row_index table there =
      let seen : slice_get (map (row_boards configuration.boards) configuration.movement.rows) row_index ≡ Some (map board_kept table)
      = ap (λ bs. slice_get bs row_index) (sym boards_kept) ∙ slice_get-map (map board_kept) (lists_in tables) row_index ∙ ap (option_map (map board_kept)) there in
      let row = mapped_from (row_boards configuration.boards) configuration.movement.rows row_index (map board_kept table) seen in
      let few = row_boards_few configuration.boards row.0 in
      let same : length (row_boards configuration.boards row.0) ≡ length (map board_kept table) = ap length row.2 in
      omega (arith, few, same, length-map table board_kept, boards_few)

  pub made_kept : IsKeptSession configuration round deals (lists_in tables)
  unfolding StateASession
  made_kept = record {
    session = subst IsSession (sym made_is) made_session;
    begun = made.in_round.0;
    boards = made.boards;
    rows = length-map tables (λ (table : Vec Record). table.items) ∙ sym (length-map tables plains_of) ∙ made.rows.count ∙ made.limits.movement.complete.count;
    tied = All-map (All (IsTiedIn deals)) (λ (table : Vec Record). table.items) tables made.tied;
    few = all_from (λ (table : List Record). length table ≤ 3) (lists_in tables) table_few;
    boards_are = boards_kept;
  }

-- The parts of a session with that configuration

module _ (format : DiskFormat) (s : SessionValue) (is : IsSession s) (configuration : ConfigValue) (same : s.configuration ≡ configuration) (parts : List (List ℕ)) (of : board_parts format s ≡ parts) where
  deals_long : length (map deal_part s.deals) ≡ configuration.movement.shape.sets * configuration.boards
  deals_long =
      length-map s.deals deal_part ∙ is.valid.boards
      ∙ ap (λ (c : ConfigValue). c.movement.shape.sets * c.boards) same

  pub board_half : map deal_part s.deals ≡ take (configuration.movement.shape.sets * configuration.boards) parts
  board_half =
      sym (take_front (configuration.movement.shape.sets * configuration.boards) (map deal_part s.deals) (play_parts format s) deals_long)
      ∙ ap (take (configuration.movement.shape.sets * configuration.boards)) of

  pub play_half : flat_map (row_parts format configuration.boards) s.records ≡ drop (configuration.movement.shape.sets * configuration.boards) parts
  play_half =
      ap (λ (c : ConfigValue). flat_map (row_parts format c.boards) s.records) (sym same)
      ∙ sym (drop_front (configuration.movement.shape.sets * configuration.boards) (map deal_part s.deals) (play_parts format s) deals_long)
      ∙ ap (drop (configuration.movement.shape.sets * configuration.boards)) of

  pub parts_long : length parts ≡ configuration.movement.shape.sets * configuration.boards + length configuration.movement.rows * configuration.boards
  parts_long =
      ap length (sym of) ∙ count_boards format s
      ∙ ap (λ n. n + length s.records * s.configuration.boards) is.valid.boards
      ∙ ap (λ n. s.configuration.movement.shape.sets * s.configuration.boards + n * s.configuration.boards) (session_count s is)
      ∙ ap (λ (c : ConfigValue). c.movement.shape.sets * c.boards + length c.movement.rows * c.boards) same

  pub rows_of : HasRulings format s → (round : ℕ) → s.round ≡ round → AreRows format configuration.scoring s.deals round configuration.boards configuration.movement.rows s.records
  rows_of has round at =
      subst (λ n. AreRows format configuration.scoring s.deals n configuration.boards configuration.movement.rows s.records) at
      (subst (λ (c : ConfigValue). AreRows format c.scoring s.deals s.round c.boards c.movement.rows s.records) same (session_rows format s is has))
