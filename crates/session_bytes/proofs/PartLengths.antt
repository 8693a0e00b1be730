-- Each part of a session, in the second format, has at most 480 bytes, and there are at most 494 parts.
use Rattle.session_store.specs.declared.disk_format.DiskFormat.TheVariants.{Two}
use Rattle.std.proofs.Common.{◌≡◌, ◌-◌, ◌<◌, ◌≤◌, nat_le, ℕ, Bool, true, List, [], ◌∷◌, length, get_or, map, Option, None, Some, All, refl, sym, ap, subst, ◌∙◌, arith, length-append, inl, inr}
use Rattle.std.specs.Prelude.{IfSome, flat_map, unwrap_or}
use Rattle.std.specs.List.{range_with_len}
use Rattle.std.specs.Option.{option_map}
use Rattle.std.proofs.Math.Nat.{mul-le-mul}
use Rattle.std.proofs.lemmas.Bool.{leb-true, eqb-true, and_parts}
use Rattle.std.proofs.lemmas.List.{length-map}
use Rattle.std.proofs.lemmas.List.Elements.{All-nil, All-cons, All-head, All-tail, All-append, All-map}
use Rattle.std.proofs.lemmas.List.Sums.{AllPass-from_list_all}
use Rattle.std.proofs.lemmas.Option.{slice_get_cases}
use Rattle.bridge_auction.specs.declared.contract.Contract.{Contract}
use Rattle.bridge_auction.specs.Call.{call_number}
use Rattle.bridge_auction.proofs.LegalLength.{legal_length}
use Rattle.bridge_config.specs.ConfigValue.{ConfigValue, Pair}
use Rattle.bridge_config.specs.Limits.{is_name, IsPair, IsConfiguration}
use Rattle.bridge_movement.specs.declared.row.Row.{Row}
use Rattle.bridge_play.specs.declared.claim.Claim.{Claim}
use Rattle.bridge_play.specs.Play.{IsPlay}
use Rattle.bridge_play.proofs.LegalCards.{legal_cards_few}
use Rattle.session_rules.specs.declared.ruling.Ruling.{Ruling}
use Rattle.session_rules.specs.declared.ruling.Ruling.TheVariants as ruling
use Rattle.session_bytes.specs.Parts.{eight_bytes, configuration_part, row_bytes, movement_part, player_bytes, pair_part, deal_part, is_agreed_in, claim_bytes, ruling_bytes, record_part, record_or_empty, row_parts, play_parts, board_parts, pair_parts, parts_of}
use Rattle.session_rules.specs.Record.{PlainRecord, empty_record, contract_in, playing_in}
use Rattle.session_rules.specs.State.{SessionValue, deal_on, row_boards, hands_on}
use Rattle.session_rules.specs.StateRange.{AreHands, AreHandsOrNone, IsSession}
use Rattle.session_rules.specs.Valid.{IsDealtOut, IsDealOrNone, board_of, IsValidRecord}
use Rattle.session_bytes.proofs.DealtOut.{dealt_is_deal}
use Rattle.session_bytes.proofs.PartLemmas.{length-flat_fixed}
use Rattle.session_bytes.proofs.PartIndexes.{count_parts}
use Rattle.session_bytes.proofs.SessionRecords.{each_record}

-- the bytes fit into a part
abbrev Fits : List ℕ → Type 0
Fits bytes = length bytes ≤ 480

-- the configuration

name_few : (text : List ℕ) → is_name text ≡ true → length text ≤ 24
name_few text is = leb-true (length text) 24 (and_parts _ _ is).1

heading_fits : (c : ConfigValue) (round : ℕ) → IsConfiguration c → Fits (configuration_part c round)
heading_fits c round is =
    let date : length c.date ≡ 10
    = eqb-true (length c.date) 10 (and_parts _ _ (and_parts _ _ (and_parts _ _ (and_parts _ _ (and_parts _ _ is.date_form).0).0).0).0).0 in
    let event = name_few c.event is.event in
    let site = name_few c.site is.site in
    simp length-append (omega (arith, date, event, site))

movement_fits : (rows : List Row) → length rows ≤ 144 → Fits (movement_part rows)
movement_fits rows few = let long = length-flat_fixed row_bytes 3 (λ row. refl) rows in omega (arith, long, few)

player_fits : (pair : Pair) (row_index : ℕ) → IsPair pair → row_index < 2 → length (player_bytes pair row_index) ≤ 29
player_fits pair row_index is second =
    let nothing : List ℕ = [] in
    let name = name_few (get_or pair.names row_index nothing) (AllPass-from_list_all is_name pair.names is.names row_index nothing (omega (arith, is.two_names, second))) in
    simp length-append (omega (arith, name))

pair_fits : (pair : Pair) → IsPair pair → Fits (pair_part pair)
pair_fits pair is =
    let first = player_fits pair 0 is (omega arith) in
    let second = player_fits pair 1 is (omega arith) in
    omega (arith, first, second, length-append (player_bytes pair 0) (player_bytes pair 1))

-- a board
deal_fits : (deal : Option (List ℕ)) → AreHandsOrNone deal → Fits (deal_part deal)
deal_fits None are = omega arith
deal_fits (Some hands) are = let long = length-flat_fixed eight_bytes 8 (λ hand. refl) hands in omega (arith, long, are.0)

-- a play

claim_fits : (agreed : Bool) (claim : Option Claim) → length (claim_bytes agreed claim) ≤ 4
claim_fits agreed None = omega arith
claim_fits agreed (Some claim) = omega arith

ruling_fits : (made : Option Ruling) → length (ruling_bytes Two made) ≤ 3
ruling_fits None = omega arith
ruling_fits (Some (ruling.Tricks tricks)) = omega arith
ruling_fits (Some ruling.Void) = omega arith
ruling_fits (Some (ruling.Adjusted ns ew)) = omega arith
ruling_fits (Some (ruling.Assigned contract tricks)) = omega arith

record_fits : (plain : PlainRecord) → length plain.calls ≤ 319 → length plain.cards ≤ 52 → Fits (record_part Two plain)
record_fits plain calls cards =
    let numbers = length-map plain.calls call_number in
    let claim = claim_fits (is_agreed_in plain) plain.claim in
    let made = ruling_fits plain.ruling in
    simp length-append (omega (arith, numbers, calls, cards, claim, made))

-- the cards of a play of a deal are few
module _ (s : SessionValue) (is : IsSession s) (plain : PlainRecord) (round : ℕ) (valid : IsValidRecord s.configuration.scoring s.deals s.round round plain) where
  hands_are_deal : (hands : List ℕ) → deal_on s.deals plain.board ≡ Some hands → IsDealtOut hands × AreHands hands
  hands_are_deal hands found =
      elim (slice_get_cases s.deals (plain.board - 1)).1 [
        | inl (deal, within, there, read) ↦
            let same : deal ≡ Some hands = ap (λ o. unwrap_or o None) (sym there) ∙ found in (
              subst IsDealOrNone (read ∙ same) (is.valid.deals (plain.board - 1) deal within),
              subst AreHandsOrNone (read ∙ same) (is.ranges.deals (plain.board - 1) deal within),
            )
        | inr (past, none) ↦ let wrong : None ≡ Some hands = ap (λ o. unwrap_or o None) (sym none) ∙ found in absurd cc
      ]

  cards_few_in : (contract : Contract) (deal : Option (List ℕ)) → contract_in plain ≡ Some contract → deal_on s.deals plain.board ≡ deal → length plain.cards ≤ 52
  cards_few_in contract None bid found =
      let no_calls = valid.dealt found in
      let none : contract_in plain ≡ None = ap (λ calls. contract_in (record plain { calls = calls })) no_calls in
      absurd cc
  cards_few_in contract (Some hands) bid found =
      let dealt = hands_are_deal hands found in
      let play : IfSome (option_map (playing_in (hands_on s.deals plain.board) plain) (Some contract)) IsPlay
      = subst (λ o. IfSome (option_map (playing_in (hands_on s.deals plain.board) plain) o) IsPlay) bid valid.play in
      let legal = subst (λ (o : Option (List ℕ)). IsPlay (playing_in (unwrap_or o []) plain contract)) found play in
      legal_cards_few hands contract plain.cards (dealt_is_deal hands dealt.0 dealt.1) legal.legal

  cards_few : (contract : Option Contract) → contract_in plain ≡ contract → length plain.cards ≤ 52
  cards_few None none = let cards = (valid.unplayed none).cards in subst (λ (cs : List ℕ). length cs ≤ 52) (sym cards) (omega arith)
  cards_few (Some contract) bid = cards_few_in contract (deal_on s.deals plain.board) bid refl

  pub plain_fits : Fits (record_part Two plain)
  plain_fits = record_fits plain (legal_length plain.calls valid.calls) (cards_few (contract_in plain) refl)

-- the parts of a row
all_flat : {X Y : Type 0} (P : Y → Type 0) (f : X → List Y) (xs : List X) → All (λ x. All P (f x)) xs → All P (flat_map f xs)
all_flat P f [] all = All-nil P
all_flat P f (x ∷ xs) all =
    All-append P (f x) (flat_map f xs) (All-head (λ y. All P (f y)) x xs all) (all_flat P f xs (All-tail (λ y. All P (f y)) x xs all))

row_fits : (boards : ℕ) (records : List PlainRecord) → All (λ plain. Fits (record_part Two plain)) records → All Fits (row_parts Two boards records)
row_fits boards records all =
    All-map Fits (λ index. record_part Two (record_or_empty records index)) (range_with_len 0 boards)
    (λ k d within. at (get_or (range_with_len 0 boards) k d))
  where
    at : (index : ℕ) → Fits (record_part Two (record_or_empty records index))
    at index =
        elim (slice_get_cases records index).1 [
          | inl (plain, within, there, read) ↦
              let same : record_or_empty records index ≡ plain = ap (λ o. unwrap_or o (empty_record 0)) there in
              let here : Fits (record_part Two plain) = subst (λ (p : PlainRecord). Fits (record_part Two p)) read (all index plain within) in
              subst (λ (p : PlainRecord). Fits (record_part Two p)) (sym same) here
          | inr (past, none) ↦
              let same : record_or_empty records index ≡ empty_record 0 = ap (λ o. unwrap_or o (empty_record 0)) none in
              subst (λ (p : PlainRecord). Fits (record_part Two p)) (sym same) (omega arith)
        ]

-- all parts
module _ (s : SessionValue) (is : IsSession s) where
  rows_few : length s.configuration.movement.rows ≤ 144
  rows_few =
      let limits = is.valid.configured in
      omega (arith, limits.movement.complete.count, mul-le-mul limits.shape.rounds.1 limits.shape.tables.1)

  records_few : length s.records ≤ 144
  records_few =
      let long : length s.records ≡ length s.configuration.movement.rows
      = sym (length-map s.records (map board_of)) ∙ ap (λ (xs : List (List ℕ)). length xs) is.valid.of_boards
      ∙ length-map s.configuration.movement.rows (row_boards s.configuration.boards) in
      omega (arith, long, rows_few)

  plays_fit : All (λ records. All (λ plain. Fits (record_part Two plain)) records) s.records
  plays_fit row_index d within index e inside =
      let known = each_record s is.valid row_index d within index e inside in
      plain_fits s is (get_or (get_or s.records row_index d) index e) known.0 known.1

  pub parts_fit : All (λ part. length part ≤ 480) (parts_of Two s)
  parts_fit =
      let c : ConfigValue = s.configuration in
      let plays : All Fits (play_parts Two s)
      = all_flat Fits (row_parts Two c.boards) s.records (λ k records within. row_fits c.boards (get_or s.records k records) (plays_fit k records within)) in
      let boards : All Fits (board_parts Two s)
      = All-append Fits (map deal_part s.deals) (play_parts Two s)
      (All-map Fits deal_part s.deals (λ k deal within. deal_fits (get_or s.deals k deal) (is.ranges.deals k deal within))) plays in
      let pairs : All Fits (pair_parts Two s)
      = All-append Fits (map pair_part c.pairs) (board_parts Two s)
      (All-map Fits pair_part c.pairs (λ k pair within. pair_fits (get_or c.pairs k pair) (is.valid.configured.pairs k pair within))) boards in
      All-cons Fits (configuration_part c s.round) (movement_part c.movement.rows ∷ pair_parts Two s) (heading_fits c s.round is.valid.configured)
      (All-cons Fits (movement_part c.movement.rows) (pair_parts Two s) (movement_fits c.movement.rows rows_few) pairs)

  pub few_parts : length (parts_of Two s) ≤ 494
  few_parts =
      let limits = is.valid.configured in
      let boards = leb-true s.configuration.boards 3 (and_parts (nat_le 1 s.configuration.boards) (nat_le s.configuration.boards 3) limits.boards).1 in
      omega (
        arith,
        count_parts Two s,
        limits.count,
        limits.shape.pairs.1,
        is.valid.boards,
        mul-le-mul limits.shape.sets.1 boards,
        mul-le-mul records_few boards,
      )
