-- Whether a state is that of a session.
use Rattle.std.proofs.Common.{◌≡◌, ◌+◌, ◌*◌, ◌^◌, ℕ, List, map, length, slice_get, Some, All, inl}
use Rattle.std.specs.List.{list_all}
use Rattle.bridge_cards.specs.CardSet.{IsCardSet}
use Rattle.bridge_cards.specs.Deal.{is_dealt_out}
use Rattle.bridge_config.specs.ConfigValue.{ConfigValue, Pair, keys_of}
use Rattle.bridge_config.specs.Limits.{is_name, is_date_form, is_date_within, is_between, are_distinct, IsKeyNumber, AreKeys, IsPair, IsConfiguration}
use Rattle.bridge_movement.specs.declared.row.Row.{Row}
use Rattle.session_rules.specs.declared.ruling.Ruling.{Ruling}
use Rattle.session_rules.specs.declared.ruling.Ruling.TheVariants as ruling
use Rattle.session_rules.specs.Record.{PlainRecord}
use Rattle.session_rules.specs.State.{SessionValue, row_at, row_boards}
use Rattle.session_rules.specs.Valid.{IsDealtOut, IsDealOrNone, board_of, IsValidRecord, IsValid}
use Rattle.session_rules.specs.StateRange.{AreHands, AreHandsOrNone, IsOfFourSeats, IsRulingInRange, IsRecordInRange, IsStateInRange, IsSession}
use Rattle.session_rules.proofs.Decided.{Decided, decided_like, decided_both, decided_equal, decided_less, decided_most, decided_true, decided_lists, decided_found, decided_all, decided_indexes}
use Rattle.session_rules.proofs.MovementDecided.{decided_shape, decided_movement}
use Rattle.session_rules.proofs.RecordDecided.{decided_record}

-- whether a pair is two players
decided_pair : (pair : Pair) → Decided (IsPair pair)
decided_pair pair =
    decided_like
    (decided_both (decided_equal (length pair.names) 2)
    (decided_both (decided_equal (length pair.keys) 2) (decided_true (list_all is_name pair.names))))
    (λ all. record { two_names = all.0; two_keys = all.1.0; names = all.1.1 })
    (λ is. (is.two_names, (is.two_keys, is.names)))

decided_keys : (keys : List ℕ) → Decided (AreKeys keys)
decided_keys keys =
    decided_like (decided_both (decided_all IsKeyNumber (λ key. decided_most key 4294967295) keys) (decided_true (are_distinct keys)))
    (λ both. record { numbers = both.0; distinct = both.1 }) (λ are. (are.numbers, are.distinct))

-- whether a configuration is within its limits
decided_configuration : (configuration : ConfigValue) → Decided (IsConfiguration configuration)
decided_configuration configuration =
    decided_like
    (decided_both (decided_true (is_name configuration.event))
    (decided_both (decided_true (is_name configuration.site))
    (decided_both (decided_true (is_date_form configuration.date))
    (decided_both (decided_true (is_date_within configuration.date))
    (decided_both (decided_true (is_between 1 3 configuration.boards))
    (decided_both (decided_shape configuration.movement.shape)
    (decided_both (decided_movement configuration.movement.shape configuration.movement.rows)
    (decided_both (decided_equal (length configuration.pairs) configuration.movement.shape.pairs)
    (decided_both (decided_all IsPair decided_pair configuration.pairs)
    (decided_keys (keys_of configuration)))))))))))
    (λ all. record {
      event = all.0;
      site = all.1.0;
      date_form = all.1.1.0;
      date_within = all.1.1.1.0;
      boards = all.1.1.1.1.0;
      shape = all.1.1.1.1.1.0;
      movement = all.1.1.1.1.1.1.0;
      count = all.1.1.1.1.1.1.1.0;
      pairs = all.1.1.1.1.1.1.1.1.0;
      keys = all.1.1.1.1.1.1.1.1.1;
    })
    (λ is. (
      is.event,
      (is.site, (is.date_form, (is.date_within, (is.boards, (is.shape, (is.movement, (is.count, (is.pairs, is.keys)))))))),
    ))

-- the records of the row at an index are valid
abbrev AreValid : SessionValue → ℕ → Row → Type 0
AreValid s row_index row =
    (index : ℕ) (plain : PlainRecord) → slice_get (row_at s.records row_index) index ≡ Some plain → IsValidRecord s.configuration.scoring s.deals s.round row.round plain

-- whether they are
decided_plays : (s : SessionValue) (row_index : ℕ) (row : Row) → Decided (AreValid s row_index row)
decided_plays s row_index row =
    decided_indexes (λ index plain. IsValidRecord s.configuration.scoring s.deals s.round row.round plain)
    (λ index plain. decided_record s.configuration.scoring s.deals s.round row.round plain) (row_at s.records row_index)

-- whether a state is valid
decided_valid : (s : SessionValue) → Decided (IsValid s)
decided_valid s =
    decided_like
    (decided_both (decided_configuration s.configuration)
    (decided_both (decided_most 1 s.round)
    (decided_both (decided_most s.round (s.configuration.movement.shape.rounds + 1))
    (decided_both (decided_equal (length s.deals) (s.configuration.movement.shape.sets * s.configuration.boards))
    (decided_both (decided_all IsDealOrNone (decided_found IsDealtOut (λ hands. decided_true (is_dealt_out hands))) s.deals)
    (decided_both (decided_lists (decided_lists decided_equal) (map (map board_of) s.records) (map (row_boards s.configuration.boards) s.configuration.movement.rows))
    (decided_indexes (AreValid s) (decided_plays s) s.configuration.movement.rows)))))))
    (λ all. record {
      configured = all.0;
      begun = all.1.0;
      ends = all.1.1.0;
      boards = all.1.1.1.0;
      deals = all.1.1.1.1.0;
      of_boards = all.1.1.1.1.1.0;
      plays = λ row_index index row plain is found. all.1.1.1.1.1.1 row_index row is index plain found;
    })
    (λ is. (
      is.configured,
      (
        is.begun,
        (is.ends, (is.boards, (is.deals, (is.of_boards, λ row_index row there index plain found. is.plays row_index index row plain there found)))),
      ),
    ))

-- whether hands are four sets of cards
decided_hands : (hands : List ℕ) → Decided (AreHands hands)
decided_hands hands = decided_both (decided_equal (length hands) 4) (decided_all IsCardSet (λ hand. decided_less hand (2 ^ 52)) hands)

-- whether a ruling is within its range
decided_ruling : (made : Ruling) → Decided (IsRulingInRange made)
decided_ruling (ruling.Tricks tricks) = decided_most tricks 13
decided_ruling ruling.Void = inl tt
decided_ruling (ruling.Adjusted ns ew) = inl tt
decided_ruling (ruling.Assigned contract tricks) =
    decided_both (decided_both (decided_most 1 contract.bid.level) (decided_most contract.bid.level 7)) (decided_most tricks 13)

-- whether a record is within its ranges
decided_record_range : (plain : PlainRecord) → Decided (IsRecordInRange plain)
decided_record_range plain =
    decided_like
    (decided_both (decided_found IsOfFourSeats (λ claim. decided_equal (length claim.agreed) 4) plain.claim)
    (decided_found IsRulingInRange decided_ruling plain.ruling))
    (λ both. record { claim = both.0; ruling = both.1 }) (λ is. (is.claim, is.ruling))

-- whether a state is within its ranges
decided_ranges : (s : SessionValue) → Decided (IsStateInRange s)
decided_ranges s =
    decided_like
    (decided_both (decided_all AreHandsOrNone (decided_found AreHands decided_hands) s.deals)
    (decided_all (All IsRecordInRange) (decided_all IsRecordInRange decided_record_range) s.records))
    (λ both. record { deals = both.0; records = both.1 }) (λ is. (is.deals, is.records))

-- whether a state is that of a session
pub decided_session : (s : SessionValue) → Decided (IsSession s)
decided_session s =
    decided_like (decided_both (decided_valid s) (decided_ranges s)) (λ both. record { valid = both.0; ranges = both.1 })
    (λ is. (is.valid, is.ranges))

-- whether parts are the same, byte by byte
pub decided_parts : (one other : List (List ℕ)) → Decided (one ≡ other)
decided_parts = decided_lists (decided_lists decided_equal)
