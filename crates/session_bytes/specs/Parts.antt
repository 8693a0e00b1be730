-- The parts of a session as they stand on a disk of either format: lists of bytes. Numbers of more bytes than one have the
-- highest first. The formats differ in the ruling alone.
use Rattle.std.specs.Prelude.{◌≡◌, ◌≢◌, ℕ, ◌+◌, Bool, true, false, if◌then◌else◌, List, [], ◌∷◌, ◌++◌, map, flat_map, length, slice_get, slice_index, slice_index_or, Option, Some, None, unwrap_or, IfSome, All}
use Rattle.std.specs.Int.{w16, w32, w64, to_be_bytes}
use Rattle.std.specs.List.{range_with_len}
use Rattle.std.specs.Option.{option_map_or}
use Rattle.bridge_cards.specs.declared.seat.Seat.TheVariants.{North, East, South, West}
use Rattle.bridge_cards.specs.Seat.{seat_number}
use Rattle.bridge_auction.specs.Call.{call_number}
use Rattle.bridge_movement.specs.declared.row.Row.{Row}
use Rattle.bridge_movement.specs.declared.shape.Shape.{Shape}
use Rattle.bridge_play.specs.declared.claim.Claim.{Claim}
use Rattle.bridge_play.specs.Claims.{has_agreed, all_agreed}
use Rattle.bridge_cards.specs.declared.scoring.Scoring.{Scoring}
use Rattle.bridge_cards.specs.declared.scoring.Scoring.TheVariants.{MatchPoints, Imps}
use Rattle.bridge_config.specs.ConfigValue.{ConfigValue, Pair}
use Rattle.session_rules.specs.declared.ruling.Ruling.{Ruling}
use Rattle.session_rules.specs.declared.ruling.Ruling.TheVariants as ruling
use Rattle.session_rules.specs.Average.{percent_of}
use Rattle.session_rules.specs.Record.{PlainRecord, empty_record, contract_in}
use Rattle.session_rules.specs.State.{SessionValue}
use Rattle.session_rules.specs.StateRange.{IsSession}
use Rattle.session_bytes.specs.AssignedBytes.{assigned_bytes}
use Rattle.session_store.specs.declared.disk_format.DiskFormat.{DiskFormat}
use Rattle.session_store.specs.declared.disk_format.DiskFormat.TheVariants.{One, Two}

-- a number of two bytes,
abbrev pub two_bytes : ℕ → List ℕ
two_bytes n = to_be_bytes w16 n

-- of four,
abbrev pub four_bytes : ℕ → List ℕ
four_bytes n = to_be_bytes w32 n

-- and of eight
abbrev pub eight_bytes : ℕ → List ℕ
eight_bytes n = to_be_bytes w64 n

-- a text: its length, and then its bytes
abbrev pub text_bytes : List ℕ → List ℕ
text_bytes text = length text ∷ text

-- the number of a scoring
abbrev pub scoring_number : Scoring → ℕ
scoring_number MatchPoints = 0
scoring_number Imps = 1

-- the numbers of boards in a set, tables, rounds, sets and pairs, and the last pair of the first field
abbrev pub size_bytes : ℕ → Shape → List ℕ
size_bytes boards shape = boards ∷ shape.tables ∷ shape.rounds ∷ shape.sets ∷ shape.pairs ∷ shape.split ∷ []

-- the configuration but for its movement's rows and its pairs, and the current round
abbrev pub configuration_part : ConfigValue → ℕ → List ℕ
configuration_part configuration round =
    text_bytes configuration.event ++ text_bytes configuration.site ++ configuration.date
    ++ scoring_number configuration.scoring ∷ []
    ++ size_bytes configuration.boards configuration.movement.shape ++ four_bytes configuration.director ++ round ∷ []

-- the pairs and the set of each row
abbrev pub row_bytes : Row → List ℕ
row_bytes row = row.ns ∷ row.ew ∷ row.set ∷ []

-- the movement: its rows
abbrev pub movement_part : List Row → List ℕ
movement_part rows = flat_map row_bytes rows

-- a player of a pair: the name and the key
abbrev pub player_bytes : Pair → ℕ → List ℕ
player_bytes pair row_index = text_bytes (slice_index_or pair.names row_index []) ++ four_bytes (slice_index pair.keys row_index)

-- a pair: its two players
abbrev pub pair_part : Pair → List ℕ
pair_part pair = player_bytes pair 0 ++ player_bytes pair 1

-- a board: 0, or 1 and the four hands
abbrev pub deal_part : Option (List ℕ) → List ℕ
deal_part None = 0 ∷ []
deal_part (Some hands) = 1 ∷ flat_map eight_bytes hands

-- a value where a test holds, and otherwise 0
abbrev pub value_if : Bool → ℕ → ℕ
value_if true value = value
value_if false value = 0

-- who has agreed, in a bit for each seat
abbrev pub agreed_byte : Claim → ℕ
agreed_byte claim =
    value_if (has_agreed claim North) 1 + value_if (has_agreed claim East) 2 + value_if (has_agreed claim South) 4
    + value_if (has_agreed claim West) 8

-- there is a claim, and all have agreed whom it asks in the contract of the calls
abbrev pub is_agreed_in : PlainRecord → Bool
is_agreed_in plain =
    option_map_or (λ contract. option_map_or (λ claim. all_agreed contract claim) plain.claim false) (contract_in plain) false

-- a claim, which is agreed or not: 0 where there is none; 1 where it stands and 2 where it is agreed, then who claims, the
-- tricks, and who has agreed
abbrev pub claim_bytes : Bool → Option Claim → List ℕ
claim_bytes agreed None = 0 ∷ []
claim_bytes agreed (Some claim) = (if agreed then 2 else 1) ∷ seat_number claim.claimer ∷ claim.tricks ∷ agreed_byte claim ∷ []

-- the format has the ruling: the first has no averages and no assigned scores
abbrev pub HasRuling : DiskFormat → Ruling → Type 0
HasRuling One (ruling.Adjusted ns ew) = ⊥
HasRuling One (ruling.Assigned contract tricks) = ⊥
HasRuling _ _ = Unit {0}

-- a ruling: 0 where there is none, 1 and the tricks, 2 where the play is void, 3 and the averages of both sides in per cent, or 4
-- and the two bytes of an assigned score; in the second format zeros fill it up to three bytes
abbrev pub ruling_bytes : DiskFormat → Option Ruling → List ℕ
ruling_bytes One None = 0 ∷ []
ruling_bytes One (Some (ruling.Tricks tricks)) = 1 ∷ tricks ∷ []
ruling_bytes One (Some ruling.Void) = 2 ∷ []
ruling_bytes One (Some (ruling.Adjusted ns ew)) = []
ruling_bytes One (Some (ruling.Assigned contract tricks)) = []
ruling_bytes Two None = 0 ∷ 0 ∷ 0 ∷ []
ruling_bytes Two (Some (ruling.Tricks tricks)) = 1 ∷ tricks ∷ 0 ∷ []
ruling_bytes Two (Some ruling.Void) = 2 ∷ 0 ∷ 0 ∷ []
ruling_bytes Two (Some (ruling.Adjusted ns ew)) = 3 ∷ percent_of ns ∷ percent_of ew ∷ []
ruling_bytes Two (Some (ruling.Assigned contract tricks)) = 4 ∷ assigned_bytes contract tricks

-- the calls, the cards, how many claims were made, the claim and the ruling
abbrev pub record_part : DiskFormat → PlainRecord → List ℕ
record_part format plain =
    two_bytes (length plain.calls) ++ map call_number plain.calls ++ text_bytes plain.cards ++ plain.claims ∷ []
    ++ claim_bytes (is_agreed_in plain) plain.claim ++ ruling_bytes format plain.ruling

-- the format has the record's ruling
abbrev pub HasRecord : DiskFormat → PlainRecord → Type 0
HasRecord format plain = IfSome plain.ruling (HasRuling format)

-- the format has each ruling of a session
abbrev pub HasRulings : DiskFormat → SessionValue → Type 0
HasRulings format s = All (All (HasRecord format)) s.records

-- the record at an index of a row, or one in which nothing has happened where there is none
abbrev pub record_or_empty : List PlainRecord → ℕ → PlainRecord
record_or_empty records index = unwrap_or (slice_get records index) (empty_record 0)

-- a part for each board of a set, whether the row is live or not
abbrev pub row_parts : DiskFormat → ℕ → List PlainRecord → List (List ℕ)
row_parts format boards records = map (λ index. record_part format (record_or_empty records index)) (range_with_len 0 boards)

-- the plays, by round, then by table, then by the board's place in its set
abbrev pub play_parts : DiskFormat → SessionValue → List (List ℕ)
play_parts format s = flat_map (row_parts format s.configuration.boards) s.records

-- the boards, and then the plays
abbrev pub board_parts : DiskFormat → SessionValue → List (List ℕ)
board_parts format s = map deal_part s.deals ++ play_parts format s

-- the pairs, and then the rest
abbrev pub pair_parts : DiskFormat → SessionValue → List (List ℕ)
pair_parts format s = map pair_part s.configuration.pairs ++ board_parts format s

-- The parts of a session on a disk of that format: the configuration and the round, the movement, the pairs, the boards, the
-- plays.
abbrev pub parts_of : DiskFormat → SessionValue → List (List ℕ)
parts_of format s = configuration_part s.configuration s.round ∷ movement_part s.configuration.movement.rows ∷ pair_parts format s

-- the parts of the boards and plays are those of no session of the configuration in that round
abbrev pub AreOfNoSession : DiskFormat → ConfigValue → ℕ → List (List ℕ) → Type 0
AreOfNoSession format configuration round parts =
    (s : SessionValue) → IsSession s → HasRulings format s → s.configuration ≡ configuration → s.round ≡ round → board_parts format s ≢ parts
