-- Reading the parts of plays, deals and rows from left to right: a value, and the bytes behind it.
use Rattle.std.specs.Prelude.{◌≡◌, ℕ, ◌≤◌, ◌==◌, nat_lt, nat_le, Bool, true, false, not, ◌&&◌, ◌||◌, if◌then◌else◌, map, List, [], ◌∷◌, ◌++◌, length, take, drop, Option, Some, None, is_some, IfSome, option_and_then, slice_get, All, ◌≢◌, flat_map}
use Rattle.std.specs.List.{list_all}
use Rattle.std.specs.Global.{Vec}
use Rattle.arrayvec.specs.ArrayVec.{ArrayVec}
use Rattle.std.specs.Int.{w16, from_be_bytes}
use Rattle.std.specs.Option.{option_map, option_map_or}
use Rattle.bridge_cards.specs.Deal.{is_dealt_out}
use Rattle.bridge_auction.specs.declared.call.Call.{Call}
use Rattle.bridge_auction.specs.Call.{call_number}
use Rattle.bridge_movement.specs.declared.row.Row.{Row}
use Rattle.bridge_play.specs.declared.claim.Claim.{Claim}
use Rattle.bridge_play.specs.Play.{PlayValue, IsPlay, is_over}
use Rattle.bridge_cards.specs.declared.scoring.Scoring.{Scoring}
use Rattle.bridge_cards.specs.declared.scoring.Scoring.TheVariants.{MatchPoints, Imps}
use Rattle.bridge_table.specs.declared.record.Record.{Record}
use Rattle.session_bytes.specs.declared.record_fields.RecordFields.{RecordFields}
use Rattle.session_rules.specs.declared.ruling.Ruling.{Ruling}
use Rattle.session_rules.specs.declared.ruling.Ruling.TheVariants as ruling
use Rattle.session_bytes.specs.ActionBytes.{hands_in}
use Rattle.session_bytes.specs.AssignedBytes.{assigned_contract, assigned_tricks}
use Rattle.session_bytes.specs.ClaimRead.{claim_at}
use Rattle.session_rules.specs.Average.{average_of}
use Rattle.session_rules.specs.Record.{PlainRecord, contract_in, play_of}
use Rattle.session_rules.specs.State.{Deals, row_boards}
use Rattle.bridge_table.specs.Kept.{plain_of, is_kept_open, IsTiedIn}
use Rattle.session_store.specs.declared.disk_format.DiskFormat.{DiskFormat}
use Rattle.session_store.specs.declared.disk_format.DiskFormat.TheVariants.{One, Two}
use Rattle.session_bytes.specs.Parts.{two_bytes, text_bytes, claim_bytes, HasRuling, HasRecord, ruling_bytes, is_agreed_in, record_part, row_parts}
use Rattle.session_rules.specs.StateRange.{AreHandsOrNone, IsOfFourSeats, IsRulingInRange, IsRecordInRange}
use Rattle.session_rules.specs.Valid.{board_of, IsDealOrNone, IsUnplayed, IsValidRecord}

-- what the part of a play says: the calls and the cards by their numbers, how many claims were made, the claim, whether it
-- is marked as agreed, and the ruling
pub record Fields : Type 0 where
  pub calls : List ℕ
  pub cards : List ℕ
  pub claims : ℕ
  pub claim : Option Claim
  pub agreed : Bool
  pub ruling : Option Ruling

-- what the code keeps of them
abbrev pub fields_in : RecordFields → Fields
fields_in fields = record {
  calls = fields.calls.now;
  cards = fields.cards.now;
  claims = fields.claims;
  claim = fields.claim;
  agreed = fields.agreed;
  ruling = fields.ruling;
}

-- what the part of a record says
abbrev pub fields_of : PlainRecord → Fields
fields_of plain = record {
  calls = map call_number plain.calls;
  cards = plain.cards;
  claims = plain.claims;
  claim = plain.claim;
  agreed = is_agreed_in plain;
  ruling = plain.ruling;
}

-- so many bytes, and those behind them
abbrev pub bytes_at : ℕ → List ℕ → Option (List ℕ × List ℕ)
bytes_at count bytes = if nat_lt (length bytes) count then None else Some (take count bytes, drop count bytes)

-- the calls: how many in two bytes, and then their numbers
abbrev pub calls_at : List ℕ → Option (List ℕ × List ℕ)
calls_at (high ∷ low ∷ rest) = bytes_at (from_be_bytes w16 (high ∷ low ∷ [])) rest
calls_at _ = None

-- the cards: how many in one byte, and then their numbers
abbrev pub cards_at : List ℕ → Option (List ℕ × List ℕ)
cards_at [] = None
cards_at (count ∷ rest) = bytes_at count rest

-- the ruling of so many tricks, or none where these are too many
abbrev pub tricks_ruling : ℕ → Option (Option Ruling)
tricks_ruling tricks = if nat_le tricks 13 then Some (Some (ruling.Tricks tricks)) else None

-- the ruling that the first format has: a kind, and the tricks where it is one of tricks
abbrev pub short_ruling_at : List ℕ → Option (Option Ruling)
short_ruling_at (kind ∷ []) = if kind == 0 then Some None else if kind == 2 then Some (Some ruling.Void) else None
short_ruling_at (kind ∷ tricks ∷ []) = if kind == 1 then tricks_ruling tricks else None
short_ruling_at _ = None

-- the ruling, or none, if the two numbers that it has no use for are zeros
abbrev pub if_zeros : ℕ → ℕ → Option Ruling → Option (Option Ruling)
if_zeros first second made = if first == 0 && second == 0 then Some made else None

-- the averages of these numbers
abbrev pub adjusted_by : ℕ → ℕ → Option (Option Ruling)
adjusted_by ns ew = option_and_then (λ n. option_map (λ e. Some (ruling.Adjusted n e)) (average_of ew)) (average_of ns)

-- the assigned score of these numbers
abbrev pub assigned_by : ℕ → ℕ → Option (Option Ruling)
assigned_by first second =
    option_map (λ contract. Some (ruling.Assigned contract (assigned_tricks second))) (assigned_contract first second)

-- the ruling of a kind and two numbers
abbrev pub long_ruling_by : ℕ → ℕ → ℕ → Option (Option Ruling)
long_ruling_by kind first second =
    if kind == 0 then if_zeros first second None
    else if kind == 1 then (if second == 0 then tricks_ruling first else None)
    else if kind == 2 then if_zeros first second (Some ruling.Void)
    else if kind == 3 then adjusted_by first second
    else if kind == 4 then assigned_by first second else None

-- the ruling that the second format has: a kind and two numbers always
abbrev pub long_ruling_at : List ℕ → Option (Option Ruling)
long_ruling_at (kind ∷ first ∷ second ∷ []) = long_ruling_by kind first second
long_ruling_at _ = None

-- the ruling, if there is one, behind which no byte is left
abbrev pub ruling_at : DiskFormat → List ℕ → Option (Option Ruling)
ruling_at One bytes = short_ruling_at bytes
ruling_at Two bytes = long_ruling_at bytes

-- the fields behind the calls and the cards
abbrev pub claims_at : DiskFormat → List ℕ → List ℕ → List ℕ → Option Fields
claims_at format calls cards [] = None
claims_at format calls cards (claims ∷ rest) =
    option_and_then (λ (both : Option Claim × Bool × List ℕ). option_map (λ (ruling : Option Ruling). record {
      calls = calls;
      cards = cards;
      claims = claims;
      claim = both.0;
      agreed = both.1;
      ruling = ruling;
    }) (ruling_at format both.2)) (claim_at rest)

-- the fields of a part
abbrev pub fields_at : DiskFormat → List ℕ → Option Fields
fields_at format bytes =
    option_and_then (λ (calls : List ℕ × List ℕ). option_and_then (λ (cards : List ℕ × List ℕ). claims_at format calls.0 cards.0 cards.1)
    (cards_at calls.1)) (calls_at bytes)

-- the deal of the four hands of these bytes, if they are one
abbrev pub dealt_at : List ℕ → Option (Option (List ℕ))
dealt_at bytes = option_and_then (λ hands. if is_dealt_out hands then Some (Some hands) else None) (hands_in bytes)

-- the deal of a part, or none where the board is not dealt
abbrev pub deal_at : List ℕ → Option (Option (List ℕ))
deal_at [] = None
deal_at (kind ∷ []) = if kind == 0 then Some None else if kind == 1 then dealt_at [] else None
deal_at (kind ∷ byte ∷ rest) = if kind == 1 then dealt_at (byte ∷ rest) else None

-- Which records these are

-- a call that is there
abbrev pub some_call : Call → Option Call
some_call call = Some call

-- what the fields say of a play of that board with those calls
abbrev pub plain_from : ℕ → List Call → Fields → PlainRecord
plain_from board calls fields = record {
  board = board;
  calls = calls;
  cards = fields.cards;
  claims = fields.claims;
  claim = fields.claim;
  ruling = fields.ruling;
}

-- the part that says so
abbrev pub fields_part : DiskFormat → Fields → List ℕ
fields_part format fields =
    two_bytes (length fields.calls) ++ fields.calls ++ text_bytes fields.cards ++ fields.claims ∷ []
    ++ claim_bytes fields.agreed fields.claim ++ ruling_bytes format fields.ruling

-- the fields of a part: there are no more calls or cards than bytes, each seat has agreed to the claim or not, and a ruling
-- is of 0 to 13 tricks and one that the format has
pub record AreFieldsOf (format : DiskFormat) (part : List ℕ) (fields : Fields) : Type 0 where
  pub bytes : fields_part format fields ≡ part
  pub few_calls : length fields.calls ≤ length part
  pub few_cards : length fields.cards ≤ length part
  pub answers : IfSome fields.claim IsOfFourSeats
  pub ruled : IfSome fields.ruling IsRulingInRange
  pub of_format : IfSome fields.ruling (HasRuling format)

-- the cards and the claims are those of a play by the rules where the calls made a contract, and otherwise nothing was played
pub record IsPlayed (hands : List ℕ) (plain : PlainRecord) : Type 0 where
  pub unplayed : contract_in plain ≡ None → IsUnplayed plain
  pub play : IfSome (play_of hands plain) IsPlay

-- the scoring is by matchpoints
abbrev pub is_by_matchpoints : Scoring → Bool
is_by_matchpoints MatchPoints = true
is_by_matchpoints Imps = false

-- a ruling of tricks stands only where the play is over, and one of averages where the scoring is by matchpoints
abbrev pub may_stand : Scoring → Option PlayValue → Option Ruling → Bool
may_stand scoring play None = true
may_stand scoring play (Some (ruling.Tricks tricks)) = option_map_or is_over play false
may_stand scoring play (Some ruling.Void) = true
may_stand scoring play (Some (ruling.Assigned contract tricks)) = true
may_stand scoring play (Some (ruling.Adjusted ns ew)) = is_by_matchpoints scoring

-- no call was made in a play, no claim was, and no ruling stands
abbrev pub is_untouched : Record → Bool
is_untouched kept = length kept.auction.calls == 0 && (kept.claims == 0 && not (is_some kept.ruling))

-- the ruling may stand, in a later round than the current one nothing has happened, and in an earlier one the play is not open
abbrev pub is_in_place : Scoring → ℕ → ℕ → Record → Bool
is_in_place scoring now round kept =
    may_stand scoring kept.play kept.ruling && ((nat_le round now || is_untouched kept)
    && (nat_le now round || not (is_kept_open kept)))

-- a record that was read: of the board, of those bytes, valid, within its ranges and those of the format, and tied to the deal of
-- its board
pub record IsReadFrom (format : DiskFormat) (scoring : Scoring) (deals : Deals) (now round board : ℕ) (part : List ℕ) (kept : Record) : Type 0 where
  pub board_is : kept.board ≡ board
  pub bytes : record_part format (plain_of kept) ≡ part
  pub valid : IsValidRecord scoring deals now round (plain_of kept)
  pub in_range : IsRecordInRange (plain_of kept)
  pub of_format : HasRecord format (plain_of kept)
  pub tied : IsTiedIn deals kept

-- no record of the board that is valid, and within its ranges and those of the format, has that part
abbrev pub IsOfNoRecord : DiskFormat → Scoring → Deals → ℕ → ℕ → ℕ → List ℕ → Type 0
IsOfNoRecord format scoring deals now round board part =
    (plain : PlainRecord) → plain.board ≡ board → IsValidRecord scoring deals now round plain → IsRecordInRange plain → HasRecord format plain →
    record_part format plain ≢ part

-- The parts of all boards and all plays

-- the bytes of a part that the code keeps
abbrev pub items_of : ArrayVec ℕ → List ℕ
items_of part = part.items

-- the part of a record that the code keeps
abbrev pub part_kept : DiskFormat → Record → List ℕ
part_kept format kept = record_part format (plain_of kept)

-- the records of a table, as contracts see them
abbrev pub plains_of : Vec Record → List PlainRecord
plains_of table = map plain_of table.items

-- each is a deal of four hands, or none
pub record AreDeals (deals : Deals) : Type 0 where
  pub dealt : All IsDealOrNone deals
  pub hands : All AreHandsOrNone deals

-- records of a round, of those boards, valid, and within their ranges and those of the format
pub record AreRecords (format : DiskFormat) (scoring : Scoring) (deals : Deals) (now round : ℕ) (boards : List ℕ) (records : List PlainRecord) : Type 0 where
  pub boards_are : map board_of records ≡ boards
  pub valid : All (IsValidRecord scoring deals now round) records
  pub in_range : All IsRecordInRange records
  pub of_format : All (HasRecord format) records

-- the parts are those of no such records
abbrev pub AreOfNoRecords : DiskFormat → Scoring → Deals → ℕ → ℕ → List ℕ → List (List ℕ) → Type 0
AreOfNoRecords format scoring deals now round boards parts =
    (records : List PlainRecord) → AreRecords format scoring deals now round boards records → map (record_part format) records ≢ parts

-- the records of the boards of a row
abbrev pub IsRowOf : DiskFormat → Scoring → Deals → ℕ → ℕ → Row → List PlainRecord → Type 0
IsRowOf format scoring deals now boards row records = AreRecords format scoring deals now row.round (row_boards boards row) records

-- the records of all rows
pub record AreRows (format : DiskFormat) (scoring : Scoring) (deals : Deals) (now boards : ℕ) (rows : List Row) (records : List (List PlainRecord)) : Type 0 where
  pub count : length records ≡ length rows
  pub each : (index : ℕ) (row : Row) (own : List PlainRecord) → slice_get rows index ≡ Some row → slice_get records index ≡ Some own →
      IsRowOf format scoring deals now boards row own

-- no records of all rows have those parts
abbrev pub AreOfNoRows : DiskFormat → Scoring → Deals → ℕ → ℕ → List Row → List (List ℕ) → Type 0
AreOfNoRows format scoring deals now boards rows parts =
    (records : List (List PlainRecord)) → AreRows format scoring deals now boards rows records → flat_map (row_parts format boards) records ≢ parts

-- how many zeros are the part of a play in which nothing has happened
abbrev pub empty_length : DiskFormat → ℕ
empty_length One = 6
empty_length Two = 8

-- the part of such a play
abbrev pub is_empty_part : DiskFormat → List ℕ → Bool
is_empty_part format bytes = length bytes == empty_length format && list_all (λ byte. byte == 0) bytes
