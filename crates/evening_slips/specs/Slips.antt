-- Slips to cut out: one for the director, and one for each player.
use Rattle.std.specs.Prelude.{ℕ, ◌≤◌, ◌-◌, Bool, true, false, if◌then◌else◌, List, [], ◌∷◌, ◌++◌, codes, length, flat_map, slice_get, slice_index_or, slice_range, Option, None, Some, IfSome}
use Rattle.std.specs.Borrow.{Bor}
use Rattle.std.specs.Fmt.{decimal}
use Rattle.std.specs.List.{range_with_len}
use Rattle.std.specs.Option.{option_map_or}
use Rattle.bridge_cards.specs.declared.seat.Side.{Side}
use Rattle.bridge_cards.specs.declared.seat.Side.TheVariants.{NorthSouth, EastWest}
use Rattle.bridge_config.specs.ConfigValue.{ConfigValue, Pair}
use Rattle.bridge_movement.specs.Seating.{place_of}
use Rattle.bridge_movement.specs.declared.place.Place.{Place}
use Rattle.evening_draft.specs.ShownNames.{shown_name}
use Rattle.evening_draft.specs.declared.wishes.PairNames.{PairNames}
use Rattle.evening_slips.specs.declared.sheet.SlipSheet.{SlipSheet}
use Rattle.evening_slips.specs.declared.style.TheConstants.{SLIPS_START}
use Rattle.page_layout.specs.Page.{heading_text, paragraph_text, page_end, section_end}
use Rattle.page_layout.specs.declared.format.Format.{Format}
use Rattle.page_layout.specs.declared.format.Format.TheVariants.{Plain, Html}
use Rattle.page_layout.specs.declared.format.Level.TheVariants.{Sheet, Part}

-- the key of the first or the second player of the pair of that number, from 1; 0 where there is no such pair
abbrev pub player_key : List Pair → ℕ → Bool → ℕ
player_key pairs pair first =
    option_map_or (λ (found : Pair). slice_index_or found.keys (if first then 0 else 1) 0) (slice_get pairs (pair - 1)) 0

-- where the first or the second player of a pair on that side sits
abbrev pub seat_name : Side → Bool → List ℕ
seat_name NorthSouth first = if first then codes "North" else codes "South"
seat_name EastWest first = if first then codes "East" else codes "West"

-- the table and the seat at which a player begins
abbrev pub place_words : Bool → Option Place → List ℕ
place_words first None = codes "Sits out in round 1"
place_words first (Some place) = ((codes "Table " ++ decimal place.table) ++ codes ", ") ++ seat_name place.side first

-- the number of a pair
abbrev pub pair_words : ℕ → List ℕ
pair_words pair = codes "Pair " ++ decimal pair

-- digits, and behind a blank a further group of them; the first group stands alone
abbrev pub with_group : List ℕ → List ℕ → List ℕ
with_group [] group = group
with_group (digit ∷ digits) group = ((digit ∷ digits) ++ codes " ") ++ group

-- at most twelve digits in groups of three, counted from the last, with blanks between
unfoldable pub in_threes : List ℕ → List ℕ
in_threes digits = let count = length digits in
    with_group (with_group (with_group (slice_range digits 0 (count - 9)) (slice_range digits (count - 9) (count - 6)))
    (slice_range digits (count - 6) (count - 3))) (slice_range digits (count - 3) count)

-- a key, its digits in threes
unfoldable pub key_words : ℕ → List ℕ
key_words key = codes "Key " ++ in_threes (decimal key)

-- where the pages are, if that is known
abbrev pub address_text : Format → Option (Bor (List ℕ)) → List ℕ
address_text format None = []
address_text format (Some address) = paragraph_text format address.now

-- what begins a slip: in plain text a line to cut along
abbrev pub slip_start : Format → List ℕ
slip_start Plain = codes "- - - - - - - - - - - - - - - - - - - - - - - -\n"
slip_start Html = codes "<section class=\"slip\">\n"

-- whose slip it is
unfoldable pub slip_head : Format → List ℕ → List ℕ
slip_head format name = slip_start format ++ heading_text format Sheet name

-- the key, and where the pages are
unfoldable pub slip_tail : SlipSheet → ℕ → List ℕ
slip_tail sheet key =
    (heading_text sheet.format Part (key_words key) ++ address_text sheet.format sheet.address) ++ section_end sheet.format

-- a player's slip
unfoldable pub slip_text : SlipSheet → List ℕ → ℕ → List ℕ → ℕ → List ℕ
slip_text sheet name pair place key =
    ((slip_head sheet.format name ++ paragraph_text sheet.format (pair_words pair)) ++ paragraph_text sheet.format place)
    ++ slip_tail sheet key

-- the director's slip
unfoldable pub director_text : SlipSheet → ℕ → List ℕ
director_text sheet key = slip_head sheet.format (codes "Director") ++ slip_tail sheet key

module _ (sheet : SlipSheet) (configuration : ConfigValue) (names : Option (Bor (List PairNames))) where
  -- the slip of the first or the second player of a pair: its name, its number, where it begins, and its key
  unfoldable pub player_text : ℕ → Bool → List ℕ
  player_text pair first =
      slip_text sheet (shown_name names configuration.pairs pair first) pair
      (place_words first (place_of configuration.movement.rows 1 pair)) (player_key configuration.pairs pair first)

  -- both slips of a pair
  unfoldable pub pair_text : ℕ → List ℕ
  pair_text pair = player_text pair true ++ player_text pair false

  -- the slips of the pairs, by number
  unfoldable pub pairs_text : List ℕ
  pairs_text = flat_map pair_text (range_with_len 1 configuration.movement.shape.pairs)

-- what begins a page of slips
abbrev pub slips_start : Format → List ℕ
slips_start Plain = []
slips_start Html = SLIPS_START.now

-- The page of slips: the director's, and those of the pairs by number.
unfoldable pub slips_text : SlipSheet → ConfigValue → Option (Bor (List PairNames)) → List ℕ
slips_text sheet configuration names =
    slips_start sheet.format
    ++ (director_text sheet configuration.director ++ (pairs_text sheet configuration names ++ page_end sheet.format))

-- an address is of at most 100 bytes
abbrev pub HasAddress : SlipSheet → Type 0
HasAddress sheet = IfSome sheet.address (λ address. length address.now ≤ 100)
