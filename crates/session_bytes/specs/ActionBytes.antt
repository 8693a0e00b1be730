-- The bytes of an action, and the action of such bytes. Numbers of more than one byte are big-endian. The first
-- format has no averages and no assigned scores, and nothing is taken back in it but rulings.
use Rattle.std.specs.Prelude.{◌==◌, ◌&&◌, nat_le, ℕ, List, [], ◌∷◌, ◌++◌, flat_map, length, take, drop, if◌then◌else◌, Option, Some, None, option_map, option_and_then}
use Rattle.std.specs.Int.{w16, w32, w64, to_be_bytes, from_be_bytes}
use Rattle.bridge_auction.specs.Call.{call_number, call_at}
use Rattle.bridge_config.specs.declared.fields.Key.{Key}
use Rattle.session_rules.specs.declared.act.Act.{Act}
use Rattle.session_rules.specs.declared.act.Act.TheVariants as act
use Rattle.session_rules.specs.declared.action.Action.{Action}
use Rattle.session_rules.specs.declared.action.Action.TheVariants.{Deal, Undeal, Back, NextRound}
use Rattle.session_rules.specs.declared.action.PlayId.{PlayId}
use Rattle.session_rules.specs.declared.correction.Correction.{Correction}
use Rattle.session_rules.specs.declared.correction.Correction.TheVariants as correction
use Rattle.session_rules.specs.declared.deed.Deed.{Deed}
use Rattle.session_rules.specs.declared.deed.Deed.TheVariants as deed
use Rattle.session_rules.specs.Act.{act_of, of_player, of_ruling}
use Rattle.session_rules.specs.Average.{percent_of, average_of}
use Rattle.session_bytes.specs.AssignedBytes.{assigned_bytes, assigned_contract, assigned_tricks}
use Rattle.session_store.specs.declared.disk_format.DiskFormat.{DiskFormat}
use Rattle.session_store.specs.declared.disk_format.DiskFormat.TheVariants.{One, Two}

-- every action begins with its kind and the key
abbrev pub headed : ℕ → ℕ → List ℕ → List ℕ
headed kind key rest = kind ∷ to_be_bytes w32 key ++ rest

-- a player's goes on with the board, and with how many calls, cards or claims were made before
abbrev pub turn_bytes : ℕ → ℕ → List ℕ → List ℕ
turn_bytes board at rest = board ∷ to_be_bytes w16 at ++ rest

-- a ruling goes on with the play
abbrev pub play_bytes : PlayId → List ℕ → List ℕ
play_bytes play rest = play.round ∷ play.table ∷ play.index ∷ rest

-- a hand, a bit for each card
abbrev pub hand_bytes : ℕ → List ℕ
hand_bytes hand = to_be_bytes w64 hand

-- a player's actions are of the kinds 2 to 6
abbrev pub deed_kind : Deed → ℕ
deed_kind (deed.Call call) = 2
deed_kind (deed.Card card) = 3
deed_kind (deed.Claim tricks) = 4
deed_kind deed.Agree = 5
deed_kind deed.Refuse = 6

-- and end with the call, the card or the tricks
abbrev pub deed_bytes : Deed → List ℕ
deed_bytes (deed.Call call) = call_number call ∷ []
deed_bytes (deed.Card card) = card ∷ []
deed_bytes (deed.Claim tricks) = tricks ∷ []
deed_bytes deed.Agree = []
deed_bytes deed.Refuse = []

-- rulings are of the kinds 8 to 11 and 14
abbrev pub correction_kind : Correction → ℕ
correction_kind (correction.Tricks tricks) = 8
correction_kind correction.Void = 9
correction_kind correction.Restore = 10
correction_kind (correction.Adjust ns ew) = 11
correction_kind (correction.Assign contract tricks) = 14

-- and end with the tricks, with the averages of both sides in per cent, or with the two bytes of an assigned score
abbrev pub correction_bytes : Correction → List ℕ
correction_bytes (correction.Tricks tricks) = tricks ∷ []
correction_bytes correction.Void = []
correction_bytes correction.Restore = []
correction_bytes (correction.Adjust ns ew) = percent_of ns ∷ percent_of ew ∷ []
correction_bytes (correction.Assign contract tricks) = assigned_bytes contract tricks

-- the bytes of an act
abbrev pub act_bytes : Act → List ℕ
act_bytes (act.Player key board at deed) = headed (deed_kind deed) key.0 (turn_bytes board at (deed_bytes deed))
act_bytes (act.Deal key board hands) = headed 1 key.0 (board ∷ flat_map hand_bytes hands)
act_bytes (act.Undeal key board) = headed 13 key.0 (board ∷ [])
act_bytes (act.Back key play) = headed 12 key.0 (play_bytes play [])
act_bytes (act.RoundEnd key round) = headed 7 key.0 (round ∷ [])
act_bytes (act.Ruling key play made) = headed (correction_kind made) key.0 (play_bytes play (correction_bytes made))

-- The bytes of an action, in either format.
abbrev pub action_bytes : Action → List ℕ
action_bytes action = act_bytes (act_of action)

-- the format has what is ruled
abbrev pub HasCorrection : DiskFormat → Correction → Type 0
HasCorrection One (correction.Adjust ns ew) = ⊥
HasCorrection One (correction.Assign contract tricks) = ⊥
HasCorrection _ _ = Unit {0}

-- the format has the act
abbrev pub HasAct : DiskFormat → Act → Type 0
HasAct One (act.Undeal key board) = ⊥
HasAct One (act.Back key play) = ⊥
HasAct One (act.Ruling key play made) = HasCorrection One made
HasAct _ _ = Unit {0}

-- The format has the action.
abbrev pub HasAction : DiskFormat → Action → Type 0
HasAction format action = HasAct format (act_of action)

-- Reading them

-- the number, if it is within that range
abbrev pub in_range : ℕ → ℕ → ℕ → Option ℕ
in_range least most number = if nat_le least number && nat_le number most then Some number else None

-- the byte, if it is the only one
abbrev pub only_byte : List ℕ → Option ℕ
only_byte (byte ∷ []) = Some byte
only_byte _ = None

-- the value, if no byte is left
abbrev pub at_end : {A : Type 0} → List ℕ → A → Option A
at_end [] value = Some value
at_end _ value = None

-- what a player does by the kind of the action, and by the bytes behind the count
abbrev pub deed_in : ℕ → List ℕ → Option Deed
deed_in kind rest =
    if kind == 2 then option_map deed.Call (option_and_then call_at (only_byte rest))
    else if kind == 3 then option_map deed.Card (option_and_then (in_range 0 51) (only_byte rest))
    else if kind == 4 then option_map deed.Claim (option_and_then (in_range 0 13) (only_byte rest))
    else if kind == 5 then at_end rest deed.Agree
    else if kind == 6 then at_end rest deed.Refuse
    else None

-- a player's action
abbrev pub player_action : ℕ → Key → ℕ → ℕ → List ℕ → Option Action
player_action kind key board at rest = option_map (of_player key board at) (deed_in kind rest)

-- the same by the bytes behind the key
abbrev pub turn_in : ℕ → Key → List ℕ → Option Action
turn_in kind key (board ∷ high ∷ low ∷ rest) =
    option_and_then (λ b. option_and_then (λ at. player_action kind key b at rest) (in_range 0 999 (from_be_bytes w16 (high ∷ low ∷ []))))
    (in_range 1 36 board)
turn_in kind key _ = None

-- the play of a round and a table
abbrev pub play_with : ℕ → ℕ → ℕ → PlayId
play_with round table index = record { round = round; table = table; index = index }

-- the play of these numbers
abbrev pub play_in : ℕ → ℕ → ℕ → Option PlayId
play_in round table index =
    option_and_then (λ r. option_and_then (λ t. option_map (play_with r t) (in_range 1 3 index)) (in_range 1 12 table)) (in_range 1 12 round)

-- the averages of these numbers
abbrev pub averages_of : ℕ → ℕ → Option Correction
averages_of ns ew = option_and_then (λ n. option_map (correction.Adjust n) (average_of ew)) (average_of ns)

-- the same by the bytes behind the play
abbrev pub averages_in : DiskFormat → List ℕ → Option Correction
averages_in Two (ns ∷ ew ∷ []) = averages_of ns ew
averages_in _ _ = None

-- the score that is assigned by the bytes behind the play
abbrev pub assigned_in : DiskFormat → List ℕ → Option Correction
assigned_in Two (first ∷ second ∷ []) =
    option_map (λ contract. correction.Assign contract (assigned_tricks second)) (assigned_contract first second)
assigned_in _ _ = None

-- what is ruled by the kind of the action, and by the bytes behind the play
abbrev pub correction_in : DiskFormat → ℕ → List ℕ → Option Correction
correction_in format kind rest =
    if kind == 8 then option_map correction.Tricks (option_and_then (in_range 0 13) (only_byte rest))
    else if kind == 9 then at_end rest correction.Void
    else if kind == 10 then at_end rest correction.Restore
    else if kind == 11 then averages_in format rest
    else if kind == 14 then assigned_in format rest
    else None

-- the ruling of a play
abbrev pub ruling_on : DiskFormat → ℕ → Key → PlayId → List ℕ → Option Action
ruling_on format kind key play rest = option_map (of_ruling key play) (correction_in format kind rest)

-- the same by the bytes behind the key
abbrev pub ruling_in : DiskFormat → ℕ → Key → List ℕ → Option Action
ruling_in format kind key (round ∷ table ∷ index ∷ rest) = option_and_then (λ play. ruling_on format kind key play rest) (play_in round table index)
ruling_in format kind key _ = None

-- the hand of eight bytes, in which no bit above 51 is set
abbrev pub hand_in : List ℕ → Option ℕ
hand_in bytes = in_range 0 4503599627370495 (from_be_bytes w64 bytes)

-- the four hands of 32 bytes
abbrev pub hands_in : List ℕ → Option (List ℕ)
hands_in bytes =
    if length bytes == 32 then
    option_and_then (λ n. option_and_then (λ e. option_and_then (λ s. option_map (λ w. n ∷ e ∷ s ∷ w ∷ [])
    (hand_in (drop 24 bytes))) (hand_in (take 8 (drop 16 bytes)))) (hand_in (take 8 (drop 8 bytes)))) (hand_in (take 8 bytes))
    else None

-- the deal by the bytes behind the key
abbrev pub deal_in : Key → List ℕ → Option Action
deal_in key [] = None
deal_in key (board ∷ rest) = option_and_then (λ b. option_map (Deal key b) (hands_in rest)) (in_range 1 36 board)

-- the deal that is taken back, which the first format does not have
abbrev pub undeal_in : DiskFormat → Key → List ℕ → Option Action
undeal_in One key rest = None
undeal_in Two key rest = option_map (Undeal key) (option_and_then (in_range 1 36) (only_byte rest))

-- the play in which the latest thing is taken back, which the first format does not have
abbrev pub back_in : DiskFormat → Key → List ℕ → Option Action
back_in Two key (round ∷ table ∷ index ∷ []) = option_map (Back key) (play_in round table index)
back_in _ key _ = None

-- the action of that kind, by the bytes behind the key
abbrev pub action_in : DiskFormat → ℕ → Key → List ℕ → Option Action
action_in format kind key rest =
    if kind == 1 then deal_in key rest
    else if kind == 7 then option_map (NextRound key) (option_and_then (in_range 1 12) (only_byte rest))
    else if nat_le kind 6 then turn_in kind key rest
    else if kind == 12 then back_in format key rest
    else if kind == 13 then undeal_in format key rest
    else ruling_in format kind key rest

-- The action that these bytes are those of on a disk of that format, if they are those of one.
abbrev pub action_of : DiskFormat → List ℕ → Option Action
action_of format (kind ∷ a ∷ b ∷ c ∷ d ∷ rest) =
    option_and_then (λ number. action_in format kind (record { 0 = number }) rest) (in_range 0 4294967295 (from_be_bytes w32 (a ∷ b ∷ c ∷ d ∷ [])))
action_of format _ = None
