-- An action is read back from its bytes.
use Rattle.std.proofs.Common.{◌≡◌, ◌<◌, ◌≤◌, ◌^◌, ℕ, List, [], ◌∷◌, length, flat_map, Some, All, refl, ap, ◌∙◌, arith}
use Rattle.std.specs.Prelude.{option_map, option_and_then}
use Rattle.std.specs.Int.{w16, w32, to_be_bytes, from_be_bytes}
use Rattle.std.proofs.lemmas.Bool.{le-leb}
use Rattle.std.proofs.lemmas.Nat.{from_be_bytes-to_be_bytes_2, from_be_bytes-to_be_bytes_4, from_be_bytes-to_be_bytes_8}
use Rattle.bridge_auction.proofs.CallNumbers.{call_at-call_number}
use Rattle.bridge_cards.specs.CardSet.{IsCardSet}
use Rattle.bridge_config.specs.declared.fields.Key.{Key}
use Rattle.session_rules.specs.declared.act.Act.{Act}
use Rattle.session_rules.specs.declared.act.Act.TheVariants as act
use Rattle.session_rules.specs.declared.action.Action.{Action}
use Rattle.session_rules.specs.declared.action.Action.TheVariants.{Deal, Undeal, Back, NextRound}
use Rattle.session_rules.specs.declared.action.PlayId.{PlayId}
use Rattle.session_rules.specs.declared.correction.Correction.{Correction}
use Rattle.session_rules.specs.declared.correction.Correction.TheVariants as correction
use Rattle.session_rules.specs.declared.deed.Deed.{Deed}
use Rattle.session_rules.specs.declared.deed.Deed.TheVariants as deed
use Rattle.session_rules.specs.declared.average.Average.{Average}
use Rattle.session_rules.specs.declared.average.Average.TheVariants.{Minus, Even, Plus}
use Rattle.session_rules.specs.Act.{act_of, of_player, of_ruling}
use Rattle.session_rules.specs.Average.{percent_of, average_of}
use Rattle.session_rules.specs.StateRange.{IsCorrectionInRange}
use Rattle.session_rules.proofs.Acts.{action_by, by_its_act}
use Rattle.session_bytes.specs.ActionRange.{IsKey, IsTurn, IsPlayIdInRange, IsDeedInRange, IsActInRange, IsInRange}
use Rattle.session_bytes.specs.ActionBytes.{headed, turn_bytes, play_bytes, hand_bytes, deed_kind, deed_bytes, correction_kind, correction_bytes, act_bytes, action_bytes, HasCorrection, HasAct, HasAction, in_range, deed_in, player_action, turn_in, play_in, averages_of, correction_in, ruling_on, ruling_in, hand_in, hands_in, action_in, action_of}
use Rattle.session_bytes.specs.AssignedBytes.{assigned_byte, assigned_tricks}
use Rattle.session_bytes.proofs.AssignedLaws.{assigned_back}
use Rattle.session_store.specs.declared.disk_format.DiskFormat.{DiskFormat}
use Rattle.session_store.specs.declared.disk_format.DiskFormat.TheVariants.{One, Two}

-- a number within its range
within : (least most number : ℕ) → least ≤ number → number ≤ most → in_range least most number ≡ Some number
within least most number low high = rw (le-leb least number low, le-leb number most high) refl

head_back : (format : DiskFormat) (kind : ℕ) (key : Key) (rest : List ℕ) → IsKey key → action_of format (headed kind key.0 rest) ≡ action_in format kind key rest
head_back format kind key rest is =
    let number : from_be_bytes w32 (to_be_bytes w32 key.0) ≡ key.0 = from_be_bytes-to_be_bytes_4 key.0 is in
    let read : in_range 0 4294967295 (from_be_bytes w32 (to_be_bytes w32 key.0)) ≡ Some key.0
    = ap (in_range 0 4294967295) number ∙ within 0 4294967295 key.0 (omega arith) (omega (arith, is)) in
    ap (option_and_then (λ n. action_in format kind (record { 0 = n }) rest)) read

turn_back : (kind : ℕ) (key : Key) (board at : ℕ) (rest : List ℕ) → IsTurn board at
    → turn_in kind key (turn_bytes board at rest) ≡ player_action kind key board at rest
turn_back kind key board at rest is =
    let number : from_be_bytes w16 (to_be_bytes w16 at) ≡ at = from_be_bytes-to_be_bytes_2 at (omega (arith, is.1)) in
    let read_at : in_range 0 999 (from_be_bytes w16 (to_be_bytes w16 at)) ≡ Some at
    = ap (in_range 0 999) number ∙ within 0 999 at (omega arith) is.1 in
    let read_board : in_range 1 36 board ≡ Some board = within 1 36 board is.0.0 is.0.1 in
    rw (read_board, read_at) refl

play_back : (play : PlayId) → IsPlayIdInRange play → play_in play.round play.table play.index ≡ Some play
play_back play is =
    let round = within 1 12 play.round is.0.0 is.0.1 in
    let table = within 1 12 play.table is.1.0 is.1.1 in
    let index = within 1 3 play.index is.2.0 is.2.1 in
    rw (round, table, index) refl

ruling_back : (format : DiskFormat) (kind : ℕ) (key : Key) (play : PlayId) (rest : List ℕ) → IsPlayIdInRange play
    → ruling_in format kind key (play_bytes play rest) ≡ ruling_on format kind key play rest
ruling_back format kind key play rest is = ap (option_and_then (λ p. ruling_on format kind key p rest)) (play_back play is)

hand_back : (hand : ℕ) → hand < 2 ^ 52 → hand_in (hand_bytes hand) ≡ Some hand
hand_back hand few =
    ap (in_range 0 4503599627370495) (from_be_bytes-to_be_bytes_8 hand (omega (arith, few)))
    ∙ within 0 4503599627370495 hand (omega arith) (omega (arith, few))

-- four hands, one after the other
pub hands_back : (hands : List ℕ) → length hands ≡ 4 → All IsCardSet hands → hands_in (flat_map hand_bytes hands) ≡ Some hands
hands_back [] four all = absurd cc
hands_back (n ∷ []) four all = absurd cc
hands_back (n ∷ e ∷ []) four all = absurd cc
hands_back (n ∷ e ∷ s ∷ []) four all = absurd cc
hands_back (n ∷ e ∷ s ∷ w ∷ []) four all =
    let north = hand_back n (all 0 0 (omega arith)) in
    let east = hand_back e (all 1 0 (omega arith)) in
    let south = hand_back s (all 2 0 (omega arith)) in
    let west = hand_back w (all 3 0 (omega arith)) in
    rw (north, east, south, west) refl
hands_back (n ∷ e ∷ s ∷ w ∷ more ∷ rest) four all = absurd cc

-- what a player does
deed_back : (deed : Deed) → IsDeedInRange deed → deed_in (deed_kind deed) (deed_bytes deed) ≡ Some deed
deed_back (deed.Call call) is = ap (option_map deed.Call) (call_at-call_number call is)
deed_back (deed.Card card) is = ap (option_map deed.Card) (within 0 51 card (omega arith) (omega (arith, is)))
deed_back (deed.Claim tricks) is = ap (option_map deed.Claim) (within 0 13 tricks (omega arith) is)
deed_back deed.Agree is = refl
deed_back deed.Refuse is = refl

of_player_kind : (format : DiskFormat) (deed : Deed) (key : Key) (rest : List ℕ) → action_in format (deed_kind deed) key rest ≡ turn_in (deed_kind deed) key rest
of_player_kind format (deed.Call call) key rest = refl
of_player_kind format (deed.Card card) key rest = refl
of_player_kind format (deed.Claim tricks) key rest = refl
of_player_kind format deed.Agree key rest = refl
of_player_kind format deed.Refuse key rest = refl

-- averages
pub average_back : (average : Average) → average_of (percent_of average) ≡ Some average
average_back Minus = refl
average_back Even = refl
average_back Plus = refl

averages_back : (ns ew : Average) → averages_of (percent_of ns) (percent_of ew) ≡ Some (correction.Adjust ns ew)
averages_back ns ew = rw (average_back ns, average_back ew) refl

-- what is ruled
correction_back : (format : DiskFormat) (made : Correction) → IsCorrectionInRange made → HasCorrection format made
    → correction_in format (correction_kind made) (correction_bytes made) ≡ Some made
correction_back format (correction.Tricks tricks) is has = ap (option_map correction.Tricks) (within 0 13 tricks (omega arith) is)
correction_back format correction.Void is has = refl
correction_back format correction.Restore is has = refl
correction_back One (correction.Adjust ns ew) is has = absurd has
correction_back Two (correction.Adjust ns ew) is has = averages_back ns ew
correction_back One (correction.Assign contract tricks) is has = absurd has
correction_back Two (correction.Assign contract tricks) is has =
    let back = assigned_back contract tricks is.0 is.1 in
    ap (option_map (λ c. correction.Assign c (assigned_tricks (assigned_byte contract tricks)))) back.0
    ∙ ap (λ n. Some (correction.Assign contract n)) back.1

of_ruling_kind : (format : DiskFormat) (made : Correction) (key : Key) (rest : List ℕ)
    → action_in format (correction_kind made) key rest ≡ ruling_in format (correction_kind made) key rest
of_ruling_kind format (correction.Tricks tricks) key rest = refl
of_ruling_kind format correction.Void key rest = refl
of_ruling_kind format correction.Restore key rest = refl
of_ruling_kind format (correction.Adjust ns ew) key rest = refl
of_ruling_kind format (correction.Assign contract tricks) key rest = refl

has_correction : (format : DiskFormat) (key : Key) (play : PlayId) (made : Correction) → HasAct format (act.Ruling key play made) → HasCorrection format made
has_correction One key play made has = has
has_correction Two key play made has = tt

act_back : (format : DiskFormat) (x : Act) → IsActInRange x → HasAct format x → action_of format (act_bytes x) ≡ Some (action_by x)
act_back format (act.Player key board at deed) is has =
    head_back format (deed_kind deed) key (turn_bytes board at (deed_bytes deed)) is.0
    ∙ of_player_kind format deed key (turn_bytes board at (deed_bytes deed))
    ∙ turn_back (deed_kind deed) key board at (deed_bytes deed) is.1
    ∙ ap (option_map (of_player key board at)) (deed_back deed is.2)
act_back format (act.Deal key board hands) is has =
    head_back format 1 key (board ∷ flat_map hand_bytes hands) is.0
    ∙ ap (option_and_then (λ b. option_map (Deal key b) (hands_in (flat_map hand_bytes hands)))) (within 1 36 board is.1.0 is.1.1)
    ∙ ap (option_map (Deal key board)) (hands_back hands is.2 is.3)
act_back One (act.Undeal key board) is has = absurd has
act_back Two (act.Undeal key board) is has =
    head_back Two 13 key (board ∷ []) is.0 ∙ ap (option_map (Undeal key)) (within 1 36 board is.1.0 is.1.1)
act_back One (act.Back key play) is has = absurd has
act_back Two (act.Back key play) is has = head_back Two 12 key (play_bytes play []) is.0 ∙ ap (option_map (Back key)) (play_back play is.1)
act_back format (act.RoundEnd key round) is has =
    head_back format 7 key (round ∷ []) is.0 ∙ ap (option_map (NextRound key)) (within 1 12 round is.1.0 is.1.1)
act_back format (act.Ruling key play made) is has =
    head_back format (correction_kind made) key (play_bytes play (correction_bytes made)) is.0
    ∙ of_ruling_kind format made key (play_bytes play (correction_bytes made))
    ∙ ruling_back format (correction_kind made) key play (correction_bytes made) is.1
    ∙ ap (option_map (of_ruling key play)) (correction_back format made is.2 (has_correction format key play made has))

pub own_back : (format : DiskFormat) (a : Action) → IsInRange a → HasAction format a → action_of format (action_bytes a) ≡ Some a
own_back format a is has = act_back format (act_of a) is has ∙ ap Some (by_its_act a)

-- the second format has every action
pub read_back : (a : Action) → IsInRange a → action_of Two (action_bytes a) ≡ Some a
read_back a is = own_back Two a is tt
