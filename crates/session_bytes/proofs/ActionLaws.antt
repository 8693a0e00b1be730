-- Only actions are read, each from its own bytes.
use Rattle.std.proofs.Common.{◌≡◌, ◌≢◌, IfSome, IfNone, ◌+◌, ◌==◌, nat_le, ℕ, suc, List, [], ◌∷◌, ◌++◌, length, flat_map, take, drop, Option, Some, None, All, refl, sym, ap, ◌∙◌, subst, arith, inl, inr}
use Rattle.std.specs.Prelude.{option_map, option_and_then}
use Rattle.std.specs.Int.{w16, w32, w64, to_be_bytes, from_be_bytes}
use Rattle.std.proofs.lemmas.Grind.{common_steps}
use Rattle.std.proofs.lemmas.Bool.{eqb-true}
use Rattle.std.proofs.lemmas.Nat.{be_bytes_2, be_bytes_4, be_bytes_8}
use Rattle.std.proofs.lemmas.List.{take-append-drop, drop-drop}
use Rattle.std.proofs.lemmas.List.Elements.{All-cons, All-nil}
use Rattle.bridge_auction.specs.Call.{call_at}
use Rattle.bridge_auction.proofs.CallNumbers.{call_at-is}
use Rattle.bridge_cards.specs.CardSet.{IsCardSet}
use Rattle.bridge_config.specs.declared.fields.Key.{Key}
use Rattle.session_rules.specs.declared.act.Act.{Act}
use Rattle.session_rules.specs.declared.act.Act.TheVariants as act
use Rattle.session_rules.specs.declared.action.Action.{Action}
use Rattle.session_rules.specs.declared.action.Action.TheVariants.{Deal, Undeal, Back, NextRound}
use Rattle.session_rules.specs.declared.action.PlayId.{PlayId}
use Rattle.session_rules.specs.declared.correction.Correction.{Correction}
use Rattle.session_rules.specs.declared.correction.Correction.TheVariants as correction
use Rattle.session_rules.specs.declared.deed.Deed.{Deed}
use Rattle.session_rules.specs.declared.deed.Deed.TheVariants as deed
use Rattle.session_rules.specs.declared.average.Average.{Average}
use Rattle.session_rules.specs.declared.average.Average.TheVariants.{Minus, Even, Plus}
use Rattle.session_rules.specs.Act.{act_of, of_player, of_ruling}
use Rattle.session_rules.specs.Average.{percent_of, average_of}
use Rattle.session_rules.specs.StateRange.{IsCorrectionInRange}
use Rattle.session_rules.proofs.Acts.{act_of_player, act_of_ruling}
use Rattle.session_bytes.proofs.Options.{some_is, not_some}
use Rattle.session_bytes.specs.ActionRange.{IsKey, IsTurn, IsPlayIdInRange, IsDeedInRange, IsActInRange, IsInRange}
use Rattle.session_bytes.specs.ActionBytes.{headed, turn_bytes, play_bytes, hand_bytes, deed_kind, deed_bytes, correction_kind, correction_bytes, act_bytes, action_bytes, HasAction, in_range, only_byte, deed_in, player_action, turn_in, play_in, play_with, averages_in, assigned_in, correction_in, ruling_on, ruling_in, hand_in, hands_in, deal_in, undeal_in, back_in, action_in, action_of}
use Rattle.session_bytes.specs.AssignedBytes.{assigned_contract, assigned_tricks}
use Rattle.session_bytes.proofs.AssignedLaws.{assigned_is}
use Rattle.session_store.specs.declared.disk_format.DiskFormat.{DiskFormat}
use Rattle.session_store.specs.declared.disk_format.DiskFormat.TheVariants.{One, Two}
use Rattle.session_bytes.proofs.ReadSteps.{AreBytes, map_is, then_is, if_is, in_range_is, only_is, end_is, last_is, two_bytes, four_bytes, front_bytes, back_bytes}
use Rattle.session_bytes.proofs.ActionBack.{own_back}

-- What is shown of an action that is read: it is in range, and the bytes are its own
abbrev ReadsAction : ℕ → Key → List ℕ → Action → Type 0
ReadsAction kind key bytes a = IsInRange a × (action_bytes a ≡ headed kind key.0 bytes)

reads : (kind : ℕ) (key : Key) (bytes : List ℕ) (x : Act) (a : Action) → act_of a ≡ x → IsActInRange x → act_bytes x ≡ headed kind key.0 bytes
    → ReadsAction kind key bytes a
reads kind key bytes x a same range written = (subst IsActInRange (sym same) range, ap act_bytes same ∙ written)

-- what a player does by a kind and bytes that are its own
abbrev IsDeedOf : ℕ → List ℕ → Deed → Type 0
IsDeedOf kind bytes deed = IsDeedInRange deed × (kind ≡ deed_kind deed) × (bytes ≡ deed_bytes deed)

deed_is : (kind : ℕ) (rest : List ℕ) (deed : Deed) → deed_in kind rest ≡ Some deed → IsDeedOf kind rest deed
deed_is kind rest one is =
    elim (if_is (kind == 2) _ _ (Some one) is) [
      | inl here ↦
          let found = map_is deed.Call _ one here.1 in
          let byte = then_is call_at (only_byte rest) found.0 found.1 in
          let known = call_at-is byte.0 found.0 byte.2 in
          subst (IsDeedOf kind rest) found.2
          (known.0, eqb-true kind 2 here.0, only_is rest byte.0 byte.1 ∙ ap (λ x. x ∷ []) (sym known.1))
      | inr other ↦ elim (if_is (kind == 3) _ _ (Some one) other.1) [
        | inl here ↦
            let found = map_is deed.Card _ one here.1 in
            let last = last_is 0 51 rest found.0 found.1 in
            subst (IsDeedOf kind rest) found.2 (omega (arith, last.2), eqb-true kind 3 here.0, last.0)
        | inr other ↦ elim (if_is (kind == 4) _ _ (Some one) other.1) [
          | inl here ↦
              let found = map_is deed.Claim _ one here.1 in
              let last = last_is 0 13 rest found.0 found.1 in
              subst (IsDeedOf kind rest) found.2 (last.2, eqb-true kind 4 here.0, last.0)
          | inr other ↦ elim (if_is (kind == 5) _ _ (Some one) other.1) [
            | inl here ↦
                let found = end_is rest deed.Agree one here.1 in
                subst (IsDeedOf kind rest) found.1 (tt, eqb-true kind 5 here.0, found.0)
            | inr other ↦ elim (if_is (kind == 6) _ _ (Some one) other.1) [
              | inl here ↦
                  let found = end_is rest deed.Refuse one here.1 in
                  subst (IsDeedOf kind rest) found.1 (tt, eqb-true kind 6 here.0, found.0)
              | inr other ↦ let none : None ≡ Some one = other.1 in absurd cc
            ]
          ]
        ]
      ]
    ]

pub player_is : (kind : ℕ) (key : Key) (board at : ℕ) (rest : List ℕ) (a : Action) → IsKey key → IsTurn board at
    → player_action kind key board at rest ≡ Some a → ReadsAction kind key (turn_bytes board at rest) a
player_is kind key board at rest a is_key is_turn is =
    let found = map_is (of_player key board at) (deed_in kind rest) a is in
    let known = deed_is kind rest found.0 found.1 in
    reads kind key (turn_bytes board at rest) (act.Player key board at found.0) a
    (ap act_of (sym found.2) ∙ act_of_player key board at found.0) (is_key, is_turn, known.0)
    (ap (λ k. headed k key.0 (turn_bytes board at (deed_bytes found.0))) (sym known.1)
    ∙ ap (λ xs. headed kind key.0 (turn_bytes board at xs)) (sym known.2))

turn_is : (kind : ℕ) (key : Key) (bytes : List ℕ) (a : Action) → AreBytes bytes → IsKey key → turn_in kind key bytes ≡ Some a
    → ReadsAction kind key bytes a
turn_is kind key [] a are is_key is = absurd (let none : None ≡ Some a = is in cc)
turn_is kind key (board ∷ []) a are is_key is = absurd (let none : None ≡ Some a = is in cc)
turn_is kind key (board ∷ high ∷ []) a are is_key is = absurd (let none : None ≡ Some a = is in cc)
turn_is kind key (board ∷ high ∷ low ∷ rest) a are is_key is =
    let number : ℕ = from_be_bytes w16 (high ∷ low ∷ []) in
    let b = then_is (λ b. option_and_then (λ at. player_action kind key b at rest) (in_range 0 999 number)) (in_range 1 36 board) a is in
    let c = then_is (λ at. player_action kind key b.0 at rest) (in_range 0 999 number) a b.2 in
    let board_is = in_range_is 1 36 board b.0 b.1 in
    let count_is = in_range_is 0 999 number c.0 c.1 in
    let two : to_be_bytes w16 c.0 ≡ high ∷ low ∷ []
    = be_bytes_2 (high ∷ low ∷ []) c.0 refl (two_bytes high low (are 1) (are 2)) (sym count_is.0) in
    let known = player_is kind key b.0 c.0 rest a is_key ((board_is.1, board_is.2), count_is.2) c.2 in
    let same : turn_bytes b.0 c.0 rest ≡ board ∷ high ∷ low ∷ rest
    = ap (λ x. x ∷ (to_be_bytes w16 c.0 ++ rest)) (sym board_is.0) ∙ ap (λ xs. board ∷ (xs ++ rest)) two in
    (known.0, known.1 ∙ ap (headed kind key.0) same)

play_is : (round table index : ℕ) (play : PlayId) → play_in round table index ≡ Some play
    → IsPlayIdInRange play × (play ≡ play_with round table index)
play_is round table index play is =
    let r = then_is (λ r. option_and_then (λ t. option_map (play_with r t) (in_range 1 3 index)) (in_range 1 12 table)) (in_range 1 12 round) play is in
    let t = then_is (λ t. option_map (play_with r.0 t) (in_range 1 3 index)) (in_range 1 12 table) play r.2 in
    let i = map_is (play_with r.0 t.0) (in_range 1 3 index) play t.2 in
    let round_is = in_range_is 1 12 round r.0 r.1 in
    let table_is = in_range_is 1 12 table t.0 t.1 in
    let index_is = in_range_is 1 3 index i.0 i.1 in
    let same : play_with r.0 t.0 i.0 ≡ play_with round table index
    = ap (λ x. play_with x t.0 i.0) (sym round_is.0) ∙ ap (λ x. play_with round x i.0) (sym table_is.0)
    ∙ ap (play_with round table) (sym index_is.0) in
    (subst IsPlayIdInRange i.2 ((round_is.1, round_is.2), (table_is.1, table_is.2), (index_is.1, index_is.2)), sym i.2 ∙ same)

-- what is ruled by a kind and bytes that are its own
abbrev IsCorrectionOf : ℕ → List ℕ → Correction → Type 0
IsCorrectionOf kind bytes made = IsCorrectionInRange made × (kind ≡ correction_kind made) × (bytes ≡ correction_bytes made)

pub average_is : (percent : ℕ) (average : Average) → average_of percent ≡ Some average → percent_of average ≡ percent
average_is percent average is =
    elim (if_is (percent == 40) (Some Minus) _ (Some average) is) [
      | inl here ↦ ap percent_of (sym (some_is Minus average here.1)) ∙ sym (eqb-true percent 40 here.0)
      | inr other ↦ elim (if_is (percent == 50) (Some Even) _ (Some average) other.1) [
        | inl here ↦ ap percent_of (sym (some_is Even average here.1)) ∙ sym (eqb-true percent 50 here.0)
        | inr other ↦ elim (if_is (percent == 60) (Some Plus) _ (Some average) other.1) [
          | inl here ↦ ap percent_of (sym (some_is Plus average here.1)) ∙ sym (eqb-true percent 60 here.0)
          | inr other ↦ absurd (not_some average other.1)
        ]
      ]
    ]

-- what is ruled by bytes behind the kind of averages
averages_are : (kind : ℕ) (format : DiskFormat) (rest : List ℕ) (made : Correction) → kind ≡ 11 → averages_in format rest ≡ Some made → IsCorrectionOf kind rest made
averages_are kind One rest made eleven is = absurd (not_some made is)
averages_are kind Two [] made eleven is = absurd (not_some made is)
averages_are kind Two (ns ∷ []) made eleven is = absurd (not_some made is)
averages_are kind Two (ns ∷ ew ∷ []) made eleven is =
    let first = then_is (λ n. option_map (correction.Adjust n) (average_of ew)) (average_of ns) made is in
    let second = map_is (correction.Adjust first.0) (average_of ew) made first.2 in
    subst (IsCorrectionOf kind (ns ∷ ew ∷ [])) second.2 (
      tt,
      eleven,
      ap (λ n. n ∷ ew ∷ []) (sym (average_is ns first.0 first.1)) ∙ ap (λ n. percent_of first.0 ∷ n ∷ []) (sym (average_is ew second.0 second.1)),
    )
averages_are kind Two (ns ∷ ew ∷ more ∷ rest) made eleven is = absurd (not_some made is)

-- what is ruled by bytes behind the kind of an assigned score
assigned_are : (kind : ℕ) (format : DiskFormat) (rest : List ℕ) (made : Correction) → kind ≡ 14 → assigned_in format rest ≡ Some made → IsCorrectionOf kind rest made
assigned_are kind One rest made is_kind is = absurd (not_some made is)
assigned_are kind Two [] made is_kind is = absurd (not_some made is)
assigned_are kind Two (first ∷ []) made is_kind is = absurd (not_some made is)
assigned_are kind Two (first ∷ second ∷ []) made is_kind is =
    let found = map_is (λ contract. correction.Assign contract (assigned_tricks second)) (assigned_contract first second) made is in
    let known = assigned_is first second found.0 found.1 in
    subst (IsCorrectionOf kind (first ∷ second ∷ [])) found.2 ((known.0, known.2), is_kind, sym known.1)
assigned_are kind Two (first ∷ second ∷ more ∷ rest) made is_kind is = absurd (not_some made is)

correction_is : (format : DiskFormat) (kind : ℕ) (rest : List ℕ) (made : Correction) → correction_in format kind rest ≡ Some made → IsCorrectionOf kind rest made
correction_is format kind rest made is =
    elim (if_is (kind == 8) _ _ (Some made) is) [
      | inl here ↦
          let found = map_is correction.Tricks _ made here.1 in
          let last = last_is 0 13 rest found.0 found.1 in
          subst (IsCorrectionOf kind rest) found.2 (last.2, eqb-true kind 8 here.0, last.0)
      | inr other ↦ elim (if_is (kind == 9) _ _ (Some made) other.1) [
        | inl here ↦
            let found = end_is rest correction.Void made here.1 in
            subst (IsCorrectionOf kind rest) found.1 (tt, eqb-true kind 9 here.0, found.0)
        | inr other ↦ elim (if_is (kind == 10) _ _ (Some made) other.1) [
          | inl here ↦
              let found = end_is rest correction.Restore made here.1 in
              subst (IsCorrectionOf kind rest) found.1 (tt, eqb-true kind 10 here.0, found.0)
          | inr other ↦ elim (if_is (kind == 11) _ _ (Some made) other.1) [
            | inl here ↦ averages_are kind format rest made (eqb-true kind 11 here.0) here.1
            | inr other ↦ elim (if_is (kind == 14) _ _ (Some made) other.1) [
              | inl here ↦ assigned_are kind format rest made (eqb-true kind 14 here.0) here.1
              | inr other ↦ absurd (not_some made other.1)
            ]
          ]
        ]
      ]
    ]

ruled_is : (format : DiskFormat) (kind : ℕ) (key : Key) (play : PlayId) (rest : List ℕ) (a : Action) → IsKey key → IsPlayIdInRange play
    → ruling_on format kind key play rest ≡ Some a → ReadsAction kind key (play_bytes play rest) a
ruled_is format kind key play rest a is_key is_play is =
    let found = map_is (of_ruling key play) (correction_in format kind rest) a is in
    let known = correction_is format kind rest found.0 found.1 in
    reads kind key (play_bytes play rest) (act.Ruling key play found.0) a
    (ap act_of (sym found.2) ∙ act_of_ruling key play found.0) (is_key, is_play, known.0)
    (ap (λ k. headed k key.0 (play_bytes play (correction_bytes found.0))) (sym known.1)
    ∙ ap (λ xs. headed kind key.0 (play_bytes play xs)) (sym known.2))

pub ruling_is : (format : DiskFormat) (kind : ℕ) (key : Key) (bytes : List ℕ) (a : Action) → IsKey key → ruling_in format kind key bytes ≡ Some a
    → ReadsAction kind key bytes a
ruling_is format kind key [] a is_key is = absurd (let none : None ≡ Some a = is in cc)
ruling_is format kind key (round ∷ []) a is_key is = absurd (let none : None ≡ Some a = is in cc)
ruling_is format kind key (round ∷ table ∷ []) a is_key is = absurd (let none : None ≡ Some a = is in cc)
ruling_is format kind key (round ∷ table ∷ index ∷ rest) a is_key is =
    let p = then_is (λ play. ruling_on format kind key play rest) (play_in round table index) a is in
    let play = play_is round table index p.0 p.1 in
    let known = ruled_is format kind key p.0 rest a is_key play.0 p.2 in
    (known.0, known.1 ∙ ap (λ (q : PlayId). headed kind key.0 (play_bytes q rest)) play.1)

pub four_all : (n e s w : ℕ) → IsCardSet n → IsCardSet e → IsCardSet s → IsCardSet w → All IsCardSet (n ∷ e ∷ s ∷ w ∷ [])
four_all n e s w north east south west =
    All-cons IsCardSet n (e ∷ s ∷ w ∷ []) north (All-cons IsCardSet e (s ∷ w ∷ []) east
    (All-cons IsCardSet s (w ∷ []) south (All-cons IsCardSet w [] west (All-nil IsCardSet))))

hand_is : (bytes : List ℕ) (hand : ℕ) → AreBytes bytes → length bytes ≡ 8 → hand_in bytes ≡ Some hand → IsCardSet hand × (hand_bytes hand ≡ bytes)
hand_is bytes hand are long is =
    let range = in_range_is 0 4503599627370495 (from_be_bytes w64 bytes) hand is in
    (omega (arith, range.2), be_bytes_8 bytes hand long are (sym range.0))

pub hands_is : (bytes : List ℕ) (hands : List ℕ) → AreBytes bytes → hands_in bytes ≡ Some hands
    → (length hands ≡ 4) × All IsCardSet hands × (flat_map hand_bytes hands ≡ bytes)
hands_is bytes hands are is =
    elim (if_is (length bytes == 32) _ _ (Some hands) is) [
      | inl here ↦
          let long : length bytes ≡ 32 = eqb-true (length bytes) 32 here.0 in
          let n = then_is _ (hand_in (take 8 bytes)) hands here.1 in
          let e = then_is _ (hand_in (take 8 (drop 8 bytes))) hands n.2 in
          let s = then_is _ (hand_in (take 8 (drop 16 bytes))) hands e.2 in
          let w = map_is _ (hand_in (drop 24 bytes)) hands s.2 in
          let north = hand_is (take 8 bytes) n.0 (front_bytes 8 bytes are) (grind (arith, common_steps, long)) n.1 in
          let east = hand_is (take 8 (drop 8 bytes)) e.0 (front_bytes 8 (drop 8 bytes) (back_bytes 8 bytes are)) (grind (arith, common_steps, long)) e.1 in
          let south = hand_is (take 8 (drop 16 bytes)) s.0 (front_bytes 8 (drop 16 bytes) (back_bytes 16 bytes are)) (grind (arith, common_steps, long)) s.1 in
          let west = hand_is (drop 24 bytes) w.0 (back_bytes 24 bytes are) (grind (arith, common_steps, long)) w.1 in
          let joined : (k : ℕ) → take 8 (drop k bytes) ++ drop (k + 8) bytes ≡ drop k bytes
          = λ k. ap (λ xs. take 8 (drop k bytes) ++ xs) (sym (drop-drop 8 k bytes)) ∙ take-append-drop 8 (drop k bytes) in
          let whole : take 8 bytes ++ (take 8 (drop 8 bytes) ++ (take 8 (drop 16 bytes) ++ drop 24 bytes)) ≡ bytes
          = ap (λ xs. take 8 bytes ++ (take 8 (drop 8 bytes) ++ xs)) (joined 16)
          ∙ ap (λ xs. take 8 bytes ++ xs) (joined 8) ∙ take-append-drop 8 bytes in
          let written : flat_map hand_bytes (n.0 ∷ e.0 ∷ s.0 ∷ w.0 ∷ []) ≡ bytes
          = ap (λ xs. xs ++ (hand_bytes e.0 ++ (hand_bytes s.0 ++ hand_bytes w.0))) north.1
          ∙ ap (λ xs. take 8 bytes ++ (xs ++ (hand_bytes s.0 ++ hand_bytes w.0))) east.1
          ∙ ap (λ xs. take 8 bytes ++ (take 8 (drop 8 bytes) ++ (xs ++ hand_bytes w.0))) south.1
          ∙ ap (λ xs. take 8 bytes ++ (take 8 (drop 8 bytes) ++ (take 8 (drop 16 bytes) ++ xs))) west.1 ∙ whole in
          subst (λ (hs : List ℕ). (length hs ≡ 4) × All IsCardSet hs × (flat_map hand_bytes hs ≡ bytes)) w.2
          (refl, four_all n.0 e.0 s.0 w.0 north.0 east.0 south.0 west.0, written)
      | inr other ↦ let none : None ≡ Some hands = other.1 in absurd cc
    ]

deal_is : (key : Key) (bytes : List ℕ) (a : Action) → AreBytes bytes → IsKey key → deal_in key bytes ≡ Some a → ReadsAction 1 key bytes a
deal_is key [] a are is_key is = absurd (let none : None ≡ Some a = is in cc)
deal_is key (board ∷ rest) a are is_key is =
    let b = then_is (λ b. option_map (Deal key b) (hands_in rest)) (in_range 1 36 board) a is in
    let h = map_is (Deal key b.0) (hands_in rest) a b.2 in
    let board_is = in_range_is 1 36 board b.0 b.1 in
    let hands = hands_is rest h.0 (λ i. are (suc i)) h.1 in
    reads 1 key (board ∷ rest) (act.Deal key b.0 h.0) a (ap act_of (sym h.2))
    (is_key, (board_is.1, board_is.2), hands.0, hands.1)
    (ap (λ xs. headed 1 key.0 (b.0 ∷ xs)) hands.2 ∙ ap (λ x. headed 1 key.0 (x ∷ rest)) (sym board_is.0))

pub undeal_is : (format : DiskFormat) (key : Key) (bytes : List ℕ) (a : Action) → IsKey key → undeal_in format key bytes ≡ Some a → ReadsAction 13 key bytes a
undeal_is One key bytes a is_key is = absurd (not_some a is)
undeal_is Two key bytes a is_key is =
    let found = map_is (Undeal key) _ a is in
    let last = last_is 1 36 bytes found.0 found.1 in
    reads 13 key bytes (act.Undeal key found.0) a (ap act_of (sym found.2)) (is_key, (last.1, last.2)) (ap (headed 13 key.0) (sym last.0))

pub back_is : (format : DiskFormat) (key : Key) (bytes : List ℕ) (a : Action) → IsKey key → back_in format key bytes ≡ Some a → ReadsAction 12 key bytes a
back_is One key bytes a is_key is = absurd (not_some a is)
back_is Two key [] a is_key is = absurd (not_some a is)
back_is Two key (round ∷ []) a is_key is = absurd (not_some a is)
back_is Two key (round ∷ table ∷ []) a is_key is = absurd (not_some a is)
back_is Two key (round ∷ table ∷ index ∷ []) a is_key is =
    let found = map_is (Back key) (play_in round table index) a is in
    let play = play_is round table index found.0 found.1 in
    reads 12 key (round ∷ table ∷ index ∷ []) (act.Back key found.0) a (ap act_of (sym found.2)) (is_key, play.0)
    (ap (λ (q : PlayId). headed 12 key.0 (play_bytes q [])) play.1)
back_is Two key (round ∷ table ∷ index ∷ more ∷ rest) a is_key is = absurd (not_some a is)

kind_is : (format : DiskFormat) (kind : ℕ) (key : Key) (bytes : List ℕ) (a : Action) → AreBytes bytes → IsKey key → action_in format kind key bytes ≡ Some a
    → ReadsAction kind key bytes a
kind_is format kind key bytes a are is_key is =
    elim (if_is (kind == 1) _ _ (Some a) is) [
      | inl here ↦
          let known = deal_is key bytes a are is_key here.1 in
          (known.0, known.1 ∙ ap (λ k. headed k key.0 bytes) (sym (eqb-true kind 1 here.0)))
      | inr other ↦ elim (if_is (kind == 7) _ _ (Some a) other.1) [
        | inl here ↦
            let found = map_is (NextRound key) _ a here.1 in
            let last = last_is 1 12 bytes found.0 found.1 in
            reads kind key bytes (act.RoundEnd key found.0) a (ap act_of (sym found.2)) (is_key, (last.1, last.2))
            (ap (λ k. headed k key.0 (found.0 ∷ [])) (sym (eqb-true kind 7 here.0)) ∙ ap (headed kind key.0) (sym last.0))
        | inr other ↦ elim (if_is (nat_le kind 6) _ _ (Some a) other.1) [
          | inl here ↦ turn_is kind key bytes a are is_key here.1
          | inr other ↦ elim (if_is (kind == 12) _ _ (Some a) other.1) [
            | inl here ↦
                let known = back_is format key bytes a is_key here.1 in
                (known.0, known.1 ∙ ap (λ k. headed k key.0 bytes) (sym (eqb-true kind 12 here.0)))
            | inr other ↦ elim (if_is (kind == 13) _ _ (Some a) other.1) [
              | inl here ↦
                  let known = undeal_is format key bytes a is_key here.1 in
                  (known.0, known.1 ∙ ap (λ k. headed k key.0 bytes) (sym (eqb-true kind 13 here.0)))
              | inr other ↦ ruling_is format kind key bytes a is_key other.1
            ]
          ]
        ]
      ]
    ]

-- an action that is read is within its ranges, and the bytes are those of the action
pub read_is : (format : DiskFormat) (bytes : List ℕ) (a : Action) → AreBytes bytes → action_of format bytes ≡ Some a → IsInRange a × (action_bytes a ≡ bytes)
read_is format [] a are is = absurd (let none : None ≡ Some a = is in cc)
read_is format (kind ∷ []) a are is = absurd (let none : None ≡ Some a = is in cc)
read_is format (kind ∷ k ∷ []) a are is = absurd (let none : None ≡ Some a = is in cc)
read_is format (kind ∷ k ∷ l ∷ []) a are is = absurd (let none : None ≡ Some a = is in cc)
read_is format (kind ∷ k ∷ l ∷ m ∷ []) a are is = absurd (let none : None ≡ Some a = is in cc)
read_is format (kind ∷ k ∷ l ∷ m ∷ n ∷ rest) a are is =
    let number : ℕ = from_be_bytes w32 (k ∷ l ∷ m ∷ n ∷ []) in
    let key = then_is (λ x. action_in format kind (record { 0 = x }) rest) (in_range 0 4294967295 number) a is in
    let key_is = in_range_is 0 4294967295 number key.0 key.1 in
    let four : to_be_bytes w32 key.0 ≡ k ∷ l ∷ m ∷ n ∷ []
    = be_bytes_4 (k ∷ l ∷ m ∷ n ∷ []) key.0 refl (four_bytes k l m n (are 1) (are 2) (are 3) (are 4)) (sym key_is.0) in
    let known = kind_is format kind (record { 0 = key.0 }) rest a (λ i. are (suc (suc (suc (suc (suc i)))))) (omega (arith, key_is.2)) key.2 in
    (known.0, known.1 ∙ ap (λ xs. kind ∷ (xs ++ rest)) four)

pub read_written : (format : DiskFormat) (bytes : List ℕ) (o : Option Action) → AreBytes bytes → o ≡ action_of format bytes → IfSome o (λ a. action_bytes a ≡ bytes)
read_written format bytes None are is = tt
read_written format bytes (Some a) are is = (read_is format bytes a are (sym is)).1

pub read_other : (format : DiskFormat) (bytes : List ℕ) (o : Option Action) → o ≡ action_of format bytes
    → IfNone o ((a : Action) → IsInRange a → HasAction format a → action_bytes a ≢ bytes)
read_other format bytes None is =
    λ a range has same. not_some a (is ∙ ap (action_of format) (sym same) ∙ own_back format a range has)
read_other format bytes (Some a) is = tt
