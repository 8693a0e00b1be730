-- An action that is read is within its ranges, and one within its ranges is one that a session takes.
use Rattle.std.proofs.Common.{◌≡◌, ◌*◌, ◌≤◌, ◌==◌, nat_le, ℕ, List, [], ◌∷◌, length, flat_map, take, drop, Some, None, All, inl, inr, refl, subst, arith}
use Rattle.std.specs.Prelude.{option_map, option_and_then}
use Rattle.std.specs.Int.{w16, w32, w64, from_be_bytes}
use Rattle.bridge_cards.specs.CardSet.{IsCardSet}
use Rattle.bridge_config.specs.declared.fields.Key.{Key}
use Rattle.session_rules.specs.declared.act.Act.{Act}
use Rattle.session_rules.specs.declared.act.Act.TheVariants as act
use Rattle.session_rules.specs.declared.action.Action.{Action}
use Rattle.session_rules.specs.declared.action.Action.TheVariants.{Deal, NextRound}
use Rattle.session_rules.specs.declared.correction.Correction.{Correction}
use Rattle.session_rules.specs.declared.correction.Correction.TheVariants as correction
use Rattle.session_rules.specs.declared.deed.Deed.{Deed}
use Rattle.session_rules.specs.declared.deed.Deed.TheVariants as deed
use Rattle.session_rules.specs.Act.{act_of}
use Rattle.session_bytes.specs.ActionRange.{IsKey, IsDeedInRange, IsActInRange, IsInRange}
use Rattle.session_bytes.specs.ActionBytes.{hand_bytes, deed_bytes, correction_bytes, act_bytes, action_bytes, in_range, player_action, turn_in, hand_in, hands_in, deal_in, action_in, action_of}
use Rattle.session_store.specs.declared.disk_format.DiskFormat.{DiskFormat}
use Rattle.session_rules.specs.Valid.{IsDeed, IsAct, IsAction}
use Rattle.session_bytes.proofs.ReadSteps.{map_is, then_is, if_is, in_range_is, last_is}
use Rattle.session_bytes.proofs.ActionLaws.{player_is, ruling_is, back_is, undeal_is, four_all}
use Rattle.session_bytes.proofs.PartLemmas.{length-flat_fixed}

turn_in_range : (kind : ℕ) (key : Key) (bytes : List ℕ) (a : Action) → IsKey key → turn_in kind key bytes ≡ Some a → IsInRange a
turn_in_range kind key [] a is_key is = absurd (let none : None ≡ Some a = is in cc)
turn_in_range kind key (board ∷ []) a is_key is = absurd (let none : None ≡ Some a = is in cc)
turn_in_range kind key (board ∷ high ∷ []) a is_key is = absurd (let none : None ≡ Some a = is in cc)
turn_in_range kind key (board ∷ high ∷ low ∷ rest) a is_key is =
    let number : ℕ = from_be_bytes w16 (high ∷ low ∷ []) in
    let b = then_is (λ b. option_and_then (λ at. player_action kind key b at rest) (in_range 0 999 number)) (in_range 1 36 board) a is in
    let c = then_is (λ at. player_action kind key b.0 at rest) (in_range 0 999 number) a b.2 in
    let board_is = in_range_is 1 36 board b.0 b.1 in
    let count_is = in_range_is 0 999 number c.0 c.1 in
    (player_is kind key b.0 c.0 rest a is_key ((board_is.1, board_is.2), count_is.2) c.2).0

hand_in_range : (bytes : List ℕ) (hand : ℕ) → hand_in bytes ≡ Some hand → IsCardSet hand
hand_in_range bytes hand is =
    let range = in_range_is 0 4503599627370495 (from_be_bytes w64 bytes) hand is in omega (arith, range.2)

hands_in_range : (bytes : List ℕ) (hands : List ℕ) → hands_in bytes ≡ Some hands → (length hands ≡ 4) × All IsCardSet hands
hands_in_range bytes hands is =
    elim (if_is (length bytes == 32) _ _ (Some hands) is) [
      | inl here ↦
          let n = then_is _ (hand_in (take 8 bytes)) hands here.1 in
          let e = then_is _ (hand_in (take 8 (drop 8 bytes))) hands n.2 in
          let s = then_is _ (hand_in (take 8 (drop 16 bytes))) hands e.2 in
          let w = map_is _ (hand_in (drop 24 bytes)) hands s.2 in
          subst (λ (hs : List ℕ). (length hs ≡ 4) × All IsCardSet hs) w.2 (
            refl,
            four_all n.0 e.0 s.0 w.0 (hand_in_range (take 8 bytes) n.0 n.1) (hand_in_range (take 8 (drop 8 bytes)) e.0 e.1)
                (hand_in_range (take 8 (drop 16 bytes)) s.0 s.1) (hand_in_range (drop 24 bytes) w.0 w.1),
          )
      | inr other ↦ let none : None ≡ Some hands = other.1 in absurd cc
    ]

deal_in_range : (key : Key) (bytes : List ℕ) (a : Action) → IsKey key → deal_in key bytes ≡ Some a → IsInRange a
deal_in_range key [] a is_key is = absurd (let none : None ≡ Some a = is in cc)
deal_in_range key (board ∷ rest) a is_key is =
    let b = then_is (λ b. option_map (Deal key b) (hands_in rest)) (in_range 1 36 board) a is in
    let h = map_is (Deal key b.0) (hands_in rest) a b.2 in
    let board_is = in_range_is 1 36 board b.0 b.1 in
    let hands = hands_in_range rest h.0 h.1 in
    subst IsInRange h.2 (is_key, (board_is.1, board_is.2), hands.0, hands.1)

kind_in_range : (format : DiskFormat) (kind : ℕ) (key : Key) (bytes : List ℕ) (a : Action) → IsKey key → action_in format kind key bytes ≡ Some a → IsInRange a
kind_in_range format kind key bytes a is_key is =
    elim (if_is (kind == 1) _ _ (Some a) is) [
      | inl here ↦ deal_in_range key bytes a is_key here.1
      | inr other ↦ elim (if_is (kind == 7) _ _ (Some a) other.1) [
        | inl here ↦
            let found = map_is (NextRound key) _ a here.1 in
            let last = last_is 1 12 bytes found.0 found.1 in
            subst IsInRange found.2 (is_key, (last.1, last.2))
        | inr other ↦ elim (if_is (nat_le kind 6) _ _ (Some a) other.1) [
          | inl here ↦ turn_in_range kind key bytes a is_key here.1
          | inr other ↦ elim (if_is (kind == 12) _ _ (Some a) other.1) [
            | inl here ↦ (back_is format key bytes a is_key here.1).0
            | inr other ↦ elim (if_is (kind == 13) _ _ (Some a) other.1) [
              | inl here ↦ (undeal_is format key bytes a is_key here.1).0
              | inr other ↦ (ruling_is format kind key bytes a is_key other.1).0
            ]
          ]
        ]
      ]
    ]

-- an action that is read, also from a list of numbers that are no bytes
pub read_in_range : (format : DiskFormat) (bytes : List ℕ) (a : Action) → action_of format bytes ≡ Some a → IsInRange a
read_in_range format [] a is = absurd (let none : None ≡ Some a = is in cc)
read_in_range format (kind ∷ []) a is = absurd (let none : None ≡ Some a = is in cc)
read_in_range format (kind ∷ k ∷ []) a is = absurd (let none : None ≡ Some a = is in cc)
read_in_range format (kind ∷ k ∷ l ∷ []) a is = absurd (let none : None ≡ Some a = is in cc)
read_in_range format (kind ∷ k ∷ l ∷ m ∷ []) a is = absurd (let none : None ≡ Some a = is in cc)
read_in_range format (kind ∷ k ∷ l ∷ m ∷ n ∷ rest) a is =
    let number : ℕ = from_be_bytes w32 (k ∷ l ∷ m ∷ n ∷ []) in
    let key = then_is (λ x. action_in format kind (record { 0 = x }) rest) (in_range 0 4294967295 number) a is in
    let key_is = in_range_is 0 4294967295 number key.0 key.1 in
    kind_in_range format kind (record { 0 = key.0 }) rest a (omega (arith, key_is.2)) key.2

-- the ranges are those of the steps
range_is_deed : (deed : Deed) → IsDeedInRange deed → IsDeed deed
range_is_deed (deed.Call call) is = is
range_is_deed (deed.Card card) is = tt
range_is_deed (deed.Claim tricks) is = tt
range_is_deed deed.Agree is = tt
range_is_deed deed.Refuse is = tt

range_is_act : (a : Act) → IsActInRange a → IsAct a
range_is_act (act.Player key board at deed) is = range_is_deed deed is.2
range_is_act (act.Deal key board hands) is = is.1.0
range_is_act (act.Undeal key board) is = is.1.0
range_is_act (act.Back key play) is = (is.1.0.0, is.1.1.0, is.1.2.0)
range_is_act (act.RoundEnd key round) is = is.1.0
range_is_act (act.Ruling key play made) is = (is.1.0.0, is.1.1.0, is.1.2.0)

pub range_is_action : (a : Action) → IsInRange a → IsAction a
range_is_action a = range_is_act (act_of a)

-- the bytes of an action are few
few_of_deed : (deed : Deed) → length (deed_bytes deed) ≤ 1
few_of_deed (deed.Call call) = omega arith
few_of_deed (deed.Card card) = omega arith
few_of_deed (deed.Claim tricks) = omega arith
few_of_deed deed.Agree = omega arith
few_of_deed deed.Refuse = omega arith

few_of_correction : (made : Correction) → length (correction_bytes made) ≤ 2
few_of_correction (correction.Tricks tricks) = omega arith
few_of_correction correction.Void = omega arith
few_of_correction correction.Restore = omega arith
few_of_correction (correction.Adjust ns ew) = omega arith
few_of_correction (correction.Assign contract tricks) = omega arith

act_fits : (a : Act) → IsActInRange a → length (act_bytes a) ≤ 480
act_fits (act.Player key board at deed) is = omega (arith, few_of_deed deed)
act_fits (act.Deal key board hands) is =
    let long : length (flat_map hand_bytes hands) ≡ length hands * 8 = length-flat_fixed hand_bytes 8 (λ hand. refl) hands in
    omega (arith, long, is.2)
act_fits (act.Undeal key board) is = omega arith
act_fits (act.Back key play) is = omega arith
act_fits (act.RoundEnd key round) is = omega arith
act_fits (act.Ruling key play made) is = omega (arith, few_of_correction made)

pub action_fits : (a : Action) → IsInRange a → length (action_bytes a) ≤ 480
action_fits a = act_fits (act_of a)
