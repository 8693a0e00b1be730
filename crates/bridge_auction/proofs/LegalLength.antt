-- A legal list of calls has at most 319 of them.
use Rattle.std.proofs.Common.{◌≡◌, ℕ, zero, suc, ◌+◌, ◌-◌, ◌*◌, ◌<◌, ◌≤◌, ◌∙◌, inl, inr, Bool, true, false, ◌&&◌, List, [], ◌∷◌, ◌++◌, length, drop, Some, None, refl, sym, ap, arith, length-append, append_assoc, append-nil}
use Rattle.std.proofs.lemmas.List.{drop-append-le, drop-drop, drop_all}
use Rattle.std.proofs.lemmas.List.Folds.{list_all-append}
use Rattle.std.proofs.lemmas.Bool.{and_parts, cases_lt, leb-true, le-leb}
use Rattle.std.specs.List.{list_all}
use Rattle.bridge_cards.proofs.FollowLaws.{may_follow_front}
use Rattle.bridge_auction.specs.declared.bid.Bid.{Bid as BidType}
use Rattle.bridge_auction.specs.declared.bid.Denomination.{Denomination}
use Rattle.bridge_auction.specs.declared.bid.Denomination.TheVariants.{Clubs, Diamonds, Hearts, Spades, NoTrump}
use Rattle.bridge_auction.specs.declared.call.Call.{Call}
use Rattle.bridge_auction.specs.declared.call.Call.TheVariants.{Pass, Bid, Double, Redouble}
use Rattle.bridge_auction.specs.Bid.{denomination_number, bid_number, IsBid}
use Rattle.bridge_auction.specs.Call.{is_pass}
use Rattle.bridge_auction.specs.Legal.{is_ended, is_below, MayFollow, IsLegal}
use Rattle.bridge_auction.proofs.LastCall.{last_call, steps_of, last_call-pass, last_call-push, before_double, before_redouble, steps_of_le}

-- What holds of a legal list of calls: `top` is one more than the highest bid's number, or 0 without a bid,
-- and the last `passes` calls are passes.
pub record AuctionStanding (calls : List Call) : Type 0 where
  pub top : ℕ
  pub passes : ℕ
  pub highest : top ≤ 35
  pub below : (number : ℕ) → list_all (is_below number) calls ≡ true → top ≤ number
  pub passed : list_all is_pass (drop (length calls - passes) calls) ≡ true
  pub begun : top ≡ 0 → (last_call calls ≡ None) × (length calls ≡ passes) × (passes ≤ 4)
  pub going : 0 < top → (passes < length calls) × (passes ≤ 3) × (length calls + 5 ≤ 9 * top + 3 * steps_of (last_call calls) + passes)

-- the rest of a list passes where the list does
list_all-drop : (test : Call → Bool) (n : ℕ) (calls : List Call) → list_all test calls ≡ true → list_all test (drop n calls) ≡ true
list_all-drop test zero calls all = all
list_all-drop test (suc n) [] all = refl
list_all-drop test (suc n) (call ∷ calls) all = list_all-drop test n calls (and_parts (test call) (list_all test calls) all).1

-- three passes at the end of four calls end the auction
three_passes : (calls : List Call) (passes : ℕ) → list_all is_pass (drop (length calls - passes) calls) ≡ true → passes ≤ length calls → 3 ≤ passes → 4 ≤ length calls → is_ended calls ≡ true
three_passes calls passes passed within three four =
    let e : (length calls - passes) + (passes - 3) ≡ length calls - 3 = omega arith in
    let rest = list_all-drop is_pass (passes - 3) (drop (length calls - passes) calls) passed in
    let last : list_all is_pass (drop (length calls - 3) calls) ≡ true = rw (drop-drop, e) at rest in
    rw (le-leb 4 (length calls) four, last) refl

-- how many passes stand at the end of an auction that is open
few_passes : (calls : List Call) (s : AuctionStanding calls) → is_ended calls ≡ false → (s.top ≡ 0 → s.passes ≤ 3) × (0 < s.top → s.passes ≤ 2)
few_passes calls s open_auction = (
  λ none. elim (cases_lt 3 s.passes) [
    | inl more ↦
        let begun = s.begun none in
        let ended = three_passes calls s.passes s.passed (omega (arith, begun.1)) (omega arith) (omega (arith, begun.1)) in
        absurd (cc)
    | inr few ↦ omega arith
  ],
  λ some. elim (cases_lt 2 s.passes) [
    | inl more ↦
        let going = s.going some in
        let ended = three_passes calls s.passes s.passed (omega (arith, going.0)) (omega arith) (omega (arith, going.0)) in
        absurd (cc)
    | inr few ↦ omega arith
  ],
)

-- a bid's number is below 35
denomination_small : (d : Denomination) → denomination_number d ≤ 4
denomination_small Clubs = omega arith
denomination_small Diamonds = omega arith
denomination_small Hearts = omega arith
denomination_small Spades = omega arith
denomination_small NoTrump = omega arith

bid_small : (bid : BidType) → IsBid bid → bid_number bid < 35
bid_small bid is = omega (arith, is.0, is.1, denomination_small bid.denomination)

-- the front passes where the list with a call at its end does, and so does that call
all_front : (test : Call → Bool) (calls : List Call) (call : Call) → list_all test (calls ++ call ∷ []) ≡ true → (list_all test calls ≡ true) × (test call ≡ true)
all_front test calls call all =
    let split : (list_all test calls && (test call && true)) ≡ true = rw (list_all-append test calls (call ∷ [])) at all in (
      (and_parts (list_all test calls) (test call && true) split).0,
      (and_parts (test call) true (and_parts (list_all test calls) (test call && true) split).1).0,
    )

-- nothing was called yet
standing_none : AuctionStanding []
standing_none = record {
  top = 0;
  passes = 0;
  highest = omega arith;
  below = λ number all. omega arith;
  passed = refl;
  begun = λ none. (refl, refl, omega arith);
  going = λ some. absurd (omega arith);
}

standing_pass : (calls : List Call) → AuctionStanding calls → is_ended calls ≡ false → AuctionStanding (calls ++ Pass ∷ [])
standing_pass calls s open_auction =
    let one : length (calls ++ Pass ∷ []) ≡ length calls + 1 = length-append calls (Pass ∷ []) in
    let few = few_passes calls s open_auction in
    let from : length (calls ++ Pass ∷ []) - (s.passes + 1) ≡ length calls - s.passes = omega arith in
    record {
      top = s.top;
      passes = s.passes + 1;
      highest = s.highest;
      below = λ number all. s.below number (all_front (is_below number) calls Pass all).0;
      passed =
          rw (
            from,
            drop-append-le (length calls - s.passes) calls (Pass ∷ []) (omega arith),
            list_all-append is_pass (drop (length calls - s.passes) calls) (Pass ∷ []),
            s.passed,
          ) refl;
      begun = λ none.
          let begun = s.begun none in
          (last_call-pass calls ∙ begun.0, omega (arith, begun.1, one), omega (arith, few.0 none));
      going = λ some.
          let going = s.going some in
          let last = ap steps_of (last_call-pass calls) in
          (omega (arith, going.0, one), omega (arith, few.1 some), omega (arith, going.2, one, last));
    }

-- a call other than a pass leaves no passes at the end
none_passed : (calls : List Call) → list_all is_pass (drop (length calls - 0) calls) ≡ true
none_passed calls =
    let whole : length calls - 0 ≡ length calls = omega arith in
    rw (whole, drop_all (length calls) calls (omega arith)) refl

standing_bid : (calls : List Call) (bid : BidType) → AuctionStanding calls → MayFollow calls (Bid bid) → AuctionStanding (calls ++ Bid bid ∷ [])
standing_bid calls bid s may =
    let one : length (calls ++ Bid bid ∷ []) ≡ length calls + 1 = length-append calls (Bid bid ∷ []) in
    let few = few_passes calls s may.open_auction in
    let small = bid_small bid may.known in
    let above : s.top ≤ bid_number bid = s.below (bid_number bid) may.admissible in
    let last : steps_of (last_call (calls ++ Bid bid ∷ [])) ≡ 0 = ap steps_of (last_call-push calls (Bid bid) refl) in
    let room : length calls ≤ 9 * bid_number bid + 3 =
    elim (cases_lt 0 s.top) [
      | inl some ↦
          let going = s.going some in
          omega (arith, going.2, few.1 some, steps_of_le (last_call calls))
      | inr none ↦
          let top_none : s.top ≡ 0 = omega arith in
          let begun = s.begun top_none in
          omega (arith, begun.1, few.0 top_none)
    ] in
    record {
      top = bid_number bid + 1;
      passes = 0;
      highest = omega (arith, small);
      below = λ number all.
          let lower = leb-true (suc (bid_number bid)) number (all_front (is_below number) calls (Bid bid) all).1 in
          omega (arith, lower);
      passed = none_passed (calls ++ Bid bid ∷ []);
      begun = λ none. absurd (omega (arith, none));
      going = λ some. (omega (arith, one), omega arith, omega (arith, one, last, room));
    }

-- a double or a redouble, which takes the auction one step on from its last bid
standing_step : (calls : List Call) (call : Call) → AuctionStanding calls → is_ended calls ≡ false → is_pass call ≡ false → (last_call calls ≡ None → ⊥) → steps_of (Some call) ≡ steps_of (last_call calls) + 1 → AuctionStanding (calls ++ call ∷ [])
standing_step calls call s open_auction other some_last step =
    let one : length (calls ++ call ∷ []) ≡ length calls + 1 = length-append calls (call ∷ []) in
    let few = few_passes calls s open_auction in
    let last : steps_of (last_call (calls ++ call ∷ [])) ≡ steps_of (Some call) = ap steps_of (last_call-push calls call other) in
    record {
      top = s.top;
      passes = 0;
      highest = s.highest;
      below = λ number all. s.below number (all_front (is_below number) calls call all).0;
      passed = none_passed (calls ++ call ∷ []);
      begun = λ none. absurd (some_last (s.begun none).0);
      going = λ some.
          let going = s.going some in
          (omega (arith, one), omega arith, omega (arith, one, last, step, going.2, few.1 some));
    }

standing_push : (calls : List Call) (call : Call) → AuctionStanding calls → MayFollow calls call → AuctionStanding (calls ++ call ∷ [])
standing_push calls Pass s may = standing_pass calls s may.open_auction
standing_push calls (Bid bid) s may = standing_bid calls bid s may
standing_push calls Double s may =
    let before = before_double calls may.admissible in
    standing_step calls Double s may.open_auction refl before.1 (omega (arith, before.0))
standing_push calls Redouble s may =
    let before = before_redouble calls may.admissible in
    standing_step calls Redouble s may.open_auction refl before.1 (omega (arith, before.0))

-- what holds of the front holds of the whole
standing_whole : (front rest : List Call) → AuctionStanding front → IsLegal (front ++ rest) → AuctionStanding (front ++ rest)
standing_whole front [] s legal = rw (append-nil front) s
standing_whole front (call ∷ rest) s legal =
    let may = may_follow_front MayFollow front call rest legal in
    let joined : front ++ call ∷ rest ≡ (front ++ call ∷ []) ++ rest = sym (append_assoc front (call ∷ []) rest) in
    rw joined (standing_whole (front ++ call ∷ []) rest (standing_push front call s may) (rw joined at legal))

-- a legal list of calls has at most 319 of them
pub legal_length : (calls : List Call) → IsLegal calls → length calls ≤ 319
legal_length calls legal =
    let s = standing_whole [] calls standing_none legal in
    elim (cases_lt 0 s.top) [
      | inl some ↦
          let going = s.going some in
          omega (arith, going.1, going.2, s.highest, steps_of_le (last_call calls))
      | inr none ↦
          let begun = s.begun (omega arith) in
          omega (arith, begun.1, begun.2)
    ]
