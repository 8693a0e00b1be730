-- The scoring table (Law 77). Each definition is a line of it, in points.
use Rattle.std.specs.Prelude.{ℕ, zero, suc, ◌+◌, ◌-◌, ◌*◌, Bool, true, false, ◌==◌, nat_lt, nat_le, if◌then◌else◌, ℤ, pos, neg_ℤ, ◌≤ℤ◌}
use Rattle.bridge_auction.specs.declared.bid.Denomination.{Denomination}
use Rattle.bridge_auction.specs.declared.bid.Denomination.TheVariants.{Clubs, Diamonds, Hearts, Spades, NoTrump}
use Rattle.bridge_auction.specs.declared.contract.Contract.{Contract}
use Rattle.bridge_auction.specs.declared.contract.Doubling.{Doubling}
use Rattle.bridge_auction.specs.declared.contract.Doubling.TheVariants.{Undoubled, Doubled, Redoubled}

-- the tricks that declarer undertakes to win
abbrev pub tricks_bid : Contract → ℕ
tricks_bid contract = contract.bid.level + 6

-- Trick score

-- each odd trick after the first, undoubled
abbrev pub trick_value : Denomination → ℕ
trick_value Clubs = 20
trick_value Diamonds = 20
trick_value Hearts = 30
trick_value Spades = 30
trick_value NoTrump = 30

-- the first odd trick, undoubled
abbrev pub first_trick_value : Denomination → ℕ
first_trick_value Clubs = 20
first_trick_value Diamonds = 20
first_trick_value Hearts = 30
first_trick_value Spades = 30
first_trick_value NoTrump = 40

-- what a double or a redouble multiplies the trick score by
abbrev pub times_for : Doubling → ℕ
times_for Undoubled = 1
times_for Doubled = 2
times_for Redoubled = 4

-- the odd tricks bid and made
abbrev pub contract_points : Contract → ℕ
contract_points contract =
    times_for contract.doubling
    * (first_trick_value contract.bid.denomination + (contract.bid.level - 1) * trick_value contract.bid.denomination)

-- Premiums

-- game where the trick score is 100 or more, else a part-score
abbrev pub game_premium : Contract → Bool → ℕ
game_premium contract vulnerable =
    if nat_lt (contract_points contract) 100 then 50 else (if vulnerable then 500 else 300)

-- a small slam, six odd tricks, and a grand slam, seven
abbrev pub slam_premium : ℕ → Bool → ℕ
slam_premium level vulnerable =
    if level == 6 then (if vulnerable then 750 else 500)
    else (if level == 7 then (if vulnerable then 1500 else 1000) else 0)

-- for making a doubled or redoubled contract
abbrev pub doubled_premium : Doubling → ℕ
doubled_premium Undoubled = 0
doubled_premium Doubled = 50
doubled_premium Redoubled = 100

-- each overtrick
abbrev pub overtrick_value : Contract → Doubling → Bool → ℕ
overtrick_value contract Undoubled vulnerable = trick_value contract.bid.denomination
overtrick_value contract Doubled vulnerable = if vulnerable then 200 else 100
overtrick_value contract Redoubled vulnerable = if vulnerable then 400 else 200

-- for so many overtricks
abbrev pub overtrick_points : Contract → Bool → ℕ → ℕ
overtrick_points contract vulnerable overtricks =
    overtricks * overtrick_value contract contract.doubling vulnerable

-- Undertricks, of which each has a value by how many come before it

-- doubled, not vulnerable: 100 for the first, 200 for the second and the third, 300 for each later one;
-- doubled, vulnerable: 200 for the first, 300 for each later one
abbrev pub doubled_undertrick_value : Bool → ℕ → ℕ
doubled_undertrick_value false before = if before == 0 then 100 else (if nat_lt before 3 then 200 else 300)
doubled_undertrick_value true before = if before == 0 then 200 else 300

-- undoubled 50, vulnerable 100; redoubled twice as much as doubled
abbrev pub undertrick_value : Doubling → Bool → ℕ → ℕ
undertrick_value Undoubled vulnerable before = if vulnerable then 100 else 50
undertrick_value Doubled vulnerable before = doubled_undertrick_value vulnerable before
undertrick_value Redoubled vulnerable before = 2 * doubled_undertrick_value vulnerable before

-- the first so many undertricks together
abbrev pub undertrick_points : Doubling → Bool → ℕ → ℕ
undertrick_points doubling vulnerable zero = 0
undertrick_points doubling vulnerable (suc before) =
    undertrick_points doubling vulnerable before + undertrick_value doubling vulnerable before

-- The score

-- the lines that apply to a contract made
abbrev pub points_made : Contract → Bool → ℕ → ℕ
points_made contract vulnerable overtricks =
    contract_points contract + overtrick_points contract vulnerable overtricks + game_premium contract vulnerable
    + slam_premium contract.bid.level vulnerable + doubled_premium contract.doubling

-- what declarer's side scores with so many tricks
abbrev pub score_of : Contract → Bool → ℕ → ℤ
score_of contract vulnerable tricks =
    if nat_le (tricks_bid contract) tricks then pos (points_made contract vulnerable (tricks - tricks_bid contract))
    else neg_ℤ (pos (undertrick_points contract.doubling vulnerable (tricks_bid contract - tricks)))

-- a score lies between that of a grand slam redoubled, vulnerable, down thirteen, and its negative
abbrev pub IsScore : ℤ → Type 0
IsScore points = (neg_ℤ (pos 7600) ≤ℤ points) × (points ≤ℤ pos 7600)
