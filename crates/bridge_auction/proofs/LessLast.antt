-- The front of a list of which each element may follow those before it.
use Rattle.std.proofs.Common.{ℕ, ◌-◌, List, length, take, drop, sym, subst}
use Rattle.std.proofs.lemmas.List.{take-append-drop}
use Rattle.bridge_cards.specs.EachMayFollow.{EachMayFollow}
use Rattle.bridge_cards.proofs.FollowLaws.{each_may_follow-front}
use Rattle.bridge_auction.specs.Auction.{less_last}

-- the first so many of its elements
pub each_may_follow-take : {X : Type 0} (May : List X → X → Type 0) (n : ℕ) (xs : List X) → EachMayFollow May xs → EachMayFollow May (take n xs)
each_may_follow-take May n xs each =
    each_may_follow-front May (take n xs) (drop n xs) (subst (EachMayFollow May) (sym (take-append-drop n xs)) each)

-- all but its last
pub each_may_follow-less_last : {X : Type 0} (May : List X → X → Type 0) (xs : List X) → EachMayFollow May xs → EachMayFollow May (less_last xs)
each_may_follow-less_last May xs each = each_may_follow-take May (length xs - 1) xs each
