-- What a contract sees of a cache: for endings by their keys two bounds of the worth, those used last first; how many endings
-- it may keep; and how many cards were tried.
use Rattle.std.specs.Prelude.{◌≡◌, ℕ, ◌+◌, ◌≤◌, ◌⊎◌, List, length, [], ◌∷◌, ◌++◌, Option, Some, None, IsSome, Contains, nat_eq}
use Rattle.std.proofs.Common.{inl, inr}
use Rattle.std.specs.Map.{lookup}
use Rattle.std.specs.Cmp.Lexicographic.{pointwise}
use Rattle.std.specs.Borrow.{MutBor}
use Rattle.lru.specs.LruCache.{lru_cache, put_entries}
use Rattle.bridge_cards.specs.declared.suit.Suit.{Suit}
use Rattle.bridge_cards.specs.Suit.{suit_number}
use Rattle.bridge_cards.specs.Seat.{seat_number}
use Rattle.bridge_endings.specs.declared.bounds.Bounds.{Bounds}
use Rattle.bridge_endings.specs.EndingValue.{EndingValue}
use Rattle.bridge_endings.specs.Ending.{IsEnding}
use Rattle.bridge_endings.specs.Worth.{worth_of}
use Rattle.bridge_endings.specs.Between.{IsBounded}

-- the entries, how many there may be, and the cards tried so far
pub record CacheValue : Type 0 where
  pub entries : List (List ℕ × Bounds)
  pub capacity : ℕ
  pub tried : ℕ

-- the trump suit's number, from 1; 0 where there is none
abbrev pub trump_number : Option Suit → ℕ
trump_number None = 0
trump_number (Some suit) = suit_number suit + 1

-- what stands for an ending: its hands, its trump suit and the seat to lead
abbrev pub key_of : EndingValue → List ℕ
key_of ending = ending.hands ++ trump_number ending.trump ∷ seat_number ending.leader ∷ []

-- each entry's bounds are true of its ending
abbrev pub EachIsTrue : List (List ℕ × Bounds) → Type 0
EachIsTrue entries = (key : List ℕ) (bounds : Bounds) → Contains entries (key, bounds)
    → (ending : EndingValue) → IsEnding ending.hands → key_of ending ≡ key → IsBounded (worth_of ending) bounds

-- what holds of the entries of every cache
pub record AreKept (entries : List (List ℕ × Bounds)) (capacity : ℕ) : Type 0 where
  pub each_true : EachIsTrue entries
  pub some : 1 ≤ capacity
  pub few : length entries ≤ capacity

-- the bounds that are kept of an ending
abbrev pub bounds_of : CacheValue → EndingValue → Option Bounds
bounds_of cache ending = lookup (pointwise nat_eq (key_of ending)) cache.entries

-- the ending is kept with that number as both bounds
abbrev pub KeepsWorth : CacheValue → EndingValue → ℕ → Type 0
KeepsWorth cache ending worth = bounds_of cache ending ≡ Some (record { least = worth; most = worth })

-- The entries once the ending is kept with that number as both bounds: it stands first. Where it was not there and the
-- cache is full, the ending that was used least recently gives way.
abbrev pub entries_with : CacheValue → EndingValue → ℕ → List (List ℕ × Bounds)
entries_with cache ending worth =
    put_entries (pointwise nat_eq) (lru_cache cache.entries cache.capacity) (key_of ending) (record { least = worth; most = worth })

-- what the keeping of an ending that comes to that worth does to a cache
pub record KeepingWorth (ending : EndingValue) (worth : ℕ) (old new : CacheValue) : Type 0 where
  -- both bounds are the worth, unless memory was refused
  pub kept : KeepsWorth new ending worth ⊎ (new.entries ≡ old.entries)
  -- the others are kept too, as many as may be, and an ending that was kept becomes the one used last
  pub others : (new.entries ≡ entries_with old ending worth) ⊎ (new.entries ≡ old.entries)
  pub again : IsSome (bounds_of old ending) → new.entries ≡ entries_with old ending worth
  pub capacity : new.capacity ≡ old.capacity
  pub room : length new.entries ≤ new.capacity
  pub true_bounds : EachIsTrue new.entries

-- what the solving of an ending that comes to that worth does to a cache
pub record Solving (ending : EndingValue) (worth : ℕ) (old new : CacheValue) : Type 0 where
  pub keeping : KeepingWorth ending worth old new
  -- the cards tried are counted, none for an ending that was kept with its worth
  pub tried : old.tried ≤ new.tried
  pub known : (kept : ℕ) → KeepsWorth old ending kept → new.tried ≡ old.tried

-- what holds of a cache that is lent, before and after
abbrev pub OfCache : Option (MutBor CacheValue) → Unit {0} ⊎ ((MutBor CacheValue × Unit {0}) ⊎ ⊥) → (CacheValue → CacheValue → Type 0) → Type 0
OfCache None _ P = Unit {0}
OfCache (Some cache) (inr (inl left)) P = P cache.now left.0.now
OfCache (Some cache) _ P = ⊥
