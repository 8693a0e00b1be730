-- One bid more.
use Rattle.std.proofs.Common.{ℕ, suc, ◌≡◌, ℤ, Option, None, Some, refl, ap, sym, ◌∙◌, arith}
use Rattle.std.proofs.lemmas.Int.{ints}
use Rattle.bridge_cards.specs.declared.seat.Side.{Side}
use Rattle.bridge_cards.specs.declared.seat.Side.TheVariants.{NorthSouth, EastWest}
use Rattle.bridge_cards.specs.declared.vulnerability.Vulnerability.{Vulnerability}
use Rattle.bridge_par.specs.declared.tricks.TrickTable.{TrickTable}
use Rattle.bridge_par.specs.declared.best_bids.BestBids.{BestBids}
use Rattle.bridge_par.specs.Par.{better, called, standing}
use Rattle.bridge_par.specs.BestBids.{best_of, or_best, IsBest}

-- of three scores the best, in any order
better-turned : (side : Side) (passed x best : ℤ) → better side passed (better side x best) ≡ better side (better side passed best) x
better-turned NorthSouth passed x best = grind (arith, ints)
better-turned EastWest passed x best = grind (arith, ints)

or_best-more : (side : Side) (passed x : ℤ) (best : Option ℤ) →
    better side passed (or_best side x best) ≡ better side (or_best side passed best) x
or_best-more side passed x None = refl
or_best-more side passed x (Some best) = better-turned side passed x best

-- what the definition says of one bid more
called-more : (table : TrickTable) (vulnerability : Vulnerability) (above : ℕ) (side : Side) (passed : ℤ) →
    called table vulnerability (suc above) side passed
    ≡ better side (called table vulnerability above side passed) (standing table vulnerability above side)
unfolding called
called-more table vulnerability above side passed = refl

called-none : (table : TrickTable) (vulnerability : Vulnerability) (side : Side) (passed : ℤ) →
    called table vulnerability 0 side passed ≡ passed
unfolding called
called-none table vulnerability side passed = refl

-- no bid at all
pub IsBest-none : (table : TrickTable) (vulnerability : Vulnerability) →
    IsBest table vulnerability 0 (record { north_south = None; east_west = None })
IsBest-none table vulnerability = record { called = λ side passed. none side passed }
  where
    none : (side : Side) (passed : ℤ) →
        or_best side passed (best_of (record { north_south = None; east_west = None }) side) ≡ called table vulnerability 0 side passed
    none NorthSouth passed = sym (called-none table vulnerability NorthSouth passed)
    none EastWest passed = sym (called-none table vulnerability EastWest passed)

-- a side's best with one bid more
more : (table : TrickTable) (vulnerability : Vulnerability) (above : ℕ) (best : BestBids) → IsBest table vulnerability above best →
    (side : Side) (passed x : ℤ) → x ≡ or_best side (standing table vulnerability above side) (best_of best side) →
    better side passed x ≡ called table vulnerability (suc above) side passed
more table vulnerability above best is side passed x here =
    ap (better side passed) here
    ∙ or_best-more side passed (standing table vulnerability above side) (best_of best side)
    ∙ ap (λ score. better side score (standing table vulnerability above side)) (is.called side passed)
    ∙ sym (called-more table vulnerability above side passed)

pub IsBest-more : (table : TrickTable) (vulnerability : Vulnerability) (above : ℕ) (best : BestBids) (ns ew : ℤ) →
    IsBest table vulnerability above best →
    ns ≡ or_best NorthSouth (standing table vulnerability above NorthSouth) (best_of best NorthSouth) →
    ew ≡ or_best EastWest (standing table vulnerability above EastWest) (best_of best EastWest) →
    IsBest table vulnerability (suc above) (record { north_south = Some ns; east_west = Some ew })
IsBest-more table vulnerability above best ns ew is here there = record { called = λ side passed. both side passed }
  where
    both : (side : Side) (passed : ℤ) →
        or_best side passed (best_of (record { north_south = Some ns; east_west = Some ew }) side)
        ≡ called table vulnerability (suc above) side passed
    both NorthSouth passed = more table vulnerability above best is NorthSouth passed ns here
    both EastWest passed = more table vulnerability above best is EastWest passed ew there
