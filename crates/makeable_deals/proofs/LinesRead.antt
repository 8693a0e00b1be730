-- The lines of a text of deals, one after another.
use Rattle.std.proofs.Common.{◌≡◌, ℕ, suc, ◌+◌, ◌-◌, ◌<◌, List, [], ◌∷◌, Result, Ok, Err, inl, inr, refl, sym, subst, ap, arith}
use Rattle.makeable_deals.specs.declared.board_deal.BoardDeal.{BoardDeal}
use Rattle.makeable_deals.specs.declared.heading.Heading.{Heading}
use Rattle.makeable_deals.specs.declared.refused.DealsFault.{DealsFault}
use Rattle.makeable_deals.specs.declared.refused.DealsRefused.{DealsRefused}
use Rattle.makeable_deals.specs.declared.refused.DealsRefused.TheVariants.{TooManyLines}
use Rattle.makeable_deals.specs.Reading.{no_heading, TakesLine, RefusesLine, StepsBy, ReadsLines, ReadsDeals, fault_at}

one_more : (n : ℕ) → n < 100001 → 100001 - n ≡ suc (100001 - (n + 1))
one_more n below = omega arith

-- a line that was taken
pub line_taken : (n : ℕ) (heading next : Heading) (found after : List BoardDeal) (line : List ℕ) (texts all : List (List ℕ)) (result : Result (List BoardDeal) DealsFault) →
    n < 100001 → all ≡ line ∷ texts → TakesLine heading found line next after →
    ReadsLines (100001 - (n + 1)) (n + 1) next after texts result → ReadsLines (100001 - n) n heading found all result
unfolding ReadsLines
line_taken n heading next found after line texts all result below whole taken rest =
    let P : ℕ → Type 0 = λ more. ReadsLines more n heading found (line ∷ texts) result in
    let Q : List (List ℕ) → Type 0 = λ ls. ReadsLines (100001 - n) n heading found ls result in
    let here : P (suc (100001 - (n + 1))) = inr (next, after, taken, rest) in
    subst Q (sym whole) (subst P (sym (one_more n below)) here)

-- a line that was refused
pub line_refused : (n : ℕ) (heading : Heading) (found : List BoardDeal) (line : List ℕ) (texts all : List (List ℕ)) (cause : DealsRefused) →
    n < 100001 → all ≡ line ∷ texts → RefusesLine heading found line cause →
    ReadsLines (100001 - n) n heading found all (Err (fault_at n cause))
unfolding ReadsLines
line_refused n heading found line texts all cause below whole fails =
    let P : ℕ → Type 0 = λ more. ReadsLines more n heading found (line ∷ texts) (Err (fault_at n cause)) in
    let Q : List (List ℕ) → Type 0 = λ ls. ReadsLines (100001 - n) n heading found ls (Err (fault_at n cause)) in
    let here : P (suc (100001 - (n + 1))) = inl (cause, fails, refl) in
    subst Q (sym whole) (subst P (sym (one_more n below)) here)

-- the end of the lines
pub ended_at : (n : ℕ) (heading : Heading) (found : List BoardDeal) (all : List (List ℕ)) → n < 100001 → all ≡ [] →
    ReadsLines (100001 - n) n heading found all (Ok found)
unfolding ReadsLines
ended_at n heading found all below none =
    let P : ℕ → Type 0 = λ more. ReadsLines more n heading found [] (Ok found) in
    let Q : List (List ℕ) → Type 0 = λ ls. ReadsLines (100001 - n) n heading found ls (Ok found) in
    subst Q (sym none) (subst P (sym (one_more n below)) refl)

-- more lines than there may be
pub too_many : (n : ℕ) (heading : Heading) (found : List BoardDeal) (all : List (List ℕ)) → n ≡ 100001 →
    ReadsLines (100001 - n) n heading found all (Err (fault_at 100000 TooManyLines))
unfolding ReadsLines
too_many n heading found all last =
    let P : ℕ → Type 0 = λ k. ReadsLines (100001 - k) k heading found all (Err (fault_at 100000 TooManyLines)) in
    subst P (sym last) refl

-- what follows from all that is left follows from the whole
abbrev pub LeadsOn : ℕ → Heading → List BoardDeal → List (List ℕ) → List (List ℕ) → Type 0
LeadsOn n heading found left all =
    (result : Result (List BoardDeal) DealsFault) → ReadsLines (100001 - n) n heading found left result
    → ReadsLines 100000 1 no_heading [] all result

-- a line or memory that was refused
pub stopped : (n : ℕ) (heading next : Heading) (found after : List BoardDeal) (line : List ℕ) (texts left all : List (List ℕ)) (fault : DealsFault) →
    n < 100001 → left ≡ line ∷ texts → StepsBy n heading found line next after (Err fault) →
    LeadsOn n heading found left all → ReadsDeals all (Err fault)
stopped n heading next found after line texts left all fault below whole (inl memory) leads = inl (ap Err memory)
stopped n heading next found after line texts left all fault below whole (inr (cause, fails, is)) leads =
    inr (subst (λ f. ReadsLines 100000 1 no_heading [] all (Err f)) (sym is)
    (leads (Err (fault_at n cause)) (line_refused n heading found line texts left cause below whole fails)))

-- the first line
pub begun : (heading : Heading) (found : List BoardDeal) (all : List (List ℕ)) → heading ≡ no_heading → found ≡ [] →
    LeadsOn 1 heading found all all
begun heading found all same none result reads =
    subst (λ (h : Heading). ReadsLines 100000 1 h [] all result) same
    (subst (λ (f : List BoardDeal). ReadsLines 100000 1 heading f all result) none reads)
