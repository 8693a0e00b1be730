-- The pairs that are read are spelled so, with no key twice, and those that are spelled so are read.
use Rattle.std.proofs.Common.{◌≡◌, ℕ, zero, suc, ◌+◌, ◌^◌, ◌≤◌, true, List, [], ◌∷◌, ◌++◌, length, Ok, refl, ap, subst, append_assoc, arith}
use Rattle.std.specs.Prelude.{All}
use Rattle.std.proofs.lemmas.List.{append-nil}
use Rattle.std.proofs.lemmas.List.Elements.{All-nil, All-cons, All-head, All-tail, All-append}
use Rattle.bridge_config.specs.ConfigValue.{Pair, keys_in}
use Rattle.bridge_config.specs.Limits.{are_distinct, IsPair}
use Rattle.bridge_config.specs.Spelling.{pair_text, pair_lines}
use Rattle.bridge_config.specs.Then.{◌>>=◌}
use Rattle.bridge_config.specs.LineReading.{pair_line}
use Rattle.bridge_config.specs.Reading.{pairs_in}
use Rattle.bridge_config.proofs.DistinctKeys.{are_distinct-front}
use Rattle.bridge_config.proofs.FiveWordLaws.{pair_takes, pair_again}
use Rattle.bridge_config.proofs.Steps.{bind_ok, ok_is, line_takes, All-append_parts, IsShort, TakesLines, takes_none, takes_line, pair_short}

-- the key fits in 32 bits
abbrev pub IsKey : ℕ → Type 0
IsKey key = key ≤ 4294967295

-- lines in front were read as pairs, and others are left
pub record TakesPairs (count index : ℕ) (earlier : List ℕ) (texts : List (List ℕ)) (pairs : List Pair) (rest : List (List ℕ)) : Type 0 where
  pub count_is : length pairs ≡ count
  pub lines : TakesLines texts (pair_lines index pairs) rest
  pub limits : All IsPair pairs
  pub keys : All IsKey (keys_in pairs)
  pub distinct : are_distinct earlier ≡ true → are_distinct (earlier ++ keys_in pairs) ≡ true

-- lines that were read as pairs spell them
pub pairs_takes : (count n index : ℕ) (earlier : List ℕ) (texts : List (List ℕ)) (read : List Pair × List (List ℕ)) →
    index + count ≤ 2 ^ 64 → pairs_in count n index earlier texts ≡ Ok read →
    TakesPairs count index earlier texts read.0 read.1
unfolding pairs_in
pairs_takes zero n index earlier texts read fits e =
    subst (λ (x : List Pair × List (List ℕ)). TakesPairs 0 index earlier texts x.0 x.1) (ok_is ([], texts) read e)
    (record {
      count_is = refl;
      lines = takes_none texts;
      limits = All-nil IsPair;
      keys = All-nil IsKey;
      distinct = λ before. rw append-nil before;
    })
pairs_takes (suc count) n index earlier texts read fits e =
    let a = line_takes n texts (pair_line n index earlier) (λ pair rest. pairs_in count (n + 1) (index + 1) (earlier ++ pair.keys) rest >>= λ others. Ok (pair ∷ others.0, others.1)) read e in
    let line : List ℕ = a.0 in
    let rest : List (List ℕ) = a.1 in
    let pair : Pair = a.2 in
    let b = bind_ok (pairs_in count (n + 1) (index + 1) (earlier ++ pair.keys) rest) (λ others. Ok (pair ∷ others.0, others.1)) read a.5 in
    let pairs : List Pair = b.0.0 in
    let others = pairs_takes count (n + 1) (index + 1) (earlier ++ pair.keys) rest b.0 (omega arith) b.1 in
    let one = pair_takes n index earlier line pair (omega arith) a.4 in
    subst (λ (x : List Pair × List (List ℕ)). TakesPairs (suc count) index earlier texts x.0 x.1) (ok_is (pair ∷ pairs, b.0.1) read b.2)
    (record {
      count_is = ap suc others.count_is;
      lines = takes_line texts line (pair_text index pair) rest (pair_lines (index + 1) pairs) b.0.1 a.3 one.0 (pair_short n index earlier line pair a.4) others.lines;
      limits = All-cons IsPair pair pairs one.1 others.limits;
      keys = All-append IsKey pair.keys (keys_in pairs) one.2 others.keys;
      distinct = λ before. rw (← append_assoc earlier pair.keys (keys_in pairs)) (others.distinct (one.3 before));
    })

-- lines that spell pairs are read as them, where no key stands twice
pub pairs_again : (n index : ℕ) (earlier : List ℕ) (pairs : List Pair) (rest : List (List ℕ)) →
    index + length pairs ≤ 2 ^ 64 → All IsShort (pair_lines index pairs) → All IsPair pairs → All IsKey (keys_in pairs) →
    are_distinct (earlier ++ keys_in pairs) ≡ true →
    pairs_in (length pairs) n index earlier (pair_lines index pairs ++ rest) ≡ Ok (pairs, rest)
unfolding pairs_in
pairs_again n index earlier [] rest fits short limits keys distinct = refl
pairs_again n index earlier (pair ∷ pairs) rest fits short limits keys distinct =
    let parts = All-append_parts IsKey pair.keys (keys_in pairs) keys in
    let apart : are_distinct ((earlier ++ pair.keys) ++ keys_in pairs) ≡ true =
    rw append_assoc distinct in
    let one : pair_line n index earlier (pair_text index pair) ≡ Ok pair =
    pair_again n index earlier (pair_text index pair) pair (omega arith)
    (All-head IsShort (pair_text index pair) (pair_lines (index + 1) pairs) short) (All-head IsPair pair pairs limits) parts.0
    (are_distinct-front (earlier ++ pair.keys) (keys_in pairs) apart) refl in
    let others : pairs_in (length pairs) (n + 1) (index + 1) (earlier ++ pair.keys) (pair_lines (index + 1) pairs ++ rest) ≡ Ok (pairs, rest) =
    pairs_again (n + 1) (index + 1) (earlier ++ pair.keys) pairs rest (omega arith)
    (All-tail IsShort (pair_text index pair) (pair_lines (index + 1) pairs) short) (All-tail IsPair pair pairs limits) parts.1 apart in
    rw (one, others) refl
