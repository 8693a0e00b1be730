-- A session has at most 494 parts.
use Rattle.session_store.specs.declared.disk_format.DiskFormat.TheVariants.{Two}
use Rattle.std.proofs.Common.{◌≡◌, ◌+◌, ◌*◌, ◌≤◌, ℕ, List, length, map, ap, ◌∙◌, arith}
use Rattle.std.specs.Prelude.{Option, nat_le}
use Rattle.std.proofs.Math.Nat.{mul-le-mul}
use Rattle.std.proofs.lemmas.Bool.{leb-true, and_parts}
use Rattle.std.proofs.lemmas.List.{length-map}
use Rattle.bridge_config.specs.ConfigValue.{ConfigValue}
use Rattle.bridge_config.specs.Limits.{IsConfiguration}
use Rattle.bridge_table.specs.declared.record.Record.{Record}
use Rattle.bridge_session.specs.KeptSession.{state_of, IsKeptSession}
use Rattle.bridge_table.specs.Kept.{plain_of}
use Rattle.session_bytes.specs.Parts.{parts_of}
use Rattle.session_bytes.proofs.PartIndexes.{count_parts}

-- the numbers of pairs, boards and plays are within bounds
pub record AreFew (configuration : ConfigValue) (deals : List (Option (List ℕ))) (tables : List (List Record)) : Type 0 where
  pub pairs : length configuration.pairs ≤ 24
  pub deals_few : length deals ≤ 36
  pub tables_few : length tables ≤ 144
  pub plays : length tables * configuration.boards ≤ 432

pub few_of_each : (configuration : ConfigValue) (round : ℕ) (deals : List (Option (List ℕ))) (tables : List (List Record)) → IsConfiguration configuration → IsKeptSession configuration round deals tables → AreFew configuration deals tables
few_of_each configuration round deals tables limits kept =
    let shape = configuration.movement.shape in
    let boards = leb-true configuration.boards 3 (and_parts (nat_le 1 configuration.boards) (nat_le configuration.boards 3) limits.boards).1 in
    let rows : length tables ≤ 144 = omega (arith, kept.rows, mul-le-mul limits.shape.rounds.1 limits.shape.tables.1) in
    record {
      pairs = omega (arith, limits.count, limits.shape.pairs.1);
      deals_few = omega (arith, kept.boards, mul-le-mul limits.shape.sets.1 boards);
      tables_few = rows;
      plays = omega (arith, mul-le-mul rows boards);
    }

pub count_kept : (configuration : ConfigValue) (round : ℕ) (deals : List (Option (List ℕ))) (tables : List (List Record)) →
    length (parts_of Two (state_of configuration round deals tables)) ≡ 2 + length configuration.pairs + length deals + length tables * configuration.boards
count_kept configuration round deals tables =
    count_parts Two (state_of configuration round deals tables)
    ∙ ap (λ n. 2 + length configuration.pairs + length deals + n * configuration.boards) (length-map tables (map plain_of))
