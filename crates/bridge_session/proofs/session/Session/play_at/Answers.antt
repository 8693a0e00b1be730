use Rattle.session_store.specs.declared.disk_format.DiskFormat.TheVariants.{Two}
use Rattle.std.proofs.Common.{Vec, Global, ◌≡◌, ◌/◌, ◌%◌, Some, None, sym, ap, subst, ◌∙◌, arith}
use Rattle.std.specs.Prelude.{slice_get, nat_le, Option, IfSome}
use Rattle.std.specs.Option.{option_copied}
use Rattle.std.proofs.lemmas.Bool.{leb-true, and_parts}
use Rattle.std.proofs.lemmas.List.{length-map}
use Rattle.bridge_cards.specs.Board.{dealer_of}
use Rattle.bridge_config.specs.ConfigValue.{ConfigValue}
use Rattle.bridge_table.specs.declared.record.Record.{Record}
use Rattle.session_rules.specs.State.{SessionValue}
use Rattle.bridge_table.specs.Kept.{IsTiedIn}
use Rattle.session_bytes.specs.Parts.{record_part}
use Rattle.bridge_table.proofs.Tables.{tied_row, lists_in, list_there}
use Rattle.session_rules.proofs.Lists.{all_at}
use Rattle.bridge_session.proofs.PlayIndexes.{row_within, play_part_is, found_or_empty}
use Rattle.bridge_session.proofs.session.Session.play_at.Goals as goal
use Rattle.bridge_session.proofs.session.Session.play_at.Goals.{After-record_at}

-- what is there has what follows from what it has
if_some : (P Q : Record → Type 0) (o : Option Record) → ((kept : Record) → P kept → Q kept) → IfSome o P → IfSome o Q
if_some P Q None follows is = tt
if_some P Q (Some kept) follows is = follows kept is

-- the play's row is there
pub index-table-requires : goal.index-table-requires
index-table-requires c =
    let s = c.self.inside in
    let configured : c.from-boards.result ≡ s.config.boards = c.from-boards.ensures ∙ ap (λ (k : ConfigValue). k.boards) c.fields.ensures.fields in
    let least = leb-true 1 s.config.boards (and_parts (nat_le 1 s.config.boards) (nat_le s.config.boards 3) c.fields.ensures.limits.boards).0 in
    let within = row_within c.args.self.now (lists_in s.tables.items) c.from-boards.result c.args.index (ap (λ (t : SessionValue). t.records) c.self.view_is)
    (configured ∙ ap (λ (t : SessionValue). t.configuration.boards) c.self.view_is) (omega (arith, least, configured)) c.requires in
    omega (arith, within, length-map s.tables.items (λ (table : Vec Record Global). table.items))

row_there : (c : After-record_at) → slice_get (lists_in c.self.inside.tables.items) (c.args.index / c.from-boards.result) ≡ Some c.as_slice.result.now
row_there c =
    let s = c.self.inside in
    let index = c.args.index / c.from-boards.result in
    let configured : c.from-boards.result ≡ s.config.boards = c.from-boards.ensures ∙ ap (λ (k : ConfigValue). k.boards) c.fields.ensures.fields in
    let least = leb-true 1 s.config.boards (and_parts (nat_le 1 s.config.boards) (nat_le s.config.boards 3) c.fields.ensures.limits.boards).0 in
    let within = row_within c.args.self.now (lists_in s.tables.items) c.from-boards.result c.args.index (ap (λ (t : SessionValue). t.records) c.self.view_is)
    (configured ∙ ap (λ (t : SessionValue). t.configuration.boards) c.self.view_is) (omega (arith, least, configured)) c.requires in
    list_there s.tables.items index c.index-table.result.now within c.index-table.ensures ∙ ap Some (sym c.as_slice.ensures.value)

pub returns-clause-part : goal.returns-clause-part
returns-clause-part c =
    let s = c.self.inside in
    let table = c.as_slice.result.now in
    let index = c.args.index % c.from-boards.result in
    let configured : c.from-boards.result ≡ s.config.boards = c.from-boards.ensures ∙ ap (λ (k : ConfigValue). k.boards) c.fields.ensures.fields in
    let least = leb-true 1 s.config.boards (and_parts (nat_le 1 s.config.boards) (nat_le s.config.boards 3) c.fields.ensures.limits.boards).0 in
    let part_is = play_part_is c.args.self.now (lists_in s.tables.items) c.from-boards.result c.args.index (ap (λ (t : SessionValue). t.records) c.self.view_is)
    (configured ∙ ap (λ (t : SessionValue). t.configuration.boards) c.self.view_is) (omega (arith, least, configured)) c.requires table (row_there c) in
    ap (record_part Two) (sym (found_or_empty table index (option_copied c.record_at.result) c.record_at.ensures)) ∙ sym part_is

pub returns-clause-dealer : goal.returns-clause-dealer
returns-clause-dealer c =
    let s = c.self.inside in
    let table = c.as_slice.result.now in
    let index = c.args.index % c.from-boards.result in
    let tied = tied_row s.deals.items (lists_in s.tables.items) (c.args.index / c.from-boards.result) table c.self.invariant.tied (row_there c) in
    if_some (IsTiedIn s.deals.items) (λ kept. kept.auction.dealer ≡ dealer_of kept.board) (option_copied c.record_at.result) (λ kept is. is.tied.dealer)
    (subst (λ o. IfSome o (IsTiedIn s.deals.items)) (sym c.record_at.ensures) (all_at (IsTiedIn s.deals.items) table index tied))
