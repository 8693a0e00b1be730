use Rattle.session_store.specs.declared.disk_format.DiskFormat.TheVariants.{Two}
use Rattle.std.proofs.Common.{Vec, Global, ◌≡◌, ◌+◌, ◌*◌, length, sym, ap, ◌∙◌, arith}
use Rattle.std.proofs.lemmas.List.{length-map}
use Rattle.bridge_config.specs.ConfigValue.{ConfigValue, pair_of}
use Rattle.bridge_table.specs.declared.record.Record.{Record}
use Rattle.session_rules.specs.State.{SessionValue}
use Rattle.session_bytes.specs.Parts.{parts_of}
use Rattle.bridge_table.proofs.Tables.{lists_in}
use Rattle.bridge_session.proofs.PartCount.{few_of_each, count_kept}
use Rattle.bridge_session.proofs.session.Session.parts.Goals as goal
use Rattle.bridge_session.proofs.session.Session.parts.Goals.{After-len-3}

pairs_are : (c : After-len-3) → c.len-2.result ≡ length c.self.inside.config.pairs
pairs_are c =
    let fields = c.fields-fields.result.now in
    c.len-2.ensures.value ∙ sym (length-map fields.pairs.items pair_of)
    ∙ ap (λ (k : ConfigValue). length k.pairs) c.fields-fields.ensures.fields

plays_are : (c : After-len-3) → c.len.result * c.from.result ≡ length (lists_in c.self.inside.tables.items) * c.self.inside.config.boards
plays_are c =
    let s = c.self.inside in
    let boards : c.from.result ≡ s.config.boards = c.from.ensures ∙ ap (λ (k : ConfigValue). k.boards) c.fields-fields.ensures.fields in
    let rows : c.len.result ≡ length (lists_in s.tables.items) = omega (arith, c.len.ensures, length-map s.tables.items (λ (table : Vec Record Global). table.items)) in
    ap (λ n. n * c.from.result) rows ∙ ap (λ n. length (lists_in s.tables.items) * n) boards

pub returns-clause-count : goal.returns-clause-count
returns-clause-count c =
    let s = c.self.inside in
    let tables = lists_in s.tables.items in
    let count = sym (count_kept s.config s.round s.deals.items tables) ∙ ap (λ (t : SessionValue). length (parts_of Two t)) c.self.view_is in
    let sum : 2 + c.len-2.result + c.len-3.result + c.len.result * c.from.result ≡ 2 + length s.config.pairs + length s.deals.items + length tables * s.config.boards
    = omega (arith, pairs_are c, plays_are c, c.len-3.ensures) in
    sum ∙ count

pub returns-clause-few : goal.returns-clause-few
returns-clause-few c =
    let s = c.self.inside in
    let tables = lists_in s.tables.items in
    let few = few_of_each s.config s.round s.deals.items tables c.fields-fields.ensures.limits c.self.invariant in
    omega (arith, pairs_are c, plays_are c, c.len-3.ensures, few.pairs, few.deals_few, few.plays)
