use Rattle.std.proofs.Common.{◌≡◌, Bool, true, false, subst, sym, ◌∙◌, ap}
use Rattle.std.specs.Prelude.{codes}
use Rattle.std.specs.Str.{bytes_eq}
use Rattle.line_text.specs.Words.{spaced_words}
use Rattle.table_server.specs.LineCommand.{ReadsAfter}
use Rattle.table_server.proofs.CommandLaws.{read_after}
use Rattle.table_server.proofs.line_command.read_line.Goals as goal

pub returns-then-eq : goal.returns-then-eq
returns-then-eq c =
    let word = c.in-Some.keyword.now in
    let rest = c.in-Some.rest.now in
    let is : bytes_eq word (codes "DEAL") ≡ true = ap (bytes_eq word) (sym c.as_slice.ensures) ∙ sym c.if-eq.ensures in
    read_after c.args.line.now word rest c.read_deal_line.result c.in-Some.ensures
    (subst (λ (b : Bool). ReadsAfter b word (spaced_words rest) c.read_deal_line.result) (sym is) c.read_deal_line.ensures)

pub returns-else-eq : goal.returns-else-eq
returns-else-eq c =
    let word = c.in-Some.keyword.now in
    let rest = c.in-Some.rest.now in
    let is : bytes_eq word (codes "DEAL") ≡ false = ap (bytes_eq word) (sym c.as_slice.ensures) ∙ sym c.if-eq.ensures in
    read_after c.args.line.now word rest c.read_plain_line.result c.in-Some.ensures
    (subst (λ (b : Bool). ReadsAfter b word (spaced_words rest) c.read_plain_line.result) (sym is) c.read_plain_line.ensures)
