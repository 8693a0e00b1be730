use Rattle.std.proofs.Common.{take}
use Rattle.http_server.specs.Response.{fields_of}
use Rattle.web_requests.specs.Filled.{guard_fields}
use Rattle.web_requests.proofs.Headers.{then_one, then_last}
use Rattle.web_requests.proofs.filling.guard.Goals as goal

pub returns-clause-headers : goal.returns-clause-headers
returns-clause-headers c =
    let start = fields_of c.args.response.now in
    let one = fields_of c.add.new.response in
    let two = fields_of c.add-2.new.response in
    let three = fields_of c.add-3.new.response in
    let four = fields_of c.add-4.new.response in
    let b = then_one start one two (take 1 guard_fields) _ c.in_ok-add.ensures.headers c.in_ok-add-2.ensures.headers in
    let d = then_one start two three (take 2 guard_fields) _ b c.in_ok-add-3.ensures.headers in
    let e = then_one start three four (take 3 guard_fields) _ d (rw c.from_static.ensures at c.in_ok-add-4.ensures.headers) in
    then_last c.add-5.result start four (fields_of c.add-5.new.response) (take 4 guard_fields) _ e c.add-5.ensures.headers
