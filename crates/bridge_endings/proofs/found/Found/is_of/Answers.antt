use Rattle.std.proofs.Common.{rules, ◌≡◌, sym, ◌∙◌}
use Rattle.bridge_endings.proofs.Finding.{hands_agree, found_there}
use Rattle.bridge_endings.proofs.Lengths.{same_all_lengths}
use Rattle.bridge_endings.proofs.found.Found.is_of.Goals as goal

pub returns : goal.returns
returns c = λ yes other out same.
    let found = c.args.self.now in
    let lengths : found.lengths ≡ c.args.lengths = search (rules) in
    let leader : found.leader ≡ c.args.leader = search (c.ne.ensures, rules) in
    let trump : found.trump ≡ c.args.trump = search (rules) in
    let tricks : found.tricks ≡ c.args.tricks = search (rules) in
    found_there found c.requires.found c.args.hands.now c.args.trump c.args.tricks c.args.leader trump leader tricks
    (hands_agree found.hands c.args.hands.now found.counts (c.hold_alike.ensures yes) (same_all_lengths found.hands c.args.hands.now (sym c.requires.found.lengths ∙ lengths ∙ c.requires.lengths))) other out same
