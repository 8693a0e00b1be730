use Rattle.std.proofs.Common.{◌≡◌, ◌+◌, ◌++◌, ◌∙◌, refl, length, map, drop, sym, ap, arith, length-append}
use Rattle.std.specs.List.{drop-map}
use Rattle.std.proofs.lemmas.List.{length-map, take-append-drop}
use Rattle.bridge_config.specs.ConfigValue.{ConfigValue, pair_of}
use Rattle.session_bytes.specs.Head.{head_parts, board_part_count}
use Rattle.session_bytes.specs.Parts.{pair_part, board_parts}
use Rattle.session_bytes.specs.Reading.{items_of}
use Rattle.bridge_session.proofs.Restored.{same_head, parts_long}
use Rattle.bridge_session.proofs.session.Session.from_parts.Goals as goal

pub split_at-requires : goal.split_at-requires
split_at-requires c =
    let config = c.in-Some.head.config in
    let parts = map items_of c.args.parts.now in
    let pairs : c.len-pairs.result ≡ length config.pairs
    = c.len-pairs.ensures.value ∙ sym (length-map c.fields.result.now.pairs.items pair_of) ∙ ap (λ (k : ConfigValue). length k.pairs) c.fields.ensures.fields in
    let whole : head_parts config c.in-Some.head.round ++ drop (2 + length config.pairs) parts ≡ parts
    = ap (λ ps. ps ++ drop (2 + length config.pairs) parts) c.in-Some.ensures.written ∙ take-append-drop (2 + length config.pairs) parts in
    let long = ap length whole in
    omega (
      arith,
      pairs,
      long,
      length-map c.args.parts.now items_of,
      length-map config.pairs pair_part,
      length-append (map pair_part config.pairs) (drop (2 + length config.pairs) parts),
    )

pub returns-in-Some-read_boards-clause-parts : goal.returns-in-Some-read_boards-clause-parts
returns-in-Some-read_boards-clause-parts c =
    let config = c.in-Some.head.config in
    let round = c.in-Some.head.round in
    let parts = map items_of c.args.parts.now in
    let session = c.in-Some-read_boards.session in
    let pairs : c.len-pairs.result ≡ length config.pairs
    = c.len-pairs.ensures.value ∙ sym (length-map c.fields.result.now.pairs.items pair_of) ∙ ap (λ (k : ConfigValue). length k.pairs) c.fields.ensures.fields in
    let behind : map items_of c.split_at.result.1.now ≡ drop (2 + length config.pairs) parts
    = ap (map items_of) c.split_at.ensures.back ∙ sym (drop-map items_of (2 + c.len-pairs.result) c.args.parts.now) ∙ ap (λ n. drop (2 + n) parts) pairs in
    ap (λ (k : ConfigValue). head_parts k session.round ++ board_parts c.args.format session) c.in-Some-read_boards.ensures.state.0
    ∙ ap (λ n. head_parts config n ++ board_parts c.args.format session) c.in-Some-read_boards.ensures.state.1
    ∙ ap (λ xs. head_parts config round ++ xs) (c.in-Some-read_boards.ensures.parts ∙ behind)
    ∙ ap (λ ps. ps ++ drop (2 + length config.pairs) parts) c.in-Some.ensures.written ∙ take-append-drop (2 + length config.pairs) parts

pub returns-in-None-clause-bad : goal.returns-in-None-clause-bad
returns-in-None-clause-bad c = λ bad s is has of.
    let config = c.in-Some.head.config in
    let round = c.in-Some.head.round in
    let parts = map items_of c.args.parts.now in
    let pairs : c.len-pairs.result ≡ length config.pairs
    = c.len-pairs.ensures.value ∙ sym (length-map c.fields.result.now.pairs.items pair_of) ∙ ap (λ (k : ConfigValue). length k.pairs) c.fields.ensures.fields in
    let behind : map items_of c.split_at.result.1.now ≡ drop (2 + length config.pairs) parts
    = ap (map items_of) c.split_at.ensures.back ∙ sym (drop-map items_of (2 + c.len-pairs.result) c.args.parts.now) ∙ ap (λ n. drop (2 + n) parts) pairs in
    let head = same_head s.configuration config s.round round (board_parts c.args.format s) (drop (2 + length config.pairs) parts) is.valid.configured c.fields.ensures.limits
    (of ∙ sym (ap (λ ps. ps ++ drop (2 + length config.pairs) parts) c.in-Some.ensures.written ∙ take-append-drop (2 + length config.pairs) parts)) in
    c.in-None.ensures.other s is has head.configuration head.round (head.behind ∙ sym behind)

pub returns-then-not-are_as_many-clause-bad : goal.returns-then-not-are_as_many-clause-bad
returns-then-not-are_as_many-clause-bad c = λ bad s is has of.
    let config = c.in-Some.head.config in
    let round = c.in-Some.head.round in
    let parts = map items_of c.args.parts.now in
    let pairs : c.len-pairs.result ≡ length config.pairs
    = c.len-pairs.ensures.value ∙ sym (length-map c.fields.result.now.pairs.items pair_of) ∙ ap (λ (k : ConfigValue). length k.pairs) c.fields.ensures.fields in
    let behind : map items_of c.split_at.result.1.now ≡ drop (2 + length config.pairs) parts
    = ap (map items_of) c.split_at.ensures.back ∙ sym (drop-map items_of (2 + c.len-pairs.result) c.args.parts.now) ∙ ap (λ n. drop (2 + n) parts) pairs in
    let head = same_head s.configuration config s.round round (board_parts c.args.format s) (drop (2 + length config.pairs) parts) is.valid.configured c.fields.ensures.limits
    (of ∙ sym (ap (λ ps. ps ++ drop (2 + length config.pairs) parts) c.in-Some.ensures.written ∙ take-append-drop (2 + length config.pairs) parts)) in
    let long = parts_long c.args.format s is config head.configuration (map items_of c.split_at.result.1.now) (head.behind ∙ sym behind) in
    let told = c.if-not-are_as_many.ensures.1 (sym (length-map c.split_at.result.1.now items_of) ∙ long) in
    absurd cc

pub returns-in_default-room_of-clause-memory : goal.returns-in_default-room_of-clause-memory
returns-in_default-room_of-clause-memory c = λ memory.
    let config = c.in-Some.head.config in
    let parts = map items_of c.args.parts.now in
    let pairs : c.len-pairs.result ≡ length config.pairs
    = c.len-pairs.ensures.value ∙ sym (length-map c.fields.result.now.pairs.items pair_of) ∙ ap (λ (k : ConfigValue). length k.pairs) c.fields.ensures.fields in
    let behind : map items_of c.split_at.result.1.now ≡ drop (2 + length config.pairs) parts
    = ap (map items_of) c.split_at.ensures.back ∙ sym (drop-map items_of (2 + c.len-pairs.result) c.args.parts.now) ∙ ap (λ n. drop (2 + n) parts) pairs in
    let whole : head_parts config c.in-Some.head.round ++ drop (2 + length config.pairs) parts ≡ parts
    = ap (λ ps. ps ++ drop (2 + length config.pairs) parts) c.in-Some.ensures.written ∙ take-append-drop (2 + length config.pairs) parts in
    let long = ap length whole in
    let few = ap length behind in
    let fits : length c.split_at.result.1.now ≡ board_part_count config = c.if-not-are_as_many.ensures.0 refl in
    record {
      configuration = config;
      round = c.in-Some.head.round;
      limits = c.fields.ensures.limits;
      within = c.in-Some.ensures.round;
      begins = c.in-Some.ensures.written;
      count = omega (
        arith,
        long,
        few,
        fits,
        length-map c.split_at.result.1.now items_of,
        length-map config.pairs pair_part,
        length-append (map pair_part config.pairs) (drop (2 + length config.pairs) parts),
      );
    }
