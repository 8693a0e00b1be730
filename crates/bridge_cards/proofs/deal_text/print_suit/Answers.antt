use Rattle.std.proofs.Common.{◌≡◌, ◌+◌, ◌-◌, suc, true, ◌++◌, [], ◌∷◌, length, ap, sym, ◌∙◌, arith, rules}
use Rattle.std.proofs.lemmas.List.{append-nil, length-append}
use Rattle.std.proofs.lemmas.Str.{encode_ascii}
use Rattle.bridge_cards.specs.Card.{card_of}
use Rattle.bridge_cards.specs.CardSet.{has_card}
use Rattle.bridge_cards.specs.Rank.{rank_letter}
use Rattle.bridge_cards.specs.DealText.{suit_text}
use Rattle.bridge_cards.proofs.PrintLemmas.{lowest_letters, lowest_letters-none, lowest_letters-all, printed_yes, printed_no, printed_room}
use Rattle.bridge_cards.proofs.deal_text.print_suit.Goals as goal

pub loop-index-init : goal.loop-index-init
loop-index-init g c = ap (λ l. c.args.text.now.bytes ++ l) (lowest_letters-all c.args.hand c.args.suit)

pub push-requires : goal.push-requires
push-requires g c =
    let index = c.loop-index.index in
    let is_next : index ≡ suc (index - 1) = omega arith in
    let has : has_card c.args.hand (card_of c.args.suit (index - 1 + 2)) ≡ true = cc in
    let room = printed_room c.loop-index.text.bytes _ c.args.hand c.args.suit (index - 1) index is_next has c.loop-index.invariant in
    let whole = length-append c.args.text.now.bytes (suit_text c.args.hand c.args.suit) in
    let one = ap length (encode_ascii c.from.result (omega arith)) in
    (search rules, omega (arith, c.requires, room, whole, one))

pub loop-index-preserved-then-has : goal.loop-index-preserved-then-has
loop-index-preserved-then-has g c =
    let index = c.loop-index.index in
    let is_next : index ≡ suc (index - 1) = omega arith in
    let has : has_card c.args.hand (card_of c.args.suit (index - 1 + 2)) ≡ true = cc in
    let step = printed_yes c.loop-index.text.bytes _ c.args.hand c.args.suit (index - 1) index is_next has c.loop-index.invariant in
    let pushed : c.push.new.self.bytes ≡ c.loop-index.text.bytes ++ rank_letter (index - 1 + 2) ∷ []
    = c.push.ensures.ascii (omega arith) ∙ ap (λ l. c.loop-index.text.bytes ++ l ∷ []) (c.from.ensures ∙ c.letter.ensures.letter ∙ ap rank_letter c.of_index-rank.ensures) in
    ap (λ l. l ++ lowest_letters c.args.hand c.args.suit (index - 1)) pushed ∙ step

pub loop-index-preserved : goal.loop-index-preserved
loop-index-preserved g c =
    let index = c.loop-index.index in
    printed_no c.loop-index.text.bytes _ c.args.hand c.args.suit (index - 1) index (omega arith) (cc) c.loop-index.invariant

pub returns : goal.returns
returns g c =
    let done : c.loop-index.index ≡ 0 = omega arith in
    sym (append-nil c.loop-index.text.bytes)
    ∙ ap (λ l. c.loop-index.text.bytes ++ l) (sym (ap (lowest_letters c.args.hand c.args.suit) done ∙ lowest_letters-none c.args.hand c.args.suit))
    ∙ c.loop-index.invariant
