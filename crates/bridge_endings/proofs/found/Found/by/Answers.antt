use Rattle.bridge_endings.proofs.Finding.{answer_found}
use Rattle.bridge_endings.proofs.found.Found.by.Goals as goal

pub returns : goal.returns
returns c =
    let asked = c.args.asked.now in
    answer_found asked.hands asked.lengths _ c.requires.lengths asked.trump asked.tricks asked.need asked.leader c.args.answer.now c.narrowed.result c.requires.answer c.narrowed.ensures.bounded
