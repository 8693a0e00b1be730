use Rattle.std.proofs.Common.{arith}
use Rattle.session_store.proofs.PutLemmas.{put_zeros}
use Rattle.session_store.proofs.sectors.put.Goals as goal

pub returns : goal.returns
returns c = λ before long was.
    put_zeros before c.args.part.now _ _ c.args.at _ long (omega arith) c.copy_from_slice.ensures.after was c.requires
