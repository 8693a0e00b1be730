use Rattle.std.proofs.Common.{◌∙◌, Ok, sym, ap}
use Rattle.sector_disk.proofs.ImageLaws.{image_is}
use Rattle.sector_disk.proofs.RunLaws.{quiet_joins}
use Rattle.session_store.specs.Stands.{recovered}
use Rattle.bridge_session.specs.SessionKeeping.{session_keeping}
use Rattle.club_disk.proofs.moving_aside.holds_an_opening.Goals as goal

pub returns-in-Ok-read_state-clause-opening : goal.returns-in-Ok-read_state-clause-opening
returns-in-Ok-read_state-clause-opening g c honest same =
    let reads = image_is _ _ (c.read_state.ensures.quiet.only_read honest).reads in (
      c.into_config.result,
      ap (recovered session_keeping) (sym reads)
          ∙ c.in-Ok-read_state.ensures.state (c.read_state.ensures.quiet.remains.stays_honest honest)
          ∙ ap (λ s. Ok s) (c.is_same_state.ensures.0 same ∙ c.in-Ok-new.ensures.opening),
    )

pub returns-in-Ok-read_state-clause-quiet : goal.returns-in-Ok-read_state-clause-quiet
returns-in-Ok-read_state-clause-quiet g c =
    quiet_joins g.D.SectorDisk.disk c.args.disk.now c.read_state.new.disk c.read_state-2.new.disk c.read_state.ensures.quiet c.read_state-2.ensures.quiet

pub returns-clause-quiet : goal.returns-clause-quiet
returns-clause-quiet g c =
    quiet_joins g.D.SectorDisk.disk c.args.disk.now c.read_state.new.disk c.read_state-2.new.disk c.read_state.ensures.quiet c.read_state-2.ensures.quiet
