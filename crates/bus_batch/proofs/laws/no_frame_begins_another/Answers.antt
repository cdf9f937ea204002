use Rattle.bus_batch.proofs.FrameLaws.{no_frame_begins_another}
use Rattle.bus_batch.proofs.laws.no_frame_begins_another.Goals as goal

pub returns : goal.returns
returns c = no_frame_begins_another
