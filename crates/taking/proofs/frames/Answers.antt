-- A waveform is measured, and gives a frame or is refused.
use Rattle.taking.proofs.Laws.{taken_last, measured-refused, measured-taken}
use Rattle.taking.proofs.frames.Goals as goal

pub stops_behind-requires : goal.stops_behind-requires
stops_behind-requires c = taken_last _ _ _ _ _ c.frame_of.ensures c.in-Ok.is

pub returns-in-Err : goal.returns-in-Err
returns-in-Err c = measured-refused (record { counts = c.channels_of-count.ensures; channels = c.at_most-n.ensures; fresh = c.refresh-l.ensures; gives = c.frame_of.ensures }) _ _ _ c.in-Err.is c.stops_at.ensures

pub returns-in-Ok : goal.returns-in-Ok
returns-in-Ok c = measured-taken (record { counts = c.channels_of-count.ensures; channels = c.at_most-n.ensures; fresh = c.refresh-l.ensures; gives = c.frame_of.ensures }) _ _ _ c.in-Ok.is c.waveform_of-frame.ensures c.stops_behind.ensures
