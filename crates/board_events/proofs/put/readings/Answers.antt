-- `board_events::put::readings`.
use Rattle.sampling.specs.Sample.{settled}
use Rattle.sheet.specs.Sheet.{axis}
use Rattle.reg_image.proofs.Places.{then}
use Rattle.board_events.proofs.put.readings.Goals as goal

pub returns : goal.returns
unfolding settled axis
returns c =
    then _ _ _ _ _ (then _ _ _ _ _ (then _ _ _ _ _ (then _ _ _ _ _ (then _ _ _ _ _ (then _ _ _ _ _ (then _ _ _ _ _ c.reading.ensures c.reading-2.ensures) c.reading-3.ensures) c.reading-4.ensures) c.reading-5.ensures) c.reading-6.ensures) c.reading-7.ensures) c.reading-8.ensures
