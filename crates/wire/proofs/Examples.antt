-- The frames of the examples compute. Assumes nothing.
use mathlib.Core.Path.{refl}
use Rattle.checksum.specs.Checksum.{right_frame}
use Rattle.wire.specs.Frame.{frame}
use Rattle.wire.specs.Examples.{Examples}

pub examples : Examples
unfolding frame right_frame
examples =
    record {
      command_1 = refl;
      reply_1 = refl;
      command_2 = refl;
      wrong_2 = refl;
      reply_2 = refl;
      command_3 = refl;
      reply_3 = refl;
      command_4 = refl;
      reply_4 = refl;
      command_5 = refl;
      reply_5 = refl;
    }
