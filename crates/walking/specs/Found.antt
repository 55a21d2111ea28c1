-- What the walk finds, by the number of the point.
use Rattle.std.specs.Prelude.{◌<◌, Option, Some, None}
use Rattle.points.specs.Points.{point_at}
use Rattle.points.specs.Reach.{Safe, Lowest}
use Rattle.points.specs.declared.Point.{Point}
use Rattle.points.specs.declared.Way.{Way}
use Rattle.walking.specs.declared.found.Found.{Found}

-- nothing where no bad point is reached
abbrev pub FoundIn : (Point → Way) → Option Found → Type 0
FoundIn way None = Safe way
FoundIn way (Some f) = (f.number < 9225) × Lowest way (point_at f.number) f.status
