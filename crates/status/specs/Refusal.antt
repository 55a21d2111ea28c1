-- What a command is refused with, and the status that it is.
use Rattle.std.specs.Prelude.{Result, Ok, Err}
use Rattle.status.specs.declared.Status.{Status}
use Rattle.status.specs.declared.Status.TheVariants as status
use Rattle.status.specs.declared.Refusal.{Refusal}
use Rattle.status.specs.declared.Refusal.TheVariants.{Unknown, Kind, Value, Locked, Unavailable}

abbrev pub status_of : Refusal → Status
status_of Unknown = status.Unknown
status_of Kind = status.Kind
status_of Value = status.Value
status_of Locked = status.Locked
status_of Unavailable = status.Unavailable

-- what is right is done; what is refused has the refusal's status
abbrev pub judged_as : Result Unit Refusal → Status
judged_as (Ok _) = status.Done
judged_as (Err refusal) = status_of refusal
