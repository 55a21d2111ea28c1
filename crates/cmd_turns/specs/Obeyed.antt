-- What a command of direct mode, or a control command, answers.
use Rattle.std.specs.Prelude.{Result, Ok, Err, pos}
use Rattle.words.specs.Word.{word}
use Rattle.status.specs.declared.Status.{Status}
use Rattle.status.specs.declared.Refusal.{Refusal}
use Rattle.status.specs.Refusal.{status_of}
use Rattle.cmd_turns.specs.declared.Obeyed.{Obeyed}

-- "value 0; nothing changes"
abbrev pub refused : Status → Obeyed
refused s = record { status = s; value = word (pos 0) }

-- what is refused answers its status, with value 0
abbrev pub obeyed_as : Result Obeyed Refusal → Obeyed
obeyed_as (Ok obeyed) = obeyed
obeyed_as (Err e) = refused (status_of e)
