-- A command obeyed in place, with the frame that it came in.
use Rattle.std.specs.Prelude.{ℕ, ◌≡◌, true, List, length}
use Rattle.wire.specs.Frame.{command_at}
use Rattle.wire.specs.declared.Command.{Command}
use Rattle.store.specs.Store.{is_parameter_store}
use Rattle.rules.specs.Obey.{Outcome}
use Rattle.reg_image.specs.Image.{registers_of, shaped}
use Rattle.cmd_turns.specs.declared.Obeyed.{Obeyed}

-- the command is that of the frame, and the lent stores have their lengths
pub record Ready (c : Command) (frame p m : List ℕ) : Type 0 where
  pub nine : length frame ≡ 9
  pub command : command_at frame 1 ≡ c
  pub program : length p ≡ 7168
  pub cells : is_parameter_store m ≡ true

pub record Does (x : Outcome) (l : List ℕ) (o : Obeyed) (k p m : List ℕ) : Type 0 where
  pub status : o.status ≡ x.status
  pub value : o.value ≡ x.value
  pub makes : registers_of k ≡ x.registers
  pub program : p ≡ x.program
  pub store : m ≡ x.store
  pub stays : shaped l ≡ true → shaped k ≡ true
