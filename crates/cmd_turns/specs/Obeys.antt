-- A command obeyed in place: its status, the value of its reply, and what is left of the image and the parameter store.
use Rattle.std.specs.Prelude.{ℕ, ◌≡◌, true, List}
use Rattle.rules.specs.Outcome.{Changed}
use Rattle.reg_image.specs.Image.{registers_of, shaped}
use Rattle.cmd_turns.specs.declared.Obeyed.{Obeyed}

pub record Obeys (x : Changed) (l : List ℕ) (o : Obeyed) (k m : List ℕ) : Type 0 where
  pub status : o.status ≡ x.obeyed.status
  pub value : o.value ≡ x.obeyed.value
  pub makes : registers_of k ≡ x.obeyed.registers
  pub store : m ≡ x.store
  pub stays : shaped l ≡ true → shaped k ≡ true
