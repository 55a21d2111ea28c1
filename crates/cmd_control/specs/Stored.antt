-- A command stored in place: its status, the value of its reply, and what is left of the image and the program store.
use Rattle.std.specs.Prelude.{ℕ, ◌≡◌, true, List}
use Rattle.rules.specs.Storing.{Kept}
use Rattle.reg_image.specs.Image.{registers_of, shaped}
use Rattle.cmd_turns.specs.declared.Obeyed.{Obeyed}

pub record Stores (x : Kept) (l : List ℕ) (o : Obeyed) (k p : List ℕ) : Type 0 where
  pub status : o.status ≡ x.obeyed.status
  pub value : o.value ≡ x.obeyed.value
  pub makes : registers_of k ≡ x.obeyed.registers
  pub program : p ≡ x.program
  pub stays : shaped l ≡ true → shaped k ≡ true
