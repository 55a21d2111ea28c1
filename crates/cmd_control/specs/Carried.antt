-- A control command carried out in place: what is left of the image and the parameter store.
use Rattle.std.specs.Prelude.{ℕ, ◌≡◌, true, List}
use Rattle.rules.specs.Controlling.{Both}
use Rattle.reg_image.specs.Image.{registers_of, shaped}

pub record Carries (x : Both) (l k m : List ℕ) : Type 0 where
  pub makes : registers_of k ≡ x.registers
  pub store : m ≡ x.store
  pub stays : shaped l ≡ true → shaped k ≡ true
