-- The places of what is carried by value keep what they had. Assumes nothing.
use mathlib.Core.Path.{◌≡◌, refl, ap, ◌∙◌}
use Prim.Native.Nat.{ℕ}
use mathlib.Core.List.{List}
use Rattle.board.specs.declared.Registers.{Registers}
use Rattle.reg_image.specs.Image.{registers_of, Leaves}
use Rattle.machine.specs.Applied.{Kept}

pub same : (l : List ℕ) → Kept l l
same l = record { accumulator = refl; address = refl }

-- by a change that touches neither
pub by : (f : Registers → Registers) (l k : List ℕ) → ((r : Registers) → (f r).core.accumulator ≡ r.core.accumulator) → ((r : Registers) → (f r).core.address ≡ r.core.address)
    → Leaves f l k → Kept l k
by f l k a n e =
    record {
      accumulator = ap (λ (r : Registers). r.core.accumulator) e.makes ∙ a (registers_of l);
      address = ap (λ (r : Registers). r.core.address) e.makes ∙ n (registers_of l);
    }

pub both : (l k j : List ℕ) → Kept l k → Kept k j → Kept l j
both l k j p q = record { accumulator = q.accumulator ∙ p.accumulator; address = q.address ∙ p.address }
