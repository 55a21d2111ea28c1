-- A record by its number. Assumes nothing.
use Prim.Native.Nat.{ℕ}
use mathlib.Core.Path.{◌≡◌, sym, ap, ◌∙◌}
use Rattle.wire.specs.declared.Command.{Command}
use Rattle.judge.specs.Judge.{numbered}

pub told : (k : ℕ) (c e : Command) → c ≡ e → e.number ≡ k → numbered k c ≡ e
told k c e q h = ap (numbered k) q ∙ ap (λ (n : ℕ). numbered n e) (sym h)
