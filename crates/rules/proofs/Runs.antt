-- A run goes one step at a time. Assumes nothing.
use Prim.Native.Nat.{ℕ, zero, suc, ◌-◌, ◌<◌}
use native.Mathlib.Omega.{arith}
use mathlib.Core.Path.{◌≡◌, refl, sym, ap, ◌∙◌}
use mathlib.Core.Bool.{Bool, true, false}
use mathlib.Core.List.{List}
use Rattle.rules.specs.Step.{Pins, After, step}
use Rattle.rules.specs.Run.{Progress, onward, goes_on, advanced, run}

module _ (alone : Bool) (program : List ℕ) (p : Pins) where
  pub run-zero : (n : ℕ) (x : Progress) → n ≡ 0 → run alone program p n x ≡ x
  unfolding run
  run-zero n x e = rw e

  pub run_ends : (n : ℕ) (x : Progress) → goes_on alone x ≡ false → run alone program p n x ≡ x
  unfolding run
  run_ends zero x e = refl
  run_ends (suc n) x e = simp e

  pub run-onward : (n : ℕ) (x : Progress) → 0 < n → goes_on alone x ≡ true → run alone program p n x ≡ run alone program p (n - 1) (advanced program p x)
  unfolding run
  run-onward zero x h e = absurd (omega arith)
  run-onward (suc n) x h e = let m : suc n - 1 ≡ n = omega arith in simp (e, m)

  -- one turn of a run's loop: y is what the step left
  pub turned : (n : ℕ) (x z : Progress) (y : After) → y ≡ step program p x.state → 0 < n → goes_on alone x ≡ true → run alone program p n x ≡ z
      → run alone program p (n - 1) (onward y x.steps) ≡ z
  turned n x z y e h g r = ap (λ (w : After). run alone program p (n - 1) (onward w x.steps)) e ∙ sym (run-onward n x h g) ∙ r
