-- What a step leaves, by what becomes of its record. Assumes nothing.
use Prim.Native.Nat.{ℕ}
use mathlib.Core.Path.{◌≡◌}
use mathlib.Core.Bool.{true, false}
use mathlib.Core.List.{List}
use lib.Dec.{leb}
use Rattle.words.proofs.Bools.{picked, either}
use Rattle.wire.specs.declared.Command.{Command}
use Rattle.store.specs.Store.{record_at}
use Rattle.registers.specs.Registers.{next, stopped}
use Rattle.status.specs.Status.{is_done, is_unknown}
use Rattle.status.specs.declared.Status.TheVariants.{Done, Value}
use Rattle.judge.specs.Judge.{judged, is_flow, is_reading}
use Rattle.rules.specs.Flow.{flowed}
use Rattle.rules.specs.Deciding.{worked}
use Rattle.rules.specs.Step.{State, Pins, After, after, only, loaded, after_flow, after_work, carried, obeyed, step}

module _ (p : Pins) (x : State) (P : After → Type 0) where
  -- ---- a command that the judge lets through
  pub record Each (r : Command) : Type 0 where
    pub flow : P (after_flow (flowed r x.core x.entries x.values) x)
    pub reading : is_flow r.number ≡ false → P (after Done (only (loaded r x.core x.values x.outputs p.digital p.analog) x))
    pub work : is_flow r.number ≡ false → P (after_work (worked r x.core x.values x.outputs x.store) x)

  pub by-carried : (r : Command) → Each r → P (carried r p x)
  unfolding carried
  by-carried r each =
      either P (is_flow r.number) _ _ (λ _. each.flow)
      (λ n. picked P (is_reading r.number) _ _ (λ _. each.reading n) (each.work n))

  -- ---- every command, by the judge
  pub by-obeyed : (r : Command) → P (after (judged r) (only (stopped x.core) x)) → P (after (judged r) (only (next x.core) x))
      → (is_done (judged r) ≡ true → P (carried r p x)) → P (obeyed r p x)
  unfolding obeyed
  by-obeyed r unknown refused through =
      picked P (is_unknown (judged r)) _ _ (λ _. unknown) (picked P (is_done (judged r)) _ _ through refused)

  -- ---- every step
  pub by-step : (program : List ℕ) → P (after Value (only (stopped x.core) x)) → P (obeyed (record_at program x.core.address) p x)
      → P (step program p x)
  unfolding step
  by-step program outside inside = picked P (leb 1024 x.core.address) _ _ (λ _. outside) inside
