-- What a direct command leaves and answers, by what becomes of it. Assumes nothing.
use Prim.Native.Nat.{ℕ}
use mathlib.Core.Path.{◌≡◌}
use mathlib.Core.Bool.{true, false}
use mathlib.Core.List.{List}
use lib.IntN.{ℤ}
use Rattle.words.specs.declared.Word.{Word}
use Rattle.words.proofs.Bools.{picked, either}
use Rattle.wire.specs.declared.Command.{Command}
use Rattle.registers.specs.declared.Core.{Core}
use Rattle.status.specs.Status.{is_done}
use Rattle.status.specs.declared.Status.TheVariants.{Done, Unavailable}
use Rattle.judge.specs.Judge.{judged, is_flow, is_reading}
use Rattle.rules.specs.Effects.{Work}
use Rattle.rules.specs.Deciding.{worked}
use Rattle.rules.specs.Direct.{Direct, direct, refused, answered, answer, changed, directed}

module _ (c : Command) (core : Core) (v : List ℤ) (o digital : List ℕ) (analog : List ℤ) (m : List ℕ) (P : Direct → Type 0) where
  abbrev work : Work
  work = worked c core v o m

  -- what holds whatever becomes of it, and whatever is read
  pub record Each : Type 0 where
    pub flow : P (direct (refused Unavailable core) v o m)
    pub not_through : is_done (judged c) ≡ false → P (direct (refused (judged c) core) v o m)
    pub reading : (w : Word) → P (direct (answered Done w core) v o m)
    pub done : is_done (judged c) ≡ true → is_done work.status ≡ true
        → P (direct (answered work.status (answer c work.core) work.core) work.values work.outputs work.store)
    pub failed : is_done (judged c) ≡ true → is_done work.status ≡ false
        → P (direct (refused work.status work.core) work.values work.outputs work.store)

  -- holds of what is left
  pub by-command : Each → P (directed c core v o digital analog m)
  unfolding directed changed
  by-command each =
      picked P (is_flow c.number) _ _ (λ _. each.flow)
      (either P (is_done (judged c)) _ _
      (λ h. picked P (is_reading c.number) _ _ (λ _. each.reading _) (either P (is_done work.status) _ _ (each.done h) (each.failed h)))
      each.not_through)
