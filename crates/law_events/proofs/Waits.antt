-- A WAIT holds exactly where a step leaves a wait armed. Assumes nothing.
use Prim.Native.Nat.{ℕ}
use mathlib.Core.Path.{◌≡◌, refl, ap, ◌∙◌}
use mathlib.Core.Bool.{Bool, true, false, not, ◌&&◌, ◌||◌}
use mathlib.Core.List.{List}
use lib.Dec.{eqb, leb}
use lib.IntN.{ℤ}
use Rattle.words.specs.Word.{pick}
use Rattle.words.specs.declared.Word.{Word}
use Rattle.store.specs.Store.{record_at}
use Rattle.waits.specs.declared.Wait.{Wait}
use Rattle.waiting.specs.Waiting.{happened, armed_from, not_negative, armed_with, tested, waited, Refused, Passed, TimedOut, Holding}
use Rattle.status.specs.Status.{is_done}
use Rattle.judge.specs.Judge.{judged}
use Rattle.rules.specs.Step.{State, Pins, step}
use Rattle.keeping.specs.Laws.{is_holding}
use Rattle.keeping.specs.Laws as keep-laws
use Rattle.keeping.proofs.Rules as keeping
use Rattle.law_events.specs.Waits.{wait_holds}

-- what a wait that is tested comes to: TICKS, count 0, the condition, timed
by_tests : (ticks zero come timed : Bool) (w : Wait)
    → is_holding (pick ticks (pick zero Passed (Holding w)) (pick come Passed (pick (timed && zero) TimedOut (Holding w))))
    ≡ not (pick ticks zero (come || (timed && zero)))
by_tests true true come timed w = refl
by_tests true false come timed w = refl
by_tests false zero true timed w = refl
by_tests false true false true w = refl
by_tests false true false false w = refl
by_tests false false false true w = refl
by_tests false false false false w = refl

module _ (kind : ℕ) (values : List ℤ) where
  abbrev passed : Wait → Bool
  passed w = pick (eqb kind 0) (eqb w.count 0) (happened kind values || (w.timed && eqb w.count 0))

  tested-holds : (w : Wait) → is_holding (tested kind values w) ≡ not (passed w)
  unfolding tested
  tested-holds w = by_tests (eqb kind 0) (eqb w.count 0) (happened kind values) w.timed w

  by-armed : (armed right : Bool) (w v : Wait)
      → is_holding (pick armed (tested kind values w) (pick right (tested kind values v) Refused))
      ≡ (armed || right) && not (passed (pick armed w v))
  by-armed true right w v = tested-holds w
  by-armed false true w v = tested-holds v
  by-armed false false w v = refl

  waited-holds : (value accumulator : Word) (w : Wait)
      → is_holding (waited kind value accumulator values w)
      ≡ (w.armed || not_negative (armed_from kind value accumulator).v)
      && not (passed (pick w.armed w (armed_with (armed_from kind value accumulator).v)))
  unfolding waited
  waited-holds value accumulator w =
      by-armed w.armed (not_negative (armed_from kind value accumulator).v) w (armed_with (armed_from kind value accumulator).v)

pub armed_holds : (program : List ℕ) (p : Pins) (x : State) → (step program p x).state.core.wait.armed ≡ wait_holds program x
armed_holds program p x =
    let l : keep-laws.Laws = keeping.laws in
    let r = record_at program x.core.address in
    l.step_held program p x
    ∙ ap (λ (b : Bool). not (leb 1024 x.core.address) && (is_done (judged r) && (eqb r.number 27 && b)))
    (waited-holds r.kind x.values r.value x.core.accumulator x.core.wait)
