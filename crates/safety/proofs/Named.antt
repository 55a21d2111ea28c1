-- A step at a bad point has the status that the check names. Assumes nothing.
use Prim.Native.Nat.{ℕ}
use mathlib.Core.Path.{◌≡◌, refl, sym, ◌∙◌}
use mathlib.Core.Bool.{Bool, true, false, true≢false, ◌&&◌}
use mathlib.Core.List.{List}
use lib.Dec.{eqb, leb}
use borrow.Author.Tests.{eqb-true}
use Rattle.words.specs.Word.{pick}
use Rattle.words.proofs.Bools.{each, picked, either}
use Rattle.wire.specs.declared.Command.{Command}
use Rattle.store.specs.Store.{record_at}
use Rattle.registers.specs.Registers.{stopped}
use Rattle.status.specs.Status.{is_done}
use Rattle.status.specs.declared.Status.{Status}
use Rattle.status.specs.declared.Status.TheVariants.{Done, Value, Unavailable}
use Rattle.status.proofs.Statuses.{is-done}
use Rattle.points.specs.Points.{point}
use Rattle.points.specs.declared.Point.{Point}
use Rattle.judge.specs.Judge.{judged, is_flow}
use Rattle.rules.specs.Flow.{called, returned, flowed}
use Rattle.rules.specs.Step.{State, Pins, after, only, carried, obeyed, step}
use Rattle.rules.proofs.StepCases.{by-obeyed}
use Rattle.leading.specs.Leading.{by_depth, record_status, status_at}

module _ (r : Command) (p : Pins) (x : State) where
  abbrev d : ℕ
  d = x.core.depth

  abbrev here : Point
  here = point x.core.address d

  -- CSUB at depth 8, RSUB at depth 0
  call-full : r.number ≡ 23 → leb 8 d ≡ true → (carried r p x).status ≡ Unavailable
  unfolding carried is_flow flowed called
  call-full q l = simp (q, l)

  return-none : r.number ≡ 24 → eqb d 0 ≡ true → (carried r p x).status ≡ Unavailable
  unfolding carried is_flow flowed returned
  return-none q l = simp (q, l)

  by-depth : (by_depth r here ≡ Done → ⊥) → (carried r p x).status ≡ by_depth r here
  unfolding by_depth
  by-depth =
      let P : Status → Type 0 = λ s. (s ≡ Done → ⊥) → (carried r p x).status ≡ s in
      let call = eqb r.number 23 && leb 8 d in
      let back = eqb r.number 24 && eqb d 0 in
      picked P call _ _
      (λ e _. let t = each (eqb r.number 23) (leb 8 d) e in call-full (eqb-true r.number 23 t.0) t.1)
      (picked P back _ _
      (λ e _. let t = each (eqb r.number 24) (eqb d 0) e in return-none (eqb-true r.number 24 t.0) t.1)
      (λ n. absurd (n refl)))

  refused-status : is_done (judged r) ≡ false → (obeyed r p x).status ≡ judged r
  refused-status f = by-obeyed p x (λ y. y.status ≡ judged r) r refl refl (λ e. absurd (true≢false (sym e ∙ f)))

  obeyed-carried : is_done (judged r) ≡ true → obeyed r p x ≡ carried r p x
  unfolding obeyed
  obeyed-carried e = simp (is-done (judged r) e)

  by-record : (record_status r here ≡ Done → ⊥) → (obeyed r p x).status ≡ record_status r here
  unfolding record_status
  by-record =
      let P : Status → Type 0 = λ s. (s ≡ Done → ⊥) → (obeyed r p x).status ≡ s in
      either P (is_done (judged r)) _ _ (λ e n. rw (obeyed-carried e) (by-depth n)) (λ f _. refused-status f)

pub named : (program : List ℕ) (p : Pins) (x : State) → (status_at program (point x.core.address x.core.depth) ≡ Done → ⊥)
    → (step program p x).status ≡ status_at program (point x.core.address x.core.depth)
unfolding step status_at
named program p x = by (leb 1024 x.core.address)
  where
    r : Command
    r = record_at program x.core.address

    by : (b : Bool) → (pick b Value (record_status r (point x.core.address x.core.depth)) ≡ Done → ⊥)
        → (pick b (after Value (only (stopped x.core) x)) (obeyed r p x)).status ≡ pick b Value (record_status r (point x.core.address x.core.depth))
    by true n = refl
    by false n = by-record r p x n
