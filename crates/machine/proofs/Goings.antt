-- Steps one after the other: what a turn of the loop keeps. Assumes nothing.
use Prim.Native.Nat.{ℕ, zero, suc, ◌-◌, ◌≤◌, ◌<◌}
use native.Mathlib.Omega.{arith}
use mathlib.Core.Path.{◌≡◌, refl, sym, ap, ◌∙◌}
use mathlib.Core.Bool.{Bool, true, false}
use mathlib.Core.List.{List}
use borrow.Author.Tests.{le-leb}
use Rattle.words.specs.Word.{pick}
use Rattle.words.proofs.Bools.{is_T}
use Rattle.status.specs.declared.Status.{Status}
use Rattle.status.specs.declared.Status.TheVariants.{Value}
use Rattle.board.specs.declared.Registers.{Registers}
use Rattle.reg_image.specs.Image.{registers_of}
use Rattle.cmd_turns.specs.declared.Left.{Left}
use Rattle.cmd_turns.specs.declared.Left.TheVariants.{Goes, Holds, Stops}
use Rattle.cmd_turns.specs.Turn.{Turn, turn}
use Rattle.cmd_turns.specs.Deed.{seen}
use Rattle.machine.specs.declared.Stepped.{Stepped}
use Rattle.machine.specs.Applied.{turn_of}
use Rattle.machine.specs.Steps.{is_going, Walk, step_turn, going}

goes : (l : Left) → is_going l ≡ true → l ≡ Goes
goes Goes e = refl
goes Holds e = absurd (is_T false e)
goes Stops e = absurd (is_T false e)

abbrev walk : Turn → ℕ → Walk
walk t n = record { turn = t; unused = n }

module _ (program : List ℕ) (first records : ℕ) where
  more : (u : ℕ) (t : Turn) → 0 < u
      → going program first records u t
      ≡ pick (is_going (step_turn program first records t.registers t.store).left) (going program first records (u - 1) (step_turn program first records t.registers t.store))
      (walk (step_turn program first records t.registers t.store) (u - 1))
  unfolding going
  more zero t h = absurd (omega arith)
  more (suc n) t h = let e : suc n - 1 ≡ n = omega arith in rw e

  module _ (u : ℕ) (r : Registers) (m : List ℕ) (status : Status) (w : Walk) (inv : going program first records u (turn r m status Goes) ≡ w) where
    pub over : u ≤ 0 → walk (turn r m status Goes) u ≡ w
    unfolding going
    over h = let e : u ≡ 0 = omega arith in rw e (rw e at inv)

    -- a step that does not go on
    stopped : 0 < u → (t : Turn) → t ≡ step_turn program first records r m → is_going t.left ≡ false → walk t (u - 1) ≡ w
    stopped h t made e =
        let g : is_going (step_turn program first records r m).left ≡ false = ap (λ (v : Turn). is_going v.left) (sym made) ∙ e in
        ap (λ (v : Turn). walk v (u - 1)) made
        ∙ sym (more u (turn r m status Goes) h ∙ ap (λ (b : Bool). pick b (going program first records (u - 1) (step_turn program first records r m)) (walk (step_turn program first records r m) (u - 1))) g)
        ∙ inv

    -- .. past the last record
    pub past : 0 < u → records ≤ r.core.address → walk (turn r m Value Stops) (u - 1) ≡ w
    unfolding step_turn
    past h e = stopped h (turn r m Value Stops) (simp (le-leb _ _ e)) refl

    module _ (h : 0 < u) (s : Stepped) (k n : List ℕ) (made : turn_of s k n ≡ step_turn program first records r m) where
      pub again : is_going s.left ≡ true
          → going program first records (u - 1) (turn (seen s.accumulator s.address (registers_of k)) n s.status Goes) ≡ w
      again e =
          let g : is_going (step_turn program first records r m).left ≡ true = ap (λ (t : Turn). is_going t.left) (sym made) ∙ e in
          ap (λ (l : Left). going program first records (u - 1) (turn (seen s.accumulator s.address (registers_of k)) n s.status l)) (sym (goes s.left e))
          ∙ ap (going program first records (u - 1)) made
          ∙ sym (more u (turn r m status Goes) h ∙ ap (λ (b : Bool). pick b (going program first records (u - 1) (step_turn program first records r m)) (walk (step_turn program first records r m) (u - 1))) g)
          ∙ inv

      pub ended : is_going s.left ≡ false → walk (turn_of s k n) (u - 1) ≡ w
      ended e = stopped h (turn_of s k n) made e
