-- What a register that stands at one place keeps: how it is read, and what writing its place changes.
use Rattle.std.specs.Prelude.{ℕ, ◌≡◌, ◌<◌, List, length, get_or, set}
use Rattle.board.specs.declared.Registers.{Registers}
use Rattle.reg_image.specs.Image.{Kind, number, kinds, registers_of}

-- a place, the kind of its numbers and what each stands for; the register read, and the registers with it changed
pub record RegisterLaws {V : Type 0} (place : ℕ) (kind : Kind) (of : ℕ → V) (read : Registers → V) (with : V → Registers → Registers) : Type 0 where
  pub inside : place < 137
  pub kept : get_or kinds place number ≡ kind
  pub reads : (l : List ℕ) → read (registers_of l) ≡ of (get_or l place 0)
  pub writes : (l : List ℕ) (n : ℕ) → length l ≡ 137 → registers_of (set l place n) ≡ with (of n) (registers_of l)
