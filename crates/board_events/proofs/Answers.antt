-- What an event tells, from what it asked and wrote. Assumes nothing.
use Prim.Native.Nat.{ℕ}
use mathlib.Core.Path.{◌≡◌, refl, sym, subst}
use mathlib.Core.Bool.{Bool, true, false}
use mathlib.Core.List.{List}
use lib.Dec.{eqb}
use Rattle.words.proofs.Bools.{each}
use Rattle.board.specs.Range.{registers_in_range}
use Rattle.board.specs.declared.Registers.{Registers}
use Rattle.reg_image.specs.Image.{registers_of, shaped, Leaves}
use Rattle.reg_range.specs.Range.{stands}
use Rattle.board_events.specs.Standing.{Is, Leaving, Told}

-- done, or refused by a number that is not 100
pub done : (s : ℕ) (r : Registers) (l m : List ℕ) → s ≡ 100 → Is m r → Told s r l m 100
done s r l m e i = record { answers = sym e; leaves = subst (λ (n : ℕ). Leaving (eqb n 100) r l m) (sym e) i }

pub refused : (s n : ℕ) (r : Registers) (l : List ℕ) → s ≡ n → eqb n 100 ≡ false → Told s r l l n
refused s n r l e f =
    record {
      answers = sym e;
      leaves = subst (λ (k : ℕ). Leaving (eqb k 100) r l l) (sym e) (subst (λ (b : Bool). Leaving b r l l) (sym f) refl);
    }

-- an image that stood stands for what was made of its registers
pub so_left : (f : Registers → Registers) (l m : List ℕ) → stands l ≡ true → Leaves f l m → Is m (f (registers_of l))
unfolding stands
so_left f l m e k = record { of = k.makes; shape = k.stays (each (shaped l) (registers_in_range (registers_of l)) e).0 }
