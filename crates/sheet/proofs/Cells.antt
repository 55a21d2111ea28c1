-- The cells of user variables, and past them. Assumes nothing.
use Prim.Native.Nat.{ℕ, ◌+◌, ◌-◌, ◌≤◌, ◌<◌}
use native.Mathlib.Omega.{arith}
use mathlib.Core.Path.{◌≡◌, sym, ap, ◌∙◌}
use mathlib.Core.Bool.{Bool}
use lib.Dec.{eqb, eqb→eq}
use lib.ListN.{length}
use lib.Seq.{take_all}
use Rattle.sheet.specs.Rows.{parameters, rows, cells, cell_of}
use Rattle.sheet.specs.Sheet.{axis, globals, rwe_rows, rw_rows, r_rows}
use Rattle.sheet.proofs.Below.{below}

right : ℕ → Bool
right k = eqb (k + 35) (cell_of rows (k + 47))

pub user-cell : (i : ℕ) → 47 ≤ i → i < 103 → i - 12 ≡ cell_of rows i
unfolding rows parameters axis globals rwe_rows rw_rows r_rows right
user-cell i low high =
    let k = i - 47 in
    let e : i - 12 ≡ k + 35 = omega arith in
    let f : k + 47 ≡ i = omega arith in
    e ∙ eqb→eq (k + 35) (cell_of rows (k + 47)) (below right 56 tt k (omega arith)) ∙ ap (cell_of rows) f

pub past-cell : (i : ℕ) → 103 ≤ i → 91 ≡ cell_of rows i
unfolding rows parameters axis globals rwe_rows rw_rows r_rows
past-cell i h = sym (ap (λ t. length (cells t)) (take_all i rows h))
