-- User variables: their rows, their cells, and what power-up gives them. Assumes nothing.
use Prim.Native.Nat.{ℕ, ◌+◌, ◌-◌, ◌<◌}
use native.Mathlib.Omega.{arith}
use mathlib.Core.Path.{◌≡◌, sym, ap, ◌∙◌}
use mathlib.Core.List.{List, ◌++◌}
use lib.ListN.{get_or, replicate}
use mir.Syntax.{w32}
use mir.Val.{SFits}
use Rattle.rows.specs.Row.{taken}
use Rattle.sheet.specs.Sheet.{user_row}
use Rattle.sheet.specs.Rows.{parameters, rows, row_at, cell_of}
use Rattle.sheet.proofs.Cells.{user-cell}
use Rattle.sheet.proofs.Rules.{user_variable}
use Rattle.store.specs.Store.{cell_at}
use Rattle.values.specs.Values.{powered_at}
use Rattle.settings.proofs.Users.{user-row}

pub cell-of-user : (n : ℕ) → n < 56 → 35 + n ≡ cell_of rows (47 + n)
cell-of-user n h = let e : 35 + n ≡ 47 + n - 12 = omega arith in e ∙ user-cell (47 + n) (omega arith) (omega arith)

-- a user variable takes what its cell has
pub user-powered : (m : List ℕ) (n : ℕ) → n < 56 → SFits w32 (cell_at m (35 + n)).v → cell_at m (35 + n) ≡ powered_at rows m (47 + n)
unfolding powered_at taken
user-powered m n h f =
    simp (user-row n, ← cell-of-user n h, user_variable (cell_at m (35 + n)).v f)
