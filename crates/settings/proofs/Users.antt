-- What a bank and a number name, and user variables, which take every word. Assumes nothing.
use Prim.Native.Nat.{ℕ, ◌+◌}
use native.Mathlib.Omega.{arith}
use mathlib.Core.Path.{◌≡◌, refl, sym, ap, ◌∙◌}
use mathlib.Core.Bool.{true}
use mathlib.Core.List.{◌++◌}
use borrow.Author.Tests.{ne_eqb}
use lib.IntN.{ℤ}
use lib.ListN.{get_or, replicate}
use lib.Seq.{get_or-append-add}
use mir.Syntax.{w32}
use mir.Val.{SFits}
use Rattle.words.proofs.Lists.{all_same}
use Rattle.sheet.specs.Sheet.{axis, globals, read_only, rwe_rows, rw_rows, r_rows, user_row}
use Rattle.sheet.specs.Rows.{parameters, rows, row_at}
use Rattle.sheet.specs.Places.{global_in}
use Rattle.sheet.proofs.Rules.{user_variable}
use Rattle.settings.specs.Settings.{bank_place, settable}
use Rattle.settings.proofs.Counts.{axis_rows, parameter_rows}

-- ---- places
pub user-place : (n : ℕ) → bank_place 2 n ≡ 47 + n
unfolding bank_place
user-place n = rw parameter_rows

pub global-place : (n : ℕ) → bank_place 0 n ≡ 43 + global_in n
unfolding bank_place
global-place n = rw axis_rows

-- every bank but 2 is the globals'
pub other-bank : (bank n : ℕ) → (bank ≡ 2 → ⊥) → bank_place bank n ≡ bank_place 0 n
unfolding bank_place
other-bank bank n h = rw (ne_eqb bank 2 h)

pub lock-place : bank_place 0 73 ≡ 44
unfolding bank_place axis globals read_only rwe_rows rw_rows r_rows
lock-place = refl

-- ---- user variables
pub user-row : (n : ℕ) → row_at rows (47 + n) ≡ user_row
unfolding rows
user-row n =
    ap (λ (k : ℕ). get_or (parameters ++ replicate 56 user_row) (k + n) user_row) (sym parameter_rows)
    ∙ get_or-append-add parameters (replicate 56 user_row) n user_row
    ∙ all_same user_row 56 n

pub user-settable : (n : ℕ) (z : ℤ) → SFits w32 z → settable (47 + n) z ≡ true
unfolding settable
user-settable n z f = simp (lock-place, ne_eqb (47 + n) 44 (λ e. omega (arith, e)), user-row n, user_variable z f)
