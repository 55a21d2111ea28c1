-- What the tests of a setting say of the row of its place. Assumes nothing.
use Prim.Native.Nat.{ℕ}
use mathlib.Core.Path.{◌≡◌, refl, sym, ap, ◌∙◌}
use mathlib.Core.Bool.{Bool, true, false, true≢false}
use mathlib.Core.List.{List}
use borrow.Author.Tests.{eqb-true, ne_eqb}
use lib.Dec.{eqb}
use lib.IntN.{ℤ, pos}
use mir.Syntax.{w32}
use mir.Val.{SFits}
use Rattle.words.specs.Word.{pick, word}
use Rattle.words.specs.declared.Word.{Word}
use Rattle.words.proofs.Bools.{is_true, picked}
use Rattle.order.specs.Order.{same_w}
use Rattle.rows.specs.Row.{allowed, taken, stored}
use Rattle.sheet.specs.Sheet.{axis, globals}
use Rattle.sheet.specs.Rows.{parameters, rows, row_at, cell_of}
use Rattle.sheet.proofs.Rules.{defaults, takes, user_variable}
use Rattle.store.specs.Store.{cell_at}
use Rattle.values.specs.Values.{powered_at}
use Rattle.sheet.specs.Places.{axis_place}
use Rattle.settings.specs.Settings.{bank_place, is_key, settable, kept, is_global}

-- a value that the row of its place allows
abbrev pub Allowed : ℕ → ℤ → Type 0
Allowed place z = allowed (row_at rows place) z ≡ true

-- position 50 may be every word
pub position-allowed : (z : ℤ) → SFits w32 z → Allowed (axis_place 50) z
unfolding allowed rows
position-allowed z f = user_variable z f

-- what a cell gives at power-up is allowed
pub restored-allowed : (m : List ℕ) (place : ℕ) → Allowed place (powered_at rows m place).v
unfolding powered_at
restored-allowed m place =
    let r = row_at rows place in
    let w = taken r (cell_at m (cell_of rows place)) in
    let P : Word → Type 0 = λ w. Allowed place w.v in
    picked P (stored r.access) w r.standard (λ _. is_true (allowed r w.v) (takes place (cell_at m (cell_of rows place))))
    (is_true (allowed r r.standard.v) (defaults place))

-- ---- the lock
locks : (b : Bool) → Allowed (bank_place 0 73) (pick b (word (pos 1)) (word (pos 0))).v
unfolding bank_place allowed rows
locks true = refl
locks false = refl

lock-global : is_global (bank_place 0 73) ≡ true
unfolding is_global bank_place parameters
lock-global = refl

lock-elsewhere : eqb (axis_place 50) (bank_place 0 73) ≡ false
unfolding bank_place axis globals
lock-elsewhere = refl

module _ (place : ℕ) where
  kept_by : (w : Word) (b : Bool) → eqb place (bank_place 0 73) ≡ b → pick b (is_key w.v) (allowed (row_at rows place) w.v) ≡ true
      → Allowed place (pick b (pick (same_w w.v (pos 1234)) (word (pos 1)) (word (pos 0))) w).v
  kept_by w true e h = rw (eqb-true place (bank_place 0 73) e) (locks (same_w w.v (pos 1234)))
  kept_by w false e h = h

  -- what is kept of a value that may be set is allowed
  pub kept-allowed : (w : Word) → settable place w.v ≡ true → Allowed place (kept place w).v
  unfolding settable kept
  kept-allowed w h = kept_by w (eqb place (bank_place 0 73)) refl h

  -- but for the lock, a value that may be set is allowed
  settable-allowed : (z : ℤ) → settable place z ≡ true → eqb place (bank_place 0 73) ≡ false → Allowed place z
  unfolding settable
  settable-allowed z h e = rw e at h

  no-lock : is_global place ≡ false → eqb place (bank_place 0 73) ≡ false
  no-lock g = ne_eqb place (bank_place 0 73) (λ e. true≢false (sym lock-global ∙ sym (ap is_global e) ∙ g))

  pub set-allowed : (z : ℤ) → settable place z ≡ true → is_global place ≡ false → Allowed place z
  set-allowed z h g = settable-allowed z h (no-lock g)

pub move-allowed : (place : ℕ) (z : ℤ) → settable place z ≡ true → place ≡ axis_place 50 → Allowed (axis_place 50) z
move-allowed place z h e = settable-allowed (axis_place 50) z (rw e at h) lock-elsewhere
