-- `board_events::power::fill_variable`.
use Prim.Native.Nat.{ℕ, ◌+◌, ◌-◌, ◌<◌}
use native.Mathlib.Omega.{arith}
use mathlib.Core.Path.{◌≡◌, sym, ap, ◌∙◌}
use mir.Syntax.{w32}
use mir.Val.{SFits}
use Rattle.store.specs.Store.{cell_at}
use Rattle.sheet.specs.Rows.{rows}
use Rattle.values.specs.Values.{powered_at}
use Rattle.rules.proofs.Users.{user-powered}
use Rattle.board_events.proofs.Powering.{one-filled}
use borrow.Author.Rules.{rules}
use Rattle.board_events.proofs.power.fill_variable.Goals as goal

pub returns : goal.returns
returns c =
    let v = c.cell_at in
    let x = c.args in
    let n : ℕ = x.place - 47 in
    let at : 35 + n ≡ x.place - 12 = omega (arith, c.requires.0) in
    let there : 47 + n ≡ x.place = omega (arith, c.requires.0) in
    let small : n < 56 = omega (arith, c.requires.1) in
    let cell : v.result ≡ cell_at x.cells.now (35 + n) = v.ensures ∙ ap (λ (k : ℕ). cell_at x.cells.now k) (sym at) in
    let fits : SFits w32 v.result.v = search rules in
    one-filled x.cells.now x.place v.result x.image.now _ c.requires.1
    (cell ∙ user-powered x.cells.now n small (rw cell at fits) ∙ ap (λ (k : ℕ). powered_at rows x.cells.now k) there)
    c.set_at.ensures
