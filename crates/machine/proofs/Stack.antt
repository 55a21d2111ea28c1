-- A push and a pop, by whether there is room and whether there is an entry. Assumes nothing.
use Prim.Native.Nat.{ℕ, ◌+◌, ◌-◌, ◌≤◌, ◌<◌}
use native.Mathlib.Omega.{arith}
use mathlib.Core.Path.{◌≡◌}
use mathlib.Core.Bool.{true, false, ◌&&◌}
use borrow.Author.Tests.{lt-ltb, le-ltb, le-leb, lt-leb}
use lib.Dec.{ltb, leb}
use lib.ListN.{get_or}
use Rattle.words.specs.Word.{pick}
use Rattle.registers.specs.Registers.{with_depth}
use Rattle.stack.specs.Stack.{pushed, popped}
use Rattle.board.specs.declared.Registers.{Registers}
use Rattle.reg_image.specs.With.{in_core}
use Rattle.reg_image.specs.Rows.{set_entry}
use Rattle.cmd_turns.specs.Turn.{with_stack}
use Rattle.machine.specs.Applied.{pushing}

abbrev pub popping : Registers → Registers
popping r = with_stack (popped r.entries r.core.depth).stack r

module _ (r : Registers) (n : ℕ) (e : n ≡ r.core.depth) where
  pub push-none : (back : ℕ) → 8 ≤ n → r ≡ pushing back r
  unfolding pushed
  push-none back h = rw (le-ltb r.core.depth 8 (rw e at h))

  pub push-some : (back : ℕ) → n < 8 → in_core (with_depth (n + 1)) (set_entry n back r) ≡ pushing back r
  unfolding pushed
  push-some back h = rw (e, lt-ltb r.core.depth 8 (rw e at h))

  none : ltb 0 n && leb n 8 ≡ false → (r ≡ popping r) × (0 ≡ (popped r.entries r.core.depth).back)
  unfolding popped
  none h = let t : ltb 0 r.core.depth && leb r.core.depth 8 ≡ false = rw e at h in (rw t, rw t)

  pub pop_empty : n ≡ 0 → (r ≡ popping r) × (0 ≡ (popped r.entries r.core.depth).back)
  pop_empty h = none (rw (le-ltb 0 n (omega arith)))

  pub pop-over : 8 < n → (r ≡ popping r) × (0 ≡ (popped r.entries r.core.depth).back)
  pop-over h = none (rw (lt-ltb 0 n (omega arith), lt-leb n 8 h))

  module _ (h : 0 < n) (k : n ≤ 8) where
    there : ltb 0 r.core.depth && leb r.core.depth 8 ≡ true
    there = rw (← e, lt-ltb 0 n h, le-leb n 8 k)

    pub pop-stack : in_core (with_depth (n - 1)) (set_entry (n - 1) 0 r) ≡ popping r
    unfolding popped
    pop-stack = rw (there, lt-ltb (n - 1) 8 (omega arith), e)

    pub pop-back : pick (ltb (n - 1) 8) (get_or r.entries (n - 1) 0) 0 ≡ (popped r.entries r.core.depth).back
    unfolding popped
    pop-back = rw (there, lt-ltb (n - 1) 8 (omega arith), e)
