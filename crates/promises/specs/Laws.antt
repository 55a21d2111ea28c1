-- What is relied on of the events.
use Rattle.std.specs.Prelude.{ℕ, ◌<◌, ◌≡◌, true, List, pos, length}
use Rattle.store.specs.Store.{parameter_length}
use Rattle.order.specs.Order.{same_w}
use Rattle.sheet.specs.Rows.{rows}
use Rattle.sheet.specs.Places.{global_place}
use Rattle.values.specs.Values.{value_at, powered_at}
use Rattle.stack.specs.Stack.{stack, emptied}
use Rattle.sampling.specs.declared.Sample.{Sample}
use Rattle.board.specs.Registers.{powered}
use Rattle.board.specs.Range.{registers_in_range}
use Rattle.rules.specs.Events.{outcome, powered_up, sampled, ticked}
use Rattle.board.specs.declared.Registers.{Registers}

pub record Laws : Type 0 where
  -- power-up leaves registers in range, whatever the cells hold; sample and tick keep registers in range
  pub powered_in_range : (s : List ℕ) → registers_in_range (powered s) ≡ true
  pub power_up_in_range : (s : List ℕ) (r : Registers) → registers_in_range r ≡ true → registers_in_range (powered_up s r).registers ≡ true
  pub sample-in-range : (s : Sample) (r : Registers) → length r.values ≡ 103 → registers_in_range r ≡ true
      → registers_in_range (sampled s r).registers ≡ true
  pub tick_in_range : (r : Registers) → registers_in_range r ≡ true → registers_in_range (ticked r).registers ≡ true
  -- after power-up each value is the one of its cell or its default, and the program runs exactly if global 77 is 1
  pub powered-at : (s : List ℕ) (i : ℕ) → i < 103 → value_at (powered s).values i ≡ powered_at rows s i
  pub powered_runs : (s : List ℕ) → (powered s).core.running ≡ same_w (powered_at rows s (global_place 77)).v (pos 1)
  -- the stack is empty then
  pub powered_stack : (s : List ℕ) → stack (powered s).entries (powered s).core.depth ≡ emptied
  -- power-up is done whatever registers are handed in
  pub power_up_done : (s : List ℕ) (r : Registers) → length s ≡ parameter_length → powered_up s r ≡ outcome 100 (powered s)
  -- a refused event changes nothing
  pub power_up_refused : (s : List ℕ) (r : Registers) → ((powered_up s r).status ≡ 100 → ⊥) → (powered_up s r).registers ≡ r
  pub sample_refused : (s : Sample) (r : Registers) → ((sampled s r).status ≡ 100 → ⊥) → (sampled s r).registers ≡ r
  pub tick_refused : (r : Registers) → ((ticked r).status ≡ 100 → ⊥) → (ticked r).registers ≡ r
