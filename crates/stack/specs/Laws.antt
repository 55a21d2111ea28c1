-- What a user of the call stack relies on.
use Rattle.std.specs.Prelude.{ℕ, ◌≤◌, ◌<◌, ◌≡◌, List, length, get_or, set}
use Rattle.stack.specs.Stack.{stack, taken, emptied, pushed, popped}

-- every entry is an address of the program store or just past it
abbrev pub AllLow : List ℕ → Type 0
AllLow e = (i : ℕ) → get_or e i 0 ≤ 1024

-- every entry from a depth on is 0
abbrev pub Freed : List ℕ → ℕ → Type 0
Freed e d = (i : ℕ) → d ≤ i → get_or e i 0 ≡ 0

pub record Laws : Type 0 where
  -- a pop after a push gives the address back and frees its entry: where that was 0, the stack is the one of before
  pub push_pop : (e : List ℕ) (d a : ℕ) → length e ≡ 8 → d < 8
      → popped (pushed e d a).entries (pushed e d a).depth ≡ taken (set e d 0) d a
  pub push_pop_same : (e : List ℕ) (d a : ℕ) → length e ≡ 8 → d < 8 → get_or e d 0 ≡ 0
      → popped (pushed e d a).entries (pushed e d a).depth ≡ taken e d a
  -- the ninth push changes nothing, and neither does a pop of none
  pub push_full : (e : List ℕ) (d a : ℕ) → 8 ≤ d → pushed e d a ≡ stack e d
  pub pop_empty : (e : List ℕ) → popped e 0 ≡ taken e 0 0
  -- there are eight entries, of which at most eight are in use
  pub push_length : (e : List ℕ) (d a : ℕ) → length (pushed e d a).entries ≡ length e
  pub pop_length : (e : List ℕ) (d : ℕ) → length (popped e d).stack.entries ≡ length e
  pub push_depth : (e : List ℕ) (d a : ℕ) → d ≤ 8 → (pushed e d a).depth ≤ 8
  pub pop_depth : (e : List ℕ) (d : ℕ) → d ≤ 8 → (popped e d).stack.depth ≤ 8
  -- those that are not in use are 0
  pub empty_freed : Freed emptied.entries emptied.depth
  pub push_freed : (e : List ℕ) (d a : ℕ) → Freed e d → Freed (pushed e d a).entries (pushed e d a).depth
  pub pop_freed : (e : List ℕ) (d : ℕ) → Freed e d → Freed (popped e d).stack.entries (popped e d).stack.depth
  -- addresses stay at most 1024
  pub empty_low : AllLow emptied.entries
  pub push_low : (e : List ℕ) (d a : ℕ) → AllLow e → a ≤ 1024 → AllLow (pushed e d a).entries
  pub pop_low : (e : List ℕ) (d : ℕ) → AllLow e → AllLow (popped e d).stack.entries × ((popped e d).back ≤ 1024)
