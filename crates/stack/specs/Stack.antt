-- "a call stack of eight return addresses"; "freed stack entries become 0".
use Rattle.std.specs.Prelude.{ℕ, ◌+◌, ◌-◌, ◌&&◌, List, ltb, leb, get_or, set, replicate}
use Rattle.words.specs.Word.{pick}
use Rattle.stack.specs.declared.Stack.{Stack}
use Rattle.stack.specs.declared.Popped.{Popped}

abbrev pub stack : List ℕ → ℕ → Stack
stack e d = record { entries = e; depth = d }

abbrev pub emptied : Stack
emptied = stack (replicate 8 0) 0

-- an address on the stack, where there is room; else as it was
unfoldable pub pushed : List ℕ → ℕ → ℕ → Stack
pushed e d a = pick (ltb d 8) (stack (set e d a) (d + 1)) (stack e d)

-- an address taken off, and the stack that is left
abbrev pub taken : List ℕ → ℕ → ℕ → Popped
taken e d a = record { stack = stack e d; back = a }

-- the last address, whose entry becomes 0; where there is none, or the depth is none of eight entries, 0 and the stack as it was
unfoldable pub popped : List ℕ → ℕ → Popped
popped e d = pick (ltb 0 d && leb d 8) (taken (set e (d - 1) 0) (d - 1) (get_or e (d - 1) 0)) (taken e d 0)
