-- What each effect leaves: registers in range, a store of the same length, and after a refusal all as it was. Assumes nothing.
use Prim.Native.Nat.{ℕ}
use mathlib.Core.Path.{◌≡◌, refl, ◌∙◌}
use mathlib.Core.Bool.{true, false, true≢false}
use mathlib.Core.List.{List}
use lib.Dec.{ltb}
use lib.IntN.{ℤ}
use lib.ListN.{length, set}
use Rattle.words.proofs.Bools.{picked}
use Rattle.sheet.specs.Rows.{rows, cell_of}
use Rattle.store.proofs.Places.{cell_length}
use Rattle.values.specs.Values.{value_at, set_value}
use Rattle.values.proofs.Rules.{set_length, set_in_range}
use Rattle.ranges.specs.Range.{bit_in_range, bits_in_range}
use Rattle.registers.specs.Range.{core_in_range}
use Rattle.flags.specs.Flags.{flags_in_range}
use Rattle.registers.specs.declared.Core.{Core}
use Rattle.sheet.specs.Places.{axis_place}
use Rattle.status.specs.Status.{is_done}
use Rattle.rules.specs.Effects.{Work, set_output, applied, Effect, Refused, Turn, Move, Set, Global, Store, Restore, Output, Numbers, Last, Clear}
use Rattle.rules.specs.Step.{State, state}
use Rattle.keeping.specs.Sound.{Sound}
use Rattle.ranges.proofs.Every.{every_set}
use Rattle.keeping.proofs.Cores.{flags-in-range}
use Rattle.keeping.proofs.Settings.{Allowed, restored-allowed}

-- an effect that keeps registers in range
abbrev pub Good : Effect → Type 0
Good (Refused s) = Unit {0}
Good (Turn order velocity) = Unit {0}
Good (Move w) = Allowed (axis_place 50) w.v
Good (Set place w) = Allowed place w.v
Good (Global place w) = Allowed place w.v
Good (Store place) = Unit {0}
Good (Restore place) = Unit {0}
Good (Output port bit) = bit_in_range bit ≡ true
Good (Numbers a x) = Unit {0}
Good (Last l) = Unit {0}
Good (Clear f) = flags_in_range f ≡ true

-- the state that work leaves, with the call stack, which it does not touch
abbrev pub leaves : Work → List ℕ → State
leaves w e = state w.core e w.values w.outputs w.store

output-in-range : (o : List ℕ) (port bit : ℕ) → bits_in_range o ≡ true → bit_in_range bit ≡ true → bits_in_range (set_output o port bit) ≡ true
unfolding set_output bits_in_range
output-in-range o port bit h b =
    picked (λ (l : List ℕ). bits_in_range l ≡ true) (ltb port 4) (set o port bit) o (λ _. every_set bit_in_range o port bit h b) h

module _ (x : State) (s : Sound x) where
  -- with one value set, and other scalars and store
  with_value : (c : Core) (place : ℕ) (z : ℤ) (m : List ℕ) → core_in_range c ≡ true → Allowed place z
      → Sound (state c x.entries (set_value x.values place z) x.outputs m)
  with_value c place z m h a =
      record {
        core = h;
        entries = s.entries;
        values = set_in_range x.values place z s.size s.values a;
        size = set_length x.values place z ∙ s.size;
        outputs = s.outputs;
      }

  -- with other scalars and store
  pub with-core : (c : Core) (m : List ℕ) → core_in_range c ≡ true → Sound (state c x.entries x.values x.outputs m)
  with-core c m h = record { core = h; entries = s.entries; values = s.values; size = s.size; outputs = s.outputs }

  pub applied-sound : (e : Effect) → Good e → Sound (leaves (applied e x.core x.values x.outputs x.store) x.entries)
  unfolding core_in_range
  applied-sound (Refused r) g = s
  applied-sound (Turn order velocity) g = with-core _ _ s.core
  applied-sound (Move w) g = with_value _ (axis_place 50) w.v _ s.core g
  applied-sound (Set place w) g = with_value _ place w.v _ s.core g
  applied-sound (Global place w) g = with_value _ place w.v _ s.core g
  applied-sound (Store place) g = with-core _ _ s.core
  applied-sound (Restore place) g = with_value _ place _ _ s.core (restored-allowed x.store place)
  applied-sound (Output port bit) g =
      record {
        core = s.core;
        entries = s.entries;
        values = s.values;
        size = s.size;
        outputs = output-in-range x.outputs port bit s.outputs g;
      }
  applied-sound (Numbers a b) g = with-core _ _ s.core
  applied-sound (Last l) g = with-core _ _ s.core
  applied-sound (Clear f) g = with-core _ _ (flags-in-range x.core s.core f g)

-- ---- the store
module _ (c : Core) (v : List ℤ) (o m : List ℕ) where
  pub applied-store : (e : Effect) → length (applied e c v o m).store ≡ length m
  applied-store (Refused s) = refl
  applied-store (Turn order velocity) = refl
  applied-store (Move w) = refl
  applied-store (Set place w) = refl
  applied-store (Global place w) = cell_length m (cell_of rows place) w.v
  applied-store (Store place) = cell_length m (cell_of rows place) (value_at v place).v
  applied-store (Restore place) = refl
  applied-store (Output port bit) = refl
  applied-store (Numbers a x) = refl
  applied-store (Last l) = refl
  applied-store (Clear f) = refl

-- ---- refusals
pub applied-refused : (x : State) (e : Effect) → is_done (applied e x.core x.values x.outputs x.store).status ≡ false
    → leaves (applied e x.core x.values x.outputs x.store) x.entries ≡ x
applied-refused x (Refused s) h = refl
applied-refused x (Turn order velocity) h = absurd (true≢false h)
applied-refused x (Move w) h = absurd (true≢false h)
applied-refused x (Set place w) h = absurd (true≢false h)
applied-refused x (Global place w) h = absurd (true≢false h)
applied-refused x (Store place) h = absurd (true≢false h)
applied-refused x (Restore place) h = absurd (true≢false h)
applied-refused x (Output port bit) h = absurd (true≢false h)
applied-refused x (Numbers a b) h = absurd (true≢false h)
applied-refused x (Last l) h = absurd (true≢false h)
applied-refused x (Clear f) h = absurd (true≢false h)
