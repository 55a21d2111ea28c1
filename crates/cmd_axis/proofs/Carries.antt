-- A command that the judge lets through comes to what its effect does. Assumes nothing.
use Prim.Native.Nat.{ℕ, ◌<◌}
use mathlib.Core.Path.{◌≡◌, refl, sym, ap, ◌∙◌}
use mathlib.Core.Bool.{Bool, true, false}
use mathlib.Core.List.{List}
use borrow.Author.Tests.{ltb-true, lt-leb, eq-eqb, ne_eqb}
use lib.Dec.{eqb, ltb}
use lib.IntN.{ℤ, neg_ℤ, ◌+ℤ◌}
use Rattle.words.specs.Word.{pick, word}
use Rattle.words.specs.declared.Word.{Word}
use Rattle.words.proofs.Bools.{is_T, each}
use Rattle.wire.specs.declared.Command.{Command}
use Rattle.sheet.specs.Places.{axis_place}
use Rattle.settings.specs.Settings.{is_global, settable, locked}
use Rattle.settings.proofs.Counts.{axis_rows}
use Rattle.fields.specs.Fields.{by_bytes, writable}
use Rattle.rules.specs.Assigning.{assign, take, keep}
use Rattle.status.specs.Status.{is_done}
use Rattle.status.specs.declared.Status.TheVariants.{Done, Value, Locked}
use Rattle.judge.specs.Judge.{judged, numbered, is_flow, is_reading}
use Rattle.registers.specs.declared.Order.TheVariants.{Velocity}
use Rattle.rules.specs.Motion.{parameter, within_limit, right_within, left_within, is_word, move_by, move_to}
use Rattle.rules.specs.Reading.{read}
use Rattle.rules.specs.Effects.{applied, Effect}
use Rattle.rules.specs.Effects as effect
use Rattle.rules.specs.Deciding.{decided, worked}
use Rattle.board.specs.declared.Registers.{Registers}
use Rattle.cmd_turns.specs.Turn.{Turn, work, through, turned}
use Rattle.cmd_turns.specs.declared.Deed.TheVariants.{Number, Move, Set}
use Rattle.cmd_turns.specs.Deed.{doing, comes_to}
use Rattle.std.specs.Prelude.{Ok, Err}
use Rattle.status.specs.declared.Refusal.TheVariants as refusal
use Rattle.cmd_turns.proofs.Decides.{passes}
use Rattle.cmd_axis.proofs.Rows.{position-place}

-- an effect, carried out
abbrev pub carried : Effect → Registers → List ℕ → Turn
carried e r m = work (applied e r.core r.values r.outputs m) r

module _ (k : ℕ) (c : Command) (f : is_flow k ≡ false) (g : is_reading k ≡ false) (r : Registers) (m : List ℕ) where
  worked_through : through (numbered k c) r m ≡ carried (decided (numbered k c) r.core r.values) r m
  unfolding through worked
  worked_through = rw (f, g)

  -- what the judge lets through is what its effect does
  pub carries : {e : Effect} → judged (numbered k c) ≡ Done → decided (numbered k c) r.core r.values ≡ e → carried e r m ≡ turned (numbered k c) r m
  carries j h = ap (λ (x : Effect). carried x r m) (sym h) ∙ sym worked_through ∙ sym (passes k c r m j)

-- a command that reads loads what it reads
pub loads :
    (k : ℕ) (c : Command) (r : Registers) (m : List ℕ) → is_flow k ≡ false → is_reading k ≡ true → judged (numbered k c) ≡ Done
    → doing (Number (read (numbered k c) r.core r.values r.outputs r.digital r.analog)) r m ≡ turned (numbered k c) r m
unfolding doing through
loads k c r m f g j = rw (passes k c r m j, f, g)

pub right-type : (motor kind value : Bool) → is_done (by_bytes motor kind value) ≡ true → kind ≡ true
right-type true true value h = refl
right-type true false value h = absurd (is_T false h)
right-type false kind value h = absurd (is_T false h)

pub right-motor : (motor kind value : Bool) → is_done (by_bytes motor kind value) ≡ true → motor ≡ true
right-motor true kind value h = refl
right-motor false kind value h = absurd (is_T false h)

-- ---- an axis parameter that is set
pub on-axis : (n : ℕ) → writable n ≡ true → axis_place n < 43
unfolding writable
on-axis n h = ltb-true (axis_place n) 43 (each (ltb (axis_place n) 43) _ h).0

pub sets :
    (place : ℕ) (w : Word) (r : Registers) (m : List ℕ) → place < 43
    → doing (pick (eqb place 7) (Move w) (Set place w)) r m ≡ carried (assign place w r.values) r m
unfolding doing assign is_global
sets place w r m h = simp (position-place, axis_rows, lt-leb 43 place h) (by (eqb place 7))
  where
    by : (t : Bool) → doing (pick t (Move w) (Set place w)) r m ≡ carried (pick t (effect.Move w) (effect.Set place w)) r m
    by true = refl
    by false = refl

-- ---- what moves the axis
module _ (r : Registers) (m : List ℕ) where
  pub moves :
      (a v : ℤ)
      → comes_to (pick (is_word (a +ℤ v)) (Ok (Move (word (a +ℤ v)))) (Err refusal.Value)) r m ≡ carried (move_by a v) r m
  unfolding doing move_by
  moves a v = by (is_word (a +ℤ v))
    where
      by : (t : Bool) → comes_to (pick t (Ok (Move (word (a +ℤ v)))) (Err refusal.Value)) r m ≡ carried (pick t (effect.Move (word (a +ℤ v))) (effect.Refused Value)) r m
      by true = refl
      by false = refl

module _ (l v : ℤ) where
  pub right-within : within_limit l v ≡ true → right_within l v ≡ effect.Turn Velocity (word v)
  unfolding right_within
  right-within h = rw h

  pub right-beyond : within_limit l v ≡ false → right_within l v ≡ effect.Refused Value
  unfolding right_within
  right-beyond h = rw h

  pub left-within : within_limit l v ≡ true → left_within l v ≡ effect.Turn Velocity (word (neg_ℤ v))
  unfolding left_within
  left-within h = rw h

  pub left-beyond : within_limit l v ≡ false → left_within l v ≡ effect.Refused Value
  unfolding left_within
  left-beyond h = rw h

module _ (w : Word) (values : List ℤ) where
  pub absolute : (kind : ℕ) → kind ≡ 0 → move_to kind w values ≡ effect.Move w
  unfolding move_to
  absolute kind h = rw (eq-eqb kind 0 h)

  pub relative : (kind : ℕ) → (kind ≡ 0 → ⊥) → move_to kind w values ≡ move_by (parameter 52 values).v w.v
  unfolding move_to
  relative kind h = rw (ne_eqb kind 0 h)

-- ---- the accumulator that is set, and a value that is stored
module _ (place : ℕ) (w : Word) (values : List ℤ) where
  pub taken : settable place w.v ≡ true → take place w values ≡ assign place w values
  unfolding take
  taken h = rw h

  pub not_taken : settable place w.v ≡ false → take place w values ≡ effect.Refused Value
  unfolding take
  not_taken h = rw h

module _ (place : ℕ) (values : List ℤ) where
  pub locked-out : locked values ≡ true → keep place values ≡ effect.Refused Locked
  unfolding keep
  locked-out h = rw h

  pub unlocked : locked values ≡ false → keep place values ≡ effect.Store place
  unfolding keep
  unlocked h = rw h
