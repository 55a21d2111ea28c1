-- What is decided of a command that the judge has let through keeps registers in range. Assumes nothing.
use Prim.Native.Nat.{ℕ}
use mathlib.Core.Path.{◌≡◌, refl}
use mathlib.Core.Bool.{true}
use mathlib.Core.List.{List, [], ◌∷◌}
use borrow.Author.Tests.{eqb-true}
use lib.Dec.{eqb}
use lib.IntN.{ℤ, pos, neg_ℤ, ◌+ℤ◌}
use mir.Syntax.{w32}
use mir.Val.{SFits}
use Rattle.words.specs.Word.{pick, word}
use Rattle.words.specs.declared.Word.{Word}
use Rattle.words.proofs.Bools.{each, picked, either}
use Rattle.wire.specs.declared.Command.{Command}
use Rattle.order.specs.Order.{same_w}
use Rattle.ranges.specs.Range.{every, bit_in_range, bits_in_range}
use Rattle.registers.specs.Range.{core_in_range}
use Rattle.flags.specs.Flags.{flags_in_range}
use Rattle.flags.specs.declared.Flags.{Flags}
use Rattle.registers.specs.declared.Core.{Core}
use Rattle.sheet.specs.Places.{axis_place}
use Rattle.settings.specs.Settings.{bank_place, settable, kept, is_global, locked}
use Rattle.status.specs.Status.{is_done}
use Rattle.status.specs.declared.Status.TheVariants.{Value, Locked}
use Rattle.status.proofs.Statuses.{all_right}
use Rattle.rules.specs.Effects.{Refused, Move, Set, Global, Store, Numbers}
use Rattle.rules.specs.Motion.{parameter, within_limit, turn, right_within, left_within, is_word, move_by, move_to}
use Rattle.rules.proofs.Limits.{word_fits}
use Rattle.rules.specs.Assigning.{shut, assign, take, keep}
use Rattle.dividing.specs.Divide.{Answer}
use Rattle.calculating.specs.Calculate.{calculated}
use Rattle.rules.specs.Numbers.{into_accumulator, calc, calcx, cleared, clear}
use Rattle.fields.specs.Fields as fields
use Rattle.judge.specs.Judge as judge
use Rattle.pins.specs.Pins.{bit_of}
use Rattle.rules.specs.Deciding.{decided}
use Rattle.rules.proofs.DecidingCases.{by-command}
use Rattle.keeping.proofs.Cores.{parts}
use Rattle.keeping.proofs.Settings.{position-allowed, kept-allowed, set-allowed, move-allowed}
use Rattle.keeping.proofs.Applied.{Good}

-- ---- settings
module _ (place : ℕ) (w : Word) (values : List ℤ) where
  assign-good : settable place w.v ≡ true → Good (assign place w values)
  unfolding assign
  assign-good h =
      let global = pick (shut place values) (Refused Locked) (Global place (kept place w)) in
      picked Good (eqb place (axis_place 50)) (Move w) (pick (is_global place) global (Set place w))
      (λ e. move-allowed place w.v h (eqb-true place (axis_place 50) e))
      (either Good (is_global place) global (Set place w)
      (λ _. picked Good (shut place values) (Refused Locked) (Global place (kept place w)) (λ _. tt) (kept-allowed place w h))
      (set-allowed place w.v h))

  take-good : Good (take place w values)
  unfolding take
  take-good = picked Good (settable place w.v) (assign place w values) (Refused Value) assign-good tt

-- ---- the other commands
keep-good : (place : ℕ) (values : List ℤ) → Good (keep place values)
unfolding keep
keep-good place values = picked Good (locked values) (Refused Locked) (Store place) (λ _. tt) tt

right-good : (limit v : ℤ) → Good (right_within limit v)
unfolding right_within
right-good limit v = picked Good (within_limit limit v) (turn v) (Refused Value) (λ _. tt) tt

left-good : (limit v : ℤ) → Good (left_within limit v)
unfolding left_within
left-good limit v = picked Good (within_limit limit v) (turn (neg_ℤ v)) (Refused Value) (λ _. tt) tt

by-good : (a v : ℤ) → Good (move_by a v)
unfolding move_by
by-good a v =
    let z = a +ℤ v in
    picked Good (is_word z) (Move (word z)) (Refused Value) (λ e. position-allowed z (word_fits z e)) tt

to-good : (kind : ℕ) (w : Word) (values : List ℤ) → SFits w32 w.v → Good (move_to kind w values)
unfolding move_to
to-good kind w values f =
    let y = move_by (parameter 52 values).v w.v in
    picked Good (eqb kind 0) (Move w) y (λ _. position-allowed w.v f) (by-good (parameter 52 values).v w.v)

into-good : (a : Answer) (x : Word) → Good (into_accumulator a x)
unfolding into_accumulator
into-good a x = picked Good (eqb a.status 100) (Numbers (word a.value) x) (Refused Value) (λ _. tt) tt

calc-good : (kind : ℕ) (value accumulator x : Word) → Good (calc kind value accumulator x)
unfolding calc
calc-good kind value accumulator x =
    let a = calculated kind accumulator.v value.v accumulator.v in
    picked Good (eqb kind 9) (Numbers value x) (into_accumulator a x) (λ _. tt) (into-good a x)

calcx-good : (kind : ℕ) (accumulator x : Word) → Good (calcx kind accumulator x)
unfolding calcx
calcx-good kind accumulator x =
    let a = calculated kind accumulator.v x.v x.v in
    let y = pick (eqb kind 10) (Numbers x accumulator) (into_accumulator a x) in
    picked Good (eqb kind 9) (Numbers accumulator accumulator) y (λ _. tt)
    (picked Good (eqb kind 10) (Numbers x accumulator) (into_accumulator a x) (λ _. tt) (into-good a x))

cleared-bit : (kind own flag : ℕ) → bit_in_range flag ≡ true → bit_in_range (cleared kind own flag) ≡ true
cleared-bit kind own flag h =
    picked (λ n. bit_in_range n ≡ true) (eqb kind 0) 0 (pick (eqb kind own) 0 flag) (λ _. refl)
    (picked (λ n. bit_in_range n ≡ true) (eqb kind own) 0 flag (λ _. refl) h)

clear-good : (kind : ℕ) (f : Flags) → flags_in_range f ≡ true → Good (clear kind f)
unfolding clear bits_in_range
clear-good kind f h =
    let a = each (bit_in_range f.eto) (every bit_in_range (f.eal ∷ f.edv ∷ f.epo ∷ [])) h in
    let b = each (bit_in_range f.eal) (every bit_in_range (f.edv ∷ f.epo ∷ [])) a.1 in
    let c = each (bit_in_range f.edv) (every bit_in_range (f.epo ∷ [])) b.1 in
    let d = each (bit_in_range f.epo) true c.1 in
    simp (
      cleared-bit kind 1 f.eto a.0,
      cleared-bit kind 2 f.eal b.0,
      cleared-bit kind 3 f.edv c.0,
      cleared-bit kind 4 f.epo d.0,
    )

bit-good : (z : ℤ) → bit_in_range (bit_of z) ≡ true
bit-good z = picked (λ n. bit_in_range n ≡ true) (same_w z (pos 1)) 1 0 (λ _. refl) refl

-- ---- what the judge has let through may be set
module _ (c : Command) (h : is_done (judge.judged c) ≡ true) where
  axis-settable : c.number ≡ 5 → settable (axis_place c.kind) c.value.v ≡ true
  unfolding judge.judged fields.sap
  axis-settable e =
      (all_right true (fields.motor_zero c) (fields.writable c.kind) (settable (axis_place c.kind) c.value.v) true (rw e at h)).3

  bank-settable : c.number ≡ 9 → settable (bank_place c.motor c.kind) c.value.v ≡ true
  unfolding judge.judged fields.sgp
  bank-settable e =
      (all_right true (fields.is_bank c.motor) (fields.takes c.motor c.kind) (settable (bank_place c.motor c.kind) c.value.v) true (rw e at h)).3

pub decided-good : (c : Command) (core : Core) (values : List ℤ) → is_done (judge.judged c) ≡ true → SFits w32 c.value.v
    → core_in_range core ≡ true → Good (decided c core values)
decided-good c core values h f g =
    let v = c.value.v in
    let a = core.accumulator in
    let axis = axis_place c.kind in
    let bank = bank_place c.motor c.kind in
    by-command c core values Good
    (record {
      ror = λ _. right-good (parameter 43 values).v v;
      rol = λ _. left-good (parameter 43 values).v v;
      mst = λ _. tt;
      mvp = λ _. to-good c.kind c.value values f;
      sap = λ e. assign-good axis c.value values (axis-settable c h e);
      stap = λ _. keep-good axis values;
      rsap = λ _. tt;
      sgp = λ e. assign-good bank c.value values (bank-settable c h e);
      stgp = λ _. keep-good bank values;
      rsgp = λ _. tt;
      sio = λ _. bit-good v;
      calc = λ _. calc-good c.kind c.value a core.x;
      comp = λ _. tt;
      calcx = λ _. calcx-good c.kind a core.x;
      aap = λ _. take-good axis a values;
      agp = λ _. take-good bank a values;
      cle = clear-good c.kind core.flags (parts core g).flags;
    })
