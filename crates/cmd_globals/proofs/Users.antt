-- Globals and user variables: what a bank and a number name, and what is done with it. Assumes nothing.
use Prim.Native.Nat.{ℕ, zero, suc, ◌+◌, ◌<◌}
use native.Mathlib.Omega.{arith}
use mathlib.Core.Path.{◌≡◌, refl}
use mathlib.Core.Bool.{Bool, true, false}
use mathlib.Core.List.{List, ◌++◌}
use borrow.Author.Tests.{ltb-true, eq-eqb, ne_eqb, le-leb, le-ltb}
use lib.Dec.{eqb, ltb}
use lib.IntN.{ℤ, pos}
use lib.ListN.{get_or}
use Rattle.words.specs.Word.{pick, word}
use Rattle.words.specs.declared.Word.{Word}
use Rattle.order.specs.Order.{same_w}
use Rattle.sheet.specs.Sheet.{axis, globals, read_only, rwe_rows, rw_rows, r_rows}
use Rattle.sheet.specs.Rows.{parameters}
use Rattle.sheet.specs.Places.{global_in}
use Rattle.values.specs.Values.{value_at}
use Rattle.settings.specs.Settings.{bank_place, kept, is_global, guarded, locked}
use Rattle.settings.proofs.Counts.{axis_rows, parameter_rows, global-rows, place-low}
use Rattle.settings.proofs.Users.{global-place, other-bank}
use Rattle.status.specs.declared.Status.TheVariants.{Locked}
use Rattle.fields.specs.Fields.{takes}
use Rattle.registers.specs.declared.Core.{Core}
use Rattle.rules.specs.Reading.{number, bit, global, digital_at, analog_at, output_at, port}
use Rattle.rules.specs.Assigning.{assign}
use Rattle.rules.specs.Effects as effect
use Rattle.board.specs.declared.Registers.{Registers}
use Rattle.cmd_turns.specs.declared.Deed.{Deed}
use Rattle.cmd_turns.specs.declared.Deed.TheVariants.{Global}
use Rattle.std.specs.Prelude.{Result, Ok, Err}
use Rattle.status.specs.declared.Refusal.{Refusal}
use Rattle.status.specs.declared.Refusal.TheVariants as refusal
use Rattle.cmd_turns.specs.Deed.{doing, comes_to}
use Rattle.cmd_axis.proofs.Carries.{carried}
use Rattle.cmd_axis.proofs.Rows.{position-place}

-- ---- places
pub global-low : (n : ℕ) → bank_place 0 n < 256
global-low n = omega (arith, global-place n, place-low (globals ++ read_only) n, global-rows)

-- ---- what the judge lets through has a place
pub takes-global : (bank n : ℕ) → (bank ≡ 2 → ⊥) → takes bank n ≡ true → global_in n < 4
unfolding takes
takes-global bank n e h = ltb-true (global_in n) 4 (rw (ne_eqb bank 2 e) at h)

-- ---- user variables
pub user-assigned : (n : ℕ) (w : Word) (values : List ℤ) → assign (47 + n) w values ≡ effect.Set (47 + n) w
unfolding assign is_global
user-assigned n w values =
    simp (
      position-place,
      ne_eqb (47 + n) 7 (λ e. omega (arith, e)),
      axis_rows,
      parameter_rows,
      le-leb 43 (47 + n) (omega arith),
      le-ltb (47 + n) 47 (omega arith),
    )

-- ---- globals: what the lock keeps; the others, unless it guards them
abbrev pub lock_word : Word → Word
lock_word w = pick (same_w w.v (pos 1234)) (word (pos 1)) (word (pos 0))

abbrev pub global_deed : ℕ → Word → Bool → Result Deed Refusal
global_deed place w b = pick (eqb place 44) (Ok (Global 44 (lock_word w))) (pick b (Err refusal.Locked) (Ok (Global place w)))

module _ (w : Word) (r : Registers) (m : List ℕ) where
  guards : (place : ℕ) (b : Bool) → comes_to (pick b (Err refusal.Locked) (Ok (Global place w))) r m ≡ carried (pick b (effect.Refused Locked) (effect.Global place w)) r m
  unfolding doing
  guards place true = refl
  guards place false = refl

  by_place : (n : ℕ) → n < 4 → comes_to (global_deed (43 + n) w (locked r.values)) r m ≡ carried (assign (43 + n) w r.values) r m
  unfolding doing assign is_global guarded kept bank_place parameters axis globals read_only rwe_rows rw_rows r_rows
  by_place zero h = guards 43 (locked r.values)
  by_place (suc zero) h = refl
  by_place (suc (suc zero)) h = guards 45 (locked r.values)
  by_place (suc (suc (suc zero))) h = guards 46 (locked r.values)
  by_place (suc (suc (suc (suc n)))) h = absurd (omega arith)

  pub sets-global : (n : ℕ) → global_in n < 4 → comes_to (global_deed (bank_place 0 n) w (locked r.values)) r m ≡ carried (assign (bank_place 0 n) w r.values) r m
  sets-global n h = rw (global-place n) (by_place (global_in n) h)

-- ---- what is read
module _ (core : Core) (values : List ℤ) (bank n : ℕ) where
  pub reads-user : bank ≡ 2 → value_at values (bank_place 2 n) ≡ global bank n core values
  unfolding global
  reads-user e = rw e

  pub reads-running : (bank ≡ 2 → ⊥) → n ≡ 128 → bit core.running ≡ global bank n core values
  unfolding global
  reads-running h e = rw (ne_eqb bank 2 h, eq-eqb n 128 e)

  pub reads-address : (bank ≡ 2 → ⊥) → (n ≡ 128 → ⊥) → n ≡ 130 → number core.address ≡ global bank n core values
  unfolding global
  reads-address h i e = rw (ne_eqb bank 2 h, ne_eqb n 128 i, eq-eqb n 130 e)

  pub reads-global : (bank ≡ 2 → ⊥) → (n ≡ 128 → ⊥) → (n ≡ 130 → ⊥) → value_at values (bank_place 0 n) ≡ global bank n core values
  unfolding global
  reads-global h i j = rw (ne_eqb bank 2 h, ne_eqb n 128 i, ne_eqb n 130 j, other-bank bank n h)

one_of : (b : Bool) (x : ℕ) → number (pick b x 0) ≡ pick b (number x) (number 0)
one_of true x = refl
one_of false x = refl

module _ (o d : List ℕ) (a : List ℤ) (bank p : ℕ) where
  pub digital-port : bank ≡ 0 → number (pick (ltb p 2) (get_or d p 0) 0) ≡ port bank p o d a
  unfolding port digital_at
  digital-port e = rw e (one_of (ltb p 2) (get_or d p 0))

  pub analog-port : bank ≡ 1 → pick (ltb p 3) (word (get_or a p (pos 0))) (word (pos 0)) ≡ port bank p o d a
  unfolding port analog_at
  analog-port e = rw e

  pub output-port : (bank ≡ 0 → ⊥) → (bank ≡ 1 → ⊥) → number (pick (ltb p 4) (get_or o p 0) 0) ≡ port bank p o d a
  unfolding port output_at
  output-port h i = rw (ne_eqb bank 0 h, ne_eqb bank 1 i) (one_of (ltb p 4) (get_or o p 0))
