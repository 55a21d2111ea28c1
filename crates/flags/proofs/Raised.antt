-- The laws of alarms. Assumes nothing.
use Prim.Native.Nat.{ℕ}
use mathlib.Core.Path.{◌≡◌, refl}
use mathlib.Core.Bool.{Bool, true, false, ◌&&◌}
use lib.Dec.{T}
use Rattle.words.proofs.Bools.{both}
use Rattle.ranges.specs.Range.{bit_in_range, bits_in_range}
use Rattle.flags.specs.Flags.{raised_flag, raised, flags_in_range}
use Rattle.flags.specs.Laws.{Laws}
use Rattle.flags.specs.declared.Flags.{Flags}
use Rattle.flags.specs.declared.Alarms.{Alarms}

stays : (on : Bool) (flag : ℕ) → flag ≡ 1 → raised_flag on flag ≡ 1
stays true flag e = refl
stays false flag e = e

on-sets : (on : Bool) (flag : ℕ) → on ≡ true → raised_flag on flag ≡ 1
on-sets on flag e = simp e

off-leaves : (on : Bool) (flag : ℕ) → on ≡ false → raised_flag on flag ≡ flag
off-leaves on flag e = simp e

bit-stays : (on : Bool) (flag : ℕ) → T (bit_in_range flag) → T (bit_in_range (raised_flag on flag))
bit-stays true flag t = tt
bit-stays false flag t = t

-- a conjunction, part by part
pub each : (a b c d : Bool) → (T a → T c) → (T b → T d) → T (a && b) → T (c && d)
each true b c d p q t = both c d (p tt) (q t)
each false b c d p q t = absurd t

pub raised_in_range : (a : Alarms) (f : Flags) → T (flags_in_range f) → T (flags_in_range (raised a f))
unfolding raised bits_in_range
raised_in_range a f =
    each (bit_in_range f.eto) _ (bit_in_range f.eto) _ (λ t. t)
    (each (bit_in_range f.eal) _ (bit_in_range (raised_flag a.eal f.eal)) _ (bit-stays a.eal f.eal)
    (each (bit_in_range f.edv) _ (bit_in_range (raised_flag a.edv f.edv)) _ (bit-stays a.edv f.edv)
    (each (bit_in_range f.epo) _ (bit_in_range (raised_flag a.epo f.epo)) _ (bit-stays a.epo f.epo) (λ t. t))))

pub laws : Laws
unfolding raised
laws =
    record {
      raised_in_range = raised_in_range;
      eal_stays = λ a f. stays a.eal f.eal;
      edv_stays = λ a f. stays a.edv f.edv;
      epo_stays = λ a f. stays a.epo f.epo;
      eal_on = λ a f. on-sets a.eal f.eal;
      edv_on = λ a f. on-sets a.edv f.edv;
      epo_on = λ a f. on-sets a.epo f.epo;
      eal_off = λ a f. off-leaves a.eal f.eal;
      edv_off = λ a f. off-leaves a.edv f.edv;
      epo_off = λ a f. off-leaves a.epo f.epo;
      eto_same = λ a f. refl;
    }
