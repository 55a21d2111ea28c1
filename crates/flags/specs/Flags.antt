-- The flags, and what alarms make of them.
use Rattle.std.specs.Prelude.{ℕ, Bool, [], ◌∷◌}
use Rattle.words.specs.Word.{pick}
use Rattle.ranges.specs.Range.{bits_in_range}
use Rattle.flags.specs.declared.Flags.{Flags}
use Rattle.flags.specs.declared.Alarms.{Alarms}

abbrev pub flags_in_range : Flags → Bool
flags_in_range f = bits_in_range (f.eto ∷ f.eal ∷ f.edv ∷ f.epo ∷ [])

-- "an alarm that is on sets EAL, EDV or EPO, one that is off clears nothing"
abbrev pub raised_flag : Bool → ℕ → ℕ
raised_flag on flag = pick on 1 flag

unfoldable pub raised : Alarms → Flags → Flags
raised a f =
    record {
      eto = f.eto;
      eal = raised_flag a.eal f.eal;
      edv = raised_flag a.edv f.edv;
      epo = raised_flag a.epo f.epo;
    }
