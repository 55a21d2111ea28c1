-- What a user of flags relies on.
use Rattle.std.specs.Prelude.{◌≡◌, true, false, T}
use Rattle.flags.specs.Flags.{flags_in_range, raised}
use Rattle.flags.specs.declared.Flags.{Flags}
use Rattle.flags.specs.declared.Alarms.{Alarms}

pub record Laws : Type 0 where
  -- flags in range stay so under any alarms
  pub raised_in_range : (a : Alarms) (f : Flags) → T (flags_in_range f) → T (flags_in_range (raised a f))
  -- no alarm clears a flag
  pub eal_stays : (a : Alarms) (f : Flags) → f.eal ≡ 1 → (raised a f).eal ≡ 1
  pub edv_stays : (a : Alarms) (f : Flags) → f.edv ≡ 1 → (raised a f).edv ≡ 1
  pub epo_stays : (a : Alarms) (f : Flags) → f.epo ≡ 1 → (raised a f).epo ≡ 1
  -- one that is on sets its flag
  pub eal_on : (a : Alarms) (f : Flags) → a.eal ≡ true → (raised a f).eal ≡ 1
  pub edv_on : (a : Alarms) (f : Flags) → a.edv ≡ true → (raised a f).edv ≡ 1
  pub epo_on : (a : Alarms) (f : Flags) → a.epo ≡ true → (raised a f).epo ≡ 1
  -- one that is off leaves its flag, and none has to do with ETO
  pub eal_off : (a : Alarms) (f : Flags) → a.eal ≡ false → (raised a f).eal ≡ f.eal
  pub edv_off : (a : Alarms) (f : Flags) → a.edv ≡ false → (raised a f).edv ≡ f.edv
  pub epo_off : (a : Alarms) (f : Flags) → a.epo ≡ false → (raised a f).epo ≡ f.epo
  pub eto_same : (a : Alarms) (f : Flags) → (raised a f).eto ≡ f.eto
