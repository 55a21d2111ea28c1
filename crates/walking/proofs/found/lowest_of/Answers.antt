-- `walking::found::lowest_of`.
use mathlib.Core.Path.{refl}
use Rattle.std.proofs.Common.{Ok}
use Rattle.leading.specs.declared.Paths.TheVariants.{Back, Call}
use Rattle.walking.proofs.Bad.{shown, led, noted-bad, noted_back, call_none}
use Rattle.walking.proofs.Depths.{least}
use Rattle.walking.proofs.found.lowest_of.Goals as goal

pub returns-in-Err : goal.returns-in-Err
returns-in-Err c = shown c.in-Err.is (cc) (noted-bad _ _ _ c.in-Err.refusal _ (least _ c.requires c.args.site.small))

pub returns-in-Ok-Back : goal.returns-in-Ok-Back
returns-in-Ok-Back c = shown {p = Ok Back} (led c.in-Ok-Back.is (rw c.in-Ok-Back.is at c.in-Ok-Back.field-0-is)) c.lower-in-Ok-Back.ensures (noted_back _ _ _ c.if-site-eq1.true)

pub returns-in_default-2 : goal.returns-in_default-2
returns-in_default-2 c = shown {p = Ok (Call c.in-Ok-Call.field-0-0 c.in-Ok-Call.field-0-1)} (led c.in-Ok-Call.is (rw c.in-Ok-Call.is at c.in-Ok-Call.field-0-is)) refl (call_none _ _ _ _ _ c.if-site-ge256.false)
