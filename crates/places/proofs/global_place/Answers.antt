-- `places::global_place`.
use mathlib.Core.Path.{sym}
use mathlib.Core.List.{◌++◌, map}
use Rattle.sheet.specs.Sheet.{globals, read_only}
use Rattle.rows.specs.declared.Row.{Row}
use Rattle.sheet.proofs.Keys.{none_of, no_place}
use Rattle.places.proofs.global_place.Goals as goal

pub returns-in_default : goal.returns-in_default
unfolding globals read_only
returns-in_default c =
    let n = c.args.number in
    let t = globals ++ read_only in
    sym (no_place t n (none_of n (map (λ (x : Row). x.number) t) c.in_default.in_default-own.rest))
