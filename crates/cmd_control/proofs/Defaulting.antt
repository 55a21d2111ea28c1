-- One place more to its default. Assumes nothing.
use Prim.Native.Nat.{ℕ, ◌+◌}
use mathlib.Core.Path.{refl, ap, ◌∙◌}
use mathlib.Core.List.{List}
use lib.IntN.{ℤ}
use Rattle.sheet.specs.Rows.{rows}
use Rattle.resetting.proofs.Ones.{no-values, one_value}
use Rattle.reg_image.specs.With.{with_values}
use Rattle.reg_image.specs.Image.{registers_of, Leaves}
use Rattle.reg_image.proofs.Places.{then}
use Rattle.cmd_control.specs.Defaults.{defaulted, all_defaulted}

pub none_yet : (l : List ℕ) → Leaves (all_defaulted 0) l l
none_yet l =
    let r = registers_of l in
    record { makes = ap (λ (v : List ℤ). with_values v r) (no-values rows r.values); stays = λ t. t }

pub one_more : (n : ℕ) (l k k' : List ℕ) → Leaves (all_defaulted n) l k → Leaves (defaulted n) k k' → Leaves (all_defaulted (n + 1)) l k'
one_more n l k k' d v =
    let r = registers_of l in
    let q = then (all_defaulted n) (defaulted n) l k k' d v in
    record {
      makes = q.makes ∙ ap (λ (w : List ℤ). with_values w r) (one_value rows n r.values refl refl);
      stays = q.stays;
    }
