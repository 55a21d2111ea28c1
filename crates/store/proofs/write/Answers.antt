-- `store::write`.
use mathlib.Core.Path.{◌≡◌, sym, ◌∙◌}
use Prim.Native.Nat.{◌+◌, ◌-◌, ◌≤◌}
use native.Mathlib.Omega.{arith}
use lib.ListN.{length}
use borrow.Author.Rules.{rules}
use Rattle.std.proofs.lemmas.List.Edits.{sets-eq}
use Rattle.std.proofs.lemmas.List.{append_assoc, drop-drop}
use Rattle.store.proofs.Written.{written_in}
use Rattle.store.proofs.write.Goals as goal

pub returns : goal.returns
returns c =
    let s = c.args.store.now in
    let bytes = c.args.bytes.now in
    let at = c.args.at in
    let e : at + length bytes - at ≡ length bytes = omega arith in
    let h : at + length bytes ≤ length s = search rules in
    simp (c.copy_from_slice.ensures.after, e, drop-drop, ← append_assoc)
    (sym (written_in s at bytes h ∙ sets-eq bytes s at h))
