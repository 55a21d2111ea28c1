-- The check's promise leaves one answer. Assumes nothing.
use Prim.Native.Nat.{ℕ}
use mathlib.Core.Path.{◌≡◌, refl, sym, ap, ◌∙◌, subst}
use mathlib.Core.List.{List}
use lib.ListN.{length}
use Rattle.std.proofs.Common.{Ok, Err}
use Rattle.points.specs.Reach.{Safe}
use Rattle.leading.specs.Leading.{way_at}
use Rattle.walking.proofs.Unique.{same_point, same-status}
use Rattle.checking.specs.Check.{Verdict, Passed, Right, Checked, answer_of}
use Rattle.checking.specs.Laws.{Laws}
use Rattle.checking.specs.declared.Fault.TheVariants.{Length, Bad}
use Rattle.checking.specs.declared.Answer.{Answer}

same : (program : List ℕ) (x y : Verdict) → Right program x → Right program y → x ≡ y
same program (Ok _) (Ok _) c d = refl
same program (Ok _) (Err Length) c d = absurd (d c.0)
same program (Ok _) (Err (Bad q t)) c d = absurd (c.1.none q t d.1.reached d.1.bad)
same program (Err Length) (Ok _) c d = absurd (c d.0)
same program (Err Length) (Err Length) c d = refl
same program (Err Length) (Err (Bad q t)) c d = absurd (c d.0)
same program (Err (Bad p s)) (Ok _) c d = absurd (d.1.none p s c.1.reached c.1.bad)
same program (Err (Bad p s)) (Err Length) c d = absurd (d c.0)
same program (Err (Bad p s)) (Err (Bad q t)) c d =
    λ i. Err (Bad (same_point program c.1 d.1 i) (same-status program c.1 d.1 i))

one_verdict : (program : List ℕ) (x y : Verdict) (a b : Answer) → Checked program x a → Checked program y b → (x ≡ y) × (a ≡ b)
one_verdict program x y a b c d =
    let e = same program x y c.0 d.0 in
    (e, c.1 ∙ ap answer_of e ∙ sym d.1)

passed-safe : (program : List ℕ) (x : Verdict) → Right program x → x ≡ Passed → Safe (way_at program)
passed-safe program x c e = (subst (Right program) e c).1

exactly : (program : List ℕ) (x : Verdict) (a : Answer) → length program ≡ 7168 → Checked program x a
    → (x ≡ Passed → Safe (way_at program)) × (Safe (way_at program) → x ≡ Passed)
exactly program x a l c = (passed-safe program x c.0, λ s. same program x Passed c.0 (l, s))

pub laws : Laws
laws = record { one_verdict = one_verdict; exactly = exactly }
