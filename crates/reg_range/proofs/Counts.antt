-- Counted tests, put together. Assumes nothing.
use Prim.Native.Nat.{ℕ, ◌+◌, ◌≤◌}
use native.Mathlib.Omega.{arith}
use mathlib.Core.Path.{◌≡◌, refl}
use mathlib.Core.Bool.{Bool, true, false, ◌&&◌}
use borrow.Author.Tests.{eq-eqb, ne_eqb, eqb-true, eqb-false}
use lib.Dec.{eqb}
use Rattle.reg_range.specs.Count.{bit, Counts}

-- two numbers that are at most n and m sum up to n + m exactly if each is the most
both-full : (r s n m : ℕ) → r ≤ n → s ≤ m → eqb (r + s) (n + m) ≡ eqb r n && eqb s m
both-full r s n m p q = by (eqb r n) (eqb s m) refl refl
  where
    by : (t u : Bool) → eqb r n ≡ t → eqb s m ≡ u → eqb (r + s) (n + m) ≡ t && u
    by true true e f =
        let g : r ≡ n = eqb-true r n e in
        let h : s ≡ m = eqb-true s m f in
        eq-eqb (r + s) (n + m) (omega arith)
    by true false e f = ne_eqb (r + s) (n + m) (λ k. eqb-false s m f (let g : r ≡ n = eqb-true r n e in omega arith))
    by false u e f = ne_eqb (r + s) (n + m) (λ k. eqb-false r n e (omega arith))

pub counted : (b : Bool) → Counts 1 b (bit b)
counted true = record { within = omega arith; all = refl }
counted false = record { within = omega arith; all = refl }

pub together : {n m r s : ℕ} {a b : Bool} → Counts n a r → Counts m b s → Counts (n + m) (a && b) (r + s)
together {n} {m} {r} {s} p q =
    let i : r ≤ n = p.within in
    let j : s ≤ m = q.within in
    record { within = omega arith; all = rw (both-full r s n m i j, p.all, q.all) }
