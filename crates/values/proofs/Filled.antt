-- A list filled place by place. Assumes nothing.
use Prim.Native.Nat.{ℕ, ◌+◌, ◌≤◌, ◌<◌}
use native.Mathlib.Nat.{eq-or-lt_of_le, zero-add}
use native.Mathlib.Omega.{arith}
use mathlib.Core.Logic.{⊎_elim}
use mathlib.Core.Path.{◌≡◌, sym, ap, subst, ◌∙◌}
use mathlib.Core.List.{List}
use lib.IntN.{ℤ, pos}
use lib.ListN.{length, get_or, set, length-set}
use lib.Seq.{get_or-set_same, get_or-set_other, ext_get_or}
use Rattle.sheet.specs.Places.{tabulate}
use Rattle.sheet.proofs.Tables.{at-tabulate, length-tabulate}

-- the first i places of a list of n have what a function gives there
pub record Filled (f : ℕ → ℤ) (n i : ℕ) (vs : List ℤ) : Type 0 where
  pub size : length vs ≡ n
  pub there : (j : ℕ) → j < i → get_or vs j (pos 0) ≡ f j

module _ (f : ℕ → ℤ) (n : ℕ) where
  set-one : (i : ℕ) (vs : List ℤ) → i < n → Filled f n i vs → Filled f n (i + 1) (set vs i (f i))
  set-one i vs h k =
      record {
        size = length-set vs i (f i) ∙ k.size;
        there = λ j l.
            ⊎_elim
            (λ (e : j ≡ i). rw e (get_or-set_same vs i (f i) (pos 0) (rw k.size h)))
            (λ g. get_or-set_other vs i j (f i) (pos 0) (λ e. omega arith) ∙ k.there j g)
            (eq-or-lt_of_le (omega arith));
      }

  -- one place more, as `put_value` sets it
  pub one_more : (i : ℕ) (vs us : List ℤ) → i < n → us ≡ set vs i (f i) → Filled f n i vs → Filled f n (i + 1) us
  one_more i vs us h e k = subst (Filled f n (i + 1)) (sym e) (set-one i vs h k)

  pub all-filled : (i : ℕ) (vs : List ℤ) → n ≤ i → Filled f n i vs → vs ≡ tabulate f 0 n
  all-filled i vs h k =
      ext_get_or (pos 0) vs (tabulate f 0 n) (k.size ∙ sym (length-tabulate f 0 n))
      (λ j l. let q : j < n = omega (arith, k.size) in k.there j (omega arith) ∙ sym (at-tabulate f 0 n j (pos 0) q ∙ ap f (zero-add j)))
