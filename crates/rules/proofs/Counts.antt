-- A run counts its steps. Assumes nothing.
use Prim.Native.Nat.{ℕ, zero, suc, ◌+◌, ◌<◌}
use native.Mathlib.Omega.{arith}
use mathlib.Core.Path.{◌≡◌, refl, sym, ap, subst, ◌∙◌}
use mathlib.Core.Logic.{◌⊎◌, inl, inr}
use mathlib.Core.Bool.{Bool, true, false, true≢false}
use mathlib.Core.List.{List}
use Rattle.words.specs.Word.{pick}
use Rattle.rules.specs.Step.{State, Pins}
use Rattle.rules.specs.Run.{Progress, begun, advanced, goes_on, run}
use Rattle.rules.specs.RunLaws.{Laws, Makes, walked}
use Rattle.rules.proofs.Runs.{run_ends}

module _ (alone : Bool) (program : List ℕ) (p : Pins) where
  -- how many steps a run makes
  taken : ℕ → Progress → ℕ
  taken zero x = 0
  taken (suc n) x = pick (goes_on alone x) (suc (taken n (advanced program p x))) 0

  more : (a b : ℕ) → a + 1 + b ≡ a + suc b
  more a b = omega arith

  walked-steps : (k : ℕ) (x : Progress) → (walked program p k x).steps ≡ x.steps + k
  unfolding walked
  walked-steps zero x = omega arith
  walked-steps (suc k) x = walked-steps k (advanced program p x) ∙ more x.steps k

  -- one budget more, by whether the run goes on
  run_by : (n : ℕ) (x : Progress) (b : Bool) → run alone program p n (advanced program p x) ≡ walked program p (taken n (advanced program p x)) (advanced program p x)
      → pick b (run alone program p n (advanced program p x)) x ≡ walked program p (pick b (suc (taken n (advanced program p x))) 0) x
  unfolding walked
  run_by n x true e = e
  run_by n x false e = refl

  run-walked : (n : ℕ) (x : Progress) → run alone program p n x ≡ walked program p (taken n x) x
  unfolding run walked taken
  run-walked zero x = refl
  run-walked (suc n) x = run_by n x (goes_on alone x) (run-walked n (advanced program p x))

  first : (n : ℕ) (x : Progress) (k : ℕ) → goes_on alone x ≡ true → Makes alone program p n (advanced program p x) k → (j : ℕ) → j < suc k → goes_on alone (walked program p j x) ≡ true
  unfolding walked
  first n x k e m zero h = e
  first n x k e m (suc j) h = m.going j (omega arith)

  later : (n : ℕ) (x : Progress) (k : ℕ) → (k ≡ n) ⊎ (goes_on alone (walked program p k (advanced program p x)) ≡ false)
      → (suc k ≡ suc n) ⊎ (goes_on alone (walked program p (suc k) x) ≡ false)
  unfolding walked
  later n x k (inl e) = inl (ap suc e)
  later n x k (inr e) = inr e

  makes-by : (n : ℕ) (x : Progress) (b : Bool) → goes_on alone x ≡ b → Makes alone program p n (advanced program p x) (taken n (advanced program p x))
      → Makes alone program p (suc n) x (pick b (suc (taken n (advanced program p x))) 0)
  unfolding walked
  makes-by n x true e m =
      let k = taken n (advanced program p x) in
      let h = m.within in
      record { within = omega (arith, h); going = first n x k e m; ended = later n x k m.ended }
  makes-by n x false e m = record { within = omega arith; going = λ j h. absurd (omega (arith, h)); ended = inr e }

  makes : (n : ℕ) (x : Progress) → Makes alone program p n x (taken n x)
  unfolding taken
  makes zero x = record { within = omega arith; going = λ j h. absurd (omega (arith, h)); ended = inl refl }
  makes (suc n) x = makes-by n x (goes_on alone x) refl (makes n (advanced program p x))

  -- what is made from the second step on
  rest : (n : ℕ) (x : Progress) (k : ℕ) → Makes alone program p (suc n) x (suc k) → Makes alone program p n (advanced program p x) k
  unfolding walked
  rest n x k m =
      let h = m.within in
      record { within = omega (arith, h); going = λ j l. m.going (suc j) (omega (arith, l)); ended = shorter m.ended }
    where
      shorter : (suc k ≡ suc n) ⊎ (goes_on alone (walked program p (suc k) x) ≡ false) → (k ≡ n) ⊎ (goes_on alone (walked program p k (advanced program p x)) ≡ false)
      shorter (inl e) = inl (omega (arith, e))
      shorter (inr e) = inr e

  at_once : (n : ℕ) (x : Progress) → goes_on alone x ≡ true → (zero ≡ suc n) ⊎ (goes_on alone (walked program p zero x) ≡ false) → ⊥
  unfolding walked
  at_once n x e (inl z) = omega (arith, z)
  at_once n x e (inr f) = true≢false (sym e ∙ f)

  only-by : (n : ℕ) (x : Progress) (b : Bool) → goes_on alone x ≡ b → ((k : ℕ) → Makes alone program p n (advanced program p x) k → k ≡ taken n (advanced program p x))
      → (k : ℕ) → Makes alone program p (suc n) x k → k ≡ pick b (suc (taken n (advanced program p x))) 0
  unfolding walked
  only-by n x true e ih zero m = absurd (at_once n x e m.ended)
  only-by n x true e ih (suc k) m = ap suc (ih k (rest n x k m))
  only-by n x false e ih zero m = refl
  only-by n x false e ih (suc k) m = absurd (true≢false (sym (m.going 0 (omega arith)) ∙ e))

  only : (n : ℕ) (x : Progress) (k : ℕ) → Makes alone program p n x k → k ≡ taken n x
  unfolding taken
  only zero x k m = let h = m.within in omega (arith, h)
  only (suc n) x k m = only-by n x (goes_on alone x) refl (only n (advanced program p x)) k m

  count : (n : ℕ) (x : State) → (run alone program p n (begun x)).steps ≡ taken n (begun x)
  count n x =
      ap (λ (y : Progress). y.steps) (run-walked n (begun x)) ∙ walked-steps (taken n (begun x)) (begun x) ∙ nothing (taken n (begun x))
    where
      nothing : (a : ℕ) → 0 + a ≡ a
      nothing a = omega arith

  parts-by : (m n : ℕ) (x : Progress) (b : Bool) → goes_on alone x ≡ b
      → run alone program p n (run alone program p m (advanced program p x)) ≡ run alone program p (m + n) (advanced program p x)
      → run alone program p n (pick b (run alone program p m (advanced program p x)) x) ≡ pick b (run alone program p (m + n) (advanced program p x)) x
  parts-by m n x true e ih = ih
  parts-by m n x false e ih = run_ends alone program p n x e

  parts : (m n : ℕ) (x : Progress) → run alone program p n (run alone program p m x) ≡ run alone program p (m + n) x
  unfolding run
  parts zero n x = let e : 0 + n ≡ n = omega arith in simp e
  parts (suc m) n x = let e : suc m + n ≡ suc (m + n) = omega arith in rw e (parts-by m n x (goes_on alone x) refl (parts m n (advanced program p x)))

one : (program : List ℕ) (p : Pins) (x : State) → x.core.running ≡ true → run false program p 1 (begun x) ≡ advanced program p (begun x)
unfolding run
one program p x e = simp e

pub alone_one : (program : List ℕ) (p : Pins) (x : State) → run true program p 1 (begun x) ≡ advanced program p (begun x)
unfolding run
alone_one program p x = refl

pub laws : Laws
laws =
    record {
      run_steps = λ alone program p n x. run-walked alone program p n (begun x) ∙ ap (λ (k : ℕ). walked program p k (begun x)) (sym (count alone program p n x));
      run_makes = λ alone program p n x. subst (Makes alone program p n (begun x)) (sym (count alone program p n x)) (makes alone program p n (begun x));
      run_only = λ alone program p n x k m. only alone program p n (begun x) k m ∙ sym (count alone program p n x);
      run_parts = parts;
      run_one = one;
      alone_one = alone_one;
    }
