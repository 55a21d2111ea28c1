-- Numbers that are put and read. Assumes nothing.
use Prim.Native.Nat.{ℕ, zero, suc, ◌+◌, ◌-◌, ◌*◌, ◌/◌, ◌%◌, ◌^◌, ◌<◌}
use native.Mathlib.Nat.{pow-suc}
use native.Mathlib.Omega.{arith}
use mathlib.Core.Path.{◌≡◌, refl, ap, ◌∙◌}
use mathlib.Core.Bool.{Bool, true, false}
use mathlib.Core.List.{List, [], ◌∷◌}
use borrow.Author.Tests.{eqb-true}
use lib.Dec.{eqb}
use Rattle.text.specs.Numbers.{size_of}
use Rattle.text.specs.Put.{digits_before, decimal}
use Rattle.text.specs.Laws.{Laws}
use Rattle.text.proofs.Word.{word_value}

-- ---- digits
one-digit : (n : ℕ) (text : List ℕ) → n / 10 ≡ 0 → size_of 0 ((48 + n % 10) ∷ text) ≡ size_of n text
one-digit n text e =
    let f : 0 * 10 + (48 + n % 10 - 48) ≡ n = omega arith in
    ap (λ (m : ℕ). size_of m text) f

last-digit : (n : ℕ) (text : List ℕ) → size_of (n / 10) ((48 + n % 10) ∷ text) ≡ size_of n text
last-digit n text =
    let f : n / 10 * 10 + (48 + n % 10 - 48) ≡ n = omega arith in
    ap (λ (m : ℕ). size_of m text) f

before_back : (most n : ℕ) (text : List ℕ) → n < 10 ^ most → size_of 0 (digits_before most n text) ≡ size_of n text
before_back zero n text h = let e : 0 ≡ n = omega arith in ap (λ (m : ℕ). size_of m text) e
before_back (suc most) n text h =
    let k : n < 10 ^ most * 10 = rw pow-suc at h in
    let g : n / 10 < 10 ^ most = omega arith in
    by (before_back most (n / 10) ((48 + n % 10) ∷ text) g) (eqb (n / 10) 0) refl
  where
    by : size_of 0 (digits_before most (n / 10) ((48 + n % 10) ∷ text)) ≡ size_of (n / 10) ((48 + n % 10) ∷ text) → (t : Bool) → eqb (n / 10) 0 ≡ t
        → size_of 0 (digits_before (suc most) n text) ≡ size_of n text
    by r true e = simp e (one-digit n text (eqb-true (n / 10) 0 e))
    by r false e = simp e (r ∙ last-digit n text)

digits_back : (n : ℕ) → n < 18446744073709551616 → size_of 0 (decimal n) ≡ n
unfolding decimal
digits_back n h = before_back 20 n [] (omega arith)

pub laws : Laws
laws = record { digits_back = digits_back; word_value = word_value }
