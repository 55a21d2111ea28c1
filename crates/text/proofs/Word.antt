-- A number that a word holds is its last 32 bits. Assumes nothing.
use Prim.Native.Nat.{ℕ, ◌-◌, ◌%◌, ◌<◌, suc}
use native.Mathlib.Omega.{arith}
use mathlib.Core.Path.{◌≡◌, ap, ◌∙◌}
use mathlib.Core.Bool.{true}
use borrow.Author.Tests.{ltb-true}
use lib.IntN.{ℤ, pos, negsuc}
use mir.Syntax.{w32}
use mir.ValLaws.{to_z-of_z}
use Rattle.std.proofs.Math.Nat.{mod-eq_of_lt}
use Rattle.words.specs.Word.{word, of_bits}
use Rattle.text.specs.Numbers.{is_word, word_of}

whole : (n : ℕ) → n < 2147483648 → n % 4294967296 ≡ n
whole n h = mod-eq_of_lt {n = n} {m = 4294967296} (omega (arith, h))

pub word_value : (n : ℤ) → is_word n ≡ true → word_of n ≡ word n
unfolding word_of
word_value (pos n) h =
    let b : n < 2147483648 = ltb-true n 2147483648 h in
    ap (λ (m : ℕ). word (of_bits m)) (whole n b) ∙ ap word (to_z-of_z w32 (pos n) (record { sfits = b }))
word_value (negsuc n) h =
    let b : n < 2147483648 = ltb-true n 2147483648 h in
    let m = whole n b in
    let e : 4294967295 - n % 4294967296 ≡ 4294967296 - suc n = omega (arith, m) in
    ap (λ (m : ℕ). word (of_bits m)) e ∙ ap word (to_z-of_z w32 (negsuc n) (record { sfits = b }))
