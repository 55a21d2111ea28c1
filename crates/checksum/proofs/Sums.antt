-- Sums that wrap at 8 bits. Assumes nothing.
use Rattle.std.proofs.Common.{◌≡◌, ℕ, ◌+◌, ◌%◌, ◌<◌, List, [], ◌∷◌, arith}
use Rattle.std.specs.List.{fold}
use Rattle.checksum.specs.Checksum.{total, checksum}

-- numbers added one by one onto a sum, which is wrapped each time
onto : (s : ℕ) (xs : List ℕ) → s < 256 → fold (λ (n x : ℕ). (n + x) % 256) s xs ≡ (s + total xs) % 256
onto s [] h = omega arith
onto s (x ∷ xs) h = let e = onto ((s + x) % 256) xs (omega arith) in omega arith

pub one-by-one : (xs : List ℕ) (r : ℕ) → r ≡ fold (λ (n x : ℕ). (n + x) % 256) 0 xs → r ≡ checksum xs
one-by-one xs r h = let e = onto 0 xs (omega arith) in omega arith
