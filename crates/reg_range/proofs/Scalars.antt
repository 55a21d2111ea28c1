-- The registers before the parameters, place by place. Assumes nothing.
use Prim.Native.Nat.{ℕ}
use native.Mathlib.Omega.{arith}
use mathlib.Core.Path.{◌≡◌, refl}
use mathlib.Core.Bool.{Bool, true, false, ◌&&◌}
use mathlib.Core.List.{List}
use lib.Dec.{leb}
use lib.IntN.{pos}
use lib.ListN.{length, get_or}
use Rattle.words.specs.Word.{of_bits}
use Rattle.order.specs.Order.{in_range}
use Rattle.ranges.specs.Range.{every, address_in_range, bit_in_range}
use Rattle.reg_image.specs.Image.{part, words, comparison, takes, shaped}
use Rattle.reg_range.proofs.Places.{shaped-places, every-part, every-words}
use Rattle.reg_range.proofs.Regroup.{and-false}

reorder : (v2 v3 v4 v5 v6 v7 v8 v9 v11 v12 v13 v14 v16 v17 v18 v19 v20 v21 v22 v23 v24 v25 v26 v27 v28 v29 v30 v31 v32 v33 v34 v35 : Bool) → (v2 && v3 && v4 && v5 && v6 && v7 && v8 && v9) && (v11 && v12 && v13 && v14 && v16 && v17 && v18 && v19) && (v20 && v21 && v22 && v23 && v24 && v25 && v26 && v27) && (v28 && v29 && v30 && v31 && v32 && v33 && v34 && v35) ≡ (v2 && (v8 && (v9 && (v11 && (v12 && (v14 && true)))))) && (v7 && v25 && (v3 && (v4 && (v5 && (v6 && true))))) && v13 && (v26 && (v27 && (v28 && (v29 && (v30 && (v31 && (v32 && (v33 && true)))))))) && (v16 && (v17 && (v18 && (v19 && true)))) && (v20 && (v21 && true)) && (v22 && (v23 && (v24 && true))) && v35 && v34
reorder false v3 v4 v5 v6 v7 v8 v9 v11 v12 v13 v14 v16 v17 v18 v19 v20 v21 v22 v23 v24 v25 v26 v27 v28 v29 v30 v31 v32 v33 v34 v35 = refl
reorder true false v4 v5 v6 v7 v8 v9 v11 v12 v13 v14 v16 v17 v18 v19 v20 v21 v22 v23 v24 v25 v26 v27 v28 v29 v30 v31 v32 v33 v34 v35 = simp (and-false)
reorder true true false v5 v6 v7 v8 v9 v11 v12 v13 v14 v16 v17 v18 v19 v20 v21 v22 v23 v24 v25 v26 v27 v28 v29 v30 v31 v32 v33 v34 v35 = simp (and-false)
reorder true true true false v6 v7 v8 v9 v11 v12 v13 v14 v16 v17 v18 v19 v20 v21 v22 v23 v24 v25 v26 v27 v28 v29 v30 v31 v32 v33 v34 v35 = simp (and-false)
reorder true true true true false v7 v8 v9 v11 v12 v13 v14 v16 v17 v18 v19 v20 v21 v22 v23 v24 v25 v26 v27 v28 v29 v30 v31 v32 v33 v34 v35 = simp (and-false)
reorder true true true true true false v8 v9 v11 v12 v13 v14 v16 v17 v18 v19 v20 v21 v22 v23 v24 v25 v26 v27 v28 v29 v30 v31 v32 v33 v34 v35 = simp (and-false)
reorder true true true true true true false v9 v11 v12 v13 v14 v16 v17 v18 v19 v20 v21 v22 v23 v24 v25 v26 v27 v28 v29 v30 v31 v32 v33 v34 v35 = refl
reorder true true true true true true true false v11 v12 v13 v14 v16 v17 v18 v19 v20 v21 v22 v23 v24 v25 v26 v27 v28 v29 v30 v31 v32 v33 v34 v35 = refl
reorder true true true true true true true true false v12 v13 v14 v16 v17 v18 v19 v20 v21 v22 v23 v24 v25 v26 v27 v28 v29 v30 v31 v32 v33 v34 v35 = refl
reorder true true true true true true true true true false v13 v14 v16 v17 v18 v19 v20 v21 v22 v23 v24 v25 v26 v27 v28 v29 v30 v31 v32 v33 v34 v35 = refl
reorder true true true true true true true true true true false v14 v16 v17 v18 v19 v20 v21 v22 v23 v24 v25 v26 v27 v28 v29 v30 v31 v32 v33 v34 v35 = simp (and-false)
reorder true true true true true true true true true true true false v16 v17 v18 v19 v20 v21 v22 v23 v24 v25 v26 v27 v28 v29 v30 v31 v32 v33 v34 v35 = refl
reorder true true true true true true true true true true true true false v17 v18 v19 v20 v21 v22 v23 v24 v25 v26 v27 v28 v29 v30 v31 v32 v33 v34 v35 = simp (and-false)
reorder true true true true true true true true true true true true true false v18 v19 v20 v21 v22 v23 v24 v25 v26 v27 v28 v29 v30 v31 v32 v33 v34 v35 = simp (and-false)
reorder true true true true true true true true true true true true true true false v19 v20 v21 v22 v23 v24 v25 v26 v27 v28 v29 v30 v31 v32 v33 v34 v35 = simp (and-false)
reorder true true true true true true true true true true true true true true true false v20 v21 v22 v23 v24 v25 v26 v27 v28 v29 v30 v31 v32 v33 v34 v35 = simp (and-false)
reorder true true true true true true true true true true true true true true true true false v21 v22 v23 v24 v25 v26 v27 v28 v29 v30 v31 v32 v33 v34 v35 = simp (and-false)
reorder true true true true true true true true true true true true true true true true true false v22 v23 v24 v25 v26 v27 v28 v29 v30 v31 v32 v33 v34 v35 = simp (and-false)
reorder true true true true true true true true true true true true true true true true true true false v23 v24 v25 v26 v27 v28 v29 v30 v31 v32 v33 v34 v35 = simp (and-false)
reorder true true true true true true true true true true true true true true true true true true true false v24 v25 v26 v27 v28 v29 v30 v31 v32 v33 v34 v35 = simp (and-false)
reorder true true true true true true true true true true true true true true true true true true true true false v25 v26 v27 v28 v29 v30 v31 v32 v33 v34 v35 = simp (and-false)
reorder true true true true true true true true true true true true true true true true true true true true true false v26 v27 v28 v29 v30 v31 v32 v33 v34 v35 = refl
reorder true true true true true true true true true true true true true true true true true true true true true true false v27 v28 v29 v30 v31 v32 v33 v34 v35 = refl
reorder true true true true true true true true true true true true true true true true true true true true true true true false v28 v29 v30 v31 v32 v33 v34 v35 = refl
reorder true true true true true true true true true true true true true true true true true true true true true true true true false v29 v30 v31 v32 v33 v34 v35 = refl
reorder true true true true true true true true true true true true true true true true true true true true true true true true true false v30 v31 v32 v33 v34 v35 = refl
reorder true true true true true true true true true true true true true true true true true true true true true true true true true true false v31 v32 v33 v34 v35 = refl
reorder true true true true true true true true true true true true true true true true true true true true true true true true true true true false v32 v33 v34 v35 = refl
reorder true true true true true true true true true true true true true true true true true true true true true true true true true true true true false v33 v34 v35 = refl
reorder true true true true true true true true true true true true true true true true true true true true true true true true true true true true true false v34 v35 = refl
reorder true true true true true true true true true true true true true true true true true true true true true true true true true true true true true true false v35 = simp (and-false)
reorder true true true true true true true true true true true true true true true true true true true true true true true true true true true true true true true false = refl
reorder true true true true true true true true true true true true true true true true true true true true true true true true true true true true true true true true = refl

module _ (l : List ℕ) (n : length l ≡ 137) where
  pub scalar-places :
      (v34 v35 : Bool)
      → (takes comparison (get_or l 2 0) && leb (get_or l 3 0) 1 && leb (get_or l 4 0) 1 && leb (get_or l 5 0) 1 && leb (get_or l 6 0) 1 && leb (get_or l 7 0) 1024 && leb (get_or l 8 0) 1 && leb (get_or l 9 0) 1) && (leb (get_or l 11 0) 1 && leb (get_or l 12 0) 1 && leb (get_or l 13 0) 1024 && leb (get_or l 14 0) 2 && leb (get_or l 16 0) 1 && leb (get_or l 17 0) 1 && leb (get_or l 18 0) 1 && leb (get_or l 19 0) 1) && (leb (get_or l 20 0) 1 && leb (get_or l 21 0) 1 && in_range (pos 0) (pos 65535) (of_bits (get_or l 22 0)) && in_range (pos 0) (pos 65535) (of_bits (get_or l 23 0)) && in_range (pos 0) (pos 65535) (of_bits (get_or l 24 0)) && leb (get_or l 25 0) 8 && leb (get_or l 26 0) 1024 && leb (get_or l 27 0) 1024) && (leb (get_or l 28 0) 1024 && leb (get_or l 29 0) 1024 && leb (get_or l 30 0) 1024 && leb (get_or l 31 0) 1024 && leb (get_or l 32 0) 1024 && leb (get_or l 33 0) 1024 && v34 && v35)
      ≡ shaped l && (leb (get_or l 7 0) 1024 && leb (get_or l 25 0) 8 && (leb (get_or l 3 0) 1 && (leb (get_or l 4 0) 1 && (leb (get_or l 5 0) 1 && (leb (get_or l 6 0) 1 && true))))) && leb (get_or l 13 0) 1024 && every address_in_range (part l 26 8) && every bit_in_range (part l 16 4) && every bit_in_range (part l 20 2) && every (in_range (pos 0) (pos 65535)) (words l 22 3) && v35 && v34
  scalar-places v34 v35 =
      rw (shaped-places l n, every-part address_in_range l 26 8 (omega (arith, n)), every-part bit_in_range l 16 4 (omega (arith, n)), every-part bit_in_range l 20 2 (omega (arith, n)), every-words (in_range (pos 0) (pos 65535)) l 22 3 (omega (arith, n)))
      (reorder (takes comparison (get_or l 2 0)) (leb (get_or l 3 0) 1) (leb (get_or l 4 0) 1) (leb (get_or l 5 0) 1) (leb (get_or l 6 0) 1) (leb (get_or l 7 0) 1024) (leb (get_or l 8 0) 1) (leb (get_or l 9 0) 1) (leb (get_or l 11 0) 1) (leb (get_or l 12 0) 1) (leb (get_or l 13 0) 1024) (leb (get_or l 14 0) 2) (leb (get_or l 16 0) 1) (leb (get_or l 17 0) 1) (leb (get_or l 18 0) 1) (leb (get_or l 19 0) 1) (leb (get_or l 20 0) 1) (leb (get_or l 21 0) 1) (in_range (pos 0) (pos 65535) (of_bits (get_or l 22 0))) (in_range (pos 0) (pos 65535) (of_bits (get_or l 23 0))) (in_range (pos 0) (pos 65535) (of_bits (get_or l 24 0))) (leb (get_or l 25 0) 8) (leb (get_or l 26 0) 1024) (leb (get_or l 27 0) 1024) (leb (get_or l 28 0) 1024) (leb (get_or l 29 0) 1024) (leb (get_or l 30 0) 1024) (leb (get_or l 31 0) 1024) (leb (get_or l 32 0) 1024) (leb (get_or l 33 0) 1024) (v34) (v35))
