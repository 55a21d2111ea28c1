-- The places keep their kinds. Assumes nothing.
use Prim.Native.Nat.{ℕ, zero, suc}
use mathlib.Core.Path.{◌≡◌, refl, ap, ◌∙◌}
use mathlib.Core.Bool.{true, false}
use mathlib.Core.List.{List, [], ◌∷◌}
use lib.ListN.{get_or, set}
use Rattle.words.proofs.Bools.{is_T, each}
use Rattle.board.specs.declared.Registers.{Registers}
use Rattle.reg_image.specs.Image.{Kind, number, takes, kinds, all, shaped, Leaves}

-- ---- kinds
pub kept : (ks : List Kind) (l : List ℕ) (p v : ℕ) → takes (get_or ks p number) v ≡ true → all ks l ≡ true → all ks (set l p v) ≡ true
kept [] l p v h e = refl
kept (k ∷ ks) [] p v h e = e
kept (k ∷ ks) (n ∷ l) zero v h e = simp (h, (each (takes k n) (all ks l) e).1)
kept (k ∷ ks) (n ∷ l) (suc p) v h e =
    let s = each (takes k n) (all ks l) e in
    simp (s.0, kept ks l p v h s.1)

stood : (ks : List Kind) (l : List ℕ) (p : ℕ) → all ks l ≡ true → takes (get_or ks p number) (get_or l p 0) ≡ true
stood [] l p e = refl
stood (k ∷ ks) [] p e = absurd (is_T false e)
stood (k ∷ ks) (n ∷ l) zero e = (each (takes k n) (all ks l) e).0
stood (k ∷ ks) (n ∷ l) (suc p) e = stood ks l p (each (takes k n) (all ks l) e).1

pub shaped-set : (l : List ℕ) (p v : ℕ) → takes (get_or kinds p number) v ≡ true → shaped l ≡ true → shaped (set l p v) ≡ true
unfolding shaped
shaped-set l p v h e = kept kinds l p v h e

pub shaped-at : (l : List ℕ) (p : ℕ) → shaped l ≡ true → takes (get_or kinds p number) (get_or l p 0) ≡ true
unfolding shaped
shaped-at l p e = stood kinds l p e

-- ---- one change after another
pub then : (f g : Registers → Registers) (a b c : List ℕ) → Leaves f a b → Leaves g b c → Leaves (λ r. g (f r)) a c
then f g a b c p q = record { makes = q.makes ∙ ap g p.makes; stays = λ e. q.stays (p.stays e) }
