-- A list of nine is its nine elements. Assumes nothing.
use Rattle.std.proofs.Common.{◌≡◌, ℕ, List, [], ◌∷◌, length, set, refl, arith}

-- what holds of every nine elements holds of a list of nine
pub nine : (P : List ℕ → Type 0) → ((a b c d e f g h i : ℕ) → P (a ∷ b ∷ c ∷ d ∷ e ∷ f ∷ g ∷ h ∷ i ∷ [])) → (l : List ℕ) → length l ≡ 9 → P l
nine P k [] p = absurd (omega arith)
nine P k (a ∷ []) p = absurd (omega arith)
nine P k (a ∷ b ∷ []) p = absurd (omega arith)
nine P k (a ∷ b ∷ c ∷ []) p = absurd (omega arith)
nine P k (a ∷ b ∷ c ∷ d ∷ []) p = absurd (omega arith)
nine P k (a ∷ b ∷ c ∷ d ∷ e ∷ []) p = absurd (omega arith)
nine P k (a ∷ b ∷ c ∷ d ∷ e ∷ f ∷ []) p = absurd (omega arith)
nine P k (a ∷ b ∷ c ∷ d ∷ e ∷ f ∷ g ∷ []) p = absurd (omega arith)
nine P k (a ∷ b ∷ c ∷ d ∷ e ∷ f ∷ g ∷ h ∷ []) p = absurd (omega arith)
nine P k (a ∷ b ∷ c ∷ d ∷ e ∷ f ∷ g ∷ h ∷ i ∷ []) p = k a b c d e f g h i
nine P k (a ∷ b ∷ c ∷ d ∷ e ∷ f ∷ g ∷ h ∷ i ∷ j ∷ xs) p = absurd (omega arith)

-- nine stores, in the order in which a frame is written, leave nine elements, whatever stood there
pub stored : (a b c d e f g h i : ℕ) (l : List ℕ) → length l ≡ 9
    → set (set (set (set (set (set (set (set (set l 4 e) 5 f) 6 g) 7 h) 1 b) 2 c) 3 d) 0 a) 8 i ≡ a ∷ b ∷ c ∷ d ∷ e ∷ f ∷ g ∷ h ∷ i ∷ []
stored a b c d e f g h i =
    nine
    (λ (l : List ℕ). set (set (set (set (set (set (set (set (set l 4 e) 5 f) 6 g) 7 h) 1 b) 2 c) 3 d) 0 a) 8 i ≡ a ∷ b ∷ c ∷ d ∷ e ∷ f ∷ g ∷ h ∷ i ∷ [])
    (λ _ _ _ _ _ _ _ _ _. refl)
