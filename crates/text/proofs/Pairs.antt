-- Bytes of a text, read pair by pair. Assumes nothing.
use Prim.Native.Nat.{ℕ, ◌+◌, ◌≤◌, ◌<◌}
use native.Mathlib.Omega.{arith}
use mathlib.Core.Path.{◌≡◌, refl, sym, ap, subst, ◌∙◌}
use mathlib.Core.List.{List, [], ◌∷◌}
use mathlib.Core.Bool.{Bool, true, false}
use lib.Dec.{ltb, eqb}
use lib.Pointwise.{pointwise}
use borrow.Author.Tests.{lt-ltb, le-ltb, eqb-true}
use lib.ListN.{length, get_or, set, take, drop}
use Rattle.std.specs.Prelude.{Option, Some, None}
use Rattle.text.specs.Line.{behind_space}
use Rattle.text.specs.Hex.{pair_value, Taken, no_bytes, pairs_of, hex_word, hex_from, hex_at, Took}

-- ---- what the pairs of a text make, with so many bytes read before
shape : (text pair behind : List ℕ) → 2 ≤ length text → pair ≡ take 2 text → behind ≡ drop 2 text
    → text ≡ get_or pair 0 0 ∷ get_or pair 1 0 ∷ behind
shape [] pair behind h e f = absurd (omega arith)
shape (a ∷ []) pair behind h e f = absurd (omega arith)
shape (a ∷ b ∷ l) pair behind h e f = rw (e, f) refl

module _ (text pair behind : List ℕ) (h : 2 ≤ length text) (e : pair ≡ take 2 text) (f : behind ≡ drop 2 text) (count : ℕ) (room : List ℕ) where
  pub full : 64 ≤ count → pairs_of text count room ≡ no_bytes room
  full k = ap (λ (l : List ℕ). pairs_of l count room) (shape text pair behind h e f) ∙ simp (le-ltb count 64 k)

  pub no_pair : None ≡ pair_value pair → pairs_of text count room ≡ no_bytes room
  no_pair n = ap (λ (l : List ℕ). pairs_of l count room) (shape text pair behind h e f) ∙ by (ltb count 64) refl
    where
      by : (t : Bool) → ltb count 64 ≡ t → pairs_of (get_or pair 0 0 ∷ get_or pair 1 0 ∷ behind) count room ≡ no_bytes room
      by true t = simp (t, sym n)
      by false t = simp (t, sym n)

  pub one_pair : count < 64 → (byte : ℕ) → Some byte ≡ pair_value pair → pairs_of behind (count + 1) (set room count byte) ≡ pairs_of text count room
  one_pair k byte n = sym (ap (λ (l : List ℕ). pairs_of l count room) (shape text pair behind h e f) ∙ simp (lt-ltb count 64 k, sym n))

pub odd : (text : List ℕ) (count : ℕ) (room : List ℕ) → length text < 2 → (length text ≡ 0 → ⊥) → pairs_of text count room ≡ no_bytes room
odd [] count room h n = absurd (n refl)
odd (a ∷ []) count room h n = refl
odd (a ∷ b ∷ l) count room h n = absurd (omega arith)

pub none-left : (text : List ℕ) (count : ℕ) (room : List ℕ) → length text ≡ 0 → count ≡ 0 → pairs_of text count room ≡ no_bytes room
none-left [] count room h k = simp k
none-left (a ∷ l) count room h k = absurd (omega arith)

pub all-read : (text : List ℕ) (count : ℕ) (room : List ℕ) → length text ≡ 0 → 0 < count
    → pairs_of text count room ≡ record { count = Some count; list = room }
all-read [] count room h k = simp (lt-ltb 0 count k)
all-read (a ∷ l) count room h k = absurd (omega arith)

-- ---- what was taken
pub took_some : (taken : Taken) (count : ℕ) (room : List ℕ) → taken ≡ record { count = Some count; list = room } → count ≤ 64 → Took taken (Some count) room
took_some taken count room e h = rw e (record { count = refl; list = refl; few = h })

pub took_none : (taken : Taken) (room : List ℕ) → taken ≡ no_bytes room → Took taken None room
took_none taken room e = rw e (record { count = refl; list = refl; few = tt })

pub same_took : (taken other : Taken) (r : Option ℕ) (room : List ℕ) → taken ≡ other → Took taken r room → Took other r room
same_took taken other r room e h = subst (λ (t : Taken). Took t r room) e h

-- ---- the last word of a line
module _ (text list : List ℕ) where
  pub no_word : None ≡ behind_space text → no_bytes list ≡ hex_at text list
  unfolding hex_at
  no_word e = ap (λ (o : Option (List ℕ)). hex_from o list) e

  pub one-word : (word : List ℕ) → Some word ≡ behind_space text → hex_word word list ≡ hex_at text list
  unfolding hex_at
  one-word word e = ap (λ (o : Option (List ℕ)). hex_from o list) e

pub minus-alone : (word list : List ℕ) → pointwise eqb word (45 ∷ []) ≡ true → record { count = Some 0; list = list } ≡ hex_word word list
minus-alone [] list h = absurd (cc)
minus-alone (b ∷ []) list h = by (eqb b 45) refl
  where
    by : (t : Bool) → eqb b 45 ≡ t → record { count = Some 0; list = list } ≡ hex_word (b ∷ []) list
    by true t = sym (simp t)
    by false t = absurd (let g = simp t at h in cc)
minus-alone (b ∷ c ∷ l) list h = by (eqb b 45) refl
  where
    by : (t : Bool) → eqb b 45 ≡ t → record { count = Some 0; list = list } ≡ hex_word (b ∷ c ∷ l) list
    by true t = absurd (let g = simp t at h in cc)
    by false t = absurd (let g = simp t at h in cc)

pub not_minus : (word list : List ℕ) → pointwise eqb word (45 ∷ []) ≡ false → pairs_of word 0 list ≡ hex_word word list
not_minus [] list h = refl
not_minus (b ∷ []) list h = by (eqb b 45) refl
  where
    by : (t : Bool) → eqb b 45 ≡ t → pairs_of (b ∷ []) 0 list ≡ hex_word (b ∷ []) list
    by true t = absurd (let g = simp t at h in cc)
    by false t = sym (simp t)
not_minus (b ∷ c ∷ l) list h = by (eqb b 45) refl
  where
    by : (t : Bool) → eqb b 45 ≡ t → pairs_of (b ∷ c ∷ l) 0 list ≡ hex_word (b ∷ c ∷ l) list
    by true t = ap (λ (d : ℕ). pairs_of (d ∷ c ∷ l) 0 list) (eqb-true b 45 t) ∙ sym (simp t)
    by false t = sym (simp t)
