-- The masks and the stack: what each of the walk's acts keeps of them, and what falls with it. Assumes nothing.
use Prim.Native.Nat.{ℕ, zero, suc, ◌+◌, ◌-◌, ◌/◌, ◌%◌, ◌<◌, ◌≤◌}
use native.Mathlib.Omega.{arith}
use native.Mathlib.Decide.{dec_lt, ℕ_discrete}
use mathlib.Core.Path.{◌≡◌, ap, ◌∙◌}
use mathlib.Core.Logic.{◌⊎◌, ⊎_elim}
use mathlib.Core.List.{List, [], ◌∷◌}
use Rattle.std.proofs.Common.{Option, Some, None}
use lib.Bits.{bit_or}
use lib.Dec.{eqb, ltb}
use lib.ListN.{length, get_or, set, length-set, get_or-eq_default}
use lib.Seq.{get_or-set_same, get_or-set_other}
use borrow.Author.Tests.{eqb-true, eqb-false, ltb-true, ltb-false}
use Rattle.words.specs.Word.{pick}
use Rattle.words.proofs.Bools.{either}
use Rattle.walking.specs.Walk.{Walk, walk, Hand, Held, held, idle, mask_at, depths_at, joined, reached, top, taken, gone, total, Room}
use Rattle.walking.proofs.Depths.{or-grows, or-low}

-- ---- sums
total-set : (g : ℕ → ℕ) (l : List ℕ) (i v : ℕ) → i < length l → total g (set l i v) + g (get_or l i 0) ≡ total g l + g v
unfolding total
total-set g [] i v h = absurd (omega arith)
total-set g (x ∷ xs) zero v h = omega arith
total-set g (x ∷ xs) (suc i) v h = let r = total-set g xs i v (omega arith) in omega (arith, r)

total-le : (l : List ℕ) → ((i : ℕ) → get_or l i 0 < 1024) → total (λ v. v / 512) l ≤ length l
unfolding total
total-le [] h = omega arith
total-le (x ∷ xs) h = let r = total-le xs (λ i. h (suc i)) in omega (arith, r, h 0)

-- ---- an element after a store
pub set_cases : (l : List ℕ) (i j v : ℕ) (P : ℕ → Type 0) → i < length l → (j ≡ i → P v) → ((j ≡ i → ⊥) → P (get_or l j 0)) → P (get_or (set l i v) j 0)
set_cases l i j v P h f g =
    elim (ℕ_discrete j i) [ yes e ↦ rw (e, get_or-set_same l i v 0 h) (f e) | no e ↦ rw (get_or-set_other l i j v 0 e) (g e) ]

-- an address that has depths is one
pub inside : (x : Walk) (a : ℕ) → Room x → 0 < depths_at x a → a ≤ 1024
inside x a r h =
    elim (dec_lt a 1025) [
      | yes l ↦ omega arith
      | no l ↦ absurd (omega (arith, get_or-eq_default x.masks 0 {n = a} (omega (arith, r.masks))))
    ]

-- ---- a mask with depths is stored
module _ (x : Walk) (a v : ℕ) (r : Room x) (h : a ≤ 1024) (l : v < 1024) (p : 0 < v % 512) where
  in-masks : a < length x.masks
  in-masks = omega (arith, r.masks)

  stored : (s : List ℕ) (n : ℕ) → length s ≡ 1025 → n + mask_at x a / 512 ≤ total (λ u. u / 512) x.masks + v / 512
      → ((k : ℕ) → k < n → 0 < get_or (set x.masks a v) (get_or s k 0) 0 % 512) → Room (walk (set x.masks a v) s n)
  stored s n e c f =
      record {
        masks = length-set x.masks a v ∙ r.masks;
        slots = e;
        small = λ b. set_cases x.masks a b v (λ u. u < 1024) in-masks (λ _. l) (λ _. r.small b);
        counted = omega (arith, total-set (λ u. u / 512) x.masks a v in-masks);
        filled = f;
      }

  still : (b : ℕ) → 0 < depths_at x b → 0 < get_or (set x.masks a v) b 0 % 512
  still b q = set_cases x.masks a b v (λ u. 0 < u % 512) in-masks (λ _. p) (λ _. q)

  -- what it has more of is no longer left
  less-left : total (λ u. 511 - u % 512) (set x.masks a v) + (511 - mask_at x a % 512) ≡ total (λ u. 511 - u % 512) x.masks + (511 - v % 512)
  less-left = total-set (λ u. 511 - u % 512) x.masks a v in-masks

-- an address that does not wait has room on the stack
pub room_for : (x : Walk) (a : ℕ) → Room x → a ≤ 1024 → mask_at x a < 512 → x.n < 1025
room_for x a r h l =
    let t = set x.masks a 512 in
    let q : a < length x.masks = omega (arith, r.masks) in
    let s : total (λ u. u / 512) t ≤ length t = total-le t (λ b. set_cases x.masks a b 512 (λ u. u < 1024) q (λ _. omega arith) (λ _. r.small b)) in
    omega (arith, s, length-set x.masks a 512, r.masks, r.counted, total-set (λ u. u / 512) x.masks a 512 q)

pub n-low : (x : Walk) → Room x → x.n ≤ 1025
n-low x r = omega (arith, r.counted, r.masks, total-le x.masks r.small)

-- ---- what is left: depths that are not reached, and addresses on the stack; one more for an address in hand
abbrev pub left : Walk → ℕ
left x = total (λ u. 511 - u % 512) x.masks + x.n

abbrev pub count : Option Hand → ℕ
count None = 0
count (Some h) = 1

abbrev pub left_held : Held → ℕ
left_held y = left y.walk + count y.hand

-- ---- the mask of an address that does not wait is its depths
module _ (k m : ℕ) (l : k < 512) where
  pub unmasked : bit_or k m ≡ bit_or (k % 512) m
  unmasked = let e : k ≡ k % 512 = omega arith in ap (λ v. bit_or v m) e

  pub new-joined : (bit_or k m ≡ k → ⊥) → bit_or (k % 512) m ≡ k % 512 → ⊥
  new-joined n e = n (omega (arith, unmasked))

  pub old-joined : bit_or k m ≡ k → bit_or (k % 512) m ≡ k % 512
  old-joined e = omega (arith, unmasked)

-- ---- an address is reached
module _ (x : Walk) (a m : ℕ) where
  abbrev pub waits : Walk
  waits = walk (set x.masks a (joined x a m + 512)) x.stack x.n

  abbrev pub pushed : Walk
  pushed = walk (set x.masks a (joined x a m + 512)) (set x.stack x.n a) (x.n + 1)

  pub reached-cases : (P : Walk → Type 0) → (joined x a m ≡ depths_at x a → P x) → ((joined x a m ≡ depths_at x a → ⊥) → mask_at x a < 512 → P pushed)
      → ((joined x a m ≡ depths_at x a → ⊥) → 512 ≤ mask_at x a → P waits) → P (reached x a m)
  unfolding reached
  reached-cases P f g k =
      either P (eqb (joined x a m) (depths_at x a)) x (pick (ltb (mask_at x a) 512) pushed waits) (λ t. f (eqb-true _ _ t))
      (λ t. let e = eqb-false _ _ t in
      either P (ltb (mask_at x a) 512) pushed waits (λ u. g e (ltb-true _ _ u)) (λ u. k e (ltb-false _ _ u)))

  abbrev pub on_hand : Held
  on_hand = held (walk (set x.masks a (joined x a m)) x.stack x.n) a (joined x a m)

  pub gone-cases : (P : Held → Type 0) → P (taken (reached x a m)) → ((joined x a m ≡ depths_at x a → ⊥) → mask_at x a < 512 → P on_hand) → P (gone x a m)
  unfolding gone
  gone-cases P f g =
      either P (ltb (mask_at x a) 512) (pick (eqb (joined x a m) (depths_at x a)) (taken (reached x a m)) on_hand) (taken (reached x a m))
      (λ u. either P (eqb (joined x a m) (depths_at x a)) (taken (reached x a m)) on_hand (λ _. f) (λ t. g (eqb-false _ _ t) (ltb-true _ _ u)))
      (λ _. f)

  -- where it cannot be in hand at once
  pub by-stack : {y : Held} → (joined x a m ≡ depths_at x a) ⊎ (512 ≤ mask_at x a) → y ≡ taken (reached x a m) → y ≡ gone x a m
  by-stack {y} w e = gone-cases (λ z. y ≡ z) e (λ n l. absurd (⊎_elim n (λ g. omega arith) w))

  module _ (r : Room x) (h : a ≤ 1024) (l : m < 512) where
    pub joined-low : joined x a m < 512
    joined-low = or-low (depths_at x a) m (omega arith) l

    -- depths of which one is new
    pub more : (joined x a m ≡ depths_at x a → ⊥) → depths_at x a < joined x a m
    more e = omega (arith, or-grows (depths_at x a) m, e)

    pub pushed_at : mask_at x a < 512 → (k : ℕ) → k < x.n + 1 → (P : ℕ → Type 0) → ((k < x.n) → P (get_or x.stack k 0)) → P a → P (get_or (set x.stack x.n a) k 0)
    pushed_at u k q P f g =
        set_cases x.stack x.n k a P (omega (arith, r.slots, room_for x a r h u)) (λ _. g) (λ z. f (omega arith))

    pub reached-room : Room (reached x a m)
    reached-room =
        reached-cases Room (λ _. r)
        (λ e u. let q = more e in
        let w = joined-low in
        stored x a (joined x a m + 512) r h (omega arith) (omega arith) (set x.stack x.n a) (x.n + 1) (length-set x.stack x.n a ∙ r.slots)
        (omega (arith, r.counted))
        (λ k j. pushed_at u k j (λ b. 0 < get_or (set x.masks a (joined x a m + 512)) b 0 % 512)
        (λ i. still x a (joined x a m + 512) r h (omega arith) (omega arith) _ (r.filled k i))
        (rw (get_or-set_same x.masks a (joined x a m + 512) 0 (omega (arith, r.masks))) (omega arith))))
        (λ e u. let q = more e in
        let w = joined-low in
        stored x a (joined x a m + 512) r h (omega arith) (omega arith) x.stack x.n r.slots (omega (arith, r.counted, r.small a))
        (λ k j. still x a (joined x a m + 512) r h (omega arith) (omega arith) _ (r.filled k j)))

    pub reached-left : left (reached x a m) ≤ left x
    reached-left =
        reached-cases (λ y. left y ≤ left x) (λ _. omega arith)
        (λ e u. let q = more e in let w = joined-low in omega (arith, less-left x a (joined x a m + 512) r h (omega arith) (omega arith)))
        (λ e u. let q = more e in let w = joined-low in omega (arith, less-left x a (joined x a m + 512) r h (omega arith) (omega arith)))

    pub on-hand-room : (joined x a m ≡ depths_at x a → ⊥) → mask_at x a < 512 → Room on_hand.walk
    on-hand-room e u =
        let q = more e in
        let w = joined-low in
        stored x a (joined x a m) r h (omega arith) (omega arith) x.stack x.n r.slots (omega (arith, r.counted))
        (λ k j. still x a (joined x a m) r h (omega arith) (omega arith) _ (r.filled k j))

-- ---- an address is taken
module _ (x : Walk) where
  abbrev pub off : Held
  off = held (walk (set x.masks (top x) (depths_at x (top x))) x.stack (x.n - 1)) (top x) (depths_at x (top x))

  pub taken-cases : (P : Held → Type 0) → (x.n ≡ 0 → P (idle x)) → (0 < x.n → P off) → P (taken x)
  unfolding taken
  taken-cases P f g =
      either P (eqb x.n 0) (idle x) off (λ t. f (eqb-true _ _ t)) (λ t. g (omega (arith, eqb-false x.n 0 t)))

  module _ (r : Room x) where
    pub top-filled : 0 < x.n → 0 < depths_at x (top x)
    top-filled h = r.filled (x.n - 1) (omega arith)

    pub top_in : 0 < x.n → top x ≤ 1024
    top_in h = inside x (top x) r (top-filled h)

    pub off-room : 0 < x.n → Room off.walk
    off-room h =
        let p = top-filled h in
        let i = top_in h in
        stored x (top x) (depths_at x (top x)) r i (omega arith) (omega arith) x.stack (x.n - 1) r.slots (omega (arith, r.counted, r.small (top x)))
        (λ k j. still x (top x) (depths_at x (top x)) r i (omega arith) (omega arith) _ (r.filled k (omega arith)))

    pub taken-left : left_held (taken x) ≤ left x
    taken-left =
        taken-cases (λ y. left_held y ≤ left x) (λ _. omega arith)
        (λ h. let p = top-filled h in
        omega (arith, less-left x (top x) (depths_at x (top x)) r (top_in h) (omega arith) (omega arith)))

pub gone-left : (x : Walk) (a m : ℕ) → Room x → a ≤ 1024 → m < 512 → left_held (gone x a m) ≤ left x
gone-left x a m r h l =
    gone-cases x a m (λ y. left_held y ≤ left x)
    (omega (arith, taken-left (reached x a m) (reached-room x a m r h l), reached-left x a m r h l))
    (λ e u. let q = more x a m r h l e in
    let w = joined-low x a m r h l in
    omega (arith, less-left x a (joined x a m) r h (omega arith) (omega arith)))

-- one act after another
pub then : (x z : Walk) (y : Held) (a m : ℕ) → x ≡ z → y ≡ gone x a m → y ≡ gone z a m
then x z y a m e g = g ∙ ap (λ w. gone w a m) e
