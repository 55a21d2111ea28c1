-- The walk over any graph on the points: what each of its acts keeps. Assumes nothing.
use Prim.Native.Nat.{ℕ, ◌+◌, ◌-◌, ◌*◌, ◌%◌, ◌<◌, ◌≤◌}
use native.Mathlib.Omega.{arith}
use mathlib.Core.Path.{◌≡◌, refl, sym, ap, ◌∙◌, subst}
use mathlib.Core.Logic.{◌⊎◌, inl, inr, ⊎_elim}
use mathlib.Core.List.{List}
use Rattle.std.proofs.Common.{Option, Some, None}
use lib.ListN.{length, get_or, set}
use lib.Seq.{get_or-set_same, get_or-set_other}
use Rattle.status.specs.declared.Status.{Status}
use Rattle.points.specs.Points.{point}
use Rattle.points.specs.Reach.{Leads, Reach}
use Rattle.points.specs.declared.Point.{Point}
use Rattle.points.specs.declared.Way.{Way}
use Rattle.points.specs.declared.Way.TheVariants.{Bad}
use Rattle.walking.specs.Walk.{Has, Walk, walk, Hand, Held, held, mask_at, depths_at, joined, reached, top, taken, gone, FoundBy, Room}
use Rattle.walking.specs.declared.found.Found.{Found}
use Rattle.walking.proofs.Depths.{or_left, or_right, or_cases}
use Rattle.walking.proofs.Masks.{set_cases, joined-low, more, reached-cases, reached-room, room_for, on-hand-room, gone-cases, taken-cases, top-filled, top_in, off-room}

-- the walk has reached the point
abbrev pub At : Walk → ℕ → ℕ → Type 0
At x b d = Has (depths_at x b) d

abbrev pub Grown : Walk → Walk → Type 0
Grown x y = (b d : ℕ) → At x b d → At y b d

-- the points that it leads to are reached too, and what was found is not after it if it is bad
pub record Closed (way : Point → Way) (f : Option Found) (x : Walk) (b d : ℕ) : Type 0 where
  pub ends : (q : Point) → Leads (way (point b d)) q → At x q.address q.depth
  pub low : (t : Status) → way (point b d) ≡ Bad t → FoundBy f (b * 9 + d)

-- what holds between the acts: the points for which E holds are still to be closed
pub record Kept (way : Point → Way) (f : Option Found) (E : ℕ → ℕ → Type 0) (x : Walk) : Type 0 where
  pub room : Room x
  pub stands : (b : ℕ) → 512 ≤ mask_at x b → (k : ℕ) × (k < x.n) × (get_or x.stack k 0 ≡ b)
  pub sound : (b d : ℕ) → At x b d → Reach way (point b d)
  pub done : (b d : ℕ) → At x b d → (512 ≤ mask_at x b) ⊎ (E b d ⊎ Closed way f x b d)

-- .. and those in hand
abbrev pub InHand : Option Hand → ℕ → ℕ → Type 0
InHand None b d = ⊥
InHand (Some h) b d = (b ≡ h.address) × Has h.depths d

abbrev pub With : (ℕ → ℕ → Type 0) → Option Hand → ℕ → ℕ → Type 0
With E h b d = E b d ⊎ InHand h b d

-- what is in hand is an address with depths; nothing is only where nothing waits
abbrev pub Ready : ℕ → Option Hand → Type 0
Ready n None = n ≡ 0
Ready n (Some h) = (h.address ≤ 1024) × (0 < h.depths) × (h.depths < 512)

pub record Holds (way : Point → Way) (f : Option Found) (E : ℕ → ℕ → Type 0) (y : Held) : Type 0 where
  pub kept : Kept way f (With E y.hand) y.walk
  pub here : (b d : ℕ) → InHand y.hand b d → At y.walk b d
  pub ready : Ready y.walk.n y.hand

module _ (way : Point → Way) where
  pub closed_on : {f g : Option Found} {x y : Walk} {b d : ℕ} → ((i : ℕ) → FoundBy f i → FoundBy g i) → Grown x y → Closed way f x b d → Closed way g y b d
  closed_on l g c = record { ends = λ q e. g _ _ (c.ends q e); low = λ t e. l _ (c.low t e) }

  module _ (f : Option Found) (E : ℕ → ℕ → Type 0) where
    -- depths stored at an address, none lost
    module _ (x : Walk) (a v : ℕ) (i : Kept way f E x) (h : a ≤ 1024) (up : (d : ℕ) → At x a d → Has (v % 512) d) (s : List ℕ) (n : ℕ) where
      in-masks : a < length x.masks
      in-masks = omega (arith, i.room.masks)

      pub store-grown : Grown x (walk (set x.masks a v) s n)
      store-grown b d = set_cases x.masks a b v (λ u. At x b d → Has (u % 512) d) in-masks (λ e k. up d (subst (λ c. At x c d) e k)) (λ _ k. k)

      pub stored-kept : (F : ℕ → ℕ → Type 0) → Room (walk (set x.masks a v) s n)
          → ((b : ℕ) → 512 ≤ get_or (set x.masks a v) b 0 → (k : ℕ) × (k < n) × (get_or s k 0 ≡ b))
          → ((d : ℕ) → Has (v % 512) d → Reach way (point a d)) → ((d : ℕ) → Has (v % 512) d → (512 ≤ v) ⊎ F a d) → ((b d : ℕ) → E b d → F b d)
          → Kept way f F (walk (set x.masks a v) s n)
      stored-kept F r st new at on =
          record {
            room = r;
            stands = st;
            sound = λ b d. set_cases x.masks a b v (λ u. Has (u % 512) d → Reach way (point b d)) in-masks
                (λ e k. subst (λ c. Reach way (point c d)) (sym e) (new d k)) (λ _ k. i.sound b d k);
            done = λ b d. set_cases x.masks a b v
                (λ u. Has (u % 512) d → (512 ≤ u) ⊎ (F b d ⊎ Closed way f (walk (set x.masks a v) s n) b d)) in-masks
                (λ e k. ⊎_elim inl (λ w. inr (inl (subst (λ c. F c d) (sym e) w))) (at d k))
                (λ _ k. ⊎_elim inl (λ w. inr (⊎_elim (λ z. inl (on b d z)) (λ c. inr (closed_on (λ _ k. k) store-grown c)) w)) (i.done b d k));
          }

    module _ (x : Walk) (a m : ℕ) (i : Kept way f E x) (h : a ≤ 1024) (l : m < 512) (new : (d : ℕ) → Has m d → Reach way (point a d)) where
      -- depths that are joined were reached before or are now
      joined-sound : (d : ℕ) → Has (joined x a m) d → Reach way (point a d)
      joined-sound d k = ⊎_elim (i.sound a d) (new d) (or_cases (depths_at x a) m d k)

      low_part : (joined x a m + 512) % 512 ≡ joined x a m
      low_part = let w = joined-low x a m i.room h l in omega arith

      same-part : joined x a m % 512 ≡ joined x a m
      same-part = let w = joined-low x a m i.room h l in omega arith

      up-low : (d : ℕ) → At x a d → Has ((joined x a m + 512) % 512) d
      up-low d k = subst (λ u. Has u d) (sym low_part) (or_left (depths_at x a) m d k)

      up_same : (d : ℕ) → At x a d → Has (joined x a m % 512) d
      up_same d k = subst (λ u. Has u d) (sym same-part) (or_left (depths_at x a) m d k)

      -- what a store of the joined depths has there
      stored_at : (v : ℕ) → v % 512 ≡ joined x a m → (d : ℕ) → Has m d → Has (get_or (set x.masks a v) a 0 % 512) d
      stored_at v e d k =
          rw (get_or-set_same x.masks a v 0 (omega (arith, i.room.masks))) (subst (λ u. Has u d) (sym e) (or_right (depths_at x a) m d k))

      abbrev pub Reached : Walk → Type 0
      Reached y = Kept way f E y × Grown x y × ((d : ℕ) → Has m d → At y a d)

      pub reached-kept : Reached (reached x a m)
      reached-kept =
          let v = joined x a m + 512 in
          let r = reached-room x a m i.room h l in
          reached-cases x a m (λ y. Room y → Reached y)
          (λ e _. (i, λ b d k. k, λ d k. subst (λ u. Has u d) e (or_right (depths_at x a) m d k)))
          (λ e u q. (
            stored-kept x a v i h up-low (set x.stack x.n a) (x.n + 1) E q
                (λ b. set_cases x.masks a b v (λ u. 512 ≤ u → (k : ℕ) × (k < x.n + 1) × (get_or (set x.stack x.n a) k 0 ≡ b)) (omega (arith, i.room.masks))
                (λ g _. (x.n, omega arith, get_or-set_same x.stack x.n a 0 (omega (arith, i.room.slots, room_for x a i.room h u)) ∙ sym g))
                (λ _ w. let s = i.stands b w in (s.0, omega (arith, s.1), get_or-set_other x.stack x.n s.0 a 0 (omega (arith, s.1)) ∙ s.2)))
                (λ d k. joined-sound d (subst (λ u. Has u d) low_part k))
                (λ d _. inl (omega arith))
                (λ b d w. w),
            store-grown x a v i h up-low (set x.stack x.n a) (x.n + 1),
            stored_at v low_part,
          ))
          (λ e u q. (
            stored-kept x a v i h up-low x.stack x.n E q
                (λ b. set_cases x.masks a b v (λ u. 512 ≤ u → (k : ℕ) × (k < x.n) × (get_or x.stack k 0 ≡ b)) (omega (arith, i.room.masks))
                (λ g _. i.stands b (subst (λ c. 512 ≤ mask_at x c) (sym g) u))
                (λ _ w. i.stands b w))
                (λ d k. joined-sound d (subst (λ u. Has u d) low_part k))
                (λ d _. inl (omega arith))
                (λ b d w. w),
            store-grown x a v i h up-low x.stack x.n,
            stored_at v low_part,
          ))
          r

    -- an address in hand by a store of its depths v, without the 512
    in-hand : (x : Walk) (a v n : ℕ) (i : Kept way f E x) (h : a ≤ 1024) → v < 512 → 0 < v → ((d : ℕ) → At x a d → Has (v % 512) d)
        → Room (walk (set x.masks a v) x.stack n) → ((b : ℕ) → 512 ≤ mask_at x b → (b ≡ a → ⊥) → (k : ℕ) × (k < n) × (get_or x.stack k 0 ≡ b))
        → ((d : ℕ) → Has v d → Reach way (point a d)) → Holds way f E (held (walk (set x.masks a v) x.stack n) a v)
    in-hand x a v n i h l p up r st new =
        let e : v % 512 ≡ v = omega arith in
        let q : a < length x.masks = omega (arith, i.room.masks) in
        record {
          kept = stored-kept x a v i h up x.stack n (With E (Some (record { address = a; depths = v }))) r
              (λ b. set_cases x.masks a b v (λ u. 512 ≤ u → (k : ℕ) × (k < n) × (get_or x.stack k 0 ≡ b)) q (λ _ w. absurd (omega arith)) (λ g w. st b w g))
              (λ d k. new d (subst (λ u. Has u d) e k)) (λ d k. inr (inr (refl, subst (λ u. Has u d) e k))) (λ b d w. inl w);
          here = λ b d k. subst (λ c. At (walk (set x.masks a v) x.stack n) c d) (sym k.0) (rw (get_or-set_same x.masks a v 0 q) (subst (λ u. Has u d) (sym e) k.1));
          ready = (h, p, l);
        }

    pub taken-holds : (x : Walk) → Kept way f E x → Holds way f E (taken x) × Grown x (taken x).walk
    taken-holds x i =
        taken-cases x (λ y. Holds way f E y × Grown x y.walk)
        (λ z. (
          record {
            kept = record {
              room = i.room;
              stands = i.stands;
              sound = i.sound;
              done = λ b d k. ⊎_elim inl (λ w. inr (⊎_elim (λ e. inl (inl e)) inr w)) (i.done b d k);
            };
            here = λ b d k. absurd k;
            ready = z;
          },
          λ b d k. k,
        ))
        (λ p. let a = top x in
        let v = depths_at x a in
        let h = top_in x i.room p in
        let t = top-filled x i.room p in
        let e : v % 512 ≡ v = omega arith in
        let up : (d : ℕ) → At x a d → Has (v % 512) d = λ d k. subst (λ u. Has u d) (sym e) k in (
          in-hand x a v (x.n - 1) i h (omega arith) t up (off-room x i.room p)
              (λ b w g. let s = i.stands b w in
              let o : s.0 ≡ x.n - 1 → ⊥ = λ j. g (sym s.2 ∙ ap (λ k. get_or x.stack k 0) j) in
              (s.0, omega (arith, s.1, o), s.2))
              (i.sound a),
          store-grown x a v i h up x.stack (x.n - 1),
        ))

    pub gone-holds : (x : Walk) (a m : ℕ) → Kept way f E x → a ≤ 1024 → m < 512 → ((d : ℕ) → Has m d → Reach way (point a d))
        → Holds way f E (gone x a m) × Grown x (gone x a m).walk × ((d : ℕ) → Has m d → At (gone x a m).walk a d)
    gone-holds x a m i h l new =
        gone-cases x a m (λ y. Holds way f E y × Grown x y.walk × ((d : ℕ) → Has m d → At y.walk a d))
        (let s = reached-kept x a m i h l new in
        let t = taken-holds (reached x a m) s.0 in
        (t.0, λ b d k. t.1 b d (s.1 b d k), λ d k. t.1 a d (s.2 d k)))
        (λ e u. let w = joined-low x a m i.room h l in
        let g = more x a m i.room h l e in (
          in-hand x a (joined x a m) x.n i h w (omega arith) (up_same x a m i h l new) (on-hand-room x a m i.room h l e u)
              (λ b q _. i.stands b q) (joined-sound x a m i h l new),
          store-grown x a (joined x a m) i h (up_same x a m i h l new) x.stack x.n,
          stored_at x a m i h l new (joined x a m) (same-part x a m i h l new),
        ))
