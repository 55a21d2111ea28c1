-- The walk's turns, and what it finds in the end. Assumes nothing.
use Prim.Native.Nat.{ℕ, zero, suc, ◌+◌, ◌*◌, ◌%◌, ◌<◌, ◌≤◌}
use native.Mathlib.Numerals.{add-one}
use native.Mathlib.Omega.{arith}
use mathlib.Core.Path.{◌≡◌, refl, sym, ap, ◌∙◌, subst}
use mathlib.Core.Logic.{◌⊎◌, inl, inr, ⊎_elim}
use Rattle.std.proofs.Common.{Option, Some, None, Result, Ok, Err}
use lib.Dec.{eqb, leb}
use lib.ListN.{length, get_or, replicate, length-replicate}
use borrow.Author.Tests.{leb-false, lt-leb}
use Rattle.words.proofs.Bools.{either}
use Rattle.status.specs.declared.Refusal.{Refusal}
use Rattle.status.specs.declared.Status.{Status}
use Rattle.status.specs.declared.Status.TheVariants.{Unavailable}
use Rattle.points.specs.Points.{point, IsPoint, number_of, point_at}
use Rattle.points.specs.Reach.{Leads, Reach}
use Rattle.points.specs.declared.Point.{Point}
use Rattle.points.specs.declared.Way.{Way}
use Rattle.points.specs.declared.Way.TheVariants as ways
use Rattle.points.proofs.Numbers.{number_low, is_point, point_number, number_point, in_order}
use Rattle.points.proofs.Ways.{all-points}
use Rattle.leading.specs.Depths.{at_depth, AtEach}
use Rattle.leading.specs.declared.Paths.{Paths}
use Rattle.leading.specs.declared.Paths.TheVariants.{Nowhere, Back, To, Both, Call}
use Rattle.walking.specs.Walk.{Has, Walk, walk, Hand, Held, held, idle, reached, gone, spread_over, FoundBy, Noted, Room, EndsIn, Blank}
use Rattle.walking.specs.Found.{FoundIn}
use Rattle.walking.specs.declared.found.Found.{Found}
use Rattle.walking.proofs.Depths.{has-none, only_zero, depth_low, caller-low, caller-has, has-caller, deeper, shallower}
use Rattle.walking.proofs.Masks.{left, left_held, reached-room, reached-left, taken-left, gone-left}
use Rattle.walking.proofs.Closure.{At, Grown, Closed, Kept, With, InHand, Holds, closed_on, reached-kept, taken-holds, gone-holds}

-- what the walk asks of a graph: points lead to points only
abbrev pub Good : (Point → Way) → Type 0
Good way = (p q : Point) → IsPoint p → Leads (way p) q → IsPoint q

-- ---- nothing reached yet
all-zero : (n i : ℕ) → ◌≡◌ {A = ℕ} (get_or (replicate n 0) i 0) 0
all-zero zero i = refl
all-zero (suc n) zero = refl
all-zero (suc n) (suc i) = all-zero n i

pub blank : Blank (walk (replicate 1025 0) (replicate 1025 0) 0)
blank =
    let e : length {A = ℕ} (replicate 1025 0) ≡ 1025 = length-replicate {A = ℕ} 1025 0 in
    record { masks = e; slots = e; empty = refl; clear = all-zero 1025 }

pub blank-room : {x : Walk} → Blank x → Room x
blank-room b =
    record { masks = b.masks; slots = b.slots; small = λ a. omega (arith, b.clear a); counted = omega (arith, b.empty); filled = λ k h. absurd (omega (arith, b.empty)) }

-- ---- what is left after a turn
falls : (x : Walk) (m : ℕ) (paths : Result Paths Refusal) → Room x → m < 512 → EndsIn paths → left_held (spread_over x m paths) ≤ left x
falls x m (Err s) r l e = taken-left x r
falls x m (Ok Nowhere) r l e = taken-left x r
falls x m (Ok Back) r l e = taken-left x r
falls x m (Ok (To a)) r l e = gone-left x a m r e l
falls x m (Ok (Both a b)) r l e =
    omega (arith, reached-left x a m r e.0 l, gone-left (reached x a m) b m (reached-room x a m r e.0 l) e.1 l)
falls x m (Ok (Call a b)) r l e =
    let k : m % 256 * 2 < 512 = omega arith in
    omega (arith, reached-left x a (m % 256 * 2) r e.0 k, gone-left (reached x a (m % 256 * 2)) b (m % 256) (reached-room x a (m % 256 * 2) r e.0 k) e.1 (omega arith))

-- ---- the ways of a call and a return
call-way : (a b d : ℕ) → d < 8 → at_depth (Ok (Call a b)) d ≡ ways.Both (point a (d + 1)) (point b d)
call-way a b d h = simp (lt-leb _ _ h)

back-leads : (d : ℕ) (q : Point) → Leads (at_depth (Ok Back) d) q → ⊥
back-leads d q = either (λ w. Leads w q → ⊥) (eqb d 0) (ways.Bad Unavailable) ways.Nowhere (λ _ l. l) (λ _ l. l)

call-leads : (a b d : ℕ) (q : Point) → Leads (at_depth (Ok (Call a b)) d) q → (d < 8) × ((q ≡ point a (d + 1)) ⊎ (q ≡ point b d))
call-leads a b d q =
    either (λ w. Leads w q → (d < 8) × ((q ≡ point a (d + 1)) ⊎ (q ≡ point b d))) (leb 8 d) (ways.Bad Unavailable) (ways.Both (point a (d + 1)) (point b d))
    (λ _ l. absurd l) (λ u l. (leb-false 8 d u, l))

-- ---- a turn
module _ (way : Point → Way) (f : Option Found) (E : ℕ → ℕ → Type 0) where
  -- what spreading the depths m of an address that leads so gives
  abbrev Spread : Walk → ℕ → Result Paths Refusal → Held → Type 0
  Spread x m paths y = Holds way f E y × Grown x y.walk × ((d : ℕ) (q : Point) → Has m d → Leads (at_depth paths d) q → At y.walk q.address q.depth)

  module _ (x : Walk) (m : ℕ) (i : Kept way f E x) (l : m < 512) where
    spread : (paths : Result Paths Refusal) → EndsIn paths → ((d : ℕ) (q : Point) → Has m d → Leads (at_depth paths d) q → Reach way q) → Spread x m paths (spread_over x m paths)
    spread (Err s) e on = let t = taken-holds way f E x i in (t.0, t.1, λ d q h z. absurd z)
    spread (Ok Nowhere) e on = let t = taken-holds way f E x i in (t.0, t.1, λ d q h z. absurd z)
    spread (Ok Back) e on = let t = taken-holds way f E x i in (t.0, t.1, λ d q h z. absurd (back-leads d q z))
    spread (Ok (To a)) e on =
        let g = gone-holds way f E x a m i e l (λ d h. on d (point a d) h refl) in
        (g.0, g.1, λ d q h z. subst (λ (p : Point). At (gone x a m).walk p.address p.depth) (sym z) (g.2 d h))
    spread (Ok (Both a b)) e on =
        let s = reached-kept way f E x a m i e.0 l (λ d h. on d (point a d) h (inl refl)) in
        let g = gone-holds way f E (reached x a m) b m s.0 e.1 l (λ d h. on d (point b d) h (inr refl)) in
        let P : Point → Type 0 = λ (p : Point). At (gone (reached x a m) b m).walk p.address p.depth in (
          g.0,
          λ c d k. g.1 c d (s.1 c d k),
          λ d q h z. ⊎_elim (λ v. subst P (sym v) (g.1 a d (s.2 d h))) (λ v. subst P (sym v) (g.2 d h)) z,
        )
    spread (Ok (Call a b)) e on =
        let n = m % 256 in
        let to : (d : ℕ) (q : Point) → Has n d → (q ≡ point a (d + 1)) ⊎ (q ≡ point b d) → Reach way q =
        λ d q h z. on d q (caller-has m d h) (subst (λ w. Leads w q) (sym (call-way a b d (caller-low m d h))) z) in
        let s = reached-kept way f E x a (n * 2) i e.0 (omega arith)
        (λ d h. let c = shallower n d h in
        to c.0 (point a d) c.2 (inl (ap (point a) (c.1 ∙ sym (add-one c.0))))) in
        let g = gone-holds way f E (reached x a (n * 2)) b n s.0 e.1 (omega arith) (λ d h. to d (point b d) h (inr refl)) in
        let P : Point → Type 0 = λ (p : Point). At (gone (reached x a (n * 2)) b n).walk p.address p.depth in (
          g.0,
          λ c d k. g.1 c d (s.1 c d k),
          λ d q h z. let c = call-leads a b d q z in
              let k = has-caller m d c.0 h in
              ⊎_elim (λ v. subst P (sym (v ∙ ap (point a) (add-one d))) (g.1 a (suc d) (s.2 (suc d) (deeper n d k)))) (λ v. subst P (sym v) (g.2 d k)) c.1,
        )

-- nothing else is still to be closed
abbrev Nothing : ℕ → ℕ → Type 0
Nothing b d = ⊥

-- what was found is reached and bad
abbrev Real : (Point → Way) → Option Found → Type 0
Real way None = Unit {0}
Real way (Some f) = (f.number < 9225) × Reach way (point_at f.number) × (way (point_at f.number) ≡ ways.Bad f.status)

pub record Going (way : Point → Way) (y : Held) (f : Option Found) : Type 0 where
  pub holds : Holds way f Nothing y
  pub begun : At y.walk 0 0
  pub real : Real way f

kept-lower : {way : Point → Way} {f g : Option Found} {E : ℕ → ℕ → Type 0} {x : Walk} → ((i : ℕ) → FoundBy f i → FoundBy g i) → Kept way f E x → Kept way g E x
kept-lower {way} l i =
    record {
      room = i.room;
      stands = i.stands;
      sound = i.sound;
      done = λ b d k. ⊎_elim inl (λ w. inr (⊎_elim inl (λ c. inr (closed_on way l (λ _ _ h. h) c)) w)) (i.done b d k);
    }

-- the points that were in hand are closed
settled : {way : Point → Way} {f : Option Found} {y : Held} (h : Option Hand) → Holds way f (With Nothing h) y
    → ((b d : ℕ) → InHand h b d → Closed way f y.walk b d) → Holds way f Nothing y
settled {way} {f} {y} h i c =
    record {
      kept = record {
        room = i.kept.room;
        stands = i.kept.stands;
        sound = i.kept.sound;
        done = λ b d k. ⊎_elim inl
            (λ w. inr (⊎_elim (⊎_elim (⊎_elim (λ z. absurd z) (λ e. inr (c b d e))) (λ e. inl (inr e))) inr w))
            (i.kept.done b d k);
      };
      here = i.here;
      ready = i.ready;
    }

module _ (way : Point → Way) (ok : Good way) where
  reached_in : {p : Point} → Reach way p → IsPoint p
  reached_in r = all-points way ok r

  -- an address leads to addresses
  pub ends-in : (a : ℕ) (paths : Result Paths Refusal) → a ≤ 1024 → AtEach way a paths → EndsIn paths
  ends-in a paths h each =
      let on : (q : Point) → Leads (at_depth paths 0) q → q.address ≤ 1024 =
      λ q l. (ok (point a 0) q (record { address = h; depth = omega arith }) (subst (λ w. Leads w q) (sym (each 0)) l)).address in
      by paths on
    where
      by : (paths : Result Paths Refusal) → ((q : Point) → Leads (at_depth paths 0) q → q.address ≤ 1024) → EndsIn paths
      by (Err s) on = tt
      by (Ok Nowhere) on = tt
      by (Ok Back) on = tt
      by (Ok (To b)) on = on (point b 0) refl
      by (Ok (Both b c)) on = (on (point b 0) (inl refl), on (point c 0) (inr refl))
      by (Ok (Call b c)) on = (on (point b 1) (inl refl), on (point c 0) (inr refl))

  pub begin : {x : Walk} {y : Held} → Blank x → y ≡ gone x 0 1 → Going way y None
  begin {x} b e =
      let no : (a d : ℕ) → At x a d → ⊥ = λ a d h. has-none d (subst (λ u. Has (u % 512) d) (b.clear a) h) in
      let k : Kept way None Nothing x = record {
        room = blank-room b;
        stands = λ a h. absurd (omega (arith, b.clear a));
        sound = λ a d h. absurd (no a d h);
        done = λ a d h. absurd (no a d h);
      } in
      let g = gone-holds way None Nothing x 0 1 k (omega arith) (omega arith)
      (λ d h. subst (λ c. Reach way (point 0 c)) (sym (only_zero d h)) Reach.begin) in
      subst (λ y. Going way y None) (sym e) (record { holds = g.0; begun = g.2 0 refl; real = tt })

  module _ {x : Walk} {a m : ℕ} {z : Held} {f : Option Found} (paths : Result Paths Refusal) (go : Going way (held x a m) f) (each : AtEach way a paths)
      (e : z ≡ spread_over x m paths) where
    ends : EndsIn paths
    ends = ends-in a paths go.holds.ready.0 each

    -- what is left falls with each turn
    pub less : left_held z < left_held (held x a m)
    less =
        let h = go.holds in
        let r = falls x m paths h.kept.room h.ready.2 ends in
        subst (λ v. left_held v < left_held (held x a m)) (sym e) (omega (arith, r))

    noted-real : {g : Option Found} → Noted paths a m f g → Real way g
    noted-real {g} n =
        ⊎_elim (λ q. subst (Real way) (sym q) go.real)
        (λ r. let d = r.0 in
        let h = go.holds.ready in
        let v : IsPoint (point a d) = record { address = h.0; depth = depth_low m d h.2 r.3 } in
        let p : point_at (a * 9 + d) ≡ point a d = point_number (point a d) v in
        subst (Real way) (sym r.2)
        (number_low (point a d) v, subst (Reach way) (sym p) (go.holds.kept.sound a d (go.holds.here a d (refl, r.3))), ap way p ∙ each d ∙ r.4))
        n.real

    pub turned : {g : Option Found} → Noted paths a m f g → Going way z g
    turned {g} n =
        let h = go.holds in
        let from : (d : ℕ) → Has m d → Reach way (point a d) = λ d k. h.kept.sound a d (h.here a d (refl, k)) in
        let hand : Option Hand = Some (record { address = a; depths = m }) in
        let t = spread way g (With Nothing hand) x m (kept-lower n.lower h.kept) h.ready.2 paths ends
        (λ d q k l. Reach.onward (from d k) (subst (λ w. Leads w q) (sym (each d)) l)) in
        let c : (b d : ℕ) → InHand hand b d → Closed way g (spread_over x m paths).walk b d = λ b d k.
        subst (λ v. Closed way g (spread_over x m paths).walk v d) (sym k.0)
        (record { ends = λ q l. t.2 d q k.1 (subst (λ w. Leads w q) (each d) l); low = λ s b. n.least d s k.1 (sym (each d) ∙ b) }) in
        subst (λ v. Going way v g) (sym e) (record { holds = settled hand t.0 c; begun = t.1 0 0 go.begun; real = noted-real n })

  -- ---- the end: nothing is in hand, so nothing waits
  module _ {x : Walk} {f : Option Found} (go : Going way (idle x) f) where
    all_closed : (b d : ℕ) → At x b d → Closed way f x b d
    all_closed b d k =
        ⊎_elim (λ w. absurd (let s = go.holds.kept.stands b w in omega (arith, s.1, go.holds.ready)))
        (⊎_elim (⊎_elim (λ v. absurd v) (λ v. absurd v)) (λ c. c))
        (go.holds.kept.done b d k)

    all-at : {p : Point} → Reach way p → At x p.address p.depth
    all-at Reach.begin = go.begun
    all-at (Reach.onward {p} {q} r l) = (all_closed p.address p.depth (all-at r)).ends q l

    lowest : (q : Point) (t : Status) → Reach way q → way q ≡ ways.Bad t → FoundBy f (number_of q)
    lowest q t r e = (all_closed q.address q.depth (all-at r)).low t e

    pub finished : FoundIn way f
    finished = by f go.real lowest
      where
        by : (f : Option Found) → Real way f → ((q : Point) (t : Status) → Reach way q → way q ≡ ways.Bad t → FoundBy f (number_of q)) → FoundIn way f
        by None real low = record { none = low }
        by (Some f) real low = (
          real.0,
          record {
            reached = real.1;
            bad = real.2;
            least = λ q t r b. let i = f.number in
                in_order (point_at i) q (is_point i real.0) (reached_in r) (omega (arith, number_point i, low q t r b));
          },
        )
