-- Where points lead. Assumes nothing.
use Prim.Native.Nat.{ℕ, ◌+◌, ◌<◌, ◌≤◌}
use native.Mathlib.Omega.{arith}
use mathlib.Core.Path.{◌≡◌, refl, sym, ap, ◌∙◌, subst}
use mathlib.Core.Logic.{⊎_elim}
use mathlib.Core.Bool.{Bool, true, false, true≢false, ◌&&◌}
use mathlib.Core.List.{List}
use lib.Dec.{eqb}
use borrow.Author.Tests.{leb-false}
use Rattle.words.specs.Word.{pick}
use Rattle.words.proofs.Bools.{not-other, picked, either}
use Rattle.wire.specs.declared.Command.{Command}
use Rattle.store.specs.Store.{record_at}
use Rattle.registers.proofs.Addresses.{next_low}
use Rattle.jumping.proofs.Addresses.{address-low}
use Rattle.status.specs.Status.{is_done}
use Rattle.status.specs.declared.Status.{Status}
use Rattle.status.specs.declared.Status.TheVariants.{Done, Value, Unavailable}
use Rattle.status.proofs.Statuses.{is-done, not_done}
use Rattle.judge.specs.Judge.{judged}
use Rattle.points.specs.Points.{IsPoint, is_end, is_deepest}
use Rattle.points.specs.Reach.{Leads, Reach}
use Rattle.points.specs.declared.Point.{Point}
use Rattle.points.specs.declared.Way.{Way}
use Rattle.points.specs.declared.Way.TheVariants.{Bad, Nowhere, To, Both}
use Rattle.points.proofs.Ways.{is_bad, all-points}
use Rattle.leading.specs.Leading.{by_depth, record_status, status_at, next, target, onward, unless_bad, way_at}
use Rattle.leading.specs.Laws.{Laws}
use Rattle.leading.proofs.OnePaths.{one_paths}

-- ---- ways that are not bad
onward-not-bad : (r : Command) (p : Point) → is_bad (onward r p) ≡ false
unfolding onward
onward-not-bad r p =
    let P : Way → Type 0 = λ w. is_bad w ≡ false in
    let n = r.number in
    let from-24 = pick (eqb n 24) Nowhere (To (next p)) in
    let from-28 = pick (eqb n 28) Nowhere from-24 in
    let from-23 = pick (eqb n 23) (Both (target r (p.depth + 1)) (next p)) from-28 in
    let from-21 = pick (eqb n 21) (Both (target r p.depth) (next p)) from-23 in
    picked P (eqb n 22) (To (target r p.depth)) from-21 (λ _. refl)
    (picked P (eqb n 21) (Both (target r p.depth) (next p)) from-23 (λ _. refl)
    (picked P (eqb n 23) (Both (target r (p.depth + 1)) (next p)) from-28 (λ _. refl)
    (picked P (eqb n 28) Nowhere from-24 (λ _. refl)
    (picked P (eqb n 24) Nowhere (To (next p)) (λ _. refl) refl))))

through : (s : Status) (w : Way) (q : Point) → Leads (unless_bad s w) q → (s ≡ Done) × Leads w q
through s w q = either (λ v. Leads v q → (s ≡ Done) × Leads w q) (is_done s) w (Bad s) (λ e l. (is-done s e, l)) (λ _ l. absurd l)

-- a way that is bad only by its status
badly : (s t : Status) (w : Way) → is_bad w ≡ false → unless_bad t w ≡ Bad s → (t ≡ s) × (s ≡ Done → ⊥)
badly s t w g =
    either (λ v. v ≡ Bad s → (t ≡ s) × (s ≡ Done → ⊥)) (is_done t) w (Bad t)
    (λ _ e. absurd (true≢false (sym (ap is_bad e) ∙ g)))
    (λ f e. let q : t ≡ s = cc in (q, λ d. not_done t f (q ∙ d)))

-- ---- what a point that is not bad has
pub record Through (program : List ℕ) (p : Point) : Type 0 where
  pub inside : p.address < 1024
  pub judged : judged (record_at program p.address) ≡ Done
  pub depth : by_depth (record_at program p.address) p ≡ Done

record-through : (r : Command) (p : Point) → record_status r p ≡ Done → (judged r ≡ Done) × (by_depth r p ≡ Done)
unfolding record_status
record-through r p =
    either (λ (s : Status). s ≡ Done → (judged r ≡ Done) × (by_depth r p ≡ Done)) (is_done (judged r)) (by_depth r p) (judged r)
    (λ e f. (is-done (judged r) e, f)) (λ e f. absurd (not_done (judged r) e f))

pub not-bad : (program : List ℕ) (p : Point) → status_at program p ≡ Done → Through program p
unfolding status_at
not-bad program p =
    let r = record_at program p.address in
    either (λ (s : Status). s ≡ Done → Through program p) (is_end p) Value (record_status r p)
    (λ _ e. absurd (not_done Value refl e))
    (λ e f. let t = record-through r p f in record { inside = leb-false 1024 p.address e; judged = t.0; depth = t.1 })

-- a refusal that did not come
refuses-not : (b : Bool) (s : Status) → pick b Unavailable s ≡ Done → (b ≡ false) × (s ≡ Done)
refuses-not true s e = absurd (not_done Unavailable refl e)
refuses-not false s e = (refl, e)

module _ (r : Command) (p : Point) (h : by_depth r p ≡ Done) where
  by-depth : (eqb r.number 23 && is_deepest p ≡ false) × (eqb r.number 24 && eqb p.depth 0 ≡ false)
  unfolding by_depth
  by-depth =
      let back = eqb r.number 24 && eqb p.depth 0 in
      let a = refuses-not (eqb r.number 23 && is_deepest p) (pick back Unavailable Done) h in
      (a.0, (refuses-not back Done a.1).0)

  -- a call has room, and a return has an entry
  pub call-room : eqb r.number 23 ≡ true → p.depth < 8
  call-room e = leb-false 8 p.depth (not-other (eqb r.number 23) (is_deepest p) e by-depth.0)

  pub return-entry : eqb r.number 24 ≡ true → eqb p.depth 0 ≡ false
  return-entry e = not-other (eqb r.number 24) (eqb p.depth 0) e by-depth.1

-- ---- points lead to points
module _ (r : Command) (p q : Point) (v : IsPoint p) (h : by_depth r p ≡ Done) where
  is-target : (d : ℕ) → d ≤ 8 → q ≡ target r d → IsPoint q
  is-target d l e = subst IsPoint (sym e) (record { address = let a = address-low r.value.v in omega (arith, a); depth = l })

  is-next : q ≡ next p → IsPoint q
  is-next e = subst IsPoint (sym e) (record { address = next_low p.address v.address; depth = v.depth })

  onward-in : Leads (onward r p) q → IsPoint q
  unfolding onward
  onward-in =
      let P : Way → Type 0 = λ w. Leads w q → IsPoint q in
      let n = r.number in
      let from-24 = pick (eqb n 24) Nowhere (To (next p)) in
      let from-28 = pick (eqb n 28) Nowhere from-24 in
      let from-23 = pick (eqb n 23) (Both (target r (p.depth + 1)) (next p)) from-28 in
      let from-21 = pick (eqb n 21) (Both (target r p.depth) (next p)) from-23 in
      picked P (eqb n 22) (To (target r p.depth)) from-21 (λ _. is-target p.depth v.depth)
      (picked P (eqb n 21) (Both (target r p.depth) (next p)) from-23 (λ _. ⊎_elim (is-target p.depth v.depth) is-next)
      (picked P (eqb n 23) (Both (target r (p.depth + 1)) (next p)) from-28
      (λ e. ⊎_elim (is-target (p.depth + 1) (let l = call-room r p h e in omega (arith, l))) is-next)
      (picked P (eqb n 28) Nowhere from-24 (λ _ l. absurd l)
      (picked P (eqb n 24) Nowhere (To (next p)) (λ _ l. absurd l) is-next))))

module _ (program : List ℕ) where
  bad_status : (p : Point) (s : Status) → way_at program p ≡ Bad s → (status_at program p ≡ s) × (s ≡ Done → ⊥)
  unfolding way_at
  bad_status p s = badly s (status_at program p) (onward (record_at program p.address) p) (onward-not-bad (record_at program p.address) p)

  pub status_bad : (p : Point) → (status_at program p ≡ Done → ⊥) → way_at program p ≡ Bad (status_at program p)
  unfolding way_at
  status_bad p n =
      let s = status_at program p in
      either (λ v. v ≡ Bad s) (is_done s) (onward (record_at program p.address) p) (Bad s) (λ e. absurd (n (is-done s e))) (λ _. refl)

  pub leads_in : (p q : Point) → IsPoint p → Leads (way_at program p) q → IsPoint q
  unfolding way_at
  leads_in p q v l =
      let r = record_at program p.address in
      let t = through (status_at program p) (onward r p) q l in
      onward-in r p q v (not-bad program p t.0).depth t.1

  pub reached_in : {p : Point} → Reach (way_at program) p → IsPoint p
  reached_in r = all-points (way_at program) leads_in r

pub laws : Laws
laws =
    record {
      bad_status = bad_status;
      status_bad = status_bad;
      leads_in = leads_in;
      reached_in = λ program p. reached_in program;
      one_paths = λ program. one_paths (way_at program);
    }
