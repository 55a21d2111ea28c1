-- A list of points that holds the first one and all that its points lead to holds every point that is reached: so what a concrete
-- program's check answers is computed. Assumes nothing.
use mathlib.Core.Path.{◌≡◌, refl, sym, subst}
use mathlib.Core.Logic.{inl, inr, ⊎_elim}
use mathlib.Core.Bool.{Bool, true, false, not, false≢true, ◌&&◌, ◌||◌}
use mathlib.Core.List.{List, [], ◌∷◌}
use lib.Dec.{eqb, leb, ltb}
use borrow.Author.Tests.{eqb-true, leb-true, ltb-true}
use Rattle.words.proofs.Bools.{each, or_else}
use Rattle.status.specs.declared.Status.{Status}
use Rattle.points.specs.Points.{first, NotAfter}
use Rattle.points.specs.Reach.{Leads, Reach, Safe, Lowest}
use Rattle.points.specs.declared.Point.{Point}
use Rattle.points.specs.declared.Way.{Way}
use Rattle.points.specs.declared.Way.TheVariants.{Bad, Nowhere, To, Both}
use Rattle.points.proofs.Ways.{is_bad}

-- ---- the tests
abbrev pub same_point : Point → Point → Bool
same_point p q = eqb p.address q.address && eqb p.depth q.depth

unfoldable pub has : List Point → Point → Bool
has [] p = false
has (q ∷ qs) p = same_point p q || has qs p

-- a way leads into a list, and is bad only from p on
abbrev pub leads_into : List Point → Way → Bool
leads_into s (Bad t) = true
leads_into s Nowhere = true
leads_into s (To a) = has s a
leads_into s (Both a b) = has s a && has s b

abbrev pub not_after : Point → Point → Bool
not_after p q = ltb p.address q.address || (eqb p.address q.address && leb p.depth q.depth)

unfoldable pub closed : (Point → Way) → (Point → Bool) → List Point → List Point → Bool
closed way may s [] = true
closed way may s (p ∷ ps) = (leads_into s (way p) && (may p || not (is_bad (way p)))) && closed way may s ps

-- the list is closed, and its bad points are those that may be
unfoldable pub certifies : (Point → Way) → (Point → Bool) → List Point → Bool
certifies way may s = has s first && closed way may s s

-- q is led to
abbrev pub leads_to : Way → Point → Bool
leads_to (Bad t) q = false
leads_to Nowhere q = false
leads_to (To a) q = same_point q a
leads_to (Both a b) q = same_point q a || same_point q b

-- each point leads to the next
unfoldable pub goes : (Point → Way) → Point → List Point → Bool
goes way p [] = true
goes way p (q ∷ qs) = leads_to (way p) q && goes way q qs

abbrev pub last_of : Point → List Point → Point
last_of p [] = p
last_of p (q ∷ qs) = last_of q qs

-- ---- what they say
same_point_lem : (p q : Point) → same_point p q ≡ true → p ≡ q
same_point_lem p q e =
    let t = each (eqb p.address q.address) (eqb p.depth q.depth) e in
    let a = eqb-true p.address q.address t.0 in
    let d = eqb-true p.depth q.depth t.1 in
    λ i. record { address = a i; depth = d i }

leads-into : (s : List Point) (w : Way) (q : Point) → leads_into s w ≡ true → Leads w q → has s q ≡ true
leads-into s (Bad t) q e l = absurd l
leads-into s Nowhere q e l = absurd l
leads-into s (To a) q e l = subst (λ p. has s p ≡ true) (sym l) e
leads-into s (Both a b) q e l =
    let t = each (has s a) (has s b) e in
    ⊎_elim (λ m. subst (λ p. has s p ≡ true) (sym m) t.0) (λ m. subst (λ p. has s p ≡ true) (sym m) t.1) l

leads-to : (w : Way) (q : Point) → leads_to w q ≡ true → Leads w q
leads-to (Bad t) q e = absurd (false≢true e)
leads-to Nowhere q e = absurd (false≢true e)
leads-to (To a) q e = same_point_lem q a e
leads-to (Both a b) q e = or_else (same_point q a) (same_point q b) e (λ f. inl (same_point_lem q a f)) (λ f. inr (same_point_lem q b f))

pub reached-by : (way : Point → Way) (p : Point) (qs : List Point) → Reach way p → goes way p qs ≡ true → Reach way (last_of p qs)
unfolding goes
reached-by way p [] r e = r
reached-by way p (q ∷ qs) r e =
    let t = each (leads_to (way p) q) (goes way q qs) e in
    reached-by way q qs (Reach.onward {q = q} r (leads-to (way p) q t.0)) t.1

not_after_lem : (p q : Point) → not_after p q ≡ true → NotAfter p q
not_after_lem p q e =
    or_else (ltb p.address q.address) (eqb p.address q.address && leb p.depth q.depth) e
    (λ l. inl (ltb-true p.address q.address l))
    (λ m. let t = each (eqb p.address q.address) (leb p.depth q.depth) m in
    inr (eqb-true p.address q.address t.0, leb-true p.depth q.depth t.1))

may-be : (b : Bool) (w : Way) (t : Status) → b || not (is_bad w) ≡ true → w ≡ Bad t → b ≡ true
may-be true w t e f = refl
may-be false w t e f = absurd (false≢true (subst (λ (v : Way). not (is_bad v) ≡ true) f e))

module _ (way : Point → Way) (may : Point → Bool) (s : List Point) where
  record Found (p : Point) : Type 0 where
    into : leads_into s (way p) ≡ true
    bad : (t : Status) → way p ≡ Bad t → may p ≡ true

  found : (ps : List Point) → closed way may s ps ≡ true → (p : Point) → has ps p ≡ true → Found p
  unfolding closed has
  found [] c p h = absurd (false≢true h)
  found (q ∷ qs) c p h =
      let t = each (leads_into s (way q) && (may q || not (is_bad (way q)))) (closed way may s qs) c in
      let u = each (leads_into s (way q)) (may q || not (is_bad (way q))) t.0 in
      or_else (same_point p q) (has qs p) h
      (λ e. subst Found (sym (same_point_lem p q e)) (record { into = u.0; bad = λ b f. may-be (may q) (way q) b u.1 f }))
      (λ g. found qs t.1 p g)

  module _ (c : certifies way may s ≡ true) where
    tests : (has s first ≡ true) × (closed way may s s ≡ true)
    unfolding certifies
    tests = each (has s first) (closed way may s s) c

    covers : {p : Point} → Reach way p → has s p ≡ true
    covers Reach.begin = tests.0
    covers (Reach.onward {p} {q} r l) = leads-into s (way p) q (found s tests.1 p (covers r)).into l

    bad-may : (q : Point) (t : Status) → Reach way q → way q ≡ Bad t → may q ≡ true
    bad-may q t r e = (found s tests.1 q (covers r)).bad t e

-- ---- a program passes
abbrev pub never : Point → Bool
never p = false

pub safe-by : (way : Point → Way) (s : List Point) → certifies way never s ≡ true → Safe way
safe-by way s c = record { none = λ q t r e. false≢true (bad-may way never s c q t r e) }

-- ---- it is refused at a point
pub lowest_by : (way : Point → Way) (p : Point) (t : Status) (s : List Point) → certifies way (not_after p) s ≡ true → Reach way p → way p ≡ Bad t
    → Lowest way p t
lowest_by way p t s c r e =
    record { reached = r; bad = e; least = λ q u m b. not_after_lem p q (bad-may way (not_after p) s c q u m b) }
