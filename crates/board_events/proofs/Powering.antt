-- An image filled place by place is that of power-up. Assumes nothing.
use Prim.Native.Nat.{ℕ, ◌+◌, ◌≤◌, ◌<◌}
use native.Mathlib.Omega.{arith}
use mathlib.Core.Path.{◌≡◌, refl, sym, ap, subst, ◌∙◌}
use mathlib.Core.Bool.{Bool}
use mathlib.Core.List.{List}
use borrow.Author.Tests.{lt-ltb}
use lib.IntN.{ℤ, pos}
use lib.ListN.{length, set}
use Rattle.words.specs.declared.Word.{Word}
use Rattle.order.specs.Order.{same_w}
use Rattle.sheet.specs.Rows.{rows, parameters}
use Rattle.sheet.specs.Sheet.{axis, globals, rwe_rows, rw_rows, r_rows}
use Rattle.values.specs.Values.{value_at, set_value, powered_at, powered_values}
use Rattle.values.proofs.Filled.{Filled, one_more, all-filled}
use Rattle.registers.specs.Registers.{with_running}
use Rattle.board.specs.Registers.{unpowered, powered}
use Rattle.board.specs.declared.Registers.{Registers}
use Rattle.reg_image.specs.With.{in_core, with_values}
use Rattle.reg_image.specs.Rows.{set_value_at}
use Rattle.reg_image.specs.Image.{registers_of, Leaves}
use Rattle.board_events.specs.Standing.{Is}
use Rattle.board_events.specs.Filling.{Filling, Fills}

abbrev values_of : List ℕ → List ℤ
values_of l = (registers_of l).values

-- ---- from nothing
blank : length unpowered.values ≡ 103
unfolding unpowered
blank = refl

module _ (s : List ℕ) where
  abbrev given : ℕ → ℤ
  given i = (powered_at rows s i).v

  pub none_yet : (m : List ℕ) → Is m unpowered → Filling s 0 m
  none_yet m k =
      let v : values_of m ≡ unpowered.values = ap (λ (r : Registers). r.values) k.of in
      record {
        rest = k.of ∙ ap (λ (w : List ℤ). with_values w unpowered) (sym v);
        shape = k.shape;
        size = ap length v ∙ blank;
        there = λ j h. absurd (omega arith);
      }

  filled : (i : ℕ) (l : List ℕ) → Filling s i l → Filled given 103 i (values_of l)
  filled i l k = record { size = k.size; there = k.there }

  -- ---- one place more
  pub one-filled : (i : ℕ) (w : Word) (l m : List ℕ) → i < 103 → w ≡ powered_at rows s i → Leaves (set_value_at i w.v) l m → Fills s i (i + 1) l m
  one-filled i w l m h e k =
      let vs = set_value (values_of l) i w.v in
      let v : values_of m ≡ vs = ap (λ (r : Registers). r.values) k.makes in
      let q : vs ≡ set (values_of l) i (given i) = rw (lt-ltb i 103 h, e) in
      record {
        fills = λ f.
            let g = one_more given 103 i (values_of l) (values_of m) h (v ∙ q) (filled i l f) in
            record {
              rest =
                  k.makes
                  ∙ ap (with_values vs) f.rest
                  ∙ ap (λ (x : List ℤ). with_values x unpowered) (sym v);
              shape = k.stays f.shape;
              size = g.size;
              there = g.there;
            };
      }

  -- ---- one part after another
  pub next : (a b c d : ℕ) (l m n : List ℕ) → Fills s a b l m → Fills s c d m n → b ≡ c → Fills s a d l n
  next a b c d l m n p q e = record { fills = λ f. q.fills (subst (λ (k : ℕ). Filling s k m) e (p.fills f)) }

  pub up_to : (a b c : ℕ) (l m : List ℕ) → Fills s a b l m → b ≡ c → Fills s a c l m
  up_to a b c l m p e = subst (λ (k : ℕ). Fills s a k l m) e p

  -- ---- all of them
  all-values : (i : ℕ) (l : List ℕ) → 103 ≤ i → Filling s i l → values_of l ≡ powered_values rows s
  unfolding powered_values rows parameters axis globals rwe_rows rw_rows r_rows
  all-values i l h f = all-filled given 103 i (values_of l) h (filled i l f)

  -- global 77 is at place 46
  pub powered-so : (l m : List ℕ) (b : Bool) → Filling s 103 l → b ≡ same_w (value_at (values_of l) 46).v (pos 1) → Leaves (in_core (with_running b)) l m → Is m (powered s)
  unfolding powered unpowered axis globals rwe_rows rw_rows r_rows
  powered-so l m b f e k =
      let v = all-values 103 l (omega arith) f in
      record {
        of =
            k.makes
            ∙ ap (in_core (with_running b)) (f.rest ∙ ap (λ (x : List ℤ). with_values x unpowered) v)
            ∙ ap (λ (t : Bool). in_core (with_running t) (with_values (powered_values rows s) unpowered))
            (e ∙ ap (λ (x : List ℤ). same_w (value_at x 46).v (pos 1)) v);
        shape = k.stays f.shape;
      }
