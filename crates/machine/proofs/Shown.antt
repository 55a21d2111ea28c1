-- GGP 130 in direct mode, and the commands that only a program has. Assumes nothing.
use Prim.Native.Nat.{ℕ}
use mathlib.Core.Path.{◌≡◌, refl, sym, ap, ◌∙◌}
use mathlib.Core.Bool.{Bool, true, false, ◌||◌}
use mathlib.Core.List.{List}
use lib.Dec.{eqb, ltb}
use Rattle.words.specs.Word.{word, pick, of_bits}
use Rattle.words.specs.declared.Word.{Word}
use Rattle.words.proofs.Bools.{is_T}
use Rattle.wire.specs.declared.Command.{Command}
use Rattle.status.specs.Status.{is_done}
use Rattle.status.specs.declared.Status.{Status}
use Rattle.status.specs.declared.Status.TheVariants.{Done, Unavailable}
use Rattle.sheet.specs.Places.{global_in}
use Rattle.fields.specs.Fields as fields
use Rattle.judge.specs.Judge.{judged, is_flow, is_reading}
use Rattle.rules.specs.Reading.{read, global}
use Rattle.rules.specs.Direct.{directed}
use Rattle.rules.specs.Outcome.{Changed, changed, done}
use Rattle.rules.specs.Obey as obeying
use Rattle.board.specs.declared.Registers.{Registers}
use Rattle.reg_image.specs.Image.{registers_of}
use Rattle.cmd_turns.specs.declared.Obeyed.{Obeyed}
use Rattle.cmd_turns.specs.Obeys.{Obeys}
use Rattle.cmd_turns.specs.Obeyed as obeyed

-- an answer that leaves image and store
same : (l m : List ℕ) (x : Changed) (o : Obeyed) → x ≡ changed (done o.status o.value (registers_of l)) m → Obeys x l o l m
same l m x o e =
    record {
      status = ap (λ (y : Changed). y.obeyed.status) (sym e);
      value = ap (λ (y : Changed). y.obeyed.value) (sym e);
      makes = ap (λ (y : Changed). y.obeyed.registers) (sym e);
      store = ap (λ (y : Changed). y.store) (sym e);
      stays = λ t. t;
    }

pub flow-refused : (l : List ℕ) (d c : Command) → d ≡ c → is_flow d.number ≡ true → (m : List ℕ) (o : Obeyed) → o ≡ obeyed.refused Unavailable → Obeys (obeying.direct c (registers_of l) m) l o l m
unfolding obeying.direct directed
flow-refused l d c q f m o e =
    let g : is_flow c.number ≡ true = ap (λ (x : Command). is_flow x.number) (sym q) ∙ f in
    same l m _ o (rw (g, e))

-- ---- GGP 130
abbrev shows : Command → Command
shows c = record { number = 10; kind = 130; motor = c.motor; value = c.value }

module _ (l : List ℕ) (c : Command) (n : c.number ≡ 10) (k : c.kind ≡ 130) (m : List ℕ) (s : Status) (j : s ≡ fields.ggp c) where
  R : Registers
  R = registers_of l

  -- the command by its fields
  by-fields : c ≡ shows c
  by-fields = ap (λ (a : ℕ). record { number = a; kind = c.kind; motor = c.motor; value = c.value }) n ∙ ap (λ (b : ℕ). record { number = 10; kind = b; motor = c.motor; value = c.value }) k

  judge-is : fields.ggp (shows c) ≡ s
  judge-is = ap fields.ggp (sym by-fields) ∙ sym j

  pub not-shown : is_done s ≡ false → (o : Obeyed) → o ≡ obeyed.refused s → Obeys (obeying.direct c (registers_of l) m) l o l m
  unfolding obeying.direct directed judged is_flow
  not-shown d o e = same l m _ o (ap (λ (x : Command). obeying.direct x (registers_of l) m) by-fields ∙ rw (judge-is, d, e))

  -- in bank 2 there is no 130, so that the bank is 0
  bank : is_done (fields.ggp (shows c)) ≡ true → eqb c.motor 2 ≡ false
  unfolding fields.has
  bank d = by (eqb c.motor 0) (eqb c.motor 2) d
    where
      by : (x b : Bool) → is_done (fields.by_bytes (x || b) (pick b false (ltb (global_in 130) 6)) true) ≡ true → b ≡ false
      by true true q = absurd (is_T false q)
      by false true q = absurd (is_T false q)
      by x false q = refl

  pub shown : is_done s ≡ true → (a : ℕ) → a ≡ (registers_of l).core.address → (w : Word) → w ≡ word (of_bits a)
      → Obeys (obeying.direct c (registers_of l) m) l (record { status = Done; value = w }) l m
  unfolding obeying.direct directed judged is_flow is_reading read global
  shown d a p w e =
      same l m _ (record { status = Done; value = w })
      (ap (λ (x : Command). obeying.direct x (registers_of l) m) by-fields
      ∙ rw (judge-is, d, bank (ap is_done judge-is ∙ d), e, p))
