-- What a command answers is a word. Assumes nothing.
use Prim.Native.Nat.{ℕ, zero, suc, ◌+◌, ◌*◌, ◌-◌, ◌≤◌, ◌<◌}
use native.Mathlib.Omega.{arith}
use mathlib.Core.Path.{◌≡◌, refl}
use mathlib.Core.Bool.{Bool, true, false}
use mathlib.Core.List.{List, [], ◌∷◌, ◌++◌, map}
use borrow.Author.Tests.{eqb-true, ltb-true, ltb-false}
use lib.Dec.{eqb, ltb, leb}
use lib.Bits.{bit_and, bit_or, bit_xor}
use lib.IntN.{ℤ, pos, negsuc, ◌+ℤ◌, ◌-ℤ◌, ◌*ℤ◌}
use lib.ListN.{length, get_or}
use mir.Syntax.{w32}
use mir.Val.{SFits, sel}
use lib.Signed.{quot_z}
use Rattle.words.specs.Word.{bits_of, of_bits}
use Rattle.words.specs.Bytes.{word_of, four_at}
use Rattle.words.specs.declared.Four.{Four}
use Rattle.words.specs.declared.Word.{Word}
use Rattle.words.proofs.Bools.{picked}
use Rattle.wire.specs.Frame.{command_at}
use Rattle.wire.specs.declared.Command.{Command}
use Rattle.store.specs.Store.{record_at}
use Rattle.wrapping.proofs.Wraps.{wrap-word}
use Rattle.dividing.specs.Divide.{Answer, is_zero}
use Rattle.dividing.proofs.Divisor.{rem-word}
use Rattle.calculating.specs.Calculate.{calculated}
use Rattle.sheet.specs.Places.{axis_place}
use Rattle.settings.specs.Settings.{bank_place}
use Rattle.values.specs.Values.{value_at}
use Rattle.jumping.specs.Jump.{address_of}
use Rattle.status.specs.Status.{is_done}
use Rattle.rules.specs.Reading.{number, bit, global, digital_at, analog_at, output_at, port, read}
use Rattle.rules.specs.Effects.{applied, Effect}
use Rattle.rules.specs.Numbers.{into_accumulator, calc, calcx}
use Rattle.judge.specs.Judge.{judged, is_flow, is_reading}
use Rattle.rules.specs.Deciding.{decided_by, worked}
use Rattle.rules.specs.Direct.{Direct, directed}
use Rattle.rules.specs.Direct as directing
use Rattle.rules.specs.Control as control
use Rattle.board.specs.declared.Registers.{Registers}
use Rattle.rules.proofs.StoringCases.{by-stored}
use Rattle.rules.proofs.ControllingCases.{by-judge}
use Rattle.rules.specs.Obey.{direct, obeyed}
use Rattle.rules.proofs.ObeyCases.{by_mode}
use Rattle.reg_image.specs.Image.{registers_of, words, part}

abbrev IsWord : ℤ → Type 0
IsWord z = SFits w32 z

abbrev Fits : Word → Type 0
Fits w = IsWord w.v

zero_word : IsWord (pos 0)
zero_word = record { sfits = omega arith }

-- ---- 32 bits are a word, and so is what has more of them
bits-word : (n : ℕ) → IsWord (of_bits n)
bits-word n = by (ltb n 2147483648) (ltb-true n 2147483648) (ltb-false n 2147483648)
  where
    by : (b : Bool) → (b ≡ true → n < 2147483648) → (b ≡ false → 2147483648 ≤ n) → IsWord (sel b (pos n) (negsuc (4294967296 - suc n)))
    by true y k = record { sfits = y refl }
    by false y k = let h = k refl in record { sfits = omega (arith, h) }

four-word : (f : Four) → IsWord (word_of f)
unfolding word_of
four-word f = bits-word (f.b3 * 16777216 + f.b2 * 65536 + f.b1 * 256 + f.b0)

command-word : (s : List ℕ) (at : ℕ) → Fits (command_at s at).value
command-word s at = four-word (four_at s (at + 3))

record-word : (p : List ℕ) (a : ℕ) → Fits (record_at p a).value
unfolding record_at
record-word p a = picked (λ (c : Command). Fits c.value) (leb (a * 7 + 7) (length p)) _ _ (λ _. command-word p (a * 7)) zero_word

head-word : (c : Command) → Fits (control.head_of c)
head-word c = bits-word (c.number * 65536 + c.kind * 256 + c.motor)

-- ---- the numbers of an image
list-word : (l : List ℕ) (i : ℕ) → IsWord (get_or (map of_bits l) i (pos 0))
list-word [] i = zero_word
list-word (n ∷ l) zero = bits-word n
list-word (n ∷ l) (suc i) = list-word l i

lists-word : (l k : List ℕ) (i : ℕ) → IsWord (get_or (map of_bits l ++ map of_bits k) i (pos 0))
lists-word [] k i = list-word k i
lists-word (n ∷ l) k zero = bits-word n
lists-word (n ∷ l) k (suc i) = lists-word l k i

record Words (r : Registers) : Type 0 where
  accumulator : Fits r.core.accumulator
  x : Fits r.core.x
  values : (i : ℕ) → IsWord (get_or r.values i (pos 0))
  analog : (i : ℕ) → IsWord (get_or r.analog i (pos 0))

image-words : (l : List ℕ) → Words (registers_of l)
unfolding registers_of words
image-words l =
    record {
      accumulator = bits-word (get_or l 0 0);
      x = bits-word (get_or l 1 0);
      values = lists-word (part l 94 43) (part l 34 60);
      analog = list-word (part l 22 3);
    }

-- ---- CALC and CALCX
calculated-word : (kind : ℕ) (a b o : ℤ) → IsWord a → IsWord (calculated kind a b o).value
unfolding calculated
calculated-word kind a b o f =
    let P : Answer → Type 0 = λ x. IsWord x.value in
    picked P (eqb kind 0) _ _ (λ _. wrap-word (a +ℤ b))
    (picked P (eqb kind 1) _ _ (λ _. wrap-word (a -ℤ b))
    (picked P (eqb kind 2) _ _ (λ _. wrap-word (a *ℤ b))
    (picked P (eqb kind 3) _ _ (λ _. picked P (is_zero b) _ _ (λ _. zero_word) (wrap-word (quot_z a b)))
    (picked P (eqb kind 4) _ _ (λ _. picked P (is_zero b) _ _ (λ _. zero_word) (rem-word a b f))
    (picked P (eqb kind 5) _ _ (λ _. bits-word (bit_and (bits_of a) (bits_of b)))
    (picked P (eqb kind 6) _ _ (λ _. bits-word (bit_or (bits_of a) (bits_of b)))
    (picked P (eqb kind 7) _ _ (λ _. bits-word (bit_xor (bits_of a) (bits_of b))) (bits-word (4294967295 - bits_of o)))))))))

module _ (r : Registers) (w : Words r) (m : List ℕ) where
  abbrev Left : Effect → Type 0
  Left e = Fits (applied e r.core r.values r.outputs m).core.accumulator

  into-word : (a : Answer) → IsWord a.value → (x : Word) → Left (into_accumulator a x)
  unfolding into_accumulator
  into-word a f x = picked Left (eqb a.status 100) _ _ (λ _. f) w.accumulator

  calc-word : (kind : ℕ) (value : Word) → Fits value → Left (calc kind value r.core.accumulator r.core.x)
  unfolding calc
  calc-word kind value f =
      picked Left (eqb kind 9) _ _ (λ _. f)
      (let a = r.core.accumulator.v in
      into-word (calculated kind a value.v a) (calculated-word kind a value.v a w.accumulator) r.core.x)

  calcx-word : (kind : ℕ) → Left (calcx kind r.core.accumulator r.core.x)
  unfolding calcx
  calcx-word kind =
      picked Left (eqb kind 9) _ _ (λ _. w.accumulator)
      (picked Left (eqb kind 10) _ _ (λ _. w.x)
      (let a = r.core.accumulator.v in
      let b = r.core.x.v in
      into-word (calculated kind a b b) (calculated-word kind a b b w.accumulator) r.core.x))

  -- ---- GAP, GGP and GIO
  value-word : (i : ℕ) → Fits (value_at r.values i)
  value-word i = picked Fits (ltb i 103) _ _ (λ _. w.values i) zero_word

  running-word : Fits (bit r.core.running)
  running-word = picked Fits r.core.running _ _ (λ _. bits-word 1) (bits-word 0)

  global-word : (bank n : ℕ) → Fits (global bank n r.core r.values)
  unfolding global
  global-word bank n =
      picked Fits (eqb bank 2) _ _ (λ _. value-word (bank_place bank n))
      (picked Fits (eqb n 128) _ _ (λ _. running-word)
      (picked Fits (eqb n 130) _ _ (λ _. bits-word r.core.address) (value-word (bank_place bank n))))

  port-word : (bank p : ℕ) → Fits (port bank p r.outputs r.digital r.analog)
  unfolding port digital_at analog_at output_at
  port-word bank p =
      picked Fits (eqb bank 0) _ _ (λ _. picked Fits (ltb p 2) _ _ (λ _. bits-word (get_or r.digital p 0)) (bits-word 0))
      (picked Fits (eqb bank 1) _ _ (λ _. picked Fits (ltb p 3) _ _ (λ _. w.analog p) (bits-word 0))
      (picked Fits (ltb p 4) _ _ (λ _. bits-word (get_or r.outputs p 0)) (bits-word 0)))

  read_word : (c : Command) → Fits (read c r.core r.values r.outputs r.digital r.analog)
  unfolding read
  read_word c =
      picked Fits (eqb c.number 6) _ _ (λ _. value-word (axis_place c.kind))
      (picked Fits (eqb c.number 10) _ _ (λ _. global-word c.motor c.kind) (port-word c.motor c.kind))

  -- ---- every command, by its mode
  module _ (c : Command) (f : Fits c.value) (p : List ℕ) where
    work-19 : c.number ≡ 19 → Fits (worked c r.core r.values r.outputs m).core.accumulator
    unfolding worked decided_by
    work-19 q = rw q (calc-word c.kind c.value f)

    work-33 : c.number ≡ 33 → Fits (worked c r.core r.values r.outputs m).core.accumulator
    unfolding worked decided_by
    work-33 q = rw q (calcx-word c.kind)

    direct_word : Fits (directed c r.core r.values r.outputs r.digital r.analog m).value
    unfolding directed directing.changed
    direct_word =
        let P : Direct → Type 0 = λ d. Fits d.value in
        let n = c.number in
        picked P (is_flow n) _ _ (λ _. zero_word)
        (picked P (is_done (judged c)) _ _
        (λ _. picked P (is_reading n) _ _ (λ _. read_word c)
        (picked P (is_done (worked c r.core r.values r.outputs m).status) _ _
        (λ _. picked Fits (eqb n 19) _ _ (λ e. work-19 (eqb-true n 19 e)) (picked Fits (eqb n 33) _ _ (λ e. work-33 (eqb-true n 33 e)) f))
        zero_word))
        zero_word)

    shown-word : Fits (control.answer c r.core.running p)
    unfolding control.answer control.shown
    shown-word =
        let a = address_of c.value.v in
        picked Fits (eqb c.number 134) _ _ (λ _. picked Fits (eqb c.kind 0) _ _ (λ _. record-word p a) (head-word (record_at p a)))
        (picked Fits (eqb c.number 135) _ _ (λ _. running-word) f)

    obeyed-word : Fits (obeyed c r p m).value
    unfolding direct
    obeyed-word =
        by_mode c r p m (λ o. Fits o.value)
        (record {
          control = by-judge c p r m (λ o. Fits o.obeyed.value) (λ _. shown-word) (λ _. zero_word);
          storing = λ _. by-stored c r p (λ o. Fits o.obeyed.value) (λ _. zero_word) (λ _. f);
          direct = direct_word;
        })

-- ---- a command that came in a frame, over an image
pub answer_word : (s : List ℕ) (at : ℕ) (l p m : List ℕ) → SFits w32 (obeyed (command_at s at) (registers_of l) p m).value.v
answer_word s at l p m = obeyed-word (registers_of l) (image-words l) m (command_at s at) (command-word s at) p
