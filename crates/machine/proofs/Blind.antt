-- Direct mode makes one step of a frame's record, at address 0: nothing but GGP 130 sees that address. Assumes nothing.
use Prim.Native.Nat.{ℕ}
use mathlib.Core.Path.{◌≡◌, refl, sym, ap, ◌∙◌}
use mathlib.Core.Bool.{Bool, true, false, ◌&&◌}
use mathlib.Core.List.{List}
use lib.Dec.{eqb}
use Rattle.words.specs.Word.{pick}
use Rattle.words.specs.declared.Word.{Word}
use Rattle.words.proofs.Bools.{is_T}
use Rattle.wire.specs.declared.Command.{Command}
use Rattle.status.specs.Status.{is_done, is_unknown}
use Rattle.status.specs.declared.Status.{Status}
use Rattle.status.specs.declared.Status.TheVariants as status
use Rattle.judge.specs.Judge.{judged, is_flow, is_reading}
use Rattle.rules.specs.Reading.{read, global, port, number}
use Rattle.values.specs.Values.{value_at}
use Rattle.sheet.specs.Places.{axis_place}
use Rattle.settings.specs.Settings.{bank_place}
use Rattle.rules.specs.Effects.{applied, Effect}
use Rattle.rules.specs.Effects as effect
use Rattle.rules.specs.Deciding.{decided, worked}
use Rattle.rules.specs.Direct.{answer}
use Rattle.rules.specs.Outcome.{Changed, changed, done, refused}
use Rattle.rules.specs.Obey as obey
use Rattle.board.specs.declared.Registers.{Registers}
use Rattle.reg_image.specs.With.{in_core, with_address, with_accumulator}
use Rattle.registers.specs.declared.Core.{Core}
use Rattle.wire.specs.Frame.{command_at}
use Rattle.reg_image.specs.Image.{registers_of}
use Rattle.cmd_turns.specs.declared.Left.{Left}
use Rattle.cmd_turns.specs.declared.Left.TheVariants.{Goes, Stops}
use Rattle.machine.specs.Applied.{Kept}
use Rattle.machine.specs.Steps.{Walk, is_going, step_turn, going}
use Rattle.cmd_turns.specs.Turn.{Turn, turn, shut, work, through, turned}
use Rattle.cmd_turns.specs.Deed.{seen}
use Rattle.cmd_turns.specs.Settled.{directly}
use Rattle.cmd_turns.proofs.Settled.{direct-turned}

abbrev walk : Turn → Walk
walk t = record { turn = t; unused = 0 }

abbrev pub at_zero : Registers → Registers
at_zero r = in_core (with_address 0) r

-- no command of the program's flow is a WAIT that is refused
no-wait : (n : ℕ) → is_flow n ≡ false → eqb n 27 ≡ false
unfolding is_flow
no-wait n h = by (eqb n 21) (eqb n 22) (eqb n 23) (eqb n 24) (eqb n 27) h
  where
    by : (a b c d e : Bool) → pick a true (pick b true (pick c true (pick d true (pick e true (eqb n 28))))) ≡ false → e ≡ false
    by true b c d e q = absurd (is_T false (sym q))
    by false true c d e q = absurd (is_T false (sym q))
    by false false true d e q = absurd (is_T false (sym q))
    by false false false true e q = absurd (is_T false (sym q))
    by false false false false true q = absurd (is_T false (sym q))
    by false false false false false q = refl

module _ (r : Registers) (m : List ℕ) (c : Command) (h : is_flow c.number ≡ false) where
  -- ---- what is read
  abbrev shown : Bool → Bool → ℕ → Word
  shown a b n =
      pick (eqb c.number 6) (value_at r.values (axis_place c.kind))
      (pick a
      (pick (eqb c.motor 2) (value_at r.values (bank_place c.motor c.kind))
      (pick (eqb c.kind 128) (pick r.core.running (number 1) (number 0)) (pick b (number n) (value_at r.values (bank_place c.motor c.kind)))))
      (port c.motor c.kind r.outputs r.digital r.analog))

  blind-read : eqb c.number 10 && eqb c.kind 130 ≡ false
      → read c (at_zero r).core r.values r.outputs r.digital r.analog ≡ read c r.core r.values r.outputs r.digital r.analog
  unfolding read global
  blind-read q = by (eqb c.number 10) (eqb c.kind 130) q
    where
      by : (a b : Bool) → a && b ≡ false → shown a b 0 ≡ shown a b r.core.address
      by true true q = absurd (is_T false (sym q))
      by true false q = refl
      by false b q = refl

  -- ---- a command that works, in the board's mode: with its address back
  abbrev worked-out : Turn → Changed
  worked-out t =
      pick (is_done t.status) (changed (done t.status (answer c t.registers.core) (in_core (with_address r.core.address) t.registers)) t.store) (changed (refused t.status r) m)

  blind-work : (e : Effect)
      → worked-out (work (applied e (at_zero r).core r.values r.outputs m) (at_zero r)) ≡ worked-out (work (applied e r.core r.values r.outputs m) r)
  blind-work (effect.Refused s) = refl
  blind-work (effect.Turn o w) = refl
  blind-work (effect.Move w) = refl
  blind-work (effect.Set p w) = refl
  blind-work (effect.Global p w) = refl
  blind-work (effect.Store p) = refl
  blind-work (effect.Restore p) = refl
  blind-work (effect.Output p b) = refl
  blind-work (effect.Numbers a x) = refl
  blind-work (effect.Last l) = refl
  blind-work (effect.Clear f) = refl

  blind-through : eqb c.number 10 && eqb c.kind 130 ≡ false → directly c r m (through c (at_zero r) m) ≡ directly c r m (through c r m)
  unfolding through worked
  blind-through q = by (is_reading c.number) refl
    where
      by : (b : Bool) → is_reading c.number ≡ b → directly c r m (through c (at_zero r) m) ≡ directly c r m (through c r m)
      by true e = rw (h, e) (ap (λ (w : Word). changed (done status.Done w r) m) (blind-read q))
      by false e = rw (h, e) (blind-work (decided c r.core r.values))

  pub blind : eqb c.number 10 && eqb c.kind 130 ≡ false → directly c r m (turned c (at_zero r) m) ≡ directly c r m (turned c r m)
  unfolding turned
  blind q = by (judged c)
    where
      by : (s : Status)
          → directly c r m (pick (is_unknown s) (turn (at_zero r) m s Stops) (pick (is_done s) (through c (at_zero r) m) (shut c s (at_zero r) m)))
          ≡ directly c r m (pick (is_unknown s) (turn r m s Stops) (pick (is_done s) (through c r m) (shut c s r m)))
      by status.Done = blind-through q
      by status.Stored = refl
      by status.Checksum = refl
      by status.Unknown = refl
      by status.Kind = refl
      by status.Value = refl
      by status.Locked = refl
      by status.Unavailable = refl

  -- ---- a command that is refused, or only reads, leaves all but what is carried
  abbrev Still : Turn → Type 0
  Still t = ((w : Word) (n : ℕ) → seen w n t.registers ≡ seen w n r) × (t.store ≡ m)

  still-work : (e : Effect) → is_done (work (applied e r.core r.values r.outputs m) r).status ≡ false → Still (work (applied e r.core r.values r.outputs m) r)
  still-work (effect.Refused s) q = (λ w n. refl, refl)
  still-work (effect.Turn o w) q = absurd (is_T false (sym q))
  still-work (effect.Move w) q = absurd (is_T false (sym q))
  still-work (effect.Set p w) q = absurd (is_T false (sym q))
  still-work (effect.Global p w) q = absurd (is_T false (sym q))
  still-work (effect.Store p) q = absurd (is_T false (sym q))
  still-work (effect.Restore p) q = absurd (is_T false (sym q))
  still-work (effect.Output p b) q = absurd (is_T false (sym q))
  still-work (effect.Numbers a x) q = absurd (is_T false (sym q))
  still-work (effect.Last l) q = absurd (is_T false (sym q))
  still-work (effect.Clear f) q = absurd (is_T false (sym q))

  -- refused by its bytes, or by the registers; or done by a command that reads
  pub still : is_done (turned c r m).status ≡ false → Still (turned c r m)
  unfolding turned through worked
  still = by (judged c)
    where
      shut-still : (s : Status) → Still (shut c s r m)
      shut-still s = rw (no-wait c.number h) (λ w n. refl, refl)

      reading : (b : Bool) → is_reading c.number ≡ b → is_done (through c r m).status ≡ false → Still (through c r m)
      reading true e = rw (h, e) (λ q. absurd (is_T false (sym q)))
      reading false e = rw (h, e) (still-work (decided c r.core r.values))

      by : (s : Status) → is_done (pick (is_unknown s) (turn r m s Stops) (pick (is_done s) (through c r m) (shut c s r m))).status ≡ false
          → Still (pick (is_unknown s) (turn r m s Stops) (pick (is_done s) (through c r m) (shut c s r m)))
      by status.Done q = reading (is_reading c.number) refl q
      by status.Stored q = shut-still status.Stored
      by status.Checksum q = shut-still status.Checksum
      by status.Unknown q = (λ w n. refl, refl)
      by status.Kind q = shut-still status.Kind
      by status.Value q = shut-still status.Value
      by status.Locked q = shut-still status.Locked
      by status.Unavailable q = shut-still status.Unavailable

  pub still-reading : is_reading c.number ≡ true → is_done (turned c r m).status ≡ true → Still (turned c r m)
  unfolding turned through
  still-reading e = by (judged c)
    where
      by : (s : Status) → is_done (pick (is_unknown s) (turn r m s Stops) (pick (is_done s) (through c r m) (shut c s r m))).status ≡ true
          → Still (pick (is_unknown s) (turn r m s Stops) (pick (is_done s) (through c r m) (shut c s r m)))
      by status.Done q = rw (h, e) (λ w n. refl, refl)
      by status.Stored q = absurd (is_T false q)
      by status.Checksum q = absurd (is_T false q)
      by status.Unknown q = absurd (is_T false q)
      by status.Kind q = absurd (is_T false q)
      by status.Value q = absurd (is_T false q)
      by status.Locked q = absurd (is_T false q)
      by status.Unavailable q = absurd (is_T false q)

  -- ---- the command of direct mode, from the turn at address 0
  pub direct_is : eqb c.number 10 && eqb c.kind 130 ≡ false → obey.direct c r m ≡ directly c r m (turned c (at_zero r) m)
  unfolding obey.direct
  direct_is q = direct-turned r m c h ∙ sym (blind q)

as-it-is : (r : Registers) (w : Word) (n : ℕ) → w ≡ r.core.accumulator → n ≡ r.core.address → seen w n r ≡ r
as-it-is r w n p q = rw (p, q)

-- ---- one step of a frame, and what it comes to
pub one-step : (frame : List ℕ) (r : Registers) (m : List ℕ) → (going frame 1 1 1 (turn (at_zero r) m status.Done Goes)).turn ≡ turned (command_at frame 1) (at_zero r) m
unfolding going step_turn
one-step frame r m = by (is_going (turned (command_at frame 1) (at_zero r) m).left)
  where
    by : (b : Bool)
        → (pick b (walk (turned (command_at frame 1) (at_zero r) m)) (walk (turned (command_at frame 1) (at_zero r) m))).turn ≡ turned (command_at frame 1) (at_zero r) m
    by true = refl
    by false = refl

module _ (l k : List ℕ) (kept : Kept l k) (m n : List ℕ) (c : Command) (h : is_flow c.number ≡ false) (q : eqb c.number 10 && eqb c.kind 130 ≡ false)
    (a : Word) (p : ℕ) (s : Status) (f : Left) (e : turn (seen a p (registers_of k)) n s f ≡ turned c (at_zero (registers_of l)) m) where
  abbrev R : Registers
  R = registers_of l

  abbrev K : Registers
  K = registers_of k

  abbrev T : Turn
  T = turn (seen a p K) n s f

  the : obey.direct c R m ≡ directly c R m T
  the = direct_is R m c h q ∙ ap (directly c R m) (sym e)

  as-was : Still (at_zero R) m c h (turned c (at_zero R) m) → (K ≡ R) × (n ≡ m)
  as-was t = (
    sym (as-it-is K R.core.accumulator R.core.address (sym kept.accumulator) (sym kept.address))
        ∙ ap (λ (x : Turn). seen R.core.accumulator R.core.address x.registers) e
        ∙ t.0 R.core.accumulator R.core.address,
    ap (λ (x : Turn). x.store) e ∙ t.1,
  )

  pub when-refused : is_done s ≡ false → ((K ≡ R) × (n ≡ m)) × (obey.direct c R m ≡ changed (refused s R) m)
  when-refused d =
      (as-was (still (at_zero R) m c h (ap (λ (x : Turn). is_done x.status) (sym e) ∙ d)), the ∙ rw d)

  pub when-read : is_done s ≡ true → is_reading c.number ≡ true → ((K ≡ R) × (n ≡ m)) × (obey.direct c R m ≡ changed (done s a R) n)
  when-read d g =
      (as-was (still-reading (at_zero R) m c h g (ap (λ (x : Turn). is_done x.status) (sym e) ∙ d)), the ∙ rw (d, g))

  pub when-worked : is_done s ≡ true → is_reading c.number ≡ false
      → obey.direct c R m ≡ changed (done s (answer c (seen a p K).core) (in_core (with_accumulator a) K)) n
  when-worked d g = the ∙ rw (d, g) (ap (λ (i : ℕ). changed (done s (answer c (seen a p K).core) (in_core (λ (x : Core). with_address i (with_accumulator a x)) K)) n) (sym kept.address))
