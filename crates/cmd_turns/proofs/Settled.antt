-- A turn, settled, is the step of document 01; and in direct mode it is the command's. Assumes nothing.
use Prim.Native.Nat.{ℕ}
use mathlib.Core.Path.{◌≡◌, refl}
use mathlib.Core.Bool.{Bool, true, false}
use mathlib.Core.List.{List}
use lib.Dec.{eqb, leb}
use lib.IntN.{ℤ}
use Rattle.words.specs.Word.{pick}
use Rattle.wire.specs.declared.Command.{Command}
use Rattle.status.specs.Status.{is_done, is_unknown}
use Rattle.status.specs.declared.Status.{Status}
use Rattle.status.specs.declared.Status.TheVariants.{Done}
use Rattle.jumping.specs.Jump.{jumps, address_of}
use Rattle.registers.specs.Registers.{next, next_address}
use Rattle.waiting.specs.Waiting.{waited, Waited, Refused, Passed, TimedOut, Holding}
use Rattle.rules.specs.Flow as flow
use Rattle.judge.specs.Judge.{judged, is_flow, is_reading}
use Rattle.rules.specs.Step as stepping
use Rattle.rules.specs.Steps as board
use Rattle.board.specs.declared.Registers.{Registers}
use Rattle.status.specs.declared.Status.TheVariants as status
use Rattle.rules.specs.Reading.{read}
use Rattle.rules.specs.Effects.{applied, Effect}
use Rattle.rules.specs.Effects as effect
use Rattle.rules.specs.Deciding.{decided, worked}
use Rattle.rules.specs.Direct.{Direct, direct, answered, answer, after_work, directed}
use Rattle.rules.specs.Direct as directing
use Rattle.rules.specs.Outcome.{Changed, changed, done, refused}
use Rattle.rules.specs.Obey.{after_direct}
use Rattle.reg_image.specs.With.{in_core, with_address}
use Rattle.cmd_turns.specs.declared.Left.TheVariants.{Stops}
use Rattle.cmd_turns.specs.Turn as turns
use Rattle.cmd_turns.specs.Turn.{Turn, turn, on, shut, dropped, flowed, through, turned}
use Rattle.cmd_turns.specs.Settled.{stepped, directly}

-- ---- two choices by one test
pub alike : {A B C : Type 0} (f : A → C) (g : B → C) (b : Bool) (x y : A) (u v : B) → (b ≡ true → f x ≡ g u) → (b ≡ false → f y ≡ g v)
    → f (pick b x y) ≡ g (pick b u v)
alike f g true x y u v p q = p refl
alike f g false x y u v p q = q refl

module _ (r : Registers) (m : List ℕ) where
  -- a step's outcome, over the registers whole
  abbrev whole : stepping.After → board.Turn
  whole y = board.turn_of y r

  abbrev by-flow : flow.Flow → board.Turn
  by-flow f = whole (stepping.after_flow f (board.state_of r m))

  -- ---- the commands that only a program has
  jump-same : (taken : Bool) (z : ℤ)
      → by-flow (flow.flow (flow.jumped taken z r.core) r.entries)
      ≡ stepped (turns.to (pick taken (address_of z) (next_address r.core.address)) Done r m)
  unfolding flow.jumped
  jump-same true z = refl
  jump-same false z = refl

  wait-same : (w : Waited) → by-flow (flow.flow (flow.after_wait w r.core) r.entries) ≡ stepped (turns.after_wait w r m)
  wait-same Refused = refl
  wait-same Passed = refl
  wait-same TimedOut = refl
  wait-same (Holding w) = refl

  flow-same : (c : Command) → by-flow (flow.flowed c r.core r.entries r.values) ≡ stepped (flowed c r m)
  unfolding flow.flowed flowed flow.called flow.returned flow.halted flow.waited_step
  flow-same c =
      let n = c.number in
      alike by-flow stepped (eqb n 21) _ _ _ _ (λ _. jump-same (jumps c.kind r.core.accumulator.v r.core.last r.core.flags) c.value.v)
      (λ _. alike by-flow stepped (eqb n 22) _ _ _ _ (λ _. jump-same true c.value.v)
      (λ _. alike by-flow stepped (eqb n 23) _ _ _ _ (λ _. alike by-flow stepped (leb 8 r.core.depth) _ _ _ _ (λ _. refl) (λ _. refl))
      (λ _. alike by-flow stepped (eqb n 24) _ _ _ _ (λ _. alike by-flow stepped (eqb r.core.depth 0) _ _ _ _ (λ _. refl) (λ _. refl))
      (λ _. alike by-flow stepped (eqb n 27) _ _ _ _ (λ _. wait-same (waited c.kind c.value r.core.accumulator r.values r.core.wait))
      (λ _. refl)))))

  -- ---- every command
  through_same : (c : Command) → whole (stepping.carried c (board.pins_of r) (board.state_of r m)) ≡ stepped (through c r m)
  unfolding stepping.carried through
  through_same c =
      alike whole stepped (is_flow c.number) _ _ _ _ (λ _. flow-same c)
      (λ _. alike whole stepped (is_reading c.number) _ _ _ _ (λ _. refl) (λ _. refl))

  shut-same : (s : Status) (wait : Bool)
      → whole (stepping.after s (stepping.only (next r.core) (board.state_of r m))) ≡ stepped (on s (pick wait (dropped r) r) m)
  shut-same s true = refl
  shut-same s false = refl

  pub step-turned : (c : Command) → whole (stepping.obeyed c (board.pins_of r) (board.state_of r m)) ≡ stepped (turned c r m)
  unfolding stepping.obeyed turned
  step-turned c =
      alike whole stepped (is_unknown (judged c)) _ _ _ _ (λ _. refl)
      (λ _. alike whole stepped (is_done (judged c)) _ _ _ _ (λ _. through_same c) (λ _. shut-same (judged c) (eqb c.number 27)))

  -- ---- direct mode
  abbrev changes : Direct → Changed
  changes d = after_direct d r

  -- a command that changes something, by its effect
  abbrev worked-out : Command → Turn → Changed
  worked-out c t =
      pick (is_done t.status)
      (changed (done t.status (answer c t.registers.core) (in_core (with_address r.core.address) t.registers)) t.store)
      (changed (refused t.status r) m)

  work-same : (c : Command) (e : Effect)
      → changes (after_work c (applied e r.core r.values r.outputs m)) ≡ worked-out c (turns.work (applied e r.core r.values r.outputs m) r)
  work-same c (effect.Refused s) = by (is_done s)
    where
      by : (b : Bool)
          → changes (pick b (direct (answered s (answer c r.core) r.core) r.values r.outputs m) (direct (directing.refused s r.core) r.values r.outputs m))
          ≡ pick b (changed (done s (answer c r.core) r) m) (changed (refused s r) m)
      by true = refl
      by false = refl
  work-same c (effect.Turn o w) = refl
  work-same c (effect.Move w) = refl
  work-same c (effect.Set p w) = refl
  work-same c (effect.Global p w) = refl
  work-same c (effect.Store p) = refl
  work-same c (effect.Restore p) = refl
  work-same c (effect.Output p b) = refl
  work-same c (effect.Numbers a x) = refl
  work-same c (effect.Last l) = refl
  work-same c (effect.Clear f) = refl

  done-same : (c : Command) → is_flow c.number ≡ false
      → changes (pick (is_reading c.number) (direct (answered Done (read c r.core r.values r.outputs r.digital r.analog) r.core) r.values r.outputs m) (directing.changed c r.core r.values r.outputs m))
      ≡ directly c r m (through c r m)
  unfolding through directing.changed worked
  done-same c h = by (is_reading c.number) refl
    where
      by : (b : Bool) → is_reading c.number ≡ b
          → changes (pick (is_reading c.number) (direct (answered Done (read c r.core r.values r.outputs r.digital r.analog) r.core) r.values r.outputs m) (directing.changed c r.core r.values r.outputs m))
          ≡ directly c r m (through c r m)
      by true e = rw (h, e)
      by false e = rw (h, e) (work-same c (decided c r.core r.values))

  -- a command that direct mode has, whatever its status by the judge
  module _ (c : Command) (h : is_flow c.number ≡ false) where
    judged_same : (s : Status)
        → changes (pick (is_done s) (pick (is_reading c.number) (direct (answered Done (read c r.core r.values r.outputs r.digital r.analog) r.core) r.values r.outputs m) (directing.changed c r.core r.values r.outputs m)) (direct (directing.refused s r.core) r.values r.outputs m))
        ≡ directly c r m (pick (is_unknown s) (turn r m s Stops) (pick (is_done s) (through c r m) (shut c s r m)))
    judged_same status.Done = done-same c h
    judged_same status.Stored = refl
    judged_same status.Checksum = refl
    judged_same status.Unknown = refl
    judged_same status.Kind = refl
    judged_same status.Value = refl
    judged_same status.Locked = refl
    judged_same status.Unavailable = refl

    pub direct-turned : changes (directed c r.core r.values r.outputs r.digital r.analog m) ≡ directly c r m (turned c r m)
    unfolding directed turned
    direct-turned = rw h (judged_same (judged c))
