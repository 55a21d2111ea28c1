-- Registers in range stay so under every command. Assumes nothing.
use Prim.Native.Nat.{ℕ, ◌+◌, ◌≤◌}
use native.Mathlib.Omega.{arith}
use mathlib.Core.Path.{◌≡◌, ◌∙◌}
use mathlib.Core.Bool.{Bool, true, false}
use mathlib.Core.List.{List}
use borrow.Author.Tests.{leb-false, le-leb}
use lib.Dec.{leb}
use lib.ListN.{replicate}
use mir.Syntax.{w32}
use mir.Val.{SFits}
use Rattle.words.specs.Laws.{AllBytes}
use Rattle.words.proofs.Bools.{is_true}
use Rattle.wire.specs.declared.Command.{Command}
use Rattle.ranges.specs.Range.{entries_in_range}
use Rattle.registers.specs.Registers.{with_running}
use Rattle.registers.specs.Range.{core_in_range, download_in_range}
use Rattle.registers.specs.Laws as reg-laws
use Rattle.registers.proofs.Kept as registers
use Rattle.registers.specs.declared.Core.{Core}
use Rattle.registers.specs.declared.Download.{Download}
use Rattle.values.proofs.Rules as values
use Rattle.jumping.specs.Jump.{address_of}
use Rattle.jumping.proofs.Addresses.{address-in}
use Rattle.rules.specs.Step.{State, step}
use Rattle.keeping.specs.Sound.{Sound}
use Rattle.keeping.specs.Laws as keep-laws
use Rattle.keeping.proofs.Cores as cores
use Rattle.keeping.proofs.Rules as keeping
use Rattle.resetting.specs.Laws as reset-laws
use Rattle.resetting.proofs.Rules as resetting
use Rattle.rules.specs.Beginning.{afresh}
use Rattle.rules.specs.Control as control
use Rattle.rules.proofs.ControlCases.{by-command}
use Rattle.rules.specs.Direct.{directed}
use Rattle.board.specs.Registers.{powered}
use Rattle.rules.specs.Steps.{state_of, pins_of, with_state, step_once}
use Rattle.board.specs.declared.Registers.{Registers}
use Rattle.rules.specs.Obey.{direct, obeyed}
use Rattle.rules.proofs.ObeyCases.{by_mode}
use Rattle.rules.specs.Controlling.{with_place, placed, defaults, obeyed_control}
use Rattle.rules.proofs.ControllingCases as controlling
use Rattle.rules.specs.Storing.{with_download, stored}
use Rattle.rules.proofs.StoringCases.{by-stored}
use Rattle.promises.specs.Commands.{InRange}
use Rattle.promises.proofs.Rules.{parts, whole, powered_in_range}

-- ---- between registers and the state of a step
pub sound : (r : Registers) (m : List ℕ) → InRange r → Sound (state_of r m)
sound r m h =
    let p = parts r h.all in
    record { core = p.core; entries = p.entries; values = p.values; size = h.size; outputs = p.outputs }

pub with-state : (r : Registers) (x : State) → InRange r → Sound x → InRange (with_state x r)
with-state r x h s =
    let p = parts r h.all in
    record {
      all =
          whole (with_state x r)
          (record {
            core = s.core;
            download = p.download;
            entries = s.entries;
            outputs = s.outputs;
            digital = p.digital;
            analog = p.analog;
            values = s.values;
          });
      size = s.size;
    }

-- ---- 128, 129, 131, 132 and 133
record Placed (o : control.Outcome) : Type 0 where
  core : core_in_range o.core ≡ true
  download : download_in_range o.download ≡ true
  entries : entries_in_range o.entries ≡ true

module _ (c : Command) (core : Core) (d : Download) (e : List ℕ)
    (h : core_in_range core ≡ true) (g : download_in_range d ≡ true) (f : entries_in_range e ≡ true) where
  no-entries : entries_in_range (replicate 8 0) ≡ true
  no-entries = let l : reg-laws.Laws = registers.laws in is_true (entries_in_range (replicate 8 0)) l.powered_entries

  afresh-core : (a : ℕ) (b : Bool) → a ≤ 1024 → core_in_range (with_running b (afresh a core).core) ≡ true
  afresh-core a b l =
      let p = cores.parts core h in
      cores.whole (with_running b (afresh a core).core) (record { address = l; depth = omega arith; flags = p.flags })

  controlled-kept : Placed (control.controlled c core d e)
  unfolding core_in_range
  controlled-kept =
      by-command c core d e Placed
      (record {
        stop = record { core = h; download = g; entries = f };
        go = record { core = h; download = g; entries = f };
        go_from = λ _ _. record { core = afresh-core (address_of c.value.v) true (address-in c.value.v); download = g; entries = no-entries };
        reset = record { core = afresh-core 0 false (omega arith); download = g; entries = no-entries };
        start = record { core = h; download = le-leb (address_of c.value.v) 1024 (address-in c.value.v); entries = f };
        end = record { core = h; download = g; entries = f };
        other = record { core = h; download = g; entries = f };
      })

module _ (c : Command) (r : Registers) (h : InRange r) where
  placed-kept : InRange (placed c r)
  unfolding placed
  placed-kept =
      let p = parts r h.all in
      let k = controlled-kept c r.core r.download r.entries p.core p.download p.entries in
      record {
        all =
            whole (with_place (control.controlled c r.core r.download r.entries) r)
            (record {
              core = k.core;
              download = k.download;
              entries = k.entries;
              outputs = p.outputs;
              digital = p.digital;
              analog = p.analog;
              values = p.values;
            });
        size = h.size;
      }

  -- ---- 137
  defaults-kept : (m : List ℕ) → InRange (defaults r m).registers
  unfolding defaults core_in_range
  defaults-kept m =
      let p = parts r h.all in
      let l : reset-laws.Laws = resetting.laws in
      record {
        all =
            whole (defaults r m).registers
            (record {
              core = p.core;
              download = p.download;
              entries = p.entries;
              outputs = p.outputs;
              digital = p.digital;
              analog = p.analog;
              values = l.values-in-range r.values h.size p.values;
            });
        size = l.values_length r.values ∙ h.size;
      }

  -- ---- 130 and 255
  stepped_kept : (p m : List ℕ) → AllBytes p → InRange (step_once p r m).registers
  unfolding step_once
  stepped_kept p m b =
      let l : keep-laws.Laws = keeping.laws in
      with-state r (step p (pins_of r) (state_of r m)).state h (l.step_sound p (pins_of r) (state_of r m) b (sound r m h))

  powered-kept : (m : List ℕ) → InRange (powered m)
  unfolding powered
  powered-kept m = record { all = powered_in_range m; size = values.powered_length m }

  control-kept : (p m : List ℕ) → AllBytes p → InRange (obeyed_control c p r m).obeyed.registers
  control-kept p m b =
      controlling.by-judge c p r m (λ o. InRange o.obeyed.registers)
      (λ _. controlling.by-command c p r m (λ o. InRange o.registers)
      (record { step = stepped_kept p m b; defaults = defaults-kept m; up = powered-kept m; other = placed-kept }))
      (λ _. h)

  -- ---- download
  raised : leb 1024 r.download.address ≡ false
      → InRange (with_download (record { on = r.download.on; address = r.download.address + 1 }) r)
  raised e =
      let p = parts r h.all in
      let l = leb-false 1024 r.download.address e in
      record {
        all =
            whole (with_download (record { on = r.download.on; address = r.download.address + 1 }) r)
            (record {
              core = p.core;
              download = le-leb (r.download.address + 1) 1024 (omega (arith, l));
              entries = p.entries;
              outputs = p.outputs;
              digital = p.digital;
              analog = p.analog;
              values = p.values;
            });
        size = h.size;
      }

  stored-kept : (p : List ℕ) → InRange (stored c r p).obeyed.registers
  stored-kept p = by-stored c r p (λ o. InRange o.obeyed.registers) (λ _. h) raised

  -- ---- direct mode
  direct-kept : (m : List ℕ) → SFits w32 c.value.v → InRange (direct c r m).obeyed.registers
  unfolding direct
  direct-kept m f =
      let l : keep-laws.Laws = keeping.laws in
      let d = directed c r.core r.values r.outputs r.digital r.analog m in
      with-state r (keep-laws.left d r.entries) h (l.direct_sound c r.digital r.analog (state_of r m) f (sound r m h))

  pub obeyed-kept : (p m : List ℕ) → SFits w32 c.value.v → AllBytes p → InRange (obeyed c r p m).registers
  obeyed-kept p m f b =
      by_mode c r p m (λ o. InRange o.registers)
      (record { control = control-kept p m b; storing = λ _. stored-kept p; direct = direct-kept m f })
