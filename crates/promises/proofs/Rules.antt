-- The laws of the events. Assumes nothing.
use Prim.Native.Nat.{ℕ, ◌<◌}
use borrow.Author.Tests.{eq-eqb}
use mathlib.Core.Path.{◌≡◌, refl, ap, ◌∙◌}
use mathlib.Core.Bool.{true, ◌&&◌}
use mathlib.Core.List.{List}
use lib.Dec.{lit<}
use lib.IntN.{pos}
use lib.ListN.{length, replicate}
use Rattle.words.specs.declared.Word.{Word}
use Rattle.words.proofs.Bools.{is_true, is_T, each}
use Rattle.order.specs.Order.{same_w}
use Rattle.sheet.specs.Rows.{rows, parameters}
use Rattle.sheet.specs.Places.{global_place}
use Rattle.sheet.specs.Sheet.{axis, globals, rwe_rows, rw_rows, r_rows}
use Rattle.values.specs.Values.{value_at, values_in_range, powered_at}
use Rattle.values.proofs.Rules as values
use Rattle.ranges.specs.Range.{entries_in_range, bits_in_range, analog_in_range, pins_in_range}
use Rattle.registers.specs.Range.{core_in_range, download_in_range}
use Rattle.waits.specs.Waits as waits
use Rattle.registers.specs.Laws as reg-laws
use Rattle.registers.proofs.Kept as registers
use Rattle.stack.specs.Stack.{stack, emptied}
use Rattle.pins.specs.Pins.{alarms_of}
use Rattle.sampling.specs.Sample.{sample_in_range}
use Rattle.sampling.specs.declared.Sample.{Sample}
use Rattle.sampling.proofs.Rules as sampling
use Rattle.board.specs.Registers.{powered}
use Rattle.board.specs.Range.{addresses_in_range, registers_in_range}
use Rattle.rules.specs.Events.{Outcome, outcome, with_sample, with_tick, powered_up, sampled, ticked}
use Rattle.rules.proofs.EventCases.{by-power-up, by-sample, by-tick}
use Rattle.promises.specs.Laws.{Laws}
use Rattle.board.specs.declared.Registers.{Registers}

-- ---- the seven tests that make up the range of registers
pub record Parts (r : Registers) : Type 0 where
  pub core : core_in_range r.core ≡ true
  pub download : download_in_range r.download ≡ true
  pub entries : entries_in_range r.entries ≡ true
  pub outputs : bits_in_range r.outputs ≡ true
  pub digital : bits_in_range r.digital ≡ true
  pub analog : analog_in_range r.analog ≡ true
  pub values : values_in_range parameters r.values ≡ true

module _ (r : Registers) where
  pub parts : registers_in_range r ≡ true → Parts r
  unfolding registers_in_range
  parts h =
      let a = addresses_in_range r.core r.download r.entries in
      let p = pins_in_range r.outputs r.digital r.analog in
      let v = values_in_range parameters r.values in
      let x = each (a && p) v h in
      let y = each a p x.0 in
      let c = each (core_in_range r.core && download_in_range r.download) (entries_in_range r.entries) y.0 in
      let d = each (core_in_range r.core) (download_in_range r.download) c.0 in
      let o = each (bits_in_range r.outputs && bits_in_range r.digital) (analog_in_range r.analog) y.1 in
      let i = each (bits_in_range r.outputs) (bits_in_range r.digital) o.0 in
      record {
        core = d.0;
        download = d.1;
        entries = c.1;
        outputs = i.0;
        digital = i.1;
        analog = o.1;
        values = x.1;
      }

  pub whole : Parts r → registers_in_range r ≡ true
  unfolding registers_in_range
  whole p = simp (p.core, p.download, p.entries, p.outputs, p.digital, p.analog, p.values)

-- ---- the events keep it
pub powered_in_range : (s : List ℕ) → registers_in_range (powered s) ≡ true
unfolding powered
powered_in_range s =
    let l : reg-laws.Laws = registers.laws in
    whole (powered s)
    (record {
      core = is_true (core_in_range (powered s).core) (l.powered-core (powered s).core.running);
      download = refl;
      entries = is_true (entries_in_range (replicate 8 0)) l.powered_entries;
      outputs = is_true (bits_in_range (replicate 4 0)) l.powered_outputs;
      digital = is_true (bits_in_range (replicate 2 0)) l.powered_digital;
      analog = is_true (analog_in_range (replicate 3 (pos 0))) l.powered_analog;
      values = values.powered_in_range s;
    })

module _ (r : Registers) (p : Parts r) where
  with-tick : Parts (with_tick r)
  with-tick =
      let l : reg-laws.Laws = registers.laws in
      record {
        core = l.wait_in_range (waits.ticked r.core.wait) r.core ∙ p.core;
        download = p.download;
        entries = p.entries;
        outputs = p.outputs;
        digital = p.digital;
        analog = p.analog;
        values = p.values;
      }

  with-sample : (s : Sample) → sample_in_range s ≡ true → length r.values ≡ 103 → Parts (with_sample s r)
  with-sample s e n =
      let l : reg-laws.Laws = registers.laws in
      record {
        core = is_true (core_in_range (with_sample s r).core) (l.alarmed_in_range (alarms_of s.signals) r.core (is_T (core_in_range r.core) p.core));
        download = p.download;
        entries = p.entries;
        outputs = p.outputs;
        digital = sampling.digital_in_range s.inputs;
        analog = sampling.analog-in-range s e;
        values = sampling.values-in-range s r.values e n p.values;
      }

module _ (r : Registers) (h : registers_in_range r ≡ true) where
  abbrev Kept : Outcome → Type 0
  Kept o = registers_in_range o.registers ≡ true

  pub power_up_in_range : (s : List ℕ) → Kept (powered_up s r)
  power_up_in_range s = by-power-up r Kept s (powered_in_range s) h

  pub tick_in_range : Kept (ticked r)
  tick_in_range = by-tick r Kept (whole (with_tick r) (with-tick r (parts r h))) h

  pub sample-in-range : (s : Sample) → length r.values ≡ 103 → Kept (sampled s r)
  sample-in-range s n = by-sample r Kept s (λ e. whole (with_sample s r) (with-sample r (parts r h) s e n)) h h

-- ---- a refused event changes nothing
module _ (r : Registers) where
  abbrev Refused : Outcome → Type 0
  Refused o = (o.status ≡ 100 → ⊥) → o.registers ≡ r

  pub power_up_refused : (s : List ℕ) → Refused (powered_up s r)
  power_up_refused s = by-power-up r Refused s (λ n. absurd (n refl)) (λ _. refl)

  pub tick_refused : Refused (ticked r)
  tick_refused = by-tick r Refused (λ n. absurd (n refl)) (λ _. refl)

  pub sample_refused : (s : Sample) → Refused (sampled s r)
  sample_refused s = by-sample r Refused s (λ _ n. absurd (n refl)) (λ _. refl) (λ _. refl)

-- ---- values after power-up
powered-at : (s : List ℕ) (i : ℕ) → i < 103 → value_at (powered s).values i ≡ powered_at rows s i
unfolding powered
powered-at s i h = values.powered-at s i h

powered_runs : (s : List ℕ) → (powered s).core.running ≡ same_w (powered_at rows s (global_place 77)).v (pos 1)
unfolding powered axis globals rwe_rows rw_rows r_rows
powered_runs s = ap (λ (w : Word). same_w w.v (pos 1)) (values.powered-at s 46 (lit< tt))

power_up_done : (s : List ℕ) (r : Registers) → length s ≡ 364 → powered_up s r ≡ outcome 100 (powered s)
unfolding powered_up
power_up_done s r h = simp (eq-eqb (length s) 364 h)

powered_stack : (s : List ℕ) → stack (powered s).entries (powered s).core.depth ≡ emptied
unfolding powered
powered_stack s = refl

pub laws : Laws
laws =
    record {
      powered_in_range = powered_in_range;
      power_up_in_range = λ s r h. power_up_in_range r h s;
      sample-in-range = λ s r n h. sample-in-range r h s n;
      tick_in_range = tick_in_range;
      powered-at = powered-at;
      powered_runs = powered_runs;
      powered_stack = powered_stack;
      power_up_done = power_up_done;
      power_up_refused = λ s r. power_up_refused r s;
      sample_refused = λ s r. sample_refused r s;
      tick_refused = tick_refused;
    }
