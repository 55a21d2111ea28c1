-- What is relied on of the events of the C door, over the image of the registers.
use Rattle.std.specs.Prelude.{ℕ, ◌≡◌, true, false, ◌&&◌, List, leb, ℤ, length}
use Rattle.rules.specs.Datagram.{lent}
use Rattle.reg_image.specs.Image.{registers_of, shaped}
use Rattle.reg_range.specs.Range.{stands}
use Rattle.board_datagrams.specs.Datagram.{Answers}
use Rattle.board_runs.specs.Run.{Runs, Ran}
use Rattle.rules.specs.RunEvent as runs
use Rattle.law_rows.specs.Rows.{PowersUp, Samples, Ticks, Happens, Row, SincePowerUp, Numbers}
use Rattle.numbered.specs.Check.{Checks}
use Rattle.numbered.specs.declared.Checked.{Checked}

pub record Laws : Type 0 where
  -- registers in range stay so under every event, whatever it answers
  pub stands_on : (l k : List ℕ) → length l ≡ 137 → stands l ≡ true → Happens l k → stands k ≡ true
  pub stands_in_row : (l k : List ℕ) → stands l ≡ true → Row l k → stands k ≡ true
  -- a power-up that is carried out leaves them in range, from whatever image, and so does every row of events after it
  pub stands_for_ever : (l : List ℕ) → SincePowerUp l → stands l ≡ true
  -- so no event answers 23 any more, and a tick is done
  pub tick_done : (l k : List ℕ) (n : ℕ) → SincePowerUp l → Ticks l k n → n ≡ 100
  pub sample_never_23 : (fields : List ℤ) (l k : List ℕ) (n : ℕ) → SincePowerUp l → Samples fields l k n → n ≡ 23 → ⊥
  pub datagram_never_23 : (bytes l p m b : List ℕ) (n : ℕ) (k p' m' b' : List ℕ) → SincePowerUp l
      → Answers bytes l p m b n k p' m' b' → n ≡ 23 → ⊥
  pub run_never_23 : (program : List ℕ) (budget : ℕ) (l m : List ℕ) (r : Ran) (k m' : List ℕ) → SincePowerUp l
      → Runs program budget l m r k m' → r.status ≡ 23 → ⊥
  -- a power-up, sample or tick that is refused leaves the image
  pub power_up_refused : (cells l k : List ℕ) (n : ℕ) → PowersUp cells l k n → (n ≡ 100 → ⊥) → k ≡ l
  pub sample_refused : (fields : List ℤ) (l k : List ℕ) (n : ℕ) → Samples fields l k n → (n ≡ 100 → ⊥) → k ≡ l
  pub tick_refused : (l k : List ℕ) (n : ℕ) → Ticks l k n → (n ≡ 100 → ⊥) → k ≡ l
  -- a run that is refused leaves the image and the cells, with 0 steps
  pub run_refused : (program : List ℕ) (budget : ℕ) (l m : List ℕ) (r : Ran) (k m' : List ℕ) → Runs program budget l m r k m'
      → runs.lent program m && (stands l && leb budget 1000) ≡ false → (k ≡ l) × (m' ≡ m) × (r.steps ≡ 0)
  -- a datagram for which lent memory has another length or the registers are out of range leaves the image and all that is lent
  pub datagram_shut : (bytes l p m b : List ℕ) (n : ℕ) (k p' m' b' : List ℕ) → Answers bytes l p m b n k p' m' b'
      → lent p m b && stands l ≡ false → (k ≡ l) × (p' ≡ p) × (m' ≡ m) × (b' ≡ b)
  -- an image is known by the registers that it stands for
  pub one_image : (l k : List ℕ) → Numbers l → Numbers k → shaped l ≡ true → shaped k ≡ true → registers_of l ≡ registers_of k → l ≡ k
  -- so a datagram that is answered anything but 100 and 101 leaves it, and both stores
  pub datagram_refused : (bytes l p m b : List ℕ) (n : ℕ) (k p' m' b' : List ℕ) → Numbers l → Numbers k
      → Answers bytes l p m b n k p' m' b' → (n ≡ 100 → ⊥) → (n ≡ 101 → ⊥) → (k ≡ l) × (p' ≡ p) × (m' ≡ m)
  -- two answers that meet the check's promise are one
  pub one_check : (program : List ℕ) (c d : Checked) → Checks program c → Checks program d → c ≡ d
