-- What a user of the check relies on.
use Rattle.std.specs.Prelude.{ℕ, ◌≡◌, List, length}
use Rattle.store.specs.Store.{program_length}
use Rattle.points.specs.Reach.{Safe}
use Rattle.leading.specs.Leading.{way_at}
use Rattle.checking.specs.Check.{Verdict, Passed, Checked}
use Rattle.checking.specs.declared.Answer.{Answer}

pub record Laws : Type 0 where
  -- two answers that meet the check's promise are one
  pub one_verdict : (program : List ℕ) (x y : Verdict) (a b : Answer) → Checked program x a → Checked program y b → (x ≡ y) × (a ≡ b)
  -- of a store of 7,168 bytes the check answers passed exactly if no bad point is reached
  pub exactly : (program : List ℕ) (x : Verdict) (a : Answer) → length program ≡ program_length → Checked program x a
      → (x ≡ Passed → Safe (way_at program)) × (Safe (way_at program) → x ≡ Passed)
