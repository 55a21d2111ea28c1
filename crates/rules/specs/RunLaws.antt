-- "a run equals that many single steps", and its count is the only one.
use Rattle.std.specs.Prelude.{ℕ, zero, suc, ◌+◌, ◌≤◌, ◌<◌, ◌≡◌, ◌⊎◌, Bool, true, false, List}
use Rattle.rules.specs.Step.{State, Pins}
use Rattle.rules.specs.Run.{Progress, begun, advanced, goes_on, run}

-- so many single steps, one after the other
unfoldable pub walked : List ℕ → Pins → ℕ → Progress → Progress
walked program p zero x = x
walked program p (suc k) x = walked program p k (advanced program p x)

-- k is a number of steps that a run of budget n makes: no more than the budget, each from where the run goes on, and no further one
-- where the budget is not used
pub record Makes (alone : Bool) (program : List ℕ) (p : Pins) (n : ℕ) (x : Progress) (k : ℕ) : Type 0 where
  pub within : k ≤ n
  pub going : (j : ℕ) → j < k → goes_on alone (walked program p j x) ≡ true
  pub ended : (k ≡ n) ⊎ (goes_on alone (walked program p k x) ≡ false)

pub record Laws : Type 0 where
  -- a run is as many single steps as it answers, and no other number is one that it makes
  pub run_steps : (alone : Bool) (program : List ℕ) (p : Pins) (n : ℕ) (x : State)
      → run alone program p n (begun x) ≡ walked program p (run alone program p n (begun x)).steps (begun x)
  pub run_makes : (alone : Bool) (program : List ℕ) (p : Pins) (n : ℕ) (x : State)
      → Makes alone program p n (begun x) (run alone program p n (begun x)).steps
  pub run_only : (alone : Bool) (program : List ℕ) (p : Pins) (n : ℕ) (x : State) (k : ℕ) → Makes alone program p n (begun x) k
      → k ≡ (run alone program p n (begun x)).steps
  -- m turns of the loop and then n more are m + n; a new run event begins anew, with no WAIT found to hold
  pub run_parts : (alone : Bool) (program : List ℕ) (p : Pins) (m n : ℕ) (x : Progress)
      → run alone program p n (run alone program p m x) ≡ run alone program p (m + n) x
  -- a run of one is a step where the program runs; alone it is one whether or not it runs
  pub run_one : (program : List ℕ) (p : Pins) (x : State) → x.core.running ≡ true
      → run false program p 1 (begun x) ≡ advanced program p (begun x)
  pub alone_one : (program : List ℕ) (p : Pins) (x : State) → run true program p 1 (begun x) ≡ advanced program p (begun x)
