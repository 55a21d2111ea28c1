-- "a second answer meeting the same promise is shown equal": of each event of the C door, with all memory that it leaves. An image holds
-- what its type holds (`Numbers`).
use Rattle.std.specs.Prelude.{ℕ, ◌≡◌, List, ℤ}
use Rattle.board_datagrams.specs.Datagram.{Answers}
use Rattle.board_runs.specs.Run.{Runs, Ran}
use Rattle.law_rows.specs.Rows.{PowersUp, Samples, Ticks, Numbers}

pub record OneAnswer : Type 0 where
  pub one_datagram : (bytes l p m b : List ℕ) (n : ℕ) (k q c a : List ℕ) (n' : ℕ) (k' q' c' a' : List ℕ) → Numbers k → Numbers k'
      → Answers bytes l p m b n k q c a → Answers bytes l p m b n' k' q' c' a'
      → (n ≡ n') × (k ≡ k') × (q ≡ q') × (c ≡ c') × (a ≡ a')
  pub one_run : (program : List ℕ) (budget : ℕ) (l m : List ℕ) (r : Ran) (k c : List ℕ) (r' : Ran) (k' c' : List ℕ) → Numbers k → Numbers k'
      → Runs program budget l m r k c → Runs program budget l m r' k' c' → (r ≡ r') × (k ≡ k') × (c ≡ c')
  pub one_power_up : (cells l k k' : List ℕ) (n n' : ℕ) → Numbers k → Numbers k' → PowersUp cells l k n → PowersUp cells l k' n'
      → (n ≡ n') × (k ≡ k')
  pub one_sample : (fields : List ℤ) (l k k' : List ℕ) (n n' : ℕ) → Numbers k → Numbers k' → Samples fields l k n → Samples fields l k' n'
      → (n ≡ n') × (k ≡ k')
  pub one_tick : (l k k' : List ℕ) (n n' : ℕ) → Numbers k → Numbers k' → Ticks l k n → Ticks l k' n' → (n ≡ n') × (k ≡ k')
