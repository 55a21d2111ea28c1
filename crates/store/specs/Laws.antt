-- What a user of cells and records relies on.
use Rattle.std.specs.Prelude.{ℕ, ◌+◌, ◌*◌, ◌≤◌, ◌<◌, ◌≡◌, List, ℤ, length, get_or}
use Rattle.std.specs.Int.{w32}
use Rattle.std.proofs.Common.{SFits}
use Rattle.words.specs.Word.{word}
use Rattle.words.specs.Laws.{AllBytes}
use Rattle.wire.specs.declared.Command.{Command}
use Rattle.store.specs.Store.{written, cell_at, put_cell, record_at, put_record}

pub record Laws : Type 0 where
  -- bytes that do not all fit are not written; those that are stand there, and no other byte and no length changes
  pub written_out : (s : List ℕ) (at : ℕ) (bytes : List ℕ) → length s < at + length bytes → written s at bytes ≡ s
  pub written_length : (s : List ℕ) (at : ℕ) (bytes : List ℕ) → length (written s at bytes) ≡ length s
  pub written_before : (s : List ℕ) (at : ℕ) (bytes : List ℕ) (i : ℕ) → i < at → get_or (written s at bytes) i 0 ≡ get_or s i 0
  pub written_after : (s : List ℕ) (at : ℕ) (bytes : List ℕ) (i : ℕ) → at + length bytes ≤ i
      → get_or (written s at bytes) i 0 ≡ get_or s i 0
  pub written_there : (s : List ℕ) (at : ℕ) (bytes : List ℕ) (k : ℕ) → at + length bytes ≤ length s → k < length bytes
      → get_or (written s at bytes) (at + k) 0 ≡ get_or bytes k 0
  -- a cell that is written is read, every other stays, and what is read, written back, changes nothing
  pub cell_length : (s : List ℕ) (c : ℕ) (z : ℤ) → length (put_cell s c z) ≡ length s
  pub cell_read : (s : List ℕ) (c : ℕ) (z : ℤ) → c * 4 + 4 ≤ length s → SFits w32 z → cell_at (put_cell s c z) c ≡ word z
  pub cell_other : (s : List ℕ) (c d : ℕ) (z : ℤ) → (c ≡ d → ⊥) → cell_at (put_cell s c z) d ≡ cell_at s d
  pub cell_back : (s : List ℕ) (c : ℕ) → AllBytes s → put_cell s c (cell_at s c).v ≡ s
  -- the same of a record
  pub record_length : (p : List ℕ) (a : ℕ) (r : Command) → length (put_record p a r) ≡ length p
  pub record_read : (p : List ℕ) (a : ℕ) (r : Command) → a * 7 + 7 ≤ length p → SFits w32 r.value.v
      → record_at (put_record p a r) a ≡ r
  pub record_other : (p : List ℕ) (a b : ℕ) (r : Command) → (a ≡ b → ⊥) → record_at (put_record p a r) b ≡ record_at p b
  pub record_back : (p : List ℕ) (a : ℕ) → AllBytes p → put_record p a (record_at p a) ≡ p
