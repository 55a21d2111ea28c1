-- `text::scan::Words::words`: the words so far, before those that are read from here on, are all.
use Rattle.std.proofs.Common.{◌≡◌, ◌-◌, take, length}
use Rattle.text.specs.Numbers.{words_at}
use Rattle.text.proofs.Reading.{behind}
use Rattle.text.proofs.scan.Words.words.Given as goal

abbrev pub invariant-loop-word : goal.invariant-loop-word
invariant-loop-word g l =
    (words_at g.row.N l.fn.self ≡ behind (take l.word-index l.word-items) (words_at (g.row.N - l.word-index) l.ahead)) × (length l.word-items ≡ g.row.N)
