-- `text::scan::Words::words`.
use Rattle.std.proofs.Common.{rules, arith, sym, ap, ◌∙◌, ◌≡◌, ◌-◌, ℕ, List, []}
use mir.Syntax.{w32}
use mir.ValLaws.{to_z-of_z}
use Rattle.std.proofs.lemmas.List.{length-replicate, length-set}
use Rattle.text.specs.Numbers.{words_at}
use Rattle.text.proofs.Reading.{behind, reads_none, reads_some, behind-nil, word-more, word-none, words-all}
use Rattle.text.proofs.scan.Words.words.Goals as goal

pub returns-in_err-word : goal.returns-in_err-word
returns-in_err-word g c =
    let l = c.loop-word in
    rw c.from_residual.ensures (reads_none _ _ (word-none _ _ l.word-index l.word-items l.ahead c.loop-word-test.true l.invariant.0 _ c.in_err-word.ensures))

pub loop-word-init : goal.loop-word-init
loop-word-init g c =
    let n : g.row.N ≡ g.row.N - 0 = omega arith in (
      behind-nil (words_at g.row.N c.args.self.now)
          ∙ ap (λ (m : ℕ). behind [] (words_at m c.args.self.now)) n
          ∙ ap (λ (text : List ℕ). behind [] (words_at (g.row.N - 0) text)) (sym c.self.view_is),
      length-replicate _ _,
    )

pub loop-word-preserved : goal.loop-word-preserved
loop-word-preserved g c =
    let l = c.loop-word in
    (word-more _ _ l.word-index l.word-items l.ahead c.loop-word-test.true l.invariant.0 l.invariant.1 c.in_ok-word.field-0 _ _ (to_z-of_z w32 c.in_ok-word.field-0 (search rules)) c.in_ok-word.ensures, length-set _ _ _ ∙ l.invariant.1)

pub returns : goal.returns
returns g c =
    let l = c.loop-word in
    let all = words-all _ _ l.word-index l.word-items l.ahead c.loop-word-test.false l.invariant.1 l.invariant.0 in
    rw (← c.ahead.view_is) at (reads_some _ c.args.self.now l.word-items l.ahead all)
