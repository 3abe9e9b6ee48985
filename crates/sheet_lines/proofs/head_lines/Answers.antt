-- Each line from where the one before it ends; the first that is not right is named. Assumes nothing.
use Rattle.sheet_lines.specs.Lines.{head_lines_lem}
use Rattle.sheet_words.specs.Inner.{passed_shown, counted_shown}
use Rattle.sheet_lines.specs.Inner.{sampler_shown}
use Rattle.sheet_words.proofs.AtPosition.{told, handed_on}
use Rattle.sheet_lines.proofs.head_lines.Goals as goal

pub returns-in_err-at : goal.returns-in_err-at
unfolding head_lines_lem
returns-in_err-at c =
    let e = c.in_err-at.ensures in
    rw (handed_on _ c.from_residual.ensures.1, e.1, told (passed_shown _) c.past.ensures e.0)

pub returns-in_err-sampler : goal.returns-in_err-sampler
unfolding head_lines_lem
returns-in_err-sampler c =
    let e = c.in_err-sampler.ensures in
    rw (
      handed_on _ c.from_residual-in_err-sampler.ensures.1,
      e.1,
      told (passed_shown _) c.past.ensures c.in_ok-at.ensures,
      told (sampler_shown _) c.sampler_line.ensures e.0,
    )

pub returns-in_err-a : goal.returns-in_err-a
unfolding head_lines_lem
returns-in_err-a c =
    let e = c.in_err-a.ensures in
    rw (
      handed_on _ c.from_residual-in_err-a.ensures.1,
      e.1,
      told (passed_shown _) c.past.ensures c.in_ok-at.ensures,
      told (sampler_shown _) c.sampler_line.ensures c.in_ok-sampler.ensures,
      told (counted_shown _) c.word_line.ensures e.0,
    )

pub returns-in_err-b : goal.returns-in_err-b
unfolding head_lines_lem
returns-in_err-b c =
    let e = c.in_err-b.ensures in
    rw (
      handed_on _ c.from_residual-in_err-b.ensures.1,
      e.1,
      told (passed_shown _) c.past.ensures c.in_ok-at.ensures,
      told (sampler_shown _) c.sampler_line.ensures c.in_ok-sampler.ensures,
      told (counted_shown _) c.word_line.ensures c.in_ok-a.ensures,
      told (counted_shown _) c.second_line.ensures e.0,
    )

pub returns : goal.returns
unfolding head_lines_lem
returns c =
    rw (
      told (passed_shown _) c.past.ensures c.in_ok-at.ensures,
      told (sampler_shown _) c.sampler_line.ensures c.in_ok-sampler.ensures,
      told (counted_shown _) c.word_line.ensures c.in_ok-a.ensures,
      told (counted_shown _) c.second_line.ensures c.in_ok-b.ensures,
    )
