-- Each list from where the one before it ends; the first that is not right is named. Assumes nothing.
use Rattle.sheet_lines.specs.Lines.{list_lines_lem}
use Rattle.sheet_words.specs.Inner.{listed_shown, ListedIn}
use Rattle.sheet_words.proofs.AtPosition.{told, told_in, handed_on}
use Rattle.sheet_lines.proofs.list_lines.Goals as goal

pub returns-in_err-uniforms : goal.returns-in_err-uniforms
unfolding list_lines_lem
returns-in_err-uniforms c =
    let e = c.in_err-uniforms.ensures in
    rw (handed_on _ c.from_residual.ensures.1, e.1)
    (record { result_value = rw (told (listed_shown _) c.list_line.ensures.result_value e.0); lists_in = tt })

pub returns-in_err-normals : goal.returns-in_err-normals
unfolding list_lines_lem
returns-in_err-normals c =
    let e = c.in_err-normals.ensures in
    rw (handed_on _ c.from_residual-in_err-normals.ensures.1, e.1)
    (record {
      result_value = rw (
        told (listed_shown _) c.list_line.ensures.result_value c.in_ok-uniforms.ensures,
        told (listed_shown _) c.list_line-2.ensures.result_value e.0,
      );
      lists_in = tt;
    })

pub returns-in_err-exponentials : goal.returns-in_err-exponentials
unfolding list_lines_lem
returns-in_err-exponentials c =
    let e = c.in_err-exponentials.ensures in
    rw (handed_on _ c.from_residual-in_err-exponentials.ensures.1, e.1)
    (record {
      result_value = rw (
        told (listed_shown _) c.list_line.ensures.result_value c.in_ok-uniforms.ensures,
        told (listed_shown _) c.list_line-2.ensures.result_value c.in_ok-normals.ensures,
        told (listed_shown _) c.list_line-3.ensures.result_value e.0,
      );
      lists_in = tt;
    })

pub returns : goal.returns
unfolding list_lines_lem
returns c =
    let uniforms = told_in (ListedIn _ _ _ _) c.list_line.ensures.listed_in c.in_ok-uniforms.ensures in
    let normals = told_in (ListedIn _ _ _ _) c.list_line-2.ensures.listed_in c.in_ok-normals.ensures in
    let exponentials = told_in (ListedIn _ _ _ _) c.list_line-3.ensures.listed_in c.in_ok-exponentials.ensures in
    let line5 = told (listed_shown _) c.list_line.ensures.result_value c.in_ok-uniforms.ensures in
    let line6 = told (listed_shown _) c.list_line-2.ensures.result_value c.in_ok-normals.ensures in
    record {
      result_value = rw (line5, line6, told (listed_shown _) c.list_line-3.ensures.result_value c.in_ok-exponentials.ensures);
      lists_in = (
        record { uniforms = uniforms.spanned; normals = normals.spanned; exponentials = exponentials.spanned; within = exponentials.within },
        record { b5 = _; b6 = _; five = line5; six = line6; uniforms = uniforms.begins; normals = normals.begins; exponentials = exponentials.begins },
      );
    }
