-- What stands past line 7 decides, where the scan is right. Assumes nothing.
use Rattle.std.proofs.Common.{◌≡◌, arith, rules}
use Rattle.std.specs.Prelude.{Ok}
use Rattle.sheet_lines.specs.Inner.{scanned_shown, ScannedIn}
use Rattle.sheet_words.proofs.AtPosition.{told, told_in}
use Rattle.sheet.proofs.Answers.{read_refused, read_right, parse_more, parse_right}
use Rattle.sheet.proofs.read.Goals as goal

pub returns-then-end-s : goal.returns-then-end-s
returns-then-end-s c =
    let right : c.scan.result ≡ Ok (c.in_ok-head.head, c.in_ok-head.lists, c.in_ok-head.end) = search rules in
    read_refused _ _ _ _ (parse_more _ _ _ (omega arith) (told (scanned_shown _) (rw c.room-most.ensures at c.scan.ensures.result_value) right) c.if-end-s.true)

pub returns : goal.returns
returns c =
    let right : c.scan.result ≡ Ok (c.in_ok-head.head, c.in_ok-head.lists, c.in_ok-head.end) = search rules in
    read_right _ _ _ _ (told_in (ScannedIn _ _) (rw c.room-most.ensures at c.scan.ensures.scanned_in) right).spans _
    (parse_right _ _ _ (omega arith) (told (scanned_shown _) (rw c.room-most.ensures at c.scan.ensures.result_value) right) c.if-end-s.false)
    c.store_all-counts.ensures
