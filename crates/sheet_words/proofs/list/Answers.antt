-- A number at a time: what stands after it ends the list, leads on to the next, or is wrong. Assumes nothing.
use mathlib.Core.Path.{sym}
use native.Mathlib.Omega.{arith}
use Rattle.sheet_words.specs.Inner.{words}
use Rattle.sheet_words.proofs.AtPosition.{handed_on}
use Rattle.sheet_words.proofs.Spanning.{turn_full, turn_fault, turn_ended, turn_wrong, turn_feed, turn_comma, list_ended, list_none, list_begins}
use Rattle.sheet_words.proofs.list.Goals as goal

pub returns-in_err-byte : goal.returns-in_err-byte
returns-in_err-byte c =
    let e = c.in_err-byte.ensures.err in
    rw (handed_on _ c.from_residual.ensures.1, e.0) (record { result_value = sym (list_ended _ e.1); listed_in = tt })

pub returns-then-branch-eq10 : goal.returns-then-branch-eq10
unfolding words
returns-then-branch-eq10 c =
    let h = list_none c.args.most c.in_ok-byte.ensures.ok c.if-branch-eq10.true in record { result_value = h.0; listed_in = h.1 }

pub loop-met-init : goal.loop-met-init
loop-met-init c = list_begins _ c.in_ok-byte.ensures.ok c.if-branch-eq10.false

pub returns-in_err-end : goal.returns-in_err-end
returns-in_err-end c =
    rw (handed_on _ c.from_residual-in_err-end.ensures.1)
    (record { result_value = sym (turn_fault c.loop-met.invariant c.loop-met-test.true (sym c.in_err-end.ensures)); listed_in = tt })

pub returns-in_err-byte-2 : goal.returns-in_err-byte-2
returns-in_err-byte-2 c =
    let e = c.in_err-byte-2.ensures.err in
    rw (handed_on _ c.from_residual-in_err-byte-2.ensures.1, e.0)
    (record { result_value = sym (turn_ended c.loop-met.invariant c.loop-met-test.true _ _ (sym c.in_ok-end.ensures) e.1); listed_in = tt })

pub returns-in-10 : goal.returns-in-10
returns-in-10 c =
    let h = turn_feed c.loop-met.invariant c.loop-met-test.true _ _ (sym c.in_ok-end.ensures) c.in_ok-byte-2.ensures.ok
    c.in_ok-byte.ensures.ok.within c.in-10.is in
    record { result_value = h.0; listed_in = h.1 }

pub returns-in_default : goal.returns-in_default
returns-in_default c =
    record {
      result_value = sym (turn_wrong c.loop-met.invariant c.loop-met-test.true _ _ (sym c.in_ok-end.ensures) c.in_ok-byte-2.ensures.ok (λ h. omega arith) (λ h. omega arith));
      listed_in = tt;
    }

pub loop-met-preserved : goal.loop-met-preserved
loop-met-preserved c =
    turn_comma c.loop-met.invariant c.loop-met-test.true _ _ (sym c.in_ok-end.ensures) c.in_ok-byte-2.ensures.ok c.in-44.is

pub returns : goal.returns
returns c = record { result_value = sym (turn_full c.loop-met.invariant c.loop-met-test.false); listed_in = tt }
