-- A digit at a time: the end, a byte that is no digit, or one digit more. Assumes nothing.
use Prim.Native.Nat.{◌+◌, ◌-◌}
use mathlib.Core.Path.{◌≡◌, sym, ◌∙◌}
use native.Mathlib.Omega.{arith}
use Rattle.sheet_words.proofs.AtPosition.{handed_on, lacking, hex_ended, hex_wrong, hex_step, hex_done, digit_small, room_step, room_fits}
use Rattle.sheet_words.proofs.word.Goals as goal

pub returns-in_err-byte : goal.returns-in_err-byte
returns-in_err-byte c =
    let e = c.in_err-byte.ensures.err in
    rw (handed_on _ c.from_residual.ensures.1, e.0) (sym (c.loop.invariant.so_far ∙ hex_ended _ _ (omega arith) e.1))

pub returns-in_err-d : goal.returns-in_err-d
returns-in_err-d c =
    let e = lacking _ c.in_err-d.ensures.value in
    rw (handed_on _ c.from_residual-in_err-d.ensures.1, e.1)
    (sym (c.loop.invariant.so_far ∙ hex_wrong _ _ (omega arith) c.in_ok-byte.ensures.ok (sym c.digit.ensures ∙ e.0)))

pub overflow_mul-n : goal.overflow_mul-n
overflow_mul-n c =
    let digit = sym c.digit.ensures ∙ c.in_ok-d.ensures.ok_part in
    let fits = room_fits _ _ (room_step _ _ _ (omega arith) (digit_small _ digit) c.loop.invariant.room) in
    omega arith

pub overflow_add-n : goal.overflow_add-n
overflow_add-n c =
    let digit = sym c.digit.ensures ∙ c.in_ok-d.ensures.ok_part in
    record { fits = room_fits _ _ (room_step _ _ _ (omega arith) (digit_small _ digit) c.loop.invariant.room) }

pub loop-preserved : goal.loop-preserved
loop-preserved c =
    let digit = sym c.digit.ensures ∙ c.in_ok-d.ensures.ok_part in
    let less : 16 - c.loop.counter - 1 ≡ 16 - (c.loop.counter + 1) = omega arith in
    record {
      so_far = c.loop.invariant.so_far ∙ hex_step _ _ (omega arith) c.in_ok-byte.ensures.ok digit ∙ rw less;
      room = rw less at (room_step _ _ _ (omega arith) (digit_small _ digit) c.loop.invariant.room);
    }

pub returns : goal.returns
returns c = sym (c.loop.invariant.so_far ∙ hex_done _ _ _ (omega arith))
