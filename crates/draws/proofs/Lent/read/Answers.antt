-- Each answer is a case of `read`: a draw that is there and usable, there and unusable, or not there.
use Prim.Native.Nat.{ℕ, ◌+◌, ◌<◌, ◌≤◌}
use native.Mathlib.Omega.{arith}
use borrow.Author.Tests.{lt-ltb}
use mathlib.Core.Path.{◌≡◌, sym, ◌∙◌}
use mathlib.Core.List.{List}
use mathlib.Core.Bool.{true, false}
use lib.ListN.{length, get_or}
use lib.Ieee.{Float, nan}
use Rattle.std.specs.Prelude.{Ok, Err}
use Rattle.draws.specs.Draws.{Draw, place, to, usable, read}
use Rattle.draws.specs.declared.Kind.{Kind}
use Rattle.draws.specs.declared.Positions.{Positions}
use Rattle.draws.specs.declared.Refusal.TheVariants.{Above, Unusable, Absent}
use Rattle.draws.proofs.Reading.{read_usable, read_unusable, above_is, absent_is}
use Rattle.draws.proofs.Lent.read.Goals as goal

-- i and ys as the code reads them
module _ (k : Kind) (p : Positions) {xs ys : List Float} {i : ℕ} (d : i ≡ place k p) (e : ys ≡ xs) where
  had : {q : Positions} → q ≡ to k (i + 1) p → i < length ys → usable k (get_or ys i nan) ≡ true → ◌≡◌ {A = Draw} (Ok (get_or ys i nan, q)) (read k xs p)
  had h l u = rw (h, d, e) (read_usable k xs p (lt-ltb _ _ (rw (d, e) at l)) (rw (d, e) at u))

  unusable : i < length ys → usable k (get_or ys i nan) ≡ false → ◌≡◌ {A = Draw} (Err (Unusable k i)) (read k xs p)
  unusable l u = rw d (read_unusable k xs p (lt-ltb _ _ (rw (d, e) at l)) (rw (d, e) at u))

  absent : i ≡ length ys → ◌≡◌ {A = Draw} (Err (Absent k i)) (read k xs p)
  absent h = rw d (sym (absent_is k xs p (rw (d, e) at h)))

  above : ¬ (i ≡ length ys) → length ys ≤ i → ◌≡◌ {A = Draw} (Err Above) (read k xs p)
  above n l = let h : length ys < i = omega arith in sym (above_is k xs p (rw (d, e) at h))

pub returns-then-usable : goal.returns-then-usable
returns-then-usable c = had _ _ c.place-i.ensures c.slice-xs.ensures c.to.ensures c.if-i-xs.true (sym c.usable.ensures ∙ c.if-usable.true)

pub returns-then-i-xs : goal.returns-then-i-xs
returns-then-i-xs c = unusable _ _ c.place-i.ensures c.slice-xs.ensures c.if-i-xs.true (sym c.usable.ensures ∙ c.if-usable.false)

pub returns-then-i-xs-2 : goal.returns-then-i-xs-2
returns-then-i-xs-2 c = absent _ _ c.place-i.ensures c.slice-xs.ensures c.if-i-xs-2.true

pub returns-else-i-xs-2 : goal.returns-else-i-xs-2
returns-else-i-xs-2 c = above _ _ c.place-i.ensures c.slice-xs.ensures c.if-i-xs-2.false c.if-i-xs.false
