-- Document 01, 'Sampler rules', Dirichlet: what alpha and the output are checked for before any draw, and the route. Definitions only.
use Rattle.std.specs.Prelude.{ℕ, suc, List, [], ◌∷◌, Bool, true, false, cond, length, ltb, eqb, negsuc, Float, Result, Ok, Err}
use Rattle.std.specs.List.{list_all}
use Rattle.std.specs.Float.{inf}
use Rattle.std.specs.Float.Ieee.{lt, le, eq}
use Rattle.kernels.specs.Numbers.{quotient, pow2, nought}
use Rattle.draws.specs.Refusals.{named, numbered}
use Rattle.draws.specs.declared.numbers.Named.{Named}
use Rattle.dirichlet_alpha.specs.declared.{Refused.Refused, Refused.TheVariants.AlphaTooShort, Refused.TheVariants.AlphaTooLong, Refused.TheVariants.AlphaTooSmall, Refused.TheVariants.AlphaInfinite, Refused.TheVariants.AlphaSubnormal, Refused.TheVariants.OutputLength, Refused.TheVariants.Draws}

-- nothing is refused, or a refusal
abbrev pub Checked : Type 0
Checked = Result (Unit {0}) Refused

-- '12, 13, 14 | element not above 0, infinite, subnormal; with its index': one element, by the answers to the tests
unfoldable pub judged : Bool → Bool → Bool → ℕ → Checked
judged false b c i = Err (AlphaTooSmall i)
judged true true c i = Err (AlphaInfinite i)
judged true false true i = Err (AlphaSubnormal i)
judged true false false i = Ok tt

-- the smallest normal number is 2^-1022
unfoldable pub element_of : Float → ℕ → Checked
element_of x i = judged (lt nought x) (eq x (inf false)) (lt x (pow2 (negsuc 1021))) i

abbrev pub or_else : Checked → Checked → Checked
or_else (Ok _) y = y
or_else (Err r) y = Err r

-- 'Elements are scanned first to last', from index i on
unfoldable pub scanned : List Float → ℕ → Checked
scanned [] i = Ok tt
scanned (x ∷ xs) i = or_else (element_of x i) (scanned xs (suc i))

-- '11, 15 | fewer than 2, more than 4,096 elements' and '16 | output length differs from alpha's'. 'Order: .. 11, 15, element scan, 16, 17, then draws.'
abbrev pub unless : Bool → Refused → Checked → Checked
unless true r y = Err r
unless false r y = y

unfoldable pub checked_of : List Float → ℕ → Checked
checked_of alpha n =
    unless (ltb (length alpha) 2) AlphaTooShort
    (unless (ltb 4096 (length alpha)) AlphaTooLong
    (or_else (scanned alpha 0) (cond {A = Checked} (eqb (length alpha) n) (Ok tt) (Err OutputLength))))

-- 'If all are <= 0.1 the Beta route'
unfoldable pub all_small_lem : List Float → Bool
all_small_lem alpha = list_all (λ (x : Float). le x (quotient 1 10)) alpha

-- document 01's numbers; kind 0 and the element's index for 12 to 14
abbrev pub named_of : Refused → Named
named_of AlphaTooShort = numbered 11 0
named_of (AlphaTooSmall i) = numbered 12 i
named_of (AlphaInfinite i) = numbered 13 i
named_of (AlphaSubnormal i) = numbered 14 i
named_of AlphaTooLong = numbered 15 0
named_of OutputLength = numbered 16 0
named_of (Draws r) = named r
