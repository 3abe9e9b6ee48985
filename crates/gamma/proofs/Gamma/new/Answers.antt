-- Each return is the rule's at the answers to the tests, taken in its order.
use mathlib.Core.Path.{◌≡◌, refl}
use mathlib.Core.Bool.{Bool, true, false, ◌||◌}
use lib.Ieee.{Float, inf, lt, eq, div, of_bits}
use Rattle.kernels.specs.Numbers.{nought, one}
use Rattle.gamma.specs.Gamma.{kind_made, made_case, gamma_made}
use Rattle.gamma.proofs.Gamma.new.Goals as goal
use Rattle.gamma.proofs.Gamma.new.Goals.{then-shape-via-then-shape, then-shape-via-else-shape+then-scale}

-- the rule, by the answers to its tests
by_tests : (shape scale : Float) (a b i j o s : Bool) → lt nought shape ≡ a → lt nought scale ≡ b → eq shape (inf false) ≡ i → eq scale (inf false) ≡ j → eq shape one ≡ o → lt shape one ≡ s
    → made_case a b (kind_made (i || j) o s shape scale) ≡ gamma_made shape scale
unfolding gamma_made
by_tests shape scale a b i j o s e f g h k m = rw (← e, ← f, ← g, ← h, ← k, ← m)

pub returns-then-not-shape : goal.returns-then-not-shape
unfolding made_case of_bits
returns-then-not-shape c = by_tests _ _ false _ _ _ _ _ c.if-not-shape.true refl refl refl refl refl

pub returns-then-not-scale : goal.returns-then-not-scale
unfolding made_case of_bits
returns-then-not-scale c = by_tests _ _ true false _ _ _ _ c.if-not-shape.false c.if-not-scale.true refl refl refl refl

pub returns-then-shape : goal.returns-then-shape
unfolding made_case kind_made of_bits div
returns-then-shape c =
    let x = c.if-not-shape.false in
    let y = c.if-not-scale.false in
    elim c.then-shape.branch [
      | then-shape-via-then-shape w ↦ by_tests _ _ true true true _ _ _ x y w.if-shape.true refl refl refl
      | then-shape-via-else-shape+then-scale w ↦ by_tests _ _ true true false true _ _ x y w.if-shape.false w.if-scale.true refl refl
    ]

pub returns-then-shape-2 : goal.returns-then-shape-2
unfolding made_case kind_made of_bits div
returns-then-shape-2 c =
    rw c.one_nan.ensures
    (by_tests _ _ true true false false true _ c.if-not-shape.false c.if-not-scale.false c.if-shape.false c.if-scale.false c.if-shape-2.true refl)

pub returns-then-shape-3 : goal.returns-then-shape-3
unfolding made_case kind_made of_bits div
returns-then-shape-3 c =
    rw c.new_raw.ensures
    (by_tests _ _ true true false false false true c.if-not-shape.false c.if-not-scale.false c.if-shape.false c.if-scale.false c.if-shape-2.false c.if-shape-3.true)

pub returns : goal.returns
unfolding made_case kind_made of_bits div
returns c =
    rw c.new_raw-2.ensures
    (by_tests _ _ true true false false false false c.if-not-shape.false c.if-not-scale.false c.if-shape.false c.if-scale.false c.if-shape-2.false c.if-shape-3.false)
