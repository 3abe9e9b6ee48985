-- Document 01, 'Sampler rules', Beta(a0, b0): the kinds BB and BC, what each keeps and how it tests a trial, in the document's order, with the step
-- numbers of beta.rs. Definitions only.
use Rattle.std.specs.Prelude.{Bool, true, false, cond, not, ◌&&◌, ◌||◌, Float, Option, None, Some}
use Rattle.std.specs.Float.Ieee.{lt, le}
use Rattle.kernels.specs.Numbers.{◌⊕◌, ◌⊖◌, ◌⊗◌, ◌⊘◌, quotient, one, two, half}
use Rattle.kernels.specs.Ln.{ln_of}
use Rattle.kernels.specs.Exp.{exp_of}
use Rattle.kernels.specs.Sqrt.{sqrt_of}
use Rattle.beta.specs.declared.{algorithm.BB.BB, algorithm.BC.BC, algorithm.BetaAlgorithm.BetaAlgorithm}
use Rattle.beta.specs.declared.algorithm.BetaAlgorithm.TheVariants as algorithm

-- 1/4, 4 and 5; 1/18/4, 3/18/4 and 14/18, each division rounded
abbrev pub quarter : Float
quarter = quotient 1 4

abbrev pub four : Float
four = quotient 4 1

abbrev pub five : Float
five = quotient 5 1

-- ---- what each keeps
-- 'kind BB keeps a, b, alpha = a + b, beta = sqrt((alpha-2)/(2·a·b - alpha)), gamma = a + 1/beta'
unfoldable pub bb_made : Float → Float → BB
bb_made a b =
    let alpha = a ⊕ b in
    let beta = sqrt_of ((alpha ⊖ two) ⊘ (two ⊗ a ⊗ b ⊖ alpha)) in
    record { a = a; b = b; alpha = alpha; beta = beta; gamma = a ⊕ one ⊘ beta }

-- 'alpha = a + b, beta = 1/b, delta = (1+a) - b, kappa1 = (delta·(1/18/4 + (3/18/4)·b))/(a·beta - 14/18), kappa2 = 0.25 + (0.5 + 0.25/delta)·b'
unfoldable pub bc_made : Float → Float → BC
bc_made a b =
    let beta = one ⊘ b in
    let delta = (one ⊕ a) ⊖ b in
    record {
      a = a;
      b = b;
      alpha = a ⊕ b;
      beta = beta;
      kappa1 = delta ⊗ (quotient 1 18 ⊘ four ⊕ (quotient 3 18 ⊘ four) ⊗ b) ⊘ (a ⊗ beta ⊖ quotient 14 18);
      kappa2 = quarter ⊕ (half ⊕ quarter ⊘ delta) ⊗ b;
    }

-- ---- a trial's tests: 'the numbered steps 1 to 5 of sample in beta.rs, with its orders and its "not less than" forms (NaN there accepts)'
-- 'v = beta·ln(u1/(1-u1)), w = a·exp(v)'
unfoldable pub beta_v : Float → Float → Float
beta_v beta u1 = beta ⊗ ln_of (u1 ⊘ (one ⊖ u1))

unfoldable pub beta_w : Float → Float → Float → Float
beta_w a beta u1 = a ⊗ exp_of (beta_v beta u1)

-- the w of a trial's uniforms, where they are accepted
abbrev pub Tested : Type 0
Tested = Option Float

abbrev pub judged : Bool → Float → Tested
judged true w = Some w
judged false w = None

-- BB: step 1 forms r and s of the first uniform, and step 4 compares r + alpha·ln(alpha/(b + w)) with ln z
abbrev pub bb_r : BB → Float → Float
bb_r g u1 = g.gamma ⊗ beta_v g.beta u1 ⊖ ln_of four

abbrev pub bb_s : BB → Float → Float
bb_s g u1 = (g.a ⊕ bb_r g u1) ⊖ beta_w g.a g.beta u1

abbrev pub bb_compared : BB → Float → Float
bb_compared g u1 = bb_r g u1 ⊕ g.alpha ⊗ ln_of (g.alpha ⊘ (g.b ⊕ beta_w g.a g.beta u1))

-- and z of both; the first of steps 2 to 4 that holds accepts
unfoldable pub bb_accepts : BB → Float → Float → Bool
bb_accepts g u1 u2 =
    let z = (u1 ⊗ u1) ⊗ u2 in
    let s = bb_s g u1 in
    let t = ln_of z in
    let step2 = le (five ⊗ z) ((s ⊕ one) ⊕ ln_of five) in
    let step3 = le t s in
    let step4 = not (lt (bb_compared g u1) t) in
    step2 || (step3 || step4)

unfoldable pub bb_tested : BB → Float → Float → Tested
bb_tested g u1 u2 = judged (bb_accepts g u1 u2) (beta_w g.a g.beta u1)

-- BC, step 5 at z: accepts
unfoldable pub step5_accepts : BC → Float → Float → Bool
step5_accepts g u1 z =
    let v = beta_v g.beta u1 in
    let w = beta_w g.a g.beta u1 in
    not (lt (g.alpha ⊗ (ln_of (g.alpha ⊘ (g.b ⊕ w)) ⊕ v) ⊖ ln_of four) (ln_of z))

unfoldable pub step5_of : BC → Float → Float → Tested
step5_of g u1 z = judged (step5_accepts g u1 z) (beta_w g.a g.beta u1)

-- BC: step 1 asks 'u1 < 0.5'; below, step 2 rejects or step 5 tells; else step 3 accepts, step 4 rejects, or step 5 tells
unfoldable pub bc_accepts : BC → Float → Float → Bool
bc_accepts g u1 u2 =
    let y = u1 ⊗ u2 in
    let low = u1 ⊗ y in
    let high = (u1 ⊗ u1) ⊗ u2 in
    let step1 = lt u1 half in
    let step2 = le g.kappa1 ((quarter ⊗ u2 ⊕ low) ⊖ y) in
    let step3 = le high quarter in
    let step4 = le g.kappa2 high in
    cond step1 (not step2 && step5_accepts g u1 low) (step3 || (not step4 && step5_accepts g u1 high))

unfoldable pub bc_tested : BC → Float → Float → Tested
bc_tested g u1 u2 = judged (bc_accepts g u1 u2) (beta_w g.a g.beta u1)

-- ---- either algorithm
abbrev pub accepts_of : BetaAlgorithm → Float → Float → Bool
accepts_of (algorithm.BB g) u1 u2 = bb_accepts g u1 u2
accepts_of (algorithm.BC g) u1 u2 = bc_accepts g u1 u2

abbrev pub w_at : BetaAlgorithm → Float → Float
w_at (algorithm.BB g) u1 = beta_w g.a g.beta u1
w_at (algorithm.BC g) u1 = beta_w g.a g.beta u1

abbrev pub b_at : BetaAlgorithm → Float
b_at (algorithm.BB g) = g.b
b_at (algorithm.BC g) = g.b

abbrev pub tested_of : BetaAlgorithm → Float → Float → Tested
tested_of m u1 u2 = judged (accepts_of m u1 u2) (w_at m u1)
