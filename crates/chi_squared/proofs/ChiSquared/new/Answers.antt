-- Each return is the rule's at the answers to the tests. Gamma's constructor is given a shape and a scale above 0, so that it makes the rule's
-- sampler, and there is one to unwrap.
use mathlib.Core.Path.{◌≡◌, refl, sym, ◌∙◌}
use mathlib.Core.Bool.{Bool, true, false}
use lib.Ieee.{Float, lt, eq, round, of_bits}
use Rattle.kernels.specs.Numbers.{◌⊗◌, nought, one, half}
use Rattle.chi_squared.specs.ChiSquared.{made_case, chi_made}
use Rattle.chi_squared.proofs.Laws.{gamma_made_lem}
use Rattle.chi_squared.proofs.ChiSquared.new.Goals as goal

-- the rule, by the answers to its tests
by_tests : (k : Float) (a b : Bool) → eq k one ≡ a → lt nought (half ⊗ k) ≡ b → made_case a b k ≡ chi_made k
unfolding chi_made
by_tests k a b e f = rw (← e, ← f)

pub returns-then-k : goal.returns-then-k
unfolding made_case of_bits round
returns-then-k c = by_tests _ true _ c.if-k.true refl

pub returns-then-not-k : goal.returns-then-not-k
unfolding made_case of_bits round
returns-then-not-k c = by_tests _ false false c.if-k.false c.if-not-k.true

pub unwrap-requires : goal.unwrap-requires
unfolding of_bits round
unwrap-requires c = rw (c.new.ensures, gamma_made_lem c.args.k c.if-not-k.false)

pub returns : goal.returns
unfolding made_case of_bits round
returns c =
    let e = sym c.unwrap.ensures ∙ c.new.ensures ∙ gamma_made_lem c.args.k c.if-not-k.false in
    cc (by_tests _ false true c.if-k.false c.if-not-k.false)
