-- Document 01, 'Sampler rules', Gamma(shape, scale): the kinds Small and One, each by itself, in the document's order. Definitions only.
use Rattle.std.specs.Prelude.{ℕ, zero, suc, ◌+◌, Bool, true, false, length, Float, Err, Ok}
use Rattle.kernels.specs.Numbers.{◌⊕◌, ◌⊗◌, ◌⊘◌, one}
use Rattle.kernels.specs.Powf.{powf_of}
use Rattle.draws.specs.Draws.{Lent, place, past, usable, there, nth, refusal_at, read, Draw, Drawn}
use Rattle.draws.specs.Search.{Trials, searched, valued}
use Rattle.draws.specs.declared.{Positions.Positions, Kind.TheVariants.Uniform, Kind.TheVariants.Exponential}
use Rattle.gamma.specs.Large.{large_made, large_trials}
use Rattle.gamma.specs.declared.small.GammaSmallShape.{GammaSmallShape}

-- ---- the constructor
-- 'Small .. runs Large of shape + 1', and keeps 1/shape
unfoldable pub small_made : Float → Float → GammaSmallShape
small_made shape scale = record { inv_shape = one ⊘ shape; large_shape = large_made (shape ⊕ one) scale }

-- ---- the two kinds
-- 'value ((v·powf(u0, 1/shape))·d)·scale'
unfoldable pub small_value : GammaSmallShape → Float → Float → Float
small_value g u0 v = ((v ⊗ powf_of u0 g.inv_shape) ⊗ g.large_shape.d) ⊗ g.large_shape.scale

-- One 'returns an exponential times it; its only trial is the next exponential, accepted when usable'
unfoldable pub one_trials : Float → Lent → Positions → Trials
one_trials s l p =
    let e = nth Exponential l p 0 in
    record {
      whole = λ k. only k (there Exponential l p 0);
      usable = λ k. usable Exponential e;
      accepted = λ k. true;
      value = λ k. e ⊗ s;
      after = λ k. past Exponential 1 p;
      refusal = λ k. refusal_at Exponential l.exponentials (place Exponential p + 0);
      examined = λ k. past Exponential 1 p;
    }
  where
    only : ℕ → Bool → Bool
    only zero b = b
    only (suc k) b = false

-- ---- sampling, as a rule that computes; a whole trial of Large has its normal, so there are fewer than the slice is long
unfoldable pub small_from : GammaSmallShape → Lent → Positions → Draw → Drawn
small_from g l p (Ok (u0, q)) = searched (valued (small_value g u0) (large_trials g.large_shape l q)) p (length l.normals)
small_from g l p (Err r) = Err (r, p)

unfoldable pub one_of : Float → Lent → Positions → Drawn
one_of s l p = searched (one_trials s l p) p 1

unfoldable pub small_of : GammaSmallShape → Lent → Positions → Drawn
small_of g l p = small_from g l p (read Uniform l.uniforms p)
