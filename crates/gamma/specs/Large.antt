-- Document 01, 'Sampler rules', Gamma(shape, scale): the kind Large by itself, in the document's order. Definitions only.
use Rattle.std.specs.Prelude.{ℕ, zero, suc, ◌+◌, Bool, cond, not, ◌&&◌, ◌||◌, length, Float}
use Rattle.std.specs.Float.Ieee.{lt, le}
use Rattle.kernels.specs.Numbers.{◌⊕◌, ◌⊖◌, ◌⊗◌, ◌⊘◌, quotient, nought, one, half}
use Rattle.kernels.specs.Ln.{ln_of}
use Rattle.kernels.specs.Sqrt.{sqrt_of}
use Rattle.draws.specs.Draws.{Lent, place, past, usable, there, nth, refusal_at, Drawn}
use Rattle.draws.specs.Search.{Trials, searched, valued}
use Rattle.draws.specs.declared.{Positions.Positions, Kind.TheVariants.Uniform, Kind.TheVariants.Normal}
use Rattle.gamma.specs.declared.large.GammaLargeShape.{GammaLargeShape}

-- ---- the constructor
-- 'Large keeps scale, d = shape - (1/3), c = 1/sqrt(9·d).'
unfoldable pub large_made : Float → Float → GammaLargeShape
large_made shape scale =
    let d = shape ⊖ quotient 1 3 in
    record { scale = scale; c = one ⊘ sqrt_of (quotient 9 1 ⊗ d); d = d }

-- ---- a trial of Large
-- 'w = 1 + c·x. If w <= 0 it is rejected and reads no uniform.'
unfoldable pub large_w : GammaLargeShape → Float → Float
large_w g x = one ⊕ g.c ⊗ x

unfoldable pub drops : GammaLargeShape → Float → Bool
drops g x = le (large_w g x) nought

-- 'v = (w·w)·w'
unfoldable pub large_v : GammaLargeShape → Float → Float
large_v g x = (large_w g x ⊗ large_w g x) ⊗ large_w g x

-- 'u < 1 - (0.0331·x²)·x²', x² rounded first
unfoldable pub squeezes : Float → Float → Bool
squeezes x u = let s = x ⊗ x in lt u (one ⊖ (quotient 331 10000 ⊗ s) ⊗ s)

-- 'ln u < 0.5·x² + d·((1 - v) + ln v)'
unfoldable pub log_accepts : GammaLargeShape → Float → Float → Bool
log_accepts g x u = let s = x ⊗ x in let v = large_v g x in lt (ln_of u) (half ⊗ s ⊕ g.d ⊗ ((one ⊖ v) ⊕ ln_of v))

unfoldable pub accepts : GammaLargeShape → Float → Float → Bool
accepts g x u = squeezes x u || log_accepts g x u

-- 'the count of earlier trials that read one'
unfoldable pub used : GammaLargeShape → Lent → Positions → ℕ → ℕ
used g l p zero = 0
used g l p (suc k) = used g l p k + cond (drops g (nth Normal l p k)) 0 1

-- 'Trials and draws are numbered from 0 at the position where the sampler starts. Trial k reads normal x number k. .. Else it reads the uniform u
-- whose number is the count of earlier trials that read one.' The value is v, which Large and Small scale.
module _ (g : GammaLargeShape) (l : Lent) (p : Positions) where
  abbrev pub x_at : ℕ → Float
  x_at k = nth Normal l p k

  abbrev pub u_at : ℕ → Float
  u_at k = nth Uniform l p (used g l p k)

  abbrev pub normal_usable : ℕ → Bool
  normal_usable k = there Normal l p k && usable Normal (x_at k)

  unfoldable pub large_trials : Trials
  large_trials = record {
    whole = λ k. there Normal l p k && (drops g (x_at k) || there Uniform l p (used g l p k));
    usable = λ k. usable Normal (x_at k) && (drops g (x_at k) || usable Uniform (u_at k));
    accepted = λ k. not (drops g (x_at k)) && accepts g (x_at k) (u_at k);
    value = λ k. large_v g (x_at k);
    after = λ k. past Uniform (used g l p (suc k)) (past Normal (suc k) p);
    refusal = λ k. cond (normal_usable k) (refusal_at Uniform l.uniforms (place Uniform p + used g l p k)) (refusal_at Normal l.normals (place Normal p + k));
    examined = λ k. past Uniform (used g l p k + cond (normal_usable k) 1 0) (past Normal (suc k) p);
  }

-- ---- the sample
-- 'Value v·(d·scale).'
unfoldable pub large_value : GammaLargeShape → Float → Float
large_value g v = v ⊗ (g.d ⊗ g.scale)

-- A rule that computes; a whole trial has its normal, so there are fewer than the slice is long.
unfoldable pub large_of : GammaLargeShape → Lent → Positions → Drawn
large_of g l p = searched (valued (large_value g) (large_trials g l p)) p (length l.normals)
