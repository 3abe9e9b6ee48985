-- A search whose values are scaled afterwards is the search of the scaled trials.
use mathlib.Core.Path.{◌≡◌}
use lib.ListN.{length}
use lib.Ieee.{Float}
use Rattle.draws.specs.Draws.{Lent, Drawn}
use Rattle.draws.specs.Search.{searched, valued, finished}
use Rattle.draws.specs.declared.Positions.{Positions}
use Rattle.draws.proofs.Searches.{finish}
use Rattle.gamma.specs.declared.large.GammaLargeShape.{GammaLargeShape}
use Rattle.gamma.specs.Large.{large_trials, large_value, large_of}
use Rattle.gamma.proofs.Trials.{large_ends}

module _ (l : Lent) where
  -- v is scaled after the search
  pub scaled : (f : Float → Float) (g : GammaLargeShape) (p q : Positions) {x : Drawn} → x ≡ searched (large_trials g l q) q (length l.normals)
      → finished f p x ≡ searched (valued f (large_trials g l q)) p (length l.normals)
  scaled f g p q e = rw e (finish f (large_trials g l q) p q (length l.normals) (large_ends g l q))

  pub large_drawn : (g : GammaLargeShape) (p : Positions) {x : Drawn} → x ≡ searched (large_trials g l p) p (length l.normals) → finished (large_value g) p x ≡ large_of g l p
  unfolding large_of
  large_drawn g p e = scaled (large_value g) g p p e
