-- Document 01, 'Sampler rules', Dirichlet: the route that alpha takes, its vector, and the call. Definitions only.
use Rattle.std.specs.Prelude.{◌≡◌, List, Bool, true, false, cond, length, Float}
use Rattle.kernels.specs.Numbers.{one}
use Rattle.draws.specs.Draws.{Lent}
use Rattle.draws.specs.Fill.{Samples}
use Rattle.draws.specs.declared.{Positions.Positions, Refusal.Refusal}
use Rattle.dirichlet_alpha.specs.Alpha.{all_small_lem}
use Rattle.dirichlet_alpha.specs.Answers.{ready_of, Answers, Answer}
use Rattle.dirichlet.specs.FromGamma.{gamma_vector, gammas_of, GammasFound, GammasLacking}
use Rattle.dirichlet.specs.FromBeta.{beta_vector, betas_of, BetasFound, BetasLacking}

-- 'If all are <= 0.1 the Beta route': the vector of a checked alpha, what #107 wraps
unfoldable pub vector_of : List Float → Lent → Positions → Samples
vector_of alpha l p = cond (all_small_lem alpha) (betas_of alpha l p) (gammas_of alpha l p)

-- Which draws a vector used, by number: those of the first component's sentence, then from its end those of the second, and so on
abbrev pub found_by : Bool → List Float → Lent → Positions → List Float → Positions → Type 0
found_by true alpha l p out q = (bs : List Float) × BetasFound alpha l p bs q × (out ≡ beta_vector one bs)
found_by false alpha l p out q = (vs : List Float) × GammasFound alpha l p vs q × (out ≡ gamma_vector vs)

abbrev pub VectorFound : List Float → Lent → Positions → List Float → Positions → Type 0
VectorFound alpha = found_by (all_small_lem alpha) alpha

-- The other outcome, by number: the first component that can't be had; those before it are found, and r is its refusal where they end
abbrev pub lacking_by : Bool → List Float → Lent → Positions → Refusal → Type 0
lacking_by true alpha l p r = BetasLacking alpha l p r
lacking_by false alpha l p r = GammasLacking alpha l p r

abbrev pub VectorLacking : List Float → Lent → Positions → Refusal → Type 0
VectorLacking alpha = lacking_by (all_small_lem alpha) alpha

-- the call: its answer, and what it leaves in every cell of the output
abbrev pub Dirichlets : List Float → Lent → Positions → List Float → Answer → List Float → Type 0
Dirichlets alpha l p out = Answers (ready_of alpha (length out) l p) (vector_of alpha l p) p out
