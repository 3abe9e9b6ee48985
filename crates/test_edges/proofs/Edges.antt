-- The rules compute: opened down to numbers, each row's call comes to the outcome that stands in the table.
use Prim.Native.Nat.{ℕ}
use mathlib.Core.Path.{◌≡◌, refl}
use mathlib.Core.Bool.{true}
use mathlib.Core.List.{map}
use lib.Ieee.{nan, eq, to_bits}
use Rattle.kernels.specs.Numbers.{half}
use Rattle.kernels.proofs.Open.{rules}
use Rattle.words.specs.Words.{word_of_lem}
use Rattle.draws.specs.Draws.{placed, usable, read}
use Rattle.draws.specs.Search.{from}
use Rattle.draws.specs.Fill.{samples}
use Rattle.gamma.specs.Large.{large_made, large_w, drops, large_v, squeezes, log_accepts, accepts, used, large_trials, large_value, large_of}
use Rattle.gamma.specs.Small.{small_made, small_value, one_trials, small_from, one_of, small_of}
use Rattle.gamma.specs.Gamma.{kind_made, made_case as gamma_case, gamma_made, kind_of, gamma_of}
use Rattle.beta.specs.Algorithm.{bb_made, bc_made, beta_v, beta_w, bb_s, bb_compared, bb_accepts, bb_tested, step5_accepts, step5_of, bc_accepts, bc_tested}
use Rattle.beta.specs.declared.algorithm.BetaAlgorithm.TheVariants as algorithm
use Rattle.beta.specs.Beta.{sorted_case, sorted_made, ordered, made_case as beta_case, beta_made, final_case, final_of, beta_trials, beta_of}
use Rattle.chi_squared.specs.ChiSquared.{made_case as chi_case, chi_made, chi_of}
use Rattle.student_t.specs.StudentT.{student_made, student_of}
use Rattle.dirichlet_alpha.specs.Alpha.{judged, element_of, scanned, checked_of, all_small_lem}
use Rattle.dirichlet.specs.FromGamma.{sum_from, gamma_vector, gamma_route, gamma_at}
use Rattle.dirichlet.specs.FromBeta.{beta_vector, beta_route, tail_sum, beta_at}
use Rattle.dirichlet.specs.Dirichlet.{vector_of}
use Rattle.test_edges.specs.Edges.{Row, float, outcome_at, computed, huge, table}
use Rattle.std.specs.Prelude.{Ok}

-- the samplers' rules, for an `unfolding` line
unfoldable samplers : ℕ
unfolding placed usable read from samples large_made small_made kind_made gamma_case gamma_made large_w drops large_v squeezes log_accepts accepts used large_trials large_value small_value one_trials small_from one_of small_of large_of kind_of gamma_of bb_made bc_made sorted_case sorted_made ordered beta_case beta_made beta_v beta_w bb_accepts bb_tested step5_accepts step5_of bc_accepts bc_tested final_case final_of beta_trials beta_of chi_case chi_made chi_of student_made student_of judged element_of scanned checked_of all_small_lem sum_from gamma_vector beta_vector gamma_route beta_route tail_sum gamma_at beta_at vector_of
samplers = 0

pub edges : map computed table ≡ map (λ (r : Row). r.outcome) table
unfolding rules samplers eq to_bits word_of_lem outcome_at computed
edges = refl

-- Beta(1e200,1e200), 'by a NaN that accepts': steps 2 and 3 compare s, which is NaN, and so don't hold; what step 4 compares is NaN and not less
pub nan_accepts : (beta_made (float huge) (float huge) ≡ Ok (record { switched_params = true; algorithm = algorithm.BB (bb_made (float huge) (float huge)) }))
    × (bb_s (bb_made (float huge) (float huge)) half ≡ nan) × (bb_compared (bb_made (float huge) (float huge)) half ≡ nan) × (bb_accepts (bb_made (float huge) (float huge)) half half ≡ true)
unfolding rules samplers eq
nan_accepts = (refl, refl, refl, refl)
