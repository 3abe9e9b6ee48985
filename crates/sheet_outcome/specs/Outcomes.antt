-- Document 01, 'The sheet': the outcome of a sampler's call from the start of the draws. Definitions only.
use Rattle.std.specs.Prelude.{ℕ, Result, Ok, Err, Float}
use Rattle.words.specs.Words.{word_of_lem}
use Rattle.draws.specs.Draws.{Lent, Drawn, origin}
use Rattle.draws.specs.Refusals.{named, numbered as number_alone}
use Rattle.draws.specs.declared.{Positions.Positions, numbers.Named.Named}
use Rattle.gamma.specs.Gamma.{Made as GammaMade, gamma_made, gamma_of, error_number as gamma_number}
use Rattle.beta.specs.Beta.{Made as BetaMade, beta_made, beta_of, error_number as beta_number}
use Rattle.chi_squared.specs.ChiSquared.{Made as ChiMade, chi_made, chi_of, error_number as chi_number}
use Rattle.fisher_f.specs.FisherF.{Made as FisherMade, fisher_made, fisher_of, error_number as fisher_number}
use Rattle.student_t.specs.StudentT.{Made as StudentMade, student_made, student_of}
use Rattle.sheet_lines.specs.declared.{Sampler.Sampler, Sampler.TheVariants.Gamma, Sampler.TheVariants.Beta, Sampler.TheVariants.Chi, Sampler.TheVariants.Fisher, Sampler.TheVariants.Student}

-- a sample's 64 bits and the positions past its draws, or a refusal's numbers
abbrev pub Outcome : Type 0
Outcome = Result (ℕ × Positions) Named

-- 'A refusal writes .. code, kind, at .., 0 where there is none': a constructor's has a number alone
abbrev pub numbered : ℕ → Outcome
numbered n = Err (number_alone n 0)

abbrev pub refusal : Named → Outcome
refusal r = Err r

-- a sample as its 64 bits, with the draws of each kind that were used; from the start of a slice that is the position past them
abbrev pub sample_outcome_lem : Drawn → Outcome
sample_outcome_lem (Ok (v, q)) = Ok (word_of_lem v, q)
sample_outcome_lem (Err (r, q)) = refusal (named r)

-- ---- 'Samplers: gamma, beta, chi, fisher, student': the constructor's refusal, or a sample from the start of the draws
abbrev pub by_made : {S E : Type 0} → (S → Lent → Positions → Drawn) → (E → ℕ) → Result S E → Lent → Outcome
by_made s n (Ok g) l = sample_outcome_lem (s g l origin)
by_made s n (Err e) l = numbered (n e)

abbrev pub by_gamma : GammaMade → Lent → Outcome
by_gamma = by_made gamma_of gamma_number

abbrev pub by_beta : BetaMade → Lent → Outcome
by_beta = by_made beta_of beta_number

abbrev pub by_chi : ChiMade → Lent → Outcome
by_chi = by_made chi_of chi_number

abbrev pub by_fisher : FisherMade → Lent → Outcome
by_fisher = by_made fisher_of fisher_number

abbrev pub by_student : StudentMade → Lent → Outcome
by_student = by_made student_of chi_number

unfoldable pub sampled_of : Sampler → Float → Float → Lent → Outcome
sampled_of Gamma a b l = by_gamma (gamma_made a b) l
sampled_of Beta a b l = by_beta (beta_made a b) l
sampled_of Chi a b l = by_chi (chi_made a) l
sampled_of Fisher a b l = by_fisher (fisher_made a b) l
sampled_of Student a b l = by_student (student_made a) l
