-- Document 01, 'Values at the edges', the rows marked P: a call, the draws lent to it, and its outcome. A number is the word of its 64 bits.
-- Definitions only.
use Rattle.std.specs.Prelude.{ℕ, List, [], ◌∷◌, map, length, Result, Ok, Err, Float}
use Rattle.std.specs.Float.{binary64}
use Rattle.std.specs.Float.Ieee.{of_bits}
use Rattle.words.specs.Words.{word_of_lem}
use Rattle.draws.specs.Draws.{Lent, lent, origin, Drawn}
use Rattle.draws.specs.Fill.{Samples, all, stopped}
use Rattle.draws.specs.declared.Positions.{Positions}
use Rattle.gamma.specs.Gamma.{gamma_made, gamma_of}
use Rattle.beta.specs.Beta.{beta_made, beta_of}
use Rattle.student_t.specs.StudentT.{student_made, student_of}
use Rattle.dirichlet_alpha.specs.Alpha.{checked_of, Checked}
use Rattle.dirichlet.specs.Dirichlet.{vector_of}

pub data Call : Type 0 where
  Beta Gamma : ℕ → ℕ → Call
  StudentT : ℕ → Call
  Dirichlet : List ℕ → Call

-- the values, and how many uniforms, normals and exponentials were used; or a refusal, which no row has
pub data Outcome : Type 0 where
  given : List ℕ → ℕ → ℕ → ℕ → Outcome
  refused : Outcome

abbrev pub float : ℕ → Float
float b = of_bits binary64 b

-- ---- what the rules answer to a call from the start of the draws
abbrev sampled : Drawn → Outcome
sampled (Ok (v, q)) = given (word_of_lem v ∷ []) q.uniform.0 q.normal.0 q.exponential.0
sampled (Err (r, q)) = refused

abbrev filled : Samples → Outcome
filled (all vs q) = given (map word_of_lem vs) q.uniform.0 q.normal.0 q.exponential.0
filled (stopped r) = refused

-- of what a constructor made, s being what its samples are
abbrev of_made : {S E : Type 0} → (S → Lent → Positions → Drawn) → Result S E → Lent → Outcome
of_made s (Ok g) l = sampled (s g l origin)
of_made s (Err e) l = refused

abbrev of_dirichlet : Checked → List Float → Lent → Outcome
of_dirichlet (Ok u) alpha l = filled (vector_of alpha l origin)
of_dirichlet (Err r) alpha l = refused

unfoldable pub outcome_at : Call → Lent → Outcome
outcome_at (Beta a b) l = of_made beta_of (beta_made (float a) (float b)) l
outcome_at (Gamma shape scale) l = of_made gamma_of (gamma_made (float shape) (float scale)) l
outcome_at (StudentT nu) l = of_made student_of (student_made (float nu)) l
outcome_at (Dirichlet alpha) l = of_dirichlet (checked_of (map float alpha) (length alpha)) (map float alpha) l

-- ---- the table
pub record Row : Type 0 where
  pub call : Call
  pub uniforms : List ℕ
  pub normals : List ℕ
  pub exponentials : List ℕ
  pub outcome : Outcome

abbrev pub draws_of : Row → Lent
draws_of r = lent (map float r.uniforms) (map float r.normals) (map float r.exponentials)

unfoldable pub computed : Row → Outcome
computed r = outcome_at r.call (draws_of r)

abbrev row : Call → List ℕ → List ℕ → List ℕ → Outcome → Row
row c us ns es o = record { call = c; uniforms = us; normals = ns; exponentials = es; outcome = o }

-- 1e200, to which Beta's row with a NaN gives both parameters
abbrev pub huge : ℕ
huge = 0x6974_e718_d7d7_625a

-- 0.5 twice
abbrev halves : List ℕ
halves = 0x3fe0_0000_0000_0000 ∷ 0x3fe0_0000_0000_0000 ∷ []

abbrev pub table : List Row
table =
    -- Beta(1,1): 0.5, two used
    row (Beta 0x3ff0_0000_0000_0000 0x3ff0_0000_0000_0000) halves [] [] (given (0x3fe0_0000_0000_0000 ∷ []) 2 0 0)
    -- Beta(2,5): 2/7 rounded
    ∷ row (Beta 0x4000_0000_0000_0000 0x4014_0000_0000_0000) halves [] [] (given (0x3fd2_4924_9249_2492 ∷ []) 2 0 0)
    -- Beta(5,2): 5/7 rounded
    ∷ row (Beta 0x4014_0000_0000_0000 0x4000_0000_0000_0000) halves [] [] (given (0x3fe6_db6d_b6db_6db7 ∷ []) 2 0 0)
    -- Beta(.5,.5), u .9375 .9375 .5 .5: 0.5, four used
    ∷ row (Beta 0x3fe0_0000_0000_0000 0x3fe0_0000_0000_0000) (0x3fee_0000_0000_0000 ∷ 0x3fee_0000_0000_0000 ∷ halves) [] [] (given (0x3fe0_0000_0000_0000 ∷ []) 4 0 0)
    -- Beta(1e200,1e200): 0.5, by a NaN that accepts
    ∷ row (Beta huge huge) halves [] [] (given (0x3fe0_0000_0000_0000 ∷ []) 2 0 0)
    -- Gamma(2,1), n -4 0, u .5: d; two normals, one uniform
    ∷ row (Gamma 0x4000_0000_0000_0000 0x3ff0_0000_0000_0000) (0x3fe0_0000_0000_0000 ∷ []) (0xc010_0000_0000_0000 ∷ 0 ∷ []) [] (given (0x3ffa_aaaa_aaaa_aaab ∷ []) 1 2 0)
    -- Gamma(1,2), e 1: 2
    ∷ row (Gamma 0x3ff0_0000_0000_0000 0x4000_0000_0000_0000) [] [] (0x3ff0_0000_0000_0000 ∷ []) (given (0x4000_0000_0000_0000 ∷ []) 0 0 1)
    -- StudentT(1), n 3 2: 1.5
    ∷ row (StudentT 0x3ff0_0000_0000_0000) [] (0x4008_0000_0000_0000 ∷ 0x4000_0000_0000_0000 ∷ []) [] (given (0x3ff8_0000_0000_0000 ∷ []) 0 2 0)
    -- Dirichlet(1,1), e 1 3: .25, .75
    ∷ row (Dirichlet (0x3ff0_0000_0000_0000 ∷ 0x3ff0_0000_0000_0000 ∷ [])) [] [] (0x3ff0_0000_0000_0000 ∷ 0x4008_0000_0000_0000 ∷ [])
    (given (0x3fd0_0000_0000_0000 ∷ 0x3fe8_0000_0000_0000 ∷ []) 0 0 2)
    -- Dirichlet(.1,.1), u .5 .5: .5, .5
    ∷ row (Dirichlet (0x3fb9_9999_9999_999a ∷ 0x3fb9_9999_9999_999a ∷ [])) halves [] [] (given halves 2 0 0)
    ∷ []
