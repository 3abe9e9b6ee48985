-- The kernels at the edges of documents 01 and 02, by words of 64 bits (a NaN's is 7ff8000000000000). One table and one statement, which antt computes from the rules.
use Rattle.std.proofs.Common.{◌≡◌, ℕ, List, [], ◌∷◌, map, refl}
use lib.Ieee.{Float, binary64, of_bits, to_bits}
use Rattle.kernels.specs.Ln.{ln_of}
use Rattle.kernels.specs.Exp.{exp_of}
use Rattle.kernels.specs.Powf.{powf_of}
use Rattle.kernels.specs.Sqrt.{sqrt_of}
use Rattle.kernels.proofs.Open.{rules}

pub data Call : Type 0 where
  ln exp sqrt : ℕ → Call
  powf : ℕ → ℕ → Call

abbrev word : ℕ → Float
word b = of_bits binary64 b

unfoldable pub answer : Call → ℕ
answer (ln x) = to_bits binary64 (ln_of (word x))
answer (exp x) = to_bits binary64 (exp_of (word x))
answer (powf u y) = to_bits binary64 (powf_of (word u) (word y))
answer (sqrt x) = to_bits binary64 (sqrt_of (word x))

pub record Row : Type 0 where
  pub call : Call
  pub word_is : ℕ

infix 1 ◌gives◌
abbrev pub ◌gives◌ : Call → ℕ → Row
c gives w = record { call = c; word_is = w }

abbrev pub edges : List Row
edges =
    -- ln 1 is +0; either zero; below 0; plus infinity
    (ln 0x3ff0_0000_0000_0000 gives 0)
    ∷ (ln 0x8000_0000_0000_0000 gives 0xfff0_0000_0000_0000)
    ∷ (ln 0xbff0_0000_0000_0000 gives 0x7ff8_0000_0000_0000)
    ∷ (ln 0x7ff0_0000_0000_0000 gives 0x7ff0_0000_0000_0000)
    -- the smallest subnormal; ROOT exactly and one above
    ∷ (ln 1 gives 0xc087_4385_446d_71c3)
    ∷ (ln 0x3ff6_a09e_667f_3bcd gives 0x3fd6_2e42_fefa_39f1)
    ∷ (ln 0x3ff6_a09e_667f_3bce gives 0x3fd6_2e42_fefa_39f3)
    -- exp at 710 and just inside; at 0; at 1
    ∷ (exp 0x4086_3000_0000_0000 gives 0x7ff0_0000_0000_0000)
    ∷ (exp 0x4086_2fff_ffff_ffff gives 0x7ff0_0000_0000_0000)
    ∷ (exp 0 gives 0x3ff0_0000_0000_0000)
    ∷ (exp 0x3ff0_0000_0000_0000 gives 0x4005_bf0a_8b14_576a)
    -- exp at -708 and just above; the last normal answer and the first subnormal one
    ∷ (exp 0xc086_2000_0000_0000 gives 0x0017_c8ab_2288_c9ac)
    ∷ (exp 0xc086_1fff_ffff_ffff gives 0x0017_c8ab_2288_cca4)
    ∷ (exp 0xc086_232b_dd7a_bcd2 gives 0x0010_0000_0000_007c)
    ∷ (exp 0xc086_232b_dd7a_bcd3 gives 0x000f_ffff_ffff_fe7c)
    -- the last answer above 0, which is 2^-1074; +0 by rounding, next to it and just inside the limit; the limit, -746
    ∷ (exp 0xc087_4910_d52d_3051 gives 1)
    ∷ (exp 0xc087_4910_d52d_3052 gives 0)
    ∷ (exp 0xc087_4fff_ffff_ffff gives 0)
    ∷ (exp 0xc087_5000_0000_0000 gives 0)
    -- powf of the smallest subnormal and 1; powf(1, inf), (0, 0), (-2, 2) and (0.3, 2.5)
    ∷ (powf 1 0x3ff0_0000_0000_0000 gives 1)
    ∷ (powf 0x3ff0_0000_0000_0000 0x7ff0_0000_0000_0000 gives 0x7ff8_0000_0000_0000)
    ∷ (powf 0 0 gives 0x7ff8_0000_0000_0000)
    ∷ (powf 0xc000_0000_0000_0000 0x4000_0000_0000_0000 gives 0x7ff8_0000_0000_0000)
    ∷ (powf 0x3fd3_3333_3333_3333 0x4004_0000_0000_0000 gives 0x3fa9_3d32_bcea_fc28)
    -- sqrt of -0, of the smallest subnormal, of 2, of the largest number, of -1
    ∷ (sqrt 0x8000_0000_0000_0000 gives 0x8000_0000_0000_0000)
    ∷ (sqrt 1 gives 0x1e60_0000_0000_0000)
    ∷ (sqrt 0x4000_0000_0000_0000 gives 0x3ff6_a09e_667f_3bcd)
    ∷ (sqrt 0x7fef_ffff_ffff_ffff gives 0x5fef_ffff_ffff_ffff)
    ∷ (sqrt 0xbff0_0000_0000_0000 gives 0x7ff8_0000_0000_0000)
    ∷ []

pub edges_hold : map (λ (r : Row). answer r.call) edges ≡ map (λ (r : Row). r.word_is) edges
unfolding rules to_bits answer
edges_hold = refl
