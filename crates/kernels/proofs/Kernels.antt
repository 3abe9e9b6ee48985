-- What a caller may know of the kernels' rules: each answer is a value of binary64, and document 02's four facts (#110), 'ln is finite on finite positive
-- numbers, ln 1 is 0, exp of a number is a number, and exp is at least 0'. An infinity is a number, and a subnormal is a positive number.
use Rattle.std.proofs.Common.{◌≡◌, zero, suc, Bool, true, false, T, ℤ, refl}
use lib.Ieee.{Float, nan, inf, fin, binary64, lt, le, is_nan, fits}
use lib.Ieee.Bits.{is_true}
use lib.Ieee.Fits.{add-fits, mul-fits}
use Rattle.kernels.specs.Numbers.{ROOT, nought, one, finite, clear}
use Rattle.kernels.specs.Ln.{ln_sum_lem, ln_halved, ln_at_lem, ln_of, significand, exponent}
use Rattle.kernels.specs.Exp.{exp_scaled_lem, exp_at_lem, exp_between_lem, exp_case, exp_of}
use Rattle.kernels.specs.Powf.{powf_of}
use Rattle.kernels.proofs.Open.{rules}
use Rattle.kernels.proofs.Lows.{clear_number, clear_le}
use Rattle.kernels.proofs.LnBounds as ln-bounds
use Rattle.kernels.proofs.ExpBounds as exp-bounds

pub ln_finite : (x : Float) → T (fits binary64 x) → finite x ≡ true → lt nought x ≡ true → finite (ln_of x) ≡ true
ln_finite = ln-bounds.ln_finite

pub ln_one : ln_of one ≡ nought
unfolding rules
ln_one = refl

-- its sign is clear
pub exp_clear : (x : Float) → is_nan x ≡ false → T (clear (exp_of x))
exp_clear = exp-bounds.exp_clear

pub exp_number : (x : Float) → is_nan x ≡ false → is_nan (exp_of x) ≡ false
exp_number x n = clear_number (exp_of x) (exp_clear x n)

pub exp_not_negative : (x : Float) → is_nan x ≡ false → le nought (exp_of x) ≡ true
exp_not_negative x n = is_true (le nought (exp_of x)) (clear_le (exp_of x) (exp_clear x n))

halved_fits : (t : Bool) (m : Float) (e : ℤ) → T (fits binary64 (ln_halved t m e))
unfolding ln_halved ln_sum_lem
halved_fits true m e = add-fits binary64 _ _
halved_fits false m e = add-fits binary64 _ _

pub ln_fits : (x : Float) → T (fits binary64 (ln_of x))
unfolding ln_of ln_at_lem fits
ln_fits nan = tt
ln_fits (inf true) = tt
ln_fits (inf false) = tt
ln_fits (fin true zero e) = tt
ln_fits (fin false zero e) = tt
ln_fits (fin true (suc n) e) = tt
ln_fits (fin false (suc n) e) = halved_fits (lt ROOT (significand (suc n))) (significand (suc n)) (exponent (suc n) e)

case_fits : (a b c : Bool) (x : Float) → T (fits binary64 (exp_case a b c x))
unfolding exp_case exp_between_lem exp_at_lem exp_scaled_lem fits
case_fits true b c x = tt
case_fits false true c x = tt
case_fits false false true x = tt
case_fits false false false x = mul-fits binary64 _ _

pub exp_fits : (x : Float) → T (fits binary64 (exp_of x))
unfolding exp_of
exp_fits x = case_fits _ _ _ x

pub powf_fits : (u y : Float) → T (fits binary64 (powf_of u y))
unfolding powf_of
powf_fits u y = exp_fits _
