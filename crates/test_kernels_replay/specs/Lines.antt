-- A line of the recorded list: the kernel's letter, two arguments and the answer, each 16 lowercase hexadecimal digits after a space, and a line feed. Definitions only.
use Rattle.std.specs.Prelude.{ℕ, List, Bool, false, cond, ◌&&◌, eqb, get_or, drop, Float, Option, Some, None}
use Rattle.std.specs.Float.{binary64}
use Rattle.std.specs.Float.Ieee.{of_bits}
use Rattle.kernels.specs.Ln.{ln_of}
use Rattle.kernels.specs.Exp.{exp_of}
use Rattle.kernels.specs.Powf.{powf_of}
use Rattle.kernels.specs.Sqrt.{sqrt_of}
use Rattle.words.specs.Words.{word_of_lem}
use Rattle.sheet_words.specs.Bytes.{Got, got, fault, word}

-- the word that was read, or that there is none, whatever the fault
abbrev pub read_of : Got ℕ → Option ℕ
read_of (got n b) = Some n
read_of (fault e) = None

-- the field from `at` on, whose digits are a sheet's
unfoldable pub field_of : ℕ → List ℕ → Option ℕ
field_of at b = read_of (word (drop at b))

-- l, e, p, s: ln, exp, powf, sqrt
unfoldable pub call_of : ℕ → Float → Float → Option Float
call_of k x y =
    cond (eqb k 108) (Some (ln_of x))
    (cond (eqb k 101) (Some (exp_of x))
    (cond (eqb k 112) (Some (powf_of x y))
    (cond (eqb k 115) (Some (sqrt_of x)) None)))

-- the recorded word says x; any NaN's word says NaN
unfoldable pub same_answer : ℕ → Float → Bool
same_answer w x = eqb (word_of_lem (of_bits binary64 w)) (word_of_lem x)

unfoldable pub spaced_of : List ℕ → Bool
spaced_of b = eqb (get_or b 1 0) 32 && eqb (get_or b 18 0) 32 && eqb (get_or b 35 0) 32 && eqb (get_or b 52 0) 10

unfoldable pub answered_of : ℕ → Option Float → Bool
answered_of w (Some x) = same_answer w x
answered_of w None = false

-- the letter, the two arguments and the answer
unfoldable pub told_of : ℕ → Option ℕ → Option ℕ → Option ℕ → Bool
told_of k (Some x) (Some y) (Some w) = answered_of w (call_of k (of_bits binary64 x) (of_bits binary64 y))
told_of k (Some x) (Some y) None = false
told_of k (Some x) None a = false
told_of k None y a = false

unfoldable pub agrees_of : List ℕ → Bool
agrees_of b = spaced_of b && told_of (get_or b 0 0) (field_of 2 b) (field_of 19 b) (field_of 36 b)
