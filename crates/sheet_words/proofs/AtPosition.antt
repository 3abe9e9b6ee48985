-- Reading at a position: the byte there stands in front of those past it, so `fixed` and `hex_from` of what is left take one step, find a
-- wrong byte, or find the end, as the loops of `past` and `word` do. k digits after a number n stay below 2^64 where (n + 1)·16^k is at
-- most that, which is so of 16 digits after none. Assumes nothing.
use Prim.Native.Nat.{ℕ, zero, suc, ◌+◌, ◌*◌, ◌-◌, ◌^◌, ◌≤◌, ◌<◌}
use native.Mathlib.Nat.{pow-succ', mul-le-mul_right, mul_assoc, le_trans, le-mul_of_pos_right, pow-le-pow_right}
use native.Mathlib.Numerals.{add-one}
use native.Mathlib.Omega.{arith}
use mathlib.Core.Path.{◌≡◌, refl, sym, ap, ◌∙◌, subst}
use mathlib.Core.List.{List, [], ◌∷◌}
use lib.ListN.{length, drop, get_or, drop_of_length-le}
use lib.Seq.{drop-cons}
use borrow.Author.Tests.{eq-eqb, ne_eqb}
use Rattle.std.specs.Prelude.{Option, Some, None, Result, Err, IsErrAnd, ok_or}
use Rattle.std.proofs.lemmas.Result.{err_from_is_err_and}
use Rattle.std.proofs.lemmas.Bool.Decides.{nat_tests}
use Rattle.sheet_words.specs.Bytes.{got, fault, fixed, digit_value, from_digit, hex_from}
use Rattle.sheet_words.specs.Inner.{ByteAt}
use Rattle.sheet_words.specs.declared.{Fault.Fault, Fault.TheVariants.Wrong, Fault.TheVariants.Ended}

pub byte_at : (l : List ℕ) (j : ℕ) → j < length l → drop j l ≡ get_or l j 0 ∷ drop (j + 1) l
byte_at l j h = rw (add-one, drop-cons l j 0)

pub one_less : (k : ℕ) → suc k - 1 ≡ k
one_less k = omega arith

-- what an answer r that shows g says of g, once its case is known
pub told : {R G : Type 0} (shown : R → G) {r r' : R} {g : G} → shown r ≡ g → r ≡ r' → g ≡ shown r'
told shown h e = sym h ∙ ap shown e

-- an answer's case says what it stands for, and what else is promised of it
pub told_in : {R : Type 0} (In : R → Type 0) {r r' : R} → In r → r ≡ r' → In r'
told_in In h e = subst In e h

-- what the exit of a `?` answers: the error that it met
pub handed_on : {T E : Type 0} (r : Result T E) {e : E} → IsErrAnd r (λ f. f ≡ e) → r ≡ Err e
handed_on r h = let p = err_from_is_err_and r h in p.1 ∙ ap Err p.2

-- why there is no value
pub lacking : {A : Type 0} (o : Option A) {f e : Fault} → ◌≡◌ {A = Result A Fault} (Err e) (ok_or o f) → (o ≡ None) × (e ≡ f)
lacking None h = (refl, cc)
lacking (Some a) h = absurd (cc)

-- ---- a fixed text, of which i bytes were met

module _ (t : List ℕ) (i : ℕ) (m : i < length t) where
  pub fixed_ended : {b : List ℕ} → b ≡ [] → fixed (drop i t) b ≡ fault Ended
  unfolding fixed
  fixed_ended e = rw (byte_at t i m, e)

  module _ {l : List ℕ} {j x : ℕ} (b : ByteAt l j x) where
    pub fixed_wrong : (x ≡ get_or t i 0 → ⊥) → fixed (drop i t) (drop j l) ≡ fault Wrong
    unfolding fixed
    fixed_wrong e = rw (byte_at t i m, b.stands, ne_eqb x (get_or t i 0) e)

    pub fixed_step : x ≡ get_or t i 0 → fixed (drop i t) (drop j l) ≡ fixed (drop (i + 1) t) (drop (j + 1) l)
    unfolding fixed
    fixed_step e = rw (byte_at t i m, b.stands, eq-eqb x (get_or t i 0) e)

pub fixed_done : (t b : List ℕ) (i : ℕ) → length t ≤ i → fixed (drop i t) b ≡ got tt b
unfolding fixed
fixed_done t b i h = rw (drop_of_length-le t h)

-- ---- a number, of which k digits are left

pub hex_ended : (k n : ℕ) {b : List ℕ} → 0 < k → b ≡ [] → hex_from k n b ≡ fault Ended
unfolding hex_from
hex_ended zero n p e = absurd (omega arith)
hex_ended (suc k) n p e = rw e

hex_first : (k n x : ℕ) (b : List ℕ) → 0 < k → hex_from k n (x ∷ b) ≡ from_digit (digit_value x) (λ d. hex_from (k - 1) (n * 16 + d) b)
unfolding hex_from
hex_first zero n x b p = absurd (omega arith)
hex_first (suc k) n x b p = rw one_less

module _ (k n : ℕ) {l : List ℕ} {j x : ℕ} (p : 0 < k) (b : ByteAt l j x) where
  hex_byte : hex_from k n (drop j l) ≡ from_digit (digit_value x) (λ d. hex_from (k - 1) (n * 16 + d) (drop (j + 1) l))
  hex_byte = rw b.stands (hex_first k n x (drop (j + 1) l) p)

  pub hex_wrong : digit_value x ≡ None → hex_from k n (drop j l) ≡ fault Wrong
  hex_wrong e = hex_byte ∙ rw e

  pub hex_step : {d : ℕ} → digit_value x ≡ Some d → hex_from k n (drop j l) ≡ hex_from (k - 1) (n * 16 + d) (drop (j + 1) l)
  hex_step e = hex_byte ∙ rw e

pub hex_done : (k n : ℕ) (b : List ℕ) → k ≤ 0 → hex_from k n b ≡ got n b
unfolding hex_from
hex_done zero n b h = refl
hex_done (suc k) n b h = absurd (omega arith)

abbrev pub Room : ℕ → ℕ → Type 0
Room k n = (n + 1) * 16 ^ k ≤ 2 ^ 64

-- a digit is below 16
pub digit_small : (x : ℕ) {d : ℕ} → digit_value x ≡ Some d → d < 16
unfolding digit_value
digit_small x e = grind (arith, nat_tests)

pub room_step : (k n d : ℕ) → 0 < k → d < 16 → Room k n → Room (k - 1) (n * 16 + d)
room_step zero n d p h r = absurd (omega arith)
room_step (suc k) n d p h r =
    let e : (n + 1) * 16 * 16 ^ k ≡ (n + 1) * 16 ^ suc k = mul_assoc (n + 1) 16 (16 ^ k) ∙ ap (λ (x : ℕ). (n + 1) * x) (sym (pow-succ' 16 k)) in
    rw one_less (le_trans (mul-le-mul_right (16 ^ k) (omega arith)) (subst (λ (x : ℕ). x ≤ 2 ^ 64) (sym e) r))

pub room_fits : (k n : ℕ) → Room k n → n < 2 ^ 64
room_fits k n r = omega (arith, le-mul_of_pos_right (n + 1) (pow-le-pow_right {n = 16} (omega arith) {i = 0} {j = k} (omega arith)))
