-- 16 hex digits are read as the number that they are the digits of, and as no other. The digits of a number are told from its last one, and
-- read from the first: so one digit more is read after the others. Assumes nothing.
use Prim.Native.Nat.{ℕ, zero, suc, ◌+◌, ◌*◌, ◌/◌, ◌%◌, ◌^◌, ◌<◌}
use native.Mathlib.Nat.{pow-suc, mul_assoc}
use native.Mathlib.Omega.{arith}
use mathlib.Core.Path.{◌≡◌, refl, sym, ap, ◌∙◌}
use mathlib.Core.List.{List, [], ◌∷◌, ◌++◌, append_assoc}
use mathlib.Core.Bool.{Bool, true, false, cond}
use lib.Dec.{eqb}
use borrow.Author.Tests.{eq-eqb, eqb-true}
use Rattle.std.specs.Prelude.{Option, Some, None}
use Rattle.std.proofs.lemmas.Bool.Decides.{nat_tests}
use Rattle.io.specs.Digits.{last_digits, hex_digit_ascii}
use Rattle.texts.specs.Numbers.{hex_text}
use Rattle.sheet_words.specs.Bytes.{Got, got, fault, then, gives, fixed, digit_value, from_digit, hex_from, word}
use Rattle.sheet_words.proofs.AtPosition.{digit_small}
use Rattle.sheet_words.specs.declared.Fault.TheVariants.{Wrong}

-- ---- what a reading that succeeded went through

pub cond_got : {A : Type 0} (t : Bool) {g : Got A} {v : A} {c : List ℕ} → cond t g (fault Wrong) ≡ got v c → (t ≡ true) × (g ≡ got v c)
cond_got true h = (refl, h)
cond_got false h = absurd (cc)

pub record Then {A B : Type 0} (g : Got A) (f : A → List ℕ → Got B) (v : B) (c : List ℕ) : Type 0 where
  pub first : A
  pub rest : List ℕ
  pub first_is : g ≡ got first rest
  pub then_is : f first rest ≡ got v c

pub then_got : {A B : Type 0} (g : Got A) (f : A → List ℕ → Got B) {v : B} {c : List ℕ} → then g f ≡ got v c → Then g f v c
then_got (got a b) f h = record { first = a; rest = b; first_is = refl; then_is = h }
then_got (fault e) f h = absurd (cc)

pub gives_got : {A B : Type 0} (x : B) (g : Got A) {v : B} {c : List ℕ} → gives x g ≡ got v c → (a : A) × (g ≡ got a c) × (v ≡ x)
gives_got x (got a b) h = (a, cc, cc)
gives_got x (fault e) h = absurd (cc)

-- ---- a fixed text

pub fixed_back : (t b : List ℕ) → fixed t (t ++ b) ≡ got tt b
unfolding fixed
fixed_back [] b = refl
fixed_back (k ∷ t) b = rw (eq-eqb k k refl) (fixed_back t b)

pub fixed_is : (t b : List ℕ) {u : Unit} {c : List ℕ} → fixed t b ≡ got u c → b ≡ t ++ c
unfolding fixed
fixed_is [] b h = cc
fixed_is (k ∷ t) [] h = absurd (cc)
fixed_is (k ∷ t) (x ∷ b) h =
    let p = cond_got (eqb x k) h in
    let e = eqb-true x k p.0 in
    let r = fixed_is t b p.1 in cc

-- ---- a digit

pub value_glyph : (d : ℕ) → d < 16 → digit_value (hex_digit_ascii d) ≡ Some d
unfolding digit_value
value_glyph d h = grind (arith, nat_tests)

pub glyph_value : (x : ℕ) {d : ℕ} → digit_value x ≡ Some d → hex_digit_ascii d ≡ x
unfolding digit_value
glyph_value x h = grind (arith, nat_tests)

digit_got : (o : Option ℕ) (f : ℕ → Got ℕ) {v : ℕ} {c : List ℕ} → from_digit o f ≡ got v c → (d : ℕ) × (o ≡ Some d) × (f d ≡ got v c)
digit_got (Some d) f h = (d, refl, h)
digit_got None f h = absurd (cc)

-- ---- a number

digit_then : (o : Option ℕ) (f g : ℕ → Got ℕ) (k : ℕ → List ℕ → Got ℕ) → ((d : ℕ) → f d ≡ then (g d) k) → from_digit o f ≡ then (from_digit o g) k
digit_then (Some d) f g k e = e d
digit_then None f g k e = refl

last_apart : (k n : ℕ) (b : List ℕ) → hex_from (suc k) n b ≡ then (hex_from k n b) (λ m c. hex_from 1 m c)
unfolding hex_from
last_apart zero n b = refl
last_apart (suc k) n [] = refl
last_apart (suc k) n (x ∷ b) =
    digit_then (digit_value x) _ (λ d. hex_from k (n * 16 + d) b) (λ m c. hex_from 1 m c) (λ d. last_apart k (n * 16 + d) b)

last_back : (n d : ℕ) (b : List ℕ) → d < 16 → hex_from 1 n (hex_digit_ascii d ∷ b) ≡ got (n * 16 + d) b
unfolding hex_from
last_back n d b h = rw (value_glyph d h)

digits_back : (k n m : ℕ) (b : List ℕ) → m < 16 ^ k → hex_from k n (last_digits 16 k m ++ b) ≡ got (n * 16 ^ k + m) b
unfolding hex_from
digits_back zero n m b h = ap (λ (v : ℕ). got v b) (omega arith)
digits_back (suc k) n m b h =
    let s : m < 16 ^ k * 16 = rw pow-suc at h in
    let d : m % 16 < 16 = omega arith in
    let e : n * (16 ^ k * 16) ≡ n * 16 ^ k * 16 = sym (mul_assoc n (16 ^ k) 16) in
    last_apart k n (last_digits 16 (suc k) m ++ b)
    ∙ rw (append_assoc, digits_back k n (m / 16) (hex_digit_ascii (m % 16) ∷ b) (omega arith))
    (last_back (n * 16 ^ k + m / 16) (m % 16) b d ∙ rw pow-suc (ap (λ (v : ℕ). got v b) (omega arith)))

record Last (u : ℕ) (d : List ℕ) (v : ℕ) (c : List ℕ) : Type 0 where
  byte : ℕ
  there : d ≡ byte ∷ c
  value : ℕ
  digit : digit_value byte ≡ Some value
  value_is : v ≡ u * 16 + value

last_is : (u : ℕ) (d : List ℕ) {v : ℕ} {c : List ℕ} → hex_from 1 u d ≡ got v c → Last u d v c
unfolding hex_from
last_is u [] h = absurd (cc)
last_is u (x ∷ d) h =
    let p = digit_got (digit_value x) _ h in
    record { byte = x; there = cc; value = p.0; digit = p.1; value_is = cc }

record Digits (k n : ℕ) (b : List ℕ) (v : ℕ) (c : List ℕ) : Type 0 where
  low : ℕ
  bound : low < 16 ^ k
  value_is : v ≡ n * 16 ^ k + low
  text_is : b ≡ last_digits 16 k low ++ c

whole_part : (q r : ℕ) → r < 16 → (q * 16 + r) / 16 ≡ q
whole_part q r h = omega arith

rest_part : (q r : ℕ) → r < 16 → (q * 16 + r) % 16 ≡ r
rest_part q r h = omega arith

digits_are : (k n : ℕ) (b : List ℕ) {v : ℕ} {c : List ℕ} → hex_from k n b ≡ got v c → Digits k n b v c
unfolding hex_from
digits_are zero n b {v} {c} h = let e : n ≡ v = cc in record { low = 0; bound = omega arith; value_is = omega arith; text_is = cc }
digits_are (suc k) n b {v} {c} h =
    let t = then_got (hex_from k n b) (λ m c. hex_from 1 m c) (sym (last_apart k n b) ∙ h) in
    let l = last_is t.first t.rest t.then_is in
    let i = digits_are k n b t.first_is in
    let d = l.value in
    let m = i.low in
    let small = digit_small l.byte l.digit in
    let e : n * (16 ^ k * 16) ≡ n * 16 ^ k * 16 = sym (mul_assoc n (16 ^ k) 16) in
    let q : (m * 16 + d) / 16 ≡ m = whole_part m d small in
    let r : hex_digit_ascii ((m * 16 + d) % 16) ≡ l.byte = ap hex_digit_ascii (rest_part m d small) ∙ glyph_value l.byte l.digit in
    record {
      low = m * 16 + d;
      bound = rw pow-suc (omega (arith, i.bound, small));
      value_is = rw pow-suc (omega (arith, i.value_is, l.value_is, e));
      text_is = i.text_is ∙ ap (λ (z : List ℕ). last_digits 16 k m ++ z) l.there ∙ rw (append_assoc, q, r);
    }

pub word_back : (n : ℕ) (b : List ℕ) → n < 2 ^ 64 → word (hex_text n ++ b) ≡ got n b
unfolding hex_text
word_back n b h = let z : 0 * 16 ^ 16 + n ≡ n = omega arith in digits_back 16 0 n b (omega arith) ∙ ap (λ (v : ℕ). got v b) z

pub word_is : (b : List ℕ) {v : ℕ} {c : List ℕ} → word b ≡ got v c → (v < 2 ^ 64) × (b ≡ hex_text v ++ c)
unfolding hex_text
word_is b {v} {c} h =
    let x = digits_are 16 0 b h in
    let e : v ≡ x.low = omega (arith, x.value_is) in
    (omega (arith, x.bound), x.text_is ∙ ap (λ (n : ℕ). last_digits 16 16 n ++ c) (sym e))
