-- An answer's lines are laid one after another; together they are at most 144 bytes long, so that each finds room where the one before it ended.
use Prim.Native.Nat.{ℕ, ◌+◌, ◌≤◌}
use native.Mathlib.Nat.{le_trans}
use native.Mathlib.Omega.{arith}
use mathlib.Core.Path.{◌≡◌, ◌∙◌}
use mathlib.Core.List.{List, ◌++◌, append_assoc}
use lib.ListN.{length, take, length-append}
use Rattle.texts.specs.Bytes.{bytes}
use Rattle.texts.specs.Laid.{Lays}
use Rattle.texts.specs.Numbers.{hex_text, decimal_text, hex_line_lem, decimal_line_lem}
use Rattle.texts.proofs.Laying.{past_fitting, lays_both, lays_length, lays_same, line_length, laid_first}
use Rattle.texts.proofs.Digits.{hex_length, decimal_length}
use Rattle.std.specs.Prelude.{Ok, Err}
use Rattle.sheet_outcome.specs.Outcomes.{Outcome}
use Rattle.sheet_answer.specs.Texts.{sample_text, refused_text, answer_text}

hex_line_length : (key : List ℕ) (n : ℕ) → length (hex_line_lem key n) ≡ length key + 17
hex_line_length key n = omega (arith, line_length key (hex_text n), hex_length n)

decimal_line_length : (key : List ℕ) (n : ℕ) → length (decimal_line_lem key n) ≤ length key + 21
decimal_line_length key n = omega (arith, line_length key (decimal_text n), decimal_length n)

sample_length : (bits u n e : ℕ) → length (sample_text bits u n e) ≤ 144
sample_length bits u n e =
    simp length-append (
    omega (
      arith,
      hex_line_length (bytes "bits=") bits,
      decimal_line_length (bytes "uniforms-used=") u,
      decimal_line_length (bytes "normals-used=") n,
      decimal_line_length (bytes "exponentials-used=") e,
    )
    )

refused_length : (code kind at : ℕ) → length (refused_text code kind at) ≤ 144
refused_length code kind at =
    simp length-append (
    omega (arith, decimal_line_length (bytes "code=") code, decimal_line_length (bytes "kind=") kind, decimal_line_length (bytes "at=") at)
    )

pub answer_length : (o : Outcome) → length (answer_text o) ≤ 144
unfolding answer_text
answer_length (Ok (bits, q)) = sample_length bits q.uniform.0 q.normal.0 q.exponential.0
answer_length (Err r) = refused_length r.number r.kind r.index

-- an answer that was laid at the start of 144 bytes ends within them, and stands there
module _ {o p : List ℕ} {r : ℕ} (a : Outcome) (h : length o ≡ 144) (l : Lays o 0 (answer_text a) r p) where
  fits : 0 + length (answer_text a) ≤ length o
  fits = omega (arith, answer_length a)

  ends : r ≡ length (answer_text a)
  ends = omega (arith, l.place ∙ past_fitting o 0 (answer_text a) fits)

  pub answer_within : r ≤ length p
  answer_within = omega (arith, ends, answer_length a, lays_length fits l)

  pub answer_is : take r p ≡ answer_text a
  answer_is = rw (ends, l.holds) (laid_first o (answer_text a) (omega (arith, answer_length a)))

-- ---- texts in a row: a text's length is what is left of the room
in_row : (a b c : List ℕ) {n : ℕ} → length (a ++ (b ++ c)) ≤ n → length ((a ++ b) ++ c) ≤ n
in_row a b c h = rw (append_assoc) h

front : (a b : List ℕ) {n : ℕ} → length (a ++ b) ≤ n → length a ≤ n
front a b h = omega (arith, length-append a b, h)

module _ {o : List ℕ} where
  one_more : {p q : List ℕ} {i j : ℕ} (t u : List ℕ) → length (t ++ u) ≤ length o → Lays o 0 t i p → Lays p i u j q → Lays o 0 (t ++ u) j q
  one_more t u h = lays_both (omega (arith, h))

  -- what is laid, and two more texts for which there is room
  two_more : {p q s : List ℕ} {i j k : ℕ} (t a b : List ℕ) → length (t ++ (a ++ b)) ≤ length o → Lays o 0 t i p → Lays p i a j q → Lays q j b k s → Lays o 0 (t ++ (a ++ b)) k s
  two_more t a b h w x y =
      let n = in_row t a b h in
      lays_same (one_more (t ++ a) b n (one_more t a (front (t ++ a) b n) w x) y) (append_assoc t a b)

  four_laid : {p q s v : List ℕ} {i j k l : ℕ} (a b c d : List ℕ) → length (a ++ (b ++ (c ++ d))) ≤ length o
      → Lays o 0 a i p → Lays p i b j q → Lays q j c k s → Lays s k d l v → Lays o 0 (a ++ (b ++ (c ++ d))) l v
  four_laid a b c d h w x y z =
      let n = in_row a b (c ++ d) h in
      lays_same (two_more (a ++ b) c d n (one_more a b (front (a ++ b) (c ++ d) n) w x) y z) (append_assoc a b (c ++ d))

  pub refused_laid : 144 ≤ length o → (code kind at : ℕ) {p q s v : List ℕ} {i j k l : ℕ} → Lays o 0 (bytes "answer=refused\n") i p → Lays p i (decimal_line_lem (bytes "code=") code) j q
      → Lays q j (decimal_line_lem (bytes "kind=") kind) k s → Lays s k (decimal_line_lem (bytes "at=") at) l v → Lays o 0 (refused_text code kind at) l v
  refused_laid h code kind at = four_laid _ _ _ _ (le_trans (refused_length code kind at) h)

  pub sample_laid : 144 ≤ length o → (bits u n e : ℕ) {p q s v z : List ℕ} {i j k l m : ℕ} → Lays o 0 (bytes "answer=sample\n") i p → Lays p i (hex_line_lem (bytes "bits=") bits) j q
      → Lays q j (decimal_line_lem (bytes "uniforms-used=") u) k s → Lays s k (decimal_line_lem (bytes "normals-used=") n) l v
      → Lays v l (decimal_line_lem (bytes "exponentials-used=") e) m z → Lays o 0 (sample_text bits u n e) m z
  sample_laid h bits u n e w x y z v =
      let a = bytes "answer=sample\n" in
      let b = hex_line_lem (bytes "bits=") bits in
      let t = decimal_line_lem (bytes "uniforms-used=") u ++ (decimal_line_lem (bytes "normals-used=") n ++ decimal_line_lem (bytes "exponentials-used=") e) in
      let r = in_row a b t (le_trans (sample_length bits u n e) h) in
      lays_same (four_laid (a ++ b) _ _ _ r (one_more a b (front (a ++ b) t r) w x) y z v) (append_assoc a b t)
