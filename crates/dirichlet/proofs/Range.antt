-- Document 02, #110, of the Beta route: every component lies from 0 to 1. What 12 to 14 leave is normal, and elements of at most 0.1, of which there are at most
-- 4,096, have tails of at most 512; so each Beta's parameters are covered, and acc·b and acc·(1 - b) of numbers from 0 to 1 are such numbers.
use mathlib.Core.Path.{◌≡◌, refl, sym, subst}
use mathlib.Core.List.{List, [], ◌∷◌}
use mathlib.Core.Bool.{Bool, true, false, true≢false}
use Prim.Native.Nat.{ℕ, zero, suc, ◌+◌, ◌*◌, ◌^◌, ◌≤◌, ◌<◌}
use native.Mathlib.Nat.{le_of_suc-le-suc}
use native.Mathlib.Omega.{arith}
use lib.ListN.{length, get_or}
use lib.Dec.{T, lit≤, lit<}
use lib.IntN.{negsuc}
use lib.Ieee.{Float, nan, inf, fin, binary64, up, down, fits, round, mul, le, eq}
use lib.Ieee.Bits.{is_true}
use Rattle.kernels.specs.Numbers.{◌⊕◌, ◌⊖◌, ◌⊗◌, quotient, pow2, one, finite, clear}
use Rattle.kernels.specs.Inner.{Within, Low}
use Rattle.kernels.proofs.Bounds.{there, mul_below, add_within, within_finite, le_within}
use Rattle.kernels.proofs.Lows.{floor, low_le, round_clear, sub_low, sub_clear_below}
use Rattle.draws.specs.Draws.{Lent}
use Rattle.draws.specs.declared.Positions.{Positions}
use Rattle.beta.specs.Range.{Normal, Covered, Held, InUnit}
use Rattle.beta.proofs.Shares.{Unit01, in_unit, of_unit}
use Rattle.beta.proofs.Range.{sum_normal, found_stays}
use Rattle.dirichlet_alpha.specs.Alpha.{scanned, all_small_lem}
use Rattle.dirichlet_alpha.proofs.Scans.{checked_fine, not_long}
use Rattle.dirichlet_alpha.proofs.Positives.{first_least, first_finite, first_small}
use Rattle.dirichlet.specs.FromBeta.{beta_vector, tail_sum, tail_after}
use Rattle.dirichlet.specs.Dirichlet.{Dirichlets, found_by}
use Rattle.dirichlet.proofs.Laws.{sampled_exact}
use Rattle.std.specs.Prelude.{Ok}

-- ---- the elements, and the tails
-- normal, and at most k/8
record Little (k : ℕ) (x : Float) : Type 0 where
  normal : Normal x
  little : Within (2 ^ 3) k x

tenth_within : Within (2 ^ 3) 1 (quotient 1 10)
unfolding quotient round
tenth_within = lit≤ tt

element_little : (x : Float) → T (fits binary64 x) → T (clear x) → Low (2 ^ 1022) 1 x → eq x (inf false) ≡ false → le x (quotient 1 10) ≡ true → Little 1 x
unfolding eq quotient round
element_little nan f c l b h = elim c [ ]
element_little (inf true) f c l b h = elim c [ ]
element_little (fin true m e) f c l b h = elim c [ ]
element_little (inf false) f c l b h = absurd (true≢false b)
element_little (fin false m e) f c l b h = record {
  normal = record { held = f; finite_is = refl; least = is_true (le (pow2 (negsuc 1021)) (fin false m e)) (low_le 1021 (fin false m e) tt l) };
  little = le_within (fin false m e) (quotient 1 10) (2 ^ 3) 1 tenth_within (subst T (sym h) tt);
}

smalls : (xs : List Float) (j : ℕ) → Held xs → scanned xs j ≡ Ok tt → all_small_lem xs ≡ true → (i : ℕ) → i < length xs → Little 1 (get_or xs i nan)
smalls [] j f h s i n = elim n [ ]
smalls (x ∷ xs) j f h s zero n = let (c, l) = (first_least x xs j h).0 in element_little x (f 0) c l (first_finite x xs j h) (first_small x xs s).0
smalls (x ∷ xs) j f h s (suc i) l = smalls xs (suc j) (λ i. f (suc i)) (first_least x xs j h).1 (first_small x xs s).1 i (le_of_suc-le-suc l)

together : (k : ℕ) (x y : Float) → k ≤ 4096 → Little k x → Little 1 y → Covered y x × Covered x y
together k x y h u v =
    let w = add_within 3 k x 1 y (k + 1) u.little v.little (lit≤ tt) (omega arith) (omega arith) in
    let z = add_within 3 1 y k x (k + 1) v.little u.little (lit≤ tt) (omega arith) (omega arith) in (
      record { alpha_is = v.normal; beta_is = u.normal; sum_is = is_true (finite (y ⊕ x)) (within_finite (2 ^ 3) (k + 1) (y ⊕ x) z) },
      record { alpha_is = u.normal; beta_is = v.normal; sum_is = is_true (finite (x ⊕ y)) (within_finite (2 ^ 3) (k + 1) (x ⊕ y) w) },
    )

tail_little : (x : Float) (xs : List Float) → length (x ∷ xs) ≤ 4096 → ((i : ℕ) → i < length (x ∷ xs) → Little 1 (get_or (x ∷ xs) i nan)) → Little (length (x ∷ xs)) (tail_sum (x ∷ xs))
unfolding tail_sum
tail_little x [] n h = h 0 (lit< tt)
tail_little x (y ∷ ys) n h =
    let k = length (y ∷ ys) in
    let u = tail_little y ys (omega arith) (λ i l. h (suc i) (omega (arith, l))) in
    let v = h 0 (omega arith) in
    record { normal = sum_normal (together k (tail_sum (y ∷ ys)) x (omega arith) u v).1; little = add_within 3 k (tail_sum (y ∷ ys)) 1 x (suc k) u.little v.little (lit≤ tt) (omega arith) (omega arith) }

covered : (alpha : List Float) → length alpha ≤ 4096 → ((i : ℕ) → i < length alpha → Little 1 (get_or alpha i nan)) → (i : ℕ) → suc i < length alpha → Covered (get_or alpha i nan) (tail_after alpha i)
covered [] n h i l = elim l [ ]
covered (x ∷ []) n h i l = absurd (omega arith)
covered (x ∷ y ∷ ys) n h zero l = (together (length (y ∷ ys)) (tail_sum (y ∷ ys)) x (omega arith) (tail_little y ys (omega arith) (λ i l. h (suc i) (omega (arith, l)))) (h 0 (omega arith))).0
covered (x ∷ y ∷ ys) n h (suc i) l = covered (y ∷ ys) (omega arith) (λ i l. h (suc i) (omega (arith, l))) i (le_of_suc-le-suc l)

-- ---- the vector
unit_mul : (x y : Float) → Unit01 x → Unit01 y → Unit01 (x ⊗ y)
unfolding mul
unit_mul x y (p, u) (q, v) = (product x y p u q v, mul_below 1 1 x 1 1 y 1 1 (lit< tt) (lit< tt) (there 0 1 (lit≤ tt) (lit< tt)) u v (lit≤ tt))
  where
    product : (x y : Float) → T (clear x) → Within 1 1 x → T (clear y) → Within 1 1 y → T (clear (x ⊗ y))
    product nan _ p u q v = elim p [ ]
    product (inf _) _ p u q v = elim u [ ]
    product (fin false m e) nan p u q v = elim q [ ]
    product (fin false m e) (inf _) p u q v = elim v [ ]
    product (fin false m e) (fin true n d) p u q v = elim q [ ]
    product (fin true m e) _ p u q v = elim p [ ]
    product (fin false m e) (fin false n d) p u q v = round_clear (m * up e * (n * up d)) (down e * down d)

unit_rest : (x : Float) → Unit01 x → Unit01 (one ⊖ x)
unit_rest x (p, u) = ((sub_low 1 1 one 1 x 0 (lit< tt) (floor 0 0 (lit≤ tt) (lit< tt)) tt (lit≤ tt) u (lit≤ tt)).0, sub_clear_below 1 1 one x (lit< tt) (there 0 1 (lit≤ tt) (lit< tt)) tt p (lit≤ tt) u)

vector_unit : (acc : Float) (bs : List Float) → Unit01 acc → ((i : ℕ) → i < length bs → Unit01 (get_or bs i nan)) → (i : ℕ) → i < length (beta_vector acc bs) → Unit01 (get_or (beta_vector acc bs) i nan)
unfolding beta_vector
vector_unit acc [] u h zero l = u
vector_unit acc [] u h (suc i) l = absurd (omega arith)
vector_unit acc (b ∷ bs) u h zero l = unit_mul acc b u (h 0 (omega arith))
vector_unit acc (b ∷ bs) u h (suc i) l = vector_unit (acc ⊗ (one ⊖ b)) bs (unit_mul acc (one ⊖ b) u (unit_rest b (h 0 (omega arith)))) (λ i l. h (suc i) (omega (arith, l))) i (le_of_suc-le-suc l)

-- every cell of what the call leaves
pub stays : (alpha : List Float) → Held alpha → all_small_lem alpha ≡ true → (l : Lent) → Held l.uniforms
    → (p : Positions) {out left : List Float} {q : Positions} → Dirichlets alpha l p out (Ok q) left
    → (i : ℕ) → i < length left → InUnit (get_or left i nan)
stays alpha f s l h p {out} {left} {q} d i n =
    let (e, b, v) = (sampled_exact alpha l p).0 d in
    let (bs, t, w) = subst (λ (c : Bool). found_by c alpha l p left q) s v in
    let c = covered alpha (not_long alpha (length out) e) (smalls alpha 0 f (checked_fine alpha (length out) e).2 s) in
    rw w (in_unit _ (vector_unit one bs (tt, lit≤ tt) (λ k m. of_unit _ (found_stays (c k (omega (arith, m, t.count))) l h (t.starts k) (t.each k (rw t.count at m)))) i (rw w at n)))
