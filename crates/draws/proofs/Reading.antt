-- One law a kind of answer, for every kind of draw: what `read` gives, and what each answer tells of the slice.
use Prim.Native.Nat.{ℕ, zero, ◌<◌, ◌≤◌}
use native.Mathlib.Omega.{arith}
use native.Mathlib.Nat.{add-zero, zero-mul, le_of_eq, le_of_lt}
use borrow.Author.Tests.{le-ltb, le-leb, lt-leb}
use mathlib.Core.Path.{◌≡◌, refl, sym}
use mathlib.Core.Logic.{◌↔◌}
use mathlib.Core.List.{List}
use mathlib.Core.Bool.{Bool, true, false, cond, ◌&&◌, true≢false, and-eq-true_iff}
use lib.ListN.{length, get_or}
use lib.Dec.{ltb, leb}
use lib.Ieee.{Float, nan, fin, lt}
use Rattle.kernels.specs.Numbers.{nought, one, finite}
use Rattle.kernels.proofs.Tests.{Zero, is_zero}
use Rattle.draws.specs.declared.Positions.{Positions}
use Rattle.draws.specs.declared.Kind.{Kind}
use Rattle.draws.specs.declared.Kind.TheVariants.{Uniform, Exponential}
use Rattle.draws.specs.declared.Refusal.{Refusal}
use Rattle.draws.specs.declared.Refusal.TheVariants.{Above, Unusable, Absent}
use Rattle.draws.specs.Draws.{Lent, slice, place, past, usable, Next, refusal_at, NotNext, ZeroNext, read, Draw}
use Rattle.std.specs.Prelude.{Err, Ok}
use Rattle.draws.proofs.Pairs.{ok_parts}

module _ (k : Kind) (xs : List Float) (p : Positions) where
  abbrev i : ℕ
  i = place k p

  abbrev x : Float
  x = get_or xs i nan

  -- as the code comes to it
  pub read_usable : ltb i (length xs) ≡ true → usable k x ≡ true → Ok (x, past k 1 p) ≡ read k xs p
  unfolding read
  read_usable h u = rw (h, u)

  pub read_unusable : ltb i (length xs) ≡ true → usable k x ≡ false → Err (Unusable k i) ≡ read k xs p
  unfolding read
  read_unusable h u = rw (h, u)

  pub read_missing : ltb i (length xs) ≡ false → Err (cond (leb i (length xs)) (Absent k i) Above) ≡ read k xs p
  unfolding read
  read_missing h = rw h

  -- as a caller meets it
  usable_tests : (b u : Bool) (r : Refusal) {y : Float} {q : Positions} → cond {A = Draw} (b && u) (Ok (x, past k 1 p)) (Err r) ≡ Ok (y, q) → (b ≡ true) × (u ≡ true) × (y ≡ x) × (q ≡ past k 1 p)
  usable_tests true true r e = let (h, i) = ok_parts e in (refl, refl, sym h, sym i)
  usable_tests true false r e = let z : ◌≡◌ {A = ℕ} 0 1 = cc in absurd (omega arith)
  usable_tests false u r e = let z : ◌≡◌ {A = ℕ} 0 1 = cc in absurd (omega arith)

  pub usable_is : {y : Float} {q : Positions} → read k xs p ≡ Ok (y, q) → (ltb i (length xs) ≡ true) × (usable k x ≡ true) × (y ≡ x) × (q ≡ past k 1 p)
  unfolding read
  usable_is e = usable_tests (ltb i (length xs)) (usable k x) _ e

  refused_tests : (b u : Bool) (s : Refusal) {r : Refusal} → cond {A = Draw} (b && u) (Ok (x, past k 1 p)) (Err s) ≡ Err r → (b && u ≡ false) × (r ≡ s)
  refused_tests true true s e = let z : ◌≡◌ {A = ℕ} 0 1 = cc in absurd (omega arith)
  refused_tests true false s e = (refl, cc)
  refused_tests false u s e = (refl, cc)

  pub refused_is : {r : Refusal} → read k xs p ≡ Err r → (ltb i (length xs) && usable k x ≡ false) × (r ≡ refusal_at k xs i)
  unfolding read
  refused_is e = refused_tests (ltb i (length xs)) (usable k x) _ e

  -- 'A position above its slice's length is refused; equal is allowed', and then the draw is absent
  pub above_is : length xs < i → read k xs p ≡ Err Above
  unfolding read
  above_is h = simp (le-ltb i (length xs) (le_of_lt h), lt-leb i (length xs) h)

  pub absent_is : i ≡ length xs → read k xs p ≡ Err (Absent k i)
  unfolding read
  absent_is h = simp (le-ltb i (length xs) (le_of_eq (sym h)), le-leb i (length xs) (le_of_eq h))

-- as it is said by number
module _ (k : Kind) (l : Lent) (p : Positions) where
  pub next_is : {x : Float} {q : Positions} → (read k (slice k l) p ≡ Ok (x, q)) ↔ Next k l p x q
  next_is = (
    λ e. let (h, u, v, m) = usable_is k (slice k l) p e in simp add-zero ((h, u), v, m),
    λ ((h, u), v, m). rw (v, m, add-zero, ← read_usable k (slice k l) p (rw add-zero at h) (rw add-zero at u)),
  )

  pub not_next_is : {r : Refusal} → (read k (slice k l) p ≡ Err r) ↔ NotNext k l p r
  not_next_is {r} = (
    λ e.
        let (h, i) = refused_is k (slice k l) p e in
        ((λ (b, u). true≢false (rw (rw add-zero at b, rw add-zero at u) at h)), i),
    λ n. go (read k (slice k l) p) refl n,
  )
    where
      go : (d : Draw) → read k (slice k l) p ≡ d → NotNext k l p r → d ≡ Err r
      go (Ok (x, q)) e (n, i) = absurd (n (next_is.0 e).0)
      go (Err s) e (n, i) = let h = (refused_is k (slice k l) p e).1 in cc

-- what the refusal of draw i tells: by 18 it is there and it is the one named, and within the slice or at its end it is never 17
module _ (k : Kind) (xs : List Float) (i : ℕ) where
  refusal_tests : (b c : Bool) {κ : Kind} {j : ℕ} → Unusable κ j ≡ cond b (Unusable k i) (cond c (Absent k i) Above) → (b ≡ true) × (j ≡ i)
  refusal_tests true c e = (refl, cc)
  refusal_tests false true e = let z : ◌≡◌ {A = ℕ} 0 1 = cc in absurd (omega arith)
  refusal_tests false false e = let z : ◌≡◌ {A = ℕ} 0 1 = cc in absurd (omega arith)

  pub unusable_there : {κ : Kind} {j : ℕ} → Unusable κ j ≡ refusal_at k xs i → (ltb i (length xs) ≡ true) × (j ≡ i)
  unusable_there e = refusal_tests (ltb i (length xs)) (leb i (length xs)) e

  pub not_above : i ≤ length xs → ¬ (Above ≡ refusal_at k xs i)
  not_above h e = go (ltb i (length xs)) (rw (le-leb _ _ h) at e)
    where
      go : (b : Bool) → ¬ (Above ≡ cond b (Unusable k i) (Absent k i))
      go true e = let z : ◌≡◌ {A = ℕ} 0 1 = cc in omega arith
      go false e = let z : ◌≡◌ {A = ℕ} 0 1 = cc in omega arith

-- 'a uniform strictly between 0 and 1'
pub usable_between : (x : Float) → (usable Uniform x ≡ true) ↔ ((lt nought x ≡ true) × (lt x one ≡ true))
unfolding usable
usable_between x = and-eq-true_iff (lt nought x) (lt x one)

-- ---- document 02, #105
-- 'an exponential is usable only above 0', and finite as before
pub usable_above : (x : Float) → (usable Exponential x ≡ true) ↔ ((finite x ≡ true) × (lt nought x ≡ true))
unfolding usable
usable_above x = and-eq-true_iff (finite x) (lt nought x)

zero_unusable : (x : Float) → Zero x → usable Exponential x ≡ false
unfolding usable lt
zero_unusable nan z = elim z [ ]
zero_unusable (lib.Ieee.inf _) z = elim z [ ]
zero_unusable (fin false (Prim.Native.Nat.suc _) e) z = elim z [ ]
zero_unusable (fin true (Prim.Native.Nat.suc _) e) z = elim z [ ]
zero_unusable (fin true zero e) z = refl
zero_unusable (fin false zero e) z = simp zero-mul refl

-- 'Refusals: 18, kind 3, for either zero': with its index in the lent slice
pub zero_refused : (l : Lent) (p : Positions) → ZeroNext l p → read Exponential l.exponentials p ≡ Err (Unusable Exponential (place Exponential p))
zero_refused l p (h, z) = sym (read_unusable Exponential l.exponentials p (rw add-zero at h) (zero_unusable _ (is_zero _ (rw add-zero at z))))
