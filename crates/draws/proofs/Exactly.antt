-- A sample that is said by number is refused by 17 above a slice, and not elsewhere; two findings coincide, and none is found beside a refusal.
use Prim.Native.Nat.{ℕ}
use native.Mathlib.Omega.{arith}
use mathlib.Core.Path.{◌≡◌, refl, sym, ◌∙◌}
use mathlib.Core.Logic.{◌↔◌}
use mathlib.Core.Bool.{Bool, true, false}
use lib.Ieee.{Float}
use Rattle.draws.specs.declared.Positions.{Positions}
use Rattle.draws.specs.declared.Refusal.{Refusal}
use Rattle.draws.specs.declared.Refusal.TheVariants.{Above}
use Rattle.draws.specs.Draws.{Lent, placed, Drawn}
use Rattle.draws.specs.Exactly.{Exactly}
use Rattle.std.specs.Prelude.{Err}
use Rattle.draws.proofs.Pairs.{ok_parts, err_parts}

module _ {s : Lent → Positions → Drawn} {F : Lent → Positions → Float → Positions → Type 0} {H : Lent → Positions → Refusal → Type 0} (x : Exactly s F H)
    (L : Lent) (p : Positions) {q : Positions} where
  -- '17 | a position above its slice's length'
  pub above_exact : (s L p ≡ Err (Above, q)) ↔ ((placed L p ≡ false) × (q ≡ p))
  above_exact = (go (placed L p) refl, λ (b, i). rw i (x.above L p b))
    where
      go : (b : Bool) → placed L p ≡ b → s L p ≡ Err (Above, q) → (b ≡ false) × (q ≡ p)
      go true b e = absurd (x.not_above L p b ((x.refused L p b).0 e).0)
      go false b e = (refl, (err_parts (sym e ∙ x.above L p b)).1)

  -- two findings coincide, and none is found beside a refusal
  pub one_found : placed L p ≡ true → {q' : Positions} {v v' : Float} → F L p v q → F L p v' q' → (v ≡ v') × (q ≡ q')
  one_found b f g =
      ok_parts (sym ((x.sampled L p b).1 f) ∙ (x.sampled L p b).1 g)

  pub not_both : placed L p ≡ true → {v : Float} {r : Refusal} → F L p v q → ¬ H L p r
  not_both b f h =
      let d = (x.sampled L p b).1 f in
      let e = (x.refused L p b).1 (h, refl) in
      let z : ◌≡◌ {A = ℕ} 0 1 = cc in
      omega arith
