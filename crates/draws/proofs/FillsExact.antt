-- A fill by number, of any sampler that is spoken of by number and is steady: each sample is found where the one before it ended, or the first that
-- can't be had has its refusal. Each starts within the slices, so that none is refused by 17: a fill answers it by its own check alone.
use mathlib.Core.Path.{◌≡◌, refl}
use mathlib.Core.Logic.{◌↔◌}
use mathlib.Core.List.{List}
use mathlib.Core.Bool.{Bool, true, false}
use lib.ListN.{length, replicate}
use lib.Ieee.{Float}
use Rattle.kernels.specs.Numbers.{nought}
use Rattle.draws.specs.declared.Positions.{Positions}
use Rattle.draws.specs.declared.Refusal.{Refusal}
use Rattle.draws.specs.declared.Refusal.TheVariants.{Above}
use Rattle.draws.specs.Draws.{Lent, placed, Drawn, Filled}
use Rattle.draws.specs.Fill.{each, Fills, InTurn, FirstLacking}
use Rattle.draws.specs.Later.{SameTo, Steady}
use Rattle.draws.specs.Exactly.{Exactly, FillsExactly}
use Rattle.draws.proofs.Later.{placed_later}
use Rattle.draws.proofs.InOrder.{samples_carried, samples_exact, samples_lacking, lacking_not_above}
use Rattle.draws.proofs.Fills.{given_placed, all_given, one_refused, fill_above_kept, one_fill}
use Rattle.std.specs.Prelude.{Err, Ok}
use Rattle.draws.proofs.Pairs.{err_parts}

-- ---- what no later draw changes
module _ {s : Lent → Positions → Drawn} (h : Steady s) (L L' : Lent) (p : Positions) {out left : List Float} {q : Positions}
    (f : Fills (placed L p) (s L) p out (Ok q) left) (t : SameTo q L L') where
  pub fill_later : Fills (placed L' p) (s L') p out (Ok q) left
  fill_later =
      let (r, k) = samples_carried {s = λ l. each (s l)} (λ i. h) L L' (length out) 0 p (given_placed f) (all_given f) in
      let b = placed_later L L' p q r t in
      record { answer_is = rw (b, k t); cells_are = rw (b, k t) }

  -- so that the two calls' outcomes coincide
  pub fill_same : {r : Filled} {left' : List Float} → Fills (placed L' p) (s L') p out r left' → (r ≡ Ok q) × (left' ≡ left)
  fill_same g = one_fill g fill_later

-- ---- by number
module _ {s : Lent → Positions → Drawn} {F : Lent → Positions → Float → Positions → Type 0} {H : Lent → Positions → Refusal → Type 0} (x : Exactly s F H) (h : Steady s)
    (L : Lent) (p : Positions) {out left : List Float} {q : Positions} where
  pub fill_exact : placed L p ≡ true → Fills (placed L p) (s L) p out (Ok q) left ↔ InTurn (λ i. F L) (length out) p left q
  fill_exact b =
      let e = samples_exact {s = λ l. each (s l)} (λ i. x) (λ i. h) L p b (length out) in
      (λ f. e.0 (all_given f), λ t. record { answer_is = rw (b, e.1 t); cells_are = rw (b, e.1 t) })

  pub fill_refused_first : placed L p ≡ true → {r : Refusal}
      → Fills (placed L p) (s L) p out (Err (r, q)) left ↔ (FirstLacking (λ i. F L) (λ i. H L) (length out) p r × (q ≡ p) × (left ≡ replicate (length out) nought))
  fill_refused_first b =
      let e = samples_lacking {s = λ l. each (s l)} (λ i. x) (λ i. h) L p b (length out) in (
        λ f. let (d, i, z) = one_refused b f in (e.0 d, i, z),
        λ (t, i, z). record { answer_is = rw (b, e.1 t, i); cells_are = rw (b, e.1 t, z) },
      )

  -- '17 | a position above its slice's length', and then the output is as lent
  pub fill_above_exact : Fills (placed L p) (s L) p out (Err (Above, q)) left ↔ ((placed L p ≡ false) × (q ≡ p) × (left ≡ out))
  fill_above_exact = (λ f. go (placed L p) refl f, λ (b, i, z). record { answer_is = rw (b, i); cells_are = rw (b, z) })
    where
      go : (b : Bool) → placed L p ≡ b → Fills (placed L p) (s L) p out (Err (Above, q)) left → (b ≡ false) × (q ≡ p) × (left ≡ out)
      go true b f = absurd (lacking_not_above {s = λ l. each (s l)} (λ i. x) (λ i. h) L p b (length out) ((fill_refused_first b).0 f).0)
      go false b f = let (e, z) = fill_above_kept b f in (refl, (err_parts e).1, z)

pub fills_exactly : {s : Lent → Positions → Drawn} {F : Lent → Positions → Float → Positions → Type 0} {H : Lent → Positions → Refusal → Type 0} → Exactly s F H → Steady s
    → FillsExactly s F H
fills_exactly x h = record {
  filled_is = λ L p b. fill_exact x h L p b;
  refused_is = λ L p b. fill_refused_first x h L p b;
  above_is = λ L p. fill_above_exact x h L p;
  later = λ L L' p f t. fill_later h L L' p f t;
}
