-- The call, whatever vector x its route draws: the answer and every cell are functions of what was lent, so two outcomes coincide.
use Prim.Native.Nat.{ℕ, ◌≤◌}
use mathlib.Core.Path.{◌≡◌, refl, sym, ◌∙◌, ap}
use mathlib.Core.Logic.{◌↔◌}
use mathlib.Core.List.{List}
use mathlib.Core.Bool.{Bool, true, false}
use lib.ListN.{length, replicate}
use lib.Ieee.{Float}
use Rattle.kernels.specs.Numbers.{nought}
use Rattle.draws.specs.Draws.{Lent, placed}
use Rattle.draws.specs.Fill.{Samples, all, stopped, cells_of}
use Rattle.draws.specs.declared.Positions.{Positions}
use Rattle.draws.specs.declared.Refusal.{Refusal}
use Rattle.draws.specs.declared.Refusal.TheVariants.{Above}
use Rattle.draws.proofs.Pairs.{err_parts}
use Rattle.dirichlet_alpha.specs.declared.Refused.{Refused as Why}
use Rattle.dirichlet_alpha.specs.declared.Refused.TheVariants.{Draws}
use Rattle.dirichlet_alpha.specs.Alpha.{scanned, checked_of, Checked}
use Rattle.dirichlet_alpha.specs.Answers.{ready_of, vector_answer, answer_by, cells_by, Answers, Answer}
use Rattle.dirichlet_alpha.proofs.Scans.{both_fine, test_fine, checked_fine, checked_no_draw}
use Rattle.std.specs.Prelude.{Err, Ok}

-- ---- what is refused before any draw
module _ (alpha : List Float) (n : ℕ) (l : Lent) (p : Positions) where
  pub ready_early : {w : Why} → checked_of alpha n ≡ Err w → ready_of alpha n l p ≡ Err w
  unfolding ready_of
  ready_early e = rw e

  pub ready_above : checked_of alpha n ≡ Ok tt → placed l p ≡ false → ready_of alpha n l p ≡ Err (Draws Above)
  unfolding ready_of
  ready_above e b = rw (e, b)

  pub ready_when : checked_of alpha n ≡ Ok tt → placed l p ≡ true → ready_of alpha n l p ≡ Ok tt
  unfolding ready_of
  ready_when e b = rw (e, b)

  pub ready_passed : ready_of alpha n l p ≡ Ok tt → (checked_of alpha n ≡ Ok tt) × (placed l p ≡ true)
  unfolding ready_of
  ready_passed h = let (e, t) = both_fine (checked_of alpha n) _ h in (e, test_fine (placed l p) (Draws Above) t)

  pub ready_fine : ready_of alpha n l p ≡ Ok tt → (n ≡ length alpha) × (2 ≤ length alpha) × (scanned alpha 0 ≡ Ok tt)
  ready_fine h = checked_fine alpha n (ready_passed h).0

-- ---- what an answer says of its samples
module _ (p : Positions) {q : Positions} where
  pub sampled_from : (x : Samples) → Ok q ≡ vector_answer p x → (vs : List Float) × (x ≡ all vs q)
  sampled_from (all vs z) e = (vs, cc)
  sampled_from (stopped r) e = absurd cc

  pub refused_from : {w : Why} (x : Samples) → Err (w, q) ≡ vector_answer p x → (r : Refusal) × (x ≡ stopped r) × (w ≡ Draws r) × (q ≡ p)
  refused_from (all vs z) e = absurd cc
  refused_from (stopped r) e = let (h, i) = err_parts e in (r, refl, h, i)

-- ---- the call
module _ {c : Checked} {x : Samples} {p : Positions} {out : List Float} where
  pub one_outcome : {r r' : Answer} {left left' : List Float} → Answers c x p out r left → Answers c x p out r' left' → (r ≡ r') × (left ≡ left')
  one_outcome f g = (f.answer_is ∙ sym g.answer_is, f.cells_are ∙ sym g.cells_are)

  module _ {r : Answer} {left : List Float} (d : Answers c x p out r left) where
    -- up to 17: the output as lent
    pub early_kept : {w : Why} → c ≡ Err w → (r ≡ Err (w, p)) × (left ≡ out)
    early_kept e = (rw e at d.answer_is, rw e at d.cells_are)

    -- then draws: the vector, or the refusal of the first component that is refused and an output of +0
    pub ready_is : c ≡ Ok tt → (r ≡ vector_answer p x) × (left ≡ cells_of (length out) x)
    ready_is e = (rw e at d.answer_is, rw e at d.cells_are)

    pub stopped_cleared : c ≡ Ok tt → {w : Refusal} → x ≡ stopped w → (r ≡ Err (Draws w, p)) × (left ≡ replicate (length out) nought)
    stopped_cleared e s = (rw s at (ready_is e).0, rw s at (ready_is e).1)

  -- a vector is given exactly where nothing is refused, and it is the route's
  pub vector_is : {q : Positions} {left : List Float} → Answers c x p out (Ok q) left → (c ≡ Ok tt) × (x ≡ all left q)
  vector_is {q} {left} d = by_check c d.answer_is d.cells_are
    where
      by_check : (c : Checked) → Ok q ≡ answer_by c p x → left ≡ cells_by c out x → (c ≡ Ok tt) × (x ≡ all left q)
      by_check (Ok _) e d = let (vs, h) = sampled_from p x e in (refl, cc (rw h at d))
      by_check (Err r) e d = absurd cc

  -- a refusal of draws exactly where the vector has it, and then every element is +0
  pub stopped_exact : c ≡ Ok tt → {r : Refusal} {q : Positions} {left : List Float}
      → Answers c x p out (Err (Draws r, q)) left ↔ ((x ≡ stopped r) × (q ≡ p) × (left ≡ replicate (length out) nought))
  stopped_exact e = (
    λ d.
        let (a, b) = ready_is d e in
        let (w, s, i, k) = refused_from p x a in
        (cc, k, rw s at b),
    λ (s, i, z). record { answer_is = rw (e, s, i); cells_are = rw (e, s, z) },
  )

  -- every refusal has the positions as lent
  pub refused_keeps : {w : Why} {q : Positions} {left : List Float} → Answers c x p out (Err (w, q)) left → q ≡ p
  refused_keeps {w} {q} d = by_check c d.answer_is
    where
      by_check : (c : Checked) → Err (w, q) ≡ answer_by c p x → q ≡ p
      by_check (Ok _) e = (refused_from p x e).3
      by_check (Err r) e = (err_parts e).1

  -- a route's call meets the rule: refused before any draw, or by what its own steps leave
  pub called_early : {w : Why} → c ≡ Err w → Answers c x p out (Err (w, p)) out
  called_early e = record { answer_is = rw e; cells_are = rw e }

  pub called_ready : {r : Answer} {left : List Float} → c ≡ Ok tt → (r ≡ vector_answer p x) × (left ≡ cells_of (length out) x) → Answers c x p out r left
  called_ready e (a, b) = record { answer_is = rw e a; cells_are = rw e b }

module _ (alpha : List Float) (l : Lent) {x : Samples} {p : Positions} {out : List Float} where
  pub above_kept : {r : Answer} {left : List Float} → Answers (ready_of alpha (length out) l p) x p out r left → checked_of alpha (length out) ≡ Ok tt → placed l p ≡ false
      → (r ≡ Err (Draws Above, p)) × (left ≡ out)
  above_kept d e b = early_kept d (ready_above alpha (length out) l p e b)

  -- 17 exactly where alpha and the output are right and a position is above its slice, since no vector is refused by it
  pub above_exact : (placed l p ≡ true → ¬ (x ≡ stopped Above)) → {q : Positions} {left : List Float}
      → Answers (ready_of alpha (length out) l p) x p out (Err (Draws Above, q)) left
      ↔ ((checked_of alpha (length out) ≡ Ok tt) × (placed l p ≡ false) × (q ≡ p) × (left ≡ out))
  above_exact never {q} {left} = (
    go (checked_of alpha (length out)) (placed l p) refl refl,
    λ (e, b, i, z). rw (i, z) (called_early (ready_above alpha (length out) l p e b)),
  )
    where
      go : (k : Checked) (b : Bool) → checked_of alpha (length out) ≡ k → placed l p ≡ b → Answers (ready_of alpha (length out) l p) x p out (Err (Draws Above, q)) left
          → (k ≡ Ok tt) × (b ≡ false) × (q ≡ p) × (left ≡ out)
      go (Ok _) true e b d = absurd (never b ((stopped_exact (ready_when alpha (length out) l p e b)).0 d).0)
      go (Ok _) false e b d = let (a, z) = above_kept d e b in (refl, refl, (err_parts a).1, z)
      go (Err w) b e i d =
          let (a, z) = early_kept d (ready_early alpha (length out) l p e) in
          absurd (checked_no_draw alpha (length out) Above (e ∙ ap (λ (w : Why). Err w) (sym (err_parts a).0)))

  pub sampled_is : {q : Positions} {left : List Float} → Answers (ready_of alpha (length out) l p) x p out (Ok q) left
      → (checked_of alpha (length out) ≡ Ok tt) × (placed l p ≡ true) × (x ≡ all left q)
  sampled_is d = let (e, s) = vector_is d in let (a, b) = ready_passed alpha (length out) l p e in (a, b, s)
