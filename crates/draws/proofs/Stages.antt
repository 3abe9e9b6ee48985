-- A sample that was put together from draws and samples is there exactly where each of them is, and has the refusal of the first of them that is
-- refused: by cases on what they gave. So what is said by number of the parts is said of the whole.
use Prim.Native.Nat.{ℕ}
use native.Mathlib.Omega.{arith}
use mathlib.Core.Path.{◌≡◌, refl, sym, ◌∙◌}
use mathlib.Core.Logic.{◌↔◌}
use mathlib.Core.Bool.{Bool, true, false, cond}
use lib.Ieee.{Float}
use Rattle.draws.specs.Draws.{Lent, slice, place, placed, Next, NotNext, read, Draw, Drawn}
use Rattle.draws.specs.Search.{finished, chain, Chained, ChainHalted, at_first, at_second, as_sample}
use Rattle.draws.specs.Later.{Steady}
use Rattle.draws.specs.Exactly.{Exactly}
use Rattle.draws.specs.declared.Positions.{Positions}
use Rattle.draws.specs.declared.Kind.{Kind}
use Rattle.draws.specs.declared.Refusal.{Refusal}
use Rattle.draws.specs.declared.Refusal.TheVariants.{Above}
use Rattle.draws.proofs.Reading.{next_is, not_next_is, not_above}
use Rattle.draws.proofs.Later.{placed_tells}
use Rattle.draws.proofs.Sequencing.{finished_from, drawn_from, ends_placed}
use Rattle.std.specs.Prelude.{Err, Ok}
use Rattle.draws.proofs.Pairs.{err_parts}

-- f of a choice is the choice of f
pub of_cond : {A B : Type 0} (f : A → B) (b : Bool) (x y : A) → f (cond b x y) ≡ cond b (f x) (f y)
of_cond f true x y = refl
of_cond f false x y = refl

-- ---- one draw
module _ (p : Positions) {q : Positions} where
  drawn_refused : (d : Draw) {r : Refusal} → as_sample p d ≡ Err (r, q) → (d ≡ Err r) × (q ≡ p)
  drawn_refused (Ok (x, m)) e = let z : ◌≡◌ {A = ℕ} 0 1 = cc in absurd (omega arith)
  drawn_refused (Err s) e = let (h, i) = err_parts e in (rw h, sym i)

  module _ (k : Kind) (l : Lent) where
    pub next_exact : {w : Float} → (as_sample p (read k (slice k l) p) ≡ Ok (w, q)) ↔ Next k l p w q
    next_exact = (λ e. (next_is k l p).0 (drawn_from p (read k (slice k l) p) e), λ n. rw ((next_is k l p).1 n))

    pub next_refused : {r : Refusal} → (as_sample p (read k (slice k l) p) ≡ Err (r, q)) ↔ (NotNext k l p r × (q ≡ p))
    next_refused = (
      λ e. let (d, i) = drawn_refused (read k (slice k l) p) e in ((not_next_is k l p).0 d, i),
      λ (n, i). rw ((not_next_is k l p).1 n, i),
    )

-- ---- a value of a sample
module _ (p : Positions) {q : Positions} (f : Float → Float) where
  pub finished_exact : (d : Drawn) {w : Float} → (finished f p d ≡ Ok (w, q)) ↔ ((v : Float) × (d ≡ Ok (v, q)) × (w ≡ f v))
  finished_exact d = ((λ e. let (v, i, h) = finished_from f p d e in (v, i, sym h)), (λ (v, e, h). rw (e, h)))

  pub finished_refused : (d : Drawn) {r : Refusal} → (finished f p d ≡ Err (r, q)) ↔ ((m : Positions) × (d ≡ Err (r, m)) × (q ≡ p))
  finished_refused d = (from d, (λ (m, e, h). rw (e, h)))
    where
      from : (d : Drawn) {r : Refusal} → finished f p d ≡ Err (r, q) → (m : Positions) × (d ≡ Err (r, m)) × (q ≡ p)
      from (Ok (v, m)) e = let z : ◌≡◌ {A = ℕ} 0 1 = cc in absurd (omega arith)
      from (Err (r, m)) e = let (h, i) = err_parts e in (m, rw h, sym i)

-- ---- two samples in order, the second from where the first left off, and a value of both
as_lent : (p : Positions) (f : Float → Float) (m : Positions) (d : Drawn) → finished f p d ≡ finished (λ y. y) p (finished f m d)
as_lent p f m (Ok (y, q)) = refl
as_lent p f m (Err (r, q)) = refl

module _ (g : Float → Float → Float) (s : Positions → Drawn) (p : Positions) where
  pub both_is : {d : Drawn} {x : Float} {m : Positions} → d ≡ Ok (x, m) → {y : Drawn} → s m ≡ y → finished (g x) p y ≡ chain p d (λ x m. finished (g x) m (s m))
  both_is {d} {x} {m} e {y} h = rw (e, h) (as_lent p (g x) m y)

-- what a sampler gives and what it refuses, as it is said by number
abbrev Gives : (Positions → Drawn) → Positions → Float → Positions → Type 0
Gives s p v q = s p ≡ Ok (v, q)

abbrev Refuses : (Positions → Drawn) → Positions → Refusal → Type 0
Refuses s p r = (m : Positions) × (s p ≡ Err (r, m))

module _ (g : Float → Float → Float) (s t : Positions → Drawn) (p : Positions) where
  abbrev both : Drawn → Drawn
  both d = chain p d (λ x m. finished (g x) m (t m))

  refused_both : {r : Refusal} → ChainHalted (Gives s) (Refuses s) (Refuses t) p r → both (s p) ≡ Err (r, p)
  refused_both (at_first (m, e)) = rw e
  refused_both (at_second d (n, e)) = rw (d, e)

  module _ {q : Positions} where
    both_from : {w : Float} (d : Drawn) → s p ≡ d → both d ≡ Ok (w, q) → Chained g (Gives s) (Gives t) p w q
    both_from (Ok (x, m)) d e =
        let (y, h, i) = finished_from (g x) p (t m) (as_lent p (g x) m (t m) ∙ e) in
        record { first = x; second = y; between = m; first_is = d; second_is = h; value_is = sym i }
    both_from (Err (r, m)) d e = let z : ◌≡◌ {A = ℕ} 0 1 = cc in absurd (omega arith)

    pub both_exact : {w : Float} → (both (s p) ≡ Ok (w, q)) ↔ Chained g (Gives s) (Gives t) p w q
    both_exact = (both_from (s p) refl, (λ c. rw (c.first_is, c.second_is, c.value_is)))

    not_from : {r : Refusal} (d : Drawn) → s p ≡ d → both d ≡ Err (r, q) → ChainHalted (Gives s) (Refuses s) (Refuses t) p r × (q ≡ p)
    not_from (Ok (x, m)) d e = let (n, h, i) = (finished_refused p (g x) (t m)).0 (as_lent p (g x) m (t m) ∙ e) in (at_second d (n, h), i)
    not_from (Err (r, m)) d e = let (h, i) = err_parts e in (at_first (m, rw h at d), sym i)

    pub both_refused : {r : Refusal} → (both (s p) ≡ Err (r, q)) ↔ (ChainHalted (Gives s) (Refuses s) (Refuses t) p r × (q ≡ p))
    both_refused = (not_from (s p) refl, (λ (h, e). rw e (refused_both h)))

-- ---- what is said by number of the parts is said of the whole
module _ {s : Lent → Positions → Drawn} {F : Lent → Positions → Float → Positions → Type 0} {H : Lent → Positions → Refusal → Type 0} (x : Exactly s F H) where
  -- of another rule that comes to the same
  pub exactly_as : {t : Lent → Positions → Drawn} → ((L : Lent) (p : Positions) → t L p ≡ s L p) → Exactly t F H
  exactly_as e = record {
    sampled = λ L p b. rw (e L p) (x.sampled L p b);
    refused = λ L p b. rw (e L p) (x.refused L p b);
    not_above = x.not_above;
    above = λ L p b. e L p ∙ x.above L p b;
  }

  pub exactly_finished : (f : Float → Float) → Exactly (λ L p. finished f p (s L p)) (λ L p v q. (w : Float) × F L p w q × (v ≡ f w)) H
  exactly_finished f = record {
    sampled = λ L p b. (
      (λ e. let (w, d, i) = (finished_exact p f (s L p)).0 e in (w, (x.sampled L p b).0 d, i)),
      (λ (w, d, i). (finished_exact p f (s L p)).1 (w, (x.sampled L p b).1 d, i)),
    );
    refused = λ L p b. (
      (λ e. let (m, d, i) = (finished_refused p f (s L p)).0 e in (((x.refused L p b).0 d).0, i)),
      (λ (d, i). (finished_refused p f (s L p)).1 (p, (x.refused L p b).1 (d, refl), i)),
    );
    not_above = x.not_above;
    above = λ L p b. rw (x.above L p b);
  }

-- two samples in order: the second starts where the first ended, which is within the slices
module _ {s : Lent → Positions → Drawn} {F : Lent → Positions → Float → Positions → Type 0} {H : Lent → Positions → Refusal → Type 0} (x : Exactly s F H) (h : Steady s) (g : Float → Float → Float)
    {t : Lent → Positions → Drawn} {G : Lent → Positions → Float → Positions → Type 0} {K : Lent → Positions → Refusal → Type 0} (y : Exactly t G K) where
  module _ (L : Lent) (p : Positions) (b : placed L p ≡ true) where
    numbered : {v : Float} {q : Positions} → Chained g (Gives (s L)) (Gives (t L)) p v q → Chained g (F L) (G L) p v q
    numbered c = record {
      first = c.first;
      second = c.second;
      between = c.between;
      first_is = (x.sampled L p b).0 c.first_is;
      second_is = (y.sampled L c.between (ends_placed h L p b c.first_is)).0 c.second_is;
      value_is = c.value_is;
    }

    drawn : {v : Float} {q : Positions} → Chained g (F L) (G L) p v q → Chained g (Gives (s L)) (Gives (t L)) p v q
    drawn c =
        let d = (x.sampled L p b).1 c.first_is in
        record {
          first = c.first;
          second = c.second;
          between = c.between;
          first_is = d;
          second_is = (y.sampled L c.between (ends_placed h L p b d)).1 c.second_is;
          value_is = c.value_is;
        }

    numbered_halt : {r : Refusal} → ChainHalted (Gives (s L)) (Refuses (s L)) (Refuses (t L)) p r → ChainHalted (F L) (H L) (K L) p r
    numbered_halt (at_first (m, e)) = at_first ((x.refused L p b).0 e).0
    numbered_halt (at_second {m = m} d (n, e)) = at_second ((x.sampled L p b).0 d) ((y.refused L m (ends_placed h L p b d)).0 e).0

    drawn_halt : {r : Refusal} → ChainHalted (F L) (H L) (K L) p r → ChainHalted (Gives (s L)) (Refuses (s L)) (Refuses (t L)) p r
    drawn_halt (at_first e) = at_first (p, (x.refused L p b).1 (e, refl))
    drawn_halt (at_second {m = m} f e) = let d = (x.sampled L p b).1 f in at_second d (m, (y.refused L m (ends_placed h L p b d)).1 (e, refl))

    never_above : ¬ ChainHalted (F L) (H L) (K L) p Above
    never_above (at_first e) = x.not_above L p b e
    never_above (at_second {m = m} f e) = y.not_above L m (ends_placed h L p b ((x.sampled L p b).1 f)) e

  pub exactly_chain : Exactly (λ L p. chain p (s L p) (λ v m. finished (g v) m (t L m))) (λ L. Chained g (F L) (G L)) (λ L. ChainHalted (F L) (H L) (K L))
  exactly_chain = record {
    sampled = λ L p b. ((λ e. numbered L p b ((both_exact g (s L) (t L) p).0 e)), (λ c. (both_exact g (s L) (t L) p).1 (drawn L p b c)));
    refused = λ L p b. (
      (λ e. let (c, i) = (both_refused g (s L) (t L) p).0 e in (numbered_halt L p b c, i)),
      (λ (c, i). (both_refused g (s L) (t L) p).1 (drawn_halt L p b c, i)),
    );
    not_above = never_above;
    above = λ L p b. rw (x.above L p b);
  }

-- a draw, where no position is above its slice
pub exactly_draw : (k : Kind) → Exactly (λ L p. cond (placed L p) (as_sample p (read k (slice k L) p)) (Err (Above, p))) (Next k) (NotNext k)
exactly_draw k = record {
  sampled = λ L p b. rw b (next_exact p k L);
  refused = λ L p b. rw b (next_refused p k L);
  not_above = λ L p b h. not_above k (slice k L) (place k p) (placed_tells L p b k) h.1;
  above = λ L p b. rw b;
}
