-- Demand 3 for Gamma. At valid positions a sample is given exactly where the sentence finds one, and a refusal exactly where it finds none: each
-- kind is a search, in which one trial settles the outcome; Small's is settled by its opening uniform first.
use mathlib.Core.Path.{◌≡◌, refl, sym, ◌∙◌, subst}
use mathlib.Core.Logic.{◌↔◌}
use mathlib.Core.Bool.{Bool, true, false, cond}
use Prim.Native.Nat.{ℕ, ◌<◌}
use native.Mathlib.Nat.{add_assoc}
use lib.ListN.{length}
use lib.Ieee.{Float}
use Rattle.draws.specs.Draws.{Lent, past, placed, nth, Had, read, Draw, Drawn}
use Rattle.draws.specs.Search.{Trials, Halted, searched, valued}
use Rattle.draws.specs.declared.Positions.{Positions}
use Rattle.draws.specs.declared.Kind.TheVariants.{Uniform}
use Rattle.draws.specs.declared.Refusal.{Refusal}
use Rattle.draws.specs.declared.Refusal.TheVariants.{Above}
use Rattle.draws.proofs.Reading.{next_is, not_next_is}
use Rattle.draws.proofs.Searches as searches
use Rattle.gamma.specs.declared.small.GammaSmallShape.{GammaSmallShape}
use Rattle.gamma.specs.declared.Gamma.{Gamma}
use Rattle.gamma.specs.declared.Gamma.TheVariants.{One, Small, Large}
use Rattle.gamma.specs.Large.{large_trials, large_value, large_of}
use Rattle.gamma.specs.Small.{one_trials, small_value, small_from, one_of, small_of}
use Rattle.gamma.specs.Gamma.{kind_of, gamma_of, SmallFound, GammaFound, Uses, SmallHalted, at_opening, past_opening, GammaHalted}
use Rattle.gamma.proofs.Trials.{large_ends}
use Rattle.gamma.proofs.SmallAndOne.{one_ends}
use Rattle.std.specs.Prelude.{Err, Ok}
use Rattle.draws.proofs.Pairs.{err_parts}

-- a refusal does not depend on the value
module _ (f : Float → Float) {t : Trials} {r : Refusal} where
  plain : Halted (valued f t) r → Halted t r
  plain h = record { at = h.at; halts = h.halts; earlier = h.earlier; refusal_is = h.refusal_is }

  scaled : Halted t r → Halted (valued f t) r
  scaled h = record { at = h.at; halts = h.halts; earlier = h.earlier; refusal_is = h.refusal_is }

-- ---- Small
module _ (l : Lent) (p : Positions) where
  -- the opening uniform
  opens : Had Uniform l p → read Uniform l.uniforms p ≡ Ok (nth Uniform l p 0, past Uniform 1 p)
  opens o = (next_is Uniform l p).1 (o, refl, refl)

  module _ (g : GammaSmallShape) where
    abbrev Said : Drawn → Type 0
    Said (Ok (v, q)) = SmallFound g l p v q
    Said (Err (r, q)) = SmallHalted g l p r × (q ≡ p)

    abbrev trials : Trials
    trials = valued (small_value g (nth Uniform l p 0)) (large_trials g.large_shape l (past Uniform 1 p))

    ends : (k : ℕ) → trials.whole k ≡ true → k < length l.normals
    ends = large_ends g.large_shape l (past Uniform 1 p)

    lifted : Had Uniform l p → (d : Drawn) → searches.Outcome trials p d → Said d
    lifted o (Ok (v, q)) h = record { opening = o; found = h }
    lifted o (Err (r, q)) h = (past_opening o (plain (small_value g (nth Uniform l p 0)) h.0), h.1)

    said : (d : Draw) → read Uniform l.uniforms p ≡ d → Said (small_from g l p d)
    unfolding small_from
    said (Ok (u, m)) e =
        let (o, i, j) = (next_is Uniform l p).0 e in
        rw (i, j) (lifted o (searched trials p (length l.normals)) (searches.settled_by trials p (length l.normals) ends))
    said (Err r) e = (at_opening ((not_next_is Uniform l p).0 e), refl)

    small_gives : {v : Float} {q : Positions} → SmallFound g l p v q → small_from g l p (read Uniform l.uniforms p) ≡ Ok (v, q)
    unfolding small_from
    small_gives h = rw (opens h.opening) (searches.gives trials p (length l.normals) ends h.found)

    small_refuses : {r : Refusal} → SmallHalted g l p r → small_from g l p (read Uniform l.uniforms p) ≡ Err (r, p)
    unfolding small_from
    small_refuses (past_opening o h) = rw (opens o) (searches.refuses trials p (length l.normals) ends (scaled (small_value g (nth Uniform l p 0)) h))
    small_refuses (at_opening n) = rw ((not_next_is Uniform l p).1 n)

-- ---- every kind
module _ (l : Lent) (p : Positions) where
  kind_exact : (g : Gamma) {v : Float} {q : Positions} → (kind_of g l p ≡ Ok (v, q)) ↔ GammaFound g l p v q
  unfolding kind_of one_of small_of large_of
  kind_exact (One s) = searches.exact (one_trials s l p) p 1 (one_ends s l p)
  kind_exact (Small g) = ((λ e. subst (Said l p g) e (said l p g (read Uniform l.uniforms p) refl)), small_gives l p g)
  kind_exact (Large g) = searches.exact (valued (large_value g) (large_trials g l p)) p (length l.normals) (large_ends g l p)

  kind_refused : (g : Gamma) {r : Refusal} {q : Positions} → kind_of g l p ≡ Err (r, q) → GammaHalted g l p r × (q ≡ p)
  unfolding kind_of one_of small_of large_of
  kind_refused (One s) e = searches.refused (one_trials s l p) p 1 (one_ends s l p) e
  kind_refused (Small g) e = subst (Said l p g) e (said l p g (read Uniform l.uniforms p) refl)
  kind_refused (Large g) e =
      let h = searches.refused (valued (large_value g) (large_trials g l p)) p (length l.normals) (large_ends g l p) e in
      (plain (large_value g) h.0, h.1)

  kind_refuses : (g : Gamma) {r : Refusal} → GammaHalted g l p r → kind_of g l p ≡ Err (r, p)
  unfolding kind_of one_of small_of large_of
  kind_refuses (One s) h = searches.refuses (one_trials s l p) p 1 (one_ends s l p) h
  kind_refuses (Small g) h = small_refuses l p g h
  kind_refuses (Large g) h = searches.refuses (valued (large_value g) (large_trials g l p)) p (length l.normals) (large_ends g l p) (scaled (large_value g) h)

module _ (g : Gamma) (l : Lent) (p : Positions) where
  -- a sample is given exactly where some whole, usable, accepted trial stands in the draws with every earlier trial whole, usable and rejected
  pub exact : placed l p ≡ true → {v : Float} {q : Positions} → (gamma_of g l p ≡ Ok (v, q)) ↔ GammaFound g l p v q
  unfolding gamma_of
  exact b = ((λ e. (kind_exact l p g).0 (rw b at e)), (λ h. rw b ((kind_exact l p g).1 h)))

  -- a refusal at valid positions is that of Small's opening uniform, or of the first trial that is not whole or not usable, and its positions are those
  -- lent
  pub refused_first : placed l p ≡ true → {r : Refusal} {q : Positions} → (gamma_of g l p ≡ Err (r, q)) ↔ (GammaHalted g l p r × (q ≡ p))
  unfolding gamma_of
  refused_first b = ((λ e. kind_refused l p g (rw b at e)), (λ (h, i). rw (b, i) (kind_refuses l p g h)))

  -- at any other positions it is 17
  pub refused_above : placed l p ≡ false → gamma_of g l p ≡ Err (Above, p)
  unfolding gamma_of
  refused_above b = rw b

  -- a refusal has the positions as lent
  pub keeps : {r : Refusal} {q : Positions} → gamma_of g l p ≡ Err (r, q) → q ≡ p
  unfolding gamma_of
  keeps {r} {q} e = go (placed l p) e
    where
      go : (b : Bool) → cond b (kind_of g l p) (Err (Above, p)) ≡ Err (r, q) → q ≡ p
      go true i = (kind_refused l p g i).1
      go false i = sym (err_parts i).1

  -- what the promise allows is one outcome, and so is what the sentence allows
  pub one_outcome : {d d' : Drawn} → d ≡ gamma_of g l p → d' ≡ gamma_of g l p → d ≡ d'
  one_outcome e i = e ∙ sym i

pub one_found : (g : Gamma) (l : Lent) (p : Positions) {v v' : Float} {q q' : Positions} → GammaFound g l p v q → GammaFound g l p v' q' → (v ≡ v') × (q ≡ q')
one_found (One s) l p h i = searches.one_found (one_trials s l p) h i
one_found (Small g) l p h i = searches.one_found _ h.found i.found
one_found (Large g) l p h i = searches.one_found _ h i

-- never both a sample and a refusal
pub not_both : (g : Gamma) (l : Lent) (p : Positions) (v : Float) (q : Positions) (r : Refusal) → GammaFound g l p v q → ¬ GammaHalted g l p r
not_both (One s) l p v q r h i = searches.not_both (one_trials s l p) h i
not_both (Small g) l p v q r h (at_opening n) = n.0 h.opening
not_both (Small g) l p v q r h (past_opening o i) = searches.not_both (trials l p g) h.found (scaled (small_value g (nth Uniform l p 0)) i)
not_both (Large g) l p v q r h i = searches.not_both (valued (large_value g) (large_trials g l p)) h (scaled (large_value g) i)

-- which draws a sample used, by the number of its accepted trial
pub uses : (g : Gamma) (l : Lent) (p : Positions) (v : Float) (q : Positions) (h : GammaFound g l p v q) → Uses g l p v q h
unfolding one_trials large_trials
uses (One s) l p v q h = h.after_is
uses (Small g) l p v q h = simp add_assoc at h.found.after_is
uses (Large g) l p v q h = h.after_is
