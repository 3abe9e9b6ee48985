-- One trial settles a search: the first that does not pass. There is one, since no trial from number f on is whole, and it is the only one,
-- since of two numbers the smaller would have to pass. So a search and what is said of its trials by number come to the same.
use Prim.Native.Nat.{ℕ, zero, suc, ◌+◌, ◌<◌}
use native.Mathlib.Nat.{not-suc-le-zero, le_of_suc-le-suc, eq-or-lt_of_le}
use native.Mathlib.Omega.{arith}
use mathlib.Core.Path.{◌≡◌, refl, sym, ◌∙◌, ap, subst}
use mathlib.Core.Logic.{◌↔◌, ⊎_elim}
use mathlib.Core.Bool.{Bool, true, false, true≢false}
use lib.Ieee.{Float}
use Rattle.draws.specs.declared.Positions.{Positions}
use Rattle.draws.specs.declared.Refusal.{Refusal}
use Rattle.draws.specs.Search.{Trials, Takes, Rejects, Halts, Found, Halted, settled, trial, from, searched, valued, finished}
use Rattle.std.specs.Prelude.{Err, None, Ok, Some}
use Rattle.draws.specs.Draws.{Drawn, Trial}

-- ---- a trial's outcome and its tests
abbrev pub Tells : Trials → ℕ → Trial → Type 0
Tells t k (Ok (Some v, q)) = Takes t k × (v ≡ t.value k) × (q ≡ t.after k)
Tells t k (Ok (None, q)) = Rejects t k × (q ≡ t.after k)
Tells t k (Err r) = Halts t k × (r ≡ t.refusal k)

module _ (t : Trials) (k : ℕ) where
  tests : (w u a : Bool) → t.whole k ≡ w → t.usable k ≡ u → t.accepted k ≡ a → Tells t k (settled w u a (t.value k) (t.after k) (t.refusal k))
  tests true true true w u a = ((w, u, a), refl, refl)
  tests true true false w u a = ((w, u, a), refl)
  tests true false _ w u a = (λ h. true≢false (sym h.1 ∙ u), refl)
  tests false _ _ w u a = (λ h. true≢false (sym h.0 ∙ w), refl)

  pub tells : {x : Trial} → trial t k ≡ x → Tells t k x
  tells e = subst (Tells t k) e (tests (t.whole k) (t.usable k) (t.accepted k) refl refl refl)

  pub taken : Takes t k → trial t k ≡ Ok (Some (t.value k), (t.after k))
  taken h = rw (h.0, h.1, h.2)

  pub passed : Rejects t k → trial t k ≡ Ok (None, t.after k)
  passed h = rw (h.0, h.1, h.2)

  stops : (w u : Bool) → ¬ ((w ≡ true) × (u ≡ true)) → settled w u (t.accepted k) (t.value k) (t.after k) (t.refusal k) ≡ Err (t.refusal k)
  stops true true h = absurd (h (refl, refl))
  stops true false h = refl
  stops false _ h = refl

  pub stopped : Halts t k → trial t k ≡ Err (t.refusal k)
  stopped h = stops (t.whole k) (t.usable k) h

  takes_stays : Takes t k → ¬ Rejects t k
  takes_stays h i = true≢false (sym h.2 ∙ i.2)

  halts_stays : Halts t k → ¬ Rejects t k
  halts_stays h i = h (i.0, i.1)

-- ---- the trials before one
abbrev pub Before : Trials → ℕ → Type 0
Before t n = (j : ℕ) → j < n → Rejects t j

module _ (t : Trials) where
  pub none_before : Before t 0
  none_before j l = absurd (not-suc-le-zero l)

  pub one_more : {k : ℕ} → Before t k → Rejects t k → Before t (suc k)
  one_more b h j l = ⊎_elim {C = Rejects t j} (λ e. rw e h) (b j) (eq-or-lt_of_le (le_of_suc-le-suc l))

  one_number : {m n : ℕ} → Before t m → Before t n → ¬ Rejects t m → ¬ Rejects t n → m ≡ n
  one_number {m} {n} b c s r =
      let h : ¬ (m < n) = λ l. s (c m l) in
      let i : ¬ (n < m) = λ l. r (b n l) in
      omega arith

  pub one_found : {v v' : Float} {q q' : Positions} → Found t v q → Found t v' q' → (v ≡ v') × (q ≡ q')
  one_found h i =
      let e = one_number h.earlier i.earlier (takes_stays t _ h.takes) (takes_stays t _ i.takes) in
      (h.value_is ∙ ap t.value e ∙ sym i.value_is, h.after_is ∙ ap t.after e ∙ sym i.after_is)

  pub one_halt : {r r' : Refusal} (h : Halted t r) (i : Halted t r') → h.at ≡ i.at
  one_halt h i = one_number h.earlier i.earlier (halts_stays t _ h.halts) (halts_stays t _ i.halts)

  pub one_halted : {r r' : Refusal} → Halted t r → Halted t r' → r ≡ r'
  one_halted h i = h.refusal_is ∙ ap t.refusal (one_halt h i) ∙ sym i.refusal_is

  pub not_both : {v : Float} {q : Positions} {r : Refusal} → Found t v q → ¬ Halted t r
  not_both h i =
      let e = one_number h.earlier i.earlier (takes_stays t _ h.takes) (halts_stays t _ i.halts) in
      i.halts (rw e at h.takes.0, rw e at h.takes.1)

  -- what a trial that does not pass comes to, where those before it do
  module _ {k : ℕ} (b : Before t k) where
    pub found_at : {v : Float} {q : Positions} → trial t k ≡ Ok (Some v, q) → Found t v q
    found_at e =
        let h = tells t k e in
        record { at = k; takes = h.0; earlier = b; value_is = h.1; after_is = h.2 }

    pub halted_at : {r : Refusal} → trial t k ≡ Err r → Halted t r
    halted_at e =
        let h = tells t k e in
        record { at = k; halts = h.0; earlier = b; refusal_is = h.1 }

-- ---- what is said of an outcome, by the number of the trial that settled the search
abbrev pub Outcome : Trials → Positions → Drawn → Type 0
Outcome t p (Ok (v, q)) = Found t v q
Outcome t p (Err (r, q)) = Halted t r × (q ≡ p)

one_outcome : (t : Trials) (p : Positions) (d d' : Drawn) → Outcome t p d → Outcome t p d' → d ≡ d'
one_outcome t p (Ok (v, q)) (Ok (v', q')) h i = let e = one_found t h i in cc
one_outcome t p (Ok (v, q)) (Err (r, q')) h i = absurd (not_both t h i.0)
one_outcome t p (Err (r, q)) (Ok (v, q')) h i = absurd (not_both t i h.0)
one_outcome t p (Err (r, q)) (Err (r', q')) h i = let e = one_halted t h.0 i.0 in cc

module _ (t : Trials) (p : Positions) (f : ℕ) (ends : (k : ℕ) → t.whole k ≡ true → k < f) where
  settled_from : (d k : ℕ) → k + d ≡ f → Before t k → (x : Trial) → trial t k ≡ x → Outcome t p (from (trial t) p d k x)
  unfolding from
  settled_from zero k l b (Ok (Some v, q)) e = found_at t b e
  settled_from zero k l b (Ok (None, q)) e = absurd (omega (arith, ends k (tells t k e).0.0))
  settled_from zero k l b (Err r) e = (halted_at t b e, refl)
  settled_from (suc d) k l b (Ok (Some v, q)) e = found_at t b e
  settled_from (suc d) k l b (Ok (None, q)) e = settled_from d (suc k) (omega arith) (one_more t b (tells t k e).0) (trial t (suc k)) refl
  settled_from (suc d) k l b (Err r) e = (halted_at t b e, refl)

  pub settled_by : Outcome t p (searched t p f)
  settled_by = settled_from f 0 (omega arith) (none_before t) (trial t 0) refl

  pub given : {v : Float} {q : Positions} → searched t p f ≡ Ok (v, q) → Found t v q
  given e = subst (Outcome t p) e settled_by

  pub refused : {r : Refusal} {q : Positions} → searched t p f ≡ Err (r, q) → Halted t r × (q ≡ p)
  refused e = subst (Outcome t p) e settled_by

  pub gives : {v : Float} {q : Positions} → Found t v q → searched t p f ≡ Ok (v, q)
  gives {v} {q} h = one_outcome t p (searched t p f) (Ok (v, q)) settled_by h

  pub refuses : {r : Refusal} → Halted t r → searched t p f ≡ Err (r, p)
  refuses {r} h = one_outcome t p (searched t p f) (Err (r, p)) settled_by (h, refl)

  pub exact : {v : Float} {q : Positions} → (searched t p f ≡ Ok (v, q)) ↔ Found t v q
  exact = (given, gives)

-- a search whose values are mapped afterwards is the search of the mapped trials, whatever the positions as lent
module _ (g : Float → Float) (t : Trials) where
  valued_outcome : (p p' : Positions) (d : Drawn) → Outcome t p' d → Outcome (valued g t) p (finished g p d)
  valued_outcome p p' (Ok (v, q)) h = record { at = h.at; takes = h.takes; earlier = h.earlier; value_is = ap g h.value_is; after_is = h.after_is }
  valued_outcome p p' (Err (r, q)) h = (record { at = h.0.at; halts = h.0.halts; earlier = h.0.earlier; refusal_is = h.0.refusal_is }, refl)

  pub finish : (p p' : Positions) (f : ℕ) → ((k : ℕ) → t.whole k ≡ true → k < f) → finished g p (searched t p' f) ≡ searched (valued g t) p f
  finish p p' f ends =
      one_outcome (valued g t) p _ _ (valued_outcome p p' (searched t p' f) (settled_by t p' f ends)) (settled_by (valued g t) p f ends)
