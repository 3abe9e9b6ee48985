-- Samples in order, each by the sampler of its index. What a loop has taken, with what `samples` gives from there on put behind it, is what it gives
-- from the start: so the loop ends with it. By number, each sample starts where the one before it left off, and the first that can't be had has the
-- refusal; and samples of steady samplers are steady.
use Prim.Native.Nat.{ℕ, zero, suc, ◌+◌, ◌-◌, ◌<◌, ◌≤◌, zero-le}
use native.Mathlib.Nat.{le_trans, le_refl, not-suc-le-zero, le_of_suc-le-suc, eq-or-lt_of_le, zero-add, sub-zero}
use native.Mathlib.Numerals.{add-one}
use native.Mathlib.Omega.{arith}
use mathlib.Core.Path.{◌≡◌, refl, sym, ◌∙◌, ap, subst}
use mathlib.Core.Logic.{◌↔◌, ⊎_elim}
use mathlib.Core.List.{List, [], ◌∷◌, ◌++◌, append_assoc, append-nil}
use mathlib.Core.Bool.{true}
use lib.ListN.{length, get_or, take, set, length-set, length-append, get_or-append}
use lib.Seq.{take-suc-set, take_all, get_or_at, ext_get_or}
use lib.Ieee.{Float, nan}
use Rattle.draws.specs.declared.Positions.{Positions}
use Rattle.draws.specs.declared.Refusal.{Refusal}
use Rattle.draws.specs.declared.Refusal.TheVariants.{Above}
use Rattle.draws.specs.Draws.{Lent, placed, Drawn}
use Rattle.draws.specs.Fill.{Samples, all, stopped, ahead, then, samples, given, InTurn, FirstLacking}
use Rattle.draws.specs.Later.{SameTo, Reached, Steady}
use Rattle.draws.specs.Exactly.{Exactly}
use Rattle.draws.proofs.Later.{placed_tells, same_before}
use Rattle.draws.proofs.Sequencing.{ends_placed, start, start_placed}
use Rattle.std.specs.Prelude.{Err, Ok}
use Rattle.draws.proofs.Pairs.{ok_parts, err_parts}

ahead_none : (x : Samples) → ahead [] x ≡ x
ahead_none (all vs q) = refl
ahead_none (stopped r) = refl

ahead_ahead : (vs ws : List Float) (x : Samples) → ahead vs (ahead ws x) ≡ ahead (vs ++ ws) x
ahead_ahead vs ws (all us q) = rw append_assoc
ahead_ahead vs ws (stopped r) = refl

-- ---- a loop has taken i of n samples, whose values are vs, and stands at q
pub record Taking (s : ℕ → Positions → Drawn) (p : Positions) (n i : ℕ) (vs : List Float) (q : Positions) : Type 0 where
  pub within : i ≤ n
  pub so_far : samples s 0 n p ≡ ahead vs (samples s i (n - i) q)

pub taking_starts : (s : ℕ → Positions → Drawn) (p : Positions) (n : ℕ) → Taking s p n 0 [] p
taking_starts s p n = record { within = zero-le; so_far = rw sub-zero (sym (ahead_none _)) }

module _ {s : ℕ → Positions → Drawn} {p : Positions} {n i : ℕ} {vs : List Float} {q : Positions} (t : Taking s p n i vs q) where
  next : i < n → {x : Drawn} → s i q ≡ x → samples s 0 n p ≡ ahead vs (then x (λ z. samples s (suc i) (n - suc i) z))
  unfolding samples
  next l e =
      let h : n - i ≡ suc (n - suc i) = omega arith in
      t.so_far ∙ rw (h, e)

  pub taking_goes : i < n → {v : Float} {q' : Positions} → s i q ≡ Ok (v, q') → Taking s p n (suc i) (vs ++ v ∷ []) q'
  taking_goes l {v} {q'} e = record { within = l; so_far = next l e ∙ ahead_ahead vs (v ∷ []) (samples s (suc i) (n - suc i) q') }

  pub taking_stops : i < n → {r : Refusal} {q' : Positions} → s i q ≡ Err (r, q') → samples s 0 n p ≡ stopped r
  taking_stops l e = next l e

  pub taking_ends : n ≤ i → samples s 0 n p ≡ all vs q
  unfolding samples
  taking_ends l =
      let h : n - i ≡ 0 = omega arith in
      t.so_far ∙ rw (h, append-nil)

-- ---- and has stored them in out; `taking` is private, so that `omega` doesn't enter it
pub record Storing (s : ℕ → Positions → Drawn) (p : Positions) (n i : ℕ) (out : List Float) (q : Positions) : Type 0 where
  pub long : length out ≡ n
  taking : Taking s p n i (take i out) q

pub storing_starts : (s : ℕ → Positions → Drawn) (p : Positions) {n : ℕ} (out : List Float) → length out ≡ n → Storing s p n 0 out p
storing_starts s p out e = record { long = e; taking = taking_starts s p _ }

module _ {s : ℕ → Positions → Drawn} {p : Positions} {n i : ℕ} {out : List Float} {q : Positions} (f : Storing s p n i out q) where
  pub storing_goes : i < n → {v : Float} {q' : Positions} → s i q ≡ Ok (v, q') → Storing s p n (i + 1) (set out i v) q'
  storing_goes l {v} e =
      let h : i < length out = omega (arith, f.long) in
      record { long = length-set out i v ∙ f.long; taking = rw (add-one i, take-suc-set out i v h) (taking_goes f.taking l e) }

  pub storing_stops : i < n → {r : Refusal} {q' : Positions} → s i q ≡ Err (r, q') → samples s 0 n p ≡ stopped r
  storing_stops = taking_stops f.taking

  pub storing_ends : n ≤ i → samples s 0 n p ≡ all out q
  storing_ends l = taking_ends f.taking l ∙ rw (take_all i out (omega (arith, f.long)))

-- ---- samples by their numbers: all n of them, or the first that is refused
-- sample i is what its own sampler draws where it starts
abbrev pub Taken : (ℕ → Positions → Drawn) → ℕ → Positions → List Float → Positions → Type 0
Taken s n p vs q = (length vs ≡ n) × (q ≡ start s p n) × ((i : ℕ) → i < n → s i (start s p i) ≡ Ok (get_or vs i nan, (start s p (suc i))))

not_refused : {x : Drawn} {v : Float} {q z : Positions} {r : Refusal} → x ≡ Ok (v, q) → ¬ (x ≡ Err (r, z))
not_refused e d = let z : ◌≡◌ {A = ℕ} 0 1 = cc in omega arith

module _ (s : ℕ → Positions → Drawn) (n : ℕ) (p : Positions) where
  abbrev pub Lacking : Refusal → Type 0
  Lacking r = (k : ℕ) × (vs : List Float) × (m : Positions) × (z : Positions) × (k < n) × Taken s k p vs m × (s k m ≡ Err (r, z))

  abbrev Said : Samples → Type 0
  Said (all vs q) = Taken s n p vs q
  Said (stopped r) = Lacking r

  taken_only : {vs : List Float} {q : Positions} → Taken s n p vs q → (x : Samples) → Said x → x ≡ all vs q
  taken_only {vs} {q} (n, e, h) (all ws z) (m, d, k) =
      let same : ws ≡ vs = ext_get_or nan ws vs (m ∙ sym n) (λ i l. (ok_parts (sym (k i (rw m at l)) ∙ h i (rw m at l))).0) in
      cc
  taken_only (n, e, h) (stopped r) (k, vs, m, z, l, (c, a, t), d) = absurd (not_refused (h k l) (rw a at d))

  lacking_only : {r : Refusal} → Lacking r → (x : Samples) → Said x → x ≡ stopped r
  lacking_only {r} (k, vs, m, z, l, (c, a, t), d) (all ws q) (n, e, h) = absurd (not_refused (h k l) (rw a at d))
  lacking_only {r} (k, vs, m, z, l, (c, a, t), d) (stopped w) (j, us, y, o, i, (b, e, h), f) =
      let before : ¬ (j < k) = λ u. not_refused (t j u) (rw e at f) in
      let beyond : ¬ (k < j) = λ u. not_refused (h k u) (rw a at d) in
      let same : j ≡ k = omega arith in
      let again : s j y ≡ Err (r, z) = rw (e, same, ← a) d in
      ap stopped (err_parts (sym f ∙ again)).0

taken_more : (s : ℕ → Positions → Drawn) (p : Positions) {i : ℕ} (vs : List Float) {q : Positions} → Taken s i p vs q → {v : Float} {q' : Positions} → s i (start s p i) ≡ Ok (v, q')
    → Taken s (suc i) p (vs ++ v ∷ []) q'
unfolding start
taken_more s p {i} vs (c, d, h) {v} e = (length-append vs (v ∷ []) ∙ rw (c, add-one i), rw e, each)
  where
    each : (k : ℕ) → k < suc i → s k (start s p k) ≡ Ok ((get_or (vs ++ v ∷ []) k nan), (start s p (suc k)))
    each k l =
        ⊎_elim {C = s k (start s p k) ≡ Ok ((get_or (vs ++ v ∷ []) k nan), (start s p (suc k)))} (λ z. rw z (rw (get_or_at vs v [] nan i c, e)))
        (λ m. rw (get_or-append vs (v ∷ []) nan k (omega arith)) (h k m)) (eq-or-lt_of_le (le_of_suc-le-suc l))

module _ (s : ℕ → Positions → Drawn) (n : ℕ) (p : Positions) where
  said_from : (m : ℕ) {i : ℕ} {vs : List Float} {q : Positions} → i + m ≡ n → Taken s i p vs q → Taking s p n i vs q → (x : Drawn) → s i q ≡ x → Said s n p (samples s 0 n p)
  said_from zero {i} e h t x d =
      let z : i ≡ n = omega arith in
      rw (taking_ends t (omega arith)) (rw z at h)
  said_from (suc m) {i} {vs} e h t (Ok (v, z)) d =
      said_from m {i = suc i} {vs = vs ++ v ∷ []} (omega arith) (taken_more s p vs h (rw h.1 at d)) (taking_goes t (omega arith) d) (s (suc i) z) refl
  said_from (suc m) {i} {vs} e h t (Err (r, z)) d = rw (taking_stops t (omega arith) d) (i, vs, _, z, omega arith, h, d)

  said : Said s n p (samples s 0 n p)
  unfolding start
  said = said_from n {i = 0} {vs = []} (zero-add n) (refl, refl, λ i l. absurd (not-suc-le-zero l)) (taking_starts s p n) (s 0 p) refl

  pub samples_are : {vs : List Float} {q : Positions} → (samples s 0 n p ≡ all vs q) ↔ Taken s n p vs q
  samples_are = (λ e. subst (Said s n p) e said, λ h. taken_only s n p h (samples s 0 n p) said)

  pub samples_refused : {r : Refusal} → (samples s 0 n p ≡ stopped r) ↔ Lacking s n p r
  samples_refused = (λ e. subst (Said s n p) e said, λ h. lacking_only s n p h (samples s 0 n p) said)

-- ---- steady samplers' samples are steady
ahead_all : {v : Float} (y : Samples) {vs : List Float} {q : Positions} → ahead (v ∷ []) y ≡ all vs q → (ws : List Float) × (y ≡ all ws q) × (vs ≡ v ∷ ws)
ahead_all (all ws z) e = (ws, cc, cc)
ahead_all (stopped r) e = let z : ◌≡◌ {A = ℕ} 0 1 = cc in absurd (omega arith)

then_all : (x : Drawn) (f : Positions → Samples) {vs : List Float} {q : Positions} → then x f ≡ all vs q
    → (v : Float) × (m : Positions) × (ws : List Float) × (x ≡ Ok (v, m)) × (f m ≡ all ws q) × (vs ≡ v ∷ ws)
then_all (Ok (v, m)) f e = let (ws, d, c) = ahead_all (f m) e in (v, m, ws, refl, d, c)
then_all (Err (r, m)) f e = let z : ◌≡◌ {A = ℕ} 0 1 = cc in absurd (omega arith)

given_all : (f : List Float → List Float) (x : Samples) {vs : List Float} {q : Positions} → given f x ≡ all vs q → (ws : List Float) × (x ≡ all ws q) × (f ws ≡ vs)
given_all f (all ws z) e = (ws, cc, cc)
given_all f (stopped r) e = let z : ◌≡◌ {A = ℕ} 0 1 = cc in absurd (omega arith)

given_stopped : (f : List Float → List Float) (x : Samples) {r : Refusal} → given f x ≡ stopped r → x ≡ stopped r
given_stopped f (all ws z) e = let z : ◌≡◌ {A = ℕ} 0 1 = cc in absurd (omega arith)
given_stopped f (stopped w) e = e

module _ {s : Lent → ℕ → Positions → Drawn} (h : (i : ℕ) → Steady (λ l. s l i)) (l l' : Lent) where
  pub samples_carried : (n j : ℕ) (p : Positions) {vs : List Float} {q : Positions} → placed l p ≡ true → samples (s l) j n p ≡ all vs q
      → Reached l p q × (SameTo q l l' → samples (s l') j n p ≡ all vs q)
  unfolding samples
  samples_carried zero j p {vs} {q} b e = let d : q ≡ p = cc in (rw d (λ k. (le_refl _, placed_tells l p b k)), λ t. e)
  samples_carried (suc n) j p {vs} {q} b e =
      let (v, m, ws, d, c, w) = then_all (s l j p) (λ z. samples (s l) (suc j) n z) e in
      let i = (h j).reaches l p b d in
      let (r, f) = samples_carried n (suc j) m (ends_placed (h j) l p b d) c in
      (λ k. (le_trans (i k).0 (r k).0, (r k).1), λ t. rw ((h j).later l l' p b d (same_before l l' m q (λ k. (r k).0) t), f t) (ap (λ (us : List Float). all us q) (sym w)))

  pub given_carried : (f : List Float → List Float) (n : ℕ) (p : Positions) {vs : List Float} {q : Positions} → placed l p ≡ true → given f (samples (s l) 0 n p) ≡ all vs q
      → Reached l p q × (SameTo q l l' → given f (samples (s l') 0 n p) ≡ all vs q)
  given_carried f n p b e =
      let (ws, d, w) = given_all f (samples (s l) 0 n p) e in
      let (r, k) = samples_carried n 0 p b d in
      (r, λ t. rw (k t, w))

-- ---- by number, of samplers that are said by number: what each finds, from where the one before it ended
module _ {s : Lent → ℕ → Positions → Drawn} {F : ℕ → Lent → Positions → Float → Positions → Type 0} {H : ℕ → Lent → Positions → Refusal → Type 0}
    (x : (i : ℕ) → Exactly (λ l. s l i) (F i) (H i)) (h : (i : ℕ) → Steady (λ l. s l i)) (l : Lent) (p : Positions) (b : placed l p ≡ true) where
  abbrev Turns : ℕ → List Float → Positions → Type 0
  Turns n = InTurn (λ i. F i l) n p

  abbrev Lacks : ℕ → Refusal → Type 0
  Lacks n = FirstLacking (λ i. F i l) (λ i. H i l) n p

  module _ (n : ℕ) {vs : List Float} {q : Positions} where
    taken_in_turn : Taken (s l) n p vs q → Turns n vs q
    unfolding start
    taken_in_turn (c, e, f) = record {
      starts = start (s l) p;
      first = refl;
      each = λ i m. ((x i).sampled l (start (s l) p i) (start_placed h l p b i)).0 (f i m);
      last = e;
      count = c;
    }

    -- the starts are those that the samplers come to
    turn : (t : Turns n vs q) {i : ℕ} → start (s l) p i ≡ t.starts i → i < n → s l i (t.starts i) ≡ Ok (get_or vs i nan, (t.starts (suc i)))
    turn t {i} e m = ((x i).sampled l (t.starts i) (rw e at (start_placed h l p b i))).1 (t.each i m)

    same_start : (t : Turns n vs q) (i : ℕ) → i ≤ n → start (s l) p i ≡ t.starts i
    unfolding start
    same_start t zero m = sym t.first
    same_start t (suc i) m = let e = same_start t i (omega arith) in rw (e, turn t e m)

    in_turn_taken : Turns n vs q → Taken (s l) n p vs q
    in_turn_taken t = (t.count, rw (same_start t n (le_refl n)) t.last, λ i m. let e = same_start t i (omega arith) in rw (e, same_start t (suc i) m) (turn t e m))

    pub samples_exact : (samples (s l) 0 n p ≡ all vs q) ↔ Turns n vs q
    samples_exact = (λ e. taken_in_turn ((samples_are (s l) n p).0 e), λ t. (samples_are (s l) n p).1 (in_turn_taken t))

  pub given_exact : (n : ℕ) (f : List Float → List Float) {out : List Float} {q : Positions}
      → (given f (samples (s l) 0 n p) ≡ all out q) ↔ ((vs : List Float) × InTurn (λ i. F i l) n p vs q × (out ≡ f vs))
  given_exact n f = (λ e. let (vs, d, w) = given_all f (samples (s l) 0 n p) e in (vs, (samples_exact n).0 d, sym w), λ (vs, t, w). rw ((samples_exact n).1 t, w))

  -- and where one can't be had: the first such, with its refusal. Where the first k samples end, no position is above its slice
  kth_placed : (k : ℕ) {m : Positions} → m ≡ start (s l) p k → placed l m ≡ true
  kth_placed k e = rw e (start_placed h l p b k)

  module _ (n : ℕ) where
    lacking_placed : {r : Refusal} (f : Lacks n r) → placed l f.ends ≡ true
    lacking_placed f = kth_placed f.at (in_turn_taken f.at f.before).1

    -- so that it is not refused by 17
    pub lacking_not_above : ¬ Lacks n Above
    lacking_not_above f = (x f.at).not_above l f.ends (lacking_placed f) f.lacks

    module _ {r : Refusal} where
      pub samples_lacking : (samples (s l) 0 n p ≡ stopped r) ↔ Lacks n r
      samples_lacking = (
        λ e.
            let (k, vs, m, z, i, t, d) = (samples_refused (s l) n p).0 e in
            record { at = k; within = i; values = vs; ends = m; before = taken_in_turn k t; lacks = (((x k).refused l m (kth_placed k t.1)).0 d).0 },
        λ f.
            let d = ((x f.at).refused l f.ends (lacking_placed f)).1 (f.lacks, refl) in
            (samples_refused (s l) n p).1 (f.at, f.values, f.ends, f.ends, f.within, in_turn_taken f.at f.before, d),
      )

      pub given_lacking : (f : List Float → List Float) → (given f (samples (s l) 0 n p) ≡ stopped r) ↔ Lacks n r
      given_lacking f = (λ e. samples_lacking.0 (given_stopped f (samples (s l) 0 n p) e), λ t. rw (samples_lacking.1 t))
