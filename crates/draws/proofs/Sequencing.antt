-- A sampler that draws a second time where its first draw left off is steady if both draws are: the second ends no earlier than the first, so
-- what is the same up to its end is the same up to the end of the first. A search is steady if its trials read nothing beyond the one found.
use Prim.Native.Nat.{ℕ, zero, suc, ◌+◌, ◌<◌, ◌≤◌}
use native.Mathlib.Nat.{le_trans}
use native.Mathlib.Omega.{arith}
use borrow.Author.Tests.{ltb-true}
use mathlib.Core.Path.{◌≡◌, refl, sym}
use mathlib.Core.Bool.{Bool, true, false, cond}
use lib.ListN.{length}
use lib.Ieee.{Float}
use Rattle.draws.specs.declared.Positions.{Positions}
use Rattle.draws.specs.declared.Refusal.{Refusal}
use Rattle.draws.specs.declared.Refusal.TheVariants.{Above}
use Rattle.draws.specs.declared.Kind.{Kind}
use Rattle.draws.specs.Draws.{Lent, slice, place, past, placed, read, Draw, Drawn}
use Rattle.draws.specs.Search.{Trials, Found, searched, finished, chain, as_sample}
use Rattle.draws.proofs.Reading.{usable_is}
use Rattle.draws.proofs.Searches.{gives, given, refused}
use Rattle.draws.specs.Later.{SameTo, Reached, Steady}
use Rattle.draws.proofs.Later.{tells_placed, placed_later, past_place, past_reached, same_before, same_read, Alike, carried}
use Rattle.std.specs.Prelude.{Err, Ok}
use Rattle.draws.proofs.Pairs.{ok_parts, err_parts}

finished_keeps : (g : Float → Float) (p : Positions) (x : Drawn) {r : Refusal} {q : Positions} → finished g p x ≡ Err (r, q) → q ≡ p
finished_keeps g p (Ok (v, m)) e = let z : ◌≡◌ {A = ℕ} 0 1 = cc in absurd (omega arith)
finished_keeps g p (Err (r, m)) e = sym (err_parts e).1

pub finished_from : (g : Float → Float) (p : Positions) (x : Drawn) {w : Float} {q : Positions} → finished g p x ≡ Ok (w, q) → (v : Float) × (x ≡ Ok (v, q)) × (g v ≡ w)
finished_from g p (Ok (v, m)) e = let (h, i) = ok_parts e in (v, rw i, h)
finished_from g p (Err (r, m)) e = let z : ◌≡◌ {A = ℕ} 0 1 = cc in absurd (omega arith)

pub steady_finished : (g : Float → Float) {s : Lent → Positions → Drawn} → Steady s → Steady (λ L p. finished g p (s L p))
steady_finished g {s} h = record {
  keeps = λ L p. finished_keeps g p (s L p);
  reaches = λ L p b e. h.reaches L p b (finished_from g p (s L p) e).1;
  later = λ L L' p b e i.
      let (v, d, c) = finished_from g p (s L p) e in
      rw (h.later L L' p b d i, c);
}

module _ (p : Positions) (f : Float → Positions → Drawn) where
  chain_keeps : (x : Drawn) {r : Refusal} {q : Positions} → chain p x f ≡ Err (r, q) → q ≡ p
  chain_keeps (Ok (v, m)) e = finished_keeps (λ w. w) p (f v m) e
  chain_keeps (Err (r, m)) e = sym (err_parts e).1

  chain_from : (x : Drawn) {w : Float} {q : Positions} → chain p x f ≡ Ok (w, q) → (v : Float) × (m : Positions) × (x ≡ Ok (v, m)) × (f v m ≡ Ok (w, q))
  chain_from (Ok (v, m)) e =
      let (w, d, c) = finished_from (λ w. w) p (f v m) e in
      (v, m, refl, rw c at d)
  chain_from (Err (r, m)) e = let z : ◌≡◌ {A = ℕ} 0 1 = cc in absurd (omega arith)

pub steady_chain : {s : Lent → Positions → Drawn} {s₂ : Float → Lent → Positions → Drawn} → Steady s → ((v : Float) → Steady (s₂ v))
    → Steady (λ L p. chain p (s L p) (λ v q. s₂ v L q))
steady_chain {s} {s₂} h h₂ = record {
  keeps = λ L p. chain_keeps p (λ v q. s₂ v L q) (s L p);
  reaches = λ L p b e k.
      let (v, m, d, c) = chain_from p (λ v q. s₂ v L q) (s L p) e in
      let i = h.reaches L p b d in
      let j = (h₂ v).reaches L m (tells_placed L m (λ k. (i k).1)) c in
      (le_trans (i k).0 (j k).0, (j k).1);
  later = λ L L' p b e t.
      let (v, m, d, c) = chain_from p (λ v q. s₂ v L q) (s L p) e in
      let b₂ = tells_placed L m (λ k. (h.reaches L p b d k).1) in
      let j = (h₂ v).reaches L m b₂ c in
      rw (h.later L L' p b d (same_before L L' m _ (λ k. (j k).0) t), (h₂ v).later L L' m b₂ c t);
}

-- a position above its slice is refused first
above_keeps : (c : Bool) {x : Drawn} {p q : Positions} {r : Refusal} → (x ≡ Err (r, q) → q ≡ p) → cond c x (Err (Above, p)) ≡ Err (r, q) → q ≡ p
above_keeps true h e = h e
above_keeps false h e = sym (err_parts e).1

pub steady_placed : {s : Lent → Positions → Drawn} → Steady s → Steady (λ L p. cond (placed L p) (s L p) (Err (Above, p)))
steady_placed {s} h = record {
  keeps = λ L p. above_keeps (placed L p) (h.keeps L p);
  reaches = λ L p b e. h.reaches L p b (rw b at e);
  later = λ L L' p b e t.
      let d = rw b at e in
      rw (placed_later L L' p _ (h.reaches L p b d) t) (h.later L L' p b d t);
}

-- ---- a search: trials up to the one found are the same among draws that are the same up to its end
pub record Near (ts : Lent → Positions → Trials) (f : Lent → ℕ) : Type 0 where
  pub ends : (L : Lent) (p : Positions) (k : ℕ) → (ts L p).whole k ≡ true → k < f L
  pub reach : (L : Lent) (p : Positions) {v : Float} {q : Positions} → placed L p ≡ true → Found (ts L p) v q → Reached L p q
  pub alike : (L L' : Lent) (p : Positions) {v : Float} {q : Positions} (h : Found (ts L p) v q) → Reached L p q → SameTo q L L' → (k : ℕ) → k ≤ h.at
      → Alike (ts L p) (ts L' p) k

pub steady_search : {ts : Lent → Positions → Trials} {f : Lent → ℕ} → Near ts f → Steady (λ L p. searched (ts L p) p (f L))
steady_search {ts} {f} n = record {
  keeps = λ L p e. (refused (ts L p) p (f L) (n.ends L p) e).1;
  reaches = λ L p b e. n.reach L p b (given (ts L p) p (f L) (n.ends L p) e);
  later = λ L L' p b e s.
      let h = given (ts L p) p (f L) (n.ends L p) e in
      gives (ts L' p) p (f L') (n.ends L' p) (carried h (n.alike L L' p h (n.reach L p b h) s));
}

-- ---- one draw, as a sample
drawn_keeps : (p : Positions) (x : Draw) {r : Refusal} {q : Positions} → as_sample p x ≡ Err (r, q) → q ≡ p
drawn_keeps p (Ok (x, m)) e = let z : ◌≡◌ {A = ℕ} 0 1 = cc in absurd (omega arith)
drawn_keeps p (Err r) e = sym (err_parts e).1

pub drawn_from : (p : Positions) (x : Draw) {v : Float} {q : Positions} → as_sample p x ≡ Ok (v, q) → x ≡ Ok (v, q)
drawn_from p (Ok (x, m)) e = cc
drawn_from p (Err r) e = let z : ◌≡◌ {A = ℕ} 0 1 = cc in absurd (omega arith)

-- it stands just before the new positions
drawn_past : (k : Kind) (L : Lent) (p : Positions) {v : Float} {q : Positions} → as_sample p (read k (slice k L) p) ≡ Ok (v, q) → (place k p < length (slice k L)) × (q ≡ past k 1 p)
drawn_past k L p e = let h = usable_is k (slice k L) p (drawn_from p (read k (slice k L) p) e) in (ltb-true _ _ h.0, h.3)

pub steady_draw : (k : Kind) → Steady (λ L p. as_sample p (read k (slice k L) p))
steady_draw k = record {
  keeps = λ L p. drawn_keeps p (read k (slice k L) p);
  reaches = λ L p b e.
      let (l, h) = drawn_past k L p e in
      rw h (past_reached k 1 L p b (omega arith));
  later = λ L L' p {v} {q} b e s.
      let (l, h) = drawn_past k L p e in
      let j : place k q ≡ place k p + 1 = rw h (past_place k 1 p) in
      rw (same_read (place k q) (slice k L) (slice k L') (s k) (omega arith) k p (omega arith)) e;
}

-- where a sample ends, no position is above its slice
pub ends_placed : {s : Lent → Positions → Drawn} → Steady s → (L : Lent) (p : Positions) → placed L p ≡ true → {v : Float} {q : Positions} → s L p ≡ Ok (v, q) → placed L q ≡ true
ends_placed h L p b {v} {q} e = tells_placed L q (λ k. (h.reaches L p b e k).1)

-- ---- samples in order, the first from p: where sample i starts, past those before it
abbrev onward : Positions → Drawn → Positions
onward p (Ok (v, q)) = q
onward p (Err (r, q)) = p

unfoldable pub start : (ℕ → Positions → Drawn) → Positions → ℕ → Positions
start s p zero = p
start s p (suc i) = onward (start s p i) (s i (start s p i))

-- each starts within the slices, so that none is refused by 17 if its sampler refuses by it only above them
module _ {s : Lent → ℕ → Positions → Drawn} (h : (i : ℕ) → Steady (λ L. s L i)) (L : Lent) where
  onward_placed : (i : ℕ) (p : Positions) → placed L p ≡ true → (x : Drawn) → s L i p ≡ x → placed L (onward p x) ≡ true
  onward_placed i p b (Ok (v, q)) e = ends_placed (h i) L p b e
  onward_placed i p b (Err (r, q)) e = b

  pub start_placed : (p : Positions) → placed L p ≡ true → (i : ℕ) → placed L (start (s L) p i) ≡ true
  unfolding start
  start_placed p b zero = b
  start_placed p b (suc i) = onward_placed i (start (s L) p i) (start_placed p b i) (s L i (start (s L) p i)) refl
