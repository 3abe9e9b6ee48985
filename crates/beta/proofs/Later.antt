-- Trial k reads the uniforms 2k and 2k + 1 and no other draw, so among draws that are the same up to there it comes out the same: draws beyond a
-- sample's new positions change nothing in it.
use Prim.Native.Nat.{ℕ, ◌+◌, ◌*◌, ◌<◌}
use native.Mathlib.Omega.{arith}
use mathlib.Core.Path.{◌≡◌, refl, ap}
use mathlib.Core.Bool.{true}
use lib.ListN.{length}
use lib.Ieee.{Float}
use Rattle.std.specs.Prelude.{Ok}
use Rattle.draws.specs.Draws.{Lent, place, placed}
use Rattle.draws.specs.declared.Positions.{Positions}
use Rattle.draws.specs.declared.Kind.TheVariants.{Uniform}
use Rattle.draws.specs.Later.{SameTo, Reached, Steady}
use Rattle.draws.proofs.Later.{past_reached, there_later, nth_later, Alike}
use Rattle.draws.proofs.Sequencing.{Near, steady_search, steady_placed}
use Rattle.beta.specs.declared.Beta.{Beta}
use Rattle.beta.specs.Beta.{beta_trials, beta_of}
use Rattle.beta.proofs.Trials.{there_whole, beta_ends}

module _ (g : Beta) (l l' : Lent) (p m : Positions) (r : Reached l p m) (s : SameTo m l l') where
  pub alike : (k : ℕ) → place Uniform p + (2 * k + 1) < place Uniform m → Alike (beta_trials g l p) (beta_trials g l' p) k
  unfolding beta_trials
  alike k i =
      let x = nth_later l l' p m r s Uniform (2 * k) (omega arith) in
      let y = nth_later l l' p m r s Uniform (2 * k + 1) i in
      record {
        whole_too = rw (there_later l l' p m r s Uniform (2 * k) (omega arith), there_later l l' p m r s Uniform (2 * k + 1) i);
        usable_same = rw (x, y);
        accepted_same = rw (x, y);
        value_same = rw x;
        after_same = refl;
      }

module _ (g : Beta) where
  near : Near (beta_trials g) (λ l. length l.uniforms)
  unfolding beta_trials
  near = record {
    ends = beta_ends g;
    reach = λ l p b h. rw h.after_is (past_reached Uniform (2 * h.at + 2) l p b (omega (arith, there_whole g l p h.at h.takes.0)));
    alike = λ l l' p {v} {q} h r s k i. alike g l l' p q r s k (omega (arith, ap (place Uniform) h.after_is));
  }

  pub steady : Steady (beta_of g)
  unfolding beta_of
  steady = steady_placed (steady_search near)

  -- draws beyond the new positions change nothing in a sample
  pub later : (l l' : Lent) (p : Positions) {v : Float} {q : Positions} → placed l p ≡ true → beta_of g l p ≡ Ok (v, q) → SameTo q l l'
      → beta_of g l' p ≡ Ok (v, q)
  later = steady.later
