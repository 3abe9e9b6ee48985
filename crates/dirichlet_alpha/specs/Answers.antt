-- Document 01, 'Sampler rules', Dirichlet: the call's answer and what it leaves in every cell of the output, whatever vector a route draws.
-- Definitions only.
use Rattle.std.specs.Prelude.{cond, ℕ, ◌≡◌, List, length, Float, Result, Ok, Err}
use Rattle.draws.specs.Draws.{Lent, placed}
use Rattle.draws.specs.Fill.{Samples, all, stopped, cells_of}
use Rattle.draws.specs.declared.{Positions.Positions, Refusal.Refusal, Refusal.TheVariants.Above}
use Rattle.dirichlet_alpha.specs.declared.{Refused.Refused, Refused.TheVariants.Draws}
use Rattle.dirichlet_alpha.specs.Alpha.{or_else, checked_of, Checked}

-- the positions past the vector's draws, or a refusal and the positions as lent
abbrev pub Answer : Type 0
Answer = Result Positions (Refused × Positions)

-- 'Order: .. 16, 17, then draws'
unfoldable pub ready_of : List Float → ℕ → Lent → Positions → Checked
ready_of alpha n l p = or_else (checked_of alpha n) (cond {A = Checked} (placed l p) (Ok tt) (Err (Draws Above)))

-- 'Numbers up to 17 leave an output as lent; after 18 or 19 every element of the output is +0.' Each refusal carries the positions as lent.
abbrev pub vector_answer : Positions → Samples → Answer
vector_answer p (all vs q) = Ok q
vector_answer p (stopped r) = Err (Draws r, p)

abbrev pub answer_by : Checked → Positions → Samples → Answer
answer_by (Ok _) p x = vector_answer p x
answer_by (Err r) p x = Err (r, p)

abbrev pub cells_by : Checked → List Float → Samples → List Float
cells_by (Ok _) out x = cells_of (length out) x
cells_by (Err r) out x = out

-- a call that was found to be c before any draw, and whose route draws x
pub record Answers (c : Checked) (x : Samples) (p : Positions) (out : List Float) (r : Answer) (left : List Float) : Type 0 where
  pub answer_is : r ≡ answer_by c p x
  pub cells_are : left ≡ cells_by c out x

-- what a route promises: its vector and the positions past its draws, or why a draw can't be had; a refusal says nothing of the cells, which are
-- cleared after it
abbrev pub route_answer : Samples → Result Positions Refusal
route_answer (all vs q) = Ok q
route_answer (stopped r) = Err r

abbrev pub kept : List Float → Samples → List Float
kept left (all vs q) = vs
kept left (stopped r) = left

pub record Routed (x : Samples) (r : Result Positions Refusal) (left : List Float) : Type 0 where
  pub answer_is : r ≡ route_answer x
  pub cells_are : left ≡ kept left x
