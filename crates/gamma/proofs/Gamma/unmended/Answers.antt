-- The kind decides whose sample it is; a position above its slice is refused before.
use mathlib.Core.Path.{◌≡◌, sym, ◌∙◌}
use mathlib.Core.Bool.{true}
use Rattle.draws.specs.Draws.{Lent, placed, Drawn}
use Rattle.draws.specs.declared.Positions.{Positions}
use Rattle.gamma.specs.declared.Gamma.{Gamma}
use Rattle.gamma.specs.Gamma.{kind_of, gamma_of}
use Rattle.gamma.proofs.Gamma.unmended.Goals as goal

by_kind : (l : Lent) (p : Positions) → placed l p ≡ true → {g h : Gamma} → g ≡ h → {x : Drawn} → x ≡ kind_of h l p → x ≡ gamma_of g l p
unfolding gamma_of
by_kind l p b e d = rw (b, e) d

pub returns-then-not-placed : goal.returns-then-not-placed
unfolding gamma_of
returns-then-not-placed c = rw (sym c.placed.ensures ∙ c.if-not-placed.true)

pub returns-in-Large : goal.returns-in-Large
unfolding kind_of
returns-in-Large c = by_kind _ _ (sym c.placed.ensures ∙ c.if-not-placed.false) c.in-Large.is c.sample.ensures

pub returns-in-One : goal.returns-in-One
unfolding kind_of
returns-in-One c = by_kind _ _ (sym c.placed.ensures ∙ c.if-not-placed.false) c.in-One.is c.one.ensures

pub returns-in-Small : goal.returns-in-Small
unfolding kind_of
returns-in-Small c = by_kind _ _ (sym c.placed.ensures ∙ c.if-not-placed.false) c.in-Small.is c.sample-in-Small.ensures
