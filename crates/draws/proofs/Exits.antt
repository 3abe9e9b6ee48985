-- What the exit of a `?` hands on: the refusal met there; of a sampler's, which keeps the positions, the refusal alone, and they stand beside it again
-- in the end.
use Rattle.std.specs.Prelude.{Result, Ok, Err}
use Rattle.std.specs.Result.{IsErr, IsErrAnd, is_ok}
use mathlib.Core.Bool.{true, false, true≢false}
use Rattle.std.proofs.lemmas.Result.{err_from_is_err_and}
use mathlib.Core.Path.{◌≡◌, refl, sym, ap, ◌∙◌}
use Rattle.draws.specs.declared.Positions.{Positions}
use Rattle.draws.specs.declared.Refusal.{Refusal}
use Rattle.draws.specs.Draws.{Drawn}

pub handed : {T E : Type 0} {r : Result T E} {e : E} → IsErr r × IsErrAnd r (λ y. y ≡ e) → r ≡ Err e
handed {r = r} h = let p = err_from_is_err_and r h.1 in p.1 ∙ ap Err p.2

pub as_lent : {e : Refusal × Positions} {p : Positions} → e.1 ≡ p → ◌≡◌ {A = Drawn} (Err (e.0, p)) (Err e)
as_lent {e} h = let refused : Positions → Drawn = λ q. Err (e.0, q) in ap refused (sym h)

-- `map_err` names another's refusal anew: where there is one, the other refused
pub refused_too : {A E F : Type 0} (m : Result A E) {r : Result A F} {y : F} → is_ok r ≡ is_ok m → r ≡ Err y → (x : E) × (m ≡ Err x)
refused_too (Ok x) {r} v e = let z : false ≡ true = sym (ap is_ok e) ∙ v in absurd (true≢false (sym z))
refused_too (Err x) v e = (x, refl)
