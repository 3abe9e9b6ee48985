-- An answer holds a pair: two that are equal hold equal parts.
use Rattle.std.specs.Prelude.{Result, Ok, Err}
use mathlib.Core.Path.{◌≡◌, ap}

module _ {A B : Type 0} where
  parts : {x y : A × B} → x ≡ y → (x.0 ≡ y.0) × (x.1 ≡ y.1)
  parts e = (ap (λ (z : A × B). z.0) e, ap (λ (z : A × B). z.1) e)

module _ {A B E : Type 0} {a c : A} {b d : B} where
  pub ok_parts : ◌≡◌ {A = Result (A × B) E} (Ok (a, b)) (Ok (c, d)) → (a ≡ c) × (b ≡ d)
  ok_parts e = let h : ◌≡◌ {A = A × B} (a, b) (c, d) = cc in parts h

  pub err_parts : ◌≡◌ {A = Result E (A × B)} (Err (a, b)) (Err (c, d)) → (a ≡ c) × (b ≡ d)
  err_parts e = let h : ◌≡◌ {A = A × B} (a, b) (c, d) = cc in parts h
