-- The names one after another: the first that stands there, or a wrong byte of the first where none does. Assumes nothing.
use Prim.Native.Nat.{ℕ, ◌+◌, ◌<◌}
use native.Mathlib.Numerals.{add-one}
use mathlib.Core.Path.{◌≡◌, refl, ◌∙◌}
use mathlib.Core.List.{List, [], ◌∷◌}
use lib.ListN.{length, drop, get_or}
use lib.Seq.{drop-cons}
use Rattle.sheet_words.specs.Bytes.{Got, got, fault, gives, fixed}
use Rattle.sheet_words.specs.declared.{Fault.TheVariants.Wrong, Fault.TheVariants.Ended}
use Rattle.sheet_lines.specs.Keys.{name_text}
use Rattle.sheet_lines.specs.Lines.{or_else, name_read, any_name_lem}
use Rattle.sheet_lines.specs.declared.{Sampler.Sampler, Sampler.TheVariants.Gamma, Sampler.TheVariants.Beta, Sampler.TheVariants.Chi, Sampler.TheVariants.Fisher, Sampler.TheVariants.Student}

abbrev pub first_of : List Sampler → List ℕ → Got Sampler
first_of [] b = fault Wrong
first_of (k ∷ ks) b = or_else (name_read k b) (first_of ks b)

or_else_assoc : (f g h : Got Sampler) → or_else (or_else f g) h ≡ or_else f (or_else g h)
or_else_assoc (got k b) g h = refl
or_else_assoc (fault Ended) g h = refl
or_else_assoc (fault Wrong) g h = refl

or_else_wrong : (f : Got Sampler) → or_else f (fault Wrong) ≡ f
or_else_wrong (got k b) = refl
or_else_wrong (fault Ended) = refl
or_else_wrong (fault Wrong) = refl

pub all_names : (b : List ℕ) → any_name_lem b ≡ first_of (Gamma ∷ Beta ∷ Chi ∷ Fisher ∷ Student ∷ []) b
unfolding any_name_lem
all_names b = simp (or_else_assoc, or_else_wrong)

-- the name at i, whose text is t, as it is met at the front of b
module _ (ks : List Sampler) (i : ℕ) (b : List ℕ) {t : List ℕ} (h : i < length ks) (e : t ≡ name_text (get_or ks i Gamma)) where
  next_name : first_of (drop i ks) b ≡ or_else (gives (get_or ks i Gamma) (fixed t b)) (first_of (drop (i + 1) ks) b)
  next_name = rw (e, add-one, drop-cons ks i Gamma)

  pub name_got : {c : List ℕ} → got tt c ≡ fixed t b → first_of (drop i ks) b ≡ got (get_or ks i Gamma) c
  name_got g = next_name ∙ rw (← g)

  pub name_ended : fault Ended ≡ fixed t b → first_of (drop i ks) b ≡ fault Ended
  name_ended g = next_name ∙ rw (← g)

  pub name_wrong : fault Wrong ≡ fixed t b → first_of (drop i ks) b ≡ first_of (drop (i + 1) ks) b
  name_wrong g = next_name ∙ rw (← g)
