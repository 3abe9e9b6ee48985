-- What storing lists promises, of which only the spans were known. Definitions only.
use Rattle.std.specs.Prelude.{ℕ, ◌≡◌, List}
use Rattle.sheet_lines.specs.Lines.{Counts}
use Rattle.sheet_lines.specs.Inner.{Spans}
use Rattle.sheet_lines.specs.Lines.{Counts}
use Rattle.sheet.specs.Shown.{over}
use Rattle.sheet_words.specs.Inner.{words_of}

abbrev pub span_counts : Spans → Counts
span_counts p = record { uniforms = p.uniforms.count; normals = p.normals.count; exponentials = p.exponentials.count }

-- what storing the lists p of l answers and leaves
pub record Stores (l us ns es : List ℕ) (p : Spans) (r : Counts) (us' ns' es' : List ℕ) : Type 0 where
  pub counts : r ≡ span_counts p
  pub uniforms : us' ≡ over (words_of l p.uniforms) us
  pub normals : ns' ≡ over (words_of l p.normals) ns
  pub exponentials : es' ≡ over (words_of l p.exponentials) es
