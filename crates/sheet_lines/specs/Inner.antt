-- How the answers of the functions, which have positions in the bytes l, are read as answers of Lines. Definitions only.
use Rattle.std.specs.Prelude.{ℕ, ◌≤◌, ◌≡◌, List, length, drop, Result, Ok, Err}
use Rattle.sheet_words.specs.Bytes.{Got, got, list_line_lem}
use Rattle.sheet_lines.specs.Keys.{uniforms_key, normals_key, exponentials_key}
use Rattle.sheet_lines.specs.Lines.{Counts, Through, through, stopped, head_lines_lem, Lists, Sheet}
use Rattle.sheet_lines.specs.declared.{Sampler.Sampler, Head.Head, Each.Each, WrongLine.WrongLine}
use Rattle.sheet_words.specs.declared.{Fault.Fault, Span.Span}
use Rattle.sheet_words.specs.Inner.{shown, words_of, Spanned, Begins}

abbrev pub sampler_shown : List ℕ → Result (Sampler × ℕ) Fault → Got Sampler
sampler_shown l r = shown (λ k. k) l r

-- what lines say, as it is shown, and the bytes past them
abbrev pub lines_shown : {A B : Type 0} → (A → B) → List ℕ → Result (A × ℕ) WrongLine → Through B
lines_shown show l (Ok (a, n)) = through (show a) (drop n l)
lines_shown show l (Err e) = stopped e.fault e.line

abbrev pub head_shown : List ℕ → Result (Head × ℕ) WrongLine → Through Head
head_shown l r = lines_shown (λ h. h) l r

abbrev pub Spans : Type 0
Spans = Each Span

abbrev pub spans_shown : List ℕ → Spans → Lists
spans_shown l p = record { uniforms = words_of l p.uniforms; normals = words_of l p.normals; exponentials = words_of l p.exponentials }

abbrev pub lists_shown : List ℕ → Result (Spans × ℕ) WrongLine → Through Lists
lists_shown l r = lines_shown (spans_shown l) l r

pub record SpansIn (l : List ℕ) (most : Counts) (p : Spans) (n : ℕ) : Type 0 where
  pub uniforms : Spanned l p.uniforms most.uniforms
  pub normals : Spanned l p.normals most.normals
  pub exponentials : Spanned l p.exponentials most.exponentials
  pub within : n ≤ length l

-- each list of lines 5 to 7, which stand at the front of b, begins in l past its key
pub record Placed (l : List ℕ) (most : Counts) (b : List ℕ) (p : Spans) : Type 0 where
  pub b5 : List ℕ
  pub b6 : List ℕ
  pub five : list_line_lem uniforms_key most.uniforms b ≡ got (words_of l p.uniforms) b5
  pub six : list_line_lem normals_key most.normals b5 ≡ got (words_of l p.normals) b6
  pub uniforms : Begins l uniforms_key b p.uniforms.at
  pub normals : Begins l normals_key b5 p.normals.at
  pub exponentials : Begins l exponentials_key b6 p.exponentials.at

abbrev pub ListsIn : List ℕ → Counts → List ℕ → Result (Spans × ℕ) WrongLine → Type 0
ListsIn l most b (Ok (p, n)) = SpansIn l most p n × Placed l most b p
ListsIn l most b (Err e) = Unit

abbrev pub scanned_shown : List ℕ → Result (Head × Spans × ℕ) WrongLine → Through Sheet
scanned_shown l (Ok (h, p, n)) = through (record { head = h; lists = spans_shown l p }) (drop n l)
scanned_shown l (Err e) = stopped e.fault e.line

pub record SheetIn (l : List ℕ) (most : Counts) (h : Head) (p : Spans) (n : ℕ) : Type 0 where
  pub spans : SpansIn l most p n
  pub b4 : List ℕ
  pub four : head_lines_lem l ≡ through h b4
  pub placed : Placed l most b4 p

abbrev pub ScannedIn : List ℕ → Counts → Result (Head × Spans × ℕ) WrongLine → Type 0
ScannedIn l most (Ok (h, p, n)) = SheetIn l most h p n
ScannedIn l most (Err e) = Unit
