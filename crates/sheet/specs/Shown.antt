-- How the answers of `front` and `read` are read as answers of Lines, and what the lent buffers hold then. Definitions only.
use Rattle.std.specs.Prelude.{ℕ, ◌≤◌, ◌≡◌, List, ◌++◌, length, take, drop, Result, Ok, Err}
use denote.Triple.Both.{Both}
use Rattle.std.specs.Borrow.{Bor, MutBor}
use Rattle.sheet_lines.specs.Lines.{Counts, Through, through, stopped, Lists, Sheet, sheet_lines}
use Rattle.sheet.specs.Whole.{Parsed, right, refused, parse_in}
use Rattle.sheet_lines.specs.declared.{Head.Head, WrongLine.WrongLine}

-- the answers of `front` and `read`
abbrev pub AtFront : Type 0
AtFront = Result (Head × Counts × ℕ) WrongLine

abbrev pub SheetRead : Type 0
SheetRead = Result (Head × Counts) ℕ

-- ---- the lent buffers

-- how many numbers each has room for
abbrev pub rooms : List ℕ → List ℕ → List ℕ → Counts
rooms us ns es = record { uniforms = length us; normals = length ns; exponentials = length es }

-- the first of the words that each holds
abbrev pub firsts : List ℕ → List ℕ → List ℕ → Counts → Lists
firsts us ns es c = record { uniforms = take c.uniforms us; normals = take c.normals ns; exponentials = take c.exponentials es }

-- o with ws in its first cells
abbrev pub over : List ℕ → List ℕ → List ℕ
over ws o = ws ++ drop (length ws) o

-- a list of a sheet that was read is stored, and any other outcome leaves its buffer o as lent
abbrev pub cells : (Lists → List ℕ) → List ℕ → Through Sheet → List ℕ
cells list o (through s b) = over (list s.lists) o
cells list o (stopped e i) = o

abbrev pub whole_cells : (Lists → List ℕ) → List ℕ → Parsed → List ℕ
whole_cells list o (right s) = over (list s.lists) o
whole_cells list o (refused i) = o

-- ---- what `front` and `read` promise

abbrev pub front_shown : List ℕ → List ℕ → List ℕ → List ℕ → AtFront → Through Sheet
front_shown l us ns es (Ok (h, c, n)) = through (record { head = h; lists = firsts us ns es c }) (drop n l)
front_shown l us ns es (Err e) = stopped e.fault e.line

pub record Few (most c : Counts) : Type 0 where
  pub uniforms : c.uniforms ≤ most.uniforms
  pub normals : c.normals ≤ most.normals
  pub exponentials : c.exponentials ≤ most.exponentials

abbrev pub FrontIn : List ℕ → Counts → AtFront → Type 0
FrontIn l most (Ok (h, c, n)) = Few most c × (n ≤ length l)
FrontIn l most (Err e) = Unit

abbrev pub read_shown : List ℕ → List ℕ → List ℕ → SheetRead → Parsed
read_shown us ns es (Ok (h, c)) = right (record { head = h; lists = firsts us ns es c })
read_shown us ns es (Err i) = refused i

abbrev pub ReadIn : Counts → SheetRead → Type 0
ReadIn most (Ok (h, c)) = Few most c
ReadIn most (Err i) = Unit

-- of bytes l and buffers us, ns, es: the answer r, and what the buffers hold in the end
pub record Fronts (l us ns es : List ℕ) (r : AtFront) (us' ns' es' : List ℕ) : Type 0 where
  pub answer : front_shown l us' ns' es' r ≡ sheet_lines (rooms us ns es) l
  pub within : FrontIn l (rooms us ns es) r
  pub uniforms : us' ≡ cells (λ x. x.uniforms) us (sheet_lines (rooms us ns es) l)
  pub normals : ns' ≡ cells (λ x. x.normals) ns (sheet_lines (rooms us ns es) l)
  pub exponentials : es' ≡ cells (λ x. x.exponentials) es (sheet_lines (rooms us ns es) l)

pub record Reads (l us ns es : List ℕ) (r : SheetRead) (us' ns' es' : List ℕ) : Type 0 where
  pub answer : read_shown us' ns' es' r ≡ parse_in (rooms us ns es) l
  pub within : ReadIn (rooms us ns es) r
  pub uniforms : us' ≡ whole_cells (λ x. x.uniforms) us (parse_in (rooms us ns es) l)
  pub normals : ns' ≡ whole_cells (λ x. x.normals) ns (parse_in (rooms us ns es) l)
  pub exponentials : es' ≡ whole_cells (λ x. x.exponentials) es (parse_in (rooms us ns es) l)

-- ---- as a promise names them: lent bytes and buffers, at a call's entry and at its exit
abbrev pub Slice : Type 0
Slice = Both (Bor (List ℕ)) (Bor (List ℕ))

abbrev pub Buffer : Type 0
Buffer = Both (MutBor (List ℕ)) (MutBor (List ℕ))

abbrev pub FrontsBy : Slice → Buffer → Buffer → Buffer → AtFront → Type 0
FrontsBy s us ns es r = Fronts s.entry.now us.entry.now ns.entry.now es.entry.now r us.exit.now ns.exit.now es.exit.now

abbrev pub ReadsBy : Slice → Buffer → Buffer → Buffer → SheetRead → Type 0
ReadsBy s us ns es r = Reads s.entry.now us.entry.now ns.entry.now es.entry.now r us.exit.now ns.exit.now es.exit.now
