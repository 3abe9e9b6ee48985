-- Document 01, The sheet: the seven lines in their order, and the sheet at the front of bytes or the first wrong line. Definitions only.
use Rattle.std.specs.Prelude.{ℕ, List, cond}
use Rattle.sheet_lines.specs.Keys.{edition, sampler_key, name_text, a_key, b_key, lone, b_zeros, uniforms_key, normals_key, exponentials_key}
use Rattle.sheet_words.specs.Bytes.{Got, got, fault, then, gives, fixed, word_line, list_line_lem}
use Rattle.sheet_words.specs.declared.{Fault.Fault, Fault.TheVariants.Wrong, Fault.TheVariants.Ended}
use Rattle.sheet_lines.specs.declared.{Sampler.Sampler, Sampler.TheVariants.Gamma, Sampler.TheVariants.Beta, Sampler.TheVariants.Chi, Sampler.TheVariants.Fisher, Sampler.TheVariants.Student, Head.Head, Each.Each}

-- how many numbers each list has
abbrev pub Counts : Type 0
Counts = Each ℕ

-- ---- a line

-- the first, or the second where a byte of the first is wrong
abbrev pub or_else : {A : Type 0} → Got A → Got A → Got A
or_else (got a b) h = got a b
or_else (fault Ended) h = fault Ended
or_else (fault Wrong) h = h

abbrev pub name_read : Sampler → List ℕ → Got Sampler
name_read k b = gives k (fixed (name_text k) b)

unfoldable pub any_name_lem : List ℕ → Got Sampler
any_name_lem b = or_else (or_else (or_else (or_else (name_read Gamma b) (name_read Beta b)) (name_read Chi b)) (name_read Fisher b)) (name_read Student b)

-- line 2, 'sampler=beta'
unfoldable pub sampler_line_lem : List ℕ → Got Sampler
sampler_line_lem b = then (fixed sampler_key b) (λ _ c. any_name_lem c)

-- line 4: 'chi and student have b all zeros'
unfoldable pub second_line_lem : Sampler → List ℕ → Got ℕ
second_line_lem k b = cond (lone k) (gives 0 (fixed b_zeros b)) (word_line b_key b)

-- ---- lines in their order

-- what lines say and the bytes past them, or why and at which line reading stops
pub data Through (A : Type 0) : Type 0 where
  through : A → List ℕ → Through A
  stopped : Fault → ℕ → Through A

-- 'The first wrong line is named': line i, then the lines after it
abbrev pub line : {A B : Type 0} → ℕ → Got A → (A → List ℕ → Through B) → Through B
line i (got a b) f = f a b
line i (fault e) f = stopped e i

unfoldable pub head_lines_lem : List ℕ → Through Head
head_lines_lem b =
    line 1 (fixed edition b) (λ _ b1.
    line 2 (sampler_line_lem b1) (λ k b2.
    line 3 (word_line a_key b2) (λ x b3.
    line 4 (second_line_lem k b3) (λ y b4.
    through (record { sampler = k; a = x; b = y }) b4))))

-- the numbers of each list
abbrev pub Lists : Type 0
Lists = Each (List ℕ)

-- with the most numbers that each list may have
unfoldable pub list_lines_lem : Counts → List ℕ → Through Lists
list_lines_lem most b =
    line 5 (list_line_lem uniforms_key most.uniforms b) (λ us b5.
    line 6 (list_line_lem normals_key most.normals b5) (λ ns b6.
    line 7 (list_line_lem exponentials_key most.exponentials b6) (λ es b7.
    through (record { uniforms = us; normals = ns; exponentials = es }) b7)))

pub record Sheet : Type 0 where
  pub head : Head
  pub lists : Lists

abbrev pub headed : Head → Through Lists → Through Sheet
headed h (through l b) = through (record { head = h; lists = l }) b
headed h (stopped e i) = stopped e i

abbrev pub with_lists : Counts → Through Head → Through Sheet
with_lists most (through h b) = headed h (list_lines_lem most b)
with_lists most (stopped e i) = stopped e i

-- 'Seven lines': the sheet at the front of b
abbrev pub sheet_lines : Counts → List ℕ → Through Sheet
sheet_lines most b = with_lists most (head_lines_lem b)
