-- Document 01, The sheet: a sheet as its text, and what a right sheet holds. The checker computes with none of these; the theorems hold
-- `parse` to them. Definitions only.
use Rattle.std.specs.Prelude.{ℕ, ◌<◌, ◌≤◌, ◌^◌, List, [], ◌∷◌, ◌++◌, ◌≡◌, true, length, take}
use Rattle.texts.specs.Bytes.{feed}
use Rattle.texts.specs.Numbers.{hex_text, hex_line_lem}
use Rattle.sheet_lines.specs.Keys.{edition, sampler_key, name_text, a_key, b_key, lone, uniforms_key, normals_key, exponentials_key}
use Rattle.sheet_lines.specs.Lines.{Counts, Sheet}
use Rattle.sheet.specs.Whole.{most64}
use Rattle.sheet_lines.specs.declared.{Sampler.Sampler, Head.Head}

-- 'lists of 0 to 64 split by commas'
unfoldable pub list_text : List ℕ → List ℕ
list_text [] = feed
list_text (n ∷ []) = hex_text n ++ feed
list_text (n ∷ m ∷ ms) = hex_text n ++ (44 ∷ list_text (m ∷ ms))

abbrev pub sampler_text : Sampler → List ℕ
sampler_text k = sampler_key ++ name_text k

abbrev pub list_line_text : List ℕ → List ℕ → List ℕ
list_line_text key ns = key ++ list_text ns

-- 'Seven lines, each ended by a line feed, keys in this order'
abbrev pub line_texts : Sheet → List (List ℕ)
line_texts s =
    edition
    ∷ sampler_text s.head.sampler
    ∷ hex_line_lem a_key s.head.a
    ∷ hex_line_lem b_key s.head.b
    ∷ list_line_text uniforms_key s.lists.uniforms
    ∷ list_line_text normals_key s.lists.normals
    ∷ list_line_text exponentials_key s.lists.exponentials
    ∷ []

-- texts one after the other, and then c
abbrev pub in_front : List (List ℕ) → List ℕ → List ℕ
in_front [] c = c
in_front (t ∷ ts) c = t ++ in_front ts c

abbrev pub written : Sheet → List ℕ
written s = in_front (line_texts s) []

-- ---- what a sheet can hold: numbers of 64 bits, lists of at most 64, 'b all zeros' for chi and student

pub data Words : List ℕ → Type 0 where
  none : Words []
  one : {n : ℕ} {ns : List ℕ} → n < 2 ^ 64 → Words ns → Words (n ∷ ns)

pub record Held (most : ℕ) (ns : List ℕ) : Type 0 where
  pub few : length ns ≤ most
  pub words : Words ns

pub record RightHead (h : Head) : Type 0 where
  pub a_word : h.a < 2 ^ 64
  pub b_word : h.b < 2 ^ 64
  pub b_zeros_lem : lone h.sampler ≡ true → h.b ≡ 0

pub record RightIn (most : Counts) (s : Sheet) : Type 0 where
  pub head : RightHead s.head
  pub uniforms : Held most.uniforms s.lists.uniforms
  pub normals : Held most.normals s.lists.normals
  pub exponentials : Held most.exponentials s.lists.exponentials

abbrev pub Right : Sheet → Type 0
Right s = RightIn most64 s

-- b starts with the first n lines of the text of a right sheet
pub record Starts (most : Counts) (n : ℕ) (b : List ℕ) : Type 0 where
  pub sheet : Sheet
  pub right : RightIn most sheet
  pub rest : List ℕ
  pub text_is : b ≡ in_front (take n (line_texts sheet)) rest
