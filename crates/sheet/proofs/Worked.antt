-- Document 01's own sheet, and one input for each way in which a line is named, computed. Assumes nothing.
use Prim.Native.Nat.{ℕ}
use mathlib.Core.Path.{◌≡◌, refl}
use mathlib.Core.List.{List, [], ◌∷◌, ◌++◌}
use Rattle.texts.specs.Bytes.{bytes}
use Rattle.sheet_words.specs.Bytes.{fixed, digit_value, hex_from, after_word, some_words, word_list, word_line, list_line_lem}
use Rattle.sheet_lines.specs.Lines.{any_name_lem, sampler_line_lem, second_line_lem, head_lines_lem, list_lines_lem}
use Rattle.sheet.specs.Whole.{parse_in, parse, right, refused}
use Rattle.sheet_lines.specs.declared.Sampler.TheVariants.{Beta}

-- what a computed example unfolds
unfoldable opened : ℕ
unfolding fixed digit_value hex_from after_word some_words word_list any_name_lem sampler_line_lem word_line second_line_lem list_line_lem head_lines_lem list_lines_lem parse_in
opened = 0

abbrev head : List ℕ
head = bytes "edition=1\nsampler=beta\na=3ff0000000000000\nb=3ff0000000000000\n"

abbrev lists : List ℕ
lists = bytes "uniforms=3fe0000000000000,3fe0000000000000\nnormals=\nexponentials="

pub document_01 : parse (head ++ (lists ++ bytes "\n"))
    ≡ right (record {
      head = record { sampler = Beta; a = 0x3ff0000000000000; b = 0x3ff0000000000000 };
      lists = record { uniforms = 0x3fe0000000000000 ∷ 0x3fe0000000000000 ∷ []; normals = []; exponentials = [] };
    })
unfolding opened
document_01 = refl

pub empty_input : parse [] ≡ refused 1
unfolding opened
empty_input = refl

pub first_feed_missing : parse (bytes "edition=1") ≡ refused 1
unfolding opened
first_feed_missing = refl

pub no_such_sampler : parse (bytes "edition=1\nsampler=pert\n") ≡ refused 2
unfolding opened
no_such_sampler = refl

pub uppercase_digit : parse (bytes "edition=1\nsampler=beta\na=3FF0000000000000\n") ≡ refused 3
unfolding opened
uppercase_digit = refl

pub chi_with_b : parse (bytes "edition=1\nsampler=chi\na=3ff0000000000000\nb=3ff0000000000000\n") ≡ refused 4
unfolding opened
chi_with_b = refl

pub comma_at_the_end : parse (head ++ bytes "uniforms=3fe0000000000000,\n") ≡ refused 5
unfolding opened
comma_at_the_end = refl

pub keys_exchanged : parse (head ++ bytes "uniforms=\nexponentials=\nnormals=\n") ≡ refused 6
unfolding opened
keys_exchanged = refl

pub last_feed_missing : parse (head ++ lists) ≡ refused 7
unfolding opened
last_feed_missing = refl

pub something_after : parse (head ++ (lists ++ bytes "\n\n")) ≡ refused 8
unfolding opened
something_after = refl
