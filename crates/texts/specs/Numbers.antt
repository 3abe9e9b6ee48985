-- Numbers as text, and lines of a key and a number. Definitions only.
use Rattle.std.specs.Prelude.{ℕ, zero, suc, ◌/◌, ◌%◌, List, [], ◌∷◌, ◌++◌, cond, ltb}
use Rattle.io.specs.Digits.{last_digits, hex_digit_ascii}
use Rattle.texts.specs.Bytes.{feed}

-- Document 01, The sheet: '16 lowercase hex digits a number'
unfoldable pub hex_text : ℕ → List ℕ
hex_text n = last_digits 16 16 n

-- the decimal digits of n, of which there are at most f: those of n / 10 where n has more than one, and its last
unfoldable pub decimal_of : ℕ → ℕ → List ℕ
decimal_of zero n = []
decimal_of (suc f) n = cond (ltb n 10) [] (decimal_of f (n / 10)) ++ (hex_digit_ascii (n % 10) ∷ [])

-- 'in decimal', of a number of 64 bits
unfoldable pub decimal_text : ℕ → List ℕ
decimal_text n = decimal_of 20 n

-- A line of an answer, 'bits=3fe0000000000000' or 'uniforms-used=2': the key with its equals sign, the number, a line feed.
unfoldable pub line_text : List ℕ → List ℕ → List ℕ
line_text key t = key ++ (t ++ feed)

abbrev pub hex_line_lem : List ℕ → ℕ → List ℕ
hex_line_lem key n = line_text key (hex_text n)

abbrev pub decimal_line_lem : List ℕ → ℕ → List ℕ
decimal_line_lem key n = line_text key (decimal_text n)
