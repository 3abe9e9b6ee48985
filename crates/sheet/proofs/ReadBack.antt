-- What is written is read back, and what is read was so written: of each line by its parts, and so of the seven in their order. A text
-- that is read as a right sheet is then the only one. Assumes nothing.
use Prim.Native.Nat.{ℕ, ◌+◌, ◌*◌, ◌^◌, ◌≤◌, ◌<◌}
use native.Mathlib.Omega.{arith}
use mathlib.Core.Path.{◌≡◌, refl, sym, ap, ◌∙◌, subst}
use mathlib.Core.List.{List, [], ◌∷◌, ◌++◌, append_assoc}
use mathlib.Core.Bool.{Bool, true, false, cond, true≢false}
use lib.ListN.{length, length-append}
use lib.Dec.{ltb}
use Rattle.texts.specs.Bytes.{feed}
use Rattle.texts.specs.Numbers.{hex_text, line_text, hex_line_lem}
use Rattle.texts.proofs.Digits.{by_cases, hex_length}
use Rattle.texts.proofs.Laying.{line_length}
use Rattle.sheet_lines.specs.Keys.{edition, sampler_key, name_text, a_key, b_key, lone, b_zeros, uniforms_key, normals_key, exponentials_key}
use Rattle.sheet_words.specs.Bytes.{Got, got, fault, then, gives, fixed, word, word_list, word_line, list_line_lem}
use Rattle.sheet_lines.specs.Lines.{Counts, or_else, name_read, any_name_lem, sampler_line_lem, second_line_lem, Through, through, stopped, line, head_lines_lem, Lists, list_lines_lem, Sheet, headed, with_lists, sheet_lines}
use Rattle.sheet.specs.Whole.{Parsed, right, refused, alone, parse_in, parse, most64}
use Rattle.sheet.specs.Shown.{rooms}
use Rattle.sheet.specs.Written.{list_text, sampler_text, list_line_text, line_texts, in_front, written, Held, RightHead, RightIn, Right}
use Rattle.sheet_lines.specs.declared.Sampler.{Sampler}
use Rattle.sheet_lines.specs.declared.Sampler.TheVariants.{Gamma, Beta, Chi, Fisher, Student}
use Rattle.sheet_lines.specs.declared.Head.{Head}
use Rattle.sheet_words.specs.declared.Fault.TheVariants.{Wrong, Ended}
use Rattle.sheet_words.proofs.Hex.{then_got, gives_got, fixed_back, fixed_is, word_back, word_is}
use Rattle.sheet.proofs.Lists.{word_list_back, word_list_is}
use Rattle.sheet.proofs.Answers.{parse_short}

-- a text in front of another, from what each is known to be
pub join : {b r : List ℕ} (t u c : List ℕ) → b ≡ t ++ r → r ≡ u ++ c → b ≡ (t ++ u) ++ c
join t u c e f = e ∙ ap (λ (z : List ℕ). t ++ z) f ∙ sym (append_assoc t u c)

-- ---- line 2

name_back : (k : Sampler) (b : List ℕ) → any_name_lem (name_text k ++ b) ≡ got k b
unfolding any_name_lem fixed
name_back Gamma b = refl
name_back Beta b = refl
name_back Chi b = refl
name_back Fisher b = refl
name_back Student b = refl

or_else_lem : {A P : Type 0} (g h : Got A) {v : A} {c : List ℕ} → (g ≡ got v c → P) → (h ≡ got v c → P) → or_else g h ≡ got v c → P
or_else_lem (got a b) h f k e = f e
or_else_lem (fault Ended) h f k e = absurd (cc)
or_else_lem (fault Wrong) h f k e = k e

named_is : (k : Sampler) (b : List ℕ) {v : Sampler} {c : List ℕ} → name_read k b ≡ got v c → b ≡ name_text v ++ c
named_is k b {v} {c} h =
    let g = gives_got k (fixed (name_text k) b) h in
    fixed_is (name_text k) b g.1 ∙ ap (λ (s : Sampler). name_text s ++ c) (sym g.2)

name_is : (b : List ℕ) {v : Sampler} {c : List ℕ} → any_name_lem b ≡ got v c → b ≡ name_text v ++ c
unfolding any_name_lem
name_is b =
    or_else_lem _ (name_read Student b)
    (or_else_lem _ (name_read Fisher b) (or_else_lem _ (name_read Chi b) (or_else_lem _ (name_read Beta b) (named_is Gamma b) (named_is Beta b)) (named_is Chi b)) (named_is Fisher b))
    (named_is Student b)

pub sampler_back : (k : Sampler) (b : List ℕ) → sampler_line_lem (sampler_text k ++ b) ≡ got k b
unfolding sampler_line_lem
sampler_back k b = rw (append_assoc sampler_key (name_text k) b, fixed_back sampler_key (name_text k ++ b)) (name_back k b)

pub sampler_is : (b : List ℕ) {v : Sampler} {c : List ℕ} → sampler_line_lem b ≡ got v c → b ≡ sampler_text v ++ c
unfolding sampler_line_lem
sampler_is b {v} {c} h =
    let t = then_got (fixed sampler_key b) (λ _ c. any_name_lem c) h in
    join sampler_key (name_text v) c (fixed_is sampler_key b t.first_is) (name_is t.rest t.then_is)

-- ---- lines 3 and 4

pub word_line_back : (key : List ℕ) (n : ℕ) (b : List ℕ) → n < 2 ^ 64 → word_line key (hex_line_lem key n ++ b) ≡ got n b
unfolding word_line line_text
word_line_back key n b h =
    rw (append_assoc key (hex_text n ++ feed) b, append_assoc (hex_text n) feed b, fixed_back key (hex_text n ++ (10 ∷ b)), word_back n (10 ∷ b) h, fixed_back feed b)

pub word_line_is : (key b : List ℕ) {n : ℕ} {c : List ℕ} → word_line key b ≡ got n c → (n < 2 ^ 64) × (b ≡ hex_line_lem key n ++ c)
unfolding word_line line_text
word_line_is key b {n} {c} h =
    let t = then_got (fixed key b) (λ _ c. then (word c) (λ n d. gives n (fixed feed d))) h in
    let u = then_got (word t.rest) (λ n d. gives n (fixed feed d)) t.then_is in
    let g = gives_got u.first (fixed feed u.rest) u.then_is in
    let x = word_is t.rest u.first_is in
    let e : u.first ≡ n = sym g.2 in
    let y : t.rest ≡ (hex_text n ++ feed) ++ c = join (hex_text n) feed c (x.1 ∙ ap (λ (v : ℕ). hex_text v ++ u.rest) e) (fixed_is feed u.rest g.1) in
    (omega (arith, x.0), join key (hex_text n ++ feed) c (fixed_is key b t.first_is) y)

zeros_text : b_zeros ≡ hex_line_lem b_key 0
unfolding line_text hex_text
zeros_text = refl

pub second_back : (k : Sampler) (n : ℕ) (b : List ℕ) → n < 2 ^ 64 → (lone k ≡ true → n ≡ 0) → second_line_lem k (hex_line_lem b_key n ++ b) ≡ got n b
unfolding second_line_lem
second_back k n b h z =
    by_cases (lone k)
    (λ t. rw (t, z t, ← zeros_text, fixed_back b_zeros b))
    (λ t. rw t (word_line_back b_key n b h))

pub second_is : (k : Sampler) (b : List ℕ) {n : ℕ} {c : List ℕ} → second_line_lem k b ≡ got n c → (n < 2 ^ 64) × (lone k ≡ true → n ≡ 0) × (b ≡ hex_line_lem b_key n ++ c)
unfolding second_line_lem
second_is k b {n} {c} h =
    by_cases (lone k)
    (λ t. let g = gives_got 0 (fixed b_zeros b) (rw t at h) in
    let z : n ≡ 0 = g.2 in
    (omega arith, (λ _. z), fixed_is b_zeros b g.1 ∙ ap (λ (w : List ℕ). w ++ c) (zeros_text ∙ ap (hex_line_lem b_key) (sym z))))
    (λ t. let x = word_line_is b_key b (rw t at h) in (x.0, (λ u. absurd (true≢false (sym u ∙ t))), x.1))

-- ---- lines 5 to 7

pub list_back : (key : List ℕ) (most : ℕ) (ns b : List ℕ) → Held most ns → list_line_lem key most (list_line_text key ns ++ b) ≡ got ns b
unfolding list_line_lem
list_back key most ns b h = rw (append_assoc key (list_text ns) b, fixed_back key (list_text ns ++ b)) (word_list_back most ns b h)

pub list_is : (key : List ℕ) (most : ℕ) (b : List ℕ) {ns c : List ℕ} → list_line_lem key most b ≡ got ns c → (b ≡ list_line_text key ns ++ c) × Held most ns
unfolding list_line_lem
list_is key most b {ns} {c} h =
    let t = then_got (fixed key b) (λ _ c. word_list most c) h in
    let x = word_list_is most t.rest t.then_is in
    (join key (list_text ns) c (fixed_is key b t.first_is) x.0, x.1)

-- ---- the lines in their order

pub record Line {A B : Type 0} (i : ℕ) (g : Got A) (f : A → List ℕ → Through B) (v : B) (c : List ℕ) : Type 0 where
  pub first : A
  pub rest : List ℕ
  pub first_is : g ≡ got first rest
  pub then_is : f first rest ≡ through v c

pub line_through : {A B : Type 0} (i : ℕ) (g : Got A) (f : A → List ℕ → Through B) {v : B} {c : List ℕ} → line i g f ≡ through v c → Line i g f v c
line_through i (got a b) f h = record { first = a; rest = b; first_is = refl; then_is = h }
line_through i (fault e) f h = absurd (cc)

same_through : {A : Type 0} (P : A → List ℕ → Type 0) {a a' : A} {b b' : List ℕ} → through a b ≡ through a' b' → P a b → P a' b'
same_through P {a} {a'} {b} {b'} h p =
    let e : a ≡ a' = cc in
    let f : b ≡ b' = cc in
    subst (λ x. P x b') e (subst (λ y. P a y) f p)

abbrev pub head_text : Head → List ℕ → List ℕ
head_text h c = edition ++ (sampler_text h.sampler ++ (hex_line_lem a_key h.a ++ (hex_line_lem b_key h.b ++ c)))

abbrev pub lists_text : Lists → List ℕ → List ℕ
lists_text l c = list_line_text uniforms_key l.uniforms ++ (list_line_text normals_key l.normals ++ (list_line_text exponentials_key l.exponentials ++ c))

pub head_back : (h : Head) (c : List ℕ) → RightHead h → head_lines_lem (head_text h c) ≡ through h c
unfolding head_lines_lem
head_back h c r =
    let t4 = hex_line_lem b_key h.b ++ c in
    let t3 = hex_line_lem a_key h.a ++ t4 in
    rw (
      fixed_back edition (sampler_text h.sampler ++ t3),
      sampler_back h.sampler t3,
      word_line_back a_key h.a t4 r.a_word,
      second_back h.sampler h.b c r.b_word r.b_zeros_lem,
    )

pub head_is : (b : List ℕ) {h : Head} {c : List ℕ} → head_lines_lem b ≡ through h c → (b ≡ head_text h c) × RightHead h
unfolding head_lines_lem
head_is b {h} {c} e =
    let l1 = line_through 1 (fixed edition b) _ e in
    let l2 = line_through 2 (sampler_line_lem l1.rest) _ l1.then_is in
    let l3 = line_through 3 (word_line a_key l2.rest) _ l2.then_is in
    let l4 = line_through 4 (second_line_lem l2.first l3.rest) _ l3.then_is in
    let x = word_line_is a_key l2.rest l3.first_is in
    let y = second_is l2.first l3.rest l4.first_is in
    same_through (λ h c. (b ≡ head_text h c) × RightHead h) l4.then_is (
      fixed_is edition b l1.first_is
          ∙ ap (λ (z : List ℕ). edition ++ z) (sampler_is l1.rest l2.first_is
          ∙ ap (λ (z : List ℕ). sampler_text l2.first ++ z) (x.1 ∙ ap (λ (z : List ℕ). hex_line_lem a_key l3.first ++ z) y.2)),
      record { a_word = x.0; b_word = y.0; b_zeros_lem = y.1 },
    )

pub record HeldLists (most : Counts) (l : Lists) : Type 0 where
  pub uniforms : Held most.uniforms l.uniforms
  pub normals : Held most.normals l.normals
  pub exponentials : Held most.exponentials l.exponentials

pub lists_back : (most : Counts) (l : Lists) (c : List ℕ) → HeldLists most l → list_lines_lem most (lists_text l c) ≡ through l c
unfolding list_lines_lem
lists_back most l c r =
    let t7 = list_line_text exponentials_key l.exponentials ++ c in
    let t6 = list_line_text normals_key l.normals ++ t7 in
    rw (
      list_back uniforms_key most.uniforms l.uniforms t6 r.uniforms,
      list_back normals_key most.normals l.normals t7 r.normals,
      list_back exponentials_key most.exponentials l.exponentials c r.exponentials,
    )

pub lists_are : (most : Counts) (b : List ℕ) {l : Lists} {c : List ℕ} → list_lines_lem most b ≡ through l c → (b ≡ lists_text l c) × HeldLists most l
unfolding list_lines_lem
lists_are most b {l} {c} e =
    let l5 = line_through 5 (list_line_lem uniforms_key most.uniforms b) _ e in
    let l6 = line_through 6 (list_line_lem normals_key most.normals l5.rest) _ l5.then_is in
    let l7 = line_through 7 (list_line_lem exponentials_key most.exponentials l6.rest) _ l6.then_is in
    let u = list_is uniforms_key most.uniforms b l5.first_is in
    let v = list_is normals_key most.normals l5.rest l6.first_is in
    let w = list_is exponentials_key most.exponentials l6.rest l7.first_is in
    same_through (λ l c. (b ≡ lists_text l c) × HeldLists most l) l7.then_is (
      u.0
          ∙ ap (λ (z : List ℕ). list_line_text uniforms_key l5.first ++ z) (v.0 ∙ ap (λ (z : List ℕ). list_line_text normals_key l6.first ++ z) w.0),
      record { uniforms = u.1; normals = v.1; exponentials = w.1 },
    )

-- a right sheet's text, whatever stands after it
pub front_back : (most : Counts) (s : Sheet) (c : List ℕ) → RightIn most s → sheet_lines most (in_front (line_texts s) c) ≡ through s c
front_back most s c r =
    let l = lists_back most s.lists c (record { uniforms = r.uniforms; normals = r.normals; exponentials = r.exponentials }) in
    rw (head_back s.head (lists_text s.lists c) r.head, l)

headed_through : (h : Head) (g : Through Lists) {s : Sheet} {c : List ℕ} → headed h g ≡ through s c → (l : Lists) × (g ≡ through l c) × (s ≡ record { head = h; lists = l })
headed_through h (through l b) e = (l, cc, cc)
headed_through h (stopped f i) e = absurd (cc)

with_lists_lem : (most : Counts) (b : List ℕ) (g : Through Head) {s : Sheet} {c : List ℕ} → head_lines_lem b ≡ g → with_lists most g ≡ through s c
    → (b ≡ in_front (line_texts s) c) × RightIn most s
with_lists_lem most b (through h d) {s} {c} i e =
    let j = headed_through h (list_lines_lem most d) e in
    let k = head_is b i in
    let l = lists_are most d j.1 in
    subst (λ s. (b ≡ in_front (line_texts s) c) × RightIn most s) (sym j.2)
    (k.0 ∙ ap (head_text h) l.0, record { head = k.1; uniforms = l.1.uniforms; normals = l.1.normals; exponentials = l.1.exponentials })
with_lists_lem most b (stopped f i) j e = absurd (cc)

-- a sheet that is read at the front of b is right, and b starts with its text
pub front_is : (most : Counts) (b : List ℕ) {s : Sheet} {c : List ℕ} → sheet_lines most b ≡ through s c → (b ≡ in_front (line_texts s) c) × RightIn most s
front_is most b e = with_lists_lem most b (head_lines_lem b) refl e

-- ---- the whole

list_length : (ns : List ℕ) → length (list_text ns) ≤ 17 * length ns + 1
unfolding list_text
list_length [] = omega arith
list_length (n ∷ []) = rw (length-append) (omega (arith, hex_length n))
list_length (n ∷ m ∷ ms) = rw (length-append) (omega (arith, hex_length n, list_length (m ∷ ms)))

name_length : (k : Sampler) → length (name_text k) ≤ 8
name_length Gamma = omega arith
name_length Beta = omega arith
name_length Chi = omega arith
name_length Fisher = omega arith
name_length Student = omega arith

-- 3,361 bytes at most
pub fits_in_4096 : (s : Sheet) → Right s → length (written s) ≤ 4096
fits_in_4096 s r =
    simp length-append
    (omega (
      arith,
      name_length s.head.sampler,
      line_length a_key (hex_text s.head.a),
      line_length b_key (hex_text s.head.b),
      hex_length s.head.a,
      hex_length s.head.b,
      list_length s.lists.uniforms,
      list_length s.lists.normals,
      list_length s.lists.exponentials,
      r.uniforms.few,
      r.normals.few,
      r.exponentials.few,
    ))

pub read_back : (s : Sheet) → Right s → parse (written s) ≡ right s
read_back s r = parse_short most64 (written s) (fits_in_4096 s r) ∙ ap alone (front_back most64 s [] r)

alone_right : (g : Through Sheet) {s : Sheet} → alone g ≡ right s → g ≡ through s []
alone_right (through s []) e = cc
alone_right (through s (x ∷ b)) e = absurd (cc)
alone_right (stopped f i) e = absurd (cc)

size_right : (t : Bool) (p : Parsed) {s : Sheet} → cond t (refused 0) p ≡ right s → p ≡ right s
size_right true p e = absurd (cc)
size_right false p e = e

pub unique_text : (b : List ℕ) {s : Sheet} → parse b ≡ right s → (b ≡ written s) × Right s
unfolding parse_in
unique_text b e = front_is most64 b (alone_right (sheet_lines most64 b) (size_right (ltb 4096 (length b)) _ e))

-- three buffers of 64 read what document 01 says
pub in_64 : (us ns es b : List ℕ) → length us ≡ 64 → length ns ≡ 64 → length es ≡ 64 → parse_in (rooms us ns es) b ≡ parse b
in_64 us ns es b u n e = rw (u, n, e)
