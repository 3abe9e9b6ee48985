-- Reading goes on piece by piece. `Piecewise` is what that means of a reader: more bytes change nothing but what is left, unless the bytes ended
-- first, and then some continuation is right. It holds of fixed texts and numbers byte by byte, and whatever is put together of such readers
-- has it too; the lines and the sheet are. Assumes nothing.
use Prim.Native.Nat.{ℕ, zero, suc, ◌+◌, ◌*◌}
use mathlib.Core.Path.{◌≡◌, refl, sym, ap, ◌∙◌}
use mathlib.Core.Logic.{◌⊎◌, inl, inr}
use mathlib.Core.List.{List, [], ◌∷◌, ◌++◌, append_assoc}
use mathlib.Core.Bool.{Bool, true, false, cond, false≢true}
use lib.Dec.{eqb}
use borrow.Author.Tests.{eq-eqb}
use Rattle.std.specs.Prelude.{Option, Some, None}
use Rattle.texts.specs.Bytes.{feed}
use Rattle.sheet_lines.specs.Keys.{edition, sampler_key, name_text, a_key, b_key, b_zeros, uniforms_key, normals_key, exponentials_key}
use Rattle.sheet_words.specs.Bytes.{Got, got, fault, then, gives, fixed, digit_value, from_digit, hex_from, word, ahead, after_word, some_words, word_list, word_line, list_line_lem}
use Rattle.sheet_lines.specs.Lines.{Counts, or_else, name_read, any_name_lem, sampler_line_lem, second_line_lem, Through, through, stopped, line, head_lines_lem, Lists, list_lines_lem, Sheet, headed, with_lists, sheet_lines}
use Rattle.sheet.specs.Written.{written, RightIn}
use Rattle.sheet_lines.specs.declared.Sampler.{Sampler}
use Rattle.sheet_lines.specs.declared.Sampler.TheVariants.{Gamma, Beta, Chi, Fisher, Student}
use Rattle.sheet_lines.specs.declared.Head.{Head}
use Rattle.sheet_words.specs.declared.Fault.{Fault}
use Rattle.sheet_words.specs.declared.Fault.TheVariants.{Wrong, Ended}
use Rattle.sheet.proofs.ReadBack.{front_is}

-- ---- readers

-- c after the bytes that are left
abbrev onto : {A : Type 0} → List ℕ → Got A → Got A
onto c (got v d) = got v (d ++ c)
onto c (fault e) = fault e

-- g is what is read of some bytes, and h of them and c
abbrev Grown : {A : Type 0} → List ℕ → Got A → Got A → Type 0
Grown c g h = (g ≡ fault Ended) ⊎ (h ≡ onto c g)

-- some text is all that p reads, after b
record Ends {A : Type 0} (p : List ℕ → Got A) (b : List ℕ) : Type 0 where
  more : List ℕ
  value : A
  reads : p (b ++ more) ≡ got value []

record Piecewise {A : Type 0} (p : List ℕ → Got A) : Type 0 where
  grows : (b c : List ℕ) → Grown c (p b) (p (b ++ c))
  ends : (b : List ℕ) → p b ≡ fault Ended → Ends p b

-- what p reads of b, it reads of b and c
keeps : {A : Type 0} {p : List ℕ → Got A} → Piecewise p → (b c : List ℕ) {v : A} {d : List ℕ} → p b ≡ got v d → p (b ++ c) ≡ got v (d ++ c)
keeps {A} {p} w b c {v} {d} h = cases (w.grows b c) where
  cases : Grown c (p b) (p (b ++ c)) → p (b ++ c) ≡ got v (d ++ c)
  cases (inl e) = absurd (cc)
  cases (inr e) = e ∙ ap (onto c) h

stays_wrong : {A : Type 0} {p : List ℕ → Got A} → Piecewise p → (b c : List ℕ) → p b ≡ fault Wrong → p (b ++ c) ≡ fault Wrong
stays_wrong {A} {p} w b c h = cases (w.grows b c) where
  cases : Grown c (p b) (p (b ++ c)) → p (b ++ c) ≡ fault Wrong
  cases (inl e) = let y : ◌≡◌ {A = Fault} Wrong Ended = cc in absurd (cc)
  cases (inr e) = e ∙ ap (onto c) h

-- ---- put together

module _ {A B : Type 0} (p : List ℕ → Got A) (f : A → List ℕ → Got B) (w : Piecewise p) (v : (a : A) → Piecewise (f a)) (o : (a : A) → f a [] ≡ fault Ended) where
  then_grows : (b c : List ℕ) (g : Got A) → p b ≡ g → Grown c g (p (b ++ c)) → Grown c (then g f) (then (p (b ++ c)) f)
  then_grows b c g h (inl e) = inl (ap (λ z. then z f) e)
  then_grows b c (got a d) h (inr e) = rw e ((v a).grows d c)
  then_grows b c (fault x) h (inr e) = inr (ap (λ z. then z f) e)

  -- p reads its own, and then f what comes after it
  in_turn : (b c : List ℕ) (a : A) → p (b ++ c) ≡ got a [] → Ends (f a) [] → Ends (λ b. then (p b) f) b
  in_turn b c a h k =
      record {
        more = c ++ k.more;
        value = k.value;
        reads = rw (← append_assoc b c k.more, keeps w (b ++ c) k.more h) k.reads;
      }

  then_ends : (b : List ℕ) (g : Got A) → p b ≡ g → then g f ≡ fault Ended → Ends (λ b. then (p b) f) b
  then_ends b (got a d) h e = let k = (v a).ends d e in record { more = k.more; value = k.value; reads = rw (keeps w b k.more h) k.reads }
  then_ends b (fault x) h e =
      let i : p b ≡ fault Ended = cc in
      let k = w.ends b i in
      in_turn b k.more k.value k.reads ((v k.value).ends [] (o k.value))

  by_then : Piecewise (λ b. then (p b) f)
  by_then = record { grows = λ b c. then_grows b c (p b) refl (w.grows b c); ends = λ b. then_ends b (p b) refl }

module _ {A B : Type 0} (x : B) (p : List ℕ → Got A) (w : Piecewise p) where
  gives_grows : (c : List ℕ) (g h : Got A) → Grown c g h → Grown c (gives x g) (gives x h)
  gives_grows c g h (inl e) = inl (ap (gives x) e)
  gives_grows c (got a d) h (inr e) = inr (ap (gives x) e)
  gives_grows c (fault y) h (inr e) = inr (ap (gives x) e)

  gives_ends : (b : List ℕ) (g : Got A) → p b ≡ g → gives x g ≡ fault Ended → Ends (λ b. gives x (p b)) b
  gives_ends b (got a d) h e = absurd (cc)
  gives_ends b (fault y) h e =
      let i : p b ≡ fault Ended = cc in
      let k = w.ends b i in
      record { more = k.more; value = x; reads = ap (gives x) k.reads }

  by_gives : Piecewise (λ b. gives x (p b))
  by_gives = record { grows = λ b c. gives_grows c (p b) (p (b ++ c)) (w.grows b c); ends = λ b. gives_ends b (p b) refl }

module _ {A : Type 0} (p q : List ℕ → Got A) (w : Piecewise p) (v : Piecewise q) where
  or_grows : (c : List ℕ) (g h i j : Got A) → Grown c g h → Grown c i j → Grown c (or_else g i) (or_else h j)
  or_grows c g h i j (inl e) k = inl (ap (λ z. or_else z i) e)
  or_grows c (got a d) h i j (inr e) k = inr (ap (λ z. or_else z j) e)
  or_grows c (fault Ended) h i j (inr e) k = inl refl
  or_grows c (fault Wrong) h i j (inr e) k = rw e k

  or_ends : (b : List ℕ) (g : Got A) → p b ≡ g → or_else g (q b) ≡ fault Ended → Ends (λ b. or_else (p b) (q b)) b
  or_ends b (got a d) h e = absurd (cc)
  or_ends b (fault Ended) h e = let k = w.ends b h in record { more = k.more; value = k.value; reads = rw k.reads }
  or_ends b (fault Wrong) h e = let k = v.ends b e in record { more = k.more; value = k.value; reads = rw (stays_wrong w b k.more h) k.reads }

  by_or : Piecewise (λ b. or_else (p b) (q b))
  by_or = record { grows = λ b c. or_grows c (p b) (p (b ++ c)) (q b) (q (b ++ c)) (w.grows b c) (v.grows b c); ends = λ b. or_ends b (p b) refl }

-- ---- texts and numbers, byte by byte

cond_grows : {A : Type 0} (c : List ℕ) (t : Bool) {g h i j : Got A} → Grown c g h → Grown c i j → Grown c (cond t g i) (cond t h j)
cond_grows c true k l = k
cond_grows c false k l = l

cond_ended : {A : Type 0} (t : Bool) {g : Got A} → cond t g (fault Wrong) ≡ fault Ended → (t ≡ true) × (g ≡ fault Ended)
cond_ended true e = (refl, e)
cond_ended false e = let y : ◌≡◌ {A = Fault} Wrong Ended = cc in absurd (cc)

cond_true : {A : Type 0} (t : Bool) (g h : Got A) {r : Got A} → t ≡ true → g ≡ r → cond t g h ≡ r
cond_true true g h e f = f
cond_true false g h e f = absurd (false≢true e)

cond_false : {A : Type 0} (t : Bool) (g h : Got A) {r : Got A} → t ≡ false → h ≡ r → cond t g h ≡ r
cond_false true g h e f = absurd (false≢true (sym e))
cond_false false g h e f = f

fixed_all : (t : List ℕ) → fixed t t ≡ got tt []
unfolding fixed
fixed_all [] = refl
fixed_all (k ∷ t) = rw (eq-eqb k k refl) (fixed_all t)

fixed_grows : (t b c : List ℕ) → Grown c (fixed t b) (fixed t (b ++ c))
unfolding fixed
fixed_grows [] b c = inr refl
fixed_grows (k ∷ t) [] c = inl refl
fixed_grows (k ∷ t) (x ∷ b) c = cond_grows c (eqb x k) (fixed_grows t b c) (inr refl)

fixed_ends : (t b : List ℕ) → fixed t b ≡ fault Ended → Ends (fixed t) b
unfolding fixed
fixed_ends [] b e = absurd (cc)
fixed_ends (k ∷ t) [] e = record { more = k ∷ t; value = tt; reads = fixed_all (k ∷ t) }
fixed_ends (k ∷ t) (x ∷ b) e =
    let p = cond_ended (eqb x k) e in
    let i = fixed_ends t b p.1 in
    record { more = i.more; value = tt; reads = cond_true (eqb x k) (fixed t (b ++ i.more)) (fault Wrong) p.0 i.reads }

piece_fixed : (t : List ℕ) → Piecewise (fixed t)
piece_fixed t = record { grows = fixed_grows t; ends = fixed_ends t }

digit_grows : (c : List ℕ) (o : Option ℕ) (f g : ℕ → Got ℕ) → ((d : ℕ) → Grown c (f d) (g d)) → Grown c (from_digit o f) (from_digit o g)
digit_grows c (Some d) f g h = h d
digit_grows c None f g h = inr refl

digit_ended : (o : Option ℕ) (f : ℕ → Got ℕ) → from_digit o f ≡ fault Ended → (d : ℕ) × (o ≡ Some d) × (f d ≡ fault Ended)
digit_ended (Some d) f e = (d, refl, e)
digit_ended None f e = absurd (cc)

digit_read : (o : Option ℕ) (f : ℕ → Got ℕ) {d : ℕ} {r : Got ℕ} → o ≡ Some d → f d ≡ r → from_digit o f ≡ r
digit_read o f e h = rw e h

-- zeros are digits
zeros_end : (k n : ℕ) → Ends (hex_from k n) []
unfolding hex_from digit_value
zeros_end zero n = record { more = []; value = n; reads = refl }
zeros_end (suc k) n = let i = zeros_end k (n * 16 + 0) in record { more = 48 ∷ i.more; value = i.value; reads = i.reads }

hex_grows : (k n : ℕ) (b c : List ℕ) → Grown c (hex_from k n b) (hex_from k n (b ++ c))
unfolding hex_from
hex_grows zero n b c = inr refl
hex_grows (suc k) n [] c = inl refl
hex_grows (suc k) n (x ∷ b) c = digit_grows c (digit_value x) _ _ (λ d. hex_grows k (n * 16 + d) b c)

hex_ends : (k n : ℕ) (b : List ℕ) → hex_from k n b ≡ fault Ended → Ends (hex_from k n) b
unfolding hex_from
hex_ends zero n b e = absurd (cc)
hex_ends (suc k) n [] e = zeros_end (suc k) n
hex_ends (suc k) n (x ∷ b) e =
    let p = digit_ended (digit_value x) _ e in
    let i = hex_ends k (n * 16 + p.0) b p.2 in
    record { more = i.more; value = i.value; reads = digit_read (digit_value x) _ p.1 i.reads }

piece_word : Piecewise word
piece_word = record { grows = hex_grows 16 0; ends = hex_ends 16 0 }

-- ---- lists

ahead_grows : (ns c : List ℕ) (g h : Got (List ℕ)) → Grown c g h → Grown c (ahead ns g) (ahead ns h)
ahead_grows ns c g h (inl e) = inl (ap (ahead ns) e)
ahead_grows ns c (got a d) h (inr e) = inr (ap (ahead ns) e)
ahead_grows ns c (fault x) h (inr e) = inr (ap (ahead ns) e)

ahead_ended : (ns : List ℕ) (g : Got (List ℕ)) → ahead ns g ≡ fault Ended → g ≡ fault Ended
ahead_ended ns (got a d) e = absurd (cc)
ahead_ended ns (fault x) e = e

module _ (n : ℕ) (others : List ℕ → Got (List ℕ)) (w : Piecewise others) where
  after_grows : (b c : List ℕ) → Grown c (after_word n others b) (after_word n others (b ++ c))
  unfolding after_word
  after_grows [] c = inl refl
  after_grows (x ∷ b) c = cond_grows c (eqb x 10) (inr refl) (cond_grows c (eqb x 44) (ahead_grows (n ∷ []) c (others b) (others (b ++ c)) (w.grows b c)) (inr refl))

  -- a line feed ends a list
  after_feed : Ends (after_word n others) []
  unfolding after_word
  after_feed = record { more = feed; value = n ∷ []; reads = refl }

  after_byte : (t : Bool) (x : ℕ) (b : List ℕ) → eqb x 10 ≡ t → cond t (got (n ∷ []) b) (cond (eqb x 44) (ahead (n ∷ []) (others b)) (fault Wrong)) ≡ fault Ended
      → Ends (after_word n others) (x ∷ b)
  unfolding after_word
  after_byte true x b t e = absurd (cc)
  after_byte false x b t e =
      let p = cond_ended (eqb x 44) e in
      let i = w.ends b (ahead_ended (n ∷ []) (others b) p.1) in
      record {
        more = i.more;
        value = n ∷ i.value;
        reads = cond_false (eqb x 10) (got (n ∷ []) (b ++ i.more)) _ t
            (cond_true (eqb x 44) (ahead (n ∷ []) (others (b ++ i.more))) (fault Wrong) p.0 (ap (ahead (n ∷ [])) i.reads));
      }

  after_ends : (b : List ℕ) → after_word n others b ≡ fault Ended → Ends (after_word n others) b
  unfolding after_word
  after_ends [] e = after_feed
  after_ends (x ∷ b) e = after_byte (eqb x 10) x b refl e

  piece_after : Piecewise (after_word n others)
  piece_after = record { grows = after_grows; ends = after_ends }

after_none : (n : ℕ) (others : List ℕ → Got (List ℕ)) → after_word n others [] ≡ fault Ended
unfolding after_word
after_none n others = refl

piece_some : (r : ℕ) → Piecewise (some_words r)
unfolding some_words
piece_some zero = record { grows = λ b c. inr refl; ends = λ b e. let y : ◌≡◌ {A = Fault} Wrong Ended = cc in absurd (cc) }
piece_some (suc r) =
    by_then word (λ n c. after_word n (λ d. some_words r d) c) piece_word
    (λ n. piece_after n (λ d. some_words r d) (piece_some r)) (λ n. after_none n (λ d. some_words r d))

module _ (most : ℕ) where
  word_list_grows : (b c : List ℕ) → Grown c (word_list most b) (word_list most (b ++ c))
  unfolding word_list
  word_list_grows [] c = inl refl
  word_list_grows (x ∷ b) c = cond_grows c (eqb x 10) (inr refl) ((piece_some most).grows (x ∷ b) c)

  word_list_byte : (t : Bool) (x : ℕ) (b : List ℕ) → eqb x 10 ≡ t → cond t (got [] b) (some_words most (x ∷ b)) ≡ fault Ended → Ends (word_list most) (x ∷ b)
  unfolding word_list
  word_list_byte true x b t e = absurd (cc)
  word_list_byte false x b t e = let i = (piece_some most).ends (x ∷ b) e in record { more = i.more; value = i.value; reads = cond_false (eqb x 10) (got [] (b ++ i.more)) (some_words most (x ∷ (b ++ i.more))) t i.reads }

  word_list_ends : (b : List ℕ) → word_list most b ≡ fault Ended → Ends (word_list most) b
  unfolding word_list
  word_list_ends [] e = record { more = feed; value = []; reads = refl }
  word_list_ends (x ∷ b) e = word_list_byte (eqb x 10) x b refl e

  piece_word_list : Piecewise (word_list most)
  piece_word_list = record { grows = word_list_grows; ends = word_list_ends }

  word_list_none : word_list most [] ≡ fault Ended
  unfolding word_list
  word_list_none = refl

-- ---- lines

piece_named : (k : Sampler) → Piecewise (name_read k)
piece_named k = by_gives k (fixed (name_text k)) (piece_fixed (name_text k))

piece_name : Piecewise any_name_lem
unfolding any_name_lem
piece_name = by_or _ (name_read Student) (by_or _ (name_read Fisher) (by_or _ (name_read Chi) (by_or (name_read Gamma) (name_read Beta) (piece_named Gamma) (piece_named Beta)) (piece_named Chi)) (piece_named Fisher)) (piece_named Student)

name_none : any_name_lem [] ≡ fault Ended
unfolding any_name_lem fixed
name_none = refl

piece_sampler : Piecewise sampler_line_lem
unfolding sampler_line_lem
piece_sampler = by_then (fixed sampler_key) (λ _ c. any_name_lem c) (piece_fixed sampler_key) (λ _. piece_name) (λ _. name_none)

feed_none : (n : ℕ) → gives n (fixed feed []) ≡ fault Ended
unfolding fixed
feed_none n = refl

value_none : then (word []) (λ n d. gives n (fixed feed d)) ≡ fault Ended
unfolding hex_from
value_none = refl

piece_word_line : (key : List ℕ) → Piecewise (word_line key)
unfolding word_line
piece_word_line key =
    by_then (fixed key) (λ _ c. then (word c) (λ n d. gives n (fixed feed d))) (piece_fixed key)
    (λ _. by_then word (λ n d. gives n (fixed feed d)) piece_word (λ n. by_gives n (fixed feed) (piece_fixed feed)) feed_none) (λ _. value_none)

piece_second : (k : Sampler) → Piecewise (second_line_lem k)
unfolding second_line_lem
piece_second Gamma = piece_word_line b_key
piece_second Beta = piece_word_line b_key
piece_second Chi = by_gives 0 (fixed b_zeros) (piece_fixed b_zeros)
piece_second Fisher = piece_word_line b_key
piece_second Student = by_gives 0 (fixed b_zeros) (piece_fixed b_zeros)

piece_list : (key : List ℕ) (most : ℕ) → Piecewise (list_line_lem key most)
unfolding list_line_lem
piece_list key most = by_then (fixed key) (λ _ c. word_list most c) (piece_fixed key) (λ _. piece_word_list most) (λ _. word_list_none most)

-- ---- lines in their order

abbrev pub onto_lines : {A : Type 0} → List ℕ → Through A → Through A
onto_lines c (through a d) = through a (d ++ c)
onto_lines c (stopped e i) = stopped e i

abbrev pub GrownLines : {A : Type 0} → List ℕ → Through A → Through A → Type 0
GrownLines c g h = ((i : ℕ) × (g ≡ stopped Ended i)) ⊎ (h ≡ onto_lines c g)

record EndsLines {A : Type 0} (p : List ℕ → Through A) (b : List ℕ) : Type 0 where
  more : List ℕ
  value : A
  reads : p (b ++ more) ≡ through value []

record PiecewiseLines {A : Type 0} (p : List ℕ → Through A) : Type 0 where
  grows : (b c : List ℕ) → GrownLines c (p b) (p (b ++ c))
  ends : (b : List ℕ) (i : ℕ) → p b ≡ stopped Ended i → EndsLines p b

-- after the last line
piece_done : {A : Type 0} (a : A) → PiecewiseLines (through a)
piece_done a = record { grows = λ b c. inr refl; ends = λ b i e. absurd (cc) }

module _ {A B : Type 0} (i : ℕ) (p : List ℕ → Got A) (f : A → List ℕ → Through B) (w : Piecewise p) (v : (a : A) → PiecewiseLines (f a)) (o : (a : A) → EndsLines (f a) []) where
  line_grows : (b c : List ℕ) (g : Got A) → p b ≡ g → Grown c g (p (b ++ c)) → GrownLines c (line i g f) (line i (p (b ++ c)) f)
  line_grows b c g h (inl e) = inl (i, ap (λ z. line i z f) e)
  line_grows b c (got a d) h (inr e) = rw e ((v a).grows d c)
  line_grows b c (fault x) h (inr e) = inr (ap (λ z. line i z f) e)

  line_next : (b c : List ℕ) (a : A) → p (b ++ c) ≡ got a [] → EndsLines (f a) [] → EndsLines (λ b. line i (p b) f) b
  line_next b c a h k =
      record {
        more = c ++ k.more;
        value = k.value;
        reads = rw (← append_assoc b c k.more, keeps w (b ++ c) k.more h) k.reads;
      }

  line_ends : (b : List ℕ) (j : ℕ) (g : Got A) → p b ≡ g → line i g f ≡ stopped Ended j → EndsLines (λ b. line i (p b) f) b
  line_ends b j (got a d) h e = let k = (v a).ends d j e in record { more = k.more; value = k.value; reads = rw (keeps w b k.more h) k.reads }
  line_ends b j (fault x) h e =
      let y : p b ≡ fault Ended = cc in
      let k = w.ends b y in
      line_next b k.more k.value k.reads (o k.value)

  by_line : PiecewiseLines (λ b. line i (p b) f)
  by_line = record { grows = λ b c. line_grows b c (p b) refl (w.grows b c); ends = λ b j. line_ends b j (p b) refl }

-- a line that has yet to begin can be right
module _ {A B : Type 0} (i : ℕ) (p : List ℕ → Got A) (f : A → List ℕ → Through B) (w : PiecewiseLines (λ b. line i (p b) f)) where
  opens : p [] ≡ fault Ended → EndsLines (λ b. line i (p b) f) []
  opens e = w.ends [] i (ap (λ z. line i z f) e)

word_none : (key : List ℕ) (x : ℕ) → word_line (x ∷ key) [] ≡ fault Ended
unfolding word_line fixed
word_none key x = refl

second_none : (k : Sampler) → second_line_lem k [] ≡ fault Ended
unfolding second_line_lem word_line fixed
second_none Gamma = refl
second_none Beta = refl
second_none Chi = refl
second_none Fisher = refl
second_none Student = refl

sampler_none : sampler_line_lem [] ≡ fault Ended
unfolding sampler_line_lem fixed
sampler_none = refl

list_none : (x : ℕ) (key : List ℕ) (most : ℕ) → list_line_lem (x ∷ key) most [] ≡ fault Ended
unfolding list_line_lem fixed
list_none x key most = refl

done_opens : {A : Type 0} (a : A) → EndsLines (through a) []
done_opens a = record { more = []; value = a; reads = refl }

-- lines 4, 3 and 2 with those after them, up to the head's end
abbrev from_4 : Sampler → ℕ → List ℕ → Through Head
from_4 k x b = line 4 (second_line_lem k b) (λ y c. through (record { sampler = k; a = x; b = y }) c)

abbrev from_3 : Sampler → List ℕ → Through Head
from_3 k b = line 3 (word_line a_key b) (λ x c. from_4 k x c)

abbrev from_2 : List ℕ → Through Head
from_2 b = line 2 (sampler_line_lem b) (λ k c. from_3 k c)

piece_4 : (k : Sampler) (x : ℕ) → PiecewiseLines (from_4 k x)
piece_4 k x = by_line 4 (second_line_lem k) (λ y c. through (record { sampler = k; a = x; b = y }) c) (piece_second k) (λ y. piece_done _) (λ y. done_opens _)

open_4 : (k : Sampler) (x : ℕ) → EndsLines (from_4 k x) []
open_4 k x = opens 4 (second_line_lem k) (λ y c. through (record { sampler = k; a = x; b = y }) c) (piece_4 k x) (second_none k)

piece_3 : (k : Sampler) → PiecewiseLines (from_3 k)
piece_3 k = by_line 3 (word_line a_key) (λ x c. from_4 k x c) (piece_word_line a_key) (piece_4 k) (open_4 k)

open_3 : (k : Sampler) → EndsLines (from_3 k) []
open_3 k = opens 3 (word_line a_key) (λ x c. from_4 k x c) (piece_3 k) (word_none _ _)

piece_2 : PiecewiseLines from_2
piece_2 = by_line 2 sampler_line_lem (λ k c. from_3 k c) piece_sampler piece_3 open_3

open_2 : EndsLines from_2 []
open_2 = opens 2 sampler_line_lem (λ k c. from_3 k c) piece_2 sampler_none

piece_head : PiecewiseLines head_lines_lem
unfolding head_lines_lem
piece_head = by_line 1 (fixed edition) (λ _ c. from_2 c) (piece_fixed edition) (λ _. piece_2) (λ _. open_2)

module _ (most : Counts) where
  abbrev from_7 : List ℕ → List ℕ → List ℕ → Through Lists
  from_7 us ns b = line 7 (list_line_lem exponentials_key most.exponentials b) (λ es c. through (record { uniforms = us; normals = ns; exponentials = es }) c)

  abbrev from_6 : List ℕ → List ℕ → Through Lists
  from_6 us b = line 6 (list_line_lem normals_key most.normals b) (λ ns c. from_7 us ns c)

  piece_7 : (us ns : List ℕ) → PiecewiseLines (from_7 us ns)
  piece_7 us ns = by_line 7 (list_line_lem exponentials_key most.exponentials) _ (piece_list exponentials_key most.exponentials) (λ es. piece_done _) (λ es. done_opens _)

  open_7 : (us ns : List ℕ) → EndsLines (from_7 us ns) []
  open_7 us ns = opens 7 (list_line_lem exponentials_key most.exponentials) _ (piece_7 us ns) (list_none _ _ most.exponentials)

  piece_6 : (us : List ℕ) → PiecewiseLines (from_6 us)
  piece_6 us = by_line 6 (list_line_lem normals_key most.normals) (λ ns c. from_7 us ns c) (piece_list normals_key most.normals) (piece_7 us) (open_7 us)

  open_6 : (us : List ℕ) → EndsLines (from_6 us) []
  open_6 us = opens 6 (list_line_lem normals_key most.normals) (λ ns c. from_7 us ns c) (piece_6 us) (list_none _ _ most.normals)

  piece_lists : PiecewiseLines (list_lines_lem most)
  unfolding list_lines_lem
  piece_lists = by_line 5 (list_line_lem uniforms_key most.uniforms) (λ us c. from_6 us c) (piece_list uniforms_key most.uniforms) piece_6 open_6

  open_lists : EndsLines (list_lines_lem most) []
  unfolding list_lines_lem
  open_lists = opens 5 (list_line_lem uniforms_key most.uniforms) (λ us c. from_6 us c) piece_lists (list_none _ _ most.uniforms)

  -- ---- the sheet at the front

  headed_grows : (h : Head) (c : List ℕ) (g k : Through Lists) → GrownLines c g k → GrownLines c (headed h g) (headed h k)
  headed_grows h c g k (inl e) = inl (e.0, ap (headed h) e.1)
  headed_grows h c (through l d) k (inr e) = inr (ap (headed h) e)
  headed_grows h c (stopped x i) k (inr e) = inr (ap (headed h) e)

  with_grows : (c : List ℕ) (g k : Through Head) → GrownLines c g k → GrownLines c (with_lists most g) (with_lists most k)
  with_grows c g k (inl e) = inl (e.0, ap (with_lists most) e.1)
  with_grows c (through h d) k (inr e) = rw e (headed_grows h c (list_lines_lem most d) (list_lines_lem most (d ++ c)) (piece_lists.grows d c))
  with_grows c (stopped x i) k (inr e) = inr (ap (with_lists most) e)

  sheet_grows : (b c : List ℕ) → GrownLines c (sheet_lines most b) (sheet_lines most (b ++ c))
  sheet_grows b c = with_grows c (head_lines_lem b) (head_lines_lem (b ++ c)) (piece_head.grows b c)

  headed_ended : (h : Head) (g : Through Lists) {i : ℕ} → headed h g ≡ stopped Ended i → g ≡ stopped Ended i
  headed_ended h (through l d) e = absurd (cc)
  headed_ended h (stopped x j) e = cc

  head_keeps : (b c : List ℕ) {h : Head} {d : List ℕ} → head_lines_lem b ≡ through h d → head_lines_lem (b ++ c) ≡ through h (d ++ c)
  head_keeps b c {h} {d} e = cases (piece_head.grows b c) where
    cases : GrownLines c (head_lines_lem b) (head_lines_lem (b ++ c)) → head_lines_lem (b ++ c) ≡ through h (d ++ c)
    cases (inl i) = let j = i.1 in absurd (cc)
    cases (inr i) = i ∙ ap (onto_lines c) e

  -- lists from some text after the head's
  lists_next : (b c d : List ℕ) {h : Head} → head_lines_lem (b ++ c) ≡ through h d → EndsLines (list_lines_lem most) d → EndsLines (sheet_lines most) b
  lists_next b c d {h} e k =
      record {
        more = c ++ k.more;
        value = record { head = h; lists = k.value };
        reads = rw (← append_assoc b c k.more, head_keeps (b ++ c) k.more e, k.reads);
      }

  sheet_ends : (b : List ℕ) (i : ℕ) (g : Through Head) → head_lines_lem b ≡ g → with_lists most g ≡ stopped Ended i → EndsLines (sheet_lines most) b
  sheet_ends b i (through h d) e f =
      let k = piece_lists.ends d i (headed_ended h (list_lines_lem most d) f) in
      record { more = k.more; value = record { head = h; lists = k.value }; reads = rw (head_keeps b k.more e, k.reads) }
  sheet_ends b i (stopped x j) e f =
      let y : head_lines_lem b ≡ stopped Ended i = cc in
      let k = piece_head.ends b i y in
      lists_next b k.more [] k.reads open_lists

-- ---- the theorems

module _ (most : Counts) (b : List ℕ) where
  -- a sheet that was read stays read, and what comes after it is left
  pub right_stays : (c : List ℕ) {s : Sheet} {d : List ℕ} → sheet_lines most b ≡ through s d → sheet_lines most (b ++ c) ≡ through s (d ++ c)
  right_stays c {s} {d} e = cases (sheet_grows most b c) where
    cases : GrownLines c (sheet_lines most b) (sheet_lines most (b ++ c)) → sheet_lines most (b ++ c) ≡ through s (d ++ c)
    cases (inl i) = let j = i.1 in absurd (cc)
    cases (inr i) = i ∙ ap (onto_lines c) e

  -- no continuation makes a wrong line right
  pub wrong_stays : (c : List ℕ) {n : ℕ} → sheet_lines most b ≡ stopped Wrong n → sheet_lines most (b ++ c) ≡ stopped Wrong n
  wrong_stays c {n} e = cases (sheet_grows most b c) where
    cases : GrownLines c (sheet_lines most b) (sheet_lines most (b ++ c)) → sheet_lines most (b ++ c) ≡ stopped Wrong n
    cases (inl i) = let j = i.1 in let y : ◌≡◌ {A = Fault} Wrong Ended = cc in absurd (cc)
    cases (inr i) = i ∙ ap (onto_lines c) e

  -- bytes that only ended are the front of a right sheet's text
  pub record Unfinished : Type 0 where
    pub more : List ℕ
    pub sheet : Sheet
    pub right : RightIn most sheet
    pub text_is : b ++ more ≡ written sheet

  pub ended_goes_on : {n : ℕ} → sheet_lines most b ≡ stopped Ended n → Unfinished
  ended_goes_on {n} e =
      let k = sheet_ends most b n (head_lines_lem b) refl e in
      let f = front_is most (b ++ k.more) k.reads in
      record { more = k.more; sheet = k.value; right = f.1; text_is = f.0 }
