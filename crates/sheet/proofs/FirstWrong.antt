-- The line that is named is the first wrong one. Bytes that start with n lines of a right sheet are read through those n, so that reading stops
-- past them or not at all; and where it stops at line n, the lines before it were read, so a right sheet has them. Assumes nothing.
use Prim.Native.Nat.{ℕ, zero, suc, ◌-◌, ◌≤◌, ◌<◌, ◌^◌}
use native.Mathlib.Omega.{arith}
use mathlib.Core.Path.{◌≡◌, refl, sym, ap, ◌∙◌, subst}
use mathlib.Core.List.{List, [], ◌∷◌, ◌++◌}
use mathlib.Core.Bool.{Bool, true, false, cond}
use lib.ListN.{length, take}
use lib.Dec.{ltb}
use borrow.Author.Tests.{ltb-true, ltb-false}
use Rattle.texts.specs.Numbers.{hex_line_lem}
use Rattle.sheet_lines.specs.Keys.{edition, a_key, uniforms_key, normals_key, exponentials_key}
use Rattle.sheet_words.specs.Bytes.{Got, got, fault, fixed, word_line, list_line_lem}
use Rattle.sheet_lines.specs.Lines.{Counts, sampler_line_lem, second_line_lem, Through, through, stopped, line, head_lines_lem, Lists, list_lines_lem, Sheet, headed, with_lists, sheet_lines}
use Rattle.sheet.specs.Whole.{refused, alone, parse_in, parse, most64}
use Rattle.sheet.specs.Written.{sampler_text, list_line_text, line_texts, in_front, none, Held, RightHead, RightIn, Right, Starts}
use Rattle.sheet_lines.specs.declared.Sampler.{Sampler}
use Rattle.sheet_lines.specs.declared.Sampler.TheVariants.{Gamma}
use Rattle.sheet_lines.specs.declared.Head.{Head}
use Rattle.sheet_words.specs.declared.Fault.{Fault}
use Rattle.sheet_words.proofs.Hex.{fixed_back, fixed_is}
use Rattle.sheet.proofs.ReadBack.{sampler_back, sampler_is, word_line_back, word_line_is, list_back, list_is, head_text, head_back, head_is, front_back, front_is}

-- ---- where reading stops, if it does, is past line n

abbrev Past : {A : Type 0} → ℕ → Through A → Type 0
Past n (through a b) = Unit
Past n (stopped e i) = n < i

line_past : {A B : Type 0} (n i : ℕ) (g : Got A) (f : A → List ℕ → Through B) → n < i → ((v : A) (d : List ℕ) → Past n (f v d)) → Past n (line i g f)
line_past n i (got v d) f h k = k v d
line_past n i (fault e) f h k = h

headed_past : (n : ℕ) (h : Head) (g : Through Lists) → Past n g → Past n (headed h g)
headed_past n h (through l b) p = tt
headed_past n h (stopped e i) p = p

module _ (most : Counts) where
  lists_past : (n : ℕ) (b : List ℕ) → n < 5 → Past n (list_lines_lem most b)
  unfolding list_lines_lem
  lists_past n b h =
      line_past n 5 (list_line_lem uniforms_key most.uniforms b) _ h (λ us b5.
      line_past n 6 (list_line_lem normals_key most.normals b5) _ (omega arith) (λ ns b6.
      line_past n 7 (list_line_lem exponentials_key most.exponentials b6) _ (omega arith) (λ es b7. tt)))

  with_past : (n : ℕ) (g : Through Head) → n < 5 → Past n g → Past n (with_lists most g)
  with_past n (through h b) l p = headed_past n h (list_lines_lem most b) (lists_past n b l)
  with_past n (stopped e i) l p = p

  module _ (s : Sheet) (c : List ℕ) (r : RightIn most s) where
    reach_0 : Past 0 (sheet_lines most c)
    unfolding head_lines_lem
    reach_0 =
        with_past 0 (head_lines_lem c) (omega arith)
        (line_past 0 1 (fixed edition c) _ (omega arith) (λ _ b1.
        line_past 0 2 (sampler_line_lem b1) _ (omega arith) (λ k b2.
        line_past 0 3 (word_line a_key b2) _ (omega arith) (λ x b3.
        line_past 0 4 (second_line_lem k b3) _ (omega arith) (λ y b4. tt)))))

    reach_1 : Past 1 (sheet_lines most (edition ++ c))
    unfolding head_lines_lem
    reach_1 =
        with_past 1 (head_lines_lem (edition ++ c)) (omega arith)
        (rw (fixed_back edition c)
        (line_past 1 2 (sampler_line_lem c) _ (omega arith) (λ k b2.
        line_past 1 3 (word_line a_key b2) _ (omega arith) (λ x b3.
        line_past 1 4 (second_line_lem k b3) _ (omega arith) (λ y b4. tt)))))

    reach_2 : Past 2 (sheet_lines most (edition ++ (sampler_text s.head.sampler ++ c)))
    unfolding head_lines_lem
    reach_2 =
        let t2 = sampler_text s.head.sampler ++ c in
        with_past 2 (head_lines_lem (edition ++ t2)) (omega arith)
        (rw (fixed_back edition t2, sampler_back s.head.sampler c)
        (line_past 2 3 (word_line a_key c) _ (omega arith) (λ x b3.
        line_past 2 4 (second_line_lem s.head.sampler b3) _ (omega arith) (λ y b4. tt))))

    reach_3 : Past 3 (sheet_lines most (edition ++ (sampler_text s.head.sampler ++ (hex_line_lem a_key s.head.a ++ c))))
    unfolding head_lines_lem
    reach_3 =
        let t3 = hex_line_lem a_key s.head.a ++ c in
        let t2 = sampler_text s.head.sampler ++ t3 in
        with_past 3 (head_lines_lem (edition ++ t2)) (omega arith)
        (rw (fixed_back edition t2, sampler_back s.head.sampler t3, word_line_back a_key s.head.a c r.head.a_word)
        (line_past 3 4 (second_line_lem s.head.sampler c) _ (omega arith) (λ y b4. tt)))

    reach_4 : Past 4 (sheet_lines most (head_text s.head c))
    reach_4 = rw (head_back s.head c r.head) (headed_past 4 s.head (list_lines_lem most c) (lists_past 4 c (omega arith)))

    lists_5 : Past 5 (list_lines_lem most (list_line_text uniforms_key s.lists.uniforms ++ c))
    unfolding list_lines_lem
    lists_5 =
        rw (list_back uniforms_key most.uniforms s.lists.uniforms c r.uniforms)
        (line_past 5 6 (list_line_lem normals_key most.normals c) _ (omega arith) (λ ns b6.
        line_past 5 7 (list_line_lem exponentials_key most.exponentials b6) _ (omega arith) (λ es b7. tt)))

    reach_5 : Past 5 (sheet_lines most (head_text s.head (list_line_text uniforms_key s.lists.uniforms ++ c)))
    reach_5 = let t5 = list_line_text uniforms_key s.lists.uniforms ++ c in rw (head_back s.head t5 r.head) (headed_past 5 s.head (list_lines_lem most t5) lists_5)

    lists_6 : Past 6 (list_lines_lem most (list_line_text uniforms_key s.lists.uniforms ++ (list_line_text normals_key s.lists.normals ++ c)))
    unfolding list_lines_lem
    lists_6 =
        rw (
          list_back uniforms_key most.uniforms s.lists.uniforms (list_line_text normals_key s.lists.normals ++ c) r.uniforms,
          list_back normals_key most.normals s.lists.normals c r.normals,
        )
        (line_past 6 7 (list_line_lem exponentials_key most.exponentials c) _ (omega arith) (λ es b7. tt))

    reach_6 : Past 6 (sheet_lines most (head_text s.head (list_line_text uniforms_key s.lists.uniforms ++ (list_line_text normals_key s.lists.normals ++ c))))
    reach_6 =
        let t5 = list_line_text uniforms_key s.lists.uniforms ++ (list_line_text normals_key s.lists.normals ++ c) in
        rw (head_back s.head t5 r.head) (headed_past 6 s.head (list_lines_lem most t5) lists_6)

    reach_all : (n : ℕ) → Past n (sheet_lines most (in_front (line_texts s) c))
    reach_all n = subst (Past n) (sym (front_back most s c r)) tt

    reaches : (n : ℕ) → Past n (sheet_lines most (in_front (take n (line_texts s)) c))
    reaches zero = reach_0
    reaches (suc zero) = reach_1
    reaches (suc (suc zero)) = reach_2
    reaches (suc (suc (suc zero))) = reach_3
    reaches (suc (suc (suc (suc zero)))) = reach_4
    reaches (suc (suc (suc (suc (suc zero))))) = reach_5
    reaches (suc (suc (suc (suc (suc (suc zero)))))) = reach_6
    reaches (suc (suc (suc (suc (suc (suc (suc zero))))))) = reach_all 7
    reaches (suc (suc (suc (suc (suc (suc (suc (suc n)))))))) = reach_all (suc (suc (suc (suc (suc (suc (suc (suc n))))))))

  -- no right sheet has the line at which reading stops
  never : (b : List ℕ) {e : Fault} {n : ℕ} → sheet_lines most b ≡ stopped e n → Starts most n b → ⊥
  never b {e} {n} h s =
      let p : Past n (sheet_lines most b) = subst (λ (z : List ℕ). Past n (sheet_lines most z)) (sym s.text_is) (reaches s.sheet s.rest s.right n) in
      let q : n < n = subst (Past n) h p in omega arith

-- ---- the lines before it are some right sheet's

stop : {A B P : Type 0} (i : ℕ) (g : Got A) (f : A → List ℕ → Through B) {e : Fault} {m : ℕ} → line i g f ≡ stopped e m
    → (g ≡ fault e → m ≡ i → P) → ((v : A) (d : List ℕ) → g ≡ got v d → f v d ≡ stopped e m → P) → P
stop i (got v d) f h here later = later v d refl h
stop i (fault x) f h here later = here (cc) (cc)

-- reading stops at line n, of 1 to 7, and the lines before n are right
record Before (most : Counts) (b : List ℕ) (n : ℕ) : Type 0 where
  starts : Starts most (n - 1) b
  within : (1 ≤ n) × (n ≤ 7)

-- a sheet whose last list is empty
abbrev blank : Head → List ℕ → List ℕ → Sheet
blank h us ns = record { head = h; lists = record { uniforms = us; normals = ns; exponentials = [] } }

abbrev headed_by : Sampler → ℕ → ℕ → Head
headed_by k x y = record { sampler = k; a = x; b = y }

no_list : (most : ℕ) → Held most []
no_list most = record { few = omega arith; words = none }

module _ (most : Counts) (b : List ℕ) where
  before : (n : ℕ) {m : ℕ} (h : Head) (us ns : List ℕ) → RightHead h → Held most.uniforms us → Held most.normals ns → (1 ≤ n) × (n ≤ 7)
      → (rest : List ℕ) → b ≡ in_front (take (n - 1) (line_texts (blank h us ns))) rest → m ≡ n → Before most b m
  before n h us ns r u v w rest t e =
      subst (Before most b) (sym e)
      (record {
        starts = record {
          sheet = blank h us ns;
          right = record { head = r; uniforms = u; normals = v; exponentials = no_list most.exponentials };
          rest = rest;
          text_is = t;
        };
        within = w;
      })

  in_head : (n : ℕ) {m : ℕ} (k : Sampler) (x : ℕ) → x < 2 ^ 64 → (1 ≤ n) × (n ≤ 7) → (rest : List ℕ)
      → b ≡ in_front (take (n - 1) (line_texts (blank (headed_by k x 0) [] []))) rest → m ≡ n → Before most b m
  in_head n k x p w =
      before n (headed_by k x 0) [] [] (record { a_word = p; b_word = omega arith; b_zeros_lem = λ _. refl }) (no_list most.uniforms) (no_list most.normals) w

  head_stops : {e : Fault} {m : ℕ} → head_lines_lem b ≡ stopped e m → Before most b m
  unfolding head_lines_lem
  head_stops i =
      stop 1 (fixed edition b) _ i (λ j. in_head 1 Gamma 0 (omega arith) (omega arith, omega arith) b refl) (λ u r1 h1 i1.
      let t1 = fixed_is edition b h1 in
      stop 2 (sampler_line_lem r1) _ i1 (λ j. in_head 2 Gamma 0 (omega arith) (omega arith, omega arith) r1 t1) (λ k r2 h2 i2.
      let t2 : b ≡ edition ++ (sampler_text k ++ r2) = t1 ∙ ap (λ (z : List ℕ). edition ++ z) (sampler_is r1 h2) in
      stop 3 (word_line a_key r2) _ i2 (λ j. in_head 3 k 0 (omega arith) (omega arith, omega arith) r2 t2) (λ x r3 h3 i3.
      let w = word_line_is a_key r2 h3 in
      let t3 : b ≡ edition ++ (sampler_text k ++ (hex_line_lem a_key x ++ r3)) = t2 ∙ ap (λ (z : List ℕ). edition ++ (sampler_text k ++ z)) w.1 in
      stop 4 (second_line_lem k r3) _ i3 (λ j. in_head 4 k x w.0 (omega arith, omega arith) r3 t3)
      (λ y r4 h4 i4. absurd (cc)))))

  lists_stop : (h : Head) (d : List ℕ) {e : Fault} {m : ℕ} → head_lines_lem b ≡ through h d → list_lines_lem most d ≡ stopped e m → Before most b m
  unfolding list_lines_lem
  lists_stop h d g i =
      let q = head_is b g in
      let none-5 = no_list most.uniforms in
      let none-6 = no_list most.normals in
      stop 5 (list_line_lem uniforms_key most.uniforms d) _ i (λ j. before 5 h [] [] q.1 none-5 none-6 (omega arith, omega arith) d q.0) (λ us r5 h5 i5.
      let u = list_is uniforms_key most.uniforms d h5 in
      let t5 : b ≡ head_text h (list_line_text uniforms_key us ++ r5) = q.0 ∙ ap (head_text h) u.0 in
      stop 6 (list_line_lem normals_key most.normals r5) _ i5 (λ j. before 6 h us [] q.1 u.1 none-6 (omega arith, omega arith) r5 t5) (λ ns r6 h6 i6.
      let v = list_is normals_key most.normals r5 h6 in
      let t6 : b ≡ head_text h (list_line_text uniforms_key us ++ (list_line_text normals_key ns ++ r6)) = t5 ∙ ap (λ (z : List ℕ). head_text h (list_line_text uniforms_key us ++ z)) v.0 in
      stop 7 (list_line_lem exponentials_key most.exponentials r6) _ i6 (λ j. before 7 h us ns q.1 u.1 v.1 (omega arith, omega arith) r6 t6)
      (λ es r7 h7 i7. absurd (cc))))

  headed_stops : (h : Head) (g : Through Lists) {e : Fault} {m : ℕ} → headed h g ≡ stopped e m → g ≡ stopped e m
  headed_stops h (through l d) i = absurd (cc)
  headed_stops h (stopped x n) i = cc

  front_stops : (g : Through Head) {e : Fault} {m : ℕ} → head_lines_lem b ≡ g → with_lists most g ≡ stopped e m → Before most b m
  front_stops (stopped x n) {e} {m} g i = let j : head_lines_lem b ≡ stopped e m = cc in head_stops j
  front_stops (through h d) g i = lists_stop h d g (headed_stops h (list_lines_lem most d) i)

-- ---- the theorem

-- line n is the first wrong one of b
pub record FirstWrongLine (most : Counts) (b : List ℕ) (n : ℕ) : Type 0 where
  pub starts : Starts most (n - 1) b
  pub wrong : Starts most n b → ⊥
  pub within : (1 ≤ n) × (n ≤ 7)

-- of the sheet at the front of bytes, a stream's included
pub front_wrong : (most : Counts) (b : List ℕ) {e : Fault} {n : ℕ} → sheet_lines most b ≡ stopped e n → FirstWrongLine most b n
front_wrong most b h =
    let f = front_stops most b (head_lines_lem b) refl h in
    record { starts = f.starts; wrong = never most b h; within = f.within }

-- what a line that `parse` names says of b, one case for each kind of refusal
pub data Refused (b : List ℕ) : ℕ → Type 0 where
  too_long : 4096 < length b → Refused b 0
  wrong_at : (n : ℕ) → length b ≤ 4096 → FirstWrongLine most64 b n → Refused b n
  more : (s : Sheet) (x : ℕ) (c : List ℕ) → length b ≤ 4096 → Right s → b ≡ in_front (line_texts s) (x ∷ c) → Refused b 8

alone_refused : (b : List ℕ) (g : Through Sheet) (n : ℕ) → length b ≤ 4096 → sheet_lines most64 b ≡ g → alone g ≡ refused n → Refused b n
alone_refused b (through s []) n l i e = absurd (cc)
alone_refused b (through s (x ∷ c)) n l i e =
    let k = front_is most64 b i in
    let m : 8 ≡ n = cc in
    subst (Refused b) m (more s x c l k.1 k.0)
alone_refused b (stopped f m) n l i e =
    let k : m ≡ n = cc in
    subst (Refused b) k (wrong_at m l (front_wrong most64 b i))

by_size : (t : Bool) (b : List ℕ) (n : ℕ) → ltb 4096 (length b) ≡ t → cond t (refused 0) (alone (sheet_lines most64 b)) ≡ refused n → Refused b n
by_size true b n t e = let m : 0 ≡ n = cc in subst (Refused b) m (too_long (ltb-true 4096 (length b) t))
by_size false b n t e = alone_refused b (sheet_lines most64 b) n (ltb-false 4096 (length b) t) refl e

pub refused_is : (b : List ℕ) (n : ℕ) → parse b ≡ refused n → Refused b n
unfolding parse_in
refused_is b n e = by_size (ltb 4096 (length b)) b n refl e

wrong_line : {b : List ℕ} {n : ℕ} → Refused b n → 1 ≤ n → n ≤ 7 → FirstWrongLine most64 b n
wrong_line (too_long l) p q = absurd (omega arith)
wrong_line (wrong_at n l f) p q = f
wrong_line (more s x c l r t) p q = absurd (omega arith)

-- 'The first wrong line is named'
pub first_wrong : (b : List ℕ) (n : ℕ) → parse b ≡ refused n → 1 ≤ n → n ≤ 7 → FirstWrongLine most64 b n
first_wrong b n e p q = wrong_line (refused_is b n e) p q
