-- Any two outcomes that the promise of `front` allows coincide, and so do any two of `read`. A cell is what it is by an equation. An answer's
-- case and head are what the bytes show; a count is the length of the first cells that it shows, since it is within its buffer, and a
-- position, within the bytes, is settled by what is left past it. Assumes nothing.
use Prim.Native.Nat.{ℕ, ◌≤◌}
use native.Mathlib.Omega.{arith}
use mathlib.Core.Path.{◌≡◌, sym, ap, ◌∙◌}
use mathlib.Core.List.{List}
use lib.ListN.{length, take, drop, length-append, length-drop}
use lib.Seq.{length-take-le}
use Rattle.std.specs.Prelude.{Ok, Err}
use Rattle.sheet_lines.specs.Lines.{Counts, Through, through, stopped, Lists, Sheet, sheet_lines}
use Rattle.sheet.specs.Whole.{Parsed, right, refused, parse_in}
use Rattle.sheet.specs.Shown.{AtFront, SheetRead, rooms, firsts, over, cells, whole_cells, Few, front_shown, FrontIn, read_shown, ReadIn, Fronts, Reads}
use Rattle.sheet_words.proofs.OneOutcome.{one_place}

-- ---- a buffer is not shorter afterwards

over_long : (ws o : List ℕ) → length o ≤ length (over ws o)
over_long ws o = omega (arith, length-append ws (drop (length ws) o), length-drop (length ws) o)

cells_long : (list : Lists → List ℕ) (o : List ℕ) (t : Through Sheet) → length o ≤ length (cells list o t)
cells_long list o (through s b) = over_long (list s.lists) o
cells_long list o (stopped e i) = omega arith

whole_long : (list : Lists → List ℕ) (o : List ℕ) (p : Parsed) → length o ≤ length (whole_cells list o p)
whole_long list o (right s) = over_long (list s.lists) o
whole_long list o (refused i) = omega arith

-- ---- counts by the first cells

one_count : (o : List ℕ) (most k k' : ℕ) → most ≤ length o → k ≤ most → k' ≤ most → take k o ≡ take k' o → k ≡ k'
one_count o most k k' r h h' e = sym (length-take-le k o (omega arith)) ∙ ap length e ∙ length-take-le k' o (omega arith)

-- ---- the answer, where the buffers have room for as many as was asked

module _ (us ns es : List ℕ) {most : Counts} (room : Few (rooms us ns es) most) where
  one_counts : {c c' : Counts} → Few most c → Few most c' → firsts us ns es c ≡ firsts us ns es c' → c ≡ c'
  one_counts {c} {c'} k k' e =
      let u = one_count us most.uniforms c.uniforms c'.uniforms room.uniforms k.uniforms k'.uniforms (ap (λ (x : Lists). x.uniforms) e) in
      let n = one_count ns most.normals c.normals c'.normals room.normals k.normals k'.normals (ap (λ (x : Lists). x.normals) e) in
      let x = one_count es most.exponentials c.exponentials c'.exponentials room.exponentials k.exponentials k'.exponentials (ap (λ (x : Lists). x.exponentials) e) in
      let same : record { uniforms = c.uniforms; normals = c.normals; exponentials = c.exponentials } ≡ c' = rw (u, n, x) in
      same

  front_answer : (l : List ℕ) (r r' : AtFront) → FrontIn l most r → FrontIn l most r' → front_shown l us ns es r ≡ front_shown l us ns es r' → r ≡ r'
  front_answer l (Ok (h, c, n)) (Ok (h', c', n')) (k, w) (k', w') e =
      let s : ◌≡◌ {A = Sheet} (record { head = h; lists = firsts us ns es c }) (record { head = h'; lists = firsts us ns es c' }) = cc in
      let b : drop n l ≡ drop n' l = cc in
      let g = ap (λ (x : Sheet). x.head) s in
      let d = one_counts k k' (ap (λ (x : Sheet). x.lists) s) in
      let m = one_place l w w' b in
      rw (g, d, m)
  front_answer l (Ok (h, c, n)) (Err f) k k' e = absurd (cc)
  front_answer l (Err f) (Ok (h, c, n)) k k' e = absurd (cc)
  front_answer l (Err f) (Err f') k k' e =
      let fault : f.fault ≡ f'.fault = cc in
      let line : f.line ≡ f'.line = cc in
      let same : record { fault = f.fault; line = f.line } ≡ f' = rw (fault, line) in
      ap Err same

  read_answer : (r r' : SheetRead) → ReadIn most r → ReadIn most r' → read_shown us ns es r ≡ read_shown us ns es r' → r ≡ r'
  read_answer (Ok (h, c)) (Ok (h', c')) k k' e =
      let s : ◌≡◌ {A = Sheet} (record { head = h; lists = firsts us ns es c }) (record { head = h'; lists = firsts us ns es c' }) = cc in
      rw (ap (λ (x : Sheet). x.head) s, one_counts k k' (ap (λ (x : Sheet). x.lists) s))
  read_answer (Ok (h, c)) (Err i) k k' e = absurd (cc)
  read_answer (Err i) (Ok (h, c)) k k' e = absurd (cc)
  read_answer (Err i) (Err i') k k' e = cc

-- ---- what `front` and `read` promise of the bytes l and the buffers us, ns, es

module _ {l us ns es us' ns' es' : List ℕ} where
  front_room : {r : AtFront} → Fronts l us ns es r us' ns' es' → Few (rooms us' ns' es') (rooms us ns es)
  front_room f =
      record {
        uniforms = rw f.uniforms (cells_long (λ x. x.uniforms) us (sheet_lines (rooms us ns es) l));
        normals = rw f.normals (cells_long (λ x. x.normals) ns (sheet_lines (rooms us ns es) l));
        exponentials = rw f.exponentials (cells_long (λ x. x.exponentials) es (sheet_lines (rooms us ns es) l));
      }

  read_room : {r : SheetRead} → Reads l us ns es r us' ns' es' → Few (rooms us' ns' es') (rooms us ns es)
  read_room f =
      record {
        uniforms = rw f.uniforms (whole_long (λ x. x.uniforms) us (parse_in (rooms us ns es) l));
        normals = rw f.normals (whole_long (λ x. x.normals) ns (parse_in (rooms us ns es) l));
        exponentials = rw f.exponentials (whole_long (λ x. x.exponentials) es (parse_in (rooms us ns es) l));
      }

  module _ {us'' ns'' es'' : List ℕ} where
    pub one_front : {r r' : AtFront} → Fronts l us ns es r us' ns' es' → Fronts l us ns es r' us'' ns'' es'' → (r ≡ r') × (us' ≡ us'') × (ns' ≡ ns'') × (es' ≡ es'')
    one_front {r} {r'} f g =
        let u = f.uniforms ∙ sym g.uniforms in
        let n = f.normals ∙ sym g.normals in
        let x = f.exponentials ∙ sym g.exponentials in
        let shown : front_shown l us' ns' es' r' ≡ sheet_lines (rooms us ns es) l = rw (u, n, x) g.answer in
        (front_answer us' ns' es' (front_room f) l r r' f.within g.within (f.answer ∙ sym shown), u, n, x)

    pub one_read : {r r' : SheetRead} → Reads l us ns es r us' ns' es' → Reads l us ns es r' us'' ns'' es'' → (r ≡ r') × (us' ≡ us'') × (ns' ≡ ns'') × (es' ≡ es'')
    one_read {r} {r'} f g =
        let u = f.uniforms ∙ sym g.uniforms in
        let n = f.normals ∙ sym g.normals in
        let x = f.exponentials ∙ sym g.exponentials in
        let shown : read_shown us' ns' es' r' ≡ parse_in (rooms us ns es) l = rw (u, n, x) g.answer in
        (read_answer us' ns' es' (read_room f) r r' f.within g.within (f.answer ∙ sym shown), u, n, x)
