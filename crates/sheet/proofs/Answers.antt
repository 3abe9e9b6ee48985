-- From a scan to the answers of `front` and `read`: a scan that stops leaves the buffers alone, and one that doesn't has its lists stored, so
-- that the first cells of each buffer are the list. Assumes nothing.
use Prim.Native.Nat.{ℕ, ◌≤◌, ◌<◌}
use mathlib.Core.Path.{◌≡◌, sym, ap, ◌∙◌, subst}
use mathlib.Core.List.{List}
use lib.ListN.{length, take, drop, drop_of_length-le}
use lib.Seq.{take_at}
use borrow.Author.Tests.{lt-ltb, le-ltb}
use Rattle.std.specs.Prelude.{Ok, Err}
use Rattle.sheet_lines.specs.Lines.{Counts, through, stopped, Lists, sheet_lines}
use Rattle.sheet.specs.Whole.{refused, right, alone, parse_in}
use Rattle.sheet.specs.Shown.{rooms, firsts, over, cells, whole_cells, Few, Fronts, Reads, AtFront, SheetRead}
use Rattle.sheet_lines.specs.Inner.{Spans, spans_shown, SpansIn}
use Rattle.sheet.specs.Inner.{span_counts, Stores}
use Rattle.sheet_lines.specs.declared.Head.{Head}
use Rattle.sheet_words.specs.declared.Fault.{Fault}
use Rattle.sheet_words.proofs.AtPosition.{byte_at}

-- what the two public functions promise of a case of their answer, for a caller that matches on it
pub front_case : {l us ns es us' ns' es' : List ℕ} {r r' : AtFront} → Fronts l us ns es r us' ns' es' → r ≡ r' → Fronts l us ns es r' us' ns' es'
front_case {l} {us} {ns} {es} {us'} {ns'} {es'} h e = subst (λ r. Fronts l us ns es r us' ns' es') e h

pub read_case : {l us ns es us' ns' es' : List ℕ} {r r' : SheetRead} → Reads l us ns es r us' ns' es' → r ≡ r' → Reads l us ns es r' us' ns' es'
read_case {l} {us} {ns} {es} {us'} {ns'} {es'} h e = subst (λ r. Reads l us ns es r us' ns' es') e h

first_words : (ws o : List ℕ) {k : ℕ} {o' : List ℕ} → o' ≡ over ws o → length ws ≡ k → take k o' ≡ ws
first_words ws o {k} e h = ap (take k) e ∙ take_at ws (drop (length ws) o) k h

module _ (l us ns es : List ℕ) where
  pub front_stopped : {f : Fault} {i : ℕ} → sheet_lines (rooms us ns es) l ≡ stopped f i → Fronts l us ns es (Err (record { fault = f; line = i })) us ns es
  front_stopped e =
      record {
        answer = sym e;
        within = tt;
        uniforms = sym (ap (cells (λ x. x.uniforms) us) e);
        normals = sym (ap (cells (λ x. x.normals) ns) e);
        exponentials = sym (ap (cells (λ x. x.exponentials) es) e);
      }

  pub read_refused : {i : ℕ} → parse_in (rooms us ns es) l ≡ refused i → Reads l us ns es (Err i) us ns es
  read_refused e =
      record {
        answer = sym e;
        within = tt;
        uniforms = sym (ap (whole_cells (λ x. x.uniforms) us) e);
        normals = sym (ap (whole_cells (λ x. x.normals) ns) e);
        exponentials = sym (ap (whole_cells (λ x. x.exponentials) es) e);
      }

  module _ {p : Spans} {n : ℕ} (k : SpansIn l (rooms us ns es) p n) where
    few : {c : Counts} → c ≡ span_counts p → Few (rooms us ns es) c
    few e = rw e (record { uniforms = k.uniforms.few; normals = k.normals.few; exponentials = k.exponentials.few })

    firsts_are : {c : Counts} {us' ns' es' : List ℕ} → Stores l us ns es p c us' ns' es' → firsts us' ns' es' c ≡ spans_shown l p
    firsts_are {c} {us'} {ns'} {es'} s =
        let u : take p.uniforms.count us' ≡ (spans_shown l p).uniforms = first_words _ us s.uniforms k.uniforms.count_is in
        let v : take p.normals.count ns' ≡ (spans_shown l p).normals = first_words _ ns s.normals k.normals.count_is in
        let w : take p.exponentials.count es' ≡ (spans_shown l p).exponentials = first_words _ es s.exponentials k.exponentials.count_is in
        rw (s.counts, u, v, w)

    pub front_through : (h : Head) {c : Counts} {us' ns' es' : List ℕ} → sheet_lines (rooms us ns es) l ≡ through (record { head = h; lists = spans_shown l p }) (drop n l)
        → Stores l us ns es p c us' ns' es' → Fronts l us ns es (Ok (h, c, n)) us' ns' es'
    front_through h {c} e s =
        record {
          answer = ap (λ (x : Lists). through (record { head = h; lists = x }) (drop n l)) (firsts_are s) ∙ sym e;
          within = (few s.counts, k.within);
          uniforms = s.uniforms ∙ sym (ap (cells (λ x. x.uniforms) us) e);
          normals = s.normals ∙ sym (ap (cells (λ x. x.normals) ns) e);
          exponentials = s.exponentials ∙ sym (ap (cells (λ x. x.exponentials) es) e);
        }

    pub read_right : (h : Head) {c : Counts} {us' ns' es' : List ℕ} → parse_in (rooms us ns es) l ≡ right (record { head = h; lists = spans_shown l p })
        → Stores l us ns es p c us' ns' es' → Reads l us ns es (Ok (h, c)) us' ns' es'
    read_right h {c} e s =
        record {
          answer = ap (λ (x : Lists). right (record { head = h; lists = x })) (firsts_are s) ∙ sym e;
          within = few s.counts;
          uniforms = s.uniforms ∙ sym (ap (whole_cells (λ x. x.uniforms) us) e);
          normals = s.normals ∙ sym (ap (whole_cells (λ x. x.normals) ns) e);
          exponentials = s.exponentials ∙ sym (ap (whole_cells (λ x. x.exponentials) es) e);
        }

-- ---- the whole of l, from what stands at its front

module _ (most : Counts) (l : List ℕ) where
  pub parse_long : 4096 < length l → parse_in most l ≡ refused 0
  unfolding parse_in
  parse_long h = rw (lt-ltb 4096 (length l) h)

  pub parse_short : length l ≤ 4096 → parse_in most l ≡ alone (sheet_lines most l)
  unfolding parse_in
  parse_short h = rw (le-ltb 4096 (length l) h)

  pub parse_stopped : {f : Fault} {i : ℕ} → length l ≤ 4096 → sheet_lines most l ≡ stopped f i → parse_in most l ≡ refused i
  parse_stopped h e = parse_short h ∙ ap alone e

  pub parse_more : (n : ℕ) {h : Head} {x : Lists} → length l ≤ 4096 → sheet_lines most l ≡ through (record { head = h; lists = x }) (drop n l) → n < length l → parse_in most l ≡ refused 8
  parse_more n {h} {x} s e m = parse_short s ∙ ap alone (e ∙ ap (through (record { head = h; lists = x })) (byte_at l n m))

  pub parse_right : (n : ℕ) {h : Head} {x : Lists} → length l ≤ 4096 → sheet_lines most l ≡ through (record { head = h; lists = x }) (drop n l) → length l ≤ n
      → parse_in most l ≡ right (record { head = h; lists = x })
  parse_right n {h} {x} s e m = parse_short s ∙ ap alone (e ∙ ap (through (record { head = h; lists = x })) (drop_of_length-le l m))
