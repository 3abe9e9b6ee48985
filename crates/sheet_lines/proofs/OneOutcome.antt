-- Any two outcomes that the promise of `scan` allows coincide. The head and the numbers of the lists are what the bytes show, and the bytes past
-- lines 4, 5 and 6 are what the rule leaves, so that each list begins past its key at one place. Assumes nothing.
use Prim.Native.Nat.{ℕ}
use mathlib.Core.Path.{◌≡◌, sym, ap, ◌∙◌}
use mathlib.Core.List.{List}
use lib.ListN.{drop}
use Rattle.std.specs.Prelude.{Result, Ok, Err}
use Rattle.sheet_words.specs.Bytes.{list_line_lem}
use Rattle.sheet_words.proofs.OneOutcome.{one_place, one_span}
use Rattle.sheet_lines.specs.Keys.{uniforms_key, normals_key, exponentials_key}
use Rattle.sheet_lines.specs.Lines.{Counts, through, Lists, Sheet, sheet_lines}
use Rattle.sheet_lines.specs.Inner.{Spans, spans_shown, SpansIn, Placed, scanned_shown, ScannedIn}
use Rattle.sheet_lines.specs.declared.{Head.Head, WrongLine.WrongLine}

module _ (l : List ℕ) (most : Counts) where
  one_spans : {b b' : List ℕ} {p p' : Spans} {n n' : ℕ} → b ≡ b' → SpansIn l most p n → SpansIn l most p' n' → Placed l most b p → Placed l most b' p' → spans_shown l p ≡ spans_shown l p' → p ≡ p'
  one_spans {b} {b'} {p} {p'} e s s' k k' w =
      let five = sym k.five ∙ ap (list_line_lem uniforms_key most.uniforms) e ∙ k'.five in
      let e5 : k.b5 ≡ k'.b5 = cc in
      let six = sym k.six ∙ ap (list_line_lem normals_key most.normals) e5 ∙ k'.six in
      let e6 : k.b6 ≡ k'.b6 = cc in
      let u = one_span l uniforms_key e k.uniforms k'.uniforms s.uniforms s'.uniforms (ap (λ (x : Lists). x.uniforms) w) in
      let v = one_span l normals_key e5 k.normals k'.normals s.normals s'.normals (ap (λ (x : Lists). x.normals) w) in
      let x = one_span l exponentials_key e6 k.exponentials k'.exponentials s.exponentials s'.exponentials (ap (λ (x : Lists). x.exponentials) w) in
      let same : record { uniforms = p.uniforms; normals = p.normals; exponentials = p.exponentials } ≡ p' = rw (u, v, x) in
      same

  one_shown : (r r' : Result (Head × Spans × ℕ) WrongLine) → ScannedIn l most r → ScannedIn l most r' → scanned_shown l r ≡ scanned_shown l r' → r ≡ r'
  one_shown (Ok (h, p, n)) (Ok (h', p', n')) k k' e =
      let sheet : ◌≡◌ {A = Sheet} (record { head = h; lists = spans_shown l p }) (record { head = h'; lists = spans_shown l p' }) = cc in
      let left : drop n l ≡ drop n' l = cc in
      let four : through h k.b4 ≡ through h' k'.b4 = sym k.four ∙ k'.four in
      let e4 : k.b4 ≡ k'.b4 = cc in
      rw (
        ap (λ (x : Sheet). x.head) sheet,
        one_spans e4 k.spans k'.spans k.placed k'.placed (ap (λ (x : Sheet). x.lists) sheet),
        one_place l k.spans.within k'.spans.within left,
      )
  one_shown (Ok (h, p, n)) (Err f) k k' e = absurd (cc)
  one_shown (Err f) (Ok (h, p, n)) k k' e = absurd (cc)
  one_shown (Err f) (Err f') k k' e =
      let fault : f.fault ≡ f'.fault = cc in
      let line : f.line ≡ f'.line = cc in
      let same : record { fault = f.fault; line = f.line } ≡ f' = rw (fault, line) in
      ap Err same

  pub one_scan : (r r' : Result (Head × Spans × ℕ) WrongLine) → scanned_shown l r ≡ sheet_lines most l → ScannedIn l most r → scanned_shown l r' ≡ sheet_lines most l → ScannedIn l most r' → r ≡ r'
  one_scan r r' e k e' k' = one_shown r r' k k' (e ∙ sym e')
