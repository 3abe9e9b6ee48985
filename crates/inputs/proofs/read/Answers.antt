-- A turn stores what the reader gave behind what was stored before it.
use Rattle.std.proofs.Common.{◌≡◌, ℕ, ◌+◌, ◌≤◌, List, ◌++◌, length, take, drop, ap, ◌∙◌, sym, subst, rules, le_refl, drop_at, length-take-le}
use Rattle.std.proofs.Math.Seq.{take-add}
use Rattle.std.proofs.lemmas.List.{take-append-le}
use Rattle.std.proofs.lemmas.Slice.{take-put_mid_below}
use Rattle.std.proofs.KnownBytes.{Consumes-trans}
use Rattle.std.specs.Io.KnownBytes.{Consumes}
use borrow.Rule.Slice.PartMut.{put_mid, post_of}
use Rattle.inputs.proofs.read.Goals as goal

stored : (a k n : ℕ) (xs ys : List ℕ) → a ≤ length xs → n ≤ length ys → take (a + n) (put_mid a k xs ys) ≡ take a xs ++ take n ys
stored a k n xs ys within fits =
    let new = put_mid a k xs ys in
    let rest = post_of a k xs in
    take-add a n new ∙ ap (λ l. l ++ take n (drop a new)) (take-put_mid_below a k xs ys a (le_refl a) within)
    ∙ ap (λ l. take a xs ++ take n l) (drop_at (take a xs) (ys ++ rest) a (length-take-le a xs within)) ∙ ap (λ l. take a xs ++ l) (take-append-le n ys rest fits)

pub loop-count-preserved : goal.loop-count-preserved
loop-count-preserved g c =
    let before = c.loop-count.invariant in
    let read = c.in_ok-more.ensures in
    let taken = subst (Consumes _ _) (sym (stored _ _ _ _ _ before.within read.bound.0)) (Consumes-trans _ _ _ _ _ before.taken read.bytes.0) in
    record { within = search rules; taken = taken }
