-- One report is printed for a lattice, its known blocks and a seal.
use Rattle.std.proofs.Common.{◌≡◌, ◌+◌, List, [], ◌∷◌, map, Bool, refl, sym, ◌∙◌, ap, subst}
use Rattle.std.specs.Prelude.{All, count_by}
use Rattle.std.proofs.lemmas.List.Elements.{All-head, All-tail}
use Rattle.aea_lattice.specs.declared.blocks.BlockId.{BlockId}
use Rattle.aea_lattice.specs.declared.grid.Lattice.{Lattice}
use Rattle.aea_lattice.specs.Blocks.{HasBlock}
use Rattle.aea_lattice.specs.Closure.{IsReached}
use Rattle.aea_lattice.specs.Data.{Determines}
use Rattle.aea_lattice.specs.LeastWord.{IsWord, WordsAreOne}
use Rattle.aea_lattice.specs.Facts.{BlocksAreInside, ReachedAreDetermined}
use Rattle.aea_report.specs.declared.head.Head.{Head}
use Rattle.aea_report.specs.declared.line.Line.{Line}
use Rattle.aea_report.specs.declared.line.Line.TheVariants.{Peeled, Solved, Lost}
use Rattle.aea_report.specs.Format.{block_in}
use Rattle.aea_report.specs.Fits.{is_peeled, is_solved, is_lost}
use Rattle.aea_report.specs.Printed.{IsLineOf}
use Rattle.aea_report.specs.Laws.{PrintedAreOne}
use Rattle.aea_report.proofs.PrintedFits.{lines-inside}

-- two lines of one block that each are right are the same
one_line : ReachedAreDetermined → WordsAreOne → (l : Lattice) (known : BlockId → Bool) (x y : Line) → HasBlock l (block_in x) → block_in x ≡ block_in y
    → IsLineOf l known x → IsLineOf l known y → x ≡ y
one_line determined one l known (Peeled a) (Peeled b) has e p q = ap Peeled e
one_line determined one l known (Peeled a) (Solved b) has e p q = absurd (q.1 (subst (IsReached l known) e p))
one_line determined one l known (Peeled a) (Lost b nodes) has e p q = absurd (q.0 (subst (Determines l known) e (determined l known a has p)))
one_line determined one l known (Solved a) (Peeled b) has e p q = absurd (p.1 (subst (IsReached l known) (sym e) q))
one_line determined one l known (Solved a) (Solved b) has e p q = ap Solved e
one_line determined one l known (Solved a) (Lost b nodes) has e p q = absurd (q.0 (subst (Determines l known) e p.0))
one_line determined one l known (Lost a nodes) (Peeled b) has e p q =
    absurd (p.0 (determined l known a has (subst (IsReached l known) (sym e) q)))
one_line determined one l known (Lost a nodes) (Solved b) has e p q = absurd (p.0 (subst (Determines l known) (sym e) q.0))
one_line determined one l known (Lost a nodes) (Lost b others) has e p q =
    let word : IsWord l known a others = subst (λ c. IsWord l known c others) (sym e) q.1 in
    ap (λ ns. Lost a ns) (one l known a nodes others p.1 word) ∙ ap (λ c. Lost c others) e

-- and two lists of them
one_list : ReachedAreDetermined → WordsAreOne → (l : Lattice) (known : BlockId → Bool) (xs ys : List Line) → All (λ x. HasBlock l (block_in x)) xs → map block_in xs ≡ map block_in ys
    → All (IsLineOf l known) xs → All (IsLineOf l known) ys → xs ≡ ys
one_list determined one l known [] [] has e p q = refl
one_list determined one l known [] (y ∷ ys) has e p q = let h : [] ≡ block_in y ∷ map block_in ys = e in absurd cc
one_list determined one l known (x ∷ xs) [] has e p q = let h : block_in x ∷ map block_in xs ≡ [] = e in absurd cc
one_list determined one l known (x ∷ xs) (y ∷ ys) has e p q =
    let h : block_in x ∷ map block_in xs ≡ block_in y ∷ map block_in ys = e in
    let first : block_in x ≡ block_in y = cc in
    let rest : map block_in xs ≡ map block_in ys = cc in
    let P : Line → Type 0 = λ z. HasBlock l (block_in z) in
    ap (λ z. z ∷ xs) (one_line determined one l known x y (All-head P x xs has) first (All-head (IsLineOf l known) x xs p) (All-head (IsLineOf l known) y ys q))
    ∙ ap (λ zs. y ∷ zs) (one_list determined one l known xs ys (All-tail P x xs has) rest (All-tail (IsLineOf l known) x xs p) (All-tail (IsLineOf l known) y ys q))

-- two heads with the same fields are one
head_equal : (h g : Head) → h.alpha ≡ g.alpha → h.s ≡ g.s → h.p ≡ g.p → h.n ≡ g.n → h.seal ≡ g.seal → h.damaged ≡ g.damaged → h.peeled ≡ g.peeled → h.solved ≡ g.solved → h.lost ≡ g.lost → h ≡ g
head_equal h g alpha s p n seal damaged peeled solved lost = λ i. record {
  alpha = alpha i;
  s = s i;
  p = p i;
  n = n i;
  seal = seal i;
  damaged = damaged i;
  peeled = peeled i;
  solved = solved i;
  lost = lost i;
}

-- one report is printed for a lattice, its known blocks and a seal
pub printed-one : BlocksAreInside → ReachedAreDetermined → WordsAreOne → PrintedAreOne
printed-one inside determined one l known seal h g lines others p q =
    let same : lines ≡ others =
    one_list determined one l known lines others (lines-inside inside l known lines p.blocks) (p.blocks ∙ sym q.blocks) p.each q.each in
    let a = p.counted in
    let b = q.counted in
    let peeled : h.peeled ≡ g.peeled = a.peeled ∙ ap (count_by is_peeled) same ∙ sym b.peeled in
    let solved : h.solved ≡ g.solved = a.solved ∙ ap (count_by is_solved) same ∙ sym b.solved in
    let lost : h.lost ≡ g.lost = a.lost ∙ ap (count_by is_lost) same ∙ sym b.lost in (
      head_equal h g (p.alpha ∙ sym q.alpha) (p.s ∙ sym q.s) (p.p ∙ sym q.p) (p.n ∙ sym q.n) (p.seal_is ∙ sym q.seal_is)
          (a.damaged ∙ ap (λ k. k + h.solved + h.lost) peeled ∙ ap (λ k. g.peeled + k + h.lost) solved ∙ ap (λ k. g.peeled + g.solved + k) lost ∙ sym b.damaged)
          peeled solved lost,
      same,
    )
