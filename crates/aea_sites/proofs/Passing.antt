-- One block more is marked that an equation forces, and the closure stays the same.
use Rattle.std.proofs.Common.{◌≡◌, List, [], ◌∷◌, Bool, true, ◌&&◌, set, inl, inr, refl, sym, ◌∙◌, subst, arith}
use Rattle.std.proofs.lemmas.Bool.{cases_Bool, and_from, and_parts, false≢true}
use Rattle.std.proofs.lemmas.List.{length-set}
use Rattle.aea_lattice.specs.declared.blocks.BlockId.{BlockId}
use Rattle.aea_lattice.specs.declared.blocks.EqId.{EqId}
use Rattle.aea_lattice.specs.declared.grid.Lattice.{Lattice}
use Rattle.aea_lattice.specs.Blocks.{HasBlock, number_of, same_block}
use Rattle.aea_lattice.specs.Equations.{is_in_equation}
use Rattle.aea_lattice.specs.Closure.{IsForcedBy, IsReached, IsDerivation, is_among}
use Rattle.aea_lattice.proofs.Equations.{same_block-equal, same_block-refl, member_inside}
use Rattle.aea_lattice.proofs.Derivations.{reached-known, reached-forced, among-first, among_cases}
use Rattle.aea_view.specs.Marked.{Marked, IsWhole, AreMarks, is_marked, unmarked}
use Rattle.aea_view.proofs.Marking.{Sets, mark_here, mark_other, one_marked}
use Rattle.aea_peel.specs.Plans.{AreReached}
use Rattle.aea_sites.specs.Passes.{AreBetween, GoesOn}

-- ---- what is forced by reached blocks of the lattice

-- a block that is forced by blocks of the lattice that are reached is reached
forced_reached : (l : Lattice) (known within : BlockId → Bool) (b : BlockId) (e : EqId)
    → ((d : BlockId) → HasBlock l d → within d ≡ true → IsReached l known d) → IsForcedBy l within b e → IsReached l known b
forced_reached l known within b e all forced =
    reached-forced l known (λ d. is_in_equation l e d && within d) b e
    (λ d both. let parts = and_parts (is_in_equation l e d) (within d) both in all d (member_inside l e d forced.equation parts.0) parts.1)
    (record {
      equation = forced.equation;
      contains = forced.contains;
      others = λ d member other. and_from (is_in_equation l e d) (within d) member (forced.others d member other);
    })

-- what is reached from blocks that are reached is reached
through : (l : Lattice) (known within : BlockId → Bool) → ((d : BlockId) → HasBlock l d → within d ≡ true → IsReached l known d)
    → (list : List BlockId) → IsDerivation l within list → (b : BlockId) → HasBlock l b → is_among list b ≡ true → IsReached l known b
through l known within all [] h b has k = absurd (false≢true k)
through l known within all (x ∷ xs) h b has k =
    elim (among_cases x xs b k) [
      | inl same ↦ elim h.1 [
        | inl in_set ↦ all b has (subst (λ d. within d ≡ true) (sym same) in_set)
        | inr given ↦
            subst (IsReached l known) (sym same)
            (forced_reached l known (is_among xs) x given.0 (λ d inside member. through l known within all xs h.0 d inside member) given.1)
      ]
      | inr rest ↦ through l known within all xs h.0 b has rest
    ]

-- ---- one mark more

pub goes_nowhere : (m : Marked) → IsWhole m → GoesOn m m
goes_nowhere m whole = record { same = refl; whole = whole; between = λ known between. between }

pub goes_further : (a b c : Marked) → GoesOn a b → GoesOn b c → GoesOn a c
goes_further a b c first then = record {
  same = then.same ∙ first.same;
  whole = then.whole;
  between = λ known between. then.between known (first.between known between);
}

one_more : (m n : Marked) (b : BlockId) (e : EqId) (known : BlockId → Bool) → Sets m n b true → IsForcedBy m.lattice (is_marked m) b e
    → AreBetween m known → (d : BlockId) → HasBlock m.lattice d → (known d ≡ true → is_marked n d ≡ true) × (is_marked n d ≡ true → IsReached m.lattice known d)
one_more m n b e known sets forced between d has =
    elim (cases_Bool (same_block d b)) [
      | inl is ↦
          let same = same_block-equal d b is in (
            λ _. subst (λ x. is_marked n x ≡ true) (sym same) (mark_here m n b true sets),
            λ _. subst (IsReached m.lattice known) (sym same) (forced_reached m.lattice known (is_marked m) b e between.reached forced),
          )
      | inr differs ↦
          let as_before = mark_other m n b true sets d has (λ same. false≢true (sym differs ∙ subst (λ x. same_block d x ≡ true) same (same_block-refl d))) in (
            λ k. as_before ∙ between.all d has k,
            λ marked. between.reached d has (sym as_before ∙ marked),
          )
    ]

-- a block is marked that an equation forces
pub goes_one : (m n : Marked) (b : BlockId) (e : EqId) → Sets m n b true → IsForcedBy m.lattice (is_marked m) b e → GoesOn m n
goes_one m n b e sets forced = record {
  same = sets.same;
  whole = sets.whole;
  between = λ known between. record {
    all = λ d has. (one_more m n b e known sets forced between d (subst (λ (l : Lattice). HasBlock l d) sets.same has)).0;
    reached = λ d has marked.
        subst (λ (l : Lattice). IsReached l known d) (sym sets.same)
        ((one_more m n b e known sets forced between d (subst (λ (l : Lattice). HasBlock l d) sets.same has)).1 marked);
  };
}

-- ---- the closure

-- at first the known blocks are marked
pub between_first : (m : Marked) (known : BlockId → Bool) → AreMarks m known → AreBetween m known
between_first m known are = record {
  all = λ b has k. are b has ∙ k;
  reached = λ b has marked. reached-known m.lattice known b (sym (are b has) ∙ marked);
}

-- where no block is without a mark, each is marked
pub none_unmarked : (m : Marked) → IsWhole m → unmarked m ≡ 0 → (b : BlockId) → HasBlock m.lattice b → is_marked m b ≡ true
none_unmarked m whole none b has =
    elim (cases_Bool (is_marked m b)) [
      | inl marked ↦ marked
      | inr clear ↦
          let n : Marked = record { lattice = m.lattice; marks = set m.marks (number_of m.lattice b) true } in
          let sets : Sets m n b true = record { block = has; whole = length-set m.marks (number_of m.lattice b) true ∙ whole; same = refl; marks = refl } in
          absurd (omega (arith, one_marked m n b sets clear, none))
    ]

-- and the marked blocks are the closure
pub all_reached : (m : Marked) (known : BlockId → Bool) → AreBetween m known → ((b : BlockId) → HasBlock m.lattice b → is_marked m b ≡ true) → AreReached m known
all_reached m known between all b has = (λ marked. between.reached b has marked, λ _. all b has)

-- what is reached from marks on the way is the closure of the known blocks
pub reached_further : (m p : Marked) (known : BlockId → Bool) → p.lattice ≡ m.lattice → AreBetween m known → AreReached p (is_marked m) → AreReached p known
reached_further m p known same between reached b has =
    let here : (d : BlockId) → HasBlock p.lattice d → HasBlock m.lattice d = λ d. subst (λ (l : Lattice). HasBlock l d) same in (
      λ marked.
          let r = (reached b has).0 marked in
          through p.lattice known (is_marked m)
          (λ d inside k. subst (λ (l : Lattice). IsReached l known d) (sym same) (between.reached d (here d inside) k)) (b ∷ r.0) r.1 b has (among-first r.0 b),
      λ r.
          let s : IsReached p.lattice (is_marked m) b =
          through p.lattice (is_marked m) known
          (λ d inside k. reached-known p.lattice (is_marked m) d (between.all d (here d inside) k)) (b ∷ r.0) r.1 b has (among-first r.0 b) in
          (reached b has).1 s,
    )
