-- Fates where tests agree, and the fates of unknown blocks.
use Rattle.std.proofs.Common.{◌≡◌, ℕ, Bool, true, false, not, ◌||◌, List, [], ◌∷◌, All, map, length, get_or, filter, IsTrue, inl, inr, refl, sym, ◌∙◌, ap, subst, arith}
use Rattle.std.proofs.lemmas.Bool.{cases_Bool, false≢true}
use Rattle.std.proofs.lemmas.List.Elements.{All-head, All-tail, All-cons, All-same, All-filter, filter_passes}
use Rattle.aea_lattice.specs.declared.blocks.BlockId.{BlockId}
use Rattle.aea_lattice.specs.declared.blocks.EqId.{EqId}
use Rattle.aea_lattice.specs.declared.grid.Lattice.{Lattice}
use Rattle.aea_lattice.specs.Blocks.{HasBlock, blocks_of}
use Rattle.aea_lattice.specs.Facts.{BlocksAreInside}
use Rattle.aea_lattice.specs.LeastWord.{IsWord}
use Rattle.aea_lattice.proofs.Equations.{member_inside}
use Rattle.aea_view.specs.Marked.{is_marked}
use Rattle.aea_fates.specs.Sums.{IsSum}
use Rattle.aea_fates.specs.Laws.{WordsStay, PartsStandAlone, IsPart, known_or_outside}
use Rattle.aea_gauss.specs.declared.fates.Fate.{Fate}
use Rattle.aea_gauss.specs.declared.fates.Fate.TheVariants.{Sum, Word}
use Rattle.aea_gauss.specs.Fates.{block_of_fate, IsFate, AreFates}
use Rattle.aea_search.specs.Searches.{Searched, IsSearch, IsGoneAround, IsRightBy}

-- ---- tests that agree

-- the two tests are the same at each block of the lattice
abbrev pub Agree : Lattice → (BlockId → Bool) → (BlockId → Bool) → Type 0
Agree l known test = (d : BlockId) → HasBlock l d → known d ≡ test d

sum_same : (l : Lattice) (known test : BlockId → Bool) → Agree l known test → (b : BlockId) (equations : List EqId) → IsSum l known b equations → IsSum l test b equations
sum_same l known test same b equations sum = record {
  gives = record {
    contains = sum.gives.contains;
    others = λ d has stands other. sym (same d has) ∙ sum.gives.others d has stands other;
  };
  no_spare = λ e has listed spare.
      sum.no_spare e has listed (
        spare.0,
        record {
          contains = spare.1.contains;
          greatest = spare.1.greatest;
          only_known = λ d inside stands. same d inside ∙ spare.1.only_known d inside stands;
        },
      );
  ordered = sum.ordered;
}

word_same : WordsStay → (l : Lattice) (known test : BlockId → Bool) → Agree l known test → (b : BlockId) (nodes : List ℕ) → IsWord l known b nodes → IsWord l test b nodes
word_same stay l known test same b nodes =
    (stay l known test (record {
      within = λ d has is. sym (same d has) ∙ is;
      determined = λ d has is w xs ys is_xs is_ys agree. agree d has (same d has ∙ is);
    }) b nodes).0

-- a fate for the one test is one for the other
pub fate_same : WordsStay → (l : Lattice) (known test : BlockId → Bool) → Agree l known test → (fate : Fate) → IsFate l known fate → IsFate l test fate
fate_same stay l known test same (Sum b equations) is = sum_same l known test same b equations is
fate_same stay l known test same (Word b nodes) is = word_same stay l known test same b nodes is

-- ---- the fates of the unknown blocks

-- the fate of a block of the part, where all that is outside is known too, is that for the known blocks alone
fate_alone : PartsStandAlone → (l : Lattice) (known part : BlockId → Bool) → IsPart l known part → (fate : Fate) → HasBlock l (block_of_fate fate) → IsTrue (part (block_of_fate fate))
    → IsFate l (known_or_outside known part) fate → IsFate l known fate
fate_alone alone l known part is_part (Sum d equations) has inside is = (alone l known part is_part d has inside).0 equations is
fate_alone alone l known part is_part (Word d nodes) has inside is = (alone l known part is_part d has inside).1 nodes is

-- what holds of each image holds of each item's image
all_unmapped : {X Y : Type 0} (P : X → Type 0) (f : Y → X) (ys : List Y) → All P (map f ys) → All (λ y. P (f y)) ys
all_unmapped P f [] all = λ k d below. absurd (omega (arith, below))
all_unmapped P f (y ∷ ys) all =
    All-cons (λ z. P (f z)) y ys (All-head P (f y) (map f ys) all) (all_unmapped P f ys (All-tail P (f y) (map f ys) all))

-- each of the fates for some known blocks is of another block of the lattice
blocks_inside : BlocksAreInside → (l : Lattice) (known : BlockId → Bool) (fates : List Fate) → AreFates l known fates
    → All (λ fate. HasBlock l (block_of_fate fate) × (not (known (block_of_fate fate)) ≡ true)) fates
blocks_inside inside l known fates are =
    let unknown' : BlockId → Bool = λ b. not (known b) in
    let blocks = filter unknown' (blocks_of l) in
    let here : All (λ b. HasBlock l b × (unknown' b ≡ true)) blocks =
    λ k d below. (All-filter unknown' (HasBlock l) (blocks_of l) (inside l) k d below, filter_passes unknown' (blocks_of l) k d below) in
    all_unmapped (λ b. HasBlock l b × (unknown' b ≡ true)) block_of_fate fates (All-same (λ b. HasBlock l b × (unknown' b ≡ true)) (map block_of_fate fates) blocks are.blocks here)

-- where none waits, each unknown block was gone around
around_all : (s : Searched) → IsSearch s → s.waiting ≡ [] → (b : BlockId) → HasBlock s.read.lattice b → is_marked s.unknown b ≡ true → IsGoneAround s.read.lattice s.read b
around_all s holds none b has marked =
    elim (holds.rest b has marked) [ inl waits ↦ absurd (omega (arith, ap length none, waits.1)) | inr around ↦ around ]

-- so the unknown blocks are a part
unknown_part : (s : Searched) (known : BlockId → Bool) → IsSearch s → s.waiting ≡ [] → IsRightBy s.read.lattice known s → IsPart s.read.lattice known (is_marked s.unknown)
unknown_part s known holds none right e b d has in_b in_d unknown_b unknown_d =
    let l = s.read.lattice in
    let has_b = member_inside l e b has in_b in
    let has_d = member_inside l e d has in_d in
    elim (cases_Bool (is_marked s.unknown b)) [
      | inl is ↦ is ∙ sym (right d has_d (around_all s holds none b has_b is e has in_b d in_d) ∙ ap not unknown_d)
      | inr not_b ↦ elim (cases_Bool (is_marked s.unknown d)) [
        | inl is ↦ absurd (false≢true (sym not_b ∙ right b has_b (around_all s holds none d has_d is e has in_d b in_b) ∙ ap not unknown_b))
        | inr not_d ↦ not_b ∙ sym not_d
      ]
    ]

not_not : (x : Bool) → x ≡ not (not x)
not_not true = refl
not_not false = refl

only_unknown : (known part : Bool) → (part ≡ true → true ≡ not known) → not part ≡ (known || not part)
only_unknown true true h = absurd (false≢true (sym (h refl)))
only_unknown true false h = refl
only_unknown false part h = refl

-- The fates of the unknown blocks where all others are known are their fates where exactly the blocks are known that pass a test
-- which is right about what was read.
pub unknown_fates_known : PartsStandAlone → WordsStay → BlocksAreInside → (l : Lattice) (s : Searched) → s.read.lattice ≡ l → IsSearch s → s.waiting ≡ []
    → (known : BlockId → Bool) → IsRightBy l known s → (fates : List Fate) → AreFates l (λ b. not (is_marked s.unknown b)) fates → All (IsFate l known) fates
unknown_fates_known alone stay inside l s same holds none known right fates are =
    let unknown : BlockId → Bool = is_marked s.unknown in
    let part : IsPart l known unknown =
    subst (λ (x : Lattice). IsPart x known unknown) same (unknown_part s known holds none (subst (λ (x : Lattice). IsRightBy x known s) (sym same) right)) in
    let agree : Agree l (λ b. not (unknown b)) (known_or_outside known unknown) =
    λ b has. only_unknown (known b) (unknown b) (λ is. sym is ∙ right b has (holds.within b (subst (λ (x : Lattice). HasBlock x b) (sym same) has) is)) in
    let of_unknown = blocks_inside inside l (λ b. not (unknown b)) fates are in
    λ k d below.
    let fate = get_or fates k d in
    let of = of_unknown k d below in
    fate_alone alone l known unknown part fate of.0 (not_not (unknown (block_of_fate fate)) ∙ of.1)
    (fate_same stay l (λ b. not (unknown b)) (known_or_outside known unknown) agree fate (are.each k d below))
