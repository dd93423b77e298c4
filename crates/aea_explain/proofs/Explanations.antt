-- What a search around a block and the fate of the block explain.
use Rattle.std.proofs.Common.{◌≡◌, ◌≢◌, Bool, true, false, not, cond, ◌&&◌, [], Result, Ok, Err, IsTrue, inl, inr, refl, sym, ◌∙◌, ap, subst, arith}
use Rattle.std.specs.Prelude.{◌↔◌}
use Rattle.std.proofs.lemmas.Bool.{cases_Bool, false≢true, cond-true, cond-false, and_right, not-true}
use Rattle.aea_lattice.specs.declared.blocks.BlockId.{BlockId}
use Rattle.aea_lattice.specs.declared.grid.Lattice.{Lattice}
use Rattle.aea_lattice.specs.Blocks.{HasBlock, same_block}
use Rattle.aea_lattice.specs.Data.{Determines}
use Rattle.aea_lattice.specs.LeastWord.{IsWord}
use Rattle.aea_lattice.proofs.Equations.{same_block-equal, same_block-refl}
use Rattle.aea_view.specs.Marked.{is_marked}
use Rattle.aea_disk.specs.Files.{Files}
use Rattle.aea_ledger.specs.Recorded.{IsLatticeOf}
use Rattle.aea_ledger.specs.Values.{Opened}
use Rattle.aea_archive.specs.Blocks.{IsBlockIn, IsIntactBy, RevealsSurvivors}
use Rattle.aea_fates.specs.Sums.{IsSum}
use Rattle.aea_fates.specs.Laws.{ListsAreOne, SumsAreDetermined, WordsAreOpen, WordsStay}
use Rattle.aea_gauss.specs.declared.fates.Fate.{Fate}
use Rattle.aea_gauss.specs.declared.fates.Fate.TheVariants.{Sum, Word}
use Rattle.aea_gauss.specs.Fates.{block_of_fate, IsFate}
use Rattle.aea_explain.specs.declared.explaining.Explanation.{Explanation}
use Rattle.aea_explain.specs.declared.explaining.ExplainFault.{ExplainFault}
use Rattle.aea_explain.specs.declared.explaining.ExplainFault.TheVariants.{DiskFault, NoMemory}
use Rattle.aea_explain.specs.Explained.{without, Agree, IsExplained, Explains, is_sum, ExplanationsAreOne, SumsExplainDetermined}
use Rattle.aea_archive.specs.Laws.{SurvivorsAreRevealed}
use Rattle.aea_search.specs.Searches.{Searched, IsNew, Begins, Goes, IsRightBy}
use Rattle.aea_search.proofs.Fated.{fate_same}
use Rattle.aea_search.proofs.Going.{as_read, right_as_read, in_archive}
use Rattle.aea_explain.specs.Around.{IsAround}

-- ---- one explanation

agree_flipped : (l : Lattice) (known test : BlockId → Bool) → Agree l known test → Agree l test known
agree_flipped l known test agree d has = sym (agree d has)

agree_without : (l : Lattice) (known test : BlockId → Bool) (b : BlockId) → Agree l known test → Agree l (without known b) (without test b)
agree_without l known test b agree d has = ap (λ k. k && not (same_block d b)) (agree d has)

-- two fates of one block are one
fate_one : ListsAreOne → (l : Lattice) (known : BlockId → Bool) (x y : Fate) → HasBlock l (block_of_fate x) → block_of_fate x ≡ block_of_fate y → IsFate l known x → IsFate l known y → x ≡ y
fate_one one l known (Sum b xs) (Sum c ys) has same hx hy =
    ap (λ d. Sum d xs) same ∙ ap (Sum c) ((one l known c (subst (HasBlock l) same has)).one_sum xs ys (subst (λ d. IsSum l known d xs) same hx) hy)
fate_one one l known (Sum b xs) (Word c ns) has same hx hy = absurd ((one l known b has).one_kind xs ns hx (subst (λ d. IsWord l known d ns) (sym same) hy))
fate_one one l known (Word b ns) (Sum c ys) has same hx hy = absurd ((one l known b has).one_kind ys ns (subst (λ d. IsSum l known d ys) (sym same) hy) hx)
fate_one one l known (Word b ns) (Word c ms) has same hx hy =
    ap (λ d. Word d ns) same ∙ ap (Word c) ((one l known c (subst (HasBlock l) same has)).one_word ns ms (subst (λ d. IsWord l known d ns) same hx) hy)

explanation_equal : (e f : Explanation) → e.intact ≡ f.intact → e.fate ≡ f.fate → e ≡ f
explanation_equal e f intact fate = λ i. record { intact = intact i; fate = fate i }

pub explanations-one : ListsAreOne → WordsStay → ExplanationsAreOne
explanations-one one stay l known test b e f has agree by_known by_test =
    explanation_equal e f
    (by_known.intact ∙ agree b has ∙ sym by_test.intact)
    (fate_one one l (without known b) e.fate f.fate (subst (HasBlock l) (sym by_known.block) has) (by_known.block ∙ sym by_test.block) by_known.fate
    (fate_same stay l (without test b) (without known b) (agree_without l test known b (agree_flipped l known test agree)) f.fate by_test.fate))

-- a fate is a sum exactly where the known blocks determine its block
fate_determined : SumsAreDetermined → WordsAreOpen → (l : Lattice) (known : BlockId → Bool) (b : BlockId) (fate : Fate) → HasBlock l b → block_of_fate fate ≡ b → IsFate l known fate
    → IsTrue (is_sum fate) ↔ Determines l known b
fate_determined sums words l known b (Sum d equations) has same is = (λ yes'. subst (Determines l known) same (sums l known d equations (subst (HasBlock l) (sym same) has) is), λ given. refl)
fate_determined sums words l known b (Word d nodes) has same is = (
  λ no'. absurd (false≢true no'),
  λ given. absurd (words l known d nodes (subst (HasBlock l) (sym same) has) is (subst (Determines l known) (sym same) given)),
)

pub sums-determined : SumsAreDetermined → WordsAreOpen → SumsExplainDetermined
sums-determined sums words l known b e has is = fate_determined sums words l (without known b) b e.fate has is.block is.fate

-- ---- the explanation by a search

-- an explanation by one test is one by each that agrees with it
explained_same : WordsStay → (l : Lattice) (known test : BlockId → Bool) (b : BlockId) (e : Explanation) → HasBlock l b → Agree l known test → IsExplained l known b e → IsExplained l test b e
explained_same stay l known test b e has agree is = record {
  intact = is.intact ∙ agree b has;
  block = is.block;
  fate = fate_same stay l (without known b) (without test b) (agree_without l known test b agree) e.fate is.fate;
}

same_truth : (x y : Bool) → (x ≡ true → y ≡ true) → (y ≡ true → x ≡ true) → x ≡ y
same_truth true y to from = sym (to refl)
same_truth false true to from = from refl
same_truth false false to from = refl

-- two tests that distinguish the intact blocks agree
tests_agree : (v : Opened) (c : Files) (known test : BlockId → Bool) → ((b : BlockId) → HasBlock v.lattice b → IsBlockIn v.shape v.lattice.n b)
    → RevealsSurvivors v.shape v.lattice.n v.digests c known → RevealsSurvivors v.shape v.lattice.n v.digests c test → Agree v.lattice known test
tests_agree v c known test inside first second b has =
    let one = first b (inside b has) in
    let two = second b (inside b has) in
    same_truth (known b) (test b) (λ is. two.1 (one.0 is)) (λ is. one.1 (two.0 is))

-- a block of the archive is one of the ledger's lattice
in_lattice : (v : Opened) (l : Lattice) → l ≡ v.lattice → IsLatticeOf v.shape l.n l.fences l → (b : BlockId) → IsBlockIn v.shape v.lattice.n b → HasBlock v.lattice b
in_lattice v l same of_shape b block = record { first = omega (arith, block.after); last = block.most; used = omega (arith, block.used, of_shape.alpha, ap (λ (x : Lattice). x.alpha) same) }

and_true : (x y : Bool) → y ≡ true → (x && y) ≡ x
and_true true y is = is
and_true false y is = refl

-- The test that a search gives of one block: of this block the answer, of what was read what is not unknown, and of all others
-- what passes another test.
abbrev pub by_search : Searched → BlockId → Bool → (BlockId → Bool) → BlockId → Bool
by_search s b intact others d = cond (same_block d b) intact (as_read s others d)

here_by : (s : Searched) (b : BlockId) (intact : Bool) (others : BlockId → Bool) (d : BlockId) → same_block d b ≡ true → by_search s b intact others d ≡ intact
here_by s b intact others d is = cond-true (same_block d b) intact (as_read s others d) is

there_by : (s : Searched) (b : BlockId) (intact : Bool) (others : BlockId → Bool) (d : BlockId) → same_block d b ≡ false → by_search s b intact others d ≡ as_read s others d
there_by s b intact others d is = cond-false (same_block d b) intact (as_read s others d) is

apart : (d b : BlockId) → same_block d b ≡ false → d ≢ b
apart d b differs same = false≢true (sym differs ∙ subst (λ x. same_block d x ≡ true) same (same_block-refl d))

-- without the block it is right about what was read, whatever the disk is
right_without : (v : Opened) (s : Searched) (b : BlockId) (intact : Bool) (others : BlockId → Bool) → is_marked s.unknown b ≡ true → IsRightBy v.lattice (without (by_search s b intact others) b) s
right_without v s b intact others unknown d has read =
    elim (cases_Bool (same_block d b)) [
      | inl is ↦
          ap (is_marked s.unknown) (same_block-equal d b is)
          ∙ unknown
          ∙ sym (ap not (and_right (by_search s b intact others d) (not (same_block d b)) (ap not is)))
      | inr differs ↦
          right_as_read v.lattice s others d has read
          ∙ ap not (sym (there_by s b intact others d differs) ∙ sym (and_true (by_search s b intact others d) (not (same_block d b)) (ap not differs)))
    ]

not_both : (u : Bool) (is : Type 0) → (u ≡ false) ↔ is → IsTrue (not u) ↔ is
not_both u is says = (λ no. says.0 (not-true u no), λ fine. ap not (says.1 fine))

-- and it distinguishes the intact blocks, where the contents of the disk are known
by_search_reveals : (v : Opened) (c : Files) (b : BlockId) (s : Searched) (intact : Bool) (others : BlockId → Bool) → ((d : BlockId) → IsBlockIn v.shape v.lattice.n d → HasBlock v.lattice d)
    → IsTrue intact ↔ IsIntactBy v.shape v.digests c b
    → ((d : BlockId) → HasBlock v.lattice d → d ≢ b → is_marked s.read d ≡ true → (is_marked s.unknown d ≡ false) ↔ IsIntactBy v.shape v.digests c d)
    → RevealsSurvivors v.shape v.lattice.n v.digests c others → RevealsSurvivors v.shape v.lattice.n v.digests c (by_search s b intact others)
by_search_reveals v c b s intact others inside own revealed reveals d block =
    elim (cases_Bool (same_block d b)) [
      | inl is ↦
          subst (λ x. IsTrue x ↔ IsIntactBy v.shape v.digests c d) (sym (here_by s b intact others d is))
          (subst (λ z. IsTrue intact ↔ IsIntactBy v.shape v.digests c z) (sym (same_block-equal d b is)) own)
      | inr differs ↦
          subst (λ x. IsTrue x ↔ IsIntactBy v.shape v.digests c d) (sym (there_by s b intact others d differs))
          (elim (cases_Bool (is_marked s.read d)) [
            | inl read ↦
                subst (λ x. IsTrue x ↔ IsIntactBy v.shape v.digests c d) (sym (cond-true (is_marked s.read d) (not (is_marked s.unknown d)) (others d) read))
                (not_both (is_marked s.unknown d) (IsIntactBy v.shape v.digests c d) (revealed d (inside d block) (apart d b differs) read))
            | inr unread ↦
                subst (λ x. IsTrue x ↔ IsIntactBy v.shape v.digests c d) (sym (cond-false (is_marked s.read d) (not (is_marked s.unknown d)) (others d) unread))
                (reveals d block)
          ])
    ]

-- Whether the block is intact, and the fate that a search around it has, explain it.
pub explains : WordsStay → SurvivorsAreRevealed → (reveals : Type 0) (v : Opened) (l : Lattice) (c : Files) (b : BlockId) (e : Explanation) (s : Searched)
    → l ≡ v.lattice → IsLatticeOf v.shape l.n l.fences l → HasBlock v.lattice b
    → (reveals → IsTrue e.intact ↔ IsIntactBy v.shape v.digests c b) → IsAround reveals v c b s
    → block_of_fate e.fate ≡ b → ((known : BlockId → Bool) → IsRightBy v.lattice known s → IsFate v.lattice known e.fate) → Explains reveals v c b e
explains stay given reveals v l c b e s same of_shape has own around block fate =
    let others = given v.shape v.lattice.n v.digests c in
    let known = by_search s b e.intact others.0 in
    let survivors : reveals → RevealsSurvivors v.shape v.lattice.n v.digests c known =
    λ reveal. by_search_reveals v c b s e.intact others.0 (in_lattice v l same of_shape) (own reveal) (around.revealed reveal) others.1 in
    let by_known : IsExplained v.lattice known b e = record {
      intact = sym (here_by s b e.intact others.0 b (same_block-refl b));
      block = block;
      fate = fate (without known b) (right_without v s b e.intact others.0 around.unknown);
    } in
    record {
      intact = own;
      revealed = λ reveal test reveals_test.
          explained_same stay v.lattice known test b e has (tests_agree v c known test (in_archive v l same of_shape) (survivors reveal) reveals_test) by_known;
      some = (known, survivors, by_known);
    }

-- over the same files it is the same
pub around_as : (reveals : Type 0) (v : Opened) (c d : Files) (b : BlockId) (s : Searched) → (reveals → c ≡ d) → IsAround reveals v c b s → IsAround reveals v d b s
around_as reveals v c d b s same around = record {
  lattice = around.lattice;
  done = around.done;
  unknown = around.unknown;
  revealed = λ reveal. subst (λ (f : Files). (x : BlockId) → HasBlock v.lattice x → x ≢ b → is_marked s.read x ≡ true → (is_marked s.unknown x ≡ false) ↔ IsIntactBy v.shape v.digests f x) (same reveal) (around.revealed reveal);
}

-- A search that had read nothing, took the block as unknown and went on until none waited has gone around it.
pub gone_around : (reveals : Type 0) (v : Opened) (c : Files) (b : BlockId) (s t u : Searched) → HasBlock v.lattice b → IsNew v.lattice s → Begins s t b → Goes reveals v c t u → u.waiting ≡ []
    → IsAround reveals v c b u
gone_around reveals v c b s t u has none begins goes done = record {
  lattice = goes.same ∙ begins.read.same ∙ none.lattice;
  done = done;
  unknown = goes.kept b has begins.read.here ∙ begins.unknown.here;
  revealed = λ reveal d inside other read.
      goes.revealed reveal d inside
      (begins.read.others d (subst (λ (l : Lattice). HasBlock l d) (sym none.lattice) inside) other ∙ none.read d) read;
}

-- ---- what is returned

-- this fault is returned where that one is
abbrev pub FaultIs : (T : Type 0) → ExplainFault → ExplainFault → Type 0
FaultIs T f g = let returned : Result T ExplainFault = Err f in returned ≡ Err g

pub same_fault : (S T : Type 0) (f g : ExplainFault) → FaultIs S f g → FaultIs T f g
same_fault S T f g is = let same : f ≡ g = cc in ap (λ x. Err x) same

-- what was made is no fault
pub made_no_fault : {T : Type 0} (x : T) (g : ExplainFault) → (let returned : Result T ExplainFault = Ok x in returned ≡ Err g) → ⊥
made_no_fault x g is = cc

-- and want of memory is no fault of the disk
pub memory_no_fault : (T : Type 0) → FaultIs T NoMemory DiskFault → ⊥
memory_no_fault T is = cc
