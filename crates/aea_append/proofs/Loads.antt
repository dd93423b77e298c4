-- Heads that are loaded strand by strand.
use Rattle.std.proofs.Common.{◌≡◌, ⊎_elim, ℕ, ◌+◌, ◌-◌, ◌*◌, ◌<◌, ◌≤◌, List, replicate, Option, None, Some, refl, sym, ◌∙◌, ap, subst, arith}
use Rattle.std.specs.Prelude.{IfSome}
use Rattle.std.proofs.lemmas.Bool.{cases_lt}
use Rattle.aea_lattice.specs.declared.blocks.Class.{Class}
use Rattle.aea_lattice.specs.declared.blocks.BlockId.{BlockId}
use Rattle.aea_lattice.specs.declared.grid.Lattice.{Lattice}
use Rattle.aea_lattice.specs.declared.shape.Shape.{Shape}
use Rattle.aea_lattice.specs.Blocks.{block_of, class_number, HasParity, HasBlock, number_of}
use Rattle.aea_lattice.specs.Strands.{strand_of}
use Rattle.aea_lattice.specs.Ends.{strands_of, last_open}
use Rattle.aea_lattice.specs.Shapes.{number_in}
use Rattle.aea_lattice.specs.Strands.{is_on}
use Rattle.aea_lattice.proofs.Equations.{block_equal}
use Rattle.aea_lattice.proofs.Prefixes.{IsLast-last_of}
use Rattle.aea_lattice.proofs.Prefixes as prefixes
use Rattle.aea_envelope.specs.Cells.{cell_of}
use Rattle.aea_disk.specs.Files.{Files}
use Rattle.aea_shelf.specs.Places.{HasAtHome}
use Rattle.aea_weave.specs.Woven.{Woven, strands_before, head_of}
use Rattle.aea_weave.proofs.Places.{same_place, strand-below}
use Rattle.aea_ledger.specs.Values.{Opened}
use Rattle.aea_archive.specs.Blocks.{IsIntactBy}
use Rattle.aea_archive.specs.Lasts.{IsLastParity, IsDamagedLast}
use Rattle.aea_archive.proofs.Values.{last_inside}
use Rattle.aea_append.specs.Loading.{place_of, IsLoaded, IsFoundOn, IsFound, HasLoaded, IsLesser}

-- the last parity on a strand is the one of its last open node
pub same_last : (l : Lattice) (b : BlockId) (class : Class) (strand node : ℕ) → last_open l class strand ≡ Some node → IsLastParity l b → b.class ≡ class → strand_of l class b.node ≡ strand → b ≡ block_of node class
same_last l b class strand node at last is on =
    let mine : last_open l class (strand_of l class b.node) ≡ Some b.node = subst (λ (k : Class). last_open l k (strand_of l k b.node) ≡ Some b.node) is last.last in
    let here : last_open l class strand ≡ Some b.node = subst (λ (k : ℕ). last_open l class k ≡ Some b.node) on mine in
    let both : Some b.node ≡ Some node = sym here ∙ at in
    let same : b.node ≡ node = cc in
    block_equal b (block_of node class) same is

-- ---- one strand more

numbers : (l : Lattice) (shape : Shape) → l.alpha ≡ shape.alpha → (b : BlockId) → number_of l b ≡ number_in shape b
numbers l shape same b = ap (λ (a : ℕ). (b.node - 1) * (1 + a) + class_number b.class) same

-- a block whose strand has this place
on_strand : (l : Lattice) (b : BlockId) (class : Class) (strand : ℕ) → HasParity l b.class → strand < strands_of l class → place_of l b ≡ strands_before l class + strand → (b.class ≡ class) × (strand_of l class b.node ≡ strand)
on_strand l b class strand parity below same =
    let one = same_place l b.class class (strand_of l b.class b.node) strand (strand-below l b.class b.node parity) below same in
    (one.0, subst (λ (k : Class). strand_of l k b.node ≡ strand) one.0 one.1)

bound_old : (reveals : Type 0) (v : Opened) (c : Files) (count : ℕ) → reveals → v.lattice.alpha ≡ v.shape.alpha → (found : Option BlockId) → IsFound reveals v c count found
    → (x : BlockId) → ((y : BlockId) → found ≡ Some y → number_of v.lattice x ≤ number_of v.lattice y)
    → (a : BlockId) → IsDamagedLast v.shape v.lattice v.digests c a → place_of v.lattice a < count → number_in v.shape x ≤ number_in v.shape a
bound_old reveals v c count revealed alpha None f x le a damaged lt = absurd (damaged.damaged (f revealed a damaged.last lt))
bound_old reveals v c count revealed alpha (Some y) f x le a damaged lt =
    let before = (f.1 revealed).1 a damaged lt in
    let less = le y refl in
    let nx = numbers v.lattice v.shape alpha x in
    let ny = numbers v.lattice v.shape alpha y in
    omega (arith, before, less, nx, ny)

bound_new : (reveals : Type 0) (v : Opened) (c : Files) (class : Class) (strand : ℕ) → reveals → v.lattice.alpha ≡ v.shape.alpha → (next : Option BlockId) → IsFoundOn reveals v c class strand next
    → (x : BlockId) → ((y : BlockId) → next ≡ Some y → number_of v.lattice x ≤ number_of v.lattice y)
    → (a : BlockId) → IsDamagedLast v.shape v.lattice v.digests c a → a.class ≡ class → strand_of v.lattice class a.node ≡ strand → number_in v.shape x ≤ number_in v.shape a
bound_new reveals v c class strand revealed alpha None f x le a damaged is on = absurd (damaged.damaged (f revealed a damaged.last is on))
bound_new reveals v c class strand revealed alpha (Some y) f x le a damaged is on =
    let mine : last_open v.lattice class (strand_of v.lattice class y.node) ≡ Some y.node = subst (λ (k : Class). last_open v.lattice k (strand_of v.lattice k y.node) ≡ Some y.node) f.1 f.0.last in
    let here : last_open v.lattice class strand ≡ Some y.node = subst (λ (k : ℕ). last_open v.lattice class k ≡ Some y.node) f.2 mine in
    let one : a ≡ block_of y.node class = same_last v.lattice a class strand y.node here damaged.last is on in
    let two : y ≡ block_of y.node class = same_last v.lattice y class strand y.node here f.0 f.1 f.2 in
    let less = le y refl in
    let nx = numbers v.lattice v.shape alpha x in
    let ny = numbers v.lattice v.shape alpha y in
    let same : number_in v.shape y ≡ number_in v.shape a = ap (number_in v.shape) (two ∙ sym one) in
    omega (arith, less, nx, ny, same)

found_next : (reveals : Type 0) (v : Opened) (c : Files) (class : Class) (strand count : ℕ) → strand < strands_of v.lattice class → strands_before v.lattice class + strand ≡ count → v.lattice.alpha ≡ v.shape.alpha
    → (found next answer : Option BlockId) → IsFound reveals v c count found → IsFoundOn reveals v c class strand next → IsLesser v.lattice found next answer → IsFound reveals v c (count + 1) answer
found_next reveals v c class strand count below place alpha found next None old new lesser =
    let none = lesser.none refl in
    λ revealed b last lt. ⊎_elim
    (λ before. subst (IsFound reveals v c count) none.0 old revealed b last before)
    (λ past.
    let one = on_strand v.lattice b class strand last.parity below (omega (arith, past, lt, place)) in
    subst (IsFoundOn reveals v c class strand) none.1 new revealed b last one.0 one.1)
    (cases_lt (place_of v.lattice b) count)
found_next reveals v c class strand count below place alpha found next (Some x) old new lesser =
    let some = lesser.some x refl in
    let last : IsLastParity v.lattice x = ⊎_elim (λ is. (let f : IsFound reveals v c count (Some x) = subst (IsFound reveals v c count) is old in f.0)) (λ is. (let f : IsFoundOn reveals v c class strand (Some x) = subst (IsFoundOn reveals v c class strand) is new in f.0)) some in (
      last,
      λ revealed. (
        ⊎_elim (λ is. (let f : IsFound reveals v c count (Some x) = subst (IsFound reveals v c count) is old in (f.1 revealed).0)) (λ is. (let f : IsFoundOn reveals v c class strand (Some x) = subst (IsFoundOn reveals v c class strand) is new in f.3 revealed)) some,
        λ a damaged lt. ⊎_elim
            (λ before. bound_old reveals v c count revealed alpha found old x (λ y is. lesser.left x y refl is) a damaged before)
            (λ past.
            let one = on_strand v.lattice a class strand damaged.last.parity below (omega (arith, past, lt, place)) in
            bound_new reveals v c class strand revealed alpha next new x (λ y is. lesser.right x y refl is) a damaged one.0 one.1)
            (cases_lt (place_of v.lattice a) count),
      ),
    )

-- heads that are loaded from the first strands are loaded from one more, where its head was loaded or its last
-- parity found damaged, the other heads stay, and the lesser of the two blocks found is kept
pub load_next : (reveals : Type 0) (v : Opened) (c : Files) (old new : Woven) (class : Class) (strand count : ℕ) (found next answer : Option BlockId)
    → HasParity v.lattice class → strand < strands_of v.lattice class → strands_before v.lattice class + strand ≡ count → v.lattice.alpha ≡ v.shape.alpha
    → HasLoaded reveals v c old count found
    → (next ≡ None → IsLoaded reveals v c class (head_of new class strand) (last_open v.lattice class strand))
    → IsFoundOn reveals v c class strand next → new.lattice ≡ old.lattice → new.size ≡ old.size
    → ((k : Class) (other : ℕ) → HasParity v.lattice k → other < strands_of v.lattice k → ((k ≡ class) × (other ≡ strand) → ⊥) → head_of new k other ≡ head_of old k other)
    → IsLesser v.lattice found next answer → HasLoaded reveals v c new (count + 1) answer
load_next reveals v c old new class strand count found next answer parity below place alpha before loaded on lattice size others lesser = record {
  lattice = lattice ∙ before.lattice;
  size = size ∙ before.size;
  loaded = λ none k s has under lt.
      let both = lesser.none none in
      ⊎_elim
      (λ earlier.
      let same = others k s has under (λ one. let e : strands_before v.lattice k + s ≡ strands_before v.lattice class + strand = ap (λ (z : Class). strands_before v.lattice z + s) one.0 ∙ ap (λ (z : ℕ). strands_before v.lattice class + z) one.1 in omega (arith, e, earlier, place)) in
      subst (λ (head : List ℕ). IsLoaded reveals v c k head (last_open v.lattice k s)) (sym same) (before.loaded both.0 k s has under earlier))
      (λ past.
      let one = same_place v.lattice k class s strand under below (omega (arith, past, lt, place)) in
      subst (λ (z : Class). IsLoaded reveals v c z (head_of new z s) (last_open v.lattice z s)) (sym one.0)
      (subst (λ (z : ℕ). IsLoaded reveals v c class (head_of new class z) (last_open v.lattice class z)) (sym one.1) (loaded both.1)))
      (cases_lt (strands_before v.lattice k + s) count);
  rest = λ k s has under past.
      others k s has under (λ one. let e : strands_before v.lattice k + s ≡ strands_before v.lattice class + strand = ap (λ (z : Class). strands_before v.lattice z + s) one.0 ∙ ap (λ (z : ℕ). strands_before v.lattice class + z) one.1 in omega (arith, e, past, place))
      ∙ before.rest k s has under (omega (arith, past));
  least = found_next reveals v c class strand count below place alpha found next answer before.least on lesser;
}

-- nothing was looked at yet
pub load_none : (reveals : Type 0) (v : Opened) (c : Files) (heads : Woven) → heads.lattice ≡ v.lattice → heads.size ≡ v.shape.block
    → ((k : Class) (strand : ℕ) → HasParity v.lattice k → strand < strands_of v.lattice k → head_of heads k strand ≡ replicate v.shape.block 0)
    → HasLoaded reveals v c heads 0 None
load_none reveals v c heads lattice size zeros = record {
  lattice = lattice;
  size = size;
  loaded = λ none k s has under lt. absurd (omega (arith, lt));
  rest = λ k s has under past. zeros k s has under;
  least = λ revealed b last lt. absurd (omega (arith, lt));
}

-- ---- the same over files that read the same, where the disk's contents are known

-- a head that is loaded from some files is loaded from others that are the same where the disk's contents are known
pub loaded_same : (reveals : Type 0) (v : Opened) (c d : Files) (class : Class) (head : List ℕ) → (reveals → c ≡ d) → (last : Option ℕ) → IsLoaded reveals v c class head last → IsLoaded reveals v d class head last
loaded_same reveals v c d class head same None loaded = loaded
loaded_same reveals v c d class head same (Some g) loaded =
    (loaded.0, loaded.1, λ revealed. subst (λ (f : Files). HasAtHome v.shape (block_of g class) (cell_of (block_of g class) head) f) (same revealed) (loaded.2 revealed))

-- what was found on a strand in some files is found there in others that are the same where the disk's contents are known
pub found_same : (reveals : Type 0) (v : Opened) (c d : Files) (class : Class) (strand : ℕ) → (reveals → c ≡ d) → (found : Option BlockId) → IsFoundOn reveals v c class strand found → IsFoundOn reveals v d class strand found
found_same reveals v c d class strand same None found = λ revealed b last is on. subst (λ (f : Files). IsIntactBy v.shape v.digests f b) (same revealed) (found revealed b last is on)
found_same reveals v c d class strand same (Some b) found =
    (found.0, found.1, found.2, λ revealed. subst (λ (f : Files). IsDamagedLast v.shape v.lattice v.digests f b) (same revealed) (found.3 revealed))

-- ---- what was found lies in the lattice

-- a block that was found on the first strands is one of the lattice
pub found_inside : (reveals : Type 0) (v : Opened) (c : Files) (count : ℕ) (found : Option BlockId) → IsFound reveals v c count found → IfSome found (HasBlock v.lattice)
found_inside reveals v c count None f = tt
found_inside reveals v c count (Some b) f = last_inside v.lattice b f.0

-- a block that was found on one strand is one of the lattice
pub found_on_inside : (reveals : Type 0) (v : Opened) (c : Files) (class : Class) (strand : ℕ) (found : Option BlockId) → IsFoundOn reveals v c class strand found → IfSome found (HasBlock v.lattice)
found_on_inside reveals v c class strand None f = tt
found_on_inside reveals v c class strand (Some b) f = last_inside v.lattice b f.0

-- the last open node of a strand lies on it
pub on_last : (l : Lattice) (c : Class) (strand g : ℕ) → last_open l c strand ≡ Some g → strand_of l c g ≡ strand
on_last l c strand g is =
    let at = IsLast-last_of (is_on l c strand (l.n + 1)) l.n g is in
    (prefixes.on_strand l c strand (l.n + 1) g at.passes).0
