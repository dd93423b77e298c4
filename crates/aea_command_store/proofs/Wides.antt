-- The payloads of new blocks are of a block's size, where those of the last parities before them are.
use Rattle.std.proofs.Common.{◌≡◌, ◌≢◌, ⊎_elim, ℕ, zero, suc, ◌+◌, ◌-◌, ◌<◌, ◌≤◌, List, [], ◌∷◌, length, Option, Some, None, All, sym, ◌∙◌, ap, refl, arith}
use Rattle.std.proofs.lemmas.Bool.{cases_lt}
use Rattle.std.proofs.lemmas.List.Elements.{All-head, All-tail}
use Rattle.aea_lattice.specs.declared.blocks.Class.{Class}
use Rattle.aea_lattice.specs.declared.blocks.Class.TheVariants.{Datum, Horiz, Right, Left}
use Rattle.aea_lattice.specs.declared.blocks.BlockId.{BlockId}
use Rattle.aea_lattice.specs.declared.grid.Lattice.{Lattice}
use Rattle.aea_lattice.specs.declared.shape.Shape.{Shape}
use Rattle.aea_lattice.specs.Blocks.{block_of, class_number, HasParity}
use Rattle.aea_lattice.specs.Strands.{previous}
use Rattle.aea_lattice.proofs.Prefixes.{previous-before}
use Rattle.aea_lattice.proofs.Sums.{length-xor_bytes}
use Rattle.aea_records.specs.Format.{Stored, Record, nodes_for}
use Rattle.aea_records.specs.TableLaws.{AreBytes}
use Rattle.aea_archive.specs.Next.{NewObject, woven_parity, IsNextStored, AreNextRecords}
use Rattle.aea_archive.proofs.Pieces.{cut-length, cut-bytes}
use Rattle.aea_archive.proofs.Values.{last_inside}
use Rattle.aea_append.specs.Puts.{AreLastsWide, AreBlocksWide}
use Rattle.aea_command_store.proofs.Agreeing.{last_was, enters_last}

module _ (shape : Shape) (l m : Lattice) (payload : BlockId → List ℕ) (name bytes : List ℕ) (o : Stored) (next : IsNextStored shape l m payload name bytes o) (alpha : l.alpha ≡ shape.alpha) (lasts : AreLastsWide shape l payload) (are : AreBytes bytes) where
  no_fewer : l.n ≤ m.n
  no_fewer = let n = next.grown.nodes in omega (arith, n)

  -- a datum is a piece of the object
  datum_wide : (i : ℕ) → l.n < i → i ≤ m.n → length (payload (block_of i Datum)) ≡ shape.block
  datum_wide i after most =
      let k = i - (l.n + 1) in
      let long = cut-length shape.block (nodes_for shape (length bytes)) bytes in
      let nodes = next.grown.nodes in
      let count = next.count in
      let here : l.n + 1 + k ≡ i = omega (arith, after) in
      let inside : k < nodes_for shape (length bytes) = omega (arith, after, most, nodes, count) in
      ap length (ap (λ (j : ℕ). payload (block_of j Datum)) (sym here) ∙ next.blocks k (omega (arith, inside, long)))
      ∙ (cut-bytes shape.block (nodes_for shape (length bytes)) bytes are k [] (omega (arith, inside, long))).wide

  -- a parity is its datum and the parity that enters its node
  woven_wide : (i : ℕ) (c : Class) → l.n < i → i ≤ m.n → HasParity m c → (q : Option ℕ) → previous m c i ≡ q → ((g : ℕ) → l.n < g → g < i → length (payload (block_of g c)) ≡ shape.block) → length (woven_parity payload c i q) ≡ shape.block
  woven_wide i c after most has None is below = datum_wide i after most
  woven_wide i c after most has (Some g) is below =
      let before = previous-before m c i g is in
      let wide : length (payload (block_of g c)) ≡ shape.block = ⊎_elim
      (λ new. below g new (omega (arith, before)))
      (λ old. lasts (block_of g c) (enters_last l m (l.n + o.count) next.grown no_fewer c i g has after old is))
      (cases_lt l.n g) in
      length-xor_bytes (payload (block_of g c)) (payload (block_of i Datum)) (wide ∙ sym (datum_wide i after most)) ∙ datum_wide i after most

  parity_wide : (i : ℕ) (c : Class) → l.n < i → i ≤ m.n → HasParity m c → ((g : ℕ) → l.n < g → g < i → length (payload (block_of g c)) ≡ shape.block) → length (payload (block_of i c)) ≡ shape.block
  parity_wide i c after last has below = ap length (next.woven i c after last has) ∙ woven_wide i c after last has (previous m c i) refl below

  wide_to : (most i : ℕ) → i ≤ most → l.n < i → i ≤ m.n → (c : Class) → class_number c ≤ m.alpha → length (payload (block_of i c)) ≡ shape.block
  wide_to zero i few after last c used = absurd (omega (arith, few, after))
  wide_to (suc most) i few after last Datum used = datum_wide i after last
  wide_to (suc most) i few after last Horiz used = parity_wide i Horiz after last (record { parity = omega arith; used = used }) (λ g new before. wide_to most g (omega (arith, few, before)) new (omega (arith, before, last)) Horiz used)
  wide_to (suc most) i few after last Right used = parity_wide i Right after last (record { parity = omega arith; used = used }) (λ g new before. wide_to most g (omega (arith, few, before)) new (omega (arith, before, last)) Right used)
  wide_to (suc most) i few after last Left used = parity_wide i Left after last (record { parity = omega arith; used = used }) (λ g new before. wide_to most g (omega (arith, few, before)) new (omega (arith, before, last)) Left used)

  -- the blocks of one object
  wide_one : AreBlocksWide shape l.n m.n payload
  wide_one b on = wide_to b.node b.node (omega arith) on.after on.most b.class (let u = on.used in let a = next.grown.shape.alpha in omega (arith, u, a, alpha))

  -- and the last parities then
  lasts_then : AreLastsWide shape m payload
  lasts_then b last = ⊎_elim
      (λ new. wide_one b (record { after = new; most = (last_inside m b last).last; used = (let u = last.parity.used in let a = next.grown.shape.alpha in omega (arith, u, a, alpha)) }))
      (λ old. lasts b (last_was l m (l.n + o.count) next.grown no_fewer b last old))
      (cases_lt l.n b.node)

-- those of several, one after the other
pub wide_next : (shape : Shape) (l m : Lattice) (payload : BlockId → List ℕ) (objects : List NewObject) (added : List Record) → l.alpha ≡ shape.alpha → (objects ≢ [] → AreLastsWide shape l payload) → All (λ o. AreBytes o.bytes) objects
    → AreNextRecords shape l m payload objects added → AreBlocksWide shape l.n m.n payload
wide_next shape l m payload [] [] alpha lasts are same b on = absurd (let a = on.after in let most = on.most in let n = ap (λ (j : Lattice). j.n) same in omega (arith, a, most, n))
wide_next shape l m payload [] (r ∷ added) alpha lasts are none b on = absurd none
wide_next shape l m payload (o ∷ objects) [] alpha lasts are none b on = absurd none
wide_next shape l m payload (o ∷ objects) (r ∷ added) alpha lasts are next b on =
    let mid = next.0 in
    let first : AreLastsWide shape l payload = lasts (λ e. let h : o ∷ objects ≡ [] = e in cc) in
    let bytes = All-head (λ (q : NewObject). AreBytes q.bytes) o objects are in
    ⊎_elim
    (λ late.
    wide_next shape mid m payload objects added (next.3.grown.shape.alpha ∙ alpha) (λ some. lasts_then shape l mid payload o.name o.bytes next.1 next.3 alpha first bytes) (All-tail (λ (q : NewObject). AreBytes q.bytes) o objects are) next.4 b
    (record { after = late; most = on.most; used = on.used }))
    (λ early. wide_one shape l mid payload o.name o.bytes next.1 next.3 alpha first bytes b (record { after = on.after; most = early; used = on.used }))
    (cases_lt mid.n b.node)
