-- The digests of all blocks: those of the blocks before, and after them those of the new ones.
use Rattle.std.proofs.Common.{◌≡◌, ⊎_elim, ℕ, zero, suc, ◌+◌, ◌-◌, ◌*◌, ◌/◌, ◌%◌, ◌<◌, ◌≤◌, List, [], ◌++◌, length, map, get_or, refl, sym, ◌∙◌, ap, subst, arith, length-append}
use Rattle.std.specs.Prelude.{slice_get, Some}
use Rattle.std.proofs.lemmas.Bool.{cases_lt}
use Rattle.std.proofs.lemmas.List.{length-map, get_or-map, get_or_append_left, get_or-append_right, ext_get_or}
use Rattle.std.proofs.lemmas.Option.{get_or_from_slice_get}
use Rattle.std.proofs.Math.Nat.{mul_comm, mod-lt, div-add-mod, div-lt_iff_lt-mul}
use Rattle.aea_lattice.specs.declared.blocks.Class.{Class}
use Rattle.aea_lattice.specs.declared.blocks.Class.TheVariants.{Datum, Horiz, Right, Left}
use Rattle.aea_lattice.specs.declared.blocks.BlockId.{BlockId}
use Rattle.aea_lattice.specs.declared.grid.Lattice.{Lattice}
use Rattle.aea_lattice.specs.declared.shape.Shape.{Shape}
use Rattle.aea_lattice.specs.Blocks.{block_of, class_number, HasBlock, number_of, blocks_of, blocks_count}
use Rattle.aea_lattice.specs.Shapes.{number_in}
use Rattle.aea_lattice.specs.Data.{value_of}
use Rattle.aea_lattice.specs.Growth.{IsGrown}
use Rattle.aea_lattice.proofs.Equations.{number_below}
use Rattle.aea_lattice.proofs.Numbers.{one_to_three, length-blocks_of, slice_get-blocks_of}
use Rattle.aea_envelope.specs.Cells.{block_digest}
use Rattle.aea_weave.specs.Sums.{LongerDataKeepValues}
use Rattle.aea_archive.specs.Blocks.{IsBlockOn}
use Rattle.aea_archive.specs.Next.{AreDigestsOn}
use Rattle.aea_archive.proofs.Values.{grown-continues}

-- the class with this number
abbrev class_of : ℕ → Class
class_of zero = Datum
class_of (suc zero) = Horiz
class_of (suc (suc zero)) = Right
class_of (suc (suc (suc k))) = Left

class_of-number : (k : ℕ) → k ≤ 3 → class_number (class_of k) ≡ k
class_of-number zero le = refl
class_of-number (suc zero) le = refl
class_of-number (suc (suc zero)) le = refl
class_of-number (suc (suc (suc k))) le = omega (arith, le)

-- each number below the count of blocks is that of one of them
pub record IsNumbered (l : Lattice) (k : ℕ) : Type 0 where
  pub block : BlockId
  pub has : HasBlock l block
  pub number : number_of l block ≡ k

pub numbered : (l : Lattice) (k : ℕ) → k < blocks_count l → IsNumbered l k
numbered l k below =
    let w = 1 + l.alpha in
    let alpha : l.alpha ≤ 3 = ⊎_elim (λ one. omega (arith, one)) (λ more. ⊎_elim (λ two. omega (arith, two)) (λ three. omega (arith, three)) more) (one_to_three l) in
    let some : 0 < 1 + l.alpha = omega arith in
    let class : k % (1 + l.alpha) < 1 + l.alpha = mod-lt k some in
    let row : k / (1 + l.alpha) < l.n = (div-lt_iff_lt-mul {k = 1 + l.alpha} {x = k} {y = l.n} some).1 below in
    let is : class_number (class_of (k % (1 + l.alpha))) ≡ k % (1 + l.alpha) = class_of-number (k % (1 + l.alpha)) (omega (arith, class, alpha)) in
    let sum : (1 + l.alpha) * (k / (1 + l.alpha)) + k % (1 + l.alpha) ≡ k = div-add-mod k (1 + l.alpha) in
    let node : k / (1 + l.alpha) + 1 - 1 ≡ k / (1 + l.alpha) = omega arith in
    record {
      block = block_of (k / (1 + l.alpha) + 1) (class_of (k % (1 + l.alpha)));
      has = record { first = omega arith; last = omega (arith, row); used = omega (arith, is, class) };
      number = ap (λ (x : ℕ). x * (1 + l.alpha) + class_number (class_of (k % (1 + l.alpha)))) node
          ∙ ap (λ (x : ℕ). k / (1 + l.alpha) * (1 + l.alpha) + x) is
          ∙ ap (λ (x : ℕ). x + k % (1 + l.alpha)) (mul_comm (k / (1 + l.alpha)) (1 + l.alpha))
          ∙ sum;
    }

rows_both : (a n m : ℕ) → n ≤ m → n * (1 + a) + (m - n) * (1 + a) ≡ m * (1 + a)
rows_both a n m le =
    let sum : n + (m - n) ≡ m = omega (arith, le) in
    sym (add-mul n (m - n) (1 + a)) ∙ ap (λ (x : ℕ). x * (1 + a)) sum
  where
    add-mul : (x y z : ℕ) → (x + y) * z ≡ x * z + y * z
    add-mul x y z = omega arith

module _ (longer : LongerDataKeepValues) (shape : Shape) (l m : Lattice) (grown : IsGrown l m.n m) (more : l.n ≤ m.n) (alpha : l.alpha ≡ shape.alpha) (w : ℕ) (datas news : List (List ℕ)) (long : length datas ≡ l.n) (payload : BlockId → List ℕ)
    (values : (b : BlockId) → IsBlockOn shape l.n m.n b → payload b ≡ value_of m w (datas ++ news) b) where
  abbrev old_digest : BlockId → List ℕ
  old_digest b = block_digest b (value_of l w datas b)

  abbrev new_digest : BlockId → List ℕ
  new_digest b = block_digest b (value_of m w (datas ++ news) b)

  -- of a block of the lattice before
  digest-before : (olds : List (List ℕ)) → olds ≡ map old_digest (blocks_of l) → (b : BlockId) → HasBlock l b → (i : ℕ) → number_of l b ≡ i → get_or olds i [] ≡ new_digest b
  digest-before olds are b has i at =
      let inside : i < length (blocks_of l) = omega (arith, number_below l b has, length-blocks_of l, at) in
      ap (λ (ds : List (List ℕ)). get_or ds i []) are
      ∙ get_or-map old_digest (blocks_of l) i b [] inside
      ∙ ap old_digest (get_or_from_slice_get (blocks_of l) i b b (subst (λ (k : ℕ). slice_get (blocks_of l) k ≡ Some b) at (slice_get-blocks_of l b has)))
      ∙ sym (ap (block_digest b) (longer l m (grown-continues l m m.n grown more) w datas news long b has))

  -- of any block, among those of the longer lattice
  digest-all : (b : BlockId) → HasBlock m b → (i : ℕ) → number_of m b ≡ i → get_or (map new_digest (blocks_of m)) i [] ≡ new_digest b
  digest-all b has i at =
      let inside : i < length (blocks_of m) = omega (arith, number_below m b has, length-blocks_of m, at) in
      get_or-map new_digest (blocks_of m) i b [] inside
      ∙ ap new_digest (get_or_from_slice_get (blocks_of m) i b b (subst (λ (k : ℕ). slice_get (blocks_of m) k ≡ Some b) at (slice_get-blocks_of m b has)))

  same_number : (b : BlockId) → number_of m b ≡ number_of l b
  same_number b = ap (λ (a : ℕ). (b.node - 1) * (1 + a) + class_number b.class) grown.shape.alpha

  number_shape : (b : BlockId) → number_of m b ≡ number_in shape b
  number_shape b = ap (λ (a : ℕ). (b.node - 1) * (1 + a) + class_number b.class) (grown.shape.alpha ∙ alpha)

  -- a block whose number is past those of the lattice before is new
  is_new : (b : BlockId) → HasBlock m b → blocks_count l ≤ number_of m b → l.n < b.node
  is_new b has past =
      ⊎_elim (λ new. new)
      (λ old. absurd (let used : class_number b.class ≤ l.alpha = (let u = has.used in let e = grown.shape.alpha in omega (arith, u, e)) in
      let below = number_below l b (record { first = has.first; last = old; used = used }) in
      omega (arith, below, past, same_number b)))
      (cases_lt l.n b.node)

  -- the digests of the old blocks, with those of the new ones after them, are those of all blocks of the grown
  -- lattice, where the new payloads are its values
  pub digests-joined : (olds ds : List (List ℕ)) → olds ≡ map old_digest (blocks_of l) → AreDigestsOn shape l.n m.n payload ds → olds ++ ds ≡ map new_digest (blocks_of m)
  digests-joined olds ds are on =
      let size : length olds ≡ l.n * (1 + l.alpha) = ap length are ∙ length-map (blocks_of l) old_digest ∙ length-blocks_of l in
      let more_size : length ds ≡ (m.n - l.n) * (1 + l.alpha) = on.long ∙ ap (λ (a : ℕ). (m.n - l.n) * (1 + a)) (sym alpha) in
      let all : length (olds ++ ds) ≡ blocks_count m =
      length-append olds ds ∙ ap (λ (x : ℕ). x + length ds) size ∙ ap (λ (x : ℕ). l.n * (1 + l.alpha) + x) more_size
      ∙ rows_both l.alpha l.n m.n more ∙ ap (λ (a : ℕ). m.n * (1 + a)) (sym grown.shape.alpha) in
      ext_get_or [] (olds ++ ds) (map new_digest (blocks_of m))
      (all ∙ sym (length-blocks_of m) ∙ sym (length-map (blocks_of m) new_digest))
      (λ i inside.
      let b = numbered m i (omega (arith, inside, all)) in
      ⊎_elim
      (λ old.
      let a = numbered l i (omega (arith, old, size)) in
      let u : class_number a.block.class ≤ m.alpha = (let u = a.has.used in let e = grown.shape.alpha in omega (arith, u, e)) in
      get_or_append_left olds ds [] i old
      ∙ digest-before olds are a.block a.has i a.number
      ∙ sym (digest-all a.block (record { first = a.has.first; last = (let x = a.has.last in omega (arith, x, more)); used = u }) i (same_number a.block ∙ a.number)))
      (λ past.
      let used : class_number b.block.class ≤ shape.alpha = (let u = b.has.used in let e = grown.shape.alpha in omega (arith, u, e, alpha)) in
      let new : IsBlockOn shape l.n m.n b.block = record { after = is_new b.block b.has (omega (arith, past, size, b.number)); most = b.has.last; used = used } in
      let place : i - length olds ≡ number_in shape b.block - l.n * (1 + shape.alpha) =
      ap (λ (x : ℕ). x - length olds) (sym b.number ∙ number_shape b.block) ∙ ap (λ (x : ℕ). number_in shape b.block - x) (size ∙ ap (λ (a : ℕ). l.n * (1 + a)) alpha) in
      get_or-append_right olds ds (length olds) i [] refl past
      ∙ ap (λ (k : ℕ). get_or ds k []) place
      ∙ on.each b.block new
      ∙ ap (block_digest b.block) (values b.block new)
      ∙ sym (digest-all b.block b.has i b.number))
      (cases_lt i (length olds)))
