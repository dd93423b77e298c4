-- The payloads of new blocks are those of the lattice of the data that go on.
use Rattle.std.proofs.Common.{◌≡◌, ⊎_elim, ℕ, zero, suc, ◌+◌, ◌-◌, ◌<◌, ◌≤◌, Bool, not, ◌&&◌, ◌==◌, List, [], ◌∷◌, ◌++◌, length, replicate, get_or, Option, Some, None, refl, sym, ◌∙◌, ap, subst, arith, length-append}
use Rattle.std.proofs.lemmas.Bool.{cases_lt}
use Rattle.std.proofs.lemmas.List.{append-nil, get_or-append_right}
use Rattle.std.proofs.lemmas.Option.{unwrap_or-slice_get}
use Rattle.aea_lattice.specs.declared.blocks.Class.{Class}
use Rattle.aea_lattice.specs.declared.blocks.Class.TheVariants.{Datum, Horiz, Right, Left}
use Rattle.aea_lattice.specs.declared.blocks.BlockId.{BlockId}
use Rattle.aea_lattice.specs.declared.grid.Lattice.{Lattice}
use Rattle.aea_lattice.specs.declared.shape.Shape.{Shape}
use Rattle.aea_lattice.specs.Blocks.{block_of, class_number, HasParity, HasBlock}
use Rattle.aea_lattice.specs.Fences.{is_parted}
use Rattle.aea_lattice.specs.Strands.{strand_of, is_on, nodes_on, previous}
use Rattle.aea_lattice.specs.Data.{IsDataList, xor_bytes, datum_at, value_at}
use Rattle.aea_lattice.specs.Ends.{last_of, last_open}
use Rattle.aea_lattice.specs.Growth.{IsGrown, Continues}
use Rattle.aea_lattice.proofs.Parted.{parted-past}
use Rattle.aea_lattice.proofs.Strands.{last_of-filter, last_node-found, IsLastNode, IsLastNode-last_node}
use Rattle.aea_lattice.proofs.Runs.{previous-suc}
use Rattle.aea_lattice.proofs.Prefixes.{IsLast-last_of, previous-first, previous-before, previous-strand}
use Rattle.aea_lattice.proofs.Opens.{strand-same}
use Rattle.aea_lattice.proofs.Sums.{value-after, value-begin}
use Rattle.aea_weave.specs.Sums.{LongerDataKeepValues}
use Rattle.aea_archive.specs.Lasts.{IsLastParity, AreLastsOf}
use Rattle.aea_archive.specs.Next.{HoldsData, IsWovenAfter, woven_parity}

get_or_default : (xs : List (List ℕ)) (k : ℕ) (a b : List ℕ) → k < length xs → get_or xs k a ≡ get_or xs k b
get_or_default [] k a b inside = absurd (omega arith)
get_or_default (x ∷ xs) zero a b inside = refl
get_or_default (x ∷ xs) (suc k) a b inside = get_or_default xs k a b (omega arith)

-- a last parity is a block of the lattice
pub last_inside : (l : Lattice) (b : BlockId) → IsLastParity l b → HasBlock l b
last_inside l b last =
    let at = IsLast-last_of (is_on l b.class (strand_of l b.class b.node) (l.n + 1)) l.n b.node last.last in
    record { first = at.first; last = at.most; used = last.parity.used }

-- a lattice that has grown continues the one before
pub grown-continues : (l m : Lattice) (n : ℕ) → IsGrown l n m → l.n ≤ n → Continues l m
grown-continues l m n grown more = record {
  shape = grown.shape;
  nodes = (let e = grown.nodes in omega (arith, e, more));
  later = [];
  fences = grown.fences ∙ sym (append-nil l.fences);
  beyond = λ k d inside. absurd (omega (arith, inside));
}

module _ (l m : Lattice) (n : ℕ) (grown : IsGrown l n m) where
  -- the lattice before determines which older nodes are joined with a new one
  on-before : (c : Class) (j strand here k : ℕ) → l.n ≤ j → strand ≡ here → is_on m c strand (suc j) k ≡ is_on l c here (l.n + 1) k
  on-before c j strand here k new same =
      let next : suc l.n ≡ l.n + 1 = omega arith in
      let later : suc l.n ≤ suc j = omega (arith, new) in
      ap (λ (s : ℕ). s == strand && not (is_parted m.fences k (suc j))) (strand-same l m grown.shape c k)
      ∙ ap (λ (s : ℕ). strand_of l c k == s && not (is_parted m.fences k (suc j))) same
      ∙ ap (λ (fs : List ℕ). strand_of l c k == here && not (is_parted fs k (suc j))) grown.fences
      ∙ ap (λ (b : Bool). strand_of l c k == here && not b) (parted-past l.n l.fences k (suc j) l.fenced later ∙ ap (is_parted l.fences k) next)

  -- the last of the older nodes on a strand that are joined with a later one is its last open one
  last-joined : (c : Class) (j g strand here : ℕ) → l.n ≤ j → g ≤ l.n → strand ≡ here → last_of (nodes_on m c strand (suc j) j) ≡ Some g → last_open l c here ≡ Some g
  last-joined c j g strand here new old same is =
      let p = is_on m c strand (suc j) in
      let last : IsLastNode p j g = IsLastNode-last_node p j g (sym (last_of-filter p j) ∙ is) in
      last_of-filter (is_on l c here (l.n + 1)) l.n
      ∙ last_node-found (is_on l c here (l.n + 1)) l.n g last.first old
      (sym (on-before c j strand here g new same) ∙ last.passes)
      (λ k gt below. sym (on-before c j strand here k new same) ∙ last.none k gt (omega (arith, below, new)))

  -- an older node that is the last open one of its strand was so before
  pub last-grown : (c : Class) (strand g : ℕ) → l.n ≤ m.n → g ≤ l.n → last_open m c strand ≡ Some g → last_open l c strand ≡ Some g
  last-grown c strand g more old is =
      let next : m.n + 1 ≡ suc m.n = omega arith in
      last-joined c m.n g strand strand more old refl (subst (λ (k : ℕ). last_of (nodes_on m c strand k m.n) ≡ Some g) next is)

  -- the parity that enters a new node from an older one is a last parity
  pub last-before : (c : Class) (i g : ℕ) → l.n < i → g ≤ l.n → previous m c i ≡ Some g → last_open l c (strand_of l c g) ≡ Some g
  last-before c zero g new old is = absurd (omega (arith, new))
  last-before c (suc j) g new old is =
      last-joined c j g (strand_of m c (suc j)) (strand_of l c g) (omega (arith, new)) old
      (sym (previous-strand m c (suc j) g is) ∙ strand-same l m grown.shape c g) (sym (previous-suc m c j) ∙ is)

  module _ (shape : Shape) (w : ℕ) (wide : w ≡ shape.block) (more : l.n ≤ n) (datas news : List (List ℕ)) (payload : BlockId → List ℕ) (longer : LongerDataKeepValues) (long : length datas ≡ l.n)
      (is : IsDataList m w (datas ++ news)) (lasts : AreLastsOf shape l datas payload) (holds : HoldsData l.n news payload) (woven : IsWovenAfter m l.n payload) where
    datum-new : (i : ℕ) → l.n < i → i ≤ m.n → payload (block_of i Datum) ≡ datum_at w (datas ++ news) i
    datum-new i new most =
        let size : length datas + length news ≡ m.n = sym (length-append datas news) ∙ is.long in
        let k : i ≡ l.n + 1 + (i - l.n - 1) = omega (arith, new) in
        let inside : i - l.n - 1 < length news = omega (arith, size, long, new, most) in
        let place : i - 1 ≡ length datas + (i - l.n - 1) = omega (arith, long, new) in
        let rest : i - l.n - 1 ≡ i - 1 - length datas = omega (arith, long, new) in
        ap (λ (j : ℕ). payload (block_of j Datum)) k
        ∙ holds (i - l.n - 1) inside
        ∙ get_or_default news (i - l.n - 1) [] (replicate w 0) inside
        ∙ ap (λ (j : ℕ). get_or news j (replicate w 0)) rest
        ∙ sym (get_or-append_right datas news (length datas) (i - 1) (replicate w 0) refl (omega (arith, place)))
        ∙ sym (unwrap_or-slice_get (datas ++ news) (i - 1) (replicate w 0))

    -- an older parity that enters
    entering : (c : Class) (i g : ℕ) → HasParity m c → l.n < i → g ≤ l.n → previous m c i ≡ Some g → payload (block_of g c) ≡ value_at m w (datas ++ news) g c
    entering c i g parity new old before =
        let u : class_number c ≤ l.alpha = (let a = parity.used in let e = grown.shape.alpha in omega (arith, a, e)) in
        lasts (block_of g c) (record { parity = record { parity = parity.parity; used = u }; last = last-before c i g new old before })
        ∙ ap (λ (x : ℕ). value_at l x datas g c) (sym wide)
        ∙ sym (longer l m (grown-continues l m n grown more) w datas news long (block_of g c) (record { first = previous-first m c i g before; last = old; used = u }))

    step : (c : Class) (i : ℕ) → HasParity m c → l.n < i → i ≤ m.n
        → ((g : ℕ) → l.n < g → g < i → payload (block_of g c) ≡ value_at m w (datas ++ news) g c)
        → (p : Option ℕ) → previous m c i ≡ p → woven_parity payload c i p ≡ value_at m w (datas ++ news) i c
    step c i parity new most earlier None is_none =
        datum-new i new most ∙ sym (value-begin m w (datas ++ news) i c parity.parity is (omega (arith, new)) is_none)
    step c i parity new most earlier (Some g) is_some =
        let enters : payload (block_of g c) ≡ value_at m w (datas ++ news) g c =
        ⊎_elim (λ gt. earlier g gt (previous-before m c i g is_some)) (λ le. entering c i g parity new le is_some) (cases_lt l.n g) in
        ap (λ (v : List ℕ). xor_bytes v (payload (block_of i Datum))) enters
        ∙ ap (xor_bytes (value_at m w (datas ++ news) g c)) (datum-new i new most)
        ∙ sym (value-after m w (datas ++ news) i g c parity.parity is_some)

    parity-to : (bound : ℕ) (c : Class) (i : ℕ) → i ≤ bound → HasParity m c → l.n < i → i ≤ m.n → payload (block_of i c) ≡ value_at m w (datas ++ news) i c
    parity-to zero c i below parity new most = absurd (omega (arith, below, new))
    parity-to (suc bound) c i below parity new most =
        woven i c new most parity
        ∙ step c i parity new most (λ g gt lt. parity-to bound c g (omega (arith, below, lt)) parity gt (omega (arith, lt, most))) (previous m c i) refl

    -- each new block
    pub value-new : (c : Class) (i : ℕ) → l.n < i → i ≤ m.n → class_number c ≤ m.alpha → payload (block_of i c) ≡ value_at m w (datas ++ news) i c
    value-new Datum i new most used = datum-new i new most
    value-new Horiz i new most used = parity-to i Horiz i (omega arith) (record { parity = omega arith; used = used }) new most
    value-new Right i new most used = parity-to i Right i (omega arith) (record { parity = omega arith; used = used }) new most
    value-new Left i new most used = parity-to i Left i (omega arith) (record { parity = omega arith; used = used }) new most
