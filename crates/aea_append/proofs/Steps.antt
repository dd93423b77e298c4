-- One more node that is woven and written.
use Rattle.std.proofs.Common.{◌≡◌, ◌≢◌, ⊎_elim, ℕ, suc, ◌+◌, ◌-◌, ◌<◌, ◌≤◌, Bool, true, false, cond, ◌==◌, List, [], ◌∷◌, ◌++◌, map, length, replicate, get_or, Option, Some, None, refl, sym, ◌∙◌, ap, subst, arith, length-append}
use Rattle.std.proofs.lemmas.Bool.{cases_eq, cases_lt}
use Rattle.std.proofs.lemmas.Bool.Decides.{nat_tests}
use Rattle.std.proofs.lemmas.List.{get_or-append_right, get_or_append_left}
use Rattle.aea_lattice.specs.declared.blocks.Class.{Class}
use Rattle.aea_lattice.specs.declared.blocks.Class.TheVariants.{Datum, Horiz, Right, Left}
use Rattle.aea_lattice.specs.declared.blocks.BlockId.{BlockId}
use Rattle.aea_lattice.specs.declared.grid.Lattice.{Lattice}
use Rattle.aea_lattice.specs.declared.shape.Shape.{Shape}
use Rattle.aea_lattice.specs.Blocks.{block_of, class_number, HasParity, classes}
use Rattle.aea_lattice.specs.Strands.{strand_of, is_on, previous, next_to_last}
use Rattle.aea_lattice.specs.Data.{xor_bytes}
use Rattle.aea_lattice.specs.Ends.{strands_of, open_nodes, last_of, last_open}
use Rattle.aea_lattice.specs.Facts.{LastsEnter}
use Rattle.aea_lattice.proofs.Prefixes.{IsLast-last_of, filter-same, previous-before}
use Rattle.aea_lattice.proofs.Strands.{last_of-snoc}
use Rattle.aea_lattice.proofs.Sums.{xor_bytes-zeros}
use Rattle.aea_lattice.proofs.Opens.{strand-same, on-continued, open-own, open-other}
use Rattle.aea_envelope.specs.Cells.{block_digest, cell_of}
use Rattle.aea_disk.specs.Files.{Files}
use Rattle.aea_shelf.specs.Places.{HasAtHome}
use Rattle.aea_weave.specs.Woven.{Woven, head_of, Weaves}
use Rattle.aea_weave.proofs.Places.{strand-below}
use Rattle.aea_archive.specs.Blocks.{IsBlockOn}
use Rattle.aea_archive.specs.Next.{HoldsData, IsWovenAfter, woven_parity, AreDigestsOn}
use Rattle.aea_archive.proofs.Values.{last_inside, grown-continues}
use Rattle.aea_append.specs.Weaving.{last_payload, last_digest, head_by, AreHeads, AreLastAtHome, HasWoven}
use Rattle.aea_append.proofs.Placed.{digests-push}

differ_test : (a b : ℕ) → a < b → (a == b) ≡ false
differ_test a b lt = grind (arith, nat_tests)

same_test : (a : ℕ) → (a == a) ≡ true
same_test a = grind (arith, nat_tests)

module _ (enter : LastsEnter) (v w : Woven) (x : List ℕ) (weaves : Weaves v w x) (wide : length x ≡ v.size) where
  grown_n : w.lattice.n ≡ v.lattice.n + 1
  grown_n = weaves.grown.nodes

  -- up to the last node before, the prefixes stay
  previous-same : (c : Class) (i : ℕ) → i ≤ v.lattice.n → previous w.lattice c i ≡ previous v.lattice c i
  previous-same c i le =
      ap next_to_last
      (filter-same (is_on w.lattice c (strand_of w.lattice c i) i) (is_on v.lattice c (strand_of v.lattice c i) i) i
      (λ k below. on-continued v.lattice w.lattice (grown-continues v.lattice w.lattice (v.lattice.n + 1) weaves.grown (omega arith)) c i k le))

  strands-same : (c : Class) → strands_of w.lattice c ≡ strands_of v.lattice c
  strands-same Datum = refl
  strands-same Horiz = weaves.grown.shape.s
  strands-same Right = weaves.grown.shape.p
  strands-same Left = weaves.grown.shape.p

  parity-old : (c : Class) → HasParity w.lattice c → HasParity v.lattice c
  parity-old c h = record { parity = h.parity; used = let u = h.used in let e = weaves.grown.shape.alpha in omega arith }

  -- the new node is the last one of its strand
  last-own : (c : Class) → last_open w.lattice c (strand_of w.lattice c w.lattice.n) ≡ Some w.lattice.n
  last-own c =
      let node : suc v.lattice.n ≡ w.lattice.n = omega (arith, grown_n) in
      ap last_of (open-own v.lattice w.lattice weaves.grown c) ∙ last_of-snoc (open_nodes v.lattice c (strand_of w.lattice c w.lattice.n)) (suc v.lattice.n) ∙ ap Some node

  last-other : (c : Class) (strand : ℕ) → strand ≢ strand_of w.lattice c w.lattice.n → last_open w.lattice c strand ≡ last_open v.lattice c strand
  last-other c strand other = ap last_of (open-other v.lattice w.lattice weaves.grown c strand other)

  -- a last open node is one of the lattice
  last-within : (c : Class) (strand g : ℕ) → last_open v.lattice c strand ≡ Some g → g ≤ v.lattice.n
  last-within c strand g is = (let at = IsLast-last_of (is_on v.lattice c strand (v.lattice.n + 1)) v.lattice.n g is in at.most)

  -- what is before the new node
  enters : (c : Class) → previous w.lattice c w.lattice.n ≡ last_open v.lattice c (strand_of w.lattice c w.lattice.n)
  enters c =
      ap (previous w.lattice c) grown_n
      ∙ enter v.lattice w.lattice (v.lattice.n + 1) weaves.grown c
      ∙ ap (last_open v.lattice c) (sym (strand-same v.lattice w.lattice weaves.grown.shape c (v.lattice.n + 1)) ∙ ap (strand_of w.lattice c) (sym grown_n))

  parity-last : (c : Class) → 1 ≤ class_number c → last_payload w x c ≡ head_of w c (strand_of w.lattice c w.lattice.n)
  parity-last Datum some = absurd (omega arith)
  parity-last Horiz some = refl
  parity-last Right some = refl
  parity-last Left some = refl

  module _ (payload : BlockId → List ℕ) where
    -- the payloads with those of the new node
    abbrev pub next : BlockId → List ℕ
    next b = cond (b.node == w.lattice.n) (last_payload w x b.class) (payload b)

    pub next-old : (b : BlockId) → b.node ≤ v.lattice.n → next b ≡ payload b
    next-old b le = ap (λ (t : Bool). cond t (last_payload w x b.class) (payload b)) (differ_test b.node w.lattice.n (omega (arith, le, grown_n)))

    pub next-new : (c : Class) → next (block_of w.lattice.n c) ≡ last_payload w x c
    next-new c = ap (λ (t : Bool). cond t (last_payload w x c) (payload (block_of w.lattice.n c))) (same_test w.lattice.n)

    head-same : (c : Class) (strand : ℕ) (o : Option ℕ) → last_open v.lattice c strand ≡ o → head_by v.size payload c o ≡ head_by w.size next c o
    head-same c strand None is = ap (λ (s : ℕ). replicate s 0) (sym weaves.size)
    head-same c strand (Some g) is = sym (next-old (block_of g c) (last-within c strand g is))

    pub heads-new : AreHeads v payload → AreHeads w next
    heads-new heads c strand parity below = ⊎_elim
        (λ e.
        ap (head_of w c) e ∙ sym (parity-last c parity.parity) ∙ sym (next-new c)
        ∙ ap (head_by w.size next c) (sym (last-own c) ∙ ap (last_open w.lattice c) (sym e)))
        (λ other.
        weaves.others c strand parity below other
        ∙ heads c strand (parity-old c parity) (omega (arith, below, strands-same c))
        ∙ head-same c strand (last_open v.lattice c strand) refl
        ∙ ap (head_by w.size next c) (sym (last-other c strand other)))
        (cases_eq strand (strand_of w.lattice c w.lattice.n))

    woven-old : (c : Class) (i : ℕ) → i ≤ v.lattice.n → (p : Option ℕ) → previous v.lattice c i ≡ p → woven_parity payload c i p ≡ woven_parity next c i p
    woven-old c i le None is = sym (next-old (block_of i Datum) le)
    woven-old c i le (Some g) is =
        let before = previous-before v.lattice c i g is in
        ap (λ (a : List ℕ). xor_bytes a (payload (block_of i Datum))) (sym (next-old (block_of g c) (omega (arith, before, le))))
        ∙ ap (xor_bytes (next (block_of g c))) (sym (next-old (block_of i Datum) le))

    -- the parity of the new node, from the last open node of its strand before it
    woven-last : (c : Class) (strand : ℕ) (o : Option ℕ) → last_open v.lattice c strand ≡ o → xor_bytes (head_by v.size payload c o) x ≡ woven_parity next c w.lattice.n o
    woven-last c strand None is = xor_bytes-zeros v.size x wide ∙ sym (next-new Datum)
    woven-last c strand (Some g) is =
        ap (λ (a : List ℕ). xor_bytes a x) (sym (next-old (block_of g c) (last-within c strand g is)))
        ∙ ap (xor_bytes (next (block_of g c))) (sym (next-new Datum))

    pub woven-new : (n : ℕ) → AreHeads v payload → IsWovenAfter v.lattice n payload → IsWovenAfter w.lattice n next
    woven-new n heads woven i c after most parity = ⊎_elim
        (λ gt.
        let is : i ≡ w.lattice.n = omega (arith, gt, most, grown_n) in
        let strand = strand_of w.lattice c w.lattice.n in
        let below : strand_of w.lattice c w.lattice.n < strands_of v.lattice c = omega (arith, strand-below w.lattice c w.lattice.n parity, strands-same c) in
        let here : next (block_of w.lattice.n c) ≡ woven_parity next c w.lattice.n (previous w.lattice c w.lattice.n) =
        next-new c ∙ parity-last c parity.parity ∙ weaves.own c parity
        ∙ ap (λ (a : List ℕ). xor_bytes a x) (heads c (strand_of w.lattice c w.lattice.n) (parity-old c parity) below)
        ∙ woven-last c (strand_of w.lattice c w.lattice.n) (last_open v.lattice c (strand_of w.lattice c w.lattice.n)) refl
        ∙ ap (woven_parity next c w.lattice.n) (sym (enters c)) in
        subst (λ (k : ℕ). next (block_of k c) ≡ woven_parity next c k (previous w.lattice c k)) (sym is) here)
        (λ le.
        next-old (block_of i c) le
        ∙ woven i c after le (parity-old c parity)
        ∙ woven-old c i le (previous v.lattice c i) refl
        ∙ ap (woven_parity next c i) (sym (previous-same c i le)))
        (cases_lt v.lattice.n i)

    pub data-new : (n : ℕ) (datas : List (List ℕ)) → v.lattice.n ≡ n + length datas → HoldsData n datas payload → HoldsData n (datas ++ x ∷ []) next
    data-new n datas count holds k below = ⊎_elim
        (λ inside.
        next-old (block_of (n + 1 + k) Datum) (omega (arith, inside, count))
        ∙ holds k inside ∙ sym (get_or_append_left datas (x ∷ []) [] k inside))
        (λ past.
        let is : k ≡ length datas = omega (arith, past, below, length-append datas (x ∷ [])) in
        let node : n + 1 + k ≡ w.lattice.n = omega (arith, is, count, grown_n) in
        let rest : k - length datas ≡ 0 = omega (arith, is) in
        ap (λ (i : ℕ). next (block_of i Datum)) node ∙ next-new Datum
        ∙ sym (ap (λ (j : ℕ). get_or (x ∷ []) j []) rest)
        ∙ sym (get_or-append_right datas (x ∷ []) (length datas) k [] refl past))
        (cases_lt k (length datas))

    pub digests-new : (shape : Shape) (n : ℕ) (digests : List (List ℕ)) → w.lattice.alpha ≡ shape.alpha → n ≤ v.lattice.n → AreDigestsOn shape n v.lattice.n payload digests
        → AreDigestsOn shape n w.lattice.n next (digests ++ map (last_digest w x) (Datum ∷ classes w.lattice))
    digests-new shape n digests alpha within are =
        digests-push shape n v w x payload next digests grown_n alpha within (λ b on. next-old b on.most) (λ c used. next-new c) are

-- one more node, with its cells and digests
pub woven_step : LastsEnter → (reveals : Type 0) (shape : Shape) (l : Lattice) (recorded : List (List ℕ)) (first files after : Files) (v w : Woven) (datas digests : List (List ℕ)) (x : List ℕ)
    → Weaves v w x → length x ≡ v.size → w.lattice.alpha ≡ shape.alpha → HasWoven reveals shape l recorded first files v datas digests
    → (reveals → (b : BlockId) (bytes : List ℕ) → IsBlockOn shape l.n v.lattice.n b → length bytes ≡ shape.block → HasAtHome shape b (cell_of b bytes) files → HasAtHome shape b (cell_of b bytes) after)
    → (reveals → AreLastAtHome shape w x after)
    → ((c : Class) → class_number c ≤ shape.alpha → length (last_payload w x c) ≡ shape.block)
    → HasWoven reveals shape l recorded first after w (datas ++ x ∷ []) (digests ++ map (last_digest w x) (Datum ∷ classes w.lattice))
woven_step enter reveals shape l recorded first files after v w datas digests x weaves wide alpha has stays cells sizes =
    let grown = weaves.grown.nodes in
    let nodes = has.grown.nodes in
    let within : l.n ≤ v.lattice.n = omega (arith, nodes) in
    let inside : (b : BlockId) → b.node ≤ l.n → next enter v w x weaves wide has.payload b ≡ has.payload b = λ b le. next-old enter v w x weaves wide has.payload b (omega (arith, le, within)) in
    record {
      payload = next enter v w x weaves wide has.payload;
      lasts = λ b last. ap (block_digest b) (inside b (last_inside l b last).last) ∙ has.lasts b last;
      homes = λ revealed b last. subst (λ (bytes : List ℕ). HasAtHome shape b (cell_of b bytes) first) (sym (inside b (last_inside l b last).last)) (has.homes revealed b last);
      lasts_wide = λ b last. ap length (inside b (last_inside l b last).last) ∙ has.lasts_wide b last;
      grown = record {
        shape = record { alpha = weaves.grown.shape.alpha ∙ has.grown.shape.alpha; s = weaves.grown.shape.s ∙ has.grown.shape.s; p = weaves.grown.shape.p ∙ has.grown.shape.p };
        nodes = omega (arith, grown, nodes, length-append datas (x ∷ []));
        fences = weaves.grown.fences ∙ has.grown.fences;
      };
      heads = heads-new enter v w x weaves wide has.payload has.heads;
      blocks = data-new enter v w x weaves wide has.payload l.n datas nodes has.blocks;
      woven = woven-new enter v w x weaves wide has.payload l.n has.heads has.woven;
      digests_are = digests-new enter v w x weaves wide has.payload shape l.n digests alpha within has.digests_are;
      cells = λ revealed b on. ⊎_elim
          (λ gt.
          let node : b.node ≡ w.lattice.n = (let most = on.most in omega (arith, gt, most, grown)) in
          let here = subst (λ (bytes : List ℕ). HasAtHome shape (block_of w.lattice.n b.class) (cell_of (block_of w.lattice.n b.class) bytes) after) (sym (next-new enter v w x weaves wide has.payload b.class)) (cells revealed b.class on.used) in
          subst (λ (i : ℕ). HasAtHome shape (block_of i b.class) (cell_of (block_of i b.class) (next enter v w x weaves wide has.payload (block_of i b.class))) after) (sym node) here)
          (λ le.
          let on_old : IsBlockOn shape l.n v.lattice.n b = record { after = on.after; most = le; used = on.used } in
          subst (λ (bytes : List ℕ). HasAtHome shape b (cell_of b bytes) after) (sym (next-old enter v w x weaves wide has.payload b le))
          (stays revealed b (has.payload b) on_old (has.wide b on_old) (has.cells revealed b on_old)))
          (cases_lt v.lattice.n b.node);
      wide = λ b on. ⊎_elim
          (λ gt.
          let node : b.node ≡ w.lattice.n = (let most = on.most in omega (arith, gt, most, grown)) in
          ap (λ (i : ℕ). length (next enter v w x weaves wide has.payload (block_of i b.class))) node ∙ ap length (next-new enter v w x weaves wide has.payload b.class) ∙ sizes b.class on.used)
          (λ le.
          ap length (next-old enter v w x weaves wide has.payload b le) ∙ has.wide b (record { after = on.after; most = le; used = on.used }))
          (cases_lt v.lattice.n b.node);
    }
