-- Payloads that are read, judged and added up.
use Rattle.std.proofs.Common.{◌≡◌, ℕ, zero, suc, ◌+◌, ◌-◌, ◌≢◌, ◌≤◌, inl, inr, arith, List, [], ◌∷◌, ◌++◌, take, drop, map, filter, fold, length, replicate, Bool, true, false, Some, None, refl, sym, ◌∙◌, ap, subst}
use Rattle.std.specs.Prelude.{slice_get, option_to_list, All, IsTrue}
use Rattle.std.specs.List.{flat_map}
use Rattle.std.proofs.Math.Seq.{take-length}
use Rattle.std.proofs.lemmas.Bool.{or_left, or_right, or_cases, true≢false, false≢true}
use Rattle.std.proofs.lemmas.List.{append-nil, map-append, length-take, length-drop, take_all}
use Rattle.std.proofs.lemmas.List.Elements.{filter-append, All-head, All-tail, All-cons, All-nil, All-append}
use Rattle.std.proofs.lemmas.List.Sums.{fold-append}
use Rattle.std.proofs.lemmas.Grind.{flat_map-append}
use Rattle.aea_lattice.specs.declared.blocks.BlockId.{BlockId}
use Rattle.aea_lattice.specs.declared.blocks.EqId.{EqId}
use Rattle.aea_lattice.specs.declared.blocks.Equation.{Equation}
use Rattle.aea_lattice.specs.declared.grid.Lattice.{Lattice}
use Rattle.aea_lattice.specs.declared.shape.Shape.{Shape}
use Rattle.aea_lattice.specs.Blocks.{HasBlock, same_block}
use Rattle.aea_lattice.specs.Shapes.{IsBlockOf}
use Rattle.aea_lattice.specs.Equations.{equation_blocks, blocks_in}
use Rattle.aea_lattice.specs.Closure.{is_among}
use Rattle.aea_lattice.specs.Data.{xor_bytes}
use Rattle.aea_lattice.proofs.Equations.{same_block-equal}
use Rattle.aea_lattice.proofs.Among.{All-Each, among-each}
use Rattle.aea_disk.specs.Files.{Files}
use Rattle.aea_envelope.specs.Cells.{block_digest}
use Rattle.aea_shelf.specs.Places.{cell_size, home_file, home_place, home_bytes}
use Rattle.aea_shelf.specs.Intact.{payload_in, payload_at}
use Rattle.aea_ledger.specs.Values.{Opened}
use Rattle.aea_archive.specs.Blocks.{recorded_in, IsIntactBy}
use Rattle.aea_restore.specs.Plans.{Give}
use Rattle.aea_restore.specs.Drawn.{is_other, other_blocks, added_up, AreAllIntact, IsOtherDigest}
use Rattle.aea_restore.specs.Judged.{IsReadAt, IsJudged, Reading, IsJudgedSum, IsComputed, IsReadClash, IsReadClashIn, IsComputedClash}
use Rattle.aea_restore.specs.UnderWay.{IsUnderWay}
use Rattle.aea_restore.proofs.Items.{take_more}
use Rattle.aea_restore.proofs.Loops.{among-both}
use Rattle.aea_restore.proofs.Drawing.{payload_wide}
use Rattle.aea_restore.proofs.Parts.{others_ready}

-- ---- what is at a home

-- of lists that begin with others, the parts do so too
begins_drop : (k : ℕ) (xs ys : List ℕ) → take (length xs) ys ≡ xs → take (length (drop k xs)) (drop k ys) ≡ drop k xs
begins_drop zero xs ys is = is
begins_drop (suc k) [] ys is = refl
begins_drop (suc k) (x ∷ xs) [] is = let h : [] ≡ x ∷ xs = is in cc
begins_drop (suc k) (x ∷ xs) (y ∷ ys) is =
    let h : y ∷ take (length xs) ys ≡ x ∷ xs = is in
    let rest : take (length xs) ys ≡ xs = cc in
    begins_drop k xs ys rest

begins_take : (k : ℕ) (xs ys : List ℕ) → take (length xs) ys ≡ xs → take (length (take k xs)) (take k ys) ≡ take k xs
begins_take zero xs ys is = refl
begins_take (suc k) [] ys is = refl
begins_take (suc k) (x ∷ xs) [] is = let h : [] ≡ x ∷ xs = is in cc
begins_take (suc k) (x ∷ xs) (y ∷ ys) is =
    let h : y ∷ take (length xs) ys ≡ x ∷ xs = is in
    let rest : take (length xs) ys ≡ xs = cc in
    let one : y ≡ x = cc in
    ap (λ z. z ∷ take (length (take k xs)) (take k ys)) one ∙ ap (λ zs. x ∷ zs) (begins_take k xs ys rest)

begins_after : (xs ys zs : List ℕ) → take (length xs) ys ≡ xs → take (length ys) zs ≡ ys → take (length xs) zs ≡ xs
begins_after [] ys zs early late = refl
begins_after (x ∷ xs) [] zs early late = let h : [] ≡ x ∷ xs = early in cc
begins_after (x ∷ xs) (y ∷ ys) [] early late = let h : [] ≡ y ∷ ys = late in cc
begins_after (x ∷ xs) (y ∷ ys) (z ∷ zs) early late =
    let first : y ∷ take (length xs) ys ≡ x ∷ xs = early in
    let second : z ∷ take (length ys) zs ≡ y ∷ ys = late in
    let front : take (length xs) ys ≡ xs = cc in
    let more : take (length ys) zs ≡ ys = cc in
    let one : z ≡ x = cc in
    ap (λ a. a ∷ take (length xs) zs) one ∙ ap (λ rest. x ∷ rest) (begins_after xs ys zs front more)

-- a front of a list, by its length
front_length : (n : ℕ) (xs : List ℕ) → take (length (take n xs)) xs ≡ take n xs
front_length zero xs = refl
front_length (suc n) [] = refl
front_length (suc n) (x ∷ xs) = ap (λ ys. x ∷ ys) (front_length n xs)

-- a cell that begins with what is at a home has a payload that begins with what is there in its place
pub read_begins : (shape : Shape) (b : BlockId) (c : Files) (cell : List ℕ) → take (length (home_bytes shape b c)) cell ≡ home_bytes shape b c → take (length (payload_at shape c b)) (payload_in shape cell) ≡ payload_at shape c b
read_begins shape b c cell is = begins_take shape.block (drop 16 (home_bytes shape b c)) (drop 16 cell) (begins_drop 16 (home_bytes shape b c) cell is)

-- the payload in a cell has the bytes of a block
payload_size : (shape : Shape) (cell : List ℕ) → length cell ≡ cell_size shape → length (payload_in shape cell) ≡ shape.block
payload_size shape cell size = omega (arith, size, length-take shape.block (drop 16 cell), length-drop 16 cell)

-- what was read of a home
pub read_home : (reveals : Type 0) (v : Opened) (c : Files) (b : BlockId) (cell : List ℕ) → length cell ≡ cell_size v.shape → (reveals → take (length (home_bytes v.shape b c)) cell ≡ home_bytes v.shape b c)
    → IsReadAt reveals v c b (payload_in v.shape cell)
read_home reveals v c b cell size begins = record { size = payload_size v.shape cell size; begins = λ revealed. read_begins v.shape b c cell (begins revealed) }

-- and by the digest of the payload in it
pub read_judged : (reveals : Type 0) (v : Opened) (c : Files) (b : BlockId) (cell : List ℕ) → length cell ≡ cell_size v.shape → (reveals → take (length (home_bytes v.shape b c)) cell ≡ home_bytes v.shape b c)
    → block_digest b (payload_in v.shape cell) ≡ recorded_in v.shape v.digests b → IsJudged reveals v c b (payload_in v.shape cell)
read_judged reveals v c b cell size begins digest = record { home = read_home reveals v c b cell size begins; digest = digest }

-- another digest of it
pub read_other : (v : Opened) (b : BlockId) (cell revealed computed : List ℕ) → HasBlock v.lattice b → length cell ≡ cell_size v.shape
    → revealed ≡ recorded_in v.shape v.digests b → computed ≡ block_digest b (payload_in v.shape cell) → computed ≢ revealed → IsOtherDigest v b revealed computed
read_other v b cell revealed computed has size revealed_is is differ = record {
  block = has;
  revealed_is = revealed_is;
  payload = payload_in v.shape cell;
  size = payload_size v.shape cell size;
  computed_is = is;
  differ = differ;
}

pub read_clash : (reveals : Type 0) (v : Opened) (c : Files) (b : BlockId) (cell revealed computed : List ℕ) → HasBlock v.lattice b → length cell ≡ cell_size v.shape → (reveals → take (length (home_bytes v.shape b c)) cell ≡ home_bytes v.shape b c)
    → (reveals → IsIntactBy v.shape v.digests c b → ⊥) → revealed ≡ recorded_in v.shape v.digests b → computed ≡ block_digest b (payload_in v.shape cell) → computed ≢ revealed → IsReadClash reveals v c b revealed computed
read_clash reveals v c b cell revealed computed has size begins damaged revealed_is is differ = record {
  other = read_other v b cell revealed computed has size revealed_is is differ;
  damaged = damaged;
  payload = payload_in v.shape cell;
  home = read_home reveals v c b cell size begins;
  computed_is = is;
}

-- the digest of the bytes between a cell's head and its digest is that of its payload
pub digest_between : (v : Opened) (b : BlockId) (cell : List ℕ) → length cell ≡ cell_size v.shape → block_digest b (take (length cell - 48) (drop 16 cell)) ≡ block_digest b (payload_in v.shape cell)
digest_between v b cell size = let e : length cell - 48 ≡ v.shape.block = omega (arith, size) in ap (λ (n : ℕ). block_digest b (take n (drop 16 cell))) e

-- what is read of an intact block is its payload
pub read_intact : (reveals : Type 0) (v : Opened) (c : Files) (b : BlockId) (payload : List ℕ) → reveals → IsIntactBy v.shape v.digests c b → IsReadAt reveals v c b payload → payload ≡ payload_at v.shape c b
read_intact reveals v c b payload revealed intact is =
    let wide = payload_wide v.shape b (recorded_in v.shape v.digests b) c intact in
    sym (take-length payload) ∙ ap (λ (n : ℕ). take n payload) (is.size ∙ sym wide) ∙ is.begins revealed

-- it was read as well of other files that are the same
read_moved : (reveals : Type 0) (v : Opened) (c d : Files) (b : BlockId) (payload : List ℕ) → (reveals → d ≡ c) → IsReadAt reveals v d b payload → IsReadAt reveals v c b payload
read_moved reveals v c d b payload same is = record {
  size = is.size;
  begins = λ revealed. subst (λ (f : Files). take (length (payload_at v.shape f b)) payload ≡ payload_at v.shape f b) (same revealed) (is.begins revealed);
}

-- ---- sums

-- of no block
pub judged_none : (reveals : Type 0) (v : Opened) (c : Files) (s : List ℕ) → IsJudgedSum reveals v c s [] s
judged_none reveals v c s = record { readings = []; blocks_are = refl; judged = All-nil (λ (r : Reading). IsJudged reveals v c r.block r.payload); sum_is = refl }

-- of one
pub judged_one : (reveals : Type 0) (v : Opened) (c : Files) (b : BlockId) (s payload sum : List ℕ) → IsJudged reveals v c b payload → sum ≡ xor_bytes s payload → IsJudgedSum reveals v c s (b ∷ []) sum
judged_one reveals v c b s payload sum is added = record {
  readings = record { block = b; payload = payload } ∷ [];
  blocks_are = refl;
  judged = All-cons (λ (r : Reading). IsJudged reveals v c r.block r.payload) (record { block = b; payload = payload }) [] is (All-nil (λ (r : Reading). IsJudged reveals v c r.block r.payload));
  sum_is = added;
}

-- of two lists of blocks, one after the other
pub judged_both : (reveals : Type 0) (v : Opened) (c : Files) (s mid sum : List ℕ) (xs ys : List BlockId) → IsJudgedSum reveals v c s xs mid → IsJudgedSum reveals v c mid ys sum → IsJudgedSum reveals v c s (xs ++ ys) sum
judged_both reveals v c s mid sum xs ys early late =
    record {
      readings = early.readings ++ late.readings;
      blocks_are = map-append (λ (r : Reading). r.block) early.readings late.readings
          ∙ ap (λ (bs : List BlockId). bs ++ map (λ (r : Reading). r.block) late.readings) early.blocks_are
          ∙ ap (λ (bs : List BlockId). xs ++ bs) late.blocks_are;
      judged = All-append (λ (r : Reading). IsJudged reveals v c r.block r.payload) early.readings late.readings early.judged late.judged;
      sum_is = late.sum_is
          ∙ ap (λ (z : List ℕ). fold xor_bytes z (map (λ (r : Reading). r.payload) late.readings)) early.sum_is
          ∙ sym (fold-append xor_bytes s (map (λ (r : Reading). r.payload) early.readings) (map (λ (r : Reading). r.payload) late.readings))
          ∙ sym (ap (fold xor_bytes s) (map-append (λ (r : Reading). r.payload) early.readings late.readings));
    }

-- the same of other files, where the contents are known to be the same
judgings_moved : (reveals : Type 0) (v : Opened) (c d : Files) (rs : List Reading) → (reveals → d ≡ c) → All (λ (r : Reading). IsJudged reveals v d r.block r.payload) rs → All (λ (r : Reading). IsJudged reveals v c r.block r.payload) rs
judgings_moved reveals v c d rs same judged k r below = let one = judged k r below in record { home = read_moved reveals v c d _ _ same one.home; digest = one.digest }

pub judged_moved : (reveals : Type 0) (v : Opened) (c d : Files) (s sum : List ℕ) (blocks : List BlockId) → (reveals → d ≡ c) → IsJudgedSum reveals v d s blocks sum → IsJudgedSum reveals v c s blocks sum
judged_moved reveals v c d s sum blocks same is = record { readings = is.readings; blocks_are = is.blocks_are; judged = judgings_moved reveals v c d is.readings same is.judged; sum_is = is.sum_is }

pub clash_moved : (reveals : Type 0) (v : Opened) (c d : Files) (b : BlockId) (revealed computed : List ℕ) → (reveals → d ≡ c) → IsReadClash reveals v d b revealed computed → IsReadClash reveals v c b revealed computed
clash_moved reveals v c d b revealed computed same is = record {
  other = is.other;
  damaged = λ reveal intact. is.damaged reveal (subst (λ (f : Files). IsIntactBy v.shape v.digests f b) (sym (same reveal)) intact);
  payload = is.payload;
  home = read_moved reveals v c d b is.payload same is.home;
  computed_is = is.computed_is;
}

-- a block that is picked, and one that is not
pub picked_one : (p : BlockId → Bool) (x : BlockId) → p x ≡ true → filter p (x ∷ []) ≡ x ∷ []
picked_one p x is = rw is refl

pub picked_none : (p : BlockId → Bool) (x : BlockId) → p x ≡ false → filter p (x ∷ []) ≡ []
picked_none p x is = rw is refl

-- of the picked ones of two lists
pub judged_picked : (reveals : Type 0) (v : Opened) (c : Files) (p : BlockId → Bool) (s mid sum : List ℕ) (xs ys : List BlockId) → IsJudgedSum reveals v c s (filter p xs) mid → IsJudgedSum reveals v c mid (filter p ys) sum → IsJudgedSum reveals v c s (filter p (xs ++ ys)) sum
judged_picked reveals v c p s mid sum xs ys early late =
    subst (λ (bs : List BlockId). IsJudgedSum reveals v c s bs sum) (sym (filter-append p xs ys)) (judged_both reveals v c s mid sum (filter p xs) (filter p ys) early late)

joined : (xs : List BlockId) (y z : BlockId) → (xs ++ y ∷ []) ++ z ∷ [] ≡ xs ++ y ∷ z ∷ []
joined [] y z = refl
joined (x ∷ xs) y z = ap (λ ws. x ∷ ws) (joined xs y z)

-- the blocks of an equation: its input, its datum, and its output
blocks_listed : (l : Lattice) (e : EqId) (q : Equation) → blocks_in q ≡ equation_blocks l e → (option_to_list q.input ++ q.datum ∷ []) ++ q.output ∷ [] ≡ flat_map (equation_blocks l) (e ∷ [])
blocks_listed l e q listed = joined (option_to_list q.input) q.datum q.output ∙ listed ∙ sym (append-nil (equation_blocks l e))

pub judged_equation : (reveals : Type 0) (v : Opened) (c : Files) (p : BlockId → Bool) (b : BlockId) (e : EqId) (q : Equation) (s0 s1 s2 s3 : List ℕ) → blocks_in q ≡ equation_blocks v.lattice e
    → IsJudgedSum reveals v c s0 (filter (is_other p b) (option_to_list q.input)) s1
    → IsJudgedSum reveals v c s1 (filter (is_other p b) (q.datum ∷ [])) s2
    → IsJudgedSum reveals v c s2 (filter (is_other p b) (q.output ∷ [])) s3
    → IsJudgedSum reveals v c s0 (other_blocks v.lattice p b (e ∷ [])) s3
judged_equation reveals v c p b e q s0 s1 s2 s3 listed first second third =
    subst (λ (bs : List BlockId). IsJudgedSum reveals v c s0 (filter (is_other p b) bs) s3) (blocks_listed v.lattice e q listed)
    (judged_picked reveals v c (is_other p b) s0 s2 s3 (option_to_list q.input ++ q.datum ∷ []) (q.output ∷ [])
    (judged_picked reveals v c (is_other p b) s0 s1 s2 (option_to_list q.input) (q.datum ∷ []) first second) third)

-- no equation
pub judged_start : (reveals : Type 0) (v : Opened) (c : Files) (p : BlockId → Bool) (b : BlockId) (es : List EqId) (s : List ℕ) → IsJudgedSum reveals v c s (other_blocks v.lattice p b (take 0 es)) s
judged_start reveals v c p b [] s = judged_none reveals v c s
judged_start reveals v c p b (e ∷ es) s = judged_none reveals v c s

-- one equation more
pub judged_next : (reveals : Type 0) (v : Opened) (c : Files) (p : BlockId → Bool) (b : BlockId) (es : List EqId) (e : EqId) (k : ℕ) (s0 s1 s2 : List ℕ) → slice_get es k ≡ Some e
    → IsJudgedSum reveals v c s0 (other_blocks v.lattice p b (take k es)) s1 → IsJudgedSum reveals v c s1 (other_blocks v.lattice p b (e ∷ [])) s2
    → IsJudgedSum reveals v c s0 (other_blocks v.lattice p b (take (k + 1) es)) s2
judged_next reveals v c p b es e k s0 s1 s2 is before next =
    subst (λ (xs : List EqId). IsJudgedSum reveals v c s0 (other_blocks v.lattice p b xs) s2) (sym (take_more es e k is))
    (subst (λ (bs : List BlockId). IsJudgedSum reveals v c s0 (filter (is_other p b) bs) s2) (sym (flat_map-append (equation_blocks v.lattice) (take k es) (e ∷ [])))
    (judged_picked reveals v c (is_other p b) s0 s1 s2 (flat_map (equation_blocks v.lattice) (take k es)) (flat_map (equation_blocks v.lattice) (e ∷ [])) before next))

-- ---- blocks among those that are read

-- a block of the first list, and one of the second, is among the picked ones of both
among_first : (p : BlockId → Bool) (xs ys : List BlockId) (d : BlockId) → IsTrue (is_among (filter p xs) d) → IsTrue (is_among (filter p (xs ++ ys)) d)
among_first p xs ys d is =
    ap (λ (bs : List BlockId). is_among bs d) (filter-append p xs ys) ∙ among-both (filter p xs) (filter p ys) d ∙ or_left (is_among (filter p xs) d) (is_among (filter p ys) d) is

among_second : (p : BlockId → Bool) (xs ys : List BlockId) (d : BlockId) → IsTrue (is_among (filter p ys) d) → IsTrue (is_among (filter p (xs ++ ys)) d)
among_second p xs ys d is =
    ap (λ (bs : List BlockId). is_among bs d) (filter-append p xs ys) ∙ among-both (filter p xs) (filter p ys) d ∙ or_right (is_among (filter p xs) d) (is_among (filter p ys) d) is

module _ (l : Lattice) (p : BlockId → Bool) (b : BlockId) (e : EqId) (q : Equation) (d : BlockId) (listed : blocks_in q ≡ equation_blocks l e) where
  in_equation : IsTrue (is_among (filter (is_other p b) ((option_to_list q.input ++ q.datum ∷ []) ++ q.output ∷ [])) d) → IsTrue (is_among (other_blocks l p b (e ∷ [])) d)
  in_equation is = ap (λ (bs : List BlockId). is_among (filter (is_other p b) bs) d) (sym (blocks_listed l e q listed)) ∙ is

  -- one of an equation: its input, its datum, or its output
  pub among_input : IsTrue (is_among (filter (is_other p b) (option_to_list q.input)) d) → IsTrue (is_among (other_blocks l p b (e ∷ [])) d)
  among_input is =
      in_equation
      (among_first (is_other p b) (option_to_list q.input ++ q.datum ∷ []) (q.output ∷ []) d (among_first (is_other p b) (option_to_list q.input) (q.datum ∷ []) d is))

  pub among_datum : IsTrue (is_among (filter (is_other p b) (q.datum ∷ [])) d) → IsTrue (is_among (other_blocks l p b (e ∷ [])) d)
  among_datum is =
      in_equation
      (among_first (is_other p b) (option_to_list q.input ++ q.datum ∷ []) (q.output ∷ []) d (among_second (is_other p b) (option_to_list q.input) (q.datum ∷ []) d is))

  pub among_output : IsTrue (is_among (filter (is_other p b) (q.output ∷ [])) d) → IsTrue (is_among (other_blocks l p b (e ∷ [])) d)
  among_output is = in_equation (among_second (is_other p b) (option_to_list q.input ++ q.datum ∷ []) (q.output ∷ []) d is)

-- a block of one of the equations
pub among_next : (l : Lattice) (p : BlockId → Bool) (b : BlockId) (es : List EqId) (e : EqId) (k : ℕ) (d : BlockId) → slice_get es k ≡ Some e → IsTrue (is_among (other_blocks l p b (e ∷ [])) d) → IsTrue (is_among (other_blocks l p b es) d)
among_next l p b [] e k d is here = let h : None ≡ Some e = is in cc
among_next l p b (f ∷ es) e zero d is here =
    let h : Some f ≡ Some e = is in
    let same : f ≡ e = cc in
    among_first (is_other p b) (equation_blocks l f) (flat_map (equation_blocks l) es) d
    (subst (λ (a : EqId). IsTrue (is_among (filter (is_other p b) (equation_blocks l a)) d)) (sym same)
    (sym (ap (λ (bs : List BlockId). is_among (filter (is_other p b) bs) d) (append-nil (equation_blocks l e))) ∙ here))
among_next l p b (f ∷ es) e (suc k) d is here =
    among_second (is_other p b) (equation_blocks l f) (flat_map (equation_blocks l) es) d (among_next l p b es e k d is here)

-- ---- where what can be read is intact

payloads_same : (reveals : Type 0) (v : Opened) (c : Files) (rs : List Reading) → reveals → All (λ (r : Reading). IsJudged reveals v c r.block r.payload) rs → All (IsIntactBy v.shape v.digests c) (map (λ (r : Reading). r.block) rs)
    → map (λ (r : Reading). r.payload) rs ≡ map (payload_at v.shape c) (map (λ (r : Reading). r.block) rs)
payloads_same reveals v c [] revealed judged intact = refl
payloads_same reveals v c (r ∷ rs) revealed judged intact =
    let one = All-head (λ (q : Reading). IsJudged reveals v c q.block q.payload) r rs judged in
    let sound = All-head (IsIntactBy v.shape v.digests c) r.block (map (λ (q : Reading). q.block) rs) intact in
    ap (λ z. z ∷ map (λ (q : Reading). q.payload) rs) (read_intact reveals v c r.block r.payload revealed sound one.home)
    ∙ ap (λ zs. payload_at v.shape c r.block ∷ zs)
    (payloads_same reveals v c rs revealed (All-tail (λ (q : Reading). IsJudged reveals v c q.block q.payload) r rs judged) (All-tail (IsIntactBy v.shape v.digests c) r.block (map (λ (q : Reading). q.block) rs) intact))

-- the payloads that are read of intact blocks are those at their homes
pub judged_homes : (reveals : Type 0) (v : Opened) (c : Files) (start sum : List ℕ) (blocks : List BlockId) → reveals → All (IsIntactBy v.shape v.digests c) blocks → IsJudgedSum reveals v c start blocks sum → sum ≡ added_up v.shape c start blocks
judged_homes reveals v c start sum blocks revealed intact is =
    is.sum_is
    ∙ ap (fold xor_bytes start)
    (payloads_same reveals v c is.readings revealed is.judged (subst (All (IsIntactBy v.shape v.digests c)) (sym is.blocks_are) intact)
    ∙ ap (λ (bs : List BlockId). map (payload_at v.shape c) bs) is.blocks_are)

-- and none of them is a clash
pub homes_never : (reveals : Type 0) (v : Opened) (c : Files) (blocks : List BlockId) (d : BlockId) (kept computed : List ℕ) → reveals → All (IsIntactBy v.shape v.digests c) blocks → IsReadClashIn reveals v c blocks d kept computed → ⊥
homes_never reveals v c blocks d kept computed revealed intact is =
    is.1.damaged revealed (among-each (IsIntactBy v.shape v.digests c) blocks d (All-Each (IsIntactBy v.shape v.digests c) blocks intact) is.0)

-- where what is had is intact, the other blocks of equations that give a block are
others_intact : (v : Opened) (ready : BlockId → Bool) (c : Files) (b : BlockId) (es : List EqId) → HasBlock v.lattice b → Give v.lattice ready b es → AreAllIntact v ready c → All (IsIntactBy v.shape v.digests c) (other_blocks v.lattice ready b es)
others_intact v ready c b es has gives sound k d lt = let one = others_ready v.lattice ready b es has gives k d lt in sound _ one.0 one.1

-- so the payloads that are read for the block are those at the homes
pub judged_added : (reveals : Type 0) (v : Opened) (ready : BlockId → Bool) (c : Files) (b : BlockId) (es : List EqId) (start sum : List ℕ) → reveals → HasBlock v.lattice b → Give v.lattice ready b es
    → IsJudgedSum reveals v c start (other_blocks v.lattice ready b es) sum → AreAllIntact v ready c → sum ≡ added_up v.shape c start (other_blocks v.lattice ready b es)
judged_added reveals v ready c b es start sum revealed has gives is sound =
    judged_homes reveals v c start sum (other_blocks v.lattice ready b es) revealed (others_intact v ready c b es has gives sound) is

-- and none of them is a clash
pub read_never : (reveals : Type 0) (v : Opened) (ready : BlockId → Bool) (c : Files) (b d : BlockId) (es : List EqId) (kept computed : List ℕ) → reveals → HasBlock v.lattice b → Give v.lattice ready b es
    → IsReadClashIn reveals v c (other_blocks v.lattice ready b es) d kept computed → AreAllIntact v ready c → ⊥
read_never reveals v ready c b d es kept computed revealed has gives is sound =
    homes_never reveals v c (other_blocks v.lattice ready b es) d kept computed revealed (others_intact v ready c b es has gives sound) is

-- ---- a block that is computed

-- its payload has the digest that is kept
pub computed_one : (reveals : Type 0) (v : Opened) (c : Files) (ready : BlockId → Bool) (b : BlockId) (es : List EqId) (start sum : List ℕ) → start ≡ replicate v.shape.block 0 → IsJudgedSum reveals v c start (other_blocks v.lattice ready b es) sum
    → block_digest b sum ≡ recorded_in v.shape v.digests b → IsComputed reveals v c ready b es
computed_one reveals v c ready b es start sum zeros is digest = record {
  payload = sum;
  sum = subst (λ (s : List ℕ). IsJudgedSum reveals v c s (other_blocks v.lattice ready b es) sum) zeros is;
  digest = digest;
}

-- and it has another one
pub computed_clash : (reveals : Type 0) (v : Opened) (c : Files) (ready : BlockId → Bool) (b : BlockId) (es : List EqId) (start sum revealed computed : List ℕ) → start ≡ replicate v.shape.block 0 → IsJudgedSum reveals v c start (other_blocks v.lattice ready b es) sum
    → IsOtherDigest v b revealed computed → computed ≡ block_digest b sum → IsComputedClash reveals v c ready b es revealed computed
computed_clash reveals v c ready b es start sum revealed computed zeros is other computed_is = record {
  other = other;
  payload = sum;
  sum = subst (λ (s : List ℕ). IsJudgedSum reveals v c s (other_blocks v.lattice ready b es) sum) zeros is;
  computed_is = computed_is;
}

-- ---- what was read, in the files at first

-- one of the blocks that were read, and its payload
reading_of : (reveals : Type 0) (v : Opened) (c : Files) (rs : List Reading) (d : BlockId) → All (λ (r : Reading). IsJudged reveals v c r.block r.payload) rs → IsTrue (is_among (map (λ (r : Reading). r.block) rs) d) → (payload : List ℕ) × IsJudged reveals v c d payload
reading_of reveals v c [] d judged is = absurd (false≢true is)
reading_of reveals v c (r ∷ rs) d judged is = elim (or_cases (same_block d r.block) (is_among (map (λ (q : Reading). q.block) rs) d) is) [
  | inl here ↦ (r.payload, subst (λ (a : BlockId). IsJudged reveals v c a r.payload) (sym (same_block-equal d r.block here)) (All-head (λ (q : Reading). IsJudged reveals v c q.block q.payload) r rs judged))
  | inr later ↦ reading_of reveals v c rs d (All-tail (λ (q : Reading). IsJudged reveals v c q.block q.payload) r rs judged) later
]

-- What was read of a block that was known, begins with what was at its home at first.
judged_first : (reveals : Type 0) (v : Opened) (known ready : BlockId → Bool) (first now : Files) (d : BlockId) (payload : List ℕ) → reveals → IsBlockOf v.shape d → IsTrue (known d) → IsUnderWay v known ready first now → IsJudged reveals v now d payload → IsJudged reveals v first d payload
judged_first reveals v known ready first now d payload revealed fits is way judged =
    let short : length (home_bytes v.shape d first) ≤ cell_size v.shape = omega (arith, length-take (cell_size v.shape) (drop (home_place v.shape d) (first (home_file v.shape d)))) in
    let here : take (length (home_bytes v.shape d first)) (drop (home_place v.shape d) (now (home_file v.shape d))) ≡ home_bytes v.shape d first =
    way.homes d (home_bytes v.shape d first) fits (λ done. true≢false (sym is ∙ done.fresh)) short (front_length (cell_size v.shape) (drop (home_place v.shape d) (first (home_file v.shape d)))) in
    let whole : take (cell_size v.shape) (home_bytes v.shape d first) ≡ home_bytes v.shape d first = take_all (cell_size v.shape) (home_bytes v.shape d first) short in
    let grown : take (length (home_bytes v.shape d first)) (home_bytes v.shape d now) ≡ home_bytes v.shape d first =
    subst (λ (xs : List ℕ). take (length xs) (home_bytes v.shape d now) ≡ xs) whole (begins_take (cell_size v.shape) (home_bytes v.shape d first) (drop (home_place v.shape d) (now (home_file v.shape d))) here) in
    record {
      home = record {
        size = judged.home.size;
        begins = λ also. begins_after (payload_at v.shape first d) (payload_at v.shape now d) payload (read_begins v.shape d first (home_bytes v.shape d now) grown) (judged.home.begins revealed);
      };
      digest = judged.digest;
    }

-- A known block that was read for another one had at first a payload with its digest.
pub read_first : (reveals : Type 0) (v : Opened) (known ready : BlockId → Bool) (first now : Files) (b d : BlockId) (es : List EqId) → reveals → IsBlockOf v.shape d → IsTrue (known d) → IsUnderWay v known ready first now → IsComputed reveals v now ready b es
    → IsTrue (is_among (other_blocks v.lattice ready b es) d) → (payload : List ℕ) × IsJudged reveals v first d payload
read_first reveals v known ready first now b d es revealed fits is way computed among =
    let one = reading_of reveals v now computed.sum.readings d computed.sum.judged (ap (λ (bs : List BlockId). is_among bs d) computed.sum.blocks_are ∙ among) in
    (one.0, judged_first reveals v known ready first now d one.0 revealed fits is way one.1)
