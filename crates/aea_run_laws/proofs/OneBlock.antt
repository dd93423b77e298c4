-- An archive of one block, whole and with its first site lost.
use Rattle.std.proofs.Common.{◌≡◌, ◌≢◌, ◌⊎◌, inl, inr, ℕ, zero, suc, ◌+◌, ◌-◌, ◌*◌, ◌<◌, Bool, List, [], ◌∷◌, ◌++◌, length, take, drop, get_or, replicate, filter, None, refl, sym, ◌∙◌, ap, subst, arith, length-append}
use Rattle.std.specs.Prelude.{All, slice_index_or}
use Rattle.std.proofs.lemmas.Bool.{cases_Bool}
use Rattle.std.proofs.lemmas.List.{append-nil, length-take-le, length-replicate, take_all, take-replicate}
use Rattle.std.proofs.lemmas.List.Elements.{All-cons, All-nil}
use Rattle.std.proofs.Math.Seq.{drop-nil}
use Rattle.sha2.specs.Sha256.{sha256}
use Rattle.aea_lattice.specs.declared.blocks.Class.{Class}
use Rattle.aea_lattice.specs.declared.blocks.Class.TheVariants.{Datum, Horiz, Right, Left}
use Rattle.aea_lattice.specs.declared.blocks.BlockId.{BlockId}
use Rattle.aea_lattice.specs.declared.grid.Lattice.{Lattice}
use Rattle.aea_lattice.specs.declared.shape.Shape.{Shape}
use Rattle.aea_lattice.specs.Blocks.{HasBlock, block_of}
use Rattle.aea_lattice.specs.Data.{IsDataList, IsBytes, value_of}
use Rattle.aea_lattice.specs.Shapes.{number_in}
use Rattle.aea_lattice.specs.Strands.{is_on, strand_of, next_to_last, previous}
use Rattle.aea_lattice.proofs.Equations.{block_equal}
use Rattle.aea_lattice.proofs.Strands.{filter-snoc_true, filter-snoc_false}
use Rattle.aea_lattice.proofs.Sums.{value-begin}
use Rattle.aea_disk.specs.Files.{Files}
use Rattle.aea_envelope.specs.Cells.{head_of, block_digest, cell_of}
use Rattle.aea_envelope.specs.Facts.{CellsHaveLengths, CellsHaveParts}
use Rattle.aea_shelf.specs.Places.{cell_size, home_file, home_place, padded_home, HasAtHome}
use Rattle.aea_shelf.specs.Intact.{IsRecorded, payload_in, payload_at}
use Rattle.aea_shelf.proofs.Cells.{intact_same}
use Rattle.aea_records.specs.Format.{Stored, Record, Object, nodes_for, spelled}
use Rattle.aea_records.specs.Grammar.{AreRecords}
use Rattle.aea_records.specs.TableLaws.{AreBytes}
use Rattle.aea_ledger.specs.Recorded.{AreRecordsOf}
use Rattle.aea_archive.specs.Blocks.{IsBlockOn, recorded_in, IsIntactBy}
use Rattle.aea_archive.specs.Laws.{PutsRecord}
use Rattle.aea_archive.specs.Next.{NewObject, cut_blocks, object_blocks, HoldsData, IsNextStored}
use Rattle.aea_archive.proofs.Honest.{StandsAtHome, stands}
use Rattle.aea_run_laws.specs.Standing.{IsOneBlock, HasTheObject, HasLostSite, DamagedArchivesStand}
use Rattle.aea_run_laws.proofs.Digests.{digest_wide}

-- ---- the shape and the lattices

-- AE(3,2,5), blocks of 512 bytes, ten sites
abbrev pub shape : Shape
shape = record { alpha = 3; s = 2; p = 5; block = 512; sites = 10; in_profile = refl }

abbrev none : Lattice
none = record { alpha = 3; s = 2; p = 5; n = 0; fences = []; in_profile = refl; in_range = omega arith; fenced = refl }

abbrev pub one : Lattice
one = record { alpha = 3; s = 2; p = 5; n = 1; fences = []; in_profile = refl; in_range = omega arith; fenced = refl }

-- the blocks are those of the first node
of_first : (b : BlockId) → HasBlock one b → b ≡ block_of 1 b.class
of_first b has = block_equal b (block_of 1 b.class) (let first = has.first in let last = has.last in omega (arith, first, last)) refl

-- no node comes before it
none_of_one : (p : ℕ → Bool) → next_to_last (filter p (1 ∷ [])) ≡ None
none_of_one p =
    elim (cases_Bool (p 1)) [
      | inl on ↦ ap next_to_last (filter-snoc_true p [] 1 on)
      | inr off ↦ ap next_to_last (filter-snoc_false p [] 1 off)
    ]

pub none_before : (c : Class) → previous one c 1 ≡ None
none_before c = none_of_one (is_on one c (strand_of one c 1) 1)

-- ---- zeros are no cell

first_byte : (b : BlockId) (payload : List ℕ) → get_or (cell_of b payload) 0 0 ≡ 65
unfolding head_of
first_byte b payload = refl

first_of_many : (n x : ℕ) → get_or (replicate n x) 0 x ≡ x
first_of_many zero x = refl
first_of_many (suc n) x = refl

zeros_no_cell : (n : ℕ) (b : BlockId) (payload : List ℕ) → replicate n 0 ≡ cell_of b payload → ⊥
zeros_no_cell n b payload same =
    let both : 0 ≡ 65 = sym (first_of_many n 0) ∙ ap (λ (xs : List ℕ). get_or xs 0 0) same ∙ first_byte b payload in
    absurd (omega (arith, both))

none_taken : (n : ℕ) → ◌≡◌ {A = List ℕ} (take n []) []
none_taken zero = refl
none_taken (suc n) = refl

all_same : (n at x : ℕ) → take n (take n (drop at []) ++ replicate n x) ≡ replicate n x
all_same n at x =
    ap (λ (xs : List ℕ). take n (take n xs ++ replicate n x)) (drop-nil at)
    ∙ ap (λ (xs : List ℕ). take n (xs ++ replicate n x)) (none_taken n)
    ∙ take-replicate n n x (omega arith)

-- ---- the files

-- the ledger, and on each of the first sites a cell
pub whole : List ℕ → (Class → List ℕ) → Files
whole ledger cell zero = ledger
whole ledger cell (suc zero) = cell Datum
whole ledger cell (suc (suc zero)) = cell Horiz
whole ledger cell (suc (suc (suc zero))) = cell Right
whole ledger cell (suc (suc (suc (suc zero)))) = cell Left
whole ledger cell (suc (suc (suc (suc (suc f))))) = []

-- the first site is empty
pub lost : Files → Files
lost c zero = c 0
lost c (suc zero) = []
lost c (suc (suc f)) = c (suc (suc f))

lost_others : (c : Files) (f : ℕ) → f ≢ 1 → lost c f ≡ c f
unfolding lost
lost_others c zero other = refl
lost_others c (suc zero) other = absurd (other refl)
lost_others c (suc (suc f)) other = refl

whole_bare_of : (ledger : List ℕ) (cell : Class → List ℕ) (f : ℕ) → 4 < f → whole ledger cell f ≡ []
unfolding whole
whole_bare_of ledger cell zero far = absurd (omega (arith, far))
whole_bare_of ledger cell (suc zero) far = absurd (omega (arith, far))
whole_bare_of ledger cell (suc (suc zero)) far = absurd (omega (arith, far))
whole_bare_of ledger cell (suc (suc (suc zero))) far = absurd (omega (arith, far))
whole_bare_of ledger cell (suc (suc (suc (suc zero)))) far = absurd (omega (arith, far))
whole_bare_of ledger cell (suc (suc (suc (suc (suc f))))) far = refl

-- ---- the archive

module _ (lengths : CellsHaveLengths) (parts : CellsHaveParts) (record_law : PutsRecord) (o : NewObject) (is : IsOneBlock o) where
  pub first : List ℕ
  first = take 512 (o.bytes ++ replicate 512 0)

  count_one : nodes_for shape (length o.bytes) ≡ 1
  count_one = let some = is.some in let few = is.few in omega (arith, some, few)

  blocks_are : object_blocks shape o.bytes ≡ first ∷ []
  unfolding first
  blocks_are = ap (λ (n : ℕ). cut_blocks 512 n o.bytes) count_one

  first_long : length first ≡ 512
  unfolding first
  first_long = length-take-le 512 (o.bytes ++ replicate 512 0) (let all = length-append o.bytes (replicate 512 0) in let zero_byte : ℕ = 0 in let zeros : length (replicate 512 zero_byte) ≡ 512 = length-replicate 512 zero_byte in omega (arith, all, zeros))

  abbrev digest : Class → List ℕ
  digest c = block_digest (block_of 1 c) first

  abbrev pub stored : Stored
  stored = record { name = o.name; size = length o.bytes; digest = sha256 o.bytes; first = 1; count = 1; digests = digest Datum ∷ digest Horiz ∷ digest Right ∷ digest Left ∷ [] }

  abbrev pub records : List Record
  records = Object stored ∷ []

  digests_small : All (IsBytes 32) stored.digests
  digests_small =
      All-cons (IsBytes 32) (digest Datum) (digest Horiz ∷ digest Right ∷ digest Left ∷ []) (digest_wide (head_of (block_of 1 Datum) ++ first))
      (All-cons (IsBytes 32) (digest Horiz) (digest Right ∷ digest Left ∷ []) (digest_wide (head_of (block_of 1 Horiz) ++ first))
      (All-cons (IsBytes 32) (digest Right) (digest Left ∷ []) (digest_wide (head_of (block_of 1 Right) ++ first))
      (All-cons (IsBytes 32) (digest Left) [] (digest_wide (head_of (block_of 1 Left) ++ first)) (All-nil (IsBytes 32)))))

  valid : AreRecords shape records
  valid = (
    record {
      stored = record {
        few = omega arith;
        name = is.name;
        new = All-nil _;
        size = (let few = is.few in omega (arith, few));
        digest = digest_wide o.bytes;
        first = refl;
        fits = omega arith;
        digests = refl;
        each = digests_small;
      };
      count = sym count_one;
    },
    tt,
  )

  -- the digest that is recorded of a block
  recorded_is : (c : Class) → recorded_in shape stored.digests (block_of 1 c) ≡ digest c
  recorded_is Datum = refl
  recorded_is Horiz = refl
  recorded_is Right = refl
  recorded_is Left = refl

  each_digest : (b : BlockId) → IsBlockOn shape 0 1 b → slice_index_or stored.digests (number_in shape b - 0 * (1 + 3)) [] ≡ block_digest b first
  each_digest b on =
      let same : b ≡ block_of 1 b.class = of_first b (record { first = on.after; last = on.most; used = on.used }) in
      subst (λ (x : BlockId). slice_index_or stored.digests (number_in shape x - 0 * (1 + 3)) [] ≡ block_digest x first) (sym same) (by_class b.class)
    where
      by_class : (c : Class) → slice_index_or stored.digests (number_in shape (block_of 1 c) - 0 * (1 + 3)) [] ≡ block_digest (block_of 1 c) first
      by_class Datum = refl
      by_class Horiz = refl
      by_class Right = refl
      by_class Left = refl

  holds_one : (k : ℕ) → k < length (first ∷ []) → first ≡ slice_index_or (first ∷ []) k []
  holds_one zero below = refl
  holds_one (suc k) below = absurd (omega (arith, below))

  next : IsNextStored shape none one (λ b. first) o.name o.bytes stored
  next = record {
    name_is = refl;
    size = refl;
    digest = refl;
    first = refl;
    count = sym count_one;
    grown = record { shape = record { alpha = refl; s = refl; p = refl }; nodes = refl; fences = refl };
    blocks = subst (λ (ds : List (List ℕ)). HoldsData 0 ds (λ b. first)) (sym blocks_are) holds_one;
    woven = λ i c after most parity.
        let i_is : i ≡ 1 = omega (arith, after, most) in
        let before : previous one c i ≡ None = ap (previous one c) i_is ∙ none_before c in
        rw before refl;
    digests = record { long = refl; each = each_digest };
  }

  pub recorded : AreRecordsOf shape records (object_blocks shape o.bytes)
  recorded =
      subst (AreRecordsOf shape records) (append-nil (object_blocks shape o.bytes))
      (record_law shape records none one (λ b. first) (o ∷ []) (record { alpha = refl; s = refl; p = refl; n = refl; fences_are = refl }) (All-cons (λ q. AreBytes q.bytes) o [] is.bytes (All-nil (λ q. AreBytes q.bytes))) valid
      (one, stored, refl, next, refl))

  data_list : IsDataList one 512 (first ∷ [])
  data_list = subst (IsDataList one 512) blocks_are (recorded_data recorded)
    where
      recorded_data : AreRecordsOf shape records (object_blocks shape o.bytes) → IsDataList one 512 (object_blocks shape o.bytes)
      recorded_data r = record { some_bytes = omega arith; long = (let long = r.is_data.long in let n = r.is_lattice.n in long ∙ n); each = r.is_data.each }

  -- all blocks are the object's
  value_is : (c : Class) → value_of one 512 (object_blocks shape o.bytes) (block_of 1 c) ≡ first
  value_is c = subst (λ (ds : List (List ℕ)). value_of one 512 ds (block_of 1 c) ≡ first) (sym blocks_are) (by_class c)
    where
      by_class : (c : Class) → value_of one 512 (first ∷ []) (block_of 1 c) ≡ first
      by_class Datum = refl
      by_class Horiz = value-begin one 512 (first ∷ []) 1 Horiz (omega arith) data_list (omega arith) (none_before Horiz)
      by_class Right = value-begin one 512 (first ∷ []) 1 Right (omega arith) data_list (omega arith) (none_before Right)
      by_class Left = value-begin one 512 (first ∷ []) 1 Left (omega arith) data_list (omega arith) (none_before Left)

  abbrev pub c : Files
  c = whole (spelled shape records ++ 0 ∷ []) (λ k. cell_of (block_of 1 k) first)

  at_home : (k : Class) → HasAtHome shape (block_of 1 k) (cell_of (block_of 1 k) first) c
  unfolding whole
  at_home Datum = take_all (length (cell_of (block_of 1 Datum) first)) (cell_of (block_of 1 Datum) first) (omega arith)
  at_home Horiz = take_all (length (cell_of (block_of 1 Horiz) first)) (cell_of (block_of 1 Horiz) first) (omega arith)
  at_home Right = take_all (length (cell_of (block_of 1 Right) first)) (cell_of (block_of 1 Right) first) (omega arith)
  at_home Left = take_all (length (cell_of (block_of 1 Left) first)) (cell_of (block_of 1 Left) first) (omega arith)

  stands_there : (k : Class) → StandsAtHome shape (block_of 1 k) (recorded_in shape stored.digests (block_of 1 k)) first c
  stands_there k = stands lengths parts shape (block_of 1 k) (recorded_in shape stored.digests (block_of 1 k)) first c first_long (sym (recorded_is k)) (at_home k)

  pub has_it : HasTheObject shape one stored o c
  unfolding whole
  has_it = record {
    name = refl;
    size = refl;
    digest = refl;
    nodes = refl;
    lattice = record { alpha = refl; s = refl; p = refl; n = refl; fences_are = refl };
    ledger = record { valid = valid; gate = 0; closed = λ e. omega (arith, e); after = []; spelling = refl; place = refl };
    recorded = recorded;
    intact = λ b has. subst (IsIntactBy shape stored.digests c) (sym (of_first b has)) (stands_there b.class).intact;
  }

  -- no other file has a byte
  pub whole_bare : (f : ℕ) → 4 < f → c f ≡ []
  whole_bare f far = whole_bare_of (spelled shape records ++ 0 ∷ []) (λ k. cell_of (block_of 1 k) first) f far

  -- ---- its first site is lost

  abbrev pub d : Files
  d = lost c

  elsewhere : (k : Class) → k ≢ Datum → d (home_file shape (block_of 1 k)) ≡ c (home_file shape (block_of 1 k))
  unfolding lost
  elsewhere Datum other = absurd (other refl)
  elsewhere Horiz other = refl
  elsewhere Right other = refl
  elsewhere Left other = refl

  pub lost_bare : (f : ℕ) → 4 < f → d f ≡ []
  lost_bare f far = lost_others c f (λ e. omega (arith, far, e)) ∙ whole_bare f far

  gone : IsIntactBy shape stored.digests d (block_of 1 Datum) → ⊥
  unfolding lost
  gone intact = let within = intact.within in omega (arith, within)

  still : (k : Class) → k ≢ Datum → IsIntactBy shape stored.digests d (block_of 1 k)
  still k other = intact_same shape (block_of 1 k) (recorded_in shape stored.digests (block_of 1 k)) c d (elsewhere k other) (stands_there k).intact

  is_datum : (k : Class) → ((k ≡ Datum) → ⊥) ⊎ (k ≡ Datum)
  is_datum Datum = inr refl
  is_datum Horiz = inl (λ e. cc)
  is_datum Right = inl (λ e. cc)
  is_datum Left = inl (λ e. cc)

  honest_at : (k : Class) → IsIntactBy shape stored.digests d (block_of 1 k) → payload_at shape d (block_of 1 k) ≡ value_of one 512 (object_blocks shape o.bytes) (block_of 1 k)
  honest_at k intact =
      elim (is_datum k) [
        | inl other ↦ ap (λ (xs : List ℕ). payload_in shape (take (cell_size shape) (drop (home_place shape (block_of 1 k)) xs))) (elsewhere k other) ∙ (stands_there k).payload_is ∙ sym (value_is k)
        | inr there ↦ absurd (gone (subst (λ (x : Class). IsIntactBy shape stored.digests d (block_of 1 x)) there intact))
      ]

  plain_at : (k : Class) → IsRecorded (block_of 1 k) (recorded_in shape stored.digests (block_of 1 k)) (padded_home shape (block_of 1 k) d) → IsIntactBy shape stored.digests d (block_of 1 k)
  unfolding lost
  plain_at Datum recorded = absurd (zeros_no_cell (cell_size shape) (block_of 1 Datum) recorded.payload (sym (all_same (cell_size shape) (home_place shape (block_of 1 Datum)) 0) ∙ recorded.cell))
  plain_at Horiz recorded = still Horiz (λ e. cc)
  plain_at Right recorded = still Right (λ e. cc)
  plain_at Left recorded = still Left (λ e. cc)

  pub loses_it : HasLostSite shape one stored o c d
  unfolding lost
  loses_it = record {
    loses = record { here = refl; others = lost_others c };
    damaged = gone;
    others = λ b has differs.
        let same = of_first b has in
        subst (IsIntactBy shape stored.digests d) (sym same) (still b.class (λ e. differs (same ∙ ap (block_of 1) e)));
    honest = λ b has intact.
        let same = of_first b has in
        subst (λ (x : BlockId). payload_at shape d x ≡ value_of one 512 (object_blocks shape o.bytes) x) (sym same) (honest_at b.class (subst (IsIntactBy shape stored.digests d) same intact));
    plain = λ b has recorded.
        let same = of_first b has in
        subst (IsIntactBy shape stored.digests d) (sym same)
        (plain_at b.class (subst (λ (x : BlockId). IsRecorded x (recorded_in shape stored.digests x) (padded_home shape x d)) same recorded));
  }

pub archives_stand : CellsHaveLengths → CellsHaveParts → PutsRecord → DamagedArchivesStand
archives_stand lengths parts record_law o is =
    (shape, one, stored lengths parts record_law o is, c lengths parts record_law o is, d lengths parts record_law o is, has_it lengths parts record_law o is, loses_it lengths parts record_law o is)
