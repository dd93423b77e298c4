-- Heads that are all loaded, before a node is woven.
use Rattle.std.proofs.Common.{◌≡◌, ℕ, ◌+◌, ◌-◌, ◌*◌, ◌<◌, List, [], replicate, Option, None, Some, Result, Err, refl, sym, ◌∙◌, ap, subst, arith}
use Rattle.std.proofs.lemmas.List.{append-nil}
use Rattle.aea_lattice.specs.declared.blocks.Class.{Class}
use Rattle.aea_lattice.specs.declared.blocks.BlockId.{BlockId}
use Rattle.aea_lattice.specs.declared.grid.Lattice.{Lattice}
use Rattle.aea_lattice.specs.declared.shape.Shape.{Shape}
use Rattle.aea_lattice.specs.Blocks.{block_of, HasParity}
use Rattle.aea_lattice.specs.Data.{IsDataList, value_at}
use Rattle.aea_lattice.specs.Strands.{strand_of}
use Rattle.aea_lattice.specs.Ends.{strands_of, last_open}
use Rattle.aea_disk.specs.Files.{Files}
use Rattle.aea_weave.specs.Woven.{Woven, head_of}
use Rattle.aea_weave.specs.Stored.{all_strands}
use Rattle.aea_weave.specs.Sums.{parity_to, AreStrandSums, LastParitiesAreSums}
use Rattle.aea_weave.proofs.Places.{strand-below, place-within}
use Rattle.aea_ledger.specs.Values.{Opened}
use Rattle.aea_archive.specs.Lasts.{IsLastParity, IsFirstDamagedLast, AreLastsIntact, AreLastsHonest, AreLastsOf}
use Rattle.aea_archive.specs.Laws.{LastsAreValues}
use Rattle.aea_append.specs.declared.fault.PutFault.{PutFault}
use Rattle.aea_append.specs.declared.fault.PutFault.TheVariants.{Full}
use Rattle.aea_append.specs.declared.heads.HeadFault.{HeadFault}
use Rattle.aea_append.specs.declared.heads.HeadFault.TheVariants.{HeadDamaged}
use Rattle.aea_append.specs.Loading.{place_of, IsLoaded, IsFound, HasLoaded}
use Rattle.aea_append.specs.Weaving.{head_by, AreHeads, HasWoven, IsWovenOf}
use Rattle.aea_append.proofs.Faults.{fault_is}
use Rattle.aea_append.proofs.Loads.{on_last}

-- the payload of a last parity is the head of its strand
abbrev pub loaded_payload : Lattice → Woven → BlockId → List ℕ
loaded_payload l heads b = head_of heads b.class (strand_of l b.class b.node)

place_below : (l : Lattice) (b : BlockId) → IsLastParity l b → place_of l b < all_strands l
place_below l b last = place-within l b.class (strand_of l b.class b.node) last.parity (strand-below l b.class b.node last.parity)

all_loaded : (reveals : Type 0) (v : Opened) (files : Files) (heads : Woven) → HasLoaded reveals v files heads (all_strands v.lattice) None
    → (c : Class) (strand : ℕ) → HasParity v.lattice c → strand < strands_of v.lattice c → IsLoaded reveals v files c (head_of heads c strand) (last_open v.lattice c strand)
all_loaded reveals v files heads has c strand parity below = has.loaded refl c strand parity below (place-within v.lattice c strand parity below)

-- what is loaded of a last parity
of_last : (reveals : Type 0) (v : Opened) (files : Files) (heads : Woven) → HasLoaded reveals v files heads (all_strands v.lattice) None
    → (b : BlockId) → IsLastParity v.lattice b → IsLoaded reveals v files b.class (loaded_payload v.lattice heads b) (Some b.node)
of_last reveals v files heads has b last =
    subst (IsLoaded reveals v files b.class (loaded_payload v.lattice heads b)) last.last
    (all_loaded reveals v files heads has b.class (strand_of v.lattice b.class b.node) last.parity (strand-below v.lattice b.class b.node last.parity))

head_start : (reveals : Type 0) (v : Opened) (files : Files) (heads : Woven) → heads.size ≡ v.shape.block → (c : Class) (strand : ℕ) (o : Option ℕ) → last_open v.lattice c strand ≡ o
    → IsLoaded reveals v files c (head_of heads c strand) o → head_of heads c strand ≡ head_by heads.size (loaded_payload v.lattice heads) c o
head_start reveals v files heads size c strand None is loaded = loaded ∙ ap (λ (k : ℕ). replicate k 0) (sym size)
head_start reveals v files heads size c strand (Some g) is loaded = ap (head_of heads c) (sym (on_last v.lattice c strand g is))

heads_start : (reveals : Type 0) (v : Opened) (files : Files) (heads : Woven) → HasLoaded reveals v files heads (all_strands v.lattice) None → AreHeads heads (loaded_payload v.lattice heads)
heads_start reveals v files heads has c strand parity below =
    let p = subst (λ (l : Lattice). HasParity l c) has.lattice parity in
    let u = subst (λ (l : Lattice). strand < strands_of l c) has.lattice below in
    head_start reveals v files heads has.size c strand (last_open v.lattice c strand) refl (all_loaded reveals v files heads has c strand p u)
    ∙ ap (λ (l : Lattice). head_by heads.size (loaded_payload v.lattice heads) c (last_open l c strand)) (sym has.lattice)

-- where all heads are loaded and nothing was found damaged, they are those of no data woven after the lattice
pub woven_start : (reveals : Type 0) (v : Opened) (files after : Files) (heads : Woven) → HasLoaded reveals v files heads (all_strands v.lattice) None
    → HasWoven reveals v.shape v.lattice v.digests files after heads [] []
woven_start reveals v files after heads has =
    let n : heads.lattice.n ≡ v.lattice.n = ap (λ (l : Lattice). l.n) has.lattice in
    record {
      payload = loaded_payload v.lattice heads;
      lasts = λ b last. (of_last reveals v files heads has b last).0;
      homes = λ revealed b last. (of_last reveals v files heads has b last).2 revealed;
      lasts_wide = λ b last. (of_last reveals v files heads has b last).1;
      grown = record {
        shape = record { alpha = ap (λ (l : Lattice). l.alpha) has.lattice; s = ap (λ (l : Lattice). l.s) has.lattice; p = ap (λ (l : Lattice). l.p) has.lattice };
        nodes = omega (arith, n);
        fences = ap (λ (l : Lattice). l.fences) has.lattice;
      };
      heads = heads_start reveals v files heads has;
      blocks = λ k lt. absurd (omega (arith, lt));
      woven = λ i c after most parity. absurd (omega (arith, after, most, n));
      digests_are = record {
        long = (let z : heads.lattice.n - v.lattice.n ≡ 0 = omega (arith, n) in let e : 0 ≡ 0 * (1 + v.shape.alpha) = omega arith in e ∙ ap (λ (k : ℕ). k * (1 + v.shape.alpha)) (sym z));
        each = λ b on. absurd (let x = on.after in let y = on.most in omega (arith, x, y, n));
      };
      cells = λ revealed b on. absurd (let x = on.after in let y = on.most in omega (arith, x, y, n));
      wide = λ b on. absurd (let x = on.after in let y = on.most in omega (arith, x, y, n));
    }

-- where all strands were looked at and nothing was found damaged, all last parities are intact if the disk's contents are known
pub intact_start : (reveals : Type 0) (v : Opened) (files : Files) (heads : Woven) → HasLoaded reveals v files heads (all_strands v.lattice) None → reveals → AreLastsIntact v.shape v.lattice v.digests files
intact_start reveals v files heads has revealed b last = has.least revealed b last (place_below v.lattice b last)

-- a block that was found when all strands were looked at is a last parity and, if the disk's contents are known, the damaged one
-- with the least number
pub first_damaged : (reveals : Type 0) (v : Opened) (files : Files) (heads : Woven) (b : BlockId) → HasLoaded reveals v files heads (all_strands v.lattice) (Some b)
    → IsLastParity v.lattice b × (reveals → IsFirstDamagedLast v.shape v.lattice v.digests files b)
first_damaged reveals v files heads b has =
    let f : IsFound reveals v files (all_strands v.lattice) (Some b) = has.least in
    (f.0, λ revealed. record { damaged = (f.1 revealed).0; least = λ a damaged. (f.1 revealed).1 a damaged (place_below v.lattice a damaged.last) })

-- ---- which block a fault names, and how many nodes

abbrev block_in : {T : Type 0} → BlockId → Result T HeadFault → BlockId
block_in d (Err (HeadDamaged b)) = b
block_in d r = d

-- faults of a damaged last parity that are the same name the same block
pub same_head : {T : Type 0} (x y : BlockId) → ◌≡◌ {A = Result T HeadFault} (Err (HeadDamaged x)) (Err (HeadDamaged y)) → x ≡ y
same_head x y e = ap (block_in x) e

abbrev nodes_in : PutFault → ℕ
nodes_in (Full n) = n
nodes_in fault = 0

-- faults of a full archive that are the same name the same number of nodes
pub same_nodes : {T : Type 0} (m n : ℕ) → ◌≡◌ {A = Result T PutFault} (Err (Full m)) (Err (Full n)) → m ≡ n
same_nodes m n e = ap nodes_in (fault_is (Full m) (Full n) e)

-- ---- heads of a data list

head_value : (l : Lattice) (size : ℕ) (shape : Shape) (datas : List (List ℕ)) (payload : BlockId → List ℕ) (c : Class) (strand : ℕ) → size ≡ shape.block → HasParity l c → AreLastsOf shape l datas payload → (o : Option ℕ) → last_open l c strand ≡ o
    → head_by size payload c o ≡ parity_to l size datas c o
head_value l size shape datas payload c strand same parity lasts None is = refl
head_value l size shape datas payload c strand same parity lasts (Some g) is =
    lasts (block_of g c) (record { parity = parity; last = subst (λ (k : ℕ). last_open l c k ≡ Some g) (sym (on_last l c strand g is)) is })
    ∙ ap (λ (k : ℕ). value_at l k datas g c) (sym same)

-- loaded heads are the strand sums of each data list for which the last parities are honest
pub sums_start : LastsAreValues → LastParitiesAreSums → (reveals : Type 0) → reveals → (v : Opened) (heads : Woven) (first files : Files) (datas : List (List ℕ)) → heads.lattice ≡ v.lattice → heads.size ≡ v.shape.block
    → IsDataList v.lattice v.shape.block datas → AreLastsHonest v.shape v.lattice v.digests datas first
    → HasWoven reveals v.shape v.lattice v.digests first files heads [] [] → IsWovenOf v.shape v.lattice heads datas [] []
sums_start values are reveals revealed v heads first files datas lattice size is honest has =
    let lasts : AreLastsOf v.shape v.lattice datas has.payload = values v.shape v.lattice v.digests datas has.payload first honest has.lasts (has.homes revealed) has.lasts_wide in
    let here : AreLastsOf v.shape heads.lattice datas has.payload = subst (λ (l : Lattice). AreLastsOf v.shape l datas has.payload) (sym lattice) lasts in
    let own : IsDataList heads.lattice heads.size datas = subst (λ (l : Lattice). IsDataList l heads.size datas) (sym lattice) (subst (λ (k : ℕ). IsDataList v.lattice k datas) (sym size) is) in
    let n : heads.lattice.n ≡ v.lattice.n = ap (λ (l : Lattice). l.n) lattice in
    let sums : AreStrandSums heads datas = are heads datas own
    (λ c strand parity below. has.heads c strand parity below ∙ head_value heads.lattice heads.size v.shape datas has.payload c strand size parity here (last_open heads.lattice c strand) refl) in
    record {
      grown = record {
        shape = record { alpha = ap (λ (l : Lattice). l.alpha) lattice; s = ap (λ (l : Lattice). l.s) lattice; p = ap (λ (l : Lattice). l.p) lattice };
        nodes = omega (arith, n);
        fences = ap (λ (l : Lattice). l.fences) lattice;
      };
      size = size;
      sums = subst (AreStrandSums heads) (sym (append-nil datas)) sums;
      digests_are = record {
        long = (let z : heads.lattice.n - v.lattice.n ≡ 0 = omega (arith, n) in let e : 0 ≡ 0 * (1 + v.shape.alpha) = omega arith in e ∙ ap (λ (k : ℕ). k * (1 + v.shape.alpha)) (sym z));
        each = λ b on. absurd (let x = on.after in let y = on.most in omega (arith, x, y, n));
      };
    }
