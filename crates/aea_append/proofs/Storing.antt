-- From what was taken and woven, and a commit, to what is left where an object was stored.
use Rattle.std.proofs.Common.{◌≡◌, ℕ, ◌+◌, ◌-◌, ◌*◌, ◌≤◌, List, [], ◌∷◌, ◌++◌, length, get_or, Option, refl, sym, ◌∙◌, ap, subst, arith}
use Rattle.std.specs.List.{sum_by}
use Rattle.std.proofs.lemmas.List.{append-nil, append_assoc, get_or-append_right}
use Rattle.std.proofs.Math.Nat.{mul-le-mul_right}
use Rattle.aea_lattice.specs.declared.blocks.BlockId.{BlockId}
use Rattle.aea_lattice.specs.declared.grid.Lattice.{Lattice}
use Rattle.aea_lattice.specs.declared.shape.Shape.{Shape}
use Rattle.aea_lattice.specs.Growth.{IsGrown}
use Rattle.aea_disk.specs.Files.{Files}
use Rattle.aea_disk.specs.State.{State, IsSynced}
use Rattle.aea_envelope.specs.Cells.{block_digest}
use Rattle.aea_envelope.specs.Facts.{CellsHaveLengths, CellsHaveParts}
use Rattle.aea_lattice.specs.Shapes.{number_in}
use Rattle.aea_weave.specs.Woven.{Woven}
use Rattle.aea_ledger.specs.Stops.{HasLedger}
use Rattle.aea_shelf.proofs.Runs.{synced_held}
use Rattle.aea_shelf.specs.Writes.{KeepsPadded, KeepsIntact}
use Rattle.aea_records.specs.Format.{Stored, Record, Object, nodes_for, fences_of, digests_of}
use Rattle.aea_records.specs.Grammar.{IsNext, MayFollow, AreRecords}
use Rattle.aea_records.specs.Laws.{DigestsAreCounted}
use Rattle.aea_ledger.specs.Values.{Opened, HasRecords}
use Rattle.aea_ledger.specs.Next.{next_stored}
use Rattle.aea_ledger.specs.Recorded.{AreRecordsOf}
use Rattle.aea_records.proofs.OneMore.{nodes_of-push, fences_of-push, digests_of-push}
use Rattle.aea_archive.specs.Blocks.{IsBlockOn, IsBlockIn, recorded_in}
use Rattle.aea_archive.specs.Cells.{AreAtHome}
use Rattle.aea_archive.specs.Lasts.{AreLastsHonest}
use Rattle.aea_archive.specs.Next.{object_blocks, IsNextStored, AreDigestsOn}
use Rattle.aea_archive.specs.Data.{AreSurvivorsHonest, IsDamagePlain, RecordsMore}
use Rattle.aea_archive.specs.Laws.{NextRecordsMore, LastsAreValues, SurvivorsStayHonest}
use Rattle.aea_archive.specs.Stretches.{HasAdded}
use Rattle.aea_archive.proofs.Honest.{stands}
use Rattle.aea_archive.proofs.Values.{last_inside}
use Rattle.aea_lattice.proofs.OneLattice.{lattice_equal}
use Rattle.aea_append.specs.Taking.{TakesObject}

-- the last of records may follow those before it
pub next-last : (shape : Shape) (earlier records : List Record) (r : Record) → MayFollow shape earlier (records ++ r ∷ []) → IsNext shape (earlier ++ records) r
next-last shape earlier [] r follow = subst (λ (l : List Record). IsNext shape l r) (sym (append-nil earlier)) follow.0
next-last shape earlier (q ∷ records) r follow =
    subst (λ (l : List Record). IsNext shape l r) (append_assoc earlier (q ∷ []) records) (next-last shape (earlier ++ q ∷ []) records r follow.1)

-- ---- the next record, where the lattice that was woven is the longer one

module _ (reveals : Type 0) (v : Opened) (name : List ℕ) (k count : ℕ) (digest : List ℕ) (left rest : Option (List ℕ)) (digests : List (List ℕ)) (first files : Files) (counted : count ≡ nodes_for v.shape k)
    {heads : Woven} (t : TakesObject reveals v.shape v.lattice v.digests k digest left rest digests first files heads) where
  pub grown_by : IsGrown v.lattice (v.lattice.n + count) heads.lattice
  grown_by = record { shape = t.woven.grown.shape; nodes = (let n = t.nodes in omega (arith, n, counted)); fences = t.woven.grown.fences }

  -- all that a source had, taken and woven after the ledger's lattice, is the next record's object under the name
  pub next_woven : IsNextStored v.shape v.lattice heads.lattice t.woven.payload name t.bytes (next_stored v name k digest count digests)
  next_woven = record {
    name_is = refl;
    size = sym t.long;
    digest = t.digest_is;
    first = refl;
    count = counted ∙ ap (nodes_for v.shape) (sym t.long);
    grown = grown_by;
    blocks = t.woven.blocks;
    woven = t.woven.woven;
    digests = t.woven.digests_are;
  }

  -- the digest of a new block
  recorded_of : (olds : List (List ℕ)) (b : BlockId) → length olds ≡ v.lattice.n * (1 + v.shape.alpha) → IsBlockOn v.shape v.lattice.n heads.lattice.n b → block_digest b (t.woven.payload b) ≡ recorded_in v.shape (olds ++ digests) b
  recorded_of olds b long on =
      let after = on.after in
      let rows : v.lattice.n * (1 + v.shape.alpha) ≤ (b.node - 1) * (1 + v.shape.alpha) = mul-le-mul_right (1 + v.shape.alpha) (let e : v.lattice.n ≤ b.node - 1 = omega (arith, after) in e) in
      sym (get_or-append_right olds digests (length olds) (number_in v.shape b) [] refl (omega (arith, rows, long))
      ∙ ap (λ (n : ℕ). get_or digests (number_in v.shape b - n) []) long
      ∙ t.woven.digests_are.each b on)

  -- all that was added is there
  pub added_of : CellsHaveLengths → CellsHaveParts → DigestsAreCounted → (records : List Record) → HasRecords v records → (new : State)
      → AreAtHome v.shape v.lattice.n heads.lattice.n t.woven.payload new.files → HasLedger v.shape (records ++ Object (next_stored v name k digest count digests) ∷ []) (new.files 0) → IsSynced new
      → HasAdded v.shape records (Object (next_stored v name k digest count digests) ∷ []) new
  added_of lengths parts counts records has new cells ledger synced = record {
    ledger = ledger;
    synced = synced;
    blocks = λ b on.
        let r : Record = Object (next_stored v name k digest count digests) in
        let sum : sum_by (λ (o : Stored). o.count) (next_stored v name k digest count digests ∷ []) ≡ count = omega arith in
        let n = grown_by.nodes in
        let here : IsBlockOn v.shape v.lattice.n heads.lattice.n b = record {
          after = (let a = on.after in omega (arith, a, has.lattice.n));
          most = (let m = on.most in omega (arith, m, has.lattice.n, nodes_of-push records (Object (next_stored v name k digest count digests)), sum, n));
          used = on.used;
        } in
        let long : length (digests_of records) ≡ v.lattice.n * (1 + v.shape.alpha) = counts v.shape records has.valid ∙ ap (λ (m : ℕ). m * (1 + v.shape.alpha)) (sym has.lattice.n) in
        let all : digests_of records ++ digests ≡ digests_of (records ++ Object (next_stored v name k digest count digests) ∷ []) =
        sym (digests_of-push records (Object (next_stored v name k digest count digests)) ∙ ap (λ (l : List (List ℕ)). digests_of records ++ l) (append-nil digests)) in
        synced_held v.shape b (recorded_in v.shape (digests_of (records ++ Object (next_stored v name k digest count digests) ∷ [])) b) new synced
        (stands lengths parts v.shape b (recorded_in v.shape (digests_of (records ++ Object (next_stored v name k digest count digests) ∷ [])) b) (t.woven.payload b) new.files (t.woven.wide b here)
        (recorded_of (digests_of records) b long here ∙ ap (λ (ds : List (List ℕ)). recorded_in v.shape ds b) all) (cells b here)).intact;
  }

  -- where it is in the ledger, it records the data before and the object's blocks
  pub more_where : NextRecordsMore → LastsAreValues → reveals → (records : List Record) (datas : List (List ℕ)) → HasRecords v records
      → AreRecords v.shape (records ++ Object (next_stored v name k digest count digests) ∷ []) → AreRecordsOf v.shape records datas → AreLastsHonest v.shape v.lattice v.digests datas first
      → RecordsMore v.shape records (Object (next_stored v name k digest count digests) ∷ []) datas (object_blocks v.shape t.bytes ++ []) v.lattice heads.lattice t.woven.payload
  more_where law values revealed records datas has valid old honest =
      subst (λ (more : List (List ℕ)). RecordsMore v.shape records (Object (next_stored v name k digest count digests) ∷ []) datas more v.lattice heads.lattice t.woven.payload)
      (sym (append-nil (object_blocks v.shape t.bytes)))
      (law v.shape records datas v.lattice heads.lattice t.woven.payload name t.bytes (next_stored v name k digest count digests) old has.lattice
      (values v.shape v.lattice v.digests datas t.woven.payload first honest t.woven.lasts (t.woven.homes revealed) t.woven.lasts_wide)
      t.are (next-last v.shape [] records (Object (next_stored v name k digest count digests)) valid) next_woven)

-- ---- and the opened ledger has taken it

module _ (reveals : Type 0) (v w : Opened) (name : List ℕ) (k count : ℕ) (digest : List ℕ) (left rest : Option (List ℕ)) (digests : List (List ℕ)) (first files : Files) (counted : count ≡ nodes_for v.shape k)
    {heads : Woven} (t : TakesObject reveals v.shape v.lattice v.digests k digest left rest digests first files heads) (same : w.shape ≡ v.shape) (records : List Record) (has : HasRecords v records)
    (new : HasRecords w (records ++ Object (next_stored v name k digest count digests) ∷ [])) where
  abbrev stored : Stored
  stored = next_stored v name k digest count digests

  one : sum_by (λ (o : Stored). o.count) (stored ∷ []) ≡ count
  one = omega arith

  -- the lattice grows by the nodes of the object
  pub grown_to : IsGrown v.lattice (v.lattice.n + count) w.lattice
  grown_to = record {
    shape = record {
      alpha = new.lattice.alpha ∙ ap (λ (s : Shape). s.alpha) same ∙ sym has.lattice.alpha;
      s = new.lattice.s ∙ ap (λ (s : Shape). s.s) same ∙ sym has.lattice.s;
      p = new.lattice.p ∙ ap (λ (s : Shape). s.p) same ∙ sym has.lattice.p;
    };
    nodes = new.lattice.n ∙ nodes_of-push records (Object stored) ∙ omega (arith, one, has.lattice.n);
    fences = new.lattice.fences_are ∙ fences_of-push records (Object stored) ∙ append-nil (fences_of records) ∙ sym has.lattice.fences_are;
  }

  -- it is the one that was woven
  pub woven_to : heads.lattice ≡ w.lattice
  woven_to =
      let g = t.woven.grown in
      let h = grown_to in
      let n = t.nodes in
      let m = grown_to.nodes in
      lattice_equal heads.lattice w.lattice (g.shape.alpha ∙ sym grown_to.shape.alpha) (g.shape.s ∙ sym grown_to.shape.s) (g.shape.p ∙ sym grown_to.shape.p)
      (omega (arith, n, m, counted)) (g.fences ∙ sym grown_to.fences)

  -- the record is the next one
  pub next_of : IsNextStored v.shape v.lattice w.lattice t.woven.payload name t.bytes (next_stored v name k digest count digests)
  next_of = subst (λ (l : Lattice). IsNextStored v.shape v.lattice l t.woven.payload name t.bytes (next_stored v name k digest count digests)) woven_to (next_woven reveals v name k count digest left rest digests first files counted t)

  may_follow : IsNext v.shape records (Object stored)
  may_follow = next-last v.shape [] records (Object stored) (subst (λ (s : Shape). MayFollow s [] (records ++ Object stored ∷ [])) same new.valid)

  -- it records the data before and the object's blocks
  pub more_of : NextRecordsMore → LastsAreValues → reveals → (datas : List (List ℕ)) → AreRecordsOf v.shape records datas → AreLastsHonest v.shape v.lattice v.digests datas first
      → RecordsMore v.shape records (Object stored ∷ []) datas (object_blocks v.shape t.bytes) v.lattice w.lattice t.woven.payload
  more_of law values revealed datas old honest =
      law v.shape records datas v.lattice w.lattice t.woven.payload name t.bytes stored old has.lattice
      (values v.shape v.lattice v.digests datas t.woven.payload first honest t.woven.lasts (t.woven.homes revealed) t.woven.lasts_wide)
      t.are may_follow next_of

  -- the digests of the new blocks come after those that it had
  pub digests_to : w.digests ≡ v.digests ++ digests
  digests_to = new.digests ∙ digests_of-push records (Object stored) ∙ ap (λ (l : List (List ℕ)). digests_of records ++ l) (append-nil digests) ∙ ap (λ (l : List (List ℕ)). l ++ digests) (sym has.digests)

  -- survivors that are honest, in plain damage, are so afterwards
  pub honest_of : NextRecordsMore → LastsAreValues → SurvivorsStayHonest → DigestsAreCounted → reveals → (datas : List (List ℕ)) → AreRecordsOf v.shape records datas → (after : Files)
      → AreAtHome v.shape v.lattice.n w.lattice.n t.woven.payload after → KeepsPadded v.shape (IsBlockIn v.shape v.lattice.n) first after → KeepsIntact v.shape (IsBlockIn v.shape v.lattice.n) first after
      → AreSurvivorsHonest v.shape v.lattice v.digests datas first → IsDamagePlain v.shape v.lattice v.digests first
      → AreSurvivorsHonest w.shape w.lattice w.digests (datas ++ object_blocks v.shape t.bytes) after × IsDamagePlain w.shape w.lattice w.digests after
  honest_of law values stay counts revealed datas old after cells padded intact honest plain =
      let lasts : AreLastsHonest v.shape v.lattice v.digests datas first = λ b last is. honest b (last_inside v.lattice b last) is in
      let more = more_of law values revealed datas old lasts in
      let grown = grown_to in
      let nodes = grown_to.nodes in
      let long = old.is_data in
      let whole : IsGrown v.lattice w.lattice.n w.lattice = record { shape = grown_to.shape; nodes = refl; fences = grown_to.fences } in
      let both = stay v.shape v.lattice w.lattice v.digests digests datas (object_blocks v.shape t.bytes) t.woven.payload first after whole (omega (arith, nodes)) has.lattice.alpha
      (let d = old.is_data.long in let i = old.is_lattice.n in let j = has.lattice.n in omega (arith, d, i, j))
      (ap length has.digests ∙ counts v.shape records has.valid ∙ ap (λ (n : ℕ). n * (1 + v.shape.alpha)) (sym has.lattice.n))
      more.values
      (λ b on. t.woven.wide b (subst (λ (l : Lattice). IsBlockOn v.shape v.lattice.n l.n b) (sym woven_to) on))
      (subst (λ (l : Lattice). AreDigestsOn v.shape v.lattice.n l.n t.woven.payload digests) woven_to t.woven.digests_are)
      cells padded intact honest plain in
      let one = subst (λ (ds : List (List ℕ)). AreSurvivorsHonest v.shape w.lattice ds (datas ++ object_blocks v.shape t.bytes) after × IsDamagePlain v.shape w.lattice ds after) (sym digests_to) both in
      subst (λ (s : Shape). AreSurvivorsHonest s w.lattice w.digests (datas ++ object_blocks v.shape t.bytes) after × IsDamagePlain s w.lattice w.digests after) (sym same) one
