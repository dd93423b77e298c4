-- A stretch in which no record is added, from where nothing is pending: the archive stays as it was.
use Rattle.std.proofs.Common.{◌≡◌, ℕ, ◌+◌, ◌-◌, ◌*◌, List, [], ◌++◌, refl, sym, ◌∙◌, ap, subst, arith}
use Rattle.std.proofs.lemmas.List.{append-nil}
use Rattle.aea_lattice.specs.Growth.{IsGrown}
use Rattle.aea_disk.specs.Frames.{OnlyWrites}
use Rattle.aea_disk.specs.State.{State, IsSynced}
use Rattle.aea_shelf.specs.Writes.{KeepsPadded, KeepsIntact}
use Rattle.aea_records.specs.Format.{Record, digests_of, limit_when}
use Rattle.aea_records.specs.Laws.{HasOneReading, DigestsAreCounted}
use Rattle.aea_records.proofs.OneMore.{nodes_of-append}
use Rattle.aea_ledger.specs.Next.{AreItsRecords}
use Rattle.aea_ledger.specs.Recorded.{AreRecordsOf}
use Rattle.aea_ledger.specs.Stops.{HasLedger}
use Rattle.aea_ledger.specs.Values.{Opened}
use Rattle.aea_archive.specs.Blocks.{IsBlockIn}
use Rattle.aea_archive.specs.Cells.{IsBesides}
use Rattle.aea_archive.specs.Data.{AreSurvivorsHonest, IsDamagePlain}
use Rattle.aea_archive.specs.Laws.{SurvivorsStayHonest}
use Rattle.aea_archive.proofs.Cells.{changes_shelf}
use Rattle.aea_archive.proofs.Stretches.{has_ledger}
use Rattle.aea_append.specs.Puts.{LeavesLedger}
use Rattle.aea_command_store.specs.Growing.{StaysGrown}
use Rattle.aea_command_store.proofs.IngestLemmas.One.{grows_no_more}
use Rattle.aea_command_store.proofs.PutLemmas.Opening.{changes}

module _ (reading : HasOneReading) (counts : DigestsAreCounted) (survivors : SurvivorsStayHonest)
    (reveals : Type 0) (revealed : reveals) (w : Opened) (rs : List Record) (now next : State) (its : AreItsRecords w rs (now.files 0)) (synced : IsSynced now)
    (taken fits fault : Type 0) (writes : OnlyWrites reveals taken fits fault (changes w) now next) (leaves : LeavesLedger now next)
    (keeps : KeepsPadded w.shape (IsBlockIn w.shape w.lattice.n) now.files next.files) where
  intact : KeepsIntact w.shape (IsBlockIn w.shape w.lattice.n) now.files next.files
  intact = (changes_shelf reveals taken fits fault w.shape (limit_when w.raised) (IsBlockIn w.shape w.lattice.n) (IsBesides w.shape) now next writes).intact revealed

  -- no nodes are new, and no digests
  long_none : 0 ≡ (w.lattice.n - w.lattice.n) * (1 + w.shape.alpha)
  long_none =
      let nodes : w.lattice.n - w.lattice.n ≡ 0 = omega arith in
      let none : 0 * (1 + w.shape.alpha) ≡ 0 = omega arith in
      sym (ap (λ (n : ℕ). n * (1 + w.shape.alpha)) nodes ∙ none)

  -- survivors that were honest, in plain damage, are so
  honest_still : (datas : List (List ℕ)) → AreRecordsOf w.shape rs datas
      → AreSurvivorsHonest w.shape w.lattice (digests_of rs) datas now.files → IsDamagePlain w.shape w.lattice (digests_of rs) now.files
      → AreSurvivorsHonest w.shape w.lattice (digests_of (rs ++ [])) (datas ++ []) next.files × IsDamagePlain w.shape w.lattice (digests_of (rs ++ [])) next.files
  honest_still datas recorded honest plain =
      let is = its.has.lattice in
      let same : IsGrown w.lattice w.lattice.n w.lattice = record { shape = record { alpha = refl; s = refl; p = refl }; nodes = refl; fences = refl } in
      let both = survivors w.shape w.lattice w.lattice (digests_of rs) [] datas [] (λ b. []) now.files next.files same (omega arith) is.alpha
      (let d = recorded.is_data.long in let i = recorded.is_lattice.n in let j = is.n in omega (arith, d, i, j))
      (counts w.shape rs its.has.valid ∙ ap (λ (n : ℕ). n * (1 + w.shape.alpha)) (sym is.n))
      (λ b on. absurd (let a = on.after in let m = on.most in omega (arith, a, m)))
      (λ b on. absurd (let a = on.after in let m = on.most in omega (arith, a, m)))
      (record { long = long_none; each = λ b on. absurd (let a = on.after in let m = on.most in omega (arith, a, m)) })
      (λ b on. absurd (let a = on.after in let m = on.most in omega (arith, a, m)))
      keeps intact honest plain in
      let digests : digests_of rs ++ [] ≡ digests_of (rs ++ []) = append-nil (digests_of rs) ∙ ap digests_of (sym (append-nil rs)) in
      subst (λ (ds : List (List ℕ)). AreSurvivorsHonest w.shape w.lattice ds (datas ++ []) next.files × IsDamagePlain w.shape w.lattice ds next.files) digests both

  pub stays_none : StaysGrown w.shape rs [] now next
  unfolding grows_no_more
  stays_none =
      let ledger : HasLedger w.shape rs (now.files 0) = has_ledger w rs (now.files 0) its in
      let nil : rs ≡ rs ++ [] = sym (append-nil rs) in
      record {
        grows = grows_no_more reveals revealed w rs now next its synced taken fits fault writes reading leaves;
        images = λ c here.
            let later = writes.time.later in
            subst (λ (l : List Record). HasLedger w.shape l (c 0)) nil (subst (HasLedger w.shape rs) (sym (leaves.images next.moment c later (omega arith) here)) ledger);
        ledger = subst (λ (l : List Record). HasLedger w.shape l (next.files 0)) nil (subst (HasLedger w.shape rs) (sym leaves.reads) ledger);
        exactly = leaves.reads;
        blocks = λ b on. absurd (let a = on.after in let m = on.most in omega (arith, a, m, nodes_of-append rs []));
        lasts = λ some. absurd (some refl);
        cells = λ b on. absurd (let a = on.after in let m = on.most in omega (arith, a, m));
        honest = honest_still;
      }
