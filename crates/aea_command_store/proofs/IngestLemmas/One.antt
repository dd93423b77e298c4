-- One frame after others: what the call that takes it leaves of the archive, from where nothing is pending.
use Rattle.std.proofs.Common.{◌≡◌, ℕ, List, [], ◌∷◌, ◌++◌, length, sym, ◌∙◌, ap, subst, arith, refl}
use Rattle.std.proofs.lemmas.List.{append-nil}
use Rattle.std.proofs.lemmas.List.Elements.{All-cons}
use Rattle.aea_lattice.specs.declared.shape.Shape.{Shape}
use Rattle.aea_disk.specs.Files.{Files}
use Rattle.aea_disk.specs.Frames.{OnlyWrites}
use Rattle.aea_disk.specs.State.{State, During, IsSynced}
use Rattle.aea_disk.proofs.Moments.{during_more}
use Rattle.aea_records.specs.Format.{Record, Object, digests_of, body}
use Rattle.aea_records.specs.Laws.{HasOneReading}
use Rattle.aea_records.specs.TableLaws.{AreBytes}
use Rattle.aea_ledger.specs.Next.{AreItsRecords}
use Rattle.aea_ledger.specs.Stops.{HasLedger, committed}
use Rattle.aea_ledger.specs.Values.{Opened}
use Rattle.aea_archive.specs.Data.{RecordsMore, AreSurvivorsHonest, IsDamagePlain}
use Rattle.aea_archive.specs.Lasts.{AreLastsRecorded, AreLastsHonest}
use Rattle.aea_archive.specs.Next.{NewObject, object_blocks}
use Rattle.aea_archive.proofs.Stretches.{has_ledger, adds_nothing}
use Rattle.aea_append.specs.Puts.{HasStored, MayHaveStored, LeavesLedger}
use Rattle.aea_append.specs.declared.store.Stored.{Stored}
use Rattle.aea_command_store.specs.Growing.{LeavesArchive, committed_all, Grows, StaysGrown, HasGrown}
use Rattle.aea_command_store.proofs.Committing.{long_behind, long_exactly}
use Rattle.aea_command_store.proofs.PutLemmas.Opening.{changes, leaves_is, none_more}
use Rattle.aea_command_store.proofs.Wides.{wide_next}

module _ (reveals : Type 0) (revealed : reveals) (w : Opened) (rs : List Record) (now next : State) (its : AreItsRecords w rs (now.files 0)) (synced : IsSynced now)
    (taken fits fault : Type 0) (writes : OnlyWrites reveals taken fits fault (changes w) now next) where
  -- an image of now is the files as they read
  image_now : (d : Files) → now.image now.moment d → d ≡ now.files
  image_now d here = λ i f. synced d here f i

  pub leaves_from : During now next (LeavesArchive w.shape rs now.files)
  leaves_from t c from to here =
      let was = writes.crash t c from to here in
      leaves_is w rs its.has now.files c (subst (λ (d : Files). changes w d c) (image_now was.0 was.1) was.2)

  pub reads_from : LeavesArchive w.shape rs now.files next.files
  reads_from = leaves_is w rs its.has now.files next.files (writes.contents revealed)

  -- nothing was stored
  unfoldable pub grows_no_more : HasOneReading → LeavesLedger now next → Grows w.shape rs [] now next
  grows_no_more reading leaves =
      let ledger = has_ledger w rs (now.files 0) its in
      record {
        by = record {
          lattice = w.lattice;
          is_lattice = its.has.lattice;
          longer = w.lattice;
          payload = λ b. [];
          added = [];
          next = refl;
          adds = adds_nothing reading w.shape rs [] (λ b. []) now next writes.earlier
              (during_more now next (λ c. c 0 ≡ now.files 0) (λ c. HasLedger w.shape rs (c 0)) (λ c same. subst (HasLedger w.shape rs) (sym same) ledger) leaves.images)
              (subst (HasLedger w.shape rs) (sym leaves.reads) ledger);
          leaves = leaves_from;
          reads = reads_from;
          long = (let same = ap length leaves.reads in omega (arith, same));
        };
        homes = λ some. absurd (some refl);
        lasts_wide = λ some. absurd (some refl);
        wide = λ b on. absurd (let a = on.after in let m = on.most in omega (arith, a, m));
        bytes = λ k d inside. absurd (omega (arith, inside));
        records_more = λ datas valid recorded honest. none_more w.shape rs datas w.lattice (λ b. []) recorded;
      }

  -- an object was stored, or none
  pub grows_maybe : (Fits : NewObject → Type 0) (may : MayHaveStored w Fits now next) → Grows w.shape rs may.objects now next
  grows_maybe Fits may = record {
    by = record {
      lattice = w.lattice;
      is_lattice = its.has.lattice;
      longer = may.lattice;
      payload = may.payload;
      added = may.added;
      next = may.next;
      adds = may.adds rs its;
      leaves = leaves_from;
      reads = reads_from;
      long = long_behind w.shape rs may.added w.end (length (now.files 0)) (length (next.files 0)) its.has.end may.long;
    };
    homes = may.homes;
    lasts_wide = may.lasts_wide;
    wide = wide_next w.shape w.lattice may.lattice may.payload may.objects may.added its.has.lattice.alpha may.lasts_wide may.bytes may.next;
    bytes = may.bytes;
    records_more = λ datas valid recorded honest.
        may.records_more rs datas its.has valid recorded (subst (λ (ds : List (List ℕ)). AreLastsHonest w.shape w.lattice ds datas now.files) (sym its.has.digests) honest);
  }

  -- it was
  pub grown_by_one : (w2 : Opened) (o : NewObject) (stored : Stored) (has : HasStored reveals w w2 o now next stored) → (g : HasGrown w.shape rs (o ∷ []) now next) × (g.stays.grows.by.added ≡ Object has.r ∷ [])
  grown_by_one w2 o stored has =
      let blocks = object_blocks w.shape o.bytes in
      let alone : blocks ≡ blocks ++ [] = sym (append-nil blocks) in
      let then = has.value rs its.has in
      let added = has.added revealed rs its in
      let exactly : next.files 0 ≡ committed_all w.shape rs (now.files 0) (Object has.r ∷ []) = has.exactly revealed ∙ ap (λ (n : ℕ). committed (now.files 0) n (body (Object has.r) ++ 0 ∷ [])) its.has.end in
      let stays : StaysGrown w.shape rs (o ∷ []) now next = record {
        grows = record {
          by = record {
            lattice = w.lattice;
            is_lattice = its.has.lattice;
            longer = w2.lattice;
            payload = has.payload;
            added = Object has.r ∷ [];
            next = (w2.lattice, has.r, refl, has.next, refl);
            adds = has.adds revealed rs its;
            leaves = leaves_from;
            reads = reads_from;
            long = long_exactly w.shape rs (Object has.r ∷ []) (now.files 0) (next.files 0) exactly;
          };
          homes = λ some. has.homes revealed;
          lasts_wide = λ some. has.lasts_wide;
          wide = has.wide;
          bytes = All-cons (λ q. AreBytes q.bytes) o [] has.bytes (λ k d inside. absurd (omega (arith, inside)));
          records_more = λ datas valid recorded honest.
              subst (λ (more : List (List ℕ)). RecordsMore w.shape rs (Object has.r ∷ []) datas more w.lattice w2.lattice has.payload) alone
              (has.records_more revealed rs datas its.has recorded (subst (λ (ds : List (List ℕ)). AreLastsHonest w.shape w.lattice ds datas now.files) (sym its.has.digests) honest));
        };
        images = λ c here. subst (HasLedger w.shape (rs ++ Object has.r ∷ [])) (sym (added.synced c here 0)) added.ledger;
        ledger = added.ledger;
        exactly = exactly;
        blocks = added.blocks;
        lasts = λ some. subst (λ (ds : List (List ℕ)). AreLastsRecorded w.shape w.lattice ds has.payload) its.has.digests has.lasts;
        cells = has.cells revealed;
        honest = λ datas recorded honest plain.
            let early = subst (λ (ds : List (List ℕ)). AreSurvivorsHonest w.shape w.lattice ds datas now.files) (sym its.has.digests) honest in
            let damage = subst (λ (ds : List (List ℕ)). IsDamagePlain w.shape w.lattice ds now.files) (sym its.has.digests) plain in
            let late = has.honest revealed rs datas its.has recorded early damage in
            let as_shape = subst (λ (s : Shape). AreSurvivorsHonest s w2.lattice w2.digests (datas ++ blocks) next.files × IsDamagePlain s w2.lattice w2.digests next.files) has.same_shape late in
            let as_digests = subst (λ (ds : List (List ℕ)). AreSurvivorsHonest w.shape w2.lattice ds (datas ++ blocks) next.files × IsDamagePlain w.shape w2.lattice ds next.files) then.digests as_shape in
            subst (λ (more : List (List ℕ)). AreSurvivorsHonest w.shape w2.lattice (digests_of (rs ++ Object has.r ∷ [])) (datas ++ more) next.files × IsDamagePlain w.shape w2.lattice (digests_of (rs ++ Object has.r ∷ [])) next.files) alone as_digests;
      } in (
        record {
          stays = stays;
          synced = added.synced;
        },
        refl,
      )
