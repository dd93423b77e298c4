-- Copies are made of a ledger that has none: where its records end, both copies, and what a stop leaves meanwhile.
use Rattle.std.proofs.Common.{◌≡◌, ⊎_elim, inl, inr, ℕ, suc, min, ◌+◌, ◌<◌, ◌≤◌, true, List, [], ◌∷◌, length, take, get_or, refl, sym, ap, ◌∙◌, subst, arith}
use Rattle.std.proofs.lemmas.Bool.{cases_lt}
use Rattle.std.proofs.lemmas.List.{length-append}
use Rattle.aea_disk.specs.Ends.{EndsAt, copied_end}
use Rattle.aea_disk.specs.Files.{Files, ChangesOnly, KeepsFiles}
use Rattle.aea_disk.specs.Frames.{OnlyReads, OnlyWrites}
use Rattle.aea_disk.specs.State.{State, Passes, During, KeepsImages, IsSynced, IsReady, IsRoomy}
use Rattle.aea_disk.proofs.Frames.{reads_writes, reads_then_writes, writes_wider, writes_both}
use Rattle.aea_disk.proofs.Moments.{during_both}
use Rattle.aea_copies.specs.Format.{copied, text_of, whole_copy}
use Rattle.aea_copies.specs.Grammar.{IsBegun}
use Rattle.aea_copies.specs.Kept.{IsCopyFile, IsGood, mended}
use Rattle.aea_copy_writer.specs.Anew.{CanMake, IsOldNoneOrMade, IsNoneOrMade, RevealsCopy, FitsCopy}
use Rattle.aea_copy_writer.specs.Entries.{HasPieces}
use Rattle.aea_copy_writer.specs.declared.entries.Written.{Written}
use Rattle.aea_mirror.specs.declared.further.Further.TheVariants.{Nothing, Until, Broken}
use Rattle.aea_mirror.specs.declared.tail.Tail.{Tail}
use Rattle.aea_mirror.specs.Ending.{ends_once}
use Rattle.aea_mirror.specs.Guarding.{AreFixed}
use Rattle.aea_mirror.specs.Looking.{IsFurther}
use Rattle.aea_mirror.specs.Refusing.{NeverEnds, WritesNone}
use Rattle.aea_mirror.specs.Shown.{Shows, NoneBegun}
use Rattle.aea_mirror.specs.Starting.{MayBeStarted, HasStarted, FitsMaking, FitsStart, ShowsNoMore}
use Rattle.aea_mirror.proofs.Doubling.{copy_only}
use Rattle.aea_mirror.proofs.Guards.{good_begun}
use Rattle.aea_mirror.proofs.Records.{length-copied}
use Rattle.aea_mirror.proofs.Showing.{mended_closed}
use Rattle.aea_mirror.proofs.Syncing.{shows_as_is}
use Rattle.aea_mirror.proofs.Wholes.{ledger_pieces, whole_has_one}

-- ---- where the records of a ledger end

pub ends_at_header : (ledger : List ℕ) → get_or ledger 0 0 ≡ 1 → IsFurther ledger 0 17 Nothing → EndsAt ledger 17
ends_at_header ledger header found = record { header = header; records = 0; reaches = refl; there = found.there; shut = found.shut }

pub ends_at_last : (ledger : List ℕ) (last : ℕ) → get_or ledger 0 0 ≡ 1 → IsFurther ledger 0 17 (Until last) → EndsAt ledger last
ends_at_last ledger last header found = record { header = header; records = suc found.0; reaches = found.1.reaches; there = found.1.there; shut = found.1.shut }

pub broken_never_ends : (ledger : List ℕ) → IsFurther ledger 0 17 Broken → NeverEnds ledger
broken_never_ends ledger broken last ends = broken ends.records last (record { reaches = ends.reaches; there = ends.there; shut = ends.shut })

-- ---- both copies

none_of : (c : Files) → (IsBegun (c 65) → ⊥) → (IsBegun (c 66) → ⊥) → NoneBegun c
none_of c one two f is begun =
    ⊎_elim (λ (a : f ≡ 65). one (subst (λ (x : ℕ). IsBegun (c x)) a begun)) (λ (b : f ≡ 66). two (subst (λ (x : ℕ). IsBegun (c x)) b begun)) is

-- while the first is made
pub first_moments : (reveals taken fits fault : Type 0) (pieces : List (List ℕ)) (s m : State) → IsSynced s → NoneBegun s.files → OnlyWrites reveals taken fits fault (ChangesOnly 65) s m
    → During s m (λ c. IsOldNoneOrMade (whole_copy pieces) (s.files 65) (c 65)) → During s m (λ c. MayBeStarted pieces c)
first_moments reveals taken fits fault pieces s m synced none writes made t c from to here =
    let was = writes.crash t c from to here in
    let other : c 66 ≡ s.files 66 = was.2 66 (λ is. omega (arith, is)) ∙ synced was.0 was.1 66 in
    let second : IsBegun (c 66) → ⊥ = λ begun. none 66 (inr refl) (subst IsBegun other begun) in
    ⊎_elim
    (λ (old : c 65 ≡ s.files 65). inl (none_of c (λ begun. none 65 (inl refl) (subst IsBegun old begun)) second))
    (λ (rest : IsNoneOrMade (whole_copy pieces) (c 65)).
    ⊎_elim (λ (not : IsBegun (c 65) → ⊥). inl (none_of c not second)) (λ (whole : c 65 ≡ whole_copy pieces). inr (whole, inl second)) rest)
    (made t c from to here)

-- while the second is
pub second_moments : (reveals taken fits fault : Type 0) (pieces : List (List ℕ)) (m n : State) → (IsBegun (m.files 66) → ⊥) → m.files 65 ≡ whole_copy pieces → IsSynced m → OnlyWrites reveals taken fits fault (ChangesOnly 66) m n
    → During m n (λ c. IsOldNoneOrMade (whole_copy pieces) (m.files 66) (c 66)) → During m n (λ c. MayBeStarted pieces c)
second_moments reveals taken fits fault pieces m n none whole synced writes made t c from to here =
    let was = writes.crash t c from to here in
    let first : c 65 ≡ whole_copy pieces = was.2 65 (λ is. omega (arith, is)) ∙ synced was.0 was.1 65 ∙ whole in
    ⊎_elim
    (λ (old : c 66 ≡ m.files 66). inr (first, inl (λ begun. none (subst IsBegun old begun))))
    (λ (rest : IsNoneOrMade (whole_copy pieces) (c 66)). inr (first, rest))
    (made t c from to here)

-- the same ledger has the same pieces
pub can_same : (pieces : List (List ℕ)) (until : ℕ) (old new : List ℕ) → new ≡ old → CanMake pieces until old → CanMake pieces until new
can_same pieces until old new same can = subst (CanMake pieces until) (sym same) can

pub both_moments : (reveals taken fits fault late_taken late_fits late : Type 0) (pieces : List (List ℕ)) (s m n : State) → reveals → IsSynced s → NoneBegun s.files → OnlyWrites reveals taken fits fault (ChangesOnly 65) s m
    → During s m (λ c. IsOldNoneOrMade (whole_copy pieces) (s.files 65) (c 65)) → m.files 65 ≡ whole_copy pieces → IsSynced m → OnlyWrites reveals late_taken late_fits late (ChangesOnly 66) m n
    → During m n (λ c. IsOldNoneOrMade (whole_copy pieces) (m.files 66) (c 66)) → During s n (λ c. MayBeStarted pieces c)
both_moments reveals taken fits fault late_taken late_fits late pieces s m n revealed synced none writes made whole early later other =
    during_both s m n (MayBeStarted pieces) writes.time later.time
    (first_moments reveals taken fits fault pieces s m synced none writes made)
    (second_moments reveals late_taken late_fits late pieces m n (λ begun. none 66 (inr refl) (subst IsBegun (writes.contents revealed 66 (λ is. omega (arith, is))) begun)) whole early later other)

pub both_started : (reveals taken fits fault : Type 0) (pieces : List (List ℕ)) (until : ℕ) (w v : Written) (one two : Tail) (s m n : State) → reveals → CanMake pieces until (s.files 0) → RevealsCopy pieces w → RevealsCopy pieces v
    → one.gate ≡ w.gate → one.link ≡ w.link → two.gate ≡ v.gate → two.link ≡ v.link → m.files 65 ≡ whole_copy pieces → n.files 66 ≡ whole_copy pieces
    → OnlyWrites reveals taken fits fault (ChangesOnly 66) m n → HasStarted pieces until one two n.files
both_started reveals taken fits fault pieces until w v one two s m n revealed can first second gate link other_gate other_link whole also writes = record {
  text = let place = can.has.place in omega (arith, place);
  one = record { gate = gate ∙ first.gate; link = link ∙ first.link };
  two = record { gate = other_gate ∙ second.gate; link = other_link ∙ second.link };
  whole = λ f is.
      ⊎_elim (λ (a : f ≡ 65). ap n.files a ∙ writes.contents revealed 65 (λ e. omega (arith, e)) ∙ whole) (λ (b : f ≡ 66). ap n.files b ∙ also) is;
}

pub writes_first : (reveals fault : Type 0) (until : ℕ) (s n : State) → OnlyWrites reveals s.free (FitsCopy s 65 until) fault (ChangesOnly 65) s n
    → OnlyWrites reveals s.free (FitsMaking s until) fault (KeepsFiles (λ f. f ≤ 64)) s n
writes_first reveals fault until s n writes =
    writes_wider reveals s.free (FitsCopy s 65 until) s.free (FitsMaking s until) fault (KeepsFiles (λ f. f ≤ 64)) (KeepsFiles (λ f. f ≤ 64)) s n
    (λ c d keeps. keeps) (λ revealed is. is) (λ revealed fit. fit.first) (copy_only reveals s.free (FitsCopy s 65 until) fault 65 s n (omega arith) writes)

pub writes_second : (reveals fault late : Type 0) (until : ℕ) (s m n : State) → (fault → ⊥)
    → OnlyWrites reveals s.free (FitsCopy s 65 until) fault (ChangesOnly 65) s m → OnlyWrites reveals m.free (FitsCopy m 66 until) late (ChangesOnly 66) m n
    → OnlyWrites reveals s.free (FitsMaking s until) late (KeepsFiles (λ f. f ≤ 64)) s n
writes_second reveals fault late until s m n fine early late_writes =
    writes_both reveals s.free s.free m.free (FitsMaking s until) (FitsMaking s until) (FitsCopy m 66 until) fault late
    (KeepsFiles (λ f. f ≤ 64)) (KeepsFiles (λ f. f ≤ 64)) (KeepsFiles (λ f. f ≤ 64)) s m n fine
    (λ c d keeps. keeps) (λ c d e one two f near. two f near ∙ one f near)
    (λ revealed free. free) (λ revealed free step takes. early.time.free free)
    (λ revealed fit. fit)
    (λ revealed fit step passes. later fit.second (step 0 (omega arith)) passes)
    (writes_first reveals fault until s m early)
    (copy_only reveals m.free (FitsCopy m 66 until) late 66 m n (omega arith) late_writes)
  where
    later : FitsCopy s 66 until → m.files 0 ≡ s.files 0 → Passes s m → FitsCopy m 66 until
    later fit same passes = record {
      pieces = fit.pieces;
      has = subst (λ (l : List ℕ). HasPieces true fit.pieces 0 until l) (sym same) fit.has;
      change = record {
        room = passes.room 66 _ fit.change.room;
        sync = λ c changes. passes.syncs (c 0) (subst s.keeps (sym (changes 0 (λ is. omega (arith, is)) ∙ same)) (fit.change.sync s.files (λ f other. refl)));
      };
    }

-- the space for both copies, where the records end
pub fits_making : (r s : State) (last : ℕ) → s.files 0 ≡ r.files 0 → Passes r s → EndsAt (s.files 0) last → FitsStart r → FitsMaking s last
fits_making r s last same passes ends fit = record { first = copy 65 (omega arith) fit.copies.first; second = copy 66 (omega arith) fit.copies.second }
  where
    here : (pieces : List (List ℕ)) × CanMake pieces last (s.files 0) × (length pieces ≡ ends.records + 1)
    here = ledger_pieces (s.files 0) last ends

    once : (fit.ends.records ≡ ends.records) × (fit.last ≡ last)
    once = subst (λ (x : List ℕ). (other : EndsAt x last) → (fit.ends.records ≡ other.records) × (fit.last ≡ last)) (sym same) (λ other. ends_once (r.files 0) fit.last last fit.ends other) ends

    copy : (file : ℕ) → 64 < file → r.room file (copied_end (fit.ends.records + 1) fit.last + 1) → FitsCopy s file last
    copy file far room = record {
      pieces = here.0;
      has = here.1.has;
      change = record {
        room = subst (s.room file) (let e : copied_end (fit.ends.records + 1) fit.last + 1 ≡ length (whole_copy here.0) =
            omega (arith, once.0, once.1, here.2, here.1.has.place, length-copied here.0, length-append (copied here.0) (0 ∷ [])) in e) (passes.room file _ room);
        sync = λ c changes. passes.syncs (c 0) (subst r.keeps (sym (changes 0 (λ is. omega (arith, is, far)) ∙ same)) fit.sync);
      };
    }

pub starts_roomy : (r : State) → FitsStart r → IsRoomy r
starts_roomy r fit = record { some = (65, _, fit.copies.first); sync = fit.sync }

-- ---- all of it

-- before anything is written no copy is begun
pub none_during : (r n : State) (pieces : List (List ℕ)) → NoneBegun r.files → AreFixed r → KeepsImages r n → During r n (λ c. MayBeStarted pieces c)
none_during r n pieces none fixed keeps t c from to here = inl (λ f is begun. none f is (subst IsBegun (fixed c (keeps t c from to here) f is) begun))

pub begun_during : (r s n : State) (pieces : List (List ℕ)) → NoneBegun r.files → AreFixed r → KeepsImages r s → Passes r s → Passes s n → During s n (λ c. MayBeStarted pieces c) → During r n (λ c. MayBeStarted pieces c)
begun_during r s n pieces none fixed keeps time later during = during_both r s n (MayBeStarted pieces) time later (none_during r s pieces none fixed keeps) during

-- and so is nothing more shown
pub shows_kept : (r n : State) → KeepsImages r n → ShowsNoMore r n
shows_kept r n keeps t d c from to here shows = (d, keeps t d from to here, shows)

-- of files whose copies may be begun nothing is shown but their ledger and sites
starts_shown : (files d c : Files) (pieces : List (List ℕ)) (last : ℕ) → EndsAt (files 0) last → CanMake pieces last (files 0) → ((f : ℕ) → f ≤ 64 → d f ≡ files f) → MayBeStarted pieces d → Shows d c → Shows files c
starts_shown files d c pieces last ends can same may shows =
    ⊎_elim
    (λ (is : c 0 ≡ d 0). shows_as_is d files c same shows is)
    (λ (kept : (f : ℕ) × (others : List (List ℕ)) × IsCopyFile f × IsGood others (d f) × (c 0 ≡ mended (text_of others) (d 0))).
    let begun = good_begun kept.1 (d kept.0) kept.3 in
    ⊎_elim
    (λ (none : NoneBegun d). absurd (none kept.0 kept.2 begun))
    (λ (some : (d 65 ≡ whole_copy pieces) × IsNoneOrMade (whole_copy pieces) (d 66)).
    let whole : d kept.0 ≡ whole_copy pieces =
    ⊎_elim
    (λ (a : kept.0 ≡ 65). ap d a ∙ some.0)
    (λ (b : kept.0 ≡ 66). ⊎_elim (λ (not : IsBegun (d 66) → ⊥). absurd (not (subst (λ (x : ℕ). IsBegun (d x)) b begun))) (λ (made : d 66 ≡ whole_copy pieces). ap d b ∙ made) some.1)
    kept.2 in
    let one : pieces ≡ kept.1 = whole_has_one pieces kept.1 can.has.shaped (subst (IsGood kept.1) whole kept.3) in
    let zero_file : d 0 ≡ files 0 = same 0 (omega arith) in
    shows_as_is d files c same shows (kept.4 ∙ ap (λ (p : List (List ℕ)). mended (text_of p) (d 0)) (sym one) ∙ ap (mended (text_of pieces)) zero_file ∙ closed ∙ sym zero_file))
    may)
    shows.ledger
  where
    size : last ≡ length (text_of pieces)
    size = let place = can.has.place in omega (arith, place)

    closed : mended (text_of pieces) (files 0) ≡ files 0
    closed =
        mended_closed (text_of pieces) (files 0) (let there = ends.there in omega (arith, size, there)) can.has.there
        (λ is. ends.shut (ap (λ (n : ℕ). get_or (files 0) n 0) size ∙ is))

pub begun_shown : (reveals taken fits fault : Type 0) (r s n : State) (pieces : List (List ℕ)) (last : ℕ) → ((t : ℕ) (c : Files) → r.image t c → r.image r.moment r.files) → KeepsImages r s → Passes r s → s.files ≡ r.files → IsSynced s
    → EndsAt (s.files 0) last → CanMake pieces last (s.files 0) → OnlyWrites reveals taken fits fault (KeepsFiles (λ f. f ≤ 64)) s n → During s n (λ c. MayBeStarted pieces c) → ShowsNoMore r n
begun_shown reveals taken fits fault r s n pieces last read keeps time contents synced ends can writes during t d c from to here shows =
    ⊎_elim
    (λ (before : t < s.moment). (d, keeps t d from (omega (arith, before)) ((writes.time.keeps t d (omega (arith, before))).0 here), shows))
    (λ (after : s.moment ≤ t).
    let was = writes.crash t d after to here in
    (r.files, read r.moment was.0 (keeps s.moment was.0 time.later (omega arith) was.1), subst (λ (x : Files). Shows x c) contents (starts_shown s.files d c pieces last ends can (λ f near. was.2 f near ∙ synced was.0 was.1 f) (during t d after to here) shows)))
    (cases_lt t s.moment)

-- a first byte that was read, of as many as there were
pub first_byte : (file : List ℕ) (byte count : ℕ) → count ≡ min 1 (length file) → take count (byte ∷ []) ≡ take count file → (get_or file 0 0 ≡ 1 → (count ≡ 1) × (byte ≡ 1)) × ((count ≡ 1) × (byte ≡ 1) → get_or file 0 0 ≡ 1)
first_byte [] byte count is same = (λ e. absurd (omega (arith, e)), λ both. let one = both.0 in absurd (omega (arith, is, one)))
first_byte (x ∷ file) byte count is same =
    let one : count ≡ 1 = omega (arith, is) in
    let here : byte ≡ x = ap (λ (l : List ℕ). get_or l 0 0) (ap (λ (n : ℕ). take n (byte ∷ [])) (sym one) ∙ same ∙ ap (λ (n : ℕ). take n (x ∷ file)) one) in
    (λ e. (one, here ∙ e), λ both. sym here ∙ both.1)

-- what the calls say together: a sync and reads
pub begun_reads : (reveals fault : Type 0) (r s : State) → (r.free → IsReady r) → OnlyReads reveals fault r s → OnlyWrites reveals r.free (FitsStart r) fault (KeepsFiles (λ f. f ≤ 64)) r s
begun_reads reveals fault r s ready reads = reads_writes reveals r.free (FitsStart r) fault (KeepsFiles (λ f. f ≤ 64)) r s ready (starts_roomy r) (λ c f near. refl) reads

-- and then both copies
pub begun_writes : (reveals fault late : Type 0) (r s n : State) (last : ℕ) → (fault → ⊥) → (r.free → IsReady r) → (reveals → EndsAt (s.files 0) last) → OnlyReads reveals fault r s
    → OnlyWrites reveals s.free (FitsMaking s last) late (KeepsFiles (λ f. f ≤ 64)) s n → OnlyWrites reveals r.free (FitsStart r) late (KeepsFiles (λ f. f ≤ 64)) r n
begun_writes reveals fault late r s n last fine ready ends reads writes =
    reads_then_writes reveals r.free s.free (FitsStart r) (FitsMaking s last) fault late (KeepsFiles (λ f. f ≤ 64)) r s n fine (λ c f near. refl)
    ready (λ revealed free same takes. reads.time.free free) (starts_roomy r) (λ revealed fit same passes. fits_making r s last (ap (λ (x : Files). x 0) same) passes (ends revealed) fit)
    reads writes

pub begun_none : (reveals fault : Type 0) (r s : State) → OnlyReads reveals fault r s → WritesNone reveals r s
begun_none reveals fault r s reads = record { reads = reads.contents; images = reads.crash }

-- the records of one ledger end once
pub same_end : (a b : List ℕ) (m n : ℕ) → b ≡ a → EndsAt a m → EndsAt b n → m ≡ n
same_end a b m n same one two = (ends_once a m n one (subst (λ (x : List ℕ). EndsAt x n) same two)).1
