-- A sync of a Mirror with copies on: from the sync of the lent disk and the look at further records on.
use Rattle.std.proofs.Common.{◌≡◌, ◌≢◌, ⊎_elim, inl, ℕ, suc, ◌+◌, ◌<◌, ◌≤◌, Bool, true, false, List, length, get_or, refl, sym, ap, ◌∙◌, subst, arith}
use Rattle.std.proofs.Props.{props}
use Rattle.std.proofs.Math.Logic.{∥∥₁_elim, ∥∥₁_prop}
use Rattle.std.proofs.lemmas.Bool.{cases_lt}
use Rattle.aea_disk.specs.Ends.{Reaches, EndsAt, copied_end, greatest_place}
use Rattle.aea_disk.specs.Files.{Files}
use Rattle.aea_disk.specs.Frames.{OnlyReads}
use Rattle.aea_disk.specs.State.{State, Passes, During, KeepsImages, Settles, IsSynced, IsRoomy}
use Rattle.aea_disk.proofs.Frames.{reads_none}
use Rattle.aea_disk.proofs.Moments.{passes_both}
use Rattle.aea_copies.specs.Format.{chain, copied, text_of}
use Rattle.aea_copies.specs.Kept.{IsCopyFile, IsGood, mended}
use Rattle.aea_copies.proofs.Judged.{has_one_pieces}
use Rattle.aea_copy_writer.specs.Entries.{HasPieces, FitsEntries}
use Rattle.aea_mirror.specs.declared.tail.Tail.{Tail}
use Rattle.aea_mirror.specs.declared.further.Further.TheVariants.{Until}
use Rattle.aea_mirror.specs.Guarding.{AreOnWith, Guards}
use Rattle.aea_mirror.specs.Extending.{IsShut, IsGateOf, Phase, HasEntries, FitsBoth, HasExtended, FitsExtending}
use Rattle.aea_mirror.specs.Looking.{IsFurther}
use Rattle.aea_mirror.specs.Mirrored.{Kept, HasCopyRoom, mirror_state}
use Rattle.aea_mirror.specs.Ending.{ends_once}
use Rattle.aea_mirror.specs.Shown.{AreGood}
use Rattle.aea_mirror.proofs.Guards.{guards_read}
use Rattle.aea_mirror.proofs.Showing.{mended_closed}
use Rattle.aea_mirror.proofs.Spending.{as_further}
use Rattle.aea_mirror.proofs.Records.{length-chain}
use Rattle.aea_mirror.proofs.Phases.{phase_reads}
use Rattle.aea_mirror.proofs.Syncing.{Known, sync_keeps, sync_settles}
use Rattle.aea_mirror.proofs.Knowing.{HasTwoTexts, known_here, known_out, texts_stay}
use Rattle.aea_mirror.proofs.Extended.{two_texts, goods_stay, all_on, fits_copied}
use Rattle.aea_mirror.proofs.Records.{shaped_are_pieces}
use Rattle.aea_mirror.proofs.Leading.{reaches_join, kept_holds, further_fits}

-- ---- after a sync of the lent disk, and reads

-- nothing is pending after reads either
pub synced_reads : (reveals fault : Type 0) (s n : State) → reveals → IsSynced s → OnlyReads reveals fault s n → IsSynced n
synced_reads reveals fault s n revealed synced reads c here f = synced c (reads.crash n.moment c reads.time.later (omega arith) here) f ∙ ap (λ (x : Files). x f) (sym (reads.contents revealed))

-- an image of a moment is one of each earlier moment after the entry, also over reads
pub settles_reads : (reveals fault : Type 0) (r s n : State) → Settles r s → Passes r s → IsSynced s → OnlyReads reveals fault s n → Settles r n
settles_reads reveals fault r s n settles time synced reads t u c after le to here =
    ⊎_elim
    (λ (late : s.moment < u).
    let at_s = reads.crash u c (omega (arith, late)) to here in
    ⊎_elim
    (λ (inside : s.moment < t).
    let some = reads.earlier t u c (omega (arith, inside)) le to here in
    let other = reads.crash t some.0 (omega (arith, inside)) (omega (arith, le, to)) some.1 in
    let same : some.0 ≡ c = λ i f. (synced some.0 other f ∙ sym (synced c at_s f)) i in
    subst (λ (x : Files). n.image t x) same some.1)
    (λ (before : t ≤ s.moment). (reads.time.keeps t c before).1 (settles t s.moment c after before (omega arith) at_s))
    (cases_lt s.moment t))
    (λ (early : u ≤ s.moment). (reads.time.keeps t c (omega (arith, le, early))).1 (settles t u c after le early ((reads.time.keeps u c early).0 here)))
    (cases_lt s.moment u)

pub keeps_reads : (reveals fault : Type 0) (r s n : State) → KeepsImages r s → Passes r s → OnlyReads reveals fault s n → KeepsImages r n
keeps_reads reveals fault r s n crash time reads t c from to here =
    ⊎_elim
    (λ (before : t < s.moment). crash t c from (omega (arith, before)) ((reads.time.keeps t c (omega (arith, before))).0 here))
    (λ (after : s.moment ≤ t). crash s.moment c time.later (omega arith) (reads.crash t c after to here))
    (cases_lt t s.moment)

-- what is known is known after it
pub guards_on : (r s : State) (on : Bool) (end : ℕ) (first second : Tail) → on ≡ true → s.files ≡ r.files → KeepsImages r s → Passes r s → ∥ Guards r on end first second ∥₁ → ∥ Guards s true end first second ∥₁
guards_on r s on end first second is same keeps time guards =
    ∥∥₁_elim guards ∥∥₁_prop (λ was. ∣ subst (λ (b : Bool). Guards s b end first second) is (guards_read r s on end first second same keeps time was) ∣₁)

-- the gates of both copies are closed
pub gates_shut : (s : State) (end : ℕ) (first second : Tail) → ∥ Guards s true end first second ∥₁ → (f g : ℕ) → IsGateOf first.gate second.gate f g → IsShut g (s.files f)
gates_shut s end first second guards =
    (known_out s s end first.gate second.gate
    (∥∥₁_elim guards ∥∥₁_prop (λ was.
    let are = was.are refl in
    ∣ known_here s s end first second are (texts_stay_here are) ∣₁))).gates
  where
    texts_stay_here : (are : AreOnWith s end first second) → HasTwoTexts are.pieces end s s
    texts_stay_here are t d from to image f others is good =
        let now : t ≡ s.moment = omega (arith, from, to) in
        let here : s.image s.moment d = subst (λ (m : ℕ). s.image m d) now image in
        inl (has_one_pieces (s.files f) others are.pieces (length (copied others)) (length (copied are.pieces)) (subst (IsGood others) (are.guarded.fixed d here f is) good) (are.guarded.good f is)).0

-- What is so where a Mirror with copies on has synced the lent disk and looked for further records, from r before to s now.
pub record Looked (reveals : Type 0) (r s : State) (end : ℕ) (first second : Tail) : Type 0 where
  pub crash : KeepsImages r s
  pub time : Passes r s
  pub kept : r.faults ≤ s.faults
  pub contents : reveals → s.files ≡ r.files
  pub synced : reveals → IsSynced s
  pub settles : reveals → Settles r s
  pub guards : reveals → ∥ Guards s true end first second ∥₁

pub looked : (reveals fault : Type 0) (r b s : State) (on : Bool) (end : ℕ) (first second : Tail) → on ≡ true → (reveals → b.files ≡ r.files) → KeepsImages r b → Settles r b → Passes r b → r.faults ≤ b.faults → (reveals → IsSynced b)
    → (reveals → ∥ Guards r on end first second ∥₁) → OnlyReads reveals fault b s → Looked reveals r s end first second
looked reveals fault r b s on end first second is contents crash settles time kept synced guards reads =
    let later = passes_both r b s time reads.time in
    let keeps = keeps_reads reveals fault r b s crash time reads in
    let same : reveals → s.files ≡ r.files = λ revealed. reads.contents revealed ∙ contents revealed in
    record {
      crash = keeps;
      time = later;
      kept = let more = reads.kept in omega (arith, kept, more);
      contents = same;
      synced = λ revealed. synced_reads reveals fault b s revealed (synced revealed) reads;
      settles = λ revealed. settles_reads reveals fault r b s settles time (synced revealed) reads;
      guards = λ revealed. guards_on r s on end first second is (same revealed) keeps later (guards revealed);
    }

-- ---- what is shown, over the whole sync

module _ (reveals : Type 0) (r s n : State) (k l : Kept) (end : ℕ) (first second : Tail) (now : Looked reveals r s end first second)
    (read_r : (t : ℕ) (c : Files) → reveals → r.image t c → r.image r.moment r.files) (read_s : (t : ℕ) (c : Files) → reveals → s.image t c → s.image s.moment s.files)
    (phase : reveals → Phase first.gate second.gate s n) (texts : reveals → ∥ ((are : AreOnWith s end first second) → HasTwoTexts are.pieces end s n) ∥₁) where
  known : reveals → Known end first.gate second.gate s n
  known revealed =
      known_out s n end first.gate second.gate
      (∥∥₁_elim (now.guards revealed) ∥∥₁_prop (λ was. ∥∥₁_elim (texts revealed) ∥∥₁_prop (λ two. ∣ known_here s n end first second (was.are refl) (two (was.are refl)) ∣₁)))

  pub all_kept : KeepsImages (mirror_state reveals r k) (mirror_state reveals n l)
  all_kept t c from to here =
      sync_keeps end first.gate second.gate s n (phase here.0) (known here.0) reveals r k l now.crash now.time now.contents read_r t c from to here

  pub all_settled : Settles (mirror_state reveals r k) (mirror_state reveals n l)
  all_settled t u c after le to here =
      sync_settles end first.gate second.gate s n (phase here.0) (known here.0) reveals r k l now.settles read_s t u c after le to here

-- where nothing is written the phase is none
pub phase_none : (reveals : Type 0) (s : State) (end : ℕ) (first second : Tail) → reveals → IsSynced s → ∥ Guards s true end first second ∥₁ → Phase first.gate second.gate s s
phase_none reveals s end first second revealed synced guards = phase_reads reveals ⊥ first.gate second.gate s s revealed synced (λ f g of. (gates_shut s end first second guards f g of).there) (reads_none reveals ⊥ s (λ none. none))

pub texts_none : (s : State) (end : ℕ) (first second : Tail) → IsSynced s → ∥ ((are : AreOnWith s end first second) → HasTwoTexts are.pieces end s s) ∥₁
texts_none s end first second synced =
    ∣ (λ are. texts_stay s s are.pieces end are.guarded (λ t d from to image f. synced d (subst (λ (m : ℕ). s.image m d) (let e : t ≡ s.moment = omega (arith, from, to) in e) image) f)) ∣₁

-- so nothing is shown that was not before
pub none_settled : (reveals : Type 0) (r s : State) (k l : Kept) (end : ℕ) (first second : Tail) → Looked reveals r s end first second → ((t : ℕ) (c : Files) → reveals → r.image t c → r.image r.moment r.files)
    → ((t : ℕ) (c : Files) → reveals → s.image t c → s.image s.moment s.files) → Settles (mirror_state reveals r k) (mirror_state reveals s l)
none_settled reveals r s k l end first second now read_r read_s =
    all_settled reveals r s s k l end first second now read_r read_s
    (λ revealed. phase_none reveals s end first second revealed (now.synced revealed) (now.guards revealed)) (λ revealed. texts_none s end first second (now.synced revealed))

-- while further records are written, each good copy has one of two texts
pub texts_more : (s n : State) (end last : ℕ) (first second : Tail) → ∥ Guards s true end first second ∥₁ → Phase first.gate second.gate s n
    → ((before : ℕ) → first.gate ≡ copied_end (before + 1) end → IsFurther (s.files 0) before end (Until last))
    → ((more : List (List ℕ)) → FitsBoth first second more end last (s.files 0) → During s n (λ c. (f g : ℕ) → IsGateOf first.gate second.gate f g → get_or (c f) g 0 ≡ 1 → HasEntries g first.link more (c f)))
    → ∥ ((are : AreOnWith s end first second) → HasTwoTexts are.pieces end s n) ∥₁
texts_more s n end last first second guards phase further bodies =
    ∣ (λ are.
    let here = kept_holds s end first second are in
    let more = further here.0.records here.1 in
    let pieces = further_fits s end last first second are here.0.records more.0 here.1 more.1 in
    two_texts s n end last first second are pieces.0 pieces.2
    (λ valid. fits_copied are.pieces pieces.0 first.gate are.one.gate (subst (λ (l : List ℕ). first.gate + length (chain l pieces.0) ≤ greatest_place) are.one.link pieces.1.fits))
    phase (bodies pieces.0 pieces.1)) ∣₁

-- and both copies are good
pub goods_more : (s n : State) (end last : ℕ) (first second : Tail) → ∥ Guards s true end first second ∥₁ → Phase first.gate second.gate s n
    → ((before : ℕ) → first.gate ≡ copied_end (before + 1) end → IsFurther (s.files 0) before end (Until last))
    → ((more : List (List ℕ)) → FitsBoth first second more end last (s.files 0) → During s n (λ c. (f g : ℕ) → IsGateOf first.gate second.gate f g → get_or (c f) g 0 ≡ 1 → HasEntries g first.link more (c f)))
    → During s n AreGood
goods_more s n end last first second guards phase further bodies t d from to image = record {
  good = λ f is. ∥∥₁_elim guards ∥∥₁_prop (λ was. (by was).good f is);
  kept = ∥∥₁_elim guards ∥∥₁_prop (λ was. (by was).kept);
}
  where
    by : Guards s true end first second → AreGood d
    by was =
        let are = was.are refl in
        let here = kept_holds s end first second are in
        let more = further here.0.records here.1 in
        let pieces = further_fits s end last first second are here.0.records more.0 here.1 more.1 in
        goods_stay s n end last first second are pieces.0 pieces.2
        (λ valid. fits_copied are.pieces pieces.0 first.gate are.one.gate (subst (λ (l : List ℕ). first.gate + length (chain l pieces.0) ≤ greatest_place) are.one.link pieces.1.fits))
        phase (bodies pieces.0 pieces.1) t d from to image

-- ---- once both copies are extended

pub guards_more : (s n : State) (end last : ℕ) (first second one two : Tail) → ∥ Guards s true end first second ∥₁ → Phase first.gate second.gate s n → IsSynced n → n.files 0 ≡ s.files 0
    → ((before : ℕ) → first.gate ≡ copied_end (before + 1) end → IsFurther (s.files 0) before end (Until last))
    → ((more : List (List ℕ)) → FitsBoth first second more end last (s.files 0) → HasExtended first second one two more n.files)
    → ∥ Guards n true last one two ∥₁
guards_more s n end last first second one two guards phase synced ledger further extended =
    ∥∥₁_elim guards ∥∥₁_prop (λ was.
    let are = was.are refl in
    let here = kept_holds s end first second are in
    let more = further here.0.records here.1 in
    let pieces = further_fits s end last first second are here.0.records more.0 here.1 more.1 in
    let has = extended pieces.0 pieces.1 in
    let valid = shaped_are_pieces pieces.0 pieces.1.has.shaped (has.opened 65 first.gate (inl (refl, refl))).1.are in
    ∣ record {
      off = λ is. absurd (cc);
      are = λ is.
          all_on s n end last first second one two are pieces.0 pieces.2 valid
          (fits_copied are.pieces pieces.0 first.gate are.one.gate (subst (λ (l : List ℕ). first.gate + length (chain l pieces.0) ≤ greatest_place) are.one.link pieces.1.fits))
          phase synced ledger has;
    } ∣₁)

-- where the kept text is all of the ledger, a good copy leaves it as it is
pub whole_kept : (n : State) (end : ℕ) (first second : Tail) → ∥ Guards n true end first second ∥₁ → get_or (n.files 0) end 0 ≢ 1
    → (f : ℕ) (pieces : List (List ℕ)) → IsCopyFile f → IsGood pieces (n.files f) → mended (text_of pieces) (n.files 0) ≡ n.files 0
whole_kept n end first second guards shut f pieces is good =
    ∥∥₁_elim guards (Prim.hlevel props) (λ was.
    let are = was.are refl in
    let same : pieces ≡ are.pieces = (has_one_pieces (n.files f) pieces are.pieces (length (copied pieces)) (length (copied are.pieces)) good (are.guarded.good f is)).0 in
    let reads = are.guarded.reads in
    ap (λ (p : List (List ℕ)). mended (text_of p) (n.files 0)) same
    ∙ mended_closed (text_of are.pieces) (n.files 0) reads.long reads.front (λ opened. shut (ap (λ (m : ℕ). get_or (n.files 0) m 0) are.text ∙ opened)))

-- ---- what is taken, and fits

ends_same : (a b : List ℕ) → a ≡ b → (m n : ℕ) (one : EndsAt a m) (two : EndsAt b n) → (one.records ≡ two.records) × (m ≡ n)
ends_same a b same m n one two = subst (λ (x : List ℕ). (other : EndsAt x n) → (one.records ≡ other.records) × (m ≡ n)) same (λ other. ends_once a m n one other) two

-- a copy can get the further records where the Mirror has space for a sync
fits_copy : (r s : State) (file : ℕ) (tail : Tail) (end last records more : ℕ) (pieces : List (List ℕ)) → 64 < file → 1 ≤ end → Passes r s → s.files 0 ≡ r.files 0 → tail.gate ≡ copied_end (records + 1) end
    → HasPieces false pieces end last (s.files 0) → length pieces ≡ more → r.keeps (r.files 0) → r.room file (copied_end (records + more + 1) last + 1) → FitsEntries s file tail.gate tail.link end last
fits_copy r s file tail end last records more pieces far some time same gate has count keeps room = record {
  pieces = pieces;
  has = as_further pieces end last (s.files 0) some has;
  change = record {
    room = subst (s.room file) (let e : copied_end (records + more + 1) last + 1 ≡ tail.gate + length (chain tail.link pieces) + 1 = omega (arith, gate, length-chain tail.link pieces, count, has.place) in e) (time.room file _ room);
    sync = λ c changes. time.syncs (c 0) (subst r.keeps (sym (changes 0 (λ is. omega (arith, is, far)) ∙ same)) keeps);
  };
}

pub fits_more : (reveals : Type 0) (r s : State) (k : Kept) (end last : ℕ) (first second : Tail) → k.on ≡ true → 1 ≤ end → Passes r s → s.files 0 ≡ r.files 0 → (are : AreOnWith s end first second)
    → ((before : ℕ) → first.gate ≡ copied_end (before + 1) end → IsFurther (s.files 0) before end (Until last)) → IsRoomy (mirror_state reveals r k) → FitsExtending s first second end last
fits_more reveals r s k end last first second on some time same are further roomy =
    let here = kept_holds s end first second are in
    let more = further here.0.records here.1 in
    let pieces = further_fits s end last first second are here.0.records more.0 here.1 more.1 in
    let ends : EndsAt (s.files 0) last = record {
      header = here.0.header;
      records = here.0.records + suc more.0;
      reaches = reaches_join (s.files 0) 0 here.0.records (suc more.0) 17 end last here.0.reaches
          (subst (λ (n : ℕ). Reaches (s.files 0) n (suc more.0) end last) (let e : here.0.records ≡ 0 + here.0.records = omega arith in e) more.1.reaches) (here.0.records + suc more.0) refl;
      there = more.1.there;
      shut = more.1.shut;
    } in
    ⊎_elim
    (λ (off : k.on ≡ false). absurd (cc))
    (λ (room : (at : ℕ) × (other : EndsAt (r.files 0) at) × HasCopyRoom r other.records at).
    let once = ends_same (r.files 0) (s.files 0) (sym same) room.0 last room.1 ends in
    let spaces : HasCopyRoom r (here.0.records + suc more.0) last = subst (λ (n : ℕ). HasCopyRoom r n last) once.0 (subst (HasCopyRoom r room.1.records) once.1 room.2) in
    record {
      one = fits_copy r s 65 first end last here.0.records (suc more.0) pieces.0 (omega arith) some time same here.1 pieces.1.has pieces.3 roomy.sync.1 spaces.first;
      two = fits_copy r s 66 second end last here.0.records (suc more.0) pieces.0 (omega arith) some time same (pieces.1.gates ∙ here.1) pieces.1.has pieces.3 roomy.sync.1 spaces.second;
    })
    roomy.sync.2
