-- How a sync of a Mirror goes on, from arm to arm, by what its calls ensured.
use Rattle.std.proofs.Common.{◌≡◌, ℕ, suc, ◌+◌, ◌≤◌, Bool, true, false, List, get_or, refl, sym, ◌∙◌, ap, subst, arith}
use Rattle.std.proofs.Math.Logic.{∥∥₁_elim, ∥∥₁_prop}
use Rattle.std.specs.Prelude.{Ok, Err}
use Rattle.aea_faults.specs.Faults.{Rose}
use Rattle.aea_disk.specs.Ends.{Reaches, copied_end}
use Rattle.aea_disk.specs.Files.{Files, KeepsFiles}
use Rattle.aea_disk.specs.Frames.{OnlyReads, OnlyWrites}
use Rattle.aea_disk.specs.State.{State, Passes, During, KeepsImages, Settles, IsSynced, IsReady, IsRoomy, IsSure}
use Rattle.aea_disk.proofs.Moments.{passes_both}
use Rattle.aea_mirror.specs.declared.further.Further.{Further}
use Rattle.aea_mirror.specs.declared.further.Further.TheVariants.{Nothing, Until}
use Rattle.aea_mirror.specs.declared.tail.Tail.{Tail}
use Rattle.aea_mirror.specs.Extending.{IsGateOf, Phase, HasEntries, FitsBoth, HasExtended, FitsExtending}
use Rattle.aea_mirror.specs.Guarding.{Guards}
use Rattle.aea_mirror.specs.Looking.{IsFurther}
use Rattle.aea_mirror.specs.Mirrored.{Kept, mirror_state, added}
use Rattle.aea_mirror.specs.Refusing.{NeverEnds}
use Rattle.aea_mirror.proofs.Calls.{shown_time}
use Rattle.aea_mirror.proofs.Guards.{guards_read}
use Rattle.aea_mirror.proofs.Catching.{Looked, keeps_reads, all_kept, all_settled, texts_more, goods_more, guards_more, whole_kept, fits_more}
use Rattle.aea_mirror.proofs.Ended.{shut_at_last, takes_on}
use Rattle.aea_mirror.proofs.Leading.{reaches_join, kept_holds}
use Rattle.aea_mirror.proofs.Seeing.{KeepsCopies, kept_copies, both_copies}
use Rattle.aea_mirror.proofs.Syncing.{sync_durable}

-- what a Mirror knows it knows after the sync of the lent disk and the look
pub known_now : (reveals fault : Type 0) (r b s : State) (on : Bool) (end : ℕ) (first second : Tail) → (reveals → b.files ≡ r.files) → KeepsImages r b → Passes r b → OnlyReads reveals fault b s
    → (reveals → ∥ Guards r on end first second ∥₁) → reveals → ∥ Guards s on end first second ∥₁
known_now reveals fault r b s on end first second contents crash time reads guards revealed =
    ∥∥₁_elim (guards revealed) ∥∥₁_prop (λ was.
    ∣ guards_read r s on end first second (reads.contents revealed ∙ contents revealed) (keeps_reads reveals fault r b s crash time reads) (passes_both r b s time reads.time) was ∣₁)

-- time goes on over both
pub time_now : (reveals fault : Type 0) (r b s : State) (k l : Kept) → l.on ≡ k.on → l.name ≡ k.name → r.faults ≤ b.faults → KeepsImages r b → Passes r b → OnlyReads reveals fault b s → Passes (mirror_state reveals r k) (mirror_state reveals s l)
time_now reveals fault r b s k l same name kept crash time reads =
    shown_time reveals r s k l same name (let more = reads.kept in omega (arith, kept, more)) (kept_copies reveals k.on r s (keeps_reads reveals fault r b s crash time reads)) (passes_both r b s time reads.time)

-- and over what is written then
pub time_then : (reveals fault taken fits late : Type 0) (step : Files → Files → Type 0) (r b s n : State) (k l : Kept) → l.on ≡ k.on → l.name ≡ k.name → r.faults ≤ b.faults → KeepsCopies reveals k.on r n → Passes r b → OnlyReads reveals fault b s → OnlyWrites reveals taken fits late step s n
    → Passes (mirror_state reveals r k) (mirror_state reveals n l)
time_then reveals fault taken fits late step r b s n k l same name kept good time reads writes =
    shown_time reveals r n k l same name (let more = reads.kept in let most = writes.kept in omega (arith, kept, more, most)) good
    (passes_both r s n (passes_both r b s time reads.time) writes.time)

-- what was found holds of the ledger as it reads then
pub found_now : (reveals fault : Type 0) (b s : State) (end gate : ℕ) (found : Further) → OnlyReads reveals fault b s → (reveals → (before : ℕ) → gate ≡ copied_end (before + 1) end → IsFurther (b.files 0) before end found)
    → reveals → (before : ℕ) → gate ≡ copied_end (before + 1) end → IsFurther (s.files 0) before end found
found_now reveals fault b s end gate found reads further revealed before is =
    subst (λ (x : List ℕ). IsFurther x before end found) (sym (ap (λ (x : Files). x 0) (reads.contents revealed))) (further revealed before is)

-- ---- further records were found, and written

module _ (reveals : Type 0) (r s n : State) (k l : Kept) (last : ℕ) (first second : Tail) (now : Looked reveals r s k.end first second)
    (found : reveals → (before : ℕ) → first.gate ≡ copied_end (before + 1) k.end → IsFurther (s.files 0) before k.end (Until last))
    (phase : reveals → Phase first.gate second.gate s n) where
  module _ (read_r : (t : ℕ) (c : Files) → reveals → r.image t c → r.image r.moment r.files) (read_s : (t : ℕ) (c : Files) → reveals → s.image t c → s.image s.moment s.files)
      (bodies : reveals → (more : List (List ℕ)) → FitsBoth first second more k.end last (s.files 0) → During s n (λ c. (f g : ℕ) → IsGateOf first.gate second.gate f g → get_or (c f) g 0 ≡ 1 → HasEntries g first.link more (c f))) where
    -- nothing is shown that was not before
    pub more_kept : KeepsImages (mirror_state reveals r k) (mirror_state reveals n l)
    more_kept =
        all_kept reveals r s n k l k.end first second now read_r read_s phase (λ revealed. texts_more s n k.end last first second (now.guards revealed) (phase revealed) (found revealed) (bodies revealed))

    -- both copies are good in each image
    pub more_good : k.on ≡ true → KeepsCopies reveals k.on r n
    more_good on =
        both_copies reveals k.on r s n on now.time (λ revealed. (phase revealed).time) (kept_copies reveals k.on r s now.crash)
        (λ revealed. goods_more s n k.end last first second (now.guards revealed) (phase revealed) (found revealed) (bodies revealed))

    pub more_settled : Settles (mirror_state reveals r k) (mirror_state reveals n l)
    more_settled =
        all_settled reveals r s n k l k.end first second now read_r read_s phase (λ revealed. texts_more s n k.end last first second (now.guards revealed) (phase revealed) (found revealed) (bodies revealed))

  module _ (one two : Tail) (synced : reveals → IsSynced n) (ledger : reveals → n.files 0 ≡ s.files 0)
      (extended : reveals → (more : List (List ℕ)) → FitsBoth first second more k.end last (s.files 0) → HasExtended first second one two more n.files) where
    -- both copies have them
    pub more_known : reveals → ∥ Guards n true last one two ∥₁
    more_known revealed =
        guards_more s n k.end last first second one two (now.guards revealed) (phase revealed) (synced revealed) (ledger revealed) (found revealed) (extended revealed)

    -- and the files are shown as they read
    pub more_durable : reveals → IsSynced (mirror_state reveals n l)
    more_durable revealed_ =
        sync_durable reveals n l synced
        (λ revealed. whole_kept n last one two (more_known revealed)
        (λ opened. shut_at_last s k.end last first second (now.guards revealed) (found revealed) (ap (λ (y : List ℕ). get_or y last 0) (sym (ledger revealed)) ∙ opened)))

-- what a sync is sure of, where further records were written
pub more_sure : {T E : Type 0} (reveals : Type 0) (r s n : State) (k l : Kept) (first second : Tail) (v : T) → k.on ≡ true → l.on ≡ k.on → l.dead ≡ false → l.own ≡ k.own → Looked reveals r s k.end first second
    → n.faults ≡ r.faults → (reveals → n.files 0 ≡ s.files 0) → (reveals → (before : ℕ) → first.gate ≡ copied_end (before + 1) k.end → IsFurther (s.files 0) before k.end (Until l.end))
    → IsSure {T = T} {E = E} (reveals × IsReady (mirror_state reveals r k)) (IsRoomy (mirror_state reveals r k)) (mirror_state reveals r k) (mirror_state reveals n l) (Ok v)
more_sure reveals r s n k l first second v on stays alive own now faults ledger found = record {
  sure = λ is fit. (refl, ap (λ (f : ℕ). added f l.own) faults ∙ ap (λ (o : ℕ). added r.faults o) own);
  beneath = λ is. tt;
  goes = takes_on reveals r s n k l first second on stays alive (λ revealed. ap (λ (y : Files). y 0) (now.contents revealed)) (λ revealed. ledger revealed ∙ ap (λ (y : Files). y 0) (now.contents revealed)) now.guards found;
}

-- and where they could not be
pub less_sure : {T E : Type 0} (reveals : Type 0) (r s n : State) (k l : Kept) (last : ℕ) (first second : Tail) (e : E) → k.on ≡ true → (k.on ≡ true → 1 ≤ k.end) → Looked reveals r s k.end first second
    → (reveals → (before : ℕ) → first.gate ≡ copied_end (before + 1) k.end → IsFurther (s.files 0) before k.end (Until last))
    → OnlyWrites reveals s.free (FitsExtending s first second k.end last) (true ≡ true) (KeepsFiles (λ f. f ≤ 64)) s n
    → IsSure {T = T} {E = E} (reveals × IsReady (mirror_state reveals r k)) (IsRoomy (mirror_state reveals r k)) (mirror_state reveals r k) (mirror_state reveals n l) (Err e)
less_sure reveals r s n k l last first second e on near now found writes = record {
  sure = λ is fit.
      absurd (∥∥₁_elim (now.guards is.0) (λ a b. absurd a) (λ was.
      (writes.sure is.0 (now.time.free fit.sync.0)
      (fits_more reveals r s k k.end last first second on (near on) now.time (ap (λ (y : Files). y 0) (now.contents is.0)) (was.are refl) (found is.0) fit)).0 refl));
  beneath = λ is. let rose : Rose s.faults n.faults = writes.cause refl in let one = now.kept in omega (arith, rose, one);
  goes = tt;
}

-- ---- a ledger whose records never end

-- is not one of which nothing more was found
pub nothing_ends : (reveals : Type 0) (r s : State) (end : ℕ) (first second : Tail) → Looked reveals r s end first second → (reveals → (before : ℕ) → first.gate ≡ copied_end (before + 1) end → IsFurther (s.files 0) before end Nothing)
    → reveals → NeverEnds (r.files 0) → ⊥
nothing_ends reveals r s end first second now found revealed never =
    ∥∥₁_elim (now.guards revealed) (λ a b. absurd a) (λ was.
    let here = kept_holds s end first second (was.are refl) in
    let leads = found revealed here.0.records here.1 in
    subst NeverEnds (sym (ap (λ (y : Files). y 0) (now.contents revealed))) never end (record { header = here.0.header; records = here.0.records; reaches = here.0.reaches; there = leads.there; shut = leads.shut }))

-- nor one of which whole records were
pub until_ends : (reveals : Type 0) (r s : State) (end last : ℕ) (first second : Tail) → Looked reveals r s end first second → (reveals → (before : ℕ) → first.gate ≡ copied_end (before + 1) end → IsFurther (s.files 0) before end (Until last))
    → reveals → NeverEnds (r.files 0) → ⊥
until_ends reveals r s end last first second now found revealed never =
    ∥∥₁_elim (now.guards revealed) (λ a b. absurd a) (λ was.
    let here = kept_holds s end first second (was.are refl) in
    let more = found revealed here.0.records here.1 in
    subst NeverEnds (sym (ap (λ (y : Files). y 0) (now.contents revealed))) never last (record {
      header = here.0.header;
      records = here.0.records + suc more.0;
      reaches = reaches_join (s.files 0) 0 here.0.records (suc more.0) 17 end last here.0.reaches
          (subst (λ (n : ℕ). Reaches (s.files 0) n (suc more.0) end last) (let e : here.0.records ≡ 0 + here.0.records = omega arith in e) more.1.reaches) (here.0.records + suc more.0) refl;
      there = more.1.there;
      shut = more.1.shut;
    }))
