-- How what a crash may leave goes on from call to call: the lemmas by which a client composes its calls.
use Rattle.std.proofs.Common.{◌≡◌, ◌≢◌, ◌⊎◌, ⊎_elim, ℕ, Bool, false, max, ◌+◌, ◌-◌, ◌^◌, ◌<◌, ◌≤◌, List, length, take, drop, refl, sym, ◌∙◌, ap, subst, arith}
use Rattle.std.proofs.lemmas.Bool.{cases_eq, cases_lt}
use Rattle.aea_disk.specs.Files.{Files, ChangesFile, Torn}
use Rattle.aea_disk.specs.Steps.{torn_range}
use Rattle.aea_disk.specs.State.{State, Lent, KeepsLent, Lasts, lent_of, Goes, Passes, Follows, KeepsImages, EveryImage, During, IsSynced, IsFixed, KeepsOthers, KeepsWhere, HasRange}

-- a call that adds no moment and no image takes any step that may leave the files
pub no_time : (step : Files → Files → Type 0) (old new : State) → new.moment ≤ old.moment → ((t : ℕ) (c : Files) → new.image t c → old.image t c) → ((c : Files) → step c c) → Follows step old new
no_time step old new still same none t c from to here =
    let is : t ≡ old.moment = omega arith in
    (c, subst (λ (m : ℕ). old.image m c) is (same t c here), none c)

-- before the first call
pub during_none : (s : State) (P : Files → Type 0) → EveryImage s P → During s s P
during_none s P every t c from to here = let is : t ≡ s.moment = omega arith in every c (subst (λ (m : ℕ). s.image m c) is here)

-- one call, by its step
pub during_step : (step : Files → Files → Type 0) (old new : State) (P : Files → Type 0) → Follows step old new → ((d c : Files) → old.image old.moment d → step d c → P c) → During old new P
during_step step old new P follows each t c from to here = let was = follows t c from to here in each was.0 c was.1 was.2

-- a call that keeps the images
pub during_kept : (old new : State) (P : Files → Type 0) → KeepsImages old new → EveryImage old P → During old new P
during_kept old new P keeps every t c from to here = every c (keeps t c from to here)

-- two runs, one after the other
pub during_both : (old mid new : State) (P : Files → Type 0) → Passes old mid → Passes mid new → During old mid P → During mid new P → During old new P
during_both old mid new P first second early late t c from to here =
    ⊎_elim
    (λ before. early t c from (omega arith) ((second.keeps t c (omega arith)).0 here))
    (λ after. late t c (omega arith) to here)
    (cases_lt t mid.moment)

-- What is lent stays while no call is made,
pub keeps_none : (l : Lent) → KeepsLent l l
keeps_none l = record {
  name = refl;
  set = refl;
  later = omega arith;
  keeps = λ t c early. (λ here. here, λ here. here);
  counts = omega arith;
  stops = omega arith;
  room = λ f n has. has;
  beneath = omega arith;
  syncs = λ b has. has;
  free = λ is. is;
  same = λ c. (λ has. has, λ has. has);
  holds = λ every t c from to here. let is : t ≡ l.moment = omega arith in every c (subst (λ (m : ℕ). l.image m c) is here);
}

-- and over calls that are made one after the other.
keeps_both : (old mid new : Lent) → KeepsLent old mid → KeepsLent mid new → KeepsLent old new
keeps_both old mid new first second = record {
  name = second.name ∙ first.name;
  set = second.set ∙ first.set;
  later = omega (arith, first.later, second.later);
  keeps = λ t c early.
      let one = first.keeps t c early in
      let two = second.keeps t c (omega (arith, first.later)) in
      (λ here. one.0 (two.0 here), λ here. two.1 (one.1 here));
  counts = omega (arith, first.counts, second.counts);
  stops = let one = first.stops in let two = second.stops in omega (arith, one, two);
  room = λ f n has. second.room f n (first.room f n has);
  beneath = omega (arith, first.beneath, second.beneath);
  syncs = λ b has. second.syncs b (first.syncs b has);
  free = λ is. second.free (first.free is);
  same = λ c. let one = first.same c in let two = second.same c in (λ has. one.0 (two.0 has), λ has. two.1 (one.1 has));
  holds = λ every t c from to here.
      let later = first.later in
      ⊎_elim
      (λ (before : t < mid.moment). first.holds every t c from (omega (arith, before)) ((second.keeps t c (omega (arith, before))).0 here))
      (λ (after : mid.moment ≤ t). (first.same c).0 (second.holds (λ d there. (first.same d).1 (first.holds every mid.moment d later (omega arith) there)) t c after to here))
      (cases_lt t mid.moment);
}

-- the count stops, and what is lent stays
pub lasts_as : (old new : State) → new.faults ≤ max old.faults (2 ^ 64 - 1) → KeepsLent old.lent new.lent → Lasts old new
unfolding Lasts
lasts_as old new stops keeps = (stops, keeps)

pub lasts_stops : (old new : State) → Lasts old new → new.faults ≤ max old.faults (2 ^ 64 - 1)
unfolding Lasts
lasts_stops old new lasts = lasts.0

pub lasts_lent : (old new : State) → Lasts old new → KeepsLent old.lent new.lent
unfolding Lasts
lasts_lent old new lasts = lasts.1

lasts_none : (s : State) → Lasts s s
lasts_none s = lasts_as s s (omega arith) (keeps_none s.lent)

lasts_both : (old mid new : State) → Lasts old mid → Lasts mid new → Lasts old new
lasts_both old mid new first second =
    let one = lasts_stops old mid first in
    let two = lasts_stops mid new second in
    lasts_as old new (omega (arith, one, two)) (keeps_both old.lent mid.lent new.lent (lasts_lent old mid first) (lasts_lent mid new second))

-- time passes from each state to itself, as where no call is made
pub passes_none : (s : State) → Passes s s
passes_none s = record { later = omega arith; keeps = λ t c early. (λ here. here, λ here. here); room = λ f n has. has; beneath = omega arith; syncs = λ b has. has; free = λ is. is; lasts = lasts_none s }

-- where time passes from one state to a second, and from that to a third, it passes from first to third
pub passes_both : (old mid new : State) → Passes old mid → Passes mid new → Passes old new
passes_both old mid new first second = record {
  later = omega (arith, first.later, second.later);
  keeps = λ t c early.
      let one = first.keeps t c early in
      let two = second.keeps t c (omega (arith, first.later)) in
      (λ here. one.0 (two.0 here), λ here. two.1 (one.1 here));
  room = λ f n has. second.room f n (first.room f n has);
  beneath = omega (arith, first.beneath, second.beneath);
  syncs = λ b has. second.syncs b (first.syncs b has);
  free = λ is. second.free (first.free is);
  lasts = lasts_both old mid new first.lasts second.lasts;
}

-- time passes from one state to another,
pub goes_passes : (old new : State) → old.faults ≤ new.faults → Passes old new → Goes old new
goes_passes old new counts passes = record {
  name = refl;
  set = refl;
  later = passes.later;
  keeps = passes.keeps;
  counts = counts;
  stops = lasts_stops old new passes.lasts;
  room = passes.room;
  beneath = passes.beneath;
  syncs = passes.syncs;
  free = passes.free;
  same = λ c. (λ has. has, λ has. has);
  holds = λ every t c from to here. tt;
}

-- and so it does where both are lent
pub goes_lent : (name other : ℕ) (set also : Bool) (holds held : Files → Type 0) (old new : State) → KeepsLent (lent_of name set holds old) (lent_of other also held new) → Goes old new
goes_lent name other set also holds held old new lasts = record {
  name = refl;
  set = refl;
  later = lasts.later;
  keeps = lasts.keeps;
  counts = lasts.counts;
  stops = lasts.stops;
  room = lasts.room;
  beneath = lasts.beneath;
  syncs = lasts.syncs;
  free = lasts.free;
  same = λ c. (λ has. has, λ has. has);
  holds = λ every t c from to here. tt;
}

pub goes_none : (s : State) → Goes s s
goes_none s = keeps_none (lent_of 0 false (λ c. Unit {0}) s)

pub goes_both : (old mid new : State) → Goes old mid → Goes mid new → Goes old new
goes_both old mid new first second = keeps_both (lent_of 0 false (λ c. Unit {0}) old) (lent_of 0 false (λ c. Unit {0}) mid) (lent_of 0 false (λ c. Unit {0}) new) first second

-- a weaker fact at each image
pub during_more : (old new : State) (P Q : Files → Type 0) → ((c : Files) → P c → Q c) → During old new P → During old new Q
during_more old new P Q more during t c from to here = more c (during t c from to here)

-- of the images at the end
pub during_end : (old new : State) (P : Files → Type 0) → old.moment ≤ new.moment → During old new P → EveryImage new P
during_end old new P later during c here = during new.moment c later (omega arith) here

-- a run, and a call that keeps the images
pub during_then_kept : (old mid new : State) (P : Files → Type 0) → Passes old mid → Passes mid new → KeepsImages mid new → During old mid P → During old new P
during_then_kept old mid new P first second keeps early =
    during_both old mid new P first second early (during_kept mid new P keeps (during_end old mid P first.later early))

-- of the images at the start
pub during_start : (old new : State) (P : Files → Type 0) → Passes old new → During old new P → EveryImage old P
during_start old new P passes during c here = during old.moment c (omega arith) passes.later ((passes.keeps old.moment c (omega arith)).1 here)

-- a change of a file on which nothing was pending
pub during_change : (file : ℕ) (step : List ℕ → List ℕ → Type 0) (old new : State) (P : List ℕ → Type 0) → Follows (ChangesFile file step) old new → IsFixed old file → ((xs : List ℕ) → step (old.files file) xs → P xs) → During old new (λ c. P (c file))
during_change file step old new P follows fixed each t c from to here =
    let was = follows t c from to here in
    each (c file) (subst (λ (l : List ℕ). step l (c file)) (fixed was.0 was.1) was.2.here)

-- after a sync nothing is pending on any file
pub synced_fixed : (s : State) (file : ℕ) → IsSynced s → IsFixed s file
synced_fixed s file synced c here = synced c here file

-- what a call does to the other files
pub others_change : (reveals : Type 0) (file : ℕ) (step : List ℕ → List ℕ → Type 0) (old new : State) → Follows (ChangesFile file step) old new → (reveals → (f : ℕ) → f ≢ file → new.files f ≡ old.files f) → KeepsOthers reveals file old new
others_change reveals file step old new follows reads = record {
  reads = reads;
  images = λ t c from to here. let was = follows t c from to here in (was.0, was.1, was.2.others);
}

-- calls that keep the images and, where they are known, the contents keep all files other than this one
pub others_kept : (reveals : Type 0) (file : ℕ) (old new : State) → KeepsImages old new → (reveals → new.files ≡ old.files) → KeepsOthers reveals file old new
others_kept reveals file old new keeps same = record {
  reads = λ revealed f other. ap (λ (c : Files). c f) (same revealed);
  images = λ t c from to here. (c, keeps t c from to here, λ f other. refl);
}

pub others_none : (reveals : Type 0) (file : ℕ) (s : State) → KeepsOthers reveals file s s
others_none reveals file s = record {
  reads = λ revealed f other. refl;
  images = λ t c from to here. let is : t ≡ s.moment = omega arith in (c, subst (λ (m : ℕ). s.image m c) is here, λ f other. refl);
}

-- two runs, one after the other, that each keep the files other than this one keep them together
pub others_both : (reveals : Type 0) (file : ℕ) (old mid new : State) → Passes old mid → Passes mid new → KeepsOthers reveals file old mid → KeepsOthers reveals file mid new → KeepsOthers reveals file old new
others_both reveals file old mid new first second early late = record {
  reads = λ revealed f other. late.reads revealed f other ∙ early.reads revealed f other;
  images = λ t c from to here.
      ⊎_elim
      (λ before. early.images t c from (omega arith) ((second.keeps t c (omega arith)).0 here))
      (λ after.
      let one = late.images t c (omega arith) to here in
      let two = early.images mid.moment one.0 first.later (omega arith) one.1 in
      (two.0, two.1, λ f other. one.2 f other ∙ two.2 f other))
      (cases_lt t mid.moment);
}

-- a run, and a call that keeps the images
pub others_then_kept : (reveals : Type 0) (file : ℕ) (old mid new : State) → Passes old mid → Passes mid new → KeepsImages mid new → (reveals → new.files ≡ mid.files) → KeepsOthers reveals file old mid → KeepsOthers reveals file old new
others_then_kept reveals file old mid new first second keeps same early =
    others_both reveals file old mid new first second early (others_kept reveals file mid new keeps same)

-- a file that the calls don't touch is as it was in every image of every moment
pub during_others : (reveals : Type 0) (file : ℕ) (old new : State) (other : ℕ) → other ≢ file → KeepsOthers reveals file old new → IsFixed old other → During old new (λ c. c other ≡ old.files other)
during_others reveals file old new other apart others fixed t c from to here =
    let was = others.images t c from to here in was.2 other apart ∙ fixed was.0 was.1

-- and nothing is pending on it
pub fixed_others : (reveals : Type 0) (file : ℕ) (old new : State) (other : ℕ) → reveals → other ≢ file → old.moment ≤ new.moment → KeepsOthers reveals file old new → IsFixed old other → IsFixed new other
fixed_others reveals file old new other revealed apart later others fixed c here =
    during_others reveals file old new other apart others fixed new.moment c later (omega arith) here ∙ sym (others.reads revealed other apart)

-- a range of another file stays in every image
pub held_by_others : (reveals : Type 0) (file : ℕ) (old new : State) (other at : ℕ) (bytes : List ℕ) → other ≢ file → KeepsOthers reveals file old new → EveryImage old (HasRange other at bytes) → During old new (HasRange other at bytes)
held_by_others reveals file old new other at bytes apart others held t c from to here =
    let was = others.images t c from to here in
    subst (λ (l : List ℕ). take (length bytes) (drop at l) ≡ bytes) (sym (was.2 other apart)) (held was.0 was.1)

-- a range that a change of some file doesn't meet
pub range_kept : (file at n : ℕ) (d e : Files) (f a : ℕ) (kept : List ℕ) → ChangesFile file (Torn at n) d e → (f ≡ file → (a + length kept ≤ at) ⊎ (at + n ≤ a)) → HasRange f a kept d → HasRange f a kept e
range_kept file at n d e f a kept changes apart has =
    ⊎_elim
    (λ is.
    let here = subst (λ (g : ℕ). Torn at n (d g) (e g)) (sym is) changes.here in
    torn_range at n (d f) (e f) a kept (apart is) here has)
    (λ other. subst (λ (l : List ℕ). take (length kept) (drop a l) ≡ kept) (sym (changes.others f other)) has)
    (cases_eq f file)

-- and so it is held over one more call
pub held_change : (file at n : ℕ) (old mid new : State) (f a : ℕ) (kept : List ℕ) → (f ≡ file → (a + length kept ≤ at) ⊎ (at + n ≤ a)) → Passes old mid → Passes mid new → Follows (ChangesFile file (Torn at n)) mid new → During old mid (HasRange f a kept) → During old new (HasRange f a kept)
held_change file at n old mid new f a kept apart first second follows early =
    during_both old mid new (HasRange f a kept) first second early
    (during_step (ChangesFile file (Torn at n)) mid new (HasRange f a kept) follows
    (λ d c was step. range_kept file at n d c f a kept step apart (during_end old mid (HasRange f a kept) first.later early d was)))

-- files that no call so far is on
pub where_none : (reveals : Type 0) (keep : ℕ → Type 0) (s : State) → KeepsWhere reveals keep s s
where_none reveals keep s = record {
  reads = λ revealed f kept. refl;
  images = λ t c from to here. let is : t ≡ s.moment = omega arith in (c, subst (λ (m : ℕ). s.image m c) is here, λ f kept. refl);
}

pub where_both : (reveals : Type 0) (keep : ℕ → Type 0) (old mid new : State) → Passes old mid → Passes mid new → KeepsWhere reveals keep old mid → KeepsWhere reveals keep mid new → KeepsWhere reveals keep old new
where_both reveals keep old mid new first second early late = record {
  reads = λ revealed f kept. late.reads revealed f kept ∙ early.reads revealed f kept;
  images = λ t c from to here.
      ⊎_elim
      (λ before. early.images t c from (omega arith) ((second.keeps t c (omega arith)).0 here))
      (λ after.
      let one = late.images t c (omega arith) to here in
      let two = early.images mid.moment one.0 first.later (omega arith) one.1 in
      (two.0, two.1, λ f kept. one.2 f kept ∙ two.2 f kept))
      (cases_lt t mid.moment);
}

pub where_change : (reveals : Type 0) (keep : ℕ → Type 0) (file : ℕ) (step : List ℕ → List ℕ → Type 0) (old mid new : State) → ((f : ℕ) → keep f → f ≢ file) → Passes old mid → Passes mid new → Follows (ChangesFile file step) mid new → (reveals → (f : ℕ) → f ≢ file → new.files f ≡ mid.files f)
    → KeepsWhere reveals keep old mid → KeepsWhere reveals keep old new
where_change reveals keep file step old mid new apart first second follows reads early =
    where_both reveals keep old mid new first second early
    (record {
      reads = λ revealed f kept. reads revealed f (apart f kept);
      images = λ t c from to here. let was = follows t c from to here in (was.0, was.1, λ f kept. was.2.others f (apart f kept));
    })

-- a run that keeps the files that a test picks does so with calls after it that keep the images and, where they
-- are known, the contents
pub where_kept : (reveals : Type 0) (keep : ℕ → Type 0) (old mid new : State) → Passes old mid → Passes mid new → KeepsImages mid new → (reveals → new.files ≡ mid.files) → KeepsWhere reveals keep old mid → KeepsWhere reveals keep old new
where_kept reveals keep old mid new first second keeps same early =
    where_both reveals keep old mid new first second early
    (record {
      reads = λ revealed f kept. ap (λ (c : Files). c f) (same revealed);
      images = λ t c from to here. (c, keeps t c from to here, λ f kept. refl);
    })

-- the calls on one file keep the files that a test leaves out of it
pub where_others : (reveals : Type 0) (keep : ℕ → Type 0) (file : ℕ) (old new : State) → ((f : ℕ) → keep f → f ≢ file) → KeepsOthers reveals file old new → KeepsWhere reveals keep old new
where_others reveals keep file old new apart others = record {
  reads = λ revealed f kept. others.reads revealed f (apart f kept);
  images = λ t c from to here. let was = others.images t c from to here in (was.0, was.1, λ f kept. was.2 f (apart f kept));
}
