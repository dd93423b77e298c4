-- A copy is extended: its entries are written after the gate that ends it, and then the gate is opened.
use Rattle.std.proofs.Common.{◌≡◌, ⊎_elim, inr, ℕ, ◌+◌, ◌<◌, ◌≤◌, List, length, take, get_or, sym, ap, ◌∙◌, subst, arith}
use Rattle.std.proofs.lemmas.Bool.{cases_lt}
use Rattle.std.proofs.lemmas.List.{length-take, get_or-take}
use Rattle.aea_disk.specs.Files.{Files, ChangesFile, Torn}
use Rattle.aea_disk.specs.Steps.{torn_front, torn_range}
use Rattle.aea_disk.specs.Frames.{OnlyWrites}
use Rattle.aea_disk.specs.State.{State, Passes, During, KeepsImages, Settles, HasEarlier, IsSynced}
use Rattle.aea_disk.proofs.Moments.{passes_both}
use Rattle.aea_disk.proofs.Stays.{earlier_both}
use Rattle.aea_records.specs.Format.{open_gate}
use Rattle.aea_copy_writer.specs.Changes.{KeepsFront}
use Rattle.aea_copy_writer.specs.Entries.{after_gate}
use Rattle.aea_mirror.specs.Extending.{IsShut, IsGated, Extends, HasEntries}

-- a copy up to and with its closed gate
front_shut : (gate : ℕ) (old new : List ℕ) → IsShut gate old → KeepsFront (gate + 1) old new → (take gate new ≡ take gate old) × IsShut gate new
front_shut gate old new shut keeps =
    let there = shut.there in
    let whole : take (gate + 1) new ≡ take (gate + 1) old = keeps (gate + 1) (omega arith) (omega (arith, there)) in (
      keeps gate (omega arith) (omega (arith, there)),
      record {
        there = omega (arith, ap length whole, length-take (gate + 1) new, length-take (gate + 1) old, there);
        shut = λ is. shut.shut (sym (get_or-take (gate + 1) old gate 0 (omega arith)) ∙ ap (λ (l : List ℕ). get_or l gate 0) (sym whole) ∙ get_or-take (gate + 1) new gate 0 (omega arith) ∙ is);
      },
    )

-- So far the copy is in each image as it was, up to and with its closed gate.
pub record Staged (file gate : ℕ) (s n : State) : Type 0 where
  pub reads : (take gate (n.files file) ≡ take gate (s.files file)) × IsShut gate (n.files file)
  pub shut : During s n (λ c. (take gate (c file) ≡ take gate (s.files file)) × IsShut gate (c file))
  pub earlier : HasEarlier s n
  pub time : Passes s n

pub staged_writes : (reveals taken fits fault : Type 0) (file gate : ℕ) (s n : State) → reveals → IsGated s file gate → OnlyWrites reveals taken fits fault (ChangesFile file (KeepsFront (gate + 1))) s n → Staged file gate s n
staged_writes reveals taken fits fault file gate s n revealed gated writes = record {
  reads = front_shut gate (s.files file) (n.files file) gated.closed (writes.contents revealed).here;
  shut = λ t c from to here.
      let was = writes.crash t c from to here in
      let as_read : was.0 file ≡ s.files file = gated.fixed was.0 was.1 in
      let kept = front_shut gate (was.0 file) (c file) (subst (IsShut gate) (sym as_read) gated.closed) was.2.here in
      (kept.0 ∙ ap (take gate) as_read, kept.1);
  earlier = writes.earlier;
  time = writes.time;
}

-- calls that keep the images leave it staged
pub staged_then : (file gate : ℕ) (s m n : State) → Staged file gate s m → n.files ≡ m.files → KeepsImages m n → Passes m n → HasEarlier m n → Staged file gate s n
staged_then file gate s m n early same keeps time earlier = record {
  reads = subst (λ (c : Files). (take gate (c file) ≡ take gate (s.files file)) × IsShut gate (c file)) (sym same) early.reads;
  shut = λ t c from to here.
      ⊎_elim
      (λ (before : t < m.moment). early.shut t c from (omega (arith, before)) ((time.keeps t c (omega (arith, before))).0 here))
      (λ (after : m.moment ≤ t). early.shut m.moment c early.time.later (omega arith) (keeps t c after to here))
      (cases_lt t m.moment);
  earlier = earlier_both s m n early.time time early.earlier earlier;
  time = passes_both s m n early.time time;
}

pub staged_extends : (file gate : ℕ) (s n : State) → Staged file gate s n → Extends file gate s n
staged_extends file gate s n staged = record {
  reads = (staged.reads.0, staged.reads.1.there);
  front = λ t c from to here. let was = staged.shut t c from to here in (was.0, was.1.there);
  back = λ t u d from le to here shut.
      let some = staged.earlier t u d from le to here in
      (some.0, some.1, (staged.shut t some.0 from (omega (arith, le, to)) some.1).1);
}

-- the gate is opened
pub opened_extends : (reveals taken fits fault : Type 0) (file gate : ℕ) (s m n : State) → reveals → Staged file gate s m → OnlyWrites reveals taken fits fault (ChangesFile file (Torn gate 1)) m n → Settles m n → Extends file gate s n
opened_extends reveals taken fits fault file gate s m n revealed staged writes settles = record {
  reads =
      let torn = (writes.contents revealed).here in
      let there = staged.reads.1.there in
      let more = torn.no_shorter in
      (torn_front gate 1 (m.files file) (n.files file) gate (omega arith) (omega (arith, there)) torn ∙ staged.reads.0, omega (arith, there, more));
  front = λ t c from to here.
      ⊎_elim
      (λ (before : t < m.moment).
      let was = staged.shut t c from (omega (arith, before)) ((writes.time.keeps t c (omega (arith, before))).0 here) in
      (was.0, was.1.there))
      (λ (after : m.moment ≤ t).
      let was = writes.crash t c after to here in
      let shut = staged.shut m.moment was.0 staged.time.later (omega arith) was.1 in
      let there = shut.1.there in
      let more = was.2.here.no_shorter in
      (torn_front gate 1 (was.0 file) (c file) gate (omega arith) (omega (arith, there)) was.2.here ∙ shut.0, omega (arith, there, more)))
      (cases_lt t m.moment);
  back = λ t u d from le to here shut.
      ⊎_elim
      (λ (late : m.moment < t). (d, settles t u d late le to here, shut))
      (λ (early : t ≤ m.moment).
      let some = (earlier_both s m n staged.time writes.time staged.earlier writes.earlier) t u d from le to here in
      let was = (writes.time.keeps t some.0 early).0 some.1 in
      (some.0, some.1, (staged.shut t some.0 from early was).1))
      (cases_lt m.moment t);
}

-- a gate that is torn leaves what follows it
pub torn_entries : (gate : ℕ) (link : List ℕ) (more : List (List ℕ)) (old new : List ℕ) → HasEntries gate link more old → Torn gate 1 old new → HasEntries gate link more new
torn_entries gate link more old new has torn = record {
  entries = torn_range gate 1 old new (gate + 1) (after_gate link more) (inr (omega arith)) torn has.entries;
  are = has.are;
}

-- where the gate is open in an image, the entries follow it
pub opened_body : (reveals taken fits fault : Type 0) (file gate : ℕ) (link : List ℕ) (more : List (List ℕ)) (s m n : State) → Staged file gate s m → IsSynced m → HasEntries gate link more (m.files file)
    → OnlyWrites reveals taken fits fault (ChangesFile file (Torn gate 1)) m n → During s n (λ c. get_or (c file) gate 0 ≡ open_gate → HasEntries gate link more (c file))
opened_body reveals taken fits fault file gate link more s m n staged synced there writes t c from to here opened =
    ⊎_elim
    (λ (before : t < m.moment). absurd ((staged.shut t c from (omega (arith, before)) ((writes.time.keeps t c (omega (arith, before))).0 here)).1.shut opened))
    (λ (after : m.moment ≤ t).
    let was = writes.crash t c after to here in
    let as_read : was.0 file ≡ m.files file = synced was.0 was.1 file in
    torn_entries gate link more (was.0 file) (c file) (subst (HasEntries gate link more) (sym as_read) there) was.2.here)
    (cases_lt t m.moment)

-- and where it was not, none is open
pub staged_body : (file gate : ℕ) (link : List ℕ) (more : List (List ℕ)) (s n : State) → Staged file gate s n → During s n (λ c. get_or (c file) gate 0 ≡ open_gate → HasEntries gate link more (c file))
staged_body file gate link more s n staged t c from to here opened = absurd ((staged.shut t c from to here).1.shut opened)
