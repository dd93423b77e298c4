-- The records after the kept text are walked, gate by gate.
use Rattle.std.proofs.Common.{◌≡◌, ◌≢◌, ◌⊎◌, ⊎_elim, ℕ, zero, suc, ◌+◌, ◌-◌, ◌<◌, ◌≤◌, min, List, length, take, drop, get_or, refl, sym, ap, ◌∙◌, subst, arith}
use Rattle.std.specs.Int.{w32, from_be_bytes}
use Rattle.std.proofs.lemmas.List.{length-take, length-drop, get_or-take, get_or-drop, drop-take, drop-drop, take-take}
use Rattle.aea_disk.specs.Ends.{Reaches, IsWhole, behind, number_at, copied_end, greatest_length, greatest_place}
use Rattle.aea_mirror.specs.declared.further.Further.TheVariants.{Nothing, Until, Broken}
use Rattle.aea_mirror.specs.declared.further.Look.TheVariants.{Closed, Record, NoRecord}
use Rattle.aea_mirror.specs.Looking.{IsLook, LeadTo, IsFurther}

-- So many records were walked, and the walk is at this gate, where the entries of the copy end at that place.
pub record Walked (bytes : List ℕ) (before end at copy : ℕ) : Type 0 where
  pub done : ℕ
  pub place : copy ≡ copied_end (before + done + 1) at
  pub on : end + done ≤ at
  pub none : done ≡ 0 → at ≡ end
  pub reached : at < length bytes → Reaches bytes before done end at
  pub passes : (more last : ℕ) → LeadTo bytes before more end last → (rest : ℕ) × LeadTo bytes (before + done) rest at last

-- what a look at a gate says of the whole file
record Seen (bytes : List ℕ) (at : ℕ) : Type 0 where
  gate : get_or (take 6 (drop at bytes)) 0 0 ≡ get_or bytes at 0
  number : number_at (take 6 (drop at bytes)) 2 ≡ number_at bytes (at + 2)
  long : length (take 6 (drop at bytes)) ≡ min 6 (length bytes - at)

seen : (bytes : List ℕ) (at : ℕ) → Seen bytes at
seen bytes at = record {
  gate = get_or-take 6 (drop at bytes) 0 0 (omega arith) ∙ get_or-drop at bytes 0 0 ∙ ap (λ (n : ℕ). get_or bytes n 0) (omega arith);
  number = ap (from_be_bytes w32) (ap (take 4) (drop-take 2 4 (drop at bytes)) ∙ take-take 4 4 (drop 2 (drop at bytes)) (omega arith) ∙ ap (take 4) (drop-drop 2 at bytes));
  long = omega (arith, length-take 6 (drop at bytes), length-drop at bytes);
}

-- one more record at the end of those that were walked
reaches_more : (bytes : List ℕ) (before done from at : ℕ) → Reaches bytes before done from at → IsWhole bytes (before + done) at → Reaches bytes before (suc done) from (behind bytes at)
reaches_more bytes before zero from at here whole =
    (subst (λ (g : ℕ). IsWhole bytes before g) (sym here) (subst (λ (n : ℕ). IsWhole bytes n at) (omega arith) whole), ap (behind bytes) here)
reaches_more bytes before (suc done) from at here whole =
    (here.0, reaches_more bytes (suc before) done (behind bytes from) at here.1 (subst (λ (n : ℕ). IsWhole bytes n at) (omega arith) whole))

-- a walk begins at the end of the kept text
pub walked_none : (bytes : List ℕ) (before end copy : ℕ) → copy ≡ copied_end (before + 1) end → Walked bytes before end end copy
walked_none bytes before end copy place = record {
  done = 0;
  place = place ∙ ap (λ (n : ℕ). copied_end n end) (omega arith);
  on = omega arith;
  none = λ is. refl;
  reached = λ long. refl;
  passes = λ more last leads. (more, subst (λ (n : ℕ). LeadTo bytes n more end last) (omega arith) leads);
}

-- where there is an open gate, what leads from it to one that is not open goes on by a record
leads_on : (bytes : List ℕ) (before rest at last : ℕ) → get_or bytes at 0 ≡ 1 → LeadTo bytes before rest at last → IsWhole bytes before at × ((less : ℕ) × LeadTo bytes (suc before) less (behind bytes at) last)
leads_on bytes before zero at last open_ leads = absurd (leads.shut (ap (λ (g : ℕ). get_or bytes g 0) (sym leads.reaches) ∙ open_))
leads_on bytes before (suc rest) at last open_ leads = (leads.reaches.0, (rest, record { reaches = leads.reaches.1; there = leads.there; shut = leads.shut }))

pub walked_on : (bytes : List ℕ) (before end at copy size : ℕ) → Walked bytes before end at copy → IsLook (take 6 (drop at bytes)) (Record size) → copy + (37 + size) ≤ greatest_place
    → Walked bytes before end (at + size) (copy + (37 + size))
walked_on bytes before end at copy size w look near =
    let s = seen bytes at in
    let open_ : get_or bytes at 0 ≡ 1 = sym s.gate ∙ look.1 in
    let there : at + size ≡ behind bytes at = omega (arith, look.3, s.number) in
    let next : copy + (37 + size) ≡ copied_end (before + suc w.done + 1) (at + size) = omega (arith, w.place) in
    record {
      done = suc w.done;
      place = next;
      on = omega (arith, w.on, look.3);
      none = λ is. absurd (omega (arith, is));
      reached = λ long.
          subst (λ (g : ℕ). Reaches bytes before (suc w.done) end g) (sym there)
          (reaches_more bytes before w.done end at (w.reached (omega (arith, look.0, s.long))) (record {
            opened = open_;
            short = omega (arith, look.2, s.number);
            followed = omega (arith, there, long);
            near = subst (λ (n : ℕ). copied_end (before + w.done + 2) n ≤ greatest_place) there (omega (arith, near, next));
          }));
      passes = λ more last leads.
          let rest = w.passes more last leads in
          let on = leads_on bytes (before + w.done) rest.0 at last open_ rest.1 in
          (on.1.0, subst (λ (g : ℕ). LeadTo bytes (before + suc w.done) on.1.0 g last) (sym there) (subst (λ (n : ℕ). LeadTo bytes n on.1.0 (behind bytes at) last) (omega arith) on.1.1));
    }

-- a record whose entry would end too far
pub walked_far : (bytes : List ℕ) (before end at copy size : ℕ) → Walked bytes before end at copy → IsLook (take 6 (drop at bytes)) (Record size) → (greatest_place < copy + (37 + size)) ⊎ (greatest_place < at + size) → IsFurther bytes before end Broken
walked_far bytes before end at copy size w look far more last leads =
    let s = seen bytes at in
    let rest = w.passes more last leads in
    let on = leads_on bytes (before + w.done) rest.0 at last (sym s.gate ∙ look.1) rest.1 in
    let near = on.0.near in
    ⊎_elim (λ (entry : greatest_place < copy + (37 + size)). omega (arith, near, entry, w.place, look.3, s.number)) (λ (itself : greatest_place < at + size). omega (arith, near, itself, look.3, s.number)) far

pub walked_broken : (bytes : List ℕ) (before end at copy : ℕ) → Walked bytes before end at copy → IsLook (take 6 (drop at bytes)) NoRecord → IsFurther bytes before end Broken
walked_broken bytes before end at copy w look more last leads =
    let s = seen bytes at in
    let rest = w.passes more last leads in
    ⊎_elim
    (λ (none : length (take 6 (drop at bytes)) < 1). past rest.0 rest.1 (omega (arith, none, s.long)))
    (λ (open_ : (get_or (take 6 (drop at bytes)) 0 0 ≡ 1) × ((length (take 6 (drop at bytes)) < 6) ⊎ (greatest_length < number_at (take 6 (drop at bytes)) 2))).
    let on = leads_on bytes (before + w.done) rest.0 at last (sym s.gate ∙ open_.0) rest.1 in
    ⊎_elim
    (λ (short : length (take 6 (drop at bytes)) < 6). let followed = on.0.followed in omega (arith, short, s.long, followed))
    (λ (long : greatest_length < number_at (take 6 (drop at bytes)) 2). let short = on.0.short in omega (arith, long, short, s.number))
    open_.1)
    look
  where
    past : (rest : ℕ) → LeadTo bytes (before + w.done) rest at last → length bytes ≤ at → ⊥
    past zero leads none = let there = leads.there in omega (arith, there, none, leads.reaches)
    past (suc rest) leads none = let followed = leads.reaches.0.followed in omega (arith, followed, none)

-- a gate that is not open
pub walked_nothing : (bytes : List ℕ) (before end at copy : ℕ) → Walked bytes before end at copy → IsLook (take 6 (drop at bytes)) Closed → at ≡ end → IsFurther bytes before end Nothing
walked_nothing bytes before end at copy w look here =
    let s = seen bytes at in
    record {
      reaches = refl;
      there = omega (arith, here, look.0, s.long);
      shut = λ is. look.1 (s.gate ∙ ap (λ (g : ℕ). get_or bytes g 0) here ∙ is);
    }

pub walked_until : (bytes : List ℕ) (before end at copy : ℕ) → Walked bytes before end at copy → IsLook (take 6 (drop at bytes)) Closed → at ≢ end → IsFurther bytes before end (Until at)
walked_until bytes before end at copy w look other =
    let s = seen bytes at in
    let there : at < length bytes = omega (arith, look.0, s.long) in
    by_done w.done refl there
  where
    by_done : (n : ℕ) → w.done ≡ n → at < length bytes → (more : ℕ) × LeadTo bytes before (suc more) end at
    by_done zero none there = absurd (other (w.none none))
    by_done (suc n) some there = (
      n,
      record {
        reaches = subst (λ (k : ℕ). Reaches bytes before k end at) some (w.reached there);
        there = there;
        shut = λ is. look.1 ((seen bytes at).gate ∙ is);
      },
    )
