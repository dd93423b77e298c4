-- What a Mirror shows of the calls that it hands on, and of those that it refuses.
use Rattle.std.proofs.Common.{◌≡◌, ◌≢◌, ◌⊎◌, ◌↔◌, inl, inr, ⊎_elim, ◌<◌, ◌≤◌, ◌+◌, ℕ, Bool, true, false, IsTrue, List, length, Result, Ok, Err, IsErr, OnOk, refl, sym, ◌∙◌, ap, subst, arith}
use Rattle.std.proofs.lemmas.Bool.{cases_eq, cases_lt}
use Rattle.std.proofs.lemmas.Result.{on_ok_weaker}
use Rattle.aea_faults.specs.Faults.{Rose, HasCause}
use Rattle.aea_disk.specs.Count.{one_more}
use Rattle.aea_disk.specs.Files.{Files, ChangesFile, Torn, Holds, IsCut, MayBeCut}
use Rattle.aea_disk.specs.Steps.{changes_none, torn_none}
use Rattle.aea_disk.proofs.Moments.{lasts_as, lasts_stops}
use Rattle.aea_disk.specs.State.{State, Passes, Follows, KeepsImages, Settles, TakesFrom, KeepsTaking, IsSure}
use Rattle.aea_mirror.specs.Shown.{Shows}
use Rattle.aea_mirror.specs.Mirrored.{Kept, HoldsText, Takes, SeesTo, mirror_state, outer, added}
use Rattle.aea_mirror.specs.States.{outer_near, outer_same}
use Rattle.aea_mirror.proofs.Seeing.{KeepsCopies}
use Rattle.aea_mirror.proofs.Texts.{taken_after, text_written, text_cut}

pub shown_contents : (old new : Files) → new ≡ old → outer new ≡ outer old
shown_contents old new same = ap (λ (c : Files). outer c) same

pub shown_keeps : (reveals : Type 0) (old new : State) (k l : Kept) → KeepsImages old new → KeepsImages (mirror_state reveals old k) (mirror_state reveals new l)
shown_keeps reveals old new k l keeps t c from to here = (here.0, (here.1.0, keeps t here.1.0 from to here.1.1, here.1.2))

pub shown_changes : (file : ℕ) (step : List ℕ → List ℕ → Type 0) (old new : Files) → file ≤ 64 → ChangesFile file step old new → ChangesFile file step (outer old) (outer new)
shown_changes file step old new near changes = record {
  here = subst (λ (l : List ℕ). step (outer old file) l) (sym (outer_near new file near)) (subst (λ (l : List ℕ). step l (new file)) (sym (outer_near old file near)) changes.here);
  others = λ f other. outer_same new old f (changes.others f other);
}

-- a change by a step, where all that is shown after the step comes from what was shown before it
pub shown_follows : (reveals : Type 0) (file : ℕ) (step : List ℕ → List ℕ → Type 0) (old new : State) (k l : Kept)
    → (reveals → (d e c : Files) → old.image old.moment d → ChangesFile file step d e → Shows e c → (before : Files) × Shows d before × ChangesFile file step before c)
    → Follows (ChangesFile file step) old new → Follows (ChangesFile file step) (mirror_state reveals old k) (mirror_state reveals new l)
shown_follows reveals file step old new k l shown follows t c from to here =
    let was = follows t here.1.0 from to here.1.1 in
    let before = shown here.0 was.0 here.1.0 c was.1 was.2 here.1.2 in
    (before.0, (here.0, (was.0, was.1, before.1)), before.2)

pub shown_settles : (reveals : Type 0) (old new : State) (k l : Kept) → Settles old new → Settles (mirror_state reveals old k) (mirror_state reveals new l)
shown_settles reveals old new k l settles t u c after le to here = (here.0, (here.1.0, settles t u here.1.0 after le to here.1.1, here.1.2))

-- what the Mirror sees to holds of each image alike where copies are on alike
pub sees_alike : (reveals : Type 0) (a b : Bool) → b ≡ a → (c : Files) → SeesTo reveals b c ↔ SeesTo reveals a c
sees_alike reveals a b same c = (λ has. subst (λ (on : Bool). SeesTo reveals on c) same has, λ has. subst (λ (on : Bool). SeesTo reveals on c) (sym same) has)

pub shown_time : (reveals : Type 0) (old new : State) (k l : Kept) → l.on ≡ k.on → l.name ≡ k.name → old.faults ≤ new.faults → KeepsCopies reveals k.on old new → Passes old new → Passes (mirror_state reveals old k) (mirror_state reveals new l)
shown_time reveals old new k l same name kept good time = record {
  later = time.later;
  keeps = λ t c early. (
    λ here. (here.0, (here.1.0, (time.keeps t here.1.0 early).0 here.1.1, here.1.2)),
    λ here. (here.0, (here.1.0, (time.keeps t here.1.0 early).1 here.1.1, here.1.2)),
  );
  room = λ f n has. (has.0, (time.free has.1.0, time.room f n has.1.1));
  beneath = kept;
  syncs = λ b has. (time.free has.0, time.syncs b has.1, ⊎_elim (λ (off : k.on ≡ false). inl (same ∙ off)) (λ some. inr (some.0, some.1, record { first = time.room 65 _ some.2.first; second = time.room 66 _ some.2.second })) has.2);
  free = λ none. absurd none;
  lasts = lasts_as _ _ (omega arith) (record {
    name = name;
    set = same;
    later = time.later;
    keeps = time.keeps;
    counts = kept;
    stops = lasts_stops old new time.lasts;
    room = time.room;
    beneath = time.beneath;
    syncs = time.syncs;
    free = time.free;
    same = λ c. sees_alike reveals k.on l.on same c;
    holds = λ every t c from to here revealed. good revealed (λ d was. every d was revealed) t c from to here;
  });
}

-- a call that is not handed on takes no time
pub refused_time : (reveals : Type 0) (s t : State) (k l : Kept) → t ≡ s → l.on ≡ k.on → l.name ≡ k.name → Passes (mirror_state reveals s k) (mirror_state reveals t l)
refused_time reveals s t k l is same name = subst (λ (u : State). Passes (mirror_state reveals s k) (mirror_state reveals u l)) (sym is) (record {
  later = omega arith;
  keeps = λ t c early. (λ here. here, λ here. here);
  room = λ f n has. has;
  beneath = omega arith;
  syncs = λ b has. (has.0, has.1, ⊎_elim (λ (off : k.on ≡ false). inl (same ∙ off)) (λ some. inr some) has.2);
  free = λ none. absurd none;
  lasts = lasts_as _ _ (omega arith) (record {
    name = name;
    set = same;
    later = omega arith;
    keeps = λ t c early. (λ here. here, λ here. here);
    counts = omega arith;
    stops = omega arith;
    room = λ f n has. has;
    beneath = omega arith;
    syncs = λ b has. has;
    free = λ is. is;
    same = λ c. sees_alike reveals k.on l.on same c;
    holds = λ every t c from to here. let now : t ≡ s.moment = omega (arith, from, to) in every c (subst (λ (m : ℕ). s.image m c) now here);
  });
})

pub refused_keeps : (reveals : Type 0) (s : State) (k l : Kept) → KeepsImages (mirror_state reveals s k) (mirror_state reveals s l)
refused_keeps reveals s k l t c from to here = let is : t ≡ s.moment = omega arith in subst (λ (m : ℕ). (mirror_state reveals s k).image m c) is here

pub refused_follows : (reveals : Type 0) (step : Files → Files → Type 0) (s : State) (k l : Kept) → ((c : Files) → step c c) → Follows step (mirror_state reveals s k) (mirror_state reveals s l)
refused_follows reveals step s k l none t c from to here = (c, refused_keeps reveals s k l t c from to here, none c)

pub refused_settles : (reveals : Type 0) (s : State) (k l : Kept) → Settles (mirror_state reveals s k) (mirror_state reveals s l)
refused_settles reveals s k l t u c after le to here = absurd (omega arith)

pub refused_cause : {T E : Type 0} (faults own : ℕ) (result : Result T E) → IsErr result → HasCause (added faults own) (added faults (one_more own)) result
refused_cause faults own (Ok v) failed = absurd (cc)
refused_cause faults own (Err e) failed = record { kept = omega arith; rose = omega arith; still = tt }

pub shown_cause : {T E : Type 0} (old new own : ℕ) (result : Result T E) → HasCause old new result → HasCause (added old own) (added new own) result
shown_cause old new own (Ok v) cause =
    let kept = cause.kept in
    let still : new ≡ old = cause.still in
    record { kept = omega (arith, kept); rose = tt; still = ap (λ (n : ℕ). added n own) still }
shown_cause old new own (Err e) cause =
    let kept = cause.kept in
    let rose : Rose old new = cause.rose in
    record { kept = omega (arith, kept); rose = omega (arith, rose); still = tt }

-- what is taken stays taken where the text stays
pub takes_stay : (reveals : Type 0) (old new : State) (k : Kept) → (reveals → k.on ≡ true → HoldsText k.end (old.files 0) → HoldsText k.end (new.files 0)) → KeepsTaking (mirror_state reveals old k) (mirror_state reveals new k)
takes_stay reveals old new k stays file b at has = record {
  revealed = has.revealed;
  sound = record { alive = has.sound.alive; text = λ on. stays has.revealed on (has.sound.text on) };
  near = has.near;
  allowed = has.allowed;
}

-- a call that is handed on, by what the lent disk says of it
pub shown_sure : {T E : Type 0} (reveals taken fits inner_taken inner_fits : Type 0) (old new : State) (k : Kept) (result : Result T E)
    → (fits → taken → (reveals × inner_taken) × inner_fits) → HasCause old.faults new.faults result → IsSure (reveals × inner_taken) inner_fits old new result
    → OnOk result (KeepsTaking (mirror_state reveals old k) (mirror_state reveals new k)) → IsSure taken fits (mirror_state reveals old k) (mirror_state reveals new k) result
shown_sure reveals taken fits inner_taken inner_fits old new k (Ok v) hands cause sure goes = record {
  sure = λ is fit. let both = hands fit is in (refl, ap (λ (n : ℕ). added n k.own) (sure.sure both.0 both.1).1);
  beneath = λ is. tt;
  goes = goes;
}
shown_sure reveals taken fits inner_taken inner_fits old new k (Err e) hands cause sure goes = record {
  sure = λ is fit. let both = hands fit is in ((sure.sure both.0 both.1).0, ap (λ (n : ℕ). added n k.own) (sure.sure both.0 both.1).1);
  beneath = λ is. cause.rose;
  goes = tt;
}

-- a call that is refused was not taken
pub refused_sure : {T E : Type 0} (reveals taken fits : Type 0) (s : State) (k l : Kept) (result : Result T E) → IsErr result → (taken → ⊥) → IsSure taken fits (mirror_state reveals s k) (mirror_state reveals s l) result
refused_sure reveals taken fits s k l (Ok v) failed not = absurd (cc)
refused_sure reveals taken fits s k l (Err e) failed not = record { sure = λ is. absurd (not is); beneath = λ is. absurd (not is); goes = tt }

alive_of : (dead : Bool) → (dead ≡ true → ⊥) → dead ≡ false
alive_of true not = absurd (not refl)
alive_of false not = refl

-- a call that is not refused: it is of no copy, and after the kept text
pub record IsAfter (file at : ℕ) (dead on : Bool) (end : ℕ) : Type 0 where
  pub alive : dead ≡ false
  pub near : file ≤ 64
  pub after : on ≡ true → file ≡ 0 → end ≤ at

pub not_refused_write : (file at : ℕ) (dead on : Bool) (end : ℕ) (r : Bool) → r ≡ false → (IsTrue r ↔ ((64 < file) ⊎ ((dead ≡ true) ⊎ ((on ≡ true) × ((file ≡ 0) × (at < end)))))) → IsAfter file at dead on end
not_refused_write file at dead on end r is refused =
    let never : (64 < file) ⊎ ((dead ≡ true) ⊎ ((on ≡ true) × ((file ≡ 0) × (at < end)))) → ⊥ = λ why. let yes : r ≡ true = refused.1 why in absurd (cc) in
    record {
      alive = alive_of dead (λ is. never (inr (inl is)));
      near = ⊎_elim (λ (far : 64 < file). absurd (never (inl far))) (λ (near : file ≤ 64). near) (cases_lt 64 file);
      after = λ yes zero. ⊎_elim (λ (before : at < end). absurd (never (inr (inr (yes, (zero, before)))))) (λ (after : end ≤ at). after) (cases_lt at end);
    }

pub not_refused_cut : (file len : ℕ) (dead on : Bool) (end : ℕ) (r : Bool) → r ≡ false → (IsTrue r ↔ ((64 < file) ⊎ ((dead ≡ true) ⊎ ((on ≡ true) × ((file ≡ 0) × (len ≤ end)))))) → IsAfter file len dead on (end + 1)
not_refused_cut file len dead on end r is refused =
    let never : (64 < file) ⊎ ((dead ≡ true) ⊎ ((on ≡ true) × ((file ≡ 0) × (len ≤ end)))) → ⊥ = λ why. let yes : r ≡ true = refused.1 why in absurd (cc) in
    record {
      alive = alive_of dead (λ is. never (inr (inl is)));
      near = ⊎_elim (λ (far : 64 < file). absurd (never (inl far))) (λ (near : file ≤ 64). near) (cases_lt 64 file);
      after = λ yes zero. ⊎_elim (λ (after : end < len). omega (arith, after)) (λ (before : len ≤ end). absurd (never (inr (inr (yes, (zero, before)))))) (cases_lt end len);
    }

pub refused_write : (reveals : Type 0) (file at n : ℕ) (s t : State) (k l : Kept) → t ≡ s → Follows (ChangesFile file (Torn at n)) (mirror_state reveals s k) (mirror_state reveals t l)
refused_write reveals file at n s t k l is =
    subst (λ (u : State). Follows (ChangesFile file (Torn at n)) (mirror_state reveals s k) (mirror_state reveals u l)) (sym is)
    (refused_follows reveals (ChangesFile file (Torn at n)) s k l (λ d. changes_none file (Torn at n) d (torn_none at n (d file))))

pub refused_cut : (reveals : Type 0) (file len : ℕ) (s t : State) (k l : Kept) → t ≡ s → Follows (ChangesFile file (MayBeCut len)) (mirror_state reveals s k) (mirror_state reveals t l)
refused_cut reveals file len s t k l is =
    subst (λ (u : State). Follows (ChangesFile file (MayBeCut len)) (mirror_state reveals s k) (mirror_state reveals u l)) (sym is)
    (refused_follows reveals (ChangesFile file (MayBeCut len)) s k l (λ d. changes_none file (MayBeCut len) d (inl refl)))

-- a write that is refused was not taken
pub refused_write_sure : {T E : Type 0} (reveals : Type 0) (file at : ℕ) (fits : Type 0) (s t : State) (k l : Kept) (result : Result T E) → IsErr result → t ≡ s
    → (64 < file) ⊎ ((k.dead ≡ true) ⊎ ((k.on ≡ true) × ((file ≡ 0) × (at < k.end)))) → IsSure (reveals × TakesFrom (mirror_state reveals s k) file at) fits (mirror_state reveals s k) (mirror_state reveals t l) result
refused_write_sure reveals file at fits s t k l result failed is why =
    subst (λ (u : State). IsSure (reveals × TakesFrom (mirror_state reveals s k) file at) fits (mirror_state reveals s k) (mirror_state reveals u l) result) (sym is)
    (refused_sure reveals (reveals × TakesFrom (mirror_state reveals s k) file at) fits s k l result failed
    (λ takes.
    ⊎_elim (λ (far : 64 < file). let near = takes.1.near in absurd (omega (arith, far, near)))
    (λ (rest : (k.dead ≡ true) ⊎ ((k.on ≡ true) × ((file ≡ 0) × (at < k.end)))).
    ⊎_elim (λ (dead : k.dead ≡ true). let alive = takes.1.sound.alive in absurd (cc))
    (λ (before : (k.on ≡ true) × ((file ≡ 0) × (at < k.end))).
    let zero = before.1.0 in
    let here : Takes reveals s k 0 (s.files 0) at = subst (λ (f : ℕ). Takes reveals s k f (s.files 0) at) zero takes.1 in
    let after = taken_after reveals s k at here before.0 in
    let less = before.1.1 in
    absurd (omega (arith, after, less)))
    rest) why))

-- a write that is handed on
pub written_sure : {T E : Type 0} (reveals : Type 0) (file at : ℕ) (bytes : List ℕ) (s t : State) (k : Kept) (result : Result T E) → IsAfter file at k.dead k.on k.end → (s.free → TakesFrom s file at)
    → HasCause s.faults t.faults result → IsSure (reveals × TakesFrom s file at) (s.room file (at + length bytes)) s t result → OnOk result (reveals → ChangesFile file (Holds at bytes) s.files t.files)
    → IsSure (reveals × TakesFrom (mirror_state reveals s k) file at) ((mirror_state reveals s k).room file (at + length bytes)) (mirror_state reveals s k) (mirror_state reveals t k) result
written_sure reveals file at bytes s t k result apart free cause sure written =
    shown_sure reveals (reveals × TakesFrom (mirror_state reveals s k) file at) ((mirror_state reveals s k).room file (at + length bytes)) (TakesFrom s file at) (s.room file (at + length bytes)) s t k result
    (λ fit is. ((is.0, free fit.1.0), fit.1.1)) cause sure
    (on_ok_weaker result
    (λ (wrote : reveals → ChangesFile file (Holds at bytes) s.files t.files).
    takes_stay reveals s t k (λ revealed on text.
    ⊎_elim
    (λ (zero : file ≡ 0).
    let changes : ChangesFile 0 (Holds at bytes) s.files t.files = subst (λ (f : ℕ). ChangesFile f (Holds at bytes) s.files t.files) zero (wrote revealed) in
    text_written k.end at bytes (s.files 0) (t.files 0) (apart.after on zero) text changes.here)
    (λ (other : file ≢ 0). subst (HoldsText k.end) (sym ((wrote revealed).others 0 (λ is. other (sym is)))) text)
    (cases_eq file 0))) written)

-- a cut that is handed on
pub cut_sure : {T E : Type 0} (reveals : Type 0) (file len : ℕ) (s t : State) (k : Kept) (result : Result T E) → IsAfter file len k.dead k.on (k.end + 1) → (s.free → TakesFrom s file 0)
    → HasCause s.faults t.faults result → IsSure (reveals × TakesFrom s file 0) (s.room file 0) s t result → OnOk result (reveals → ChangesFile file (IsCut len) s.files t.files)
    → IsSure (reveals × TakesFrom (mirror_state reveals s k) file 0) ((mirror_state reveals s k).room file 0) (mirror_state reveals s k) (mirror_state reveals t k) result
cut_sure reveals file len s t k result apart free cause sure cut =
    shown_sure reveals (reveals × TakesFrom (mirror_state reveals s k) file 0) ((mirror_state reveals s k).room file 0) (TakesFrom s file 0) (s.room file 0) s t k result
    (λ fit is. ((is.0, free fit.1.0), fit.1.1)) cause sure
    (on_ok_weaker result
    (λ (done : reveals → ChangesFile file (IsCut len) s.files t.files).
    takes_stay reveals s t k (λ revealed on text.
    ⊎_elim
    (λ (zero : file ≡ 0).
    let changes : ChangesFile 0 (IsCut len) s.files t.files = subst (λ (f : ℕ). ChangesFile f (IsCut len) s.files t.files) zero (done revealed) in
    let after = apart.after on zero in
    text_cut k.end len (s.files 0) (t.files 0) (omega (arith, after)) text changes.here)
    (λ (other : file ≢ 0). subst (HoldsText k.end) (sym ((done revealed).others 0 (λ is. other (sym is)))) text)
    (cases_eq file 0))) cut)
