-- What a Mirror shows over a sync in which copies are extended.
use Rattle.std.proofs.Common.{◌≡◌, ◌≢◌, ⊎_elim, inl, inr, ℕ, ◌<◌, ◌≤◌, List, length, take, get_or, refl, sym, ap, ◌∙◌, subst, arith}
use Rattle.std.proofs.lemmas.Bool.{cases_eq, cases_lt}
use Rattle.aea_disk.specs.Files.{Files}
use Rattle.aea_disk.specs.State.{State, Passes, During, KeepsImages, Settles, IsSynced}
use Rattle.aea_copies.specs.Format.{copied, text_of}
use Rattle.aea_copies.specs.Kept.{IsCopyFile, IsGood, mended}
use Rattle.aea_mirror.specs.Extending.{IsShut, IsGateOf, Phase}
use Rattle.aea_mirror.specs.Shown.{Shows}
use Rattle.aea_mirror.specs.Mirrored.{Kept, mirror_state, outer}
use Rattle.aea_mirror.specs.States.{outer_near, outer_far}
use Rattle.aea_mirror.proofs.Extending.{gate_of, good_closed}

-- What is known of good copies in the images of a phase: the gates are closed where it begins, and both copies are the same
-- before them; a good copy whose text is the kept one ends at its gate, and one with another text has that of all the ledger.
pub record Known (end first second : ℕ) (s n : State) : Type 0 where
  pub gates : (f g : ℕ) → IsGateOf first second f g → IsShut g (s.files f)
  pub alike : (f g h o : ℕ) → IsGateOf first second f g → IsGateOf first second h o → (g ≡ o) × (take g (s.files f) ≡ take o (s.files h))
  pub old : During s n (λ d. (f g : ℕ) (pieces : List (List ℕ)) → IsGateOf first second f g → IsGood pieces (d f) → length (text_of pieces) ≡ end → length (copied pieces) ≡ g)
  pub other : During s n (λ d. (f g : ℕ) (pieces : List (List ℕ)) → IsGateOf first second f g → IsGood pieces (d f) → length (text_of pieces) ≢ end → mended (text_of pieces) (s.files 0) ≡ s.files 0)

copy_of : (first second f g : ℕ) → IsGateOf first second f g → IsCopyFile f
copy_of first second f g of = ⊎_elim (λ (a : (f ≡ 65) × (g ≡ first)). inl a.0) (λ (b : (f ≡ 66) × (g ≡ second)). inr b.0) of

gate_for : (first second f : ℕ) → IsCopyFile f → (g : ℕ) × IsGateOf first second f g
gate_for first second f is = ⊎_elim (λ (a : f ≡ 65). (first, inl (a, refl))) (λ (b : f ≡ 66). (second, inr (b, refl))) is

-- what is shown of an image is shown of other files with the same ledger and sites, where its ledger is as it is
pub shows_as_is : (d e c : Files) → ((f : ℕ) → f ≤ 64 → d f ≡ e f) → Shows d c → c 0 ≡ d 0 → Shows e c
shows_as_is d e c same shows is = record {
  sites = λ f some near. shows.sites f some near ∙ same f near;
  copies = shows.copies;
  ledger = inl (is ∙ same 0 (omega arith));
}

-- or where a copy of these keeps the same text
shows_kept : (d e c : Files) (h : ℕ) (pieces : List (List ℕ)) → ((f : ℕ) → f ≤ 64 → d f ≡ e f) → Shows d c → c 0 ≡ mended (text_of pieces) (d 0) → IsCopyFile h → IsGood pieces (e h) → Shows e c
shows_kept d e c h pieces same shows is copy good = record {
  sites = λ f some near. shows.sites f some near ∙ same f near;
  copies = shows.copies;
  ledger = inr (h, pieces, copy, good, is ∙ ap (mended (text_of pieces)) (same 0 (omega arith)));
}

module _ (end first second : ℕ) (s n : State) (phase : Phase first second s n) (known : Known end first second s n) where
  -- what is shown of an image of the phase is shown of the files at its beginning
  pub shown_before : (t : ℕ) (d c : Files) → s.moment ≤ t → t ≤ n.moment → n.image t d → Shows d c → Shows s.files c
  shown_before t d c from to image shows =
      ⊎_elim
      (λ (is : c 0 ≡ d 0). shows_as_is d s.files c same shows is)
      (λ (kept : (f : ℕ) × (pieces : List (List ℕ)) × IsCopyFile f × IsGood pieces (d f) × (c 0 ≡ mended (text_of pieces) (d 0))).
      let f = kept.0 in
      let pieces = kept.1 in
      let gate = gate_for first second f kept.2 in
      ⊎_elim
      (λ (here : length (text_of pieces) ≡ end).
      let ends : length (copied pieces) ≡ gate.0 = known.old t d from to image f gate.0 pieces gate.1 kept.3 here in
      let shut = known.gates f gate.0 gate.1 in
      let front = (phase.fronts t d from to image f gate.0 gate.1).0 in
      shows_kept d s.files c f pieces same shows kept.4 kept.2
      (good_closed pieces (d f) (s.files f) kept.3 (subst (λ (g : ℕ). take g (s.files f) ≡ take g (d f)) (sym ends) (sym front))
      (omega (arith, ends, shut.there)) (λ is. shut.shut (ap (λ (g : ℕ). get_or (s.files f) g 0) (sym ends) ∙ is))))
      (λ (elsewhere : length (text_of pieces) ≢ end).
      shows_as_is d s.files c same shows
      (kept.4 ∙ ap (mended (text_of pieces)) (same 0 (omega arith)) ∙ known.other t d from to image f gate.0 pieces gate.1 kept.3 elsewhere ∙ sym (same 0 (omega arith))))
      (cases_eq (length (text_of pieces)) end))
      shows.ledger
    where
      same : (f : ℕ) → f ≤ 64 → d f ≡ s.files f
      same = phase.same t d from to image

  -- and of some image of each earlier moment of the phase
  pub shown_earlier : (t u : ℕ) (d c : Files) → s.moment ≤ t → t ≤ u → u ≤ n.moment → n.image u d → Shows d c → (e : Files) × n.image t e × Shows e c
  shown_earlier t u d c from le to image shows =
      ⊎_elim
      (λ (is : c 0 ≡ d 0). as_is is)
      (λ (kept : (f : ℕ) × (pieces : List (List ℕ)) × IsCopyFile f × IsGood pieces (d f) × (c 0 ≡ mended (text_of pieces) (d 0))).
      let f = kept.0 in
      let pieces = kept.1 in
      let gate = gate_for first second f kept.2 in
      ⊎_elim
      (λ (here : length (text_of pieces) ≡ end).
      let ends : length (copied pieces) ≡ gate.0 = known.old u d u_from to image f gate.0 pieces gate.1 kept.3 here in
      let own = gate_of pieces (d f) kept.3 in
      let shut : IsShut gate.0 (d f) = record { there = omega (arith, own.0, ends); shut = λ is. own.1 (ap (λ (g : ℕ). get_or (d f) g 0) ends ∙ is) } in
      let found = phase.back t u d from le to image f gate.0 gate.1 shut in
      let e = found.0 in
      let h = found.2.0 in
      let o = found.2.1 in
      let of = found.2.2 in
      let e_to : t ≤ n.moment = omega (arith, le, to) in
      let alike = known.alike f gate.0 h o gate.1 of in
      let front : take o (e h) ≡ take gate.0 (d f) =
      (phase.fronts t e from e_to found.1 h o of).0 ∙ sym alike.1 ∙ sym (phase.fronts u d u_from to image f gate.0 gate.1).0 in
      let len : length (copied pieces) ≡ o = ends ∙ alike.0 in (
        e,
        found.1,
        shows_kept d e c h pieces (λ x near. phase.same u d u_from to image x near ∙ sym (phase.same t e from e_to found.1 x near)) shows kept.4 (copy_of first second h o of)
            (good_closed pieces (d f) (e h) kept.3
            (ap (λ (g : ℕ). take g (e h)) len ∙ front ∙ ap (λ (g : ℕ). take g (d f)) (sym ends))
            (let there = found.2.3.there in omega (arith, len, there)) (λ is. found.2.3.shut (ap (λ (g : ℕ). get_or (e h) g 0) (sym len) ∙ is))),
      ))
      (λ (elsewhere : length (text_of pieces) ≢ end).
      as_is (kept.4 ∙ ap (mended (text_of pieces)) (phase.same u d u_from to image 0 (omega arith)) ∙ known.other u d u_from to image f gate.0 pieces gate.1 kept.3 elsewhere ∙ sym (phase.same u d u_from to image 0 (omega arith))))
      (cases_eq (length (text_of pieces)) end))
      shows.ledger
    where
      u_from : s.moment ≤ u
      u_from = omega (arith, from, le)

      as_is : c 0 ≡ d 0 → (e : Files) × n.image t e × Shows e c
      as_is is =
          let some = phase.earlier t u d from le to image in
          (some.0, some.1, shows_as_is d some.0 c (λ x near. phase.same u d u_from to image x near ∙ sym (phase.same t some.0 from (omega (arith, le, to)) some.1 x near)) shows is)

  -- over a sync of the lent disk and the phase after it no image is shown that was not before
  pub sync_keeps : (reveals : Type 0) (r : State) (k l : Kept) → KeepsImages r s → Passes r s → (reveals → s.files ≡ r.files) → ((t : ℕ) (c : Files) → reveals → r.image t c → r.image r.moment r.files) → KeepsImages (mirror_state reveals r k) (mirror_state reveals n l)
  sync_keeps reveals r k l crash time contents read t c from to here =
      ⊎_elim
      (λ (before : t < s.moment).
      (here.0, (here.1.0, crash t here.1.0 from (omega (arith, before)) ((phase.time.keeps t here.1.0 (omega (arith, before))).0 here.1.1), here.1.2)))
      (λ (after : s.moment ≤ t).
      let some = phase.earlier s.moment t here.1.0 (omega arith) after to here.1.1 in
      let at_s = (phase.time.keeps s.moment some.0 (omega arith)).0 some.1 in
      let at_r = crash s.moment some.0 time.later (omega arith) at_s in
      (here.0, (r.files, read r.moment some.0 here.0 at_r, subst (λ (x : Files). Shows x c) (contents here.0) (shown_before t here.1.0 c after to here.1.1 here.1.2))))
      (cases_lt t s.moment)

  -- and what is shown at a moment was shown at each earlier one after the entry
  pub sync_settles : (reveals : Type 0) (r : State) (k l : Kept) → (reveals → Settles r s) → ((t : ℕ) (c : Files) → reveals → s.image t c → s.image s.moment s.files) → Settles (mirror_state reveals r k) (mirror_state reveals n l)
  sync_settles reveals r k l settles read t u c after le to here =
      ⊎_elim
      (λ (early : u < s.moment).
      let image = settles here.0 t u here.1.0 after le (omega (arith, early)) ((phase.time.keeps u here.1.0 (omega (arith, early))).0 here.1.1) in
      (here.0, (here.1.0, (phase.time.keeps t here.1.0 (omega (arith, early, le))).1 image, here.1.2)))
      (λ (late : s.moment ≤ u).
      ⊎_elim
      (λ (before : t < s.moment).
      let some = phase.earlier s.moment u here.1.0 (omega arith) late to here.1.1 in
      let at_s = (phase.time.keeps s.moment some.0 (omega arith)).0 some.1 in
      let reads = read s.moment some.0 here.0 at_s in
      let image = settles here.0 t s.moment s.files after (omega (arith, before)) (omega arith) reads in
      (here.0, (s.files, (phase.time.keeps t s.files (omega (arith, before))).1 image, shown_before u here.1.0 c late to here.1.1 here.1.2)))
      (λ (inside : s.moment ≤ t).
      let found = shown_earlier t u here.1.0 c inside le to here.1.1 here.1.2 in
      (here.0, (found.0, found.1, found.2)))
      (cases_lt t s.moment))
      (cases_lt u s.moment)

-- where nothing is pending, and each good copy has the text of all the ledger, the files are shown as they read
pub sync_durable : (reveals : Type 0) (n : State) (l : Kept) → (reveals → IsSynced n) → (reveals → (f : ℕ) (pieces : List (List ℕ)) → IsCopyFile f → IsGood pieces (n.files f) → mended (text_of pieces) (n.files 0) ≡ n.files 0) → IsSynced (mirror_state reveals n l)
sync_durable reveals n l synced whole c here f =
    by_file f
  where
    d : Files
    d = here.1.0

    as_read : (x : ℕ) → d x ≡ n.files x
    as_read = synced here.0 d here.1.1

    zero_file : c 0 ≡ n.files 0
    zero_file =
        ⊎_elim
        (λ (is : c 0 ≡ d 0). is ∙ as_read 0)
        (λ (kept : (g : ℕ) × (pieces : List (List ℕ)) × IsCopyFile g × IsGood pieces (d g) × (c 0 ≡ mended (text_of pieces) (d 0))).
        kept.4 ∙ ap (mended (text_of kept.1)) (as_read 0) ∙ whole here.0 kept.0 kept.1 kept.2 (subst (IsGood kept.1) (as_read kept.0) kept.3))
        here.1.2.ledger

    some_file : (x : ℕ) → x ≢ 0 → 1 ≤ x
    some_file x some = ⊎_elim (λ (none : x < 1). absurd (some (omega (arith, none)))) (λ (is : 1 ≤ x). is) (cases_lt x 1)

    by_file : (x : ℕ) → c x ≡ outer n.files x
    by_file x =
        ⊎_elim
        (λ (none : x ≡ 0). ap c none ∙ zero_file ∙ sym (outer_near n.files 0 (omega arith)) ∙ ap (outer n.files) (sym none))
        (λ (some : x ≢ 0).
        ⊎_elim
        (λ (near : x < 65). here.1.2.sites x (some_file x some) (omega (arith, near)) ∙ as_read x ∙ sym (outer_near n.files x (omega (arith, near))))
        (λ (far : 65 ≤ x). here.1.2.copies x far ∙ sym (outer_far n.files x (omega (arith, far))))
        (cases_lt x 65))
        (cases_eq x 0)
