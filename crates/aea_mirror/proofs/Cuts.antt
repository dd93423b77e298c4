-- What a Mirror shows after a change of a site, and after a cut of the ledger.
use Rattle.std.proofs.Common.{◌≡◌, ◌≢◌, ⊎_elim, inl, inr, ℕ, zero, suc, ◌+◌, ◌-◌, ◌<◌, ◌≤◌, List, [], ◌∷◌, ◌++◌, length, take, drop, get_or, refl, sym, ap, ◌∙◌, subst, arith}
use Rattle.std.proofs.lemmas.Bool.{cases_eq, cases_lt}
use Rattle.std.proofs.lemmas.List.{length-take, take-take, drop-take, get_or-take}
use Rattle.aea_disk.specs.Files.{Files, ChangesFile, MayBeCut}
use Rattle.aea_records.specs.Format.{open_gate}
use Rattle.aea_copies.specs.Format.{text_of}
use Rattle.aea_copies.specs.Kept.{IsCopyFile, IsGood, mended}
use Rattle.aea_mirror.specs.Shown.{Shows}
use Rattle.aea_mirror.proofs.Keeping.{shown_with, shown_sites, shown_copies}
use Rattle.aea_mirror.proofs.Showing.{mended_closed, mended_open, as_is, as_mended, shown_others}

-- the other files of what is shown, where the ledger that is shown stays
with_ledger : (file : ℕ) (old new c : Files) → 1 ≤ file → ((f : ℕ) → f ≢ file → new f ≡ old f) → Shows new c → (f : ℕ) → f ≢ file → c f ≡ shown_with (c 0) old f
with_ledger file old new c some others shows zero other = refl
with_ledger file old new c some others shows (suc f) other =
    ⊎_elim
    (λ (near : suc f < 65). shows.sites (suc f) (omega arith) (omega (arith, near)) ∙ others (suc f) other ∙ sym (shown_sites (c 0) old (suc f) (omega arith) (omega (arith, near))))
    (λ (far : 65 ≤ suc f). shows.copies (suc f) far ∙ sym (shown_copies (c 0) old (suc f) far))
    (cases_lt (suc f) 65)

-- After a change of a site all that is shown comes from what was shown before.
pub sites_are_shown : (file : ℕ) (step : List ℕ → List ℕ → Type 0) (old new c : Files) → 1 ≤ file → file ≤ 64 → ChangesFile file step old new → Shows new c
    → (before : Files) × Shows old before × ChangesFile file step before c
sites_are_shown file step old new c some near changes shows =
    let zero_stays : new 0 ≡ old 0 = changes.others 0 (λ is. omega (arith, is, some)) in (
      shown_with (c 0) old,
      record {
        sites = shown_sites (c 0) old;
        copies = shown_copies (c 0) old;
        ledger =
            ⊎_elim
            (λ (same : c 0 ≡ new 0). inl (same ∙ zero_stays))
            (λ (kept : (f : ℕ) × (pieces : List (List ℕ)) × IsCopyFile f × IsGood pieces (new f) × (c 0 ≡ mended (text_of pieces) (new 0))).
            inr (kept.0, kept.1, kept.2, subst (IsGood kept.1) (changes.others kept.0 (apart kept.0 kept.2)) kept.3, kept.4 ∙ ap (mended (text_of kept.1)) zero_stays))
            shows.ledger;
      },
      record {
        here = subst (λ (l : List ℕ). step l (c file)) (sym (shown_sites (c 0) old file some near)) (subst (step (old file)) (sym (shows.sites file some near)) changes.here);
        others = with_ledger file old new c some changes.others shows;
      },
    )
  where
    apart : (f : ℕ) → IsCopyFile f → f ≢ file
    apart f is e = ⊎_elim (λ a. omega (arith, a, e, near)) (λ b. omega (arith, b, e, near)) is

-- a cut past a text and a byte cuts what follows these
cut_after : (text rest : List ℕ) (len : ℕ) → length text < len → take len (text ++ 0 ∷ rest) ≡ text ++ 0 ∷ take (len - (length text + 1)) rest
cut_after [] rest zero long = absurd (omega (arith, long))
cut_after [] rest (suc len) long = ap (λ (n : ℕ). 0 ∷ take n rest) (omega arith)
cut_after (t ∷ text) rest zero long = absurd (omega (arith, long))
cut_after (t ∷ text) rest (suc len) long = ap (λ (l : List ℕ). t ∷ l) (cut_after text rest len (omega (arith, long)) ∙ ap (λ (n : ℕ). text ++ 0 ∷ take n rest) (omega arith))

-- Where the ledger is cut past the texts of the copies, or not yet, all that is shown comes from what was shown before.
pub cuts_are_shown : (len : ℕ) (old new c : Files)
    → ((f : ℕ) (pieces : List (List ℕ)) → IsCopyFile f → IsGood pieces (old f) → (length (text_of pieces) < length (old 0)) × (take (length (text_of pieces)) (old 0) ≡ text_of pieces) × (length (text_of pieces) < len))
    → ChangesFile 0 (MayBeCut len) old new → Shows new c
    → (before : Files) × Shows old before × ChangesFile 0 (MayBeCut len) before c
cuts_are_shown len old new c stands changes shows =
    ⊎_elim
    (λ (same : c 0 ≡ new 0). plain (⊎_elim (λ (stays : new 0 ≡ old 0). inl (same ∙ stays)) (λ (cut : new 0 ≡ take len (old 0)). inr (same ∙ cut)) changes.here))
    (λ (kept : (f : ℕ) × (pieces : List (List ℕ)) × IsCopyFile f × IsGood pieces (new f) × (c 0 ≡ mended (text_of pieces) (new 0))).
    let f = kept.0 in
    let text = text_of kept.1 in
    let good : IsGood kept.1 (old f) = subst (IsGood kept.1) (changes.others f (elsewhere f kept.2)) kept.3 in
    let first = as_mended old f kept.1 kept.2 good in
    let was = stands f kept.1 kept.2 good in
    ⊎_elim
    (λ (stays : new 0 ≡ old 0). (
      shown_with (mended text (old 0)) old,
      first,
      record {
        here = inl (kept.4 ∙ ap (mended text) stays);
        others = shown_others old new (shown_with (mended text (old 0)) old) c changes.others first shows;
      },
    ))
    (λ (cut : new 0 ≡ take len (old 0)).
    let long : length text < length (new 0) = omega (arith, ap length cut, length-take len (old 0), was.0, was.2) in
    let front : take (length text) (new 0) ≡ text = ap (take (length text)) cut ∙ take-take (length text) len (old 0) (omega (arith, was.2)) ∙ was.1 in
    let gate : get_or (new 0) (length text) 0 ≡ get_or (old 0) (length text) 0 =
    ap (λ (l : List ℕ). get_or l (length text) 0) cut ∙ get_or-take len (old 0) (length text) 0 (omega (arith, was.2)) in
    ⊎_elim
    (λ (opened : get_or (new 0) (length text) 0 ≡ open_gate).
    let rest = drop (length text + 1) (old 0) in
    let shut : mended text (old 0) ≡ text ++ (0 ∷ rest) = mended_open text (old 0) was.0 was.1 (sym gate ∙ opened) in
    let less : drop (length text + 1) (new 0) ≡ take (len - (length text + 1)) rest =
    ap (drop (length text + 1)) (cut ∙ ap (λ (n : ℕ). take n (old 0)) (omega (arith, was.2))) ∙ drop-take (length text + 1) (len - (length text + 1)) (old 0) in (
      shown_with (mended text (old 0)) old,
      first,
      record {
        here = inr (kept.4 ∙ mended_open text (new 0) long front opened ∙ ap (λ (l : List ℕ). text ++ (0 ∷ l)) less ∙ sym (cut_after text rest len (omega (arith, was.2))) ∙ ap (take len) (sym shut));
        others = shown_others old new (shown_with (mended text (old 0)) old) c changes.others first shows;
      },
    ))
    (λ (closed : get_or (new 0) (length text) 0 ≢ open_gate). plain (inr (kept.4 ∙ mended_closed text (new 0) long front closed ∙ cut)))
    (cases_eq (get_or (new 0) (length text) 0) open_gate))
    changes.here)
    shows.ledger
  where
    plain : MayBeCut len (old 0) (c 0) → (before : Files) × Shows old before × ChangesFile 0 (MayBeCut len) before c
    plain may = (shown_with (old 0) old, as_is old, record { here = may; others = shown_others old new (shown_with (old 0) old) c changes.others (as_is old) shows })

    elsewhere : (f : ℕ) → IsCopyFile f → f ≢ 0
    elsewhere f is e = ⊎_elim (λ a. omega (arith, a, e)) (λ b. omega (arith, b, e)) is
