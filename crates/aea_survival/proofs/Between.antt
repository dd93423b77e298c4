-- What comes between a stop and the next run that goes on.
use Rattle.std.proofs.Common.{◌≡◌, ◌⊎◌, inl, inr, ⊎_elim, ℕ, ◌<◌, ◌≤◌, true, List, [], ◌∷◌, length, refl, sym, ◌∙◌, ap, subst, arith}
use Rattle.std.proofs.lemmas.Bool.{cases_lt}
use Rattle.aea_disk.specs.Files.{Files}
use Rattle.aea_records.specs.Laws.{RecordsAreShort}
use Rattle.aea_copies.specs.Format.{copied, text_of, whole_copy}
use Rattle.aea_copies.specs.Grammar.{IsBegun}
use Rattle.aea_copies.specs.Kept.{IsCopyFile, IsGood, AreOn, AreKept, HasText, mended}
use Rattle.aea_copies.proofs.Agreeing.{kinds_of}
use Rattle.aea_copies.proofs.Judged.{has_one_pieces}
use Rattle.aea_ledger.specs.Stops.{HasLedger}
use Rattle.aea_adopt.specs.Adopting.{MayBeAdopted}
use Rattle.aea_adopt.proofs.Answered.{good_on}
use Rattle.aea_adopt.proofs.Keeping.{whole_good}
use Rattle.aea_mirror.specs.Mirrored.{outer}
use Rattle.aea_mirror.specs.Shown.{IsDamaged}
use Rattle.aea_mirror.specs.States.{outer_near, outer_far, shows_outer}
use Rattle.aea_mirror.proofs.Guards.{good_begun}
use Rattle.aea_mirror.proofs.Keeping.{mended_ends, shown_with, shown_sites, shown_copies}
use Rattle.aea_mirror.proofs.Losing.{same_ledger}
use Rattle.aea_stops.specs.GoingOn.{IsFoundOf}
use Rattle.aea_survival.specs.Surviving.{MayFollow, AreBetween, ShownIsFound}

-- each good copy has pieces that a good copy had before, and the sites are as they were
record Yields (old new : Files) : Type 0 where
  pub good : (f : ℕ) (pieces : List (List ℕ)) → IsCopyFile f → IsGood pieces (new f) → (g : ℕ) × IsCopyFile g × IsGood pieces (old g)
  pub sites : (f : ℕ) → 1 ≤ f → f ≤ 64 → new f ≡ old f

pub which : (s o f : ℕ) → ((s ≡ 65) × (o ≡ 66)) ⊎ ((s ≡ 66) × (o ≡ 65)) → IsCopyFile f → (f ≡ s) ⊎ (f ≡ o)
which s o f are is =
    ⊎_elim
    (λ first. ⊎_elim (λ a. inl (first ∙ sym a.0)) (λ b. inr (first ∙ sym b.1)) are)
    (λ second. ⊎_elim (λ a. inr (second ∙ sym a.1)) (λ b. inl (second ∙ sym b.0)) are)
    is

yields_damaged : (old new : Files) → IsDamaged old new → Yields old new
yields_damaged old new damaged = record {
  good = λ f pieces copy good. ⊎_elim
      (λ (here : f ≡ damaged.stays). (f, copy, subst (IsGood pieces) (ap new here ∙ damaged.same ∙ ap old (sym here)) good))
      (λ (there : f ≡ damaged.other). ⊎_elim
      (λ (same : new damaged.other ≡ old damaged.other). (f, copy, subst (IsGood pieces) (ap new there ∙ same ∙ ap old (sym there)) good))
      (λ (none : (some : List (List ℕ)) → IsGood some (new damaged.other) → ⊥). absurd (none pieces (subst (λ (n : ℕ). IsGood pieces (new n)) there good)))
      damaged.lost)
      (which damaged.stays damaged.other f damaged.are copy);
  sites = damaged.sites;
}

yields_adopted : (old new : Files) (kept : List (List ℕ)) → AreKept old kept → MayBeAdopted old new → Yields old new
yields_adopted old new kept are may = record {
  good = λ f pieces copy good. ⊎_elim
      (λ (same : new f ≡ old f). (f, copy, subst (IsGood pieces) same good))
      (λ (rest : (IsBegun (new f) → ⊥) ⊎ (new f ≡ whole_copy kept)). ⊎_elim
      (λ (none : IsBegun (new f) → ⊥). absurd (none (good_begun pieces (new f) good)))
      (λ (whole : new f ≡ whole_copy kept).
      let same : pieces ≡ kept = (has_one_pieces (whole_copy kept) pieces kept (length (copied pieces)) (length (copied kept)) (subst (IsGood pieces) whole good) (whole_good kept (old are.file) are.good)).0 in
      (are.file, are.is, subst (λ (p : List (List ℕ)). IsGood p (old are.file)) (sym same) are.good))
      rest)
      (may.copies kept are f copy);
  sites = may.sites;
}

yields_same : (old new : Files) → ((f : ℕ) → new f ≡ old f) → Yields old new
yields_same old new same = record { good = λ f pieces copy good. (f, copy, subst (IsGood pieces) (same f) good); sites = λ f from to. same f }

yields_step : (old new : Files) → MayFollow old new → Yields old new
yields_step old new (inl damaged) = yields_damaged old new damaged
yields_step old new (inr (inl adopted)) = yields_adopted old new adopted.0 adopted.1 adopted.2
yields_step old new (inr (inr same)) = yields_same old new same

yields_both : (old mid new : Files) → Yields old mid → Yields mid new → Yields old new
yields_both old mid new first second = record {
  good = λ f pieces copy good. let was = second.good f pieces copy good in first.good was.0 pieces was.1 was.2;
  sites = λ f from to. second.sites f from to ∙ first.sites f from to;
}

yields : (files left : Files) (between : List Files) → AreBetween files between left → Yields files left
yields files left [] same = yields_same files left same
yields files left (next ∷ rest) are = yields_both files next left (yields_step files next are.0) (yields next left rest are.1)

-- ---- a copy is good

abbrev HasGood : Files → Type 0
HasGood files = (f : ℕ) × (pieces : List (List ℕ)) × IsCopyFile f × IsGood pieces (files f)

pub stays_copy : (s o : ℕ) → ((s ≡ 65) × (o ≡ 66)) ⊎ ((s ≡ 66) × (o ≡ 65)) → IsCopyFile s
stays_copy s o are = ⊎_elim (λ a. inl a.0) (λ b. inr b.0) are

good_damaged : (old new : Files) → IsDamaged old new → HasGood new
good_damaged old new damaged = (damaged.stays, damaged.pieces, stays_copy damaged.stays damaged.other damaged.are, subst (IsGood damaged.pieces) (sym damaged.same) damaged.good)

good_step : (old new : Files) → MayFollow old new → HasGood old → HasGood new
good_step old new (inl damaged) good = good_damaged old new damaged
good_step old new (inr (inl adopted)) good = let some = adopted.2.good adopted.0 adopted.1 in (some.0, adopted.0, some.1, some.2)
good_step old new (inr (inr same)) good = (good.0, good.1, good.2, subst (IsGood good.1) (sym (same good.0)) good.3)

good_all : (files left : Files) (between : List Files) → AreBetween files between left → HasGood files → HasGood left
good_all files left [] same good = good_step files left (inr (inr same)) good
good_all files left (next ∷ rest) are good = good_all next left rest are.1 (good_step files next are.0 good)

-- where no copy is begun at the end nothing came between
none_between : (files left : Files) (between : List Files) → AreBetween files between left → (AreOn left → ⊥) → (f : ℕ) → left f ≡ files f
none_between files left [] same off f = same f
none_between files left (next ∷ rest) (inl damaged, are) off f =
    let good = good_all next left rest are (good_damaged files next damaged) in absurd (off (good_on left good.0 good.1 good.2 good.3))
none_between files left (next ∷ rest) (inr (inl adopted), are) off f =
    let some = adopted.2.good adopted.0 adopted.1 in
    let good = good_all next left rest are (some.0, adopted.0, some.1, some.2) in
    absurd (off (good_on left good.0 good.1 good.2 good.3))
none_between files left (next ∷ rest) (inr (inr same), are) off f = none_between next left rest are off f ∙ same f

-- ---- what is found

shown_same : (files new : Files) → ((f : ℕ) → f ≤ 64 → new f ≡ files f) → IsFoundOf (outer files) (outer new)
shown_same files new same = record {
  others = λ f some. ⊎_elim
      (λ (far : 64 < f). outer_far new f far ∙ sym (outer_far files f far))
      (λ (near : f ≤ 64). outer_near new f near ∙ same f near ∙ sym (outer_near files f near))
      (cases_lt 64 f);
  ledger = λ shape records ledger. subst (HasLedger shape records) (sym (same 0 (omega arith))) ledger;
}

pub found : RecordsAreShort → ShownIsFound
found short files left new between are (inl off) leaves =
    (outer files, shows_outer files, shown_same files new (λ f near. leaves.off off f ∙ none_between files left between are off f))
found short files left new between are (inr kept) leaves =
    let pieces = kept.0 in
    let from = yields files left between are in
    let was = from.good kept.1.file pieces kept.1.is kept.1.good in
    let ledger = mended (text_of pieces) (files 0) in
    let shown = shown_with ledger files in (
      shown,
      record {
        sites = shown_sites ledger files;
        copies = shown_copies ledger files;
        ledger = inr (was.0, pieces, was.1, was.2, refl);
      },
      record {
        others = λ f some. ⊎_elim
            (λ (far : 64 < f). outer_far new f far ∙ sym (shown_copies ledger files f (omega (arith, far))))
            (λ (near : f ≤ 64).
            let first : 1 ≤ f = omega (arith, some) in
            outer_near new f near ∙ leaves.others f first near ∙ from.sites f first near ∙ sym (shown_sites ledger files f first near))
            (cases_lt 64 f);
        ledger = λ shape records has.
            same_ledger shape records pieces (shown 0) (new 0) (kinds_of true pieces kept.1.good.valid) (short shape records has.valid).each
            (mended_ends (text_of pieces) (files 0)) (subst (HasText (text_of pieces)) (sym (leaves.ledger pieces kept.1)) (mended_ends (text_of pieces) (left 0))) has;
      },
    )
