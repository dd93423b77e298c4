-- The text that is kept, whatever is lost of the ledger and of one copy.
use Rattle.std.proofs.Common.{◌≡◌, ◌⊎◌, ⊎_elim, inl, inr, ℕ, zero, suc, ◌+◌, ◌<◌, ◌≤◌, Bool, true, false, ◌&&◌, List, [], ◌∷◌, ◌++◌, length, take, drop, get_or, refl, sym, ap, ◌∙◌, subst, arith}
use Rattle.std.specs.Prelude.{nat_lt, ◌==◌, if◌then◌else◌}
use Rattle.std.specs.Str.{bytes_eq}
use Rattle.std.proofs.lemmas.Bool.{and_parts, ltb-true, eqb-false, lt-ltb, le-ltb}
use Rattle.std.proofs.lemmas.Slice.Eq.{bytes_eq-Decides}
use Rattle.std.proofs.lemmas.List.{take-append-drop, drop_more}
use Rattle.aea_disk.specs.Files.{Files}
use Rattle.aea_records.specs.Format.{open_gate}
use Rattle.aea_copies.specs.Format.{text_of}
use Rattle.aea_copies.specs.Kept.{IsCopyFile, IsGood, AreKept, mended, HasText}
use Rattle.aea_mirror.specs.Shown.{IsDamaged, KeepsTexts}

-- the ledger that is made has the text, and ends there
pub mended_ends : (text ledger : List ℕ) → HasText text (mended text ledger)
mended_ends text ledger = outer (nat_lt (length text) (length ledger) && bytes_eq (take (length text) ledger) text) refl
  where
    gate_at : ℕ
    gate_at = get_or ledger (length text) 0

    inner : (g : Bool) → (gate_at == open_gate) ≡ g → length text < length ledger → take (length text) ledger ≡ text
        → HasText text (if g then text ++ (0 ∷ drop (length text + 1) ledger) else ledger)
    inner true open_ long same = record { gate = 0; closed = λ e. omega (arith, e); after = drop (length text + 1) ledger; spelling = refl }
    inner false shut long same = record {
      gate = gate_at;
      closed = eqb-false gate_at open_gate shut;
      after = drop (length text + 1) ledger;
      spelling =
          sym (take-append-drop (length text) ledger) ∙ ap (λ (l : List ℕ). l ++ drop (length text) ledger) same
          ∙ ap (λ (l : List ℕ). text ++ l) (drop_more ledger (length text) 0 long);
    }

    outer : (b : Bool) → (nat_lt (length text) (length ledger) && bytes_eq (take (length text) ledger) text) ≡ b
        → HasText text (if b then (if gate_at == open_gate then text ++ (0 ∷ drop (length text + 1) ledger) else ledger) else text ++ 0 ∷ [])
    outer true e =
        let parts = and_parts (nat_lt (length text) (length ledger)) (bytes_eq (take (length text) ledger) text) e in
        inner (gate_at == open_gate) refl (ltb-true (length text) (length ledger) parts.0) ((bytes_eq-Decides (take (length text) ledger) text).0 parts.1)
    outer false e = record { gate = 0; closed = λ e. omega (arith, e); after = []; spelling = refl }

-- the files with this ledger and without copies
abbrev pub shown_with : List ℕ → Files → Files
shown_with ledger files zero = ledger
shown_with ledger files (suc f) = if nat_lt f 64 then files (suc f) else []

pub shown_sites : (ledger : List ℕ) (files : Files) (f : ℕ) → 1 ≤ f → f ≤ 64 → shown_with ledger files f ≡ files f
shown_sites ledger files zero some few = absurd (omega (arith, some))
shown_sites ledger files (suc f) some few = rw (lt-ltb f 64 (omega (arith, few))) refl

pub shown_copies : (ledger : List ℕ) (files : Files) (f : ℕ) → 65 ≤ f → shown_with ledger files f ≡ []
shown_copies ledger files zero far = absurd (omega (arith, far))
shown_copies ledger files (suc f) far = rw (le-ltb f 64 (omega (arith, far))) refl

which : (s o f : ℕ) → ((s ≡ 65) × (o ≡ 66)) ⊎ ((s ≡ 66) × (o ≡ 65)) → IsCopyFile f → (f ≡ s) ⊎ (f ≡ o)
which s o f are is =
    ⊎_elim
    (λ first. ⊎_elim (λ a. inl (first ∙ sym a.0)) (λ b. inr (first ∙ sym b.1)) are)
    (λ second. ⊎_elim (λ a. inr (second ∙ sym a.1)) (λ b. inl (second ∙ sym b.0)) are)
    is

-- the file of the two that has a kept copy was good before the damage
stood : (files left : Files) (pieces : List (List ℕ)) → IsDamaged files left → AreKept left pieces → (f : ℕ) × IsCopyFile f × IsGood pieces (files f)
stood files left pieces damaged kept =
    ⊎_elim
    (λ here. (kept.file, kept.is, subst (IsGood pieces) (ap left here ∙ damaged.same ∙ ap files (sym here)) kept.good))
    (λ there. ⊎_elim
    (λ same. (kept.file, kept.is, subst (IsGood pieces) (ap left there ∙ same ∙ ap files (sym there)) kept.good))
    (λ none. absurd (none pieces (subst (λ (f : ℕ). IsGood pieces (left f)) there kept.good)))
    damaged.lost)
    (which damaged.stays damaged.other kept.file damaged.are kept.is)

pub keeps_texts : KeepsTexts
keeps_texts files left new pieces damaged adopted kept =
    let stands = stood files left pieces damaged kept in
    let ledger = mended (text_of pieces) (files 0) in (
      shown_with ledger files,
      record {
        sites = shown_sites ledger files;
        copies = shown_copies ledger files;
        ledger = inr (stands.0, pieces, stands.1, stands.2, refl);
      },
      mended_ends (text_of pieces) (files 0),
      subst (HasText (text_of pieces)) (sym (adopted.ledger pieces kept)) (mended_ends (text_of pieces) (left 0)),
    )
