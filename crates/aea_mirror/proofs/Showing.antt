-- What a mirror shows, from call to call of the disk beneath.
use Rattle.std.proofs.Common.{◌≡◌, ◌≢◌, ◌⊎◌, ⊎_elim, inl, inr, ℕ, zero, suc, ◌+◌, ◌-◌, ◌<◌, ◌≤◌, true, ◌&&◌, List, ◌∷◌, ◌++◌, length, take, drop, get_or, refl, sym, ap, ◌∙◌, subst, arith}
use Rattle.std.specs.Prelude.{nat_lt}
use Rattle.std.specs.Str.{bytes_eq}
use Rattle.std.proofs.lemmas.Bool.{cases_eq, cases_lt, lt-ltb, eq-eqb, ne_eqb}
use Rattle.std.proofs.lemmas.Slice.Eq.{bytes_eq-Decides}
use Rattle.std.proofs.lemmas.List.{length-append, length-drop, get_or_append_left, get_or-append_right, get_or-take, get_or-drop}
use Rattle.aea_disk.specs.Files.{Files, ChangesFile, Torn}
use Rattle.aea_disk.specs.Steps.{torn_front}
use Rattle.aea_records.specs.Format.{open_gate}
use Rattle.aea_copies.specs.Format.{text_of}
use Rattle.aea_copies.specs.Kept.{IsCopyFile, IsGood, mended}
use Rattle.aea_mirror.specs.Shown.{Shows, WritesAreShown, SyncsAreShown}
use Rattle.aea_mirror.proofs.Keeping.{shown_with, shown_sites, shown_copies}

-- the ledger has the text and one more byte
begins : (text ledger : List ℕ) → length text < length ledger → take (length text) ledger ≡ text → (nat_lt (length text) (length ledger) && bytes_eq (take (length text) ledger) text) ≡ true
begins text ledger long same = rw (lt-ltb (length text) (length ledger) long) ((bytes_eq-Decides (take (length text) ledger) text).1 same)

pub mended_closed : (text ledger : List ℕ) → length text < length ledger → take (length text) ledger ≡ text → get_or ledger (length text) 0 ≢ open_gate → mended text ledger ≡ ledger
mended_closed text ledger long same shut =
    rw (begins text ledger long same) (rw (ne_eqb (get_or ledger (length text) 0) open_gate shut) refl)

pub mended_open : (text ledger : List ℕ) → length text < length ledger → take (length text) ledger ≡ text → get_or ledger (length text) 0 ≡ open_gate → mended text ledger ≡ text ++ (0 ∷ drop (length text + 1) ledger)
mended_open text ledger long same gate =
    rw (begins text ledger long same) (rw (eq-eqb (get_or ledger (length text) 0) open_gate gate) refl)

-- a ledger with the gate after the text closed has every other byte as before
length-closed : (text ledger : List ℕ) → length text < length ledger → length (text ++ (0 ∷ drop (length text + 1) ledger)) ≡ length ledger
length-closed text ledger long = omega (arith, length-append text (0 ∷ drop (length text + 1) ledger), length-drop (length text + 1) ledger, long)

closed_other : (text ledger : List ℕ) (k : ℕ) → take (length text) ledger ≡ text → k ≢ length text → get_or (text ++ (0 ∷ drop (length text + 1) ledger)) k 0 ≡ get_or ledger k 0
closed_other text ledger k same other =
    ⊎_elim
    (λ before. get_or_append_left text (0 ∷ drop (length text + 1) ledger) 0 k before ∙ ap (λ (l : List ℕ). get_or l k 0) (sym same) ∙ get_or-take (length text) ledger k 0 before)
    (λ after.
    let past : length text + 1 ≤ k = above after in
    get_or-append_right text (0 ∷ drop (length text + 1) ledger) (length text) k 0 refl after ∙ behind (k - length text) (omega (arith, past)) ∙ ap (λ (n : ℕ). get_or ledger n 0) (omega (arith, past)))
    (cases_lt k (length text))
  where
    above : length text ≤ k → length text + 1 ≤ k
    above after = ⊎_elim (λ less. absurd (other (omega (arith, less, after)))) (λ more. more) (cases_lt k (length text + 1))

    behind : (n : ℕ) → 1 ≤ n → get_or (0 ∷ drop (length text + 1) ledger) n 0 ≡ get_or ledger (length text + n) 0
    behind zero some = absurd (omega (arith, some))
    behind (suc n) some = get_or-drop (length text + 1) ledger n 0 ∙ ap (λ (m : ℕ). get_or ledger m 0) (omega arith)

-- the other files, as they are shown, stay
pub shown_others : (old new c e : Files) → ((f : ℕ) → f ≢ 0 → new f ≡ old f) → Shows old c → Shows new e → (f : ℕ) → f ≢ 0 → e f ≡ c f
shown_others old new c e others one two f other =
    ⊎_elim
    (λ site. two.sites f (some f other) (omega (arith, site)) ∙ others f other ∙ sym (one.sites f (some f other) (omega (arith, site))))
    (λ far. two.copies f far ∙ sym (one.copies f far))
    (cases_lt f 65)
  where
    some : (n : ℕ) → n ≢ 0 → 1 ≤ n
    some zero none = absurd (none refl)
    some (suc n) none = omega arith

-- the files as they are
pub as_is : (files : Files) → Shows files (shown_with (files 0) files)
as_is files = record { sites = shown_sites (files 0) files; copies = shown_copies (files 0) files; ledger = inl refl }

pub as_mended : (files : Files) (f : ℕ) (pieces : List (List ℕ)) → IsCopyFile f → IsGood pieces (files f) → Shows files (shown_with (mended (text_of pieces) (files 0)) files)
as_mended files f pieces is good = record {
  sites = shown_sites (mended (text_of pieces) (files 0)) files;
  copies = shown_copies (mended (text_of pieces) (files 0)) files;
  ledger = inr (f, pieces, is, good, refl);
}

copy_elsewhere : (f : ℕ) → IsCopyFile f → f ≢ 0
copy_elsewhere f is e = ⊎_elim (λ a. omega (arith, a, e)) (λ b. omega (arith, b, e)) is

pub writes_are_shown : WritesAreShown
writes_are_shown at n old new e stands change shows =
    ⊎_elim
    (λ same. plain (subst (Torn at n (old 0)) (sym same) change.here))
    (λ kept.
    let f = kept.0 in
    let pieces = kept.1 in
    let text = text_of pieces in
    let good : IsGood pieces (old f) = subst (IsGood pieces) (change.others f (copy_elsewhere f kept.2)) kept.3 in
    let was = stands f pieces kept.2 good in
    let front : take (length text) (new 0) ≡ text = torn_front at n (old 0) (new 0) (length text) was.2 (omega (arith, was.0)) change.here ∙ was.1 in
    let long : length text < length (new 0) = omega (arith, was.0, change.here.no_shorter) in
    ⊎_elim
    (λ open_.
    let is : e 0 ≡ text ++ (0 ∷ drop (length text + 1) (new 0)) = kept.4 ∙ mended_open text (new 0) long front open_ in
    let size : length (e 0) ≡ length (new 0) = ap length is ∙ length-closed text (new 0) long in
    let others : (k : ℕ) → k ≢ length text → get_or (e 0) k 0 ≡ get_or (new 0) k 0 = λ k other. ap (λ (l : List ℕ). get_or l k 0) is ∙ closed_other text (new 0) k front other in
    ⊎_elim
    (λ within.
    plain (record {
      no_shorter = omega (arith, size, change.here.no_shorter);
      no_longer = omega (arith, size, change.here.no_longer);
      others = λ k below apart. others k (λ same. ⊎_elim (λ before. omega (arith, same, before, within.0)) (λ after. omega (arith, same, after, within.1)) apart) ∙ change.here.others k below apart;
    }))
    (λ outside.
    let gate : get_or (old 0) (length text) 0 ≡ open_gate = sym (change.here.others (length text) was.0 outside) ∙ open_ in
    let shut : mended text (old 0) ≡ text ++ (0 ∷ drop (length text + 1) (old 0)) = mended_open text (old 0) was.0 was.1 gate in
    let first = as_mended old f pieces kept.2 good in (
      shown_with (mended text (old 0)) old,
      first,
      record {
        here = subst (λ (l : List ℕ). Torn at n l (e 0)) (sym shut) (record {
          no_shorter = omega (arith, size, length-closed text (old 0) was.0, change.here.no_shorter);
          no_longer = omega (arith, size, length-closed text (old 0) was.0, change.here.no_longer);
          others = λ k below apart.
              ⊎_elim
              (λ (there : k ≡ length text). ap (λ (l : List ℕ). get_or l k 0) is ∙ ap (λ (m : ℕ). get_or (text ++ (0 ∷ drop (length text + 1) (new 0))) m 0) there ∙ zero_at text (drop (length text + 1) (new 0))
              ∙ sym (zero_at text (drop (length text + 1) (old 0))) ∙ ap (λ (m : ℕ). get_or (text ++ (0 ∷ drop (length text + 1) (old 0))) m 0) (sym there))
              (λ (elsewhere : k ≢ length text). others k elsewhere ∙ change.here.others k (omega (arith, below, length-closed text (old 0) was.0)) apart ∙ sym (closed_other text (old 0) k was.1 elsewhere))
              (cases_eq k (length text));
        });
        others = shown_others old new (shown_with (mended text (old 0)) old) e change.others first shows;
      },
    ))
    (near (length text) was.2))
    (λ shut. plain (subst (Torn at n (old 0)) (sym (kept.4 ∙ mended_closed text (new 0) long front shut)) change.here))
    (cases_eq (get_or (new 0) (length text) 0) open_gate))
    shows.ledger
  where
    plain : Torn at n (old 0) (e 0) → (c : Files) × Shows old c × ChangesFile 0 (Torn at n) c e
    plain torn = (shown_with (old 0) old, as_is old, record { here = torn; others = shown_others old new (shown_with (old 0) old) e change.others (as_is old) shows })

    zero_at : (text rest : List ℕ) → get_or (text ++ (0 ∷ rest)) (length text) 0 ≡ 0
    zero_at text rest =
        let none : length text - length text ≡ 0 = omega arith in
        get_or-append_right text (0 ∷ rest) (length text) (length text) 0 refl (omega arith) ∙ ap (λ (m : ℕ). get_or (0 ∷ rest) m 0) none

    near : (k : ℕ) → k ≤ at → ((at ≤ k) × (k < at + n)) ⊎ ((k < at) ⊎ (at + n ≤ k))
    near k before =
        ⊎_elim
        (λ less. inr (inl less))
        (λ same. ⊎_elim (λ within. inl (same, within)) (λ past. inr (inr past)) (cases_lt k (at + n)))
        (cases_lt k at)

pub syncs_are_shown : SyncsAreShown
syncs_are_shown old now e ledger sites ends shows =
    ⊎_elim
    (λ same. (as_is_as old now e ledger sites shows (same ∙ ledger)))
    (λ kept.
    ⊎_elim
    (λ again. record {
      sites = λ f some few. shows.sites f some few ∙ sites f some few;
      copies = shows.copies;
      ledger = inr (again.0, kept.1, again.1, again.2, kept.4 ∙ ap (mended (text_of kept.1)) ledger);
    })
    (λ whole. as_is_as old now e ledger sites shows (kept.4 ∙ ap (mended (text_of kept.1)) ledger ∙ mended_closed (text_of kept.1) (old 0) whole.0 whole.1 whole.2))
    (ends kept.0 kept.1 kept.2 kept.3))
    shows.ledger
  where
    as_is_as : (old now e : Files) → now 0 ≡ old 0 → ((f : ℕ) → 1 ≤ f → f ≤ 64 → now f ≡ old f) → Shows now e → e 0 ≡ old 0 → Shows old e
    as_is_as old now e ledger sites shows same = record { sites = λ f some few. shows.sites f some few ∙ sites f some few; copies = shows.copies; ledger = inl same }
