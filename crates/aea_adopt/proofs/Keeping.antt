-- Pieces are kept: what is known of the copies, and what each stage leaves of the files.
use Rattle.std.proofs.Common.{◌≡◌, ◌≢◌, ◌⊎◌, ⊎_elim, inl, inr, ℕ, ◌≤◌, Bool, true, List, [], ◌∷◌, ◌++◌, length, take, refl, sym, ap, ◌∙◌, subst, append-nil, length-append, arith}
use Rattle.std.proofs.lemmas.Bool.{cases_eq}
use Rattle.aea_disk.specs.Files.{Files, ChangesOnly}
use Rattle.aea_disk.specs.State.{State, Follows, KeepsImages, During, IsSynced}
use Rattle.aea_copies.specs.Format.{copied, text_of, whole_copy}
use Rattle.aea_copies.specs.Grammar.{ArePieces, IsBegun, IsCopy}
use Rattle.aea_copies.specs.Kept.{IsCopyFile, IsGood, AreKept, mended}
use Rattle.aea_copies.proofs.Judged.{has_one_pieces, copies_are_not_bad, texts_end_once}
use Rattle.aea_copy_reader.specs.Judging.{IsJudged}
use Rattle.aea_copy_reader.specs.declared.known.Judged.{Judged}
use Rattle.aea_copy_reader.specs.declared.known.Judged.TheVariants.{Good, Bad}
use Rattle.aea_copy_writer.specs.Anew.{CanMake}
use Rattle.aea_copy_writer.specs.Entries.{AreShaped}
use Rattle.aea_copy_writer.proofs.Pieces.{copy_some}
use Rattle.aea_adopt.specs.declared.choice.Kept.{Kept}
use Rattle.aea_adopt.specs.Choosing.{IsKept}
use Rattle.aea_adopt.specs.Mending.{MayBeMended, MayBeRenewed, IsUp}
use Rattle.aea_adopt.specs.Keeping.{MayBeKept}
use Rattle.aea_adopt.proofs.Mended.{mended_starts}

-- pieces with one text are one
pub same_text_pieces : (ps qs : List (List ℕ)) → ArePieces true ps → ArePieces true qs → text_of ps ≡ text_of qs → ps ≡ qs
same_text_pieces ps qs one two same = texts_end_once ps qs 0 0 [] [] one two (λ e. omega (arith, e)) (λ e. omega (arith, e)) (ap (λ (l : List ℕ). l ++ 0 ∷ []) same)

-- lists that begin with one another are one
begin_both : (a b m n : List ℕ) → a ≡ b ++ m → b ≡ a ++ n → a ≡ b
begin_both a b [] n one two = one ∙ append-nil b
begin_both a b (x ∷ m) n one two = absurd (omega (arith, ap length one, ap length two, length-append b (x ∷ m), length-append a n))

-- a list that goes on from another of its length is that
begin_same : (a b m : List ℕ) → a ≡ b ++ m → length a ≡ length b → a ≡ b
begin_same a b [] one long = one ∙ append-nil b
begin_same a b (x ∷ m) one long = absurd (omega (arith, ap length one, long, length-append b (x ∷ m)))

-- only one list of pieces is kept
pub kept_once : (files : Files) (ps qs : List (List ℕ)) → AreKept files ps → AreKept files qs → ps ≡ qs
kept_once files ps qs one two =
    let longer = one.longest two.file qs two.is two.good in
    let shorter = two.longest one.file ps one.is one.good in
    same_text_pieces ps qs one.good.valid two.good.valid (begin_both (text_of ps) (text_of qs) longer.0 shorter.0 longer.1 shorter.1)

-- a whole copy of pieces that a copy has is good
pub whole_good : (pieces : List (List ℕ)) (bytes : List ℕ) → IsGood pieces bytes → IsGood pieces (whole_copy pieces)
whole_good pieces bytes good = record {
  some = good.some;
  valid = good.valid;
  gate = 0;
  closed = λ e. omega (arith, e);
  after = [];
  spelling = refl;
  place = refl;
  within = good.within;
}

-- a copy that was judged to have the text that is kept is good with the pieces that are kept
pub up_good : (files : Files) (file : ℕ) (pieces : List (List ℕ)) (text : ℕ) (j : Judged) → IsCopyFile file → AreKept files pieces → text ≡ length (text_of pieces) → IsJudged files file j → IsUp j text → IsGood pieces (files file)
up_good files file pieces text (Good s) is kept size judged up =
    let good : IsGood judged.pieces (files file) = subst (λ (n : ℕ). IsCopy (files file) judged.pieces n) judged.copy.place judged.copy in
    let longer = kept.longest file judged.pieces is good in
    let same : text_of pieces ≡ text_of judged.pieces = begin_same (text_of pieces) (text_of judged.pieces) longer.0 longer.1 (sym size ∙ sym up ∙ judged.text) in
    subst (λ (l : List (List ℕ)). IsGood l (files file)) (sym (same_text_pieces pieces judged.pieces kept.good.valid judged.copy.valid same)) good
up_good files file pieces text (Bad at) is kept size judged up = absurd up

-- and a copy that is good with them was judged so
pub good_up : (files : Files) (file : ℕ) (pieces : List (List ℕ)) (text : ℕ) (j : Judged) → text ≡ length (text_of pieces) → IsJudged files file j → IsGood pieces (files file) → IsUp j text
good_up files file pieces text (Good s) size judged good =
    let same : judged.pieces ≡ pieces = (has_one_pieces (files file) judged.pieces pieces s.place (length (copied pieces)) judged.copy good).0 in
    judged.text ∙ ap (λ (l : List (List ℕ)). length (text_of l)) same ∙ sym size
good_up files file pieces text (Bad at) size judged good = absurd (copies_are_not_bad (files file) pieces (length (copied pieces)) at good judged)

-- where the first copy was not judged so, the second has the pieces that are kept
pub other_good : (files : Files) (pieces : List (List ℕ)) (k : Kept) (j : Judged) → IsKept files pieces k → IsJudged files 65 j → (IsUp j k.standing.text → ⊥) → IsGood pieces (files 66)
other_good files pieces k j known judged not_up =
    ⊎_elim
    (λ (e : k.source ≡ 65). absurd (not_up (good_up files 65 pieces k.standing.text j known.text judged (subst (λ (f : ℕ). IsGood pieces (files f)) e known.good))))
    (λ (e : k.source ≡ 66). subst (λ (f : ℕ). IsGood pieces (files f)) e known.good)
    known.is

-- it was judged so, or not
pub up_or_not : (j : Judged) (text : ℕ) → IsUp j text ⊎ (IsUp j text → ⊥)
up_or_not (Good s) text = cases_eq s.text text
up_or_not (Bad at) text = inr (λ none. none)

-- pieces of a copy have the shapes that are seen where a copy is made of the ledger
shaped_of : (first : Bool) (ps : List (List ℕ)) → ArePieces first ps → AreShaped first ps
shaped_of first [] are = tt
shaped_of first (p ∷ ps) are = (record { short = are.0.short; kind = are.0.kind }, shaped_of _ ps are.1)

-- of the ledger that is made a copy can be made
pub can_make : (pieces : List (List ℕ)) (text : ℕ) (bytes old ledger : List ℕ) → IsGood pieces bytes → text ≡ length (text_of pieces) → ledger ≡ mended (text_of pieces) old → CanMake pieces text ledger
can_make pieces text bytes old ledger good size made = record {
  has = record {
    shaped = shaped_of true pieces good.valid;
    place = omega (arith, size);
    there = ap (take (length (text_of pieces))) made ∙ mended_starts (text_of pieces) old;
  };
  some = good.some;
  within = good.within;
}

-- no site's file is a copy
not_copy : (f file : ℕ) → f ≤ 64 → IsCopyFile file → f ≢ file
not_copy f file to is e = ⊎_elim (λ (one : file ≡ 65). omega (arith, to, e, one)) (λ (two : file ≡ 66). omega (arith, to, e, two)) is

-- nor is the ledger's
not_ledger : (file : ℕ) → IsCopyFile file → 0 ≢ file
not_ledger file is e = omega (arith, copy_some file is, e)

-- while the ledger is made, the copies are as they were
pub ledger_kept : (pieces : List (List ℕ)) (old new : Files) (file : ℕ) → IsCopyFile file → IsGood pieces (old file) → ChangesOnly 0 old new → MayBeMended (text_of pieces) (old 0) (new 0) → MayBeKept pieces old new
ledger_kept pieces old new file is good changes made = record {
  sites = λ f from to. changes f (λ e. omega (arith, from, e));
  copies = λ f copy. inl (changes f (λ e. omega (arith, copy_some f copy, e)));
  good = (file, is, subst (IsGood pieces) (sym (changes file (λ e. omega (arith, copy_some file is, e)))) good);
  ledger = made;
}

-- what may be left of a copy by one stage may be left by it and another
twice_renewed : (pieces : List (List ℕ)) (a b c : List ℕ) → MayBeRenewed pieces a b → MayBeRenewed pieces b c → MayBeRenewed pieces a c
twice_renewed pieces a b c one two =
    ⊎_elim
    (λ (same : c ≡ b). subst (MayBeRenewed pieces a) (sym same) one)
    (λ (other : (IsBegun c → ⊥) ⊎ (c ≡ whole_copy pieces)). inr other)
    two

-- while a copy is made, the other is good, or this one stays
pub copy_kept : (pieces : List (List ℕ)) (old mid new : Files) (file other text : ℕ) (j : Judged) → IsCopyFile file → IsCopyFile other → other ≢ file → MayBeKept pieces old mid → ChangesOnly file mid new → MayBeRenewed pieces (mid file) (new file)
    → (IsUp j text → new file ≡ mid file) → (IsUp j text → IsGood pieces (mid file)) → ((IsUp j text → ⊥) → IsGood pieces (mid other)) → MayBeKept pieces old new
copy_kept pieces old mid new file other text j is also apart kept changes renewed stays up not_up = record {
  sites = λ f from to. changes f (not_copy f file to is) ∙ kept.sites f from to;
  copies = λ f copy.
      ⊎_elim
      (λ (e : f ≡ file). subst (λ (k : ℕ). MayBeRenewed pieces (old k) (new k)) (sym e) (twice_renewed pieces (old file) (mid file) (new file) (kept.copies file is) renewed))
      (λ (no : f ≢ file). subst (MayBeRenewed pieces (old f)) (sym (changes f no)) (kept.copies f copy))
      (cases_eq f file);
  good =
      ⊎_elim
      (λ (yes : IsUp j text). (file, is, subst (IsGood pieces) (sym (stays yes)) (up yes)))
      (λ (no : IsUp j text → ⊥). (other, also, subst (IsGood pieces) (sym (changes other apart)) (not_up no)))
      (up_or_not j text);
  ledger = subst (MayBeMended (text_of pieces) (old 0)) (sym (changes 0 (not_ledger file is))) kept.ledger;
}

-- so it is with all that a stop leaves while the ledger is made
pub ledger_stage : (pieces : List (List ℕ)) (s t : State) (file : ℕ) → IsCopyFile file → IsGood pieces (s.files file) → IsSynced s → Follows (ChangesOnly 0) s t → During s t (λ c. MayBeMended (text_of pieces) (s.files 0) (c 0)) → During s t (λ c. MayBeKept pieces s.files c)
ledger_stage pieces s t file is good synced follows during m c from to here =
    let was = follows m c from to here in
    ledger_kept pieces s.files c file is good (λ f apart. was.2 f apart ∙ synced was.0 was.1 f) (during m c from to here)

-- and while a copy is made
pub copy_stage : (pieces : List (List ℕ)) (old : Files) (s t : State) (file other text : ℕ) (j : Judged) → IsCopyFile file → IsCopyFile other → other ≢ file → MayBeKept pieces old s.files → IsSynced s → Follows (ChangesOnly file) s t → During s t (λ c. MayBeRenewed pieces (s.files file) (c file))
    → (IsUp j text → KeepsImages s t) → (IsUp j text → IsGood pieces (s.files file)) → ((IsUp j text → ⊥) → IsGood pieces (s.files other)) → During s t (λ c. MayBeKept pieces old c)
copy_stage pieces old s t file other text j is also apart kept synced follows during stays up not_up m c from to here =
    let was = follows m c from to here in
    copy_kept pieces old s.files c file other text j is also apart kept (λ f no. was.2 f no ∙ synced was.0 was.1 f) (during m c from to here)
    (λ yes. synced c (stays yes m c from to here) file) up not_up
