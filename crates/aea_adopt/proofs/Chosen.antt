-- What two judgements say together is true of the files.
use Rattle.std.proofs.Common.{◌≡◌, ◌⊎◌, ⊎_elim, inl, inr, ℕ, ◌+◌, ◌≤◌, List, [], ◌++◌, length, None, Some, refl, sym, ap, ◌∙◌, subst, arith}
use Rattle.std.proofs.lemmas.List.{append-nil, length-append, nil_from_length}
use Rattle.aea_disk.specs.Files.{Files}
use Rattle.aea_copies.specs.Format.{copied, text_of}
use Rattle.aea_copies.specs.Grammar.{IsCopy, IsBadCopyAt}
use Rattle.aea_copies.specs.Kept.{IsCopyFile, IsGood, AreKept}
use Rattle.aea_copies.proofs.Judged.{has_one_pieces, copies_are_not_bad}
use Rattle.aea_copy_reader.specs.Judging.{IsGoodCopy}
use Rattle.aea_copy_reader.specs.Comparing.{Begins, IsComparison}
use Rattle.aea_copy_reader.specs.declared.known.Standing.{Standing}
use Rattle.aea_adopt.specs.Choosing.{IsKept, IsChosen}
use Rattle.aea_adopt.specs.declared.choice.Kept.{Kept}
use Rattle.aea_adopt.specs.declared.choice.Choice.TheVariants.{Differ, Keep}

-- a copy that was read to its end is good
pub read_good : (ledger bytes : List ℕ) (s : Standing) (is : IsGoodCopy ledger bytes s) → IsGood is.pieces bytes
read_good ledger bytes s is = subst (IsCopy bytes is.pieces) is.copy.place is.copy

-- both are good, and they differ
pub chosen_differ : (files : Files) (s t : Standing) (at : ℕ) → IsGoodCopy (files 0) (files 65) s → IsGoodCopy (files 0) (files 66) t → IsComparison (files 65) (files 66) (Some at) → IsChosen files (Differ at)
chosen_differ files s t at one two compared = record {
  pieces = one.pieces;
  others = two.pieces;
  one = read_good (files 0) (files 65) s one;
  two = read_good (files 0) (files 66) t two;
  differ = compared one.pieces two.pieces s.place t.place one.copy two.copy;
}

-- the text of a good copy begins with that of the same copy
pub same_begins : (bytes : List ℕ) (pieces others : List (List ℕ)) → IsGood pieces bytes → IsGood others bytes → Begins (text_of others) (text_of pieces)
same_begins bytes pieces others good also =
    let same : others ≡ pieces = (has_one_pieces bytes others pieces (length (copied others)) (length (copied pieces)) also good).0 in
    ([], ap text_of (sym same) ∙ sym (append-nil (text_of others)))

-- pieces are kept where one copy is good and has them, and a text of the other begins theirs
kept_by : (files : Files) (f h : ℕ) (pieces : List (List ℕ)) → IsCopyFile f → ((k : ℕ) → IsCopyFile k → (k ≡ f) ⊎ (k ≡ h)) → IsGood pieces (files f)
    → ((others : List (List ℕ)) → IsGood others (files h) → Begins (text_of others) (text_of pieces)) → AreKept files pieces
kept_by files f h pieces is either good begins = record {
  file = f;
  is = is;
  good = good;
  longest = λ k others copy there.
      ⊎_elim
      (λ (e : k ≡ f). same_begins (files f) pieces others good (subst (λ (n : ℕ). IsGood others (files n)) e there))
      (λ (e : k ≡ h). begins others (subst (λ (n : ℕ). IsGood others (files n)) e there))
      (either k copy);
}

-- a copy is the first or the second
either_first : (k : ℕ) → IsCopyFile k → (k ≡ 65) ⊎ (k ≡ 66)
either_first k is = is

-- a copy is the second or the first
either_second : (k : ℕ) → IsCopyFile k → (k ≡ 66) ⊎ (k ≡ 65)
either_second k is = ⊎_elim (λ (e : k ≡ 65). inr e) (λ (e : k ≡ 66). inl e) is

-- what is known of the copy that has them
kept_known : (files : Files) (k : Kept) (is : IsGoodCopy (files 0) (files k.source) k.standing) → IsCopyFile k.source → AreKept files is.pieces → IsKept files is.pieces k
kept_known files k is copy kept = record {
  kept = kept;
  is = copy;
  good = read_good (files 0) (files k.source) k.standing is;
  place = is.copy.place;
  text = is.text;
  link = is.link;
  in_ledger = is.in_ledger;
}

-- of two texts one of which begins with the other, the one that is not shorter begins with the other
longer_begins : (a b : List ℕ) → length b ≤ length a → Begins a b ⊎ Begins b a → Begins b a
longer_begins a b le compares =
    ⊎_elim
    (λ (on : Begins a b).
    let sum : length b ≡ length a + length on.0 = ap length on.1 ∙ length-append a on.0 in
    let none : on.0 ≡ [] = nil_from_length on.0 (omega (arith, sum, le)) in
    let same : b ≡ a = on.1 ∙ ap (λ (l : List ℕ). a ++ l) none ∙ append-nil a in
    ([], sym same ∙ sym (append-nil b)))
    (λ (on : Begins b a). on)
    compares

-- the length of the text of a copy is that of its one reading
pub text_length : (ledger bytes : List ℕ) (s : Standing) (others : List (List ℕ)) → IsGoodCopy ledger bytes s → IsGood others bytes → length (text_of others) ≡ s.text
text_length ledger bytes s others is also =
    let same : others ≡ is.pieces = (has_one_pieces bytes others is.pieces (length (copied others)) s.place also is.copy).0 in
    ap (λ (l : List (List ℕ)). length (text_of l)) same ∙ sym is.text

-- both are good, one text begins with the other, and the first has no less
pub chosen_first : (files : Files) (k : Kept) (t : Standing) → k.source ≡ 65 → t.text ≤ k.standing.text → IsGoodCopy (files 0) (files 65) k.standing → IsGoodCopy (files 0) (files 66) t
    → IsComparison (files 65) (files 66) None → IsChosen files (Keep k)
chosen_first files k t source le one two compared =
    let is : IsGoodCopy (files 0) (files k.source) k.standing = subst (λ (n : ℕ). IsGoodCopy (files 0) (files n) k.standing) (sym source) one in
    let here : IsGood is.pieces (files 65) = subst (λ (n : ℕ). IsGood is.pieces (files n)) source (read_good (files 0) (files k.source) k.standing is) in (
      is.pieces,
      kept_known files k is (inl source) (kept_by files 65 66 is.pieces (inl refl) either_first here
          (λ others there.
          longer_begins (text_of is.pieces) (text_of others) (omega (arith, text_length (files 0) (files 66) t others two there, is.text, le))
          (compared is.pieces others (length (copied is.pieces)) (length (copied others)) here there))),
    )

-- the same where the second has more text
pub chosen_second : (files : Files) (k : Kept) (s : Standing) → k.source ≡ 66 → s.text ≤ k.standing.text → IsGoodCopy (files 0) (files 65) s → IsGoodCopy (files 0) (files 66) k.standing
    → IsComparison (files 65) (files 66) None → IsChosen files (Keep k)
chosen_second files k s source le one two compared =
    let is : IsGoodCopy (files 0) (files k.source) k.standing = subst (λ (n : ℕ). IsGoodCopy (files 0) (files n) k.standing) (sym source) two in
    let here : IsGood is.pieces (files 66) = subst (λ (n : ℕ). IsGood is.pieces (files n)) source (read_good (files 0) (files k.source) k.standing is) in (
      is.pieces,
      kept_known files k is (inr source) (kept_by files 66 65 is.pieces (inr refl) either_second here
          (λ others there.
          longer_begins (text_of is.pieces) (text_of others) (omega (arith, text_length (files 0) (files 65) s others one there, is.text, le))
          (⊎_elim
          (λ (on : Begins (text_of others) (text_of is.pieces)). inr on)
          (λ (on : Begins (text_of is.pieces) (text_of others)). inl on)
          (compared others is.pieces (length (copied others)) (length (copied is.pieces)) there here)))),
    )

-- the first is good, and the second is bad
pub chosen_alone_first : (files : Files) (k : Kept) (at : ℕ) → k.source ≡ 65 → IsGoodCopy (files 0) (files 65) k.standing → IsBadCopyAt (files 66) at → IsChosen files (Keep k)
chosen_alone_first files k at source one bad =
    let is : IsGoodCopy (files 0) (files k.source) k.standing = subst (λ (n : ℕ). IsGoodCopy (files 0) (files n) k.standing) (sym source) one in
    let here : IsGood is.pieces (files 65) = subst (λ (n : ℕ). IsGood is.pieces (files n)) source (read_good (files 0) (files k.source) k.standing is) in (
      is.pieces,
      kept_known files k is (inl source) (kept_by files 65 66 is.pieces (inl refl) either_first here
          (λ others there. absurd (copies_are_not_bad (files 66) others (length (copied others)) at there bad))),
    )

-- the same where the second is good
pub chosen_alone_second : (files : Files) (k : Kept) (at : ℕ) → k.source ≡ 66 → IsBadCopyAt (files 65) at → IsGoodCopy (files 0) (files 66) k.standing → IsChosen files (Keep k)
chosen_alone_second files k at source bad two =
    let is : IsGoodCopy (files 0) (files k.source) k.standing = subst (λ (n : ℕ). IsGoodCopy (files 0) (files n) k.standing) (sym source) two in
    let here : IsGood is.pieces (files 66) = subst (λ (n : ℕ). IsGood is.pieces (files n)) source (read_good (files 0) (files k.source) k.standing is) in (
      is.pieces,
      kept_known files k is (inr source) (kept_by files 66 65 is.pieces (inr refl) either_second here
          (λ others there. absurd (copies_are_not_bad (files 65) others (length (copied others)) at there bad))),
    )
