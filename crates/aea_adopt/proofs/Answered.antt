-- That each kind of files has one answer follows from what each answer says.
use Rattle.std.proofs.Common.{◌≡◌, ⊎_elim, inl, inr, ℕ, ◌<◌, List, ◌∷◌, ◌++◌, length, get_or, Ok, Err, refl, sym, ap, ◌∙◌, subst, arith}
use Rattle.std.specs.Prelude.{Result}
use Rattle.std.proofs.lemmas.Bool.{cases_order}
use Rattle.std.proofs.lemmas.List.{get_or_append_left, get_or-take}
use Rattle.aea_disk.specs.Files.{Files}
use Rattle.aea_copies.specs.Format.{copied, text_of}
use Rattle.aea_copies.specs.Grammar.{IsBegun}
use Rattle.aea_copies.specs.Kept.{IsCopyFile, IsGood, AreOn, AreKept}
use Rattle.aea_copy_reader.specs.Comparing.{DifferAt}
use Rattle.aea_adopt.specs.Choosing.{AreBad, AreDifferent}
use Rattle.aea_adopt.specs.Adopting.{IsAdopted, IsAnswered}
use Rattle.aea_adopt.specs.declared.answers.Adopted.{Adopted}
use Rattle.aea_adopt.specs.declared.answers.AdoptFault.{AdoptFault}
use Rattle.aea_adopt.specs.declared.answers.AdoptFault.TheVariants.{CopiesBad, CopiesDiffer, DiskFault}
use Rattle.aea_copies.proofs.Judged.{has_one_pieces, copies_are_not_bad, is_bad_at_one_place, copy_begins}

-- a good copy is not bad
not_bad : (files : Files) (x y f : ℕ) (pieces : List (List ℕ)) → AreBad files x y → IsCopyFile f → IsGood pieces (files f) → ⊥
not_bad files x y f pieces bad is good =
    ⊎_elim
    (λ (e : f ≡ 65). copies_are_not_bad (files 65) pieces (length (copied pieces)) x (subst (λ (k : ℕ). IsGood pieces (files k)) e good) bad.one)
    (λ (e : f ≡ 66). copies_are_not_bad (files 66) pieces (length (copied pieces)) y (subst (λ (k : ℕ). IsGood pieces (files k)) e good) bad.two)
    is

-- a good copy is begun
good_begun : (bytes : List ℕ) (pieces : List (List ℕ)) → IsGood pieces bytes → IsBegun bytes
good_begun bytes pieces good = (copy_begins bytes pieces (good.gate ∷ good.after) (omega arith) good.spelling).0

-- so copies are on
pub good_on : (files : Files) (f : ℕ) (pieces : List (List ℕ)) → IsCopyFile f → IsGood pieces (files f) → AreOn files
good_on files f pieces is good =
    ⊎_elim
    (λ (e : f ≡ 65). inl (subst (λ (k : ℕ). IsBegun (files k)) e (good_begun (files f) pieces good)))
    (λ (e : f ≡ 66). inr (subst (λ (k : ℕ). IsBegun (files k)) e (good_begun (files f) pieces good)))
    is

-- of two texts that begin a third neither differs from the other
both_begin : (at : ℕ) (a b m n t : List ℕ) → DifferAt at a b → t ≡ a ++ m → t ≡ b ++ n → ⊥
both_begin at a b m n t differ one two =
    differ.other (sym (get_or_append_left a m 0 at differ.first) ∙ ap (λ (l : List ℕ). get_or l at 0) (sym one ∙ two) ∙ get_or_append_left b n 0 at differ.second)

-- where pieces are kept the texts do not differ
kept_not_different : (files : Files) (at : ℕ) (pieces : List (List ℕ)) → AreKept files pieces → AreDifferent files at → ⊥
kept_not_different files at pieces kept d =
    let one = kept.longest 65 d.pieces (inl refl) d.one in
    let two = kept.longest 66 d.others (inr refl) d.two in
    both_begin at (text_of d.pieces) (text_of d.others) one.0 two.0 (text_of pieces) d.differ one.1 two.1

-- texts differ first at no place after another at which they do
earlier : (at last : ℕ) (a b : List ℕ) → at < last → DifferAt at a b → DifferAt last a b → ⊥
earlier at last a b less one two =
    one.other (sym (get_or-take last a at 0 less) ∙ ap (λ (l : List ℕ). get_or l at 0) two.same ∙ get_or-take last b at 0 less)

-- texts differ first at one place
differ_once : (at last : ℕ) (a b : List ℕ) → DifferAt at a b → DifferAt last a b → at ≡ last
differ_once at last a b one two =
    ⊎_elim (λ same. same) (λ other. ⊎_elim (λ less. absurd (earlier at last a b less one two)) (λ more. absurd (earlier last at a b more two one)) other) (cases_order at last)

-- so do copies
different_once : (files : Files) (at last : ℕ) → AreDifferent files at → AreDifferent files last → at ≡ last
different_once files at last d e =
    let first : e.pieces ≡ d.pieces = (has_one_pieces (files 65) e.pieces d.pieces (length (copied e.pieces)) (length (copied d.pieces)) e.one d.one).0 in
    let second : e.others ≡ d.others = (has_one_pieces (files 66) e.others d.others (length (copied e.others)) (length (copied d.others)) e.two d.two).0 in
    differ_once at last (text_of d.pieces) (text_of d.others) d.differ
    (subst (λ (l : List (List ℕ)). DifferAt last (text_of d.pieces) (text_of l)) second (subst (λ (l : List (List ℕ)). DifferAt last (text_of l) (text_of e.others)) first e.differ))

-- an answer that has its cause is the one answer of the files
pub answers_are_one : (old new : Files) (result : Result Adopted AdoptFault) → IsAdopted old new result → IsAnswered old result
answers_are_one old new (Ok a) is = record {
  off = λ off. inl refl;
  kept = λ pieces kept. inl refl;
  bad = λ x y bad. absurd (⊎_elim (λ off. off.0 bad.on) (λ k. not_bad old x y k.1.file k.0 bad k.1.is k.1.good) is);
  differ = λ at d. absurd (⊎_elim (λ off. off.0 (inl (good_begun (old 65) d.pieces d.one))) (λ k. kept_not_different old at k.0 k.1 d) is);
}
answers_are_one old new (Err (CopiesBad x y)) is = record {
  off = λ off. absurd (off is.0.on);
  kept = λ pieces kept. absurd (not_bad old x y kept.file pieces is.0 kept.is kept.good);
  bad = λ first second bad.
      let one : x ≡ first = is_bad_at_one_place (old 65) x first is.0.one bad.one in
      let two : y ≡ second = is_bad_at_one_place (old 66) y second is.0.two bad.two in
      inl (ap (λ (k : ℕ). Err (CopiesBad k y)) one ∙ ap (λ (k : ℕ). Err (CopiesBad first k)) two);
  differ = λ at d. absurd (not_bad old x y 65 d.pieces is.0 (inl refl) d.one);
}
answers_are_one old new (Err (CopiesDiffer at)) is = record {
  off = λ off. absurd (off (inl (good_begun (old 65) is.0.pieces is.0.one)));
  kept = λ pieces kept. absurd (kept_not_different old at pieces kept is.0);
  bad = λ x y bad. absurd (not_bad old x y 65 is.0.pieces bad (inl refl) is.0.one);
  differ = λ last d. inl (ap (λ (k : ℕ). Err (CopiesDiffer k)) (different_once old at last is.0 d));
}
answers_are_one old new (Err DiskFault) is = record {
  off = λ off. inr refl;
  kept = λ pieces kept. inr refl;
  bad = λ x y bad. inr refl;
  differ = λ at d. inr refl;
}
