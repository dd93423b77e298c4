-- A Mirror whose copies were extended: what it knows then, and while that was done.
use Rattle.std.proofs.Common.{◌≡◌, ◌≢◌, ◌⊎◌, ⊎_elim, inl, inr, ℕ, ◌+◌, ◌<◌, ◌≤◌, false, List, [], ◌∷◌, ◌++◌, length, take, drop, get_or, refl, sym, ap, ◌∙◌, subst, arith}
use Rattle.std.proofs.lemmas.Bool.{cases_eq}
use Rattle.std.proofs.lemmas.List.{length-append, append-nil, take-append-drop, take-take, drop-take}
use Rattle.aea_disk.specs.Ends.{greatest_place}
use Rattle.aea_disk.specs.Files.{Files}
use Rattle.aea_disk.specs.State.{State, During, IsSynced}
use Rattle.aea_records.specs.Format.{open_gate}
use Rattle.aea_copies.specs.Format.{chain, copied, text_of, first_link, last_link}
use Rattle.aea_copies.specs.Grammar.{is_first, ArePieces}
use Rattle.aea_copies.specs.Kept.{IsCopyFile, IsGood, AreKept, mended}
use Rattle.aea_copies.proofs.Judged.{has_one_pieces}
use Rattle.aea_copy_writer.specs.Entries.{HasPieces}
use Rattle.aea_mirror.specs.declared.tail.Tail.{Tail}
use Rattle.aea_mirror.specs.Guarding.{BeginsWith, EndsCopy, AreOnWith}
use Rattle.aea_mirror.specs.Extending.{HasEntries, IsGateOf, Phase, EndsAfter, HasExtended}
use Rattle.aea_mirror.specs.Shown.{AreGood}
use Rattle.aea_mirror.proofs.Extending.{good_closed, good_more, copied_join, text_join, link_join}
use Rattle.aea_mirror.proofs.Records.{shaped_are_pieces}
use Rattle.aea_mirror.proofs.Showing.{mended_closed}
use Rattle.aea_mirror.proofs.Knowing.{IsWholeText, HasTwoTexts}

-- The kept text of these pieces, and the further records of the ledger, as pieces, up to a gate that is not open.
pub record GoesOn (end last : ℕ) (pieces more : List (List ℕ)) (ledger : List ℕ) : Type 0 where
  pub begins : BeginsWith (text_of pieces) ledger
  pub size : end ≡ length (text_of pieces)
  pub some : is_first more ≡ false
  pub has : HasPieces false more end last ledger
  pub there : last < length ledger
  pub shut : get_or ledger last 0 ≢ open_gate

whole_long : (end last : ℕ) (pieces more : List (List ℕ)) (ledger : List ℕ) → GoesOn end last pieces more ledger → length (text_of (pieces ++ more)) ≡ last
whole_long end last pieces more ledger on = omega (arith, ap length (text_join pieces more), length-append (text_of pieces) (text_of more), on.size, on.has.place)

-- the ledger begins with both texts, one after the other
pub whole_begins : (end last : ℕ) (pieces more : List (List ℕ)) (ledger : List ℕ) → GoesOn end last pieces more ledger → BeginsWith (text_of (pieces ++ more)) ledger
whole_begins end last pieces more ledger on =
    let long = whole_long end last pieces more ledger on in
    let there = on.there in
    record {
      long = omega (arith, long, there);
      front =
          ap (λ (n : ℕ). take n ledger) (ap length (text_join pieces more) ∙ length-append (text_of pieces) (text_of more)) ∙ both (length (text_of pieces)) (length (text_of more)) ledger
          ∙ ap (λ (l : List ℕ). l ++ take (length (text_of more)) (drop (length (text_of pieces)) ledger)) on.begins.front
          ∙ ap (λ (n : ℕ). text_of pieces ++ take (length (text_of more)) (drop n ledger)) (sym on.size) ∙ ap (λ (l : List ℕ). text_of pieces ++ l) on.has.there ∙ sym (text_join pieces more);
    }
  where
    both : (a b : ℕ) (l : List ℕ) → take (a + b) l ≡ take a l ++ take b (drop a l)
    both a b l =
        sym (take-append-drop a (take (a + b) l)) ∙ ap (λ (r : List ℕ). r ++ drop a (take (a + b) l)) (take-take a (a + b) l (omega arith)) ∙ ap (λ (r : List ℕ). take a l ++ r) (drop-take a b l)

-- where that text is kept, the ledger is as it is
pub whole_mended : (end last : ℕ) (pieces more : List (List ℕ)) (ledger : List ℕ) → GoesOn end last pieces more ledger → mended (text_of (pieces ++ more)) ledger ≡ ledger
whole_mended end last pieces more ledger on =
    let begins = whole_begins end last pieces more ledger on in
    mended_closed (text_of (pieces ++ more)) ledger begins.long begins.front (λ is. on.shut (ap (λ (n : ℕ). get_or ledger n 0) (sym (whole_long end last pieces more ledger on)) ∙ is))

-- there is a byte at least in each piece
some_text : (more : List (List ℕ)) → is_first more ≡ false → ArePieces false more → 1 ≤ length (text_of more)
some_text [] some are = absurd (cc)
some_text (m ∷ more) some are = let long = are.0.kind.long in omega (arith, long, length-append m (text_of more))

pub whole_text : (end last : ℕ) (pieces more : List (List ℕ)) (ledger : List ℕ) → GoesOn end last pieces more ledger → ArePieces false more → IsWholeText end ledger (pieces ++ more)
whole_text end last pieces more ledger on are =
    (omega (arith, whole_long end last pieces more ledger on, on.has.place, some_text more on.some are), whole_mended end last pieces more ledger on)

-- the entries of both end in time
pub fits_copied : (pieces more : List (List ℕ)) (gate : ℕ) → gate ≡ length (copied pieces) → gate + length (chain (last_link first_link pieces) more) ≤ greatest_place → length (copied (pieces ++ more)) ≤ greatest_place
fits_copied pieces more gate is fits = omega (arith, is, fits, ap length (copied_join pieces more), length-append (copied pieces) (chain (last_link first_link pieces) more))

-- a copy in an image of the phase is good with the kept pieces, or with all
pub two_goods : (pieces more : List (List ℕ)) (old new : List ℕ) → IsGood pieces old → is_first more ≡ false → (ArePieces false more → length (copied (pieces ++ more)) ≤ greatest_place)
    → take (length (copied pieces)) new ≡ take (length (copied pieces)) old → length (copied pieces) < length new
    → (get_or new (length (copied pieces)) 0 ≡ open_gate → HasEntries (length (copied pieces)) (last_link first_link pieces) more new × ArePieces false more)
    → IsGood pieces new ⊎ (IsGood (pieces ++ more) new × ArePieces false more)
two_goods pieces more old new good some fits front long opened =
    ⊎_elim
    (λ (is : get_or new (length (copied pieces)) 0 ≡ open_gate).
    let has = opened is in
    inr (good_more pieces more old new good some has.1 (fits has.1) front long is has.0.entries, has.1))
    (λ (shut : get_or new (length (copied pieces)) 0 ≢ open_gate). inl (good_closed pieces old new good front long shut))
    (cases_eq (get_or new (length (copied pieces)) 0) open_gate)

-- in each image of the phase each copy is good with the kept pieces, or with these and those of the further records
goods_at : (s n : State) (end last : ℕ) (first second : Tail) (are : AreOnWith s end first second) (more : List (List ℕ)) → GoesOn end last are.pieces more (s.files 0) → (ArePieces false more → length (copied (are.pieces ++ more)) ≤ greatest_place)
    → Phase first.gate second.gate s n
    → During s n (λ c. (f g : ℕ) → IsGateOf first.gate second.gate f g → get_or (c f) g 0 ≡ open_gate → HasEntries g first.link more (c f))
    → During s n (λ d. (f g : ℕ) → IsGateOf first.gate second.gate f g → IsCopyFile f → g ≡ length (copied are.pieces) → IsGood are.pieces (d f) ⊎ (IsGood (are.pieces ++ more) (d f) × ArePieces false more))
goods_at s n end last first second are more on fits phase bodies t d from to image f g of is here =
    let fronts = phase.fronts t d from to image f g of in
    two_goods are.pieces more (s.files f) (d f) (are.guarded.good f is) on.some fits
    (ap (λ (n : ℕ). take n (d f)) (sym here) ∙ fronts.0 ∙ ap (λ (n : ℕ). take n (s.files f)) here) (omega (arith, here, fronts.1))
    (λ opened.
    let has = subst (λ (l : List ℕ). HasEntries (length (copied are.pieces)) l more (d f)) are.one.link (subst (λ (n : ℕ). HasEntries n first.link more (d f)) here (bodies t d from to image f g of (ap (λ (n : ℕ). get_or (d f) n 0) here ∙ opened))) in
    (has, shaped_are_pieces more on.has.shaped has.are))

-- a text of either is a beginning of both
begins_both : (pieces more others : List (List ℕ)) → (others ≡ pieces) ⊎ (others ≡ pieces ++ more) → (rest : List ℕ) × (text_of (pieces ++ more) ≡ text_of others ++ rest)
begins_both pieces more others is =
    ⊎_elim
    (λ (old : others ≡ pieces). (text_of more, text_join pieces more ∙ ap (λ (p : List (List ℕ)). text_of p ++ text_of more) (sym old)))
    (λ (new : others ≡ pieces ++ more). ([], ap text_of (sym new) ∙ sym (append-nil (text_of others))))
    is

-- the copies of files are good with these pieces, or with these and more
abbrev AreEither : List (List ℕ) → List (List ℕ) → Files → Type 0
AreEither pieces more files = (f : ℕ) → IsCopyFile f → IsGood pieces (files f) ⊎ (IsGood (pieces ++ more) (files f) × ArePieces false more)

-- then pieces are kept
either_kept : (pieces more : List (List ℕ)) (files : Files) → AreEither pieces more files → (some : List (List ℕ)) × AreKept files some
either_kept pieces more files are = pick (are 65 (inl refl)) (are 66 (inr refl))
  where
    one_of : (f : ℕ) (others : List (List ℕ)) → IsCopyFile f → IsGood others (files f) → (others ≡ pieces) ⊎ (others ≡ pieces ++ more)
    one_of f others is good =
        ⊎_elim
        (λ (old : IsGood pieces (files f)). inl (has_one_pieces (files f) others pieces (length (copied others)) (length (copied pieces)) good old).0)
        (λ (new : IsGood (pieces ++ more) (files f) × ArePieces false more). inr (has_one_pieces (files f) others (pieces ++ more) (length (copied others)) (length (copied (pieces ++ more))) good new.0).0)
        (are f is)

    all_kept : (f : ℕ) → IsCopyFile f → IsGood (pieces ++ more) (files f) → AreKept files (pieces ++ more)
    all_kept f is good = record { file = f; is = is; good = good; longest = λ g others copy there. begins_both pieces more others (one_of g others copy there) }

    pick : IsGood pieces (files 65) ⊎ (IsGood (pieces ++ more) (files 65) × ArePieces false more) → IsGood pieces (files 66) ⊎ (IsGood (pieces ++ more) (files 66) × ArePieces false more) → (some : List (List ℕ)) × AreKept files some
    pick (inr new) two = (pieces ++ more, all_kept 65 (inl refl) new.0)
    pick (inl old) (inr new) = (pieces ++ more, all_kept 66 (inr refl) new.0)
    pick (inl one) (inl two) = (
      pieces,
      record {
        file = 65;
        is = inl refl;
        good = one;
        longest = λ g others copy there.
            let same : others ≡ pieces =
            ⊎_elim
            (λ (a : g ≡ 65). (has_one_pieces (files 65) others pieces (length (copied others)) (length (copied pieces)) (subst (λ (n : ℕ). IsGood others (files n)) a there) one).0)
            (λ (b : g ≡ 66). (has_one_pieces (files 66) others pieces (length (copied others)) (length (copied pieces)) (subst (λ (n : ℕ). IsGood others (files n)) b there) two).0)
            copy in
            ([], ap text_of (sym same) ∙ sym (append-nil (text_of others)));
      },
    )

-- so both are good in each image of the phase
pub goods_stay : (s n : State) (end last : ℕ) (first second : Tail) (are : AreOnWith s end first second) (more : List (List ℕ)) → GoesOn end last are.pieces more (s.files 0) → (ArePieces false more → length (copied (are.pieces ++ more)) ≤ greatest_place)
    → Phase first.gate second.gate s n
    → During s n (λ c. (f g : ℕ) → IsGateOf first.gate second.gate f g → get_or (c f) g 0 ≡ open_gate → HasEntries g first.link more (c f))
    → During s n AreGood
goods_stay s n end last first second are more on fits phase bodies t d from to image = record {
  good = λ f is. ⊎_elim (λ (old : IsGood are.pieces (d f)). ∣ (are.pieces, old) ∣₁) (λ (new : IsGood (are.pieces ++ more) (d f) × ArePieces false more). ∣ (are.pieces ++ more, new.0) ∣₁) (either f is);
  kept = ∣ either_kept are.pieces more d either ∣₁;
}
  where
    either : AreEither are.pieces more d
    either f is =
        ⊎_elim
        (λ (a : f ≡ 65). goods_at s n end last first second are more on fits phase bodies t d from to image f first.gate (inl (a, refl)) is are.one.gate)
        (λ (b : f ≡ 66). goods_at s n end last first second are more on fits phase bodies t d from to image f second.gate (inr (b, refl)) is are.two.gate)
        is

-- in each image of the phase a good copy has the kept pieces or the text of all of the ledger
pub two_texts : (s n : State) (end last : ℕ) (first second : Tail) (are : AreOnWith s end first second) (more : List (List ℕ)) → GoesOn end last are.pieces more (s.files 0) → (ArePieces false more → length (copied (are.pieces ++ more)) ≤ greatest_place)
    → Phase first.gate second.gate s n
    → During s n (λ c. (f g : ℕ) → IsGateOf first.gate second.gate f g → get_or (c f) g 0 ≡ open_gate → HasEntries g first.link more (c f))
    → HasTwoTexts are.pieces end s n
two_texts s n end last first second are more on fits phase bodies t d from to image f others is good =
    ⊎_elim
    (λ (a : f ≡ 65). by_gate first.gate (inl (a, refl)) are.one.gate)
    (λ (b : f ≡ 66). by_gate second.gate (inr (b, refl)) are.two.gate)
    is
  where
    by_gate : (g : ℕ) → IsGateOf first.gate second.gate f g → g ≡ length (copied are.pieces) → (others ≡ are.pieces) ⊎ IsWholeText end (s.files 0) others
    by_gate g of here =
        ⊎_elim
        (λ (old : IsGood are.pieces (d f)). inl (has_one_pieces (d f) others are.pieces (length (copied others)) (length (copied are.pieces)) good old).0)
        (λ (new : IsGood (are.pieces ++ more) (d f) × ArePieces false more).
        let same : others ≡ are.pieces ++ more = (has_one_pieces (d f) others (are.pieces ++ more) (length (copied others)) (length (copied (are.pieces ++ more))) good new.0).0 in
        inr (subst (IsWholeText end (s.files 0)) (sym same) (whole_text end last are.pieces more (s.files 0) on new.1)))
        (goods_at s n end last first second are more on fits phase bodies t d from to image f g of is here)

-- once both are extended, all of it is kept
pub all_on : (s n : State) (end last : ℕ) (first second next_first next_second : Tail) (are : AreOnWith s end first second) (more : List (List ℕ)) → GoesOn end last are.pieces more (s.files 0)
    → ArePieces false more → length (copied (are.pieces ++ more)) ≤ greatest_place → Phase first.gate second.gate s n → IsSynced n → n.files 0 ≡ s.files 0
    → HasExtended first second next_first next_second more n.files
    → AreOnWith n last next_first next_second
all_on s n end last first second next_first next_second are more on valid fits phase synced ledger extended = record {
  pieces = are.pieces ++ more;
  guarded = record {
    good = λ f is. ⊎_elim (λ (a : f ≡ 65). good_at f is first.gate (inl (a, refl)) are.one.gate) (λ (b : f ≡ 66). good_at f is second.gate (inr (b, refl)) are.two.gate) is;
    fixed = λ c here f is. synced c here f;
    reads = begins;
    images = λ c here. subst (BeginsWith (text_of (are.pieces ++ more))) (sym (synced c here 0)) begins;
  };
  text = sym (whole_long end last are.pieces more (s.files 0) on);
  one = ends first next_first are.one extended.one;
  two = ends second next_second are.two extended.two;
}
  where
    begins : BeginsWith (text_of (are.pieces ++ more)) (n.files 0)
    begins = subst (BeginsWith (text_of (are.pieces ++ more))) (sym ledger) (whole_begins end last are.pieces more (s.files 0) on)

    ends : (old new : Tail) → EndsCopy are.pieces old → EndsAfter old new more → EndsCopy (are.pieces ++ more) new
    ends old new was is = record {
      gate = is.gate ∙ ap (λ (l : List ℕ). old.gate + length (chain l more)) was.link ∙ ap (λ (n : ℕ). n + length (chain (last_link first_link are.pieces) more)) was.gate
          ∙ sym (length-append (copied are.pieces) (chain (last_link first_link are.pieces) more)) ∙ ap length (sym (copied_join are.pieces more));
      link = is.link ∙ ap (λ (l : List ℕ). last_link l more) was.link ∙ sym (link_join first_link are.pieces more);
    }

    good_at : (f : ℕ) → IsCopyFile f → (g : ℕ) → IsGateOf first.gate second.gate f g → g ≡ length (copied are.pieces) → IsGood (are.pieces ++ more) (n.files f)
    good_at f is g of here =
        let fronts = phase.reads f g of in
        let has = extended.opened f g of in
        good_more are.pieces more (s.files f) (n.files f) (are.guarded.good f is) on.some valid fits
        (ap (λ (x : ℕ). take x (n.files f)) (sym here) ∙ fronts.0 ∙ ap (λ (n : ℕ). take n (s.files f)) here) (omega (arith, here, fronts.1))
        (ap (λ (x : ℕ). get_or (n.files f) x 0) (sym here) ∙ has.0) (subst (λ (l : List ℕ). HasEntries (length (copied are.pieces)) l more (n.files f)) are.one.link (subst (λ (x : ℕ). HasEntries x first.link more (n.files f)) here has.1)).entries
