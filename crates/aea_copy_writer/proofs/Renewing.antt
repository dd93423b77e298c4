-- What the steps of making a file anew leave of it.
use Rattle.std.proofs.Common.{◌≡◌, ◌≢◌, ◌⊎◌, ⊎_elim, inl, inr, ℕ, ◌<◌, List, [], ◌∷◌, length, take, drop, get_or, sym, ap, ◌∙◌, subst, arith}
use Rattle.std.proofs.lemmas.Bool.{cases_eq}
use Rattle.std.proofs.lemmas.List.{drop_more, get_or-take}
use Rattle.aea_disk.specs.Files.{overwritten, Torn, Holds, MayBeCut}
use Rattle.aea_disk.specs.Steps.{torn_back, holds_torn, get_or-overwritten_at}
use Rattle.aea_copies.specs.Grammar.{IsBegun}
use Rattle.aea_copy_writer.specs.Changes.{KeepsFront}
use Rattle.aea_copy_writer.specs.Anew.{IsClosed, IsNoneOrMade, IsOldOrNone}

-- any step of a file
abbrev pub AnyStep : List ℕ → List ℕ → Type 0
AnyStep old new = Unit {0}

-- a file of fewer than 10 bytes is not begun
pub short_none : (bytes : List ℕ) → length bytes < 10 → IsBegun bytes → ⊥
short_none bytes short begun = omega (arith, short, begun.long)

-- nor is one whose gate is closed
pub shut_none : (bytes : List ℕ) → get_or bytes 0 0 ≢ 1 → IsBegun bytes → ⊥
shut_none bytes shut begun = shut begun.gate

pub cut_old_or_none : (old new : List ℕ) → MayBeCut 0 old new → IsOldOrNone old new
cut_old_or_none old new step = ⊎_elim (λ same. inl same) (λ gone. inr (short_none new (omega (arith, ap length gone)))) step

pub torn_empty_none : (old new : List ℕ) → old ≡ [] → Torn 0 1 old new → IsBegun new → ⊥
torn_empty_none old new none torn = short_none new (omega (arith, torn.no_longer, ap length none))

-- a file of one closed gate, whose gate stays
pub kept_none : (old new : List ℕ) → old ≡ 0 ∷ [] → KeepsFront 1 old new → IsBegun new → ⊥
kept_none old new begun keeps =
    let same : take 1 new ≡ take 1 old = keeps 1 (omega arith) (omega (arith, ap length begun)) in
    let gate : get_or new 0 0 ≡ 0 = sym (get_or-take 1 new 0 0 (omega arith)) ∙ ap (λ (l : List ℕ). get_or l 0 0) (same ∙ ap (take 1) begun) in
    shut_none new (λ is. omega (arith, is, gate))

-- only the first byte is torn
torn_first : (g : ℕ) (rest new : List ℕ) → Torn 0 1 (g ∷ rest) new → new ≡ get_or new 0 0 ∷ rest
torn_first g rest new torn =
    let behind : drop 1 new ≡ rest = torn_back 0 1 (g ∷ rest) new 1 (omega arith) torn in
    let first : new ≡ get_or new 0 0 ∷ drop 1 new = drop_more new 0 0 (omega (arith, torn.no_shorter)) in
    first ∙ ap (λ (l : List ℕ). get_or new 0 0 ∷ l) behind

pub torn_none_or_made : (made old new : List ℕ) → made ≡ 1 ∷ drop 1 made → IsClosed made old → Torn 0 1 old new → IsNoneOrMade made new
torn_none_or_made made old new opened closed torn =
    let whole : new ≡ get_or new 0 0 ∷ drop 1 made = torn_first 0 (drop 1 made) new (subst (λ (l : List ℕ). Torn 0 1 l new) closed torn) in
    ⊎_elim
    (λ (is : get_or new 0 0 ≡ 1). inr (whole ∙ ap (λ (g : ℕ). g ∷ drop 1 made) is ∙ sym opened))
    (λ other. inl (λ begun. other begun.gate))
    (cases_eq (get_or new 0 0) 1)

pub holds_made : (made old new : List ℕ) → made ≡ 1 ∷ drop 1 made → IsClosed made old → Holds 0 (1 ∷ []) old new → new ≡ made
holds_made made old new opened closed holds =
    let torn = holds_torn 0 (1 ∷ []) old new holds in
    let whole : new ≡ get_or new 0 0 ∷ drop 1 made = torn_first 0 (drop 1 made) new (subst (λ (l : List ℕ). Torn 0 1 l new) closed torn) in
    let one : get_or new 0 0 ≡ 1 = ap (λ (l : List ℕ). get_or l 0 0) holds ∙ get_or-overwritten_at old 0 (1 ∷ []) 0 (omega arith) in
    whole ∙ ap (λ (g : ℕ). g ∷ drop 1 made) one ∙ sym opened

pub holds_single : (old new : List ℕ) (b : ℕ) → old ≡ [] → Holds 0 (b ∷ []) old new → new ≡ b ∷ []
holds_single old new b none holds = holds ∙ ap (λ (l : List ℕ). overwritten l 0 (b ∷ [])) none
