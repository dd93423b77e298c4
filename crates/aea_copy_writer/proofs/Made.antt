-- What a copy that is made anew has, and the moments of making it.
use Rattle.std.proofs.Common.{◌≡◌, ◌⊎◌, ⊎_elim, inl, inr, ℕ, ◌+◌, ◌-◌, ◌≤◌, true, false, List, [], ◌∷◌, ◌++◌, length, drop, refl, sym, ap, ◌∙◌, subst, arith}
use Rattle.std.proofs.lemmas.List.{append_assoc, append-nil, drop_all, length-append}
use Rattle.aea_disk.specs.Files.{Files, ChangesFile, ChangesOnly, overwritten, Holds, Torn}
use Rattle.aea_disk.specs.State.{State, Passes, Follows, During, IsSynced, IsRoomy}
use Rattle.aea_disk.proofs.Moments.{during_both, during_change, during_more, synced_fixed, passes_both}
use Rattle.aea_copies.specs.Format.{chain, copied, copy_mark, first_link, whole_copy}
use Rattle.aea_copies.specs.Grammar.{IsBegun, is_first}
use Rattle.aea_copy_writer.specs.Changes.{KeepsFront, FitsChange}
use Rattle.aea_copy_writer.specs.Entries.{HasPieces, FitsEntries, after_gate}
use Rattle.aea_copy_writer.specs.Anew.{IsOldOrNone, IsOldNoneOrMade, IsClosed, CanMake, FitsCopy}
use Rattle.aea_copy_writer.proofs.Renewing.{kept_none, torn_none_or_made}
use Rattle.aea_copy_writer.proofs.Stretches.{fits_later, fits_less}
use Rattle.aea_copy_writer.proofs.Writing.{overwritten_then}

-- entries begin with an open gate
entries_open : (link : List ℕ) (ps : List (List ℕ)) → is_first ps ≡ false → chain link ps ++ 0 ∷ [] ≡ 1 ∷ drop 1 (chain link ps ++ 0 ∷ [])
entries_open link [] none = absurd (cc)
entries_open link (p ∷ ps) some = refl

pub after_zero : (bytes : List ℕ) → overwritten (0 ∷ []) 1 bytes ≡ 0 ∷ bytes
after_zero bytes = ap (λ (l : List ℕ). 0 ∷ (bytes ++ l)) (drop_all (1 + length bytes) (0 ∷ []) (omega arith)) ∙ ap (λ (l : List ℕ). 0 ∷ l) (append-nil bytes)

-- the front of a copy, and its entries
pub closed_copy : (pieces : List (List ℕ)) (x y z : List ℕ) → is_first pieces ≡ false → x ≡ 0 ∷ [] → Holds 1 (copy_mark ++ 1 ∷ []) x y → Holds 10 (after_gate first_link pieces) y z → IsClosed (whole_copy pieces) z
closed_copy pieces x y z some begun one two =
    let rest = after_gate first_link pieces in
    two ∙ ap (λ (l : List ℕ). overwritten l 10 rest) one ∙ overwritten_then x (copy_mark ++ 1 ∷ []) rest 1 10 refl
    ∙ ap (λ (l : List ℕ). overwritten l 1 ((copy_mark ++ 1 ∷ []) ++ rest)) begun
    ∙ after_zero ((copy_mark ++ 1 ∷ []) ++ rest)
    ∙ ap (λ (l : List ℕ). 0 ∷ l)
    (append_assoc copy_mark (1 ∷ []) rest ∙ ap (λ (l : List ℕ). copy_mark ++ l) (sym (entries_open first_link pieces some)) ∙ sym (append_assoc copy_mark (chain first_link pieces) (0 ∷ [])))

pub length-copied : (pieces : List (List ℕ)) → length (copied pieces) ≡ 9 + length (chain first_link pieces)
length-copied pieces = omega (arith, length-append copy_mark (chain first_link pieces))

pub length-whole : (pieces : List (List ℕ)) → length (whole_copy pieces) ≡ 9 + length (chain first_link pieces) + 1
length-whole pieces = omega (arith, length-append (copied pieces) (0 ∷ []), length-copied pieces)

-- what fits a copy
pub copy_fits_front : (s : State) (file until : ℕ) → ((f i j : ℕ) → i ≤ j → s.room f j → s.room f i) → FitsCopy s file until → FitsChange s file 10
copy_fits_front s file until smaller fit = fits_less s file (length (whole_copy fit.pieces)) 10 smaller (omega (arith, length-whole fit.pieces)) fit.change

pub copy_fits_entries : (s t : State) (file until : ℕ) → ((f i j : ℕ) → i ≤ j → t.room f j → t.room f i) → 1 ≤ file → ChangesOnly file s.files t.files → Passes s t → FitsCopy s file until → FitsEntries t file 9 first_link 0 until
copy_fits_entries s t file until smaller some changes passes fit = record {
  pieces = fit.pieces;
  has = subst (HasPieces true fit.pieces 0 until) (sym (changes 0 (λ (no : 0 ≡ file). omega (arith, no, some)))) fit.has;
  change = fits_later s t file (length (whole_copy fit.pieces)) (9 + length (chain first_link fit.pieces) + 1) smaller (omega (arith, length-whole fit.pieces)) changes passes fit.change;
}

pub copy_fits_later : (s t : State) (file until : ℕ) → ((f i j : ℕ) → i ≤ j → t.room f j → t.room f i) → 1 ≤ file → ChangesOnly file s.files t.files → Passes s t → FitsCopy s file until → FitsCopy t file until
copy_fits_later s t file until smaller some changes passes fit = record {
  pieces = fit.pieces;
  has = subst (HasPieces true fit.pieces 0 until) (sym (changes 0 (λ (no : 0 ≡ file). omega (arith, no, some)))) fit.has;
  change = fits_later s t file (length (whole_copy fit.pieces)) (length (whole_copy fit.pieces)) smaller (omega arith) changes passes fit.change;
}

pub copy_fits_open : (s t : State) (file until : ℕ) → ((f i j : ℕ) → i ≤ j → t.room f j → t.room f i) → ChangesOnly file s.files t.files → Passes s t → FitsCopy s file until → FitsChange t file 1
copy_fits_open s t file until smaller changes passes fit = fits_later s t file (length (whole_copy fit.pieces)) 1 smaller (omega (arith, length-whole fit.pieces)) changes passes fit.change

pub copy_roomy : (s t : State) (file until : ℕ) → ChangesOnly file s.files t.files → Passes s t → FitsCopy s file until → IsRoomy t
copy_roomy s t file until changes passes fit = record {
  some = (file, length (whole_copy fit.pieces), passes.room file (length (whole_copy fit.pieces)) fit.change.room);
  sync = passes.syncs (t.files 0) (fit.change.sync t.files changes);
}

-- while it is cleared, filled and opened
pub while_cleared : (file : ℕ) (made old : List ℕ) (s t : State) → During s t (λ c. IsOldOrNone old (c file)) → During s t (λ c. IsOldNoneOrMade made old (c file))
while_cleared file made old s t during =
    during_more s t (λ c. IsOldOrNone old (c file)) (λ c. IsOldNoneOrMade made old (c file)) (λ c is. ⊎_elim (λ (same : c file ≡ old). inl same) (λ (none : IsBegun (c file) → ⊥). inr (inl none)) is) during

pub while_filled : (file : ℕ) (made old : List ℕ) (s t u : State) → Passes s t → Passes t u → During s t (λ c. IsOldOrNone old (c file)) → t.files file ≡ 0 ∷ [] → IsSynced t → Follows (ChangesFile file (KeepsFront 1)) t u → During s u (λ c. IsOldNoneOrMade made old (c file))
while_filled file made old s t u one two cleared begun synced follows =
    during_both s t u (λ c. IsOldNoneOrMade made old (c file)) one two (while_cleared file made old s t cleared)
    (during_change file (KeepsFront 1) t u (IsOldNoneOrMade made old) follows (synced_fixed t file synced) (λ xs keeps. inr (inl (kept_none (t.files file) xs begun keeps))))

pub while_opened : (file : ℕ) (made old : List ℕ) (s t u v : State) → Passes s t → Passes t u → Passes u v → During s t (λ c. IsOldOrNone old (c file)) → t.files file ≡ 0 ∷ [] → IsSynced t → Follows (ChangesFile file (KeepsFront 1)) t u
    → made ≡ 1 ∷ drop 1 made → IsClosed made (u.files file) → IsSynced u → Follows (ChangesFile file (Torn 0 1)) u v → During s v (λ c. IsOldNoneOrMade made old (c file))
while_opened file made old s t u v one two three cleared begun synced follows opened closed durable opens =
    during_both s u v (λ c. IsOldNoneOrMade made old (c file)) (passes_both s t u one two) three (while_filled file made old s t u one two cleared begun synced follows)
    (during_change file (Torn 0 1) u v (IsOldNoneOrMade made old) opens (synced_fixed u file durable) (λ xs torn. inr (torn_none_or_made made (u.files file) xs opened closed torn)))

pub can_later : (file : ℕ) (pieces : List (List ℕ)) (until : ℕ) (c d : Files) → 1 ≤ file → ChangesOnly file c d → CanMake pieces until (c 0) → CanMake pieces until (d 0)
can_later file pieces until c d some changes can = subst (CanMake pieces until) (sym (changes 0 (λ (no : 0 ≡ file). omega (arith, no, some)))) can

pub copy_fits_one : (s : State) (file until : ℕ) → ((f i j : ℕ) → i ≤ j → s.room f j → s.room f i) → FitsCopy s file until → FitsChange s file 1
copy_fits_one s file until smaller fit = fits_less s file (length (whole_copy fit.pieces)) 1 smaller (omega (arith, length-whole fit.pieces)) fit.change
