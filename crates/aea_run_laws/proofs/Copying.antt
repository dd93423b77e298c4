-- Two whole copies of a ledger: its pieces, that they are adopted as they are, and what a run meets over a disk with them.
use Rattle.std.proofs.Common.{◌≡◌, ◌≢◌, inl, inr, ⊎_elim, ℕ, ◌+◌, ◌*◌, ◌<◌, ◌≤◌, ◌^◌, true, cond, List, [], ◌∷◌, ◌++◌, length, take, get_or, Ok, refl, sym, ◌∙◌, ap, subst, arith, length-append}
use Rattle.std.specs.Prelude.{All, nat_le, nat_lt}
use Rattle.std.specs.Int.{w16, w32, w64, to_be_bytes}
use Rattle.std.specs.List.{flat_map, list_all}
use Rattle.std.proofs.lemmas.Bool.{cases_lt, cases_eq, and_parts, ltb-true}
use Rattle.std.proofs.lemmas.Bool.Decides.{nat_tests}
use Rattle.std.proofs.lemmas.List.{append-nil, take_at}
use Rattle.std.proofs.lemmas.List.Elements.{All-cons, All-nil, All-append, All-head, All-tail}
use Rattle.aea_lattice.specs.Data.{IsBytes}
use Rattle.aea_disk.specs.Files.{Files}
use Rattle.aea_disk.specs.Spaces.{Memory, files_of, room_of, sure_state}
use Rattle.aea_disk.specs.Ends.{EndsAt, copied_end}
use Rattle.aea_records.specs.Format.{Record, Object, Stored, header, front, rest_of, body, entry, spelled}
use Rattle.aea_records.specs.TableLaws.{AreBytes}
use Rattle.aea_ledger.specs.Stops.{HasLedger}
use Rattle.aea_ledger.specs.Taking.{LedgerEnds}
use Rattle.aea_ledger.proofs.Ends.{ledger_ends}
use Rattle.aea_copies.specs.Format.{copied, first_link, last_link, text_of, whole_copy}
use Rattle.aea_copies.specs.Kept.{IsCopyFile, IsGood, AreKept, HasText, LeavesAdopted, mended}
use Rattle.aea_copies.proofs.Judged.{has_one_pieces, copies_are_not_bad}
use Rattle.aea_adopt.specs.Adopting.{RevealsKept}
use Rattle.aea_adopt.specs.Adopts.{Adopts}
use Rattle.aea_adopt.specs.declared.answers.Adopted.{Adopted}
use Rattle.aea_adopt.proofs.Left.{adopted_leaves}
use Rattle.aea_adopt.proofs.Mended.{mended_shut}
use Rattle.aea_mirror.specs.Ending.{ends_once}
use Rattle.aea_mirror.specs.Mirrored.{HasCopyRoom, mirror_state, fresh, outer}
use Rattle.aea_mirror.specs.Starting.{ArePiecesOf}
use Rattle.aea_mirror.specs.States.{outer_near, outer_far}
use Rattle.aea_mirror.proofs.Records.{length-copied, text_holds}
use Rattle.aea_mirror.proofs.Wholes.{ledger_pieces, pieces_are, text_begins, text_shut, whole_copies_are_good}
use Rattle.aea_run_laws.specs.Copies.{HasCopies, IsAdoptedAsItIs}
use Rattle.aea_run_laws.specs.Meeting.{HasFiles}
use Rattle.aea_run_laws.proofs.Digests.{high_small}
use Rattle.aea_run_laws.proofs.OneBlock.{shape}
use Rattle.aea_run_laws.proofs.Over.{IsGround}

-- ---- the text of the ledger is of bytes

abbrev IsSmall : ℕ → Type 0
IsSmall b = b < 2 ^ 8

small_list : (bytes : List ℕ) → list_all (λ b. nat_lt b 256) bytes ≡ true → AreBytes bytes
small_list [] e = All-nil IsSmall
small_list (b ∷ bytes) e =
    let parts = and_parts (nat_lt b 256) (list_all (λ (b : ℕ). nat_lt b 256) bytes) e in
    All-cons IsSmall b bytes (ltb-true b 256 parts.0) (small_list bytes parts.1)

all_small : (ds : List (List ℕ)) → All (IsBytes 32) ds → AreBytes (flat_map (λ d. d) ds)
all_small [] all = All-nil IsSmall
all_small (d ∷ ds) all = All-append IsSmall d (flat_map (λ d. d) ds) (All-head (IsBytes 32) d ds all).each (all_small ds (All-tail (IsBytes 32) d ds all))

pub text_small : (r : Stored) → AreBytes r.name → IsBytes 32 r.digest → All (IsBytes 32) r.digests → AreBytes (spelled shape (Object r ∷ []))
text_small r name digest digests =
    All-append IsSmall (header shape) (entry (Object r) ++ []) header_small (All-append IsSmall (entry (Object r)) [] entry_small (All-nil IsSmall))
  where
    header_small : AreBytes (header shape)
    header_small = small_list (header shape) refl

    front_small : AreBytes (front r)
    front_small =
        All-append IsSmall (to_be_bytes w16 (length r.name) ++ r.name ++ to_be_bytes w64 r.size ++ r.digest ++ to_be_bytes w32 r.first) (to_be_bytes w32 r.count)
        (All-append IsSmall (to_be_bytes w16 (length r.name) ++ r.name ++ to_be_bytes w64 r.size ++ r.digest) (to_be_bytes w32 r.first)
        (All-append IsSmall (to_be_bytes w16 (length r.name) ++ r.name ++ to_be_bytes w64 r.size) r.digest
        (All-append IsSmall (to_be_bytes w16 (length r.name) ++ r.name) (to_be_bytes w64 r.size)
        (All-append IsSmall (to_be_bytes w16 (length r.name)) r.name (high_small 2 (length r.name)) name) (high_small 8 r.size)) digest.each) (high_small 4 r.first)) (high_small 4 r.count)

    rest_small : AreBytes (rest_of (Object r))
    rest_small = All-append IsSmall (front r) (flat_map (λ d. d) r.digests) front_small (all_small r.digests digests)

    entry_small : AreBytes (entry (Object r))
    entry_small =
        All-cons IsSmall 1 (body (Object r)) (omega arith)
        (All-cons IsSmall 1 (to_be_bytes w32 (length (rest_of (Object r))) ++ rest_of (Object r)) (omega arith)
        (All-append IsSmall (to_be_bytes w32 (length (rest_of (Object r)))) (rest_of (Object r)) (high_small 4 (length (rest_of (Object r)))) rest_small))

-- ---- files with these copies

pub with_copies : List ℕ → Files → Files
with_copies copy c f = cond (nat_le f 64) (c f) (cond (nat_le f 66) copy [])

pub copies_near : (copy : List ℕ) (c : Files) (f : ℕ) → f ≤ 64 → with_copies copy c f ≡ c f
unfolding with_copies
copies_near copy c f near = grind (arith, nat_tests)

pub copies_there : (copy : List ℕ) (c : Files) (f : ℕ) → IsCopyFile f → with_copies copy c f ≡ copy
unfolding with_copies
copies_there copy c f is = ⊎_elim (λ (e : f ≡ 65). ap (λ (k : ℕ). cond (nat_le k 64) (c k) (cond (nat_le k 66) copy [])) e) (λ (e : f ≡ 66). ap (λ (k : ℕ). cond (nat_le k 64) (c k) (cond (nat_le k 66) copy [])) e) is

pub copies_far : (copy : List ℕ) (c : Files) (f : ℕ) → 66 < f → with_copies copy c f ≡ []
unfolding with_copies
copies_far copy c f far = grind (arith, nat_tests)

-- ---- the pieces of a ledger

module _ (base : List ℕ) (all : List Record) (ledger : HasLedger shape all base) (bytes : AreBytes (spelled shape all)) where
  abbrev pub end : ℕ
  end = length (spelled shape all)

  abbrev pub ends : LedgerEnds base all end
  ends = ledger_ends base shape all end ledger

  text_there : take end base ≡ spelled shape all
  text_there = ap (take end) ledger.spelling ∙ take_at (spelled shape all) (ledger.gate ∷ ledger.after) end refl

  abbrev pub pieces : List (List ℕ)
  pieces = (ledger_pieces base end ends.ends).0

  pub are_pieces : ArePiecesOf base pieces
  are_pieces = pieces_are base end pieces ends.ends (ledger_pieces base end ends.ends).1 (subst AreBytes (sym text_there) bytes)

  pub is_good : IsGood pieces (whole_copy pieces)
  is_good = whole_copies_are_good pieces are_pieces.can

  text_is : text_of pieces ≡ spelled shape all
  text_is =
      let can = (ledger_pieces base end ends.ends).1 in
      let place : end ≡ length (text_of pieces) = (let p = can.has.place in omega (arith, p)) in
      sym can.has.there ∙ ap (λ (k : ℕ). take k base) (sym place) ∙ text_there

  pieces_many : length pieces ≡ length all + 1
  pieces_many = (ledger_pieces base end ends.ends).2 ∙ ap (λ (k : ℕ). k + 1) ends.count

  -- how long a whole copy is
  pub copy_long : length (whole_copy pieces) ≡ copied_end (length all + 1) end + 1
  copy_long =
      let both = length-append (copied pieces) (0 ∷ []) in
      let size = length-copied pieces in
      let many = pieces_many in
      let text : length (text_of pieces) ≡ end = ap length text_is in
      omega (arith, both, size, many, text)

  -- the ledger has them, in whichever files it is the first
  module _ (y : Files) (same : y 0 ≡ base) (copies : (f : ℕ) → IsCopyFile f → y f ≡ whole_copy pieces) where
    good_there : (f : ℕ) → IsCopyFile f → IsGood pieces (y f)
    good_there f is = subst (IsGood pieces) (sym (copies f is)) is_good

    pub one_only : (f : ℕ) (others : List (List ℕ)) → IsCopyFile f → IsGood others (y f) → others ≡ pieces
    one_only f others is good = (has_one_pieces (y f) others pieces (length (copied others)) (length (copied pieces)) good (good_there f is)).0

    pub kept : AreKept y pieces
    kept = record {
      file = 65;
      is = inl refl;
      good = good_there 65 (inl refl);
      longest = λ f others is good. ([], ap text_of (sym (one_only f others is good)) ∙ sym (append-nil (text_of others)));
    }

    pub kept_only : (others : List (List ℕ)) → AreKept y others → others ≡ pieces
    kept_only others other = one_only other.file others other.is other.good

    has_text : HasText (text_of pieces) (y 0)
    has_text = subst (HasText (text_of pieces)) (sym same) are_pieces.text

    pub stays : mended (text_of pieces) (y 0) ≡ y 0
    stays =
        let begins = text_begins (text_of pieces) (y 0) has_text in
        mended_shut (text_of pieces) (y 0) (begins.long, begins.front, text_shut (text_of pieces) (y 0) has_text)

    leaves : LeavesAdopted y y
    leaves = record {
      off = λ off f. refl;
      ledger = λ others other. sym (subst (λ (ps : List (List ℕ)). mended (text_of ps) (y 0) ≡ y 0) (sym (kept_only others other)) stays);
      copies = λ others other f is. subst (λ (ps : List (List ℕ)). IsGood ps (y f)) (sym (kept_only others other)) (good_there f is);
      others = λ f from to. refl;
    }

    adopted : Adopted
    adopted = record { on = true; end = length (text_of pieces); gates = length (copied pieces) ∷ length (copied pieces) ∷ []; links = last_link first_link pieces ∷ last_link first_link pieces ∷ [] }

    said : RevealsKept pieces adopted
    unfolding adopted
    said = record { on = refl; end = refl; gates = refl; links = refl }

    pub adopted_as_it_is : IsAdoptedAsItIs pieces y
    unfolding adopted
    adopted_as_it_is =
        let can = are_pieces.can in
        let within = can.within in
        let size = length-copied pieces in
        let many = pieces_many in
        record {
          kept = kept;
          leaves = leaves;
          adopted = adopted;
          answers = inr (pieces, kept, said, leaves);
          revealed = inr (pieces, has_text, good_there, said);
          near = record { end = omega (arith, within, size); first = omega (arith, within); second = omega (arith, within); text = λ on. (let text : length (text_of pieces) ≡ end = ap length text_is in let head = length-append (header shape) (flat_map entry all) in omega (arith, text, head)) };
          sound = record { alive = refl; text = λ on. (text_holds pieces (y 0) can.some can.valid can.within (text_begins (text_of pieces) (y 0) has_text)).0 };
        }

  -- ---- a disk in memory with them

  module _ (x : Files) (first : x 0 ≡ base) (bare : (f : ℕ) → 64 < f → x f ≡ []) (e : Files) (has_copies : HasCopies pieces x e) (room : ℕ) (large : length (whole_copy pieces) ≤ room) (m : Memory) (has : HasFiles e room m) where
    abbrev y : Files
    y = files_of m.spaces

    same : y 0 ≡ base
    same = has.files 0 ∙ has_copies.others 0 (omega arith) ∙ first

    copies : (f : ℕ) → IsCopyFile f → y f ≡ whole_copy pieces
    copies f is = has.files f ∙ has_copies.whole f is

    seen : (files : Files) → LeavesAdopted y files → outer files ≡ x
    seen files left = λ i f. (at f) i
      where
        near_is : (f : ℕ) → f ≤ 64 → files f ≡ x f
        near_is f near = ⊎_elim
            (λ (here : f ≡ 0). subst (λ (k : ℕ). files k ≡ x k) (sym here) (left.ledger pieces (kept y same copies) ∙ stays y same copies ∙ has.files 0 ∙ has_copies.others 0 (omega arith)))
            (λ (other : f ≢ 0). left.others f (omega (arith, other)) near ∙ has.files f ∙ has_copies.others f near)
            (cases_eq f 0)

        at : (f : ℕ) → outer files f ≡ x f
        at f = ⊎_elim
            (λ (far : 64 < f). outer_far files f far ∙ sym (bare f far))
            (λ (near : f ≤ 64). outer_near files f near ∙ near_is f near)
            (cases_lt 64 f)

    -- the space for copies of so many records, on the disk that the adopting leaves
    copy_room : (mid : Memory) (a : Adopted) → Adopts (Unit {0}) (sure_state m) (sure_state mid) (Ok a) → (records last : ℕ) → copied_end (records + 1) last + 1 ≤ room → HasCopyRoom (sure_state mid) records last
    copy_room mid a adopts records last few = record {
      first = adopts.writes.time.room 65 (copied_end (records + 1) last + 1) (let is = has.rooms 65 (omega arith) in omega (arith, is, few));
      second = adopts.writes.time.room 66 (copied_end (records + 1) last + 1) (let is = has.rooms 66 (omega arith) in omega (arith, is, few));
    }

    -- where the records end that the Mirror shows
    ends_then : (files : Files) → outer files ≡ x → (last : ℕ) × (e : EndsAt (outer files 0) last) × ((e.records ≡ length all) × (last ≡ end))
    ends_then files same = subst (λ (z : Files). (last : ℕ) × (e : EndsAt (z 0) last) × ((e.records ≡ length all) × (last ≡ end))) (sym same) (subst (λ (bytes : List ℕ). (last : ℕ) × (e : EndsAt bytes last) × ((e.records ≡ length all) × (last ≡ end))) (sym first) (end, ends.ends, (ends.count, refl)))

    pub over_copies : IsGround x room (9 + 37 * (length all + 2)) m
    over_copies = record {
      good = λ first second bad. copies_are_not_bad (y 65) pieces (length (copied pieces)) first (good_there y same copies 65 (inl refl)) bad.one;
      alike = λ at differ.
          differ.differ.other (ap (λ (ps : List (List ℕ)). get_or (text_of ps) at 0) (one_only y same copies 65 differ.pieces (inl refl) differ.one ∙ sym (one_only y same copies 66 differ.others (inr refl) differ.two)));
      seen = seen;
      adopting = record {
        some = (0, 0, omega arith);
        sync = λ bytes. tt;
        ledger = λ others other.
            let is = has.rooms 0 (omega arith) in
            let both = length-append (text_of pieces) (0 ∷ []) in
            let text : length (text_of pieces) ≡ end = ap length text_is in
            let long = copy_long in
            subst (λ (ps : List (List ℕ)). length (text_of ps ++ 0 ∷ []) ≤ room_of m.spaces 0) (sym (kept_only y same copies others other)) (omega (arith, is, both, text, long, large));
        copies = λ others f other copy.
            subst (λ (ps : List (List ℕ)). length (whole_copy ps) ≤ room_of m.spaces f) (sym (kept_only y same copies others other)) (room_at f copy);
      };
      rooms = λ f near. has.rooms f (omega (arith, near));
      roomy = λ mid a name adopts. record {
        some = (0, 0, (omega arith, (tt, omega arith)));
        sync = now mid a adopts;
      };
      adding = λ mid a name adopts last few. record {
        room = (omega arith, (tt, adopts.writes.time.room 0 (last + 1) (let is = has.rooms 0 (omega arith) in omega (arith, is, few))));
        now = now mid a adopts;
        then = λ bytes before one two count.
            let there = ends_then (files_of mid.spaces) (seen_mid mid a adopts) in
            let once = ends_once (outer (files_of mid.spaces) 0) before there.0 one there.1 in
            let records : one.records ≡ length all = once.0 ∙ there.2.0 in
            (tt, tt, inr (last, two, copy_room mid a adopts two.records last (omega (arith, count, records, few))));
      };
    }
      where
        room_at : (f : ℕ) → IsCopyFile f → length (whole_copy pieces) ≤ room_of m.spaces f
        room_at f copy = let is = has.rooms f (⊎_elim (λ (e : f ≡ 65). omega (arith, e)) (λ (e : f ≡ 66). omega (arith, e)) copy) in omega (arith, is, large)

        seen_mid : (mid : Memory) (a : Adopted) → Adopts (Unit {0}) (sure_state m) (sure_state mid) (Ok a) → outer (files_of mid.spaces) ≡ x
        seen_mid mid a adopts = seen (files_of mid.spaces) (adopted_leaves y (files_of mid.spaces) a (adopts.answers tt))

        now : (mid : Memory) (a : Adopted) → Adopts (Unit {0}) (sure_state m) (sure_state mid) (Ok a) → (mirror_state (Unit {0}) (sure_state mid) (fresh 0 a)).keeps (outer (files_of mid.spaces) 0)
        now mid a adopts =
            let there = ends_then (files_of mid.spaces) (seen_mid mid a adopts) in
            let records = there.2.0 in
            let last = there.2.1 in
            let long = copy_long in
            (tt, tt, inr (there.0, there.1, copy_room mid a adopts there.1.records there.0 (omega (arith, records, last, long, large))))
