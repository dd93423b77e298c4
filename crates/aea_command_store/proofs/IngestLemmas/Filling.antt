-- How full an archive is after objects of a run, and that a stream has one way to be cut into frames that are stored and
-- one that is not.
use Rattle.std.proofs.Common.{◌≡◌, ◌≢◌, ℕ, ◌+◌, ◌≤◌, List, [], ◌∷◌, ◌++◌, length, map, take, drop, All, refl, sym, ◌∙◌, ap, subst, arith, append_assoc}
use Rattle.std.specs.List.{sum_by}
use Rattle.std.proofs.lemmas.List.{append-nil, take_at, drop_at}
use Rattle.std.proofs.lemmas.List.Concat.{flat_map-append}
use Rattle.std.proofs.lemmas.List.Elements.{All-nil, All-cons, All-head, All-tail}
use Rattle.aea_lattice.specs.declared.shape.Shape.{Shape}
use Rattle.aea_catalog.specs.Names.{IsName}
use Rattle.aea_records.specs.Format.{Record, Stored, stored_in, stored_of, nodes_of, nodes_for, limit_when, is_raise}
use Rattle.aea_records.specs.Grammar.{MayFollow, IsNext}
use Rattle.aea_records.proofs.OneMore.{nodes_of-push, raised_stays}
use Rattle.aea_archive.specs.Next.{NewObject}
use Rattle.aea_append.specs.Frames.{frame_head, frame_of}
use Rattle.aea_command_store.specs.Ingest.{Filled, filled_by, filled_more, filled_all, MayBeTaken, MayAllBeTaken, IsOfObject, AreOfObjects, frames_of}
use Rattle.aea_command_store.proofs.IngestLemmas.Parsing.{BeginsWithFrame, begins_with_frame}

-- ---- how full it is

map_more : (xs ys : List Stored) → map (λ (o : Stored). o.name) (xs ++ ys) ≡ map (λ (o : Stored). o.name) xs ++ map (λ (o : Stored). o.name) ys
map_more [] ys = refl
map_more (x ∷ xs) ys = ap (λ (l : List (List ℕ)). x.name ∷ l) (map_more xs ys)

same_filled : (f g : Filled) → f.names ≡ g.names → f.nodes ≡ g.nodes → f.limit ≡ g.limit → f ≡ g
same_filled f g names nodes limit = λ i. record { names = names i; nodes = nodes i; limit = limit i }

-- with one more record of an object
filled_next : (shape : Shape) (records : List Record) (o : NewObject) (r : Record) → IsOfObject shape o r → filled_more shape (filled_by records) o ≡ filled_by (records ++ r ∷ [])
filled_next shape records o r is =
    let stored = is.0 in
    let one : stored_of (r ∷ []) ≡ stored ∷ [] = ap (λ (q : Record). stored_of (q ∷ [])) is.1 in
    let more : stored_of (records ++ r ∷ []) ≡ stored_of records ++ stored ∷ [] = flat_map-append stored_in records (r ∷ []) ∙ ap (λ (l : List Stored). stored_of records ++ l) one in
    let names = sym (ap (map (λ (q : Stored). q.name)) more ∙ map_more (stored_of records) (stored ∷ []) ∙ ap (λ (n : List ℕ). map (λ (q : Stored). q.name) (stored_of records) ++ n ∷ []) is.2) in
    let sum : sum_by (λ (q : Stored). q.count) (stored_in r) ≡ stored.count = ap (λ (q : Record). sum_by (λ (s : Stored). s.count) (stored_in q)) is.1 ∙ omega arith in
    let nodes : nodes_of records + nodes_for shape (length o.bytes) ≡ nodes_of (records ++ r ∷ []) = omega (arith, nodes_of-push records r, sum, is.4) in
    same_filled (filled_more shape (filled_by records) o) (filled_by (records ++ r ∷ [])) names nodes (sym (ap limit_when (raised_stays records r (ap is_raise is.1))))

-- with the records of objects
pub filled_is : (shape : Shape) (records : List Record) (objects : List NewObject) (added : List Record) → AreOfObjects shape objects added → filled_all shape (filled_by records) objects ≡ filled_by (records ++ added)
filled_is shape records [] [] are = ap filled_by (sym (append-nil records))
filled_is shape records [] (q ∷ added) none = absurd none
filled_is shape records (x ∷ objects) [] none = absurd none
filled_is shape records (x ∷ objects) (q ∷ added) are =
    ap (λ (f : Filled). filled_all shape f objects) (filled_next shape records x q are.0)
    ∙ filled_is shape (records ++ q ∷ []) objects added are.1
    ∙ ap filled_by (append_assoc records (q ∷ []) added)

-- a fact of all names is one of all objects, and back
pub of_objects : (P : List ℕ → Type 0) (xs : List Stored) → All P (map (λ (o : Stored). o.name) xs) → All (λ o. P o.name) xs
of_objects P [] all = All-nil (λ (o : Stored). P o.name)
of_objects P (x ∷ xs) all = All-cons (λ (o : Stored). P o.name) x xs (All-head P x.name (map (λ (o : Stored). o.name) xs) all) (of_objects P xs (All-tail P x.name (map (λ (o : Stored). o.name) xs) all))

pub of_names : (P : List ℕ → Type 0) (xs : List Stored) → All (λ o. P o.name) xs → All P (map (λ (o : Stored). o.name) xs)
of_names P [] all = All-nil P
of_names P (x ∷ xs) all = All-cons P x.name (map (λ (o : Stored). o.name) xs) (All-head (λ (o : Stored). P o.name) x xs all) (of_names P xs (All-tail (λ (o : Stored). P o.name) x xs all))

pub names_long : (xs : List Stored) → length (map (λ (o : Stored). o.name) xs) ≡ length xs
names_long [] = refl
names_long (x ∷ xs) = omega (arith, names_long xs)

-- ---- what was stored could be

taken_one : (shape : Shape) (records : List Record) (o : NewObject) (r : Record) → IsOfObject shape o r → IsNext shape records r → MayBeTaken shape (filled_by records) o
taken_one shape records o r is next =
    let stored = is.0 in
    let may = (subst (IsNext shape records) is.1 next).stored in
    record {
      name = record {
        named = subst IsName is.2 may.name;
        new = subst (λ (n : List ℕ). All (λ m. m ≢ n) (map (λ (q : Stored). q.name) (stored_of records))) is.2 (of_names (λ m. m ≢ stored.name) (stored_of records) may.new);
        few = λ most. (let few = may.few in omega (arith, few, most, names_long (stored_of records)));
      };
      fits = (let fits = may.fits in omega (arith, fits, is.4));
      size = (let size = may.size in omega (arith, size, is.3));
    }

-- each of the objects, if their records may come after the others
pub taken_all : (shape : Shape) (records : List Record) (objects : List NewObject) (added : List Record) → AreOfObjects shape objects added → MayFollow shape records added → MayAllBeTaken shape (filled_by records) objects
taken_all shape records [] added are follow = tt
taken_all shape records (x ∷ objects) [] none follow = absurd none
taken_all shape records (x ∷ objects) (q ∷ added) are follow = (
  taken_one shape records x q are.0 follow.0,
  subst (λ (f : Filled). MayAllBeTaken shape f objects) (sym (filled_next shape records x q are.0)) (taken_all shape (records ++ q ∷ []) objects added are.1 follow.1),
)

-- ---- one way to cut a stream

-- lists of two parts, of which the first are as long
cut_same : (a b c d : List ℕ) → length a ≡ length c → a ++ b ≡ c ++ d → (a ≡ c) × (b ≡ d)
cut_same a b c d long is = (
  sym (take_at a b (length a) refl) ∙ ap (take (length a)) is ∙ take_at c d (length a) (sym long),
  sym (drop_at a b (length a) refl) ∙ ap (drop (length a)) is ∙ drop_at c d (length a) (sym long),
)

same_object : (x y : NewObject) → x.name ≡ y.name → x.bytes ≡ y.bytes → x ≡ y
same_object x y name bytes = λ i. record { name = name i; bytes = bytes i }

-- the stream begins with no frame whose object may be stored
abbrev pub HasNoFrame : Shape → Filled → List ℕ → Type 0
HasNoFrame shape f stream = (o : NewObject) (rest : List ℕ) → stream ≡ frame_of o ++ rest → MayBeTaken shape f o → ⊥

module _ (name_least : (name : List ℕ) → IsName name → (1 ≤ length name) × (length name ≤ 255)) where
  begins : (shape : Shape) (f : Filled) (o : NewObject) (rest stream : List ℕ) → MayBeTaken shape f o → stream ≡ frame_of o ++ rest → BeginsWithFrame o rest stream
  begins shape f o rest stream may is =
      let long = name_least o.name may.name.named in
      begins_with_frame o rest stream long.0 long.1 may.size is

  -- two frames that a stream begins with are one
  one_frame : (shape : Shape) (f : Filled) (x y : NewObject) (r s stream : List ℕ) → MayBeTaken shape f x → MayBeTaken shape f y → stream ≡ frame_of x ++ r → stream ≡ frame_of y ++ s → (x ≡ y) × (r ≡ s)
  one_frame shape f x y r s stream may_x may_y is_x is_y =
      let bx = begins shape f x r stream may_x is_x in
      let by = begins shape f y s stream may_y is_y in
      let name : x.name ≡ y.name = sym bx.name ∙ by.name in
      let size : length x.bytes ≡ length y.bytes = sym bx.size ∙ by.size in
      let head : frame_head x.name (length x.bytes) ≡ frame_head y.name (length y.bytes) = ap (λ (n : List ℕ). frame_head n (length x.bytes)) name ∙ ap (frame_head y.name) size in
      let whole : frame_head x.name (length x.bytes) ++ (x.bytes ++ r) ≡ frame_head y.name (length y.bytes) ++ (y.bytes ++ s) =
      sym (append_assoc (frame_head x.name (length x.bytes)) x.bytes r) ∙ sym is_x ∙ is_y ∙ append_assoc (frame_head y.name (length y.bytes)) y.bytes s in
      let behind = (cut_same (frame_head x.name (length x.bytes)) (x.bytes ++ r) (frame_head y.name (length y.bytes)) (y.bytes ++ s) (ap length head) whole).1 in
      let both = cut_same x.bytes r y.bytes s size behind in
      (same_object x y name both.0, both.1)

  pub one_cut : (shape : Shape) (f : Filled) (xs ys : List NewObject) (r s : List ℕ) → MayAllBeTaken shape f xs → MayAllBeTaken shape f ys → HasNoFrame shape (filled_all shape f xs) r → HasNoFrame shape (filled_all shape f ys) s
      → frames_of xs ++ r ≡ frames_of ys ++ s → (xs ≡ ys) × (r ≡ s)
  one_cut shape f [] [] r s tx ty no_r no_s is = (refl, is)
  one_cut shape f [] (y ∷ ys) r s tx ty no_r no_s is = absurd (no_r y (frames_of ys ++ s) (is ∙ append_assoc (frame_of y) (frames_of ys) s) ty.0)
  one_cut shape f (x ∷ xs) [] r s tx ty no_r no_s is = absurd (no_s x (frames_of xs ++ r) (sym is ∙ append_assoc (frame_of x) (frames_of xs) r) tx.0)
  one_cut shape f (x ∷ xs) (y ∷ ys) r s tx ty no_r no_s is =
      let front = one_frame shape f x y (frames_of xs ++ r) (frames_of ys ++ s) (frame_of x ++ (frames_of xs ++ r)) tx.0 ty.0 refl
      (sym (append_assoc (frame_of x) (frames_of xs) r) ∙ is ∙ append_assoc (frame_of y) (frames_of ys) s) in
      let same : filled_more shape f x ≡ filled_more shape f y = ap (filled_more shape f) front.0 in
      let later = subst (λ (g : Filled). MayAllBeTaken shape g ys) (sym same) ty.1 in
      let none = subst (λ (g : Filled). HasNoFrame shape (filled_all shape g ys) s) (sym same) no_s in
      let rest = one_cut shape (filled_more shape f x) xs ys r s tx.1 later no_r none front.1 in
      (ap (λ (o : NewObject). o ∷ xs) front.0 ∙ ap (λ (l : List NewObject). y ∷ l) rest.0, rest.1)
