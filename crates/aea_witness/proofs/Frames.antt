-- What a stream begins with that begins with the head of a frame, and that it begins with no other.
use Rattle.std.proofs.Common.{◌≡◌, ℕ, ◌+◌, ◌<◌, ◌≤◌, ◌^◌, List, ◌++◌, length, take, drop, refl, sym, ◌∙◌, ap, arith, length-append, append_assoc}
use Rattle.std.specs.Int.{w16, w64, from_be_bytes, to_be_bytes}
use Rattle.std.proofs.lemmas.List.{take_at, drop_at}
use Rattle.std.proofs.lemmas.Nat.{from_be_bytes-to_be_bytes_2, from_be_bytes-to_be_bytes_8}
use Rattle.aea_archive.specs.Next.{NewObject}
use Rattle.aea_append.specs.Frames.{frame_head, frame_of, HasHead, name_length, frame_name, object_length}

-- the head of a frame, in its parts
head_parts : (name : List ℕ) (size : ℕ) (rest : List ℕ) → frame_head name size ++ rest ≡ to_be_bytes w16 (length name) ++ (name ++ (to_be_bytes w64 size ++ rest))
head_parts name size rest =
    append_assoc (to_be_bytes w16 (length name) ++ name) (to_be_bytes w64 size) rest
    ∙ append_assoc (to_be_bytes w16 (length name)) name (to_be_bytes w64 size ++ rest)

-- What the stream then has.
pub record BeginsWithHead (name : List ℕ) (size : ℕ) (rest stream : List ℕ) : Type 0 where
  pub head : HasHead stream
  pub number : name_length stream ≡ length name
  pub name_is : frame_name stream ≡ name
  pub size_is : object_length stream ≡ size
  pub long : length stream ≡ 10 + length name + length rest

pub begins_with_head : (name : List ℕ) (size : ℕ) (rest stream : List ℕ) → 1 ≤ length name → length name ≤ 255 → size < 2 ^ 64 → stream ≡ frame_head name size ++ rest → BeginsWithHead name size rest stream
begins_with_head name size rest stream least most small is =
    let two = to_be_bytes w16 (length name) in
    let eight = to_be_bytes w64 size in
    let two_long : length (to_be_bytes w16 (length name)) ≡ 2 = refl in
    let eight_long : length (to_be_bytes w64 size) ≡ 8 = refl in
    let parts = is ∙ head_parts name size rest in
    let number : from_be_bytes w16 (to_be_bytes w16 (length name)) ≡ length name = from_be_bytes-to_be_bytes_2 (length name) (omega (arith, most)) in
    let named : name_length stream ≡ length name =
    ap (λ (s : List ℕ). from_be_bytes w16 (take 2 s)) parts ∙ ap (from_be_bytes w16) (take_at two (name ++ (eight ++ rest)) 2 two_long) ∙ number in
    let after : drop 2 stream ≡ name ++ (eight ++ rest) = ap (drop 2) parts ∙ drop_at two (name ++ (eight ++ rest)) 2 two_long in
    let name_is : frame_name stream ≡ name =
    ap (λ (k : ℕ). take k (drop 2 stream)) named ∙ ap (take (length name)) after ∙ take_at name (eight ++ rest) (length name) refl in
    let front : 2 + name_length stream ≡ length (two ++ name) = omega (arith, named, length-append two name, two_long) in
    let all : stream ≡ (two ++ name) ++ (eight ++ rest) = parts ∙ sym (append_assoc two name (eight ++ rest)) in
    let object : object_length stream ≡ size =
    ap (λ (k : ℕ). from_be_bytes w64 (take 8 (drop k stream))) front
    ∙ ap (λ (s : List ℕ). from_be_bytes w64 (take 8 (drop (length (two ++ name)) s))) all
    ∙ ap (λ (s : List ℕ). from_be_bytes w64 (take 8 s)) (drop_at (two ++ name) (eight ++ rest) (length (two ++ name)) refl)
    ∙ ap (from_be_bytes w64) (take_at eight rest 8 eight_long)
    ∙ from_be_bytes-to_be_bytes_8 size small in
    let whole : length stream ≡ 10 + length name + length rest =
    ap length parts ∙ omega (arith, length-append two (name ++ (eight ++ rest)), length-append name (eight ++ rest), length-append eight rest, two_long, eight_long) in
    record {
      head = record { name = record { there = omega (arith, whole); least = omega (arith, named, least); most = omega (arith, named, most) }; there = omega (arith, whole, named) };
      number = named;
      name_is = name_is;
      size_is = object;
      long = whole;
    }

-- lists of two parts, of which the first are as long
cut_same : (a b c d : List ℕ) → length a ≡ length c → a ++ b ≡ c ++ d → (a ≡ c) × (b ≡ d)
cut_same a b c d long is = (
  sym (take_at a b (length a) refl) ∙ ap (take (length a)) is ∙ take_at c d (length a) (sym long),
  sym (drop_at a b (length a) refl) ∙ ap (drop (length a)) is ∙ drop_at c d (length a) (sym long),
)

-- two heads that a stream begins with are one
pub record AreOneHead (name other : List ℕ) (size more : ℕ) (r s : List ℕ) : Type 0 where
  pub names : name ≡ other
  pub sizes : size ≡ more
  pub rests : r ≡ s

pub one_head : (name other : List ℕ) (size more : ℕ) (r s : List ℕ) → length name < 2 ^ 16 → length other < 2 ^ 16 → size < 2 ^ 64 → more < 2 ^ 64 → frame_head name size ++ r ≡ frame_head other more ++ s → AreOneHead name other size more r s
one_head name other size more r s few fewer small smaller is =
    let all = sym (head_parts name size r) ∙ is ∙ head_parts other more s in
    let one = cut_same (to_be_bytes w16 (length name)) (name ++ (to_be_bytes w64 size ++ r)) (to_be_bytes w16 (length other)) (other ++ (to_be_bytes w64 more ++ s)) refl all in
    let long : length name ≡ length other = sym (from_be_bytes-to_be_bytes_2 (length name) few) ∙ ap (from_be_bytes w16) one.0 ∙ from_be_bytes-to_be_bytes_2 (length other) fewer in
    let two = cut_same name (to_be_bytes w64 size ++ r) other (to_be_bytes w64 more ++ s) long one.1 in
    let three = cut_same (to_be_bytes w64 size) r (to_be_bytes w64 more) s refl two.1 in
    record {
      names = two.0;
      sizes = sym (from_be_bytes-to_be_bytes_8 size small) ∙ ap (from_be_bytes w64) three.0 ∙ from_be_bytes-to_be_bytes_8 more smaller;
      rests = three.1;
    }

same_object : (x y : NewObject) → x.name ≡ y.name → x.bytes ≡ y.bytes → x ≡ y
same_object x y name bytes = λ i. record { name = name i; bytes = bytes i }

-- two frames that a stream begins with are one
pub one_frame : (x y : NewObject) (r s : List ℕ) → length x.name < 2 ^ 16 → length y.name < 2 ^ 16 → length x.bytes < 2 ^ 64 → length y.bytes < 2 ^ 64 → frame_of x ++ r ≡ frame_of y ++ s → (x ≡ y) × (r ≡ s)
one_frame x y r s few fewer small smaller is =
    let whole = sym (append_assoc (frame_head x.name (length x.bytes)) x.bytes r) ∙ is ∙ append_assoc (frame_head y.name (length y.bytes)) y.bytes s in
    let one = one_head x.name y.name (length x.bytes) (length y.bytes) (x.bytes ++ r) (y.bytes ++ s) few fewer small smaller whole in
    let both = cut_same x.bytes r y.bytes s one.sizes one.rests in
    (same_object x y one.names both.0, both.1)
