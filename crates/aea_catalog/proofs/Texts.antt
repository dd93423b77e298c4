-- What shows that bytes are a text.
use Rattle.std.proofs.Common.{◌≡◌, ℕ, List, Result, Ok, Err, MatchResult, sym}
use Rattle.std.specs.Result.{is_ok}
use Rattle.std.specs.Str.{IsUtf8, is_utf8}
use Rattle.std.proofs.lemmas.Bool.{false_from_ne_true}
use Rattle.std.proofs.lemmas.Str.{IsUtf8-from_is_utf8, is_utf8-from_IsUtf8}

-- bytes that are read as a text exactly where they are UTF-8
pub is_ok-from_utf8 : {A E : Type 0} (bytes : List ℕ) (P : A → Type 0) (Q : E → Type 0) (r : Result A E) → MatchResult r (λ s. P s × IsUtf8 bytes) (λ e. ¬ (IsUtf8 bytes) × Q e) → is_ok r ≡ is_utf8 bytes
is_ok-from_utf8 bytes P Q (Ok s) h = sym (is_utf8-from_IsUtf8 bytes h.1)
is_ok-from_utf8 bytes P Q (Err e) h = sym (false_from_ne_true (is_utf8 bytes) (λ is. h.0 (IsUtf8-from_is_utf8 bytes is)))
