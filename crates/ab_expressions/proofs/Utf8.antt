-- Bytes below 128 are UTF-8.
use Rattle.std.proofs.Common.{◌<◌, ◌≤◌, ℕ, List, All, length, get_or, ◌⊎◌, inl, inr, arith}
use Rattle.std.specs.Str.{IsUtf8}
use Rattle.std.proofs.lemmas.List.{get_or_past}
use Rattle.std.proofs.lemmas.Str.{IsUtf8-from_ascii}

at_each : (bs : List ℕ) → All (λ b. b < 128) bs → (i : ℕ) → (i < length bs) ⊎ (length bs ≤ i) → get_or bs i 0 < 128
at_each bs h i (inl inside) = h i 0 inside
at_each bs h i (inr past) = let e = get_or_past bs i 0 past in omega arith

pub plain_is_utf8 : (bs : List ℕ) → All (λ b. b < 128) bs → IsUtf8 bs
plain_is_utf8 bs h = IsUtf8-from_ascii bs (λ i. at_each bs h i (search (arith)))
