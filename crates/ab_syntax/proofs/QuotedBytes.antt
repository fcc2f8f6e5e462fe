-- Bytes that a quoted text may hold are ASCII.
use Rattle.std.proofs.Common.{◌≡◌, ◌<◌, ℕ, true, List, [], ◌∷◌, All, ◌&&◌, arith}
use Rattle.std.specs.List.{list_all}
use Rattle.std.proofs.lemmas.Grind.{common_steps}
use Rattle.std.proofs.lemmas.List.Elements.{All-nil, All-cons}
use Rattle.ab_expressions.specs.Tokens.{is_text_byte}

below : (b : ℕ) → is_text_byte b ≡ true → b < 128
below b h = grind (arith, common_steps)

pub all_below : (w : List ℕ) → list_all is_text_byte w ≡ true → All (λ b. b < 128) w
all_below [] h = All-nil (λ b. b < 128)
all_below (b ∷ w) h = let both = split h in All-cons (λ c. c < 128) b w (below b (both.0)) (all_below w (both.1))
  where
    split : (is_text_byte b && list_all is_text_byte w) ≡ true → (is_text_byte b ≡ true) × (list_all is_text_byte w ≡ true)
    split e = grind (arith, common_steps)
